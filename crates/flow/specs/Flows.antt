-- The algebra of flows: what is known of one state, a truth value, behind a text and at its jumps. Where control can't go on
-- the state is true.
use Rattle.std.specs.Prelude.{Bool, true, false, not, ◌&&◌, ◌||◌, List, [], ◌++◌}

-- the state at the end, the state at the jumps to each target, and the events that find it as it mustn't be
pub record Flow (E T : Type 0) : Type 0 where
  pub end : Bool
  pub at : T → Bool
  pub faults : List E

-- the same of a text that gives a truth value: the state where it is true and where it is false
pub record Sides (E T : Type 0) : Type 0 where
  pub yes : Bool
  pub no : Bool
  pub at : T → Bool
  pub faults : List E

abbrev pub Part : Type 0 → Type 0 → Type 0
Part E T = Bool → Flow E T

abbrev pub Condition : Type 0 → Type 0 → Type 0
Condition E T = Bool → Sides E T

abbrev pub nowhere : {T : Type 0} → T → Bool
nowhere t = true

module _ {E T : Type 0} where
  abbrev pub skip : Part E T
  skip a = record { end = a; at = nowhere; faults = [] }

  -- control doesn't go on
  abbrev pub stop : Part E T
  stop a = record { end = true; at = nowhere; faults = [] }

  abbrev pub after : Flow E T → Flow E T → Flow E T
  after f g = record { end = g.end; at = λ t. f.at t && g.at t; faults = f.faults ++ g.faults }

  abbrev pub seq : Part E T → Part E T → Part E T
  seq x y a = after (x a) (y (x a).end)

  -- where two ways meet
  abbrev pub either : Flow E T → Flow E T → Flow E T
  either f g = record { end = f.end && g.end; at = λ t. f.at t && g.at t; faults = f.faults ++ g.faults }

  -- behind a test
  abbrev pub tested : Sides E T → Flow E T → Flow E T
  tested s f = record { end = f.end; at = λ t. s.at t && f.at t; faults = s.faults ++ f.faults }

  abbrev pub choice : Condition E T → Part E T → Part E T → Part E T
  choice c x y a = tested (c a) (either (x (c a).yes) (y (c a).no))

  abbrev pub without_default : (Bool → Bool → Flow E T) → Part E T
  without_default groups a = record { end = (groups a true).end && a; at = (groups a true).at; faults = (groups a true).faults }

  -- ---- tests

  -- whichever way it goes
  abbrev pub asked : Sides E T → Flow E T
  asked s = record { end = s.yes && s.no; at = s.at; faults = s.faults }

  -- of its value nothing is known
  abbrev pub unknown : Flow E T → Sides E T
  unknown f = record { yes = f.end; no = f.end; at = f.at; faults = f.faults }

  abbrev pub constant : Bool → Condition E T
  constant true a = record { yes = a; no = true; at = nowhere; faults = [] }
  constant false a = record { yes = true; no = a; at = nowhere; faults = [] }

  abbrev pub both : Condition E T → Condition E T → Condition E T
  both c d a = record { yes = (d (c a).yes).yes; no = (c a).no && (d (c a).yes).no; at = λ t. (c a).at t && (d (c a).yes).at t; faults = (c a).faults ++ (d (c a).yes).faults }

  abbrev pub one_of : Condition E T → Condition E T → Condition E T
  one_of c d a = record { yes = (c a).yes && (d (c a).no).yes; no = (d (c a).no).no; at = λ t. (c a).at t && (d (c a).no).at t; faults = (c a).faults ++ (d (c a).no).faults }

  abbrev pub negated : Sides E T → Sides E T
  negated s = record { yes = s.no; no = s.yes; at = s.at; faults = s.faults }

  abbrev pub meeting : Sides E T → Sides E T → Sides E T → Sides E T
  meeting s f g = record { yes = f.yes && g.yes; no = f.no && g.no; at = λ t. s.at t && (f.at t && g.at t); faults = s.faults ++ (f.faults ++ g.faults) }

  abbrev pub chosen : Condition E T → Condition E T → Condition E T → Condition E T
  chosen c d e a = meeting (c a) (d (c a).yes) (e (c a).no)

  -- ---- jumps, by when two targets are the same

  module _ (same : T → T → Bool) where
    abbrev pub leave : T → Part E T
    leave t a = record { end = true; at = λ m. not (same t m) || a; faults = [] }

    -- a jump to the target ends it
    abbrev pub block : T → Part E T → Part E T
    block t x a = record { end = (x a).end && (x a).at t; at = λ m. same t m || (x a).at m; faults = (x a).faults }
