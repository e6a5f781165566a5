-- Definite assignment (A), definite unassignment (U) and reachability as three analyses of one kind.
use Rattle.std.specs.Prelude.{Bool, true, false, not, ◌&&◌, ◌||◌, [], ◌∷◌, ◌++◌, if◌then◌else◌}
use Rattle.flow.specs.Acts.{Act, Test, Groups, Skip, Does, Asks, Jumps, Throws, Then, If, Forever, Block, Switch, Try, Finally, Later, Constant, Value, And, Or, Not, Choose, Done, Group}
use Rattle.flow.specs.Flows.{Flow, Part, Condition, nowhere, skip, stop, after, seq, choice, without_default, asked, unknown, constant, both, one_of, negated, chosen, leave, block}

-- What an analysis of one state asks.
pub record Analysis (E : Type 0) : Type 0 where
  -- the state behind an event
  pub behind : E → Bool → Bool
  -- whether an event may take the state away
  pub takes : E → Bool
  -- whether an event is at fault where it finds this state
  pub is_fault : E → Bool → Bool
  -- the state behind `finally`, by that behind what it ends and that behind itself
  pub joined : Bool → Bool → Bool
  -- the state where a part begins that runs later
  pub later : Bool → Bool
  -- whether a constant says where control can't come in each test, and not only in that of a loop
  pub counts : Bool

-- ---- what stands in a text

module _ {E T : Type 0} (same : T → T → Bool) where
  abbrev mutual
    -- whether a jump leaves it for the target
    pub jumps : Act E T → T → Bool
    jumps Skip t = false
    jumps (Does e) t = false
    jumps (Asks c) t = test_jumps c t
    jumps (Jumps s) t = same s t
    jumps Throws t = false
    jumps (Then x y) t = jumps x t || jumps y t
    jumps (If l c x y) t = test_jumps c t || (jumps x t || jumps y t)
    jumps (Forever x) t = jumps x t
    jumps (Block s x) t = not (same s t) && jumps x t
    jumps (Switch d gs) t = groups_jump gs t
    jumps (Try x y) t = jumps x t || jumps y t
    jumps (Finally x y) t = jumps x t || jumps y t
    jumps (Later x) t = false

    pub test_jumps : Test E T → T → Bool
    test_jumps (Constant b) t = false
    test_jumps (Value x) t = jumps x t
    test_jumps (And c d) t = test_jumps c t || test_jumps d t
    test_jumps (Or c d) t = test_jumps c t || test_jumps d t
    test_jumps (Not c) t = test_jumps c t
    test_jumps (Choose c d e) t = test_jumps c t || (test_jumps d t || test_jumps e t)

    pub groups_jump : Groups E T → T → Bool
    groups_jump Done t = false
    groups_jump (Group x more) t = jumps x t || groups_jump more t

module _ {E T : Type 0} (k : Analysis E) where
  abbrev mutual
    -- whether an event that stands in it may take the state away
    pub takes : Act E T → Bool
    takes Skip = false
    takes (Does e) = k.takes e
    takes (Asks c) = test_takes c
    takes (Jumps t) = false
    takes Throws = false
    takes (Then x y) = takes x || takes y
    takes (If l c x y) = test_takes c || (takes x || takes y)
    takes (Forever x) = takes x
    takes (Block t x) = takes x
    takes (Switch d gs) = groups_take gs
    takes (Try x y) = takes x || takes y
    takes (Finally x y) = takes x || takes y
    takes (Later x) = false

    pub test_takes : Test E T → Bool
    test_takes (Constant b) = false
    test_takes (Value x) = takes x
    test_takes (And c d) = test_takes c || test_takes d
    test_takes (Or c d) = test_takes c || test_takes d
    test_takes (Not c) = test_takes c
    test_takes (Choose c d e) = test_takes c || (test_takes d || test_takes e)

    pub groups_take : Groups E T → Bool
    groups_take Done = false
    groups_take (Group x more) = takes x || groups_take more

-- ---- the flow

module _ {E T : Type 0} (same : T → T → Bool) (k : Analysis E) where
  abbrev pub event : E → Part E T
  event e a = record { end = k.behind e a; at = nowhere; faults = if k.is_fault e a then e ∷ [] else [] }

  -- what holds before it, and which it can't take away before a catch or a `finally` begins
  abbrev pub kept : Act E T → Bool → Bool
  kept x a = a && not (takes k x)

  -- at the start of a loop holds what held before it and comes back, where the loop may take it away at all
  abbrev pub start : Act E T → Part E T → Bool → Bool
  start x f a = a && (not (takes k x) || (f a).end)

  abbrev pub repeated : Flow E T → Flow E T
  repeated f = record { end = true; at = f.at; faults = f.faults }

  abbrev pub caught : Flow E T → Flow E T → Flow E T
  caught f g = record { end = f.end && g.end; at = λ t. f.at t && g.at t; faults = f.faults ++ g.faults }

  -- a jump of the first goes through the second
  abbrev pub through : Act E T → Flow E T → Flow E T → Flow E T
  through x f g = record { end = k.joined f.end g.end; at = λ t. (not (jumps same x t) || k.joined (f.at t) g.end) && g.at t; faults = f.faults ++ g.faults }

  abbrev pub apart : Flow E T → Part E T
  apart f a = record { end = a; at = nowhere; faults = f.faults }

  abbrev pub constant_if : Bool → Bool → Condition E T
  constant_if true b = constant b
  constant_if false b = λ a. unknown (skip a)

  abbrev mutual
    pub flow : Act E T → Part E T
    flow Skip a = skip a
    flow (Does e) a = event e a
    flow (Asks c) a = asked (sides c k.counts a)
    flow (Jumps t) a = leave same t a
    flow Throws a = stop a
    flow (Then x y) a = seq (flow x) (flow y) a
    flow (If l c x y) a = choice (sides c (l || k.counts)) (flow x) (flow y) a
    flow (Forever x) a = repeated (flow x (start x (flow x) a))
    flow (Block t x) a = block same t (flow x) a
    flow (Switch true gs) a = groups gs a true
    flow (Switch false gs) a = without_default (groups gs) a
    flow (Try x y) a = caught (flow x a) (flow y (kept x a))
    flow (Finally x y) a = through x (flow x a) (flow y (kept x a))
    flow (Later x) a = apart (flow x (k.later a)) a

    -- the flag tells that a constant counts
    pub sides : Test E T → Bool → Condition E T
    sides (Constant b) l a = constant_if l b a
    sides (Value x) l a = unknown (flow x a)
    sides (And c d) l a = both (sides c k.counts) (sides d k.counts) a
    sides (Or c d) l a = one_of (sides c k.counts) (sides d k.counts) a
    sides (Not c) l a = negated (sides c k.counts a)
    sides (Choose c d e) l a = chosen (sides c k.counts) (sides d k.counts) (sides e k.counts) a

    -- each group begins at the choice or behind the group before
    pub groups : Groups E T → Bool → Bool → Flow E T
    groups Done subject before = skip before
    groups (Group x more) subject before = after (flow x (subject && before)) (groups more subject (flow x (subject && before)).end)

-- ---- the three analyses

-- what a run does to variables, each where it stands, and the places that it reaches
pub data Use (V P : Type 0) : Type 0 where
  Reads : V → P → Use V P
  Assigns : V → P → Use V P
  Reaches : P → Use V P

module _ {V P : Type 0} where
  -- A: the variable is assigned. A read is at fault where it may not be.
  module _ (is : V → Bool) where
    abbrev pub assigned_behind : Use V P → Bool → Bool
    assigned_behind (Reads v p) a = a
    assigned_behind (Assigns v p) a = is v || a
    assigned_behind (Reaches p) a = a

    abbrev pub reads_unassigned : Use V P → Bool → Bool
    reads_unassigned (Reads v p) a = is v && not a
    reads_unassigned (Assigns v p) a = false
    reads_unassigned (Reaches p) a = false

    abbrev pub assignment : Analysis (Use V P)
    assignment = record { behind = assigned_behind; takes = λ e. false; is_fault = reads_unassigned; joined = λ a b. a || b; later = λ a. a; counts = true }

    -- U: the variable is unassigned. An assignment takes it away, and is at fault where it doesn't find it so.
    abbrev pub unassigned_behind : Use V P → Bool → Bool
    unassigned_behind (Reads v p) u = u
    unassigned_behind (Assigns v p) u = not (is v) && u
    unassigned_behind (Reaches p) u = u

    abbrev pub assigns : Use V P → Bool
    assigns (Reads v p) = false
    assigns (Assigns v p) = is v
    assigns (Reaches p) = false

    abbrev pub assigns_again : Use V P → Bool → Bool
    assigns_again e u = assigns e && not u

    abbrev pub unassignment : Analysis (Use V P)
    unassignment = record { behind = unassigned_behind; takes = assigns; is_fault = assigns_again; joined = λ a b. a && b; later = λ u. false; counts = true }

  -- Control can't come. Which places are at fault is told beside it.
  abbrev pub at_place : (P → Bool → Bool) → Use V P → Bool → Bool
  at_place told (Reads v p) a = false
  at_place told (Assigns v p) a = false
  at_place told (Reaches p) a = told p a

  abbrev pub control : (P → Bool → Bool) → Analysis (Use V P)
  control told = record { behind = λ e a. a; takes = λ e. false; is_fault = at_place told; joined = λ a b. a || b; later = λ a. a; counts = false }

  -- the places where control can't come
  abbrev pub unreachable : Analysis (Use V P)
  unreachable = control (λ p a. a)

  -- those of some places where it can
  abbrev pub reachable : (P → Bool) → Analysis (Use V P)
  reachable here = control (λ p a. here p && not a)
