-- Worked rows: small texts, just inside of the rules and just outside.
use Rattle.std.proofs.Common.{◌≡◌, ℕ, Bool, true, false, List, [], ◌∷◌, None, refl}
use Rattle.std.specs.List.{flat_map}
use Rattle.java_tree.specs.declared.tokens.Position.{Position}
use Rattle.java_typed.specs.declared.types.ClassRef.TheVariants as class
use Rattle.java_typed.specs.declared.types.TWritten.{TWritten}
use Rattle.java_typed.specs.declared.units.TParam.{TParam}
use Rattle.flow.specs.Acts.{Skip, Then, Jumps, If, Constant, Value, And}
use Rattle.java_flow.specs.Variables.{Variable, Local, Simple, OfThis, JavaAct, JavaTest, Target, Behind, Out, reached}
use Rattle.java_flow.specs.Faults.{can_end}
use Rattle.java_profile.specs.Faults.{Fault, fault, P10, P18, P19}
use Rattle.java_profile_flow.specs.Assignments.{Assigned, params_assigned}
use Rattle.java_profile_flow.specs.Locals.{LocalUse, Text, crossed}
use Rattle.java_profile_flow.specs.Guards.{Jump, Piece, GroupText, nothing, both, closed, guarded, passed, just_assigned, ended, ends_loop, ends_switch, is_when}
use Rattle.java_profile_flow.specs.Classes.{dead_places, ends_dead, guard_faults}

abbrev at : ℕ → Position
at n = record { offset = n; line = 1; column = n }

abbrev x : List ℕ
x = 120 ∷ []

abbrev y : List ℕ
y = 121 ∷ []

-- ---- locals of the groups of a switch

abbrev names : List ℕ → ℕ → LocalUse
names name n = record { name = name; at = at n }

abbrev group : List (List ℕ) → List LocalUse → Text
group declares uses = record { uses = uses; declares = declares; faults = [] }

record Crossed : Type 0 where
  -- `case 1: int x = 0; x; case 2: x;`
  in_a_later_group : crossed (group (x ∷ []) (names x 1 ∷ []) ∷ group [] (names x 5 ∷ []) ∷ []) ≡ fault P10 (at 5) ∷ []
  -- in its own group, and another local
  in_its_own : crossed (group (x ∷ []) (names x 1 ∷ []) ∷ group (y ∷ []) (names y 5 ∷ []) ∷ []) ≡ []
  -- before its declaration the name means another
  before : crossed (group [] (names x 1 ∷ []) ∷ group (x ∷ []) (names x 5 ∷ []) ∷ []) ≡ []

are_crossed : Crossed
are_crossed = record { in_a_later_group = refl; in_its_own = refl; before = refl }

-- ---- parameters in the arguments of `this(..)` and `super(..)`

abbrev assigned : Variable → ℕ → Assigned
assigned v n = record { variable = v; first = at n }

module _ (kind : TWritten) where
  abbrev param : TParam
  param = record { name = x; at = at 0; kind = kind; is_final = false }

  record Params : Type 0 where
    a_parameter : params_assigned (param ∷ []) (assigned (Local x) 5 ∷ []) ≡ fault P19 (at 5) ∷ []
    -- a local of a lambda's block, a field
    another_local : params_assigned (param ∷ []) (assigned (Local y) 5 ∷ []) ≡ []
    a_field : params_assigned (param ∷ []) (assigned (Simple (record { class = class.Project 0; place = 0 })) 5 ∷ []) ≡ []

  params : Params
  params = record { a_parameter = refl; another_local = refl; a_field = refl }

-- ---- synchronized blocks

abbrev none : Variable → Bool
none v = false

-- the field of place 0
abbrev first_field : Variable → Bool
first_field (OfThis m) = true
first_field v = false

abbrev jump : Target → ℕ → Jump
jump t n = record { target = t; at = at n; is_through = false }

abbrev breaks : ℕ → Piece
breaks n = record { jumps = jump Behind n ∷ []; guards = []; assigned = []; chained = []; opens = []; is_break = true }

-- `int x;`, `int y = 1;`
abbrev opens_x : Piece
opens_x = record { jumps = []; guards = []; assigned = []; chained = []; opens = x ∷ []; is_break = false }

abbrev sets : Variable → ℕ → Piece
sets v n = just_assigned (assigned v n ∷ [])

abbrev faults_of : (Variable → Bool) → Piece → List Fault
faults_of fields p = flat_map (guard_faults [] fields) p.guards

-- its block can go on
abbrev block : Piece → Piece
block p = guarded (at 10) Skip p

record Guarded : Type 0 where
  -- `int x; synchronized (l) { x = 1; break; }`
  from_outside : faults_of none (both opens_x (block (both (sets (Local x) 11) (breaks 12)))) ≡ fault P18 (at 11) ∷ []
  -- `synchronized (l) { int x; x = 1; break; }`
  from_inside : faults_of none (block (both opens_x (both (sets (Local x) 11) (breaks 12)))) ≡ []
  -- no jump leaves it
  not_left : faults_of none (both opens_x (block (sets (Local x) 11))) ≡ []
  -- the jump ends within it
  left_inside : faults_of none (both opens_x (block (ended (ends_loop None) (both (sets (Local x) 11) (breaks 12))))) ≡ []
  -- `this.f = 1` of a field that is set, and of another
  a_set_field : faults_of first_field (block (both (sets (OfThis (record { class = class.Project 0; place = 0 })) 11) (breaks 12))) ≡ fault P18 (at 11) ∷ []
  another_field : faults_of none (block (both (sets (OfThis (record { class = class.Project 0; place = 0 })) 11) (breaks 12))) ≡ []
  -- `synchronized (l) { try { break; } finally { } }`, and with the block within the `try`
  through_finally : faults_of none (block (passed true (breaks 12))) ≡ fault P18 (at 12) ∷ []
  within_try : faults_of none (passed true (block (breaks 12))) ≡ []

guarded_rows : Guarded
unfolding dead_places ends_dead can_end
guarded_rows = record {
  from_outside = refl;
  from_inside = refl;
  not_left = refl;
  left_inside = refl;
  a_set_field = refl;
  another_field = refl;
  through_finally = refl;
  within_try = refl;
}

-- ---- where control can't come by constants

abbrev truth : JavaTest
truth = Value Skip

-- `if (c && false) break;`, and `if (c) break;`
record Dead : Type 0 where
  by_a_constant : dead_places (If false (And truth (Constant false)) (Then (reached (at 7)) (Jumps Behind)) Skip) ≡ at 7 ∷ []
  by_no_constant : dead_places (If false (And truth truth) (Then (reached (at 7)) (Jumps Behind)) Skip) ≡ []
  -- behind `if (c) break; if (false) { } else return;`
  end_by_a_constant : ends_dead (Then (If false truth (Jumps Behind) Skip) (If false (Constant false) Skip (Jumps Out))) false ≡ true
  end_by_no_constant : ends_dead (Then (If false truth (Jumps Behind) Skip) (If false truth Skip (Jumps Out))) false ≡ false

dead : Dead
unfolding dead_places ends_dead
dead = record { by_a_constant = refl; by_no_constant = refl; end_by_a_constant = refl; end_by_no_constant = refl }

-- ---- switches as `when`, and as a chain

abbrev ends : Target → Bool
ends = ends_switch None

abbrev case_of : JavaAct → Bool → List Piece → GroupText
case_of does has_default pieces = record { group = record { does = does; has_default = has_default }; pieces = pieces }

record Whens : Type 0 where
  -- `case 1: break; case 2: `
  apart : is_when ends (case_of (Jumps Behind) false (breaks 1 ∷ []) ∷ case_of Skip false [] ∷ []) ≡ true
  -- `case 1: case 2: ..` with a statement between, which falls through
  falls_through : is_when ends (case_of Skip false (nothing ∷ []) ∷ case_of Skip false [] ∷ []) ≡ false
  -- `default: return; case 2: `
  default_first : is_when ends (case_of (Jumps Out) true (nothing ∷ []) ∷ case_of Skip false [] ∷ []) ≡ false
  -- `case 1: { break; }`, whose last statement is a block
  in_a_block : is_when ends (case_of (Jumps Behind) false (closed (breaks 1) ∷ []) ∷ []) ≡ false

whens : Whens
unfolding can_end
whens = record { apart = refl; falls_through = refl; default_first = refl; in_a_block = refl }
