-- The rules on assignments and jumps in a class.
use Rattle.std.specs.Prelude.{ℕ, Bool, true, false, not, ◌&&◌, ◌||◌, List, [], ◌∷◌, ◌++◌, map, Option, Some, None, is_none, slice_get}
use Rattle.std.specs.List.{flat_map, list_any}
use Rattle.java_tree.specs.declared.tokens.Position.{Position}
use Rattle.java_typed.specs.declared.types.ClassRef.TheVariants as class
use Rattle.java_typed.specs.declared.members.MemberRef.{MemberRef}
use Rattle.java_typed.specs.declared.statements.TBody.{TBody}
use Rattle.java_typed.specs.declared.statements.TStatement.{TStatement}
use Rattle.java_typed.specs.declared.units.TField.{TField}
use Rattle.java_typed.specs.declared.units.TBlock.{TBlock}
use Rattle.java_typed.specs.declared.units.TMethod.{TMethod}
use Rattle.java_typed.specs.declared.units.TFirstCall.{TFirstCall}
use Rattle.java_typed.specs.declared.units.TFirstCall.TheVariants as first
use Rattle.java_typed.specs.declared.units.TConstructor.{TConstructor}
use Rattle.java_typed.specs.declared.units.TInitializer.{TInitializer}
use Rattle.java_typed.specs.declared.units.TInitializer.TheVariants as part
use Rattle.java_typed.specs.declared.units.TClass.{TClass}
use Rattle.flow.specs.Analyses.{Analysis, flow, at_place}
use Rattle.java_flow.specs.Variables.{Variable, Local, Simple, OfThis, Distant, same_class, same_target, JavaUse, JavaAct}
use Rattle.java_flow.specs.Statements as s
use Rattle.java_flow.specs.Faults.{can_end}
use Rattle.java_flow.specs.Units.{place_of, is_final}
use Rattle.java_flow.specs.Locals.{same_place}
use Rattle.java_facts.specs.Sets.{is_set}
use Rattle.java_profile.specs.Faults.{Fault, P18, told}
use Rattle.java_profile.specs.Classes.{value_at}
use Rattle.java_profile_flow.specs.Assignments.{Assigned, call_faults}
use Rattle.java_profile_flow.specs.Locals as l
use Rattle.java_profile_flow.specs.Locals.{LocalUse, is_among}
use Rattle.java_profile_flow.specs.Guards.{Jump, Guard, Piece, sequence}
use Rattle.java_profile_flow.specs.Guards as g

-- ---- where control can't come by constants: as definite assignment of a variable that nothing assigns, which is assigned exactly where all
-- variables are, and unassigned (JLS 16: `V is [un]assigned after any statement that cannot complete normally`)

abbrev pub by_constants : Analysis JavaUse
by_constants = record { behind = λ e a. a; takes = λ e. false; is_fault = at_place (λ p a. a); joined = λ a b. a || b; later = λ a. a; counts = true }

unfoldable pub dead_places : JavaAct → List Position
dead_places x = map place_of (flow same_target by_constants x false).faults

unfoldable pub ends_dead : JavaAct → Bool → Bool
ends_dead x a = (flow same_target by_constants x a).end

abbrev pub is_dead : List Position → Position → Bool
is_dead places at = list_any (same_place at) places

-- ---- a synchronized block that a jump leaves

-- by the places where control can't come by constants, and the fields that must not be assigned there
module _ (dead : List Position) (sets : Variable → Bool) where
  abbrev pub is_open : List (List ℕ) → Variable → Bool
  is_open names (Local name) = is_among names name
  is_open names (Simple m) = false
  is_open names (OfThis m) = false
  is_open names (Distant m) = false

  abbrev pub assigned_faults : List (List ℕ) → Assigned → List Fault
  assigned_faults names x = told (is_open names x.variable || sets x.variable) P18 x.first

  abbrev pub jump_faults : Jump → List Fault
  jump_faults j = told (j.is_through || is_dead dead j.at) P18 j.at

  abbrev pub end_faults : Guard → List Fault
  end_faults x = told (can_end x.does && ends_dead x.does (is_dead dead x.at)) P18 x.at

  abbrev pub left_faults : Guard → List Jump → List Fault
  left_faults x [] = []
  left_faults x (j ∷ more) = flat_map (assigned_faults x.unset) x.assigned ++ (flat_map jump_faults (j ∷ more) ++ end_faults x)

  abbrev pub guard_faults : Guard → List Fault
  guard_faults x = left_faults x x.jumps

-- ---- a class by its place among all classes, and what its unit's anonymous classes do and name

module _ (classes : List TClass) (number : ℕ) (inner : ℕ → JavaAct) (named : ℕ → List LocalUse) (c : TClass) where
  abbrev pub is_set_field : ℕ → Option TField → Bool → Bool
  is_set_field place None is_distant = false
  is_set_field place (Some f) is_distant = is_none (value_at place c.initializers) && (f.modifiers.is_static || not is_distant) && is_set number inner c place f

  abbrev pub is_set_member : MemberRef → Bool → Bool
  is_set_member m is_distant = same_class m.class (class.Project number) && is_set_field m.place (slice_get c.fields m.place) is_distant

  -- a set field of the class without initializer: as for whether it is set, `this.f` counts as `f`, and of a static so does `C.f`
  abbrev pub sets_own : Variable → Bool
  sets_own (Local name) = false
  sets_own (Simple m) = is_set_member m false
  sets_own (OfThis m) = is_set_member m false
  sets_own (Distant m) = is_set_member m true

  abbrev pub sets_none : Variable → Bool
  sets_none v = false

  abbrev pub names_final : Variable → Bool
  names_final (Local name) = false
  names_final (Simple m) = is_final classes m
  names_final (OfThis m) = is_final classes m
  names_final (Distant m) = is_final classes m

  -- each `if` of a chain may be passed by, so that the field may be assigned in none and in two
  abbrev pub chained_faults : Assigned → List Fault
  chained_faults x = told (names_final x.variable) P18 x.first

  -- what a text does beside its piece
  abbrev pub text_faults : (Variable → Bool) → JavaAct → Piece → List Fault
  text_faults sets does p = flat_map (guard_faults (dead_places does) sets) p.guards ++ flat_map chained_faults p.chained

  abbrev pub statements_faults : (Variable → Bool) → List TStatement → List Fault
  statements_faults sets xs = text_faults sets (s.statements inner xs) (g.statements inner xs) ++ l.statements_faults named xs

  abbrev pub bodies_faults : (Variable → Bool) → JavaAct → List TBody → List Fault
  bodies_faults sets does bodies = text_faults sets does (g.bodies inner bodies) ++ l.bodies_faults named bodies

  abbrev pub block_faults : Option TBlock → List Fault
  block_faults None = []
  block_faults (Some b) = statements_faults sets_none b.statements

  abbrev pub method_faults : TMethod → List Fault
  method_faults m = block_faults m.block

  abbrev pub first_faults : TFirstCall → List Fault
  first_faults first.Nothing = []
  first_faults (first.This at m arguments bodies) = bodies_faults sets_own (s.values (map (s.body inner) bodies) arguments) bodies
  first_faults (first.Super at is_written m arguments bodies) = bodies_faults sets_own (s.values (map (s.body inner) bodies) arguments) bodies

  abbrev pub constructor_faults : TConstructor → List Fault
  constructor_faults k = call_faults k ++ (first_faults k.call ++ statements_faults sets_own k.block.statements)

  abbrev pub initializer_faults : TInitializer → List Fault
  initializer_faults (part.Value n x bodies) = bodies_faults sets_own (s.value (map (s.body inner) bodies) x) bodies
  initializer_faults (part.Block at is_static xs) = statements_faults sets_own xs

  abbrev pub class_faults : List Fault
  class_faults = flat_map method_faults c.methods ++ (flat_map constructor_faults c.constructors ++ flat_map initializer_faults c.initializers)
