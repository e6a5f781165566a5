-- The rules that a class breaks.
use Rattle.std.specs.Prelude.{ℕ, suc, Bool, false, not, ◌&&◌, ◌==◌, nat_lt, List, [], ◌∷◌, ◌++◌, length, Option, Some, None, slice_get, is_none, if◌then◌else◌}
use Rattle.java_typed.specs.declared.types.ClassRef.{ClassRef}
use Rattle.java_typed.specs.declared.types.ClassRef.TheVariants as class
use Rattle.java_typed.specs.declared.members.MemberRef.{MemberRef}
use Rattle.java_typed.specs.declared.exprs.TExpr.{TExpr}
use Rattle.java_typed.specs.declared.units.TField.{TField}
use Rattle.java_typed.specs.declared.units.TBlock.{TBlock}
use Rattle.java_typed.specs.declared.units.TMethod.{TMethod}
use Rattle.java_typed.specs.declared.units.TFirstCall.{TFirstCall}
use Rattle.java_typed.specs.declared.units.TFirstCall.TheVariants as first
use Rattle.java_typed.specs.declared.units.TConstructor.{TConstructor}
use Rattle.java_typed.specs.declared.units.TInitializer.{TInitializer}
use Rattle.java_typed.specs.declared.units.TInitializer.TheVariants as part
use Rattle.java_typed.specs.declared.units.TClass.{TClass}
use Rattle.java_typed.specs.declared.units.TUnit.{TUnit}
use Rattle.java_flow.specs.Variables.{JavaAct, same_class}
use Rattle.facts.specs.Classes as f
use Rattle.facts.specs.Classes.{in_java}
use Rattle.java_facts.specs.Items.{is_constant_variable}
use Rattle.java_facts.specs.Sets.{is_set}
use Rattle.java_facts.specs.Project.{classes_of, class_facts, all_facts, most, same_place, is_interface_sort}
use Rattle.java_profile.specs.Faults.{Fault, P11, P16, P17, P20, told}
use Rattle.java_profile.specs.Statements.{value_faults, values_faults, statements_faults, bodies_faults}

-- ---- constant variables (JLS 4.12.4)

-- the value that stands with the declaration of the field of a place
abbrev pub value_at : ℕ → List TInitializer → Option TExpr
value_at place [] = None
value_at place (part.Value n x bodies ∷ more) = if n == place then Some x else value_at place more
value_at place (part.Block at b xs ∷ more) = value_at place more

abbrev pub constant_by : TField → Option TExpr → Bool
constant_by f None = false
constant_by f (Some x) = is_constant_variable f x

abbrev pub is_constant_in : TClass → ℕ → Option TField → Bool
is_constant_in c place None = false
is_constant_in c place (Some f) = constant_by f (value_at place c.initializers)

abbrev pub is_constant_of : ℕ → Option TClass → Bool
is_constant_of place None = false
is_constant_of place (Some c) = is_constant_in c place (slice_get c.fields place)

abbrev pub is_constant_field : List TClass → MemberRef → Bool
is_constant_field classes m = by m.class
  where
    by : ClassRef → Bool
    by (class.Library n) = false
    by (class.Project n) = is_constant_of m.place (slice_get classes n)

-- ---- members, by the methods that are accessors, and what the bodies of anonymous classes do later

module _ (is_accessor : MemberRef → Bool) (inner : ℕ → ℕ → JavaAct) (units : List TUnit) where
  abbrev pub is_unset : ℕ → TClass → ℕ → TField → Bool
  is_unset number c place f = is_none (value_at place c.initializers) && not (is_set number (inner number) c place f)

  abbrev pub fields_lead : ℕ → TClass → Bool
  fields_lead number c = f.fields_lead same_class (same_place is_accessor inner units) (in_java same_class (same_place is_accessor inner units)) (all_facts is_accessor inner units) (most is_accessor inner units) (class_facts is_accessor inner units number c)

  abbrev pub statics_lead : ℕ → TClass → Bool
  statics_lead number c = f.statics_lead same_class (same_place is_accessor inner units) (in_java same_class (same_place is_accessor inner units)) (all_facts is_accessor inner units) (most is_accessor inner units) (class_facts is_accessor inner units number c)

  -- an unset static below a class that isn't calm
  abbrev pub is_late_static : ℕ → TClass → ℕ → TField → Bool
  is_late_static number c place x = x.modifiers.is_static && (is_unset number c place x && not (statics_lead number c))

  abbrev pub field_faults : ℕ → TClass → ℕ → TField → List Fault
  field_faults number c place x =
      told (is_interface_sort c.sort && not (constant_by x (value_at place c.initializers))) P11 x.at
      ++ (told (not x.modifiers.is_static && (is_unset number c place x && not (fields_lead number c))) P16 x.at
      ++ told (is_late_static number c place x) P17 x.at)

  abbrev pub fields_faults : ℕ → TClass → ℕ → List TField → List Fault
  fields_faults number c place [] = []
  fields_faults number c place (x ∷ more) = field_faults number c place x ++ fields_faults number c (suc place) more

  abbrev pub constants : MemberRef → Bool
  constants = is_constant_field (classes_of units)

  abbrev pub block_faults : Option TBlock → List Fault
  block_faults None = []
  block_faults (Some b) = statements_faults constants b.statements

  abbrev pub methods_faults : List TMethod → List Fault
  methods_faults [] = []
  methods_faults (m ∷ more) = told (nat_lt 100 (length m.params)) P20 m.first ++ (block_faults m.block ++ methods_faults more)

  abbrev pub call_faults : TFirstCall → List Fault
  call_faults first.Nothing = []
  call_faults (first.This at m arguments bodies) = values_faults constants arguments ++ bodies_faults constants bodies
  call_faults (first.Super at is_written m arguments bodies) = values_faults constants arguments ++ bodies_faults constants bodies

  abbrev pub constructors_faults : List TConstructor → List Fault
  constructors_faults [] = []
  constructors_faults (k ∷ more) = told (nat_lt 100 (length k.params)) P20 k.first ++ (call_faults k.call ++ (statements_faults constants k.block.statements ++ constructors_faults more))

  abbrev pub initializers_faults : List TInitializer → List Fault
  initializers_faults [] = []
  initializers_faults (part.Value n x bodies ∷ more) = value_faults constants x ++ (bodies_faults constants bodies ++ initializers_faults more)
  initializers_faults (part.Block at b xs ∷ more) = statements_faults constants xs ++ initializers_faults more

  -- all that a class breaks of these rules, by its place among all classes
  abbrev pub class_faults : ℕ → TClass → List Fault
  class_faults number c = fields_faults number c 0 c.fields ++ (methods_faults c.methods ++ (constructors_faults c.constructors ++ initializers_faults c.initializers))
