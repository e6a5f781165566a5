-- All faults of a typed project, of assignment and reachability (JLS 14.21, 16) and of the profile, in the order in which they are told.
use Rattle.std.specs.Prelude.{ℕ, ◌+◌, suc, Bool, nat_lt, List, [], ◌∷◌, ◌++◌, map, length, Option, if◌then◌else◌}
use Rattle.j2k_base.specs.declared.places.Phase.TheVariants.{F, P}
use Rattle.j2k_base.specs.declared.places.Fault.{Fault}
use Rattle.judged.specs.Notes.{IsFirst, fault_at}
use Rattle.java_typed.specs.declared.types.TWritten.{TWritten}
use Rattle.java_typed.specs.declared.members.MemberRef.{MemberRef}
use Rattle.java_typed.specs.declared.units.TClass.{TClass}
use Rattle.java_typed.specs.declared.units.TUnit.{TUnit}
use Rattle.java_type_relations.specs.declared.heads.Heads.{Heads}
use Rattle.java_flow.specs.Variables.{JavaAct}
use Rattle.java_flow.specs.Anonymous.{anonymous}
use Rattle.java_flow.specs.Units as flow
use Rattle.java_flow.specs.Units.{FlowFault}
use Rattle.java_facts.specs.Project.{classes_of}
use Rattle.java_profile.specs.Faults as rules
use Rattle.java_profile.specs.Classes as profile
use Rattle.java_profile_types.specs.Classes as types
use Rattle.java_profile_members.specs.Members as members
use Rattle.java_profile_flow.specs.Classes as texts
use Rattle.java_profile_flow.specs.Locals.{LocalUse, anonymous_uses}
use Rattle.java_project_faults.specs.Order.{first_of, in_order, noted}

abbrev pub flow_fault : List ℕ → FlowFault → Fault
flow_fault path x = fault_at F (flow.number_of x.code) path x.at.offset x.at.line x.at.column

abbrev pub rule_fault : List ℕ → rules.Fault → Fault
rule_fault path x = fault_at P (rules.number_of x.rule) path x.at.offset x.at.line x.at.column

-- ---- F: those of each unit

abbrev pub flow_from : List TUnit → List (List FlowFault) → List Fault
flow_from [] all = []
flow_from (u ∷ more) [] = []
flow_from (u ∷ more) (x ∷ all) = map (flow_fault u.path) x ++ flow_from more all

abbrev pub flow_told : List TUnit → List Fault
flow_told units = flow_from units (flow.project_faults units)

-- ---- the unit of a class by its place among all classes: the place of the unit's first class, and its classes

abbrev pub around_from : ℕ → List TUnit → ℕ → ℕ × List TClass
around_from first [] number = (first, [])
around_from first (u ∷ more) number = if nat_lt number (first + length u.classes) then (first, u.classes) else around_from (first + length u.classes) more number

-- what the bodies of its anonymous classes do later, and which locals they name
abbrev pub inner : List TUnit → ℕ → ℕ → JavaAct
inner units number = anonymous (around_from 0 units number).0 (around_from 0 units number).1

abbrev pub named : List TUnit → ℕ → ℕ → List LocalUse
named units number = anonymous_uses (around_from 0 units number).1

-- ---- P: by the methods that are accessors, the supertypes of all types, and those of each class as they are written

module _ (is_accessor : MemberRef → Bool) (heads : Heads) (supers : ℕ → List TWritten) (units : List TUnit) where
  abbrev pub class_rules : ℕ → TClass → List rules.Fault
  class_rules number c =
      profile.class_faults is_accessor (inner units) units number c
      ++ (types.class_faults heads (classes_of units) (supers number) c
      ++ (members.class_faults heads units (classes_of units) number c
      ++ texts.class_faults (classes_of units) number (inner units number) (named units number) c))

  abbrev pub classes_told : List ℕ → ℕ → List TClass → List Fault
  classes_told path number [] = []
  classes_told path number (c ∷ more) = map (rule_fault path) (class_rules number c) ++ classes_told path (suc number) more

  abbrev pub units_told : ℕ → List TUnit → List Fault
  units_told number [] = []
  units_told number (u ∷ more) = classes_told u.path number u.classes ++ units_told (number + length u.classes) more

  abbrev pub rules_told : List Fault
  rules_told = units_told 0 units

  -- ---- all of them

  abbrev pub project_faults : List Fault
  project_faults = in_order (flow_told units) ++ in_order rules_told

  abbrev pub first_fault : Option Fault
  first_fault = first_of project_faults

  abbrev pub IsFirstFault : Fault → Type 0
  IsFirstFault x = IsFirst (noted project_faults) x
