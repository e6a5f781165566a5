-- What it says that a rule isn't broken in a project.
use Rattle.std.specs.Prelude.{◌≡◌, ◌≢◌, ℕ, suc, Bool, false, not, ◌&&◌, ◌||◌, nat_lt, List, [], ◌∷◌, length}
use Rattle.std.specs.List.{AllByRecursion}
use Rattle.j2k_base.specs.declared.places.Phase.{Phase}
use Rattle.j2k_base.specs.declared.places.Fault.{Fault}
use Rattle.java_typed.specs.declared.members.MemberRef.{MemberRef}
use Rattle.java_typed.specs.declared.units.TField.{TField}
use Rattle.java_typed.specs.declared.units.TClass.{TClass}
use Rattle.java_typed.specs.declared.units.TUnit.{TUnit}
use Rattle.java_facts.specs.Project.{is_interface_sort}
use Rattle.java_profile.specs.Faults as rules
use Rattle.java_profile.specs.Faults.{Rule}
use Rattle.java_profile.specs.Classes.{constant_by, fields_lead, is_unset, value_at}
use Rattle.java_project_faults.specs.Project.{inner}

-- no fault of a phase and a number is told
abbrev pub IsOf : Phase → ℕ → Fault → Type 0
IsOf phase number x = (x.phase ≡ phase) × (x.number ≡ number)

abbrev pub NotTold : Phase → ℕ → List Fault → Type 0
NotTold phase number xs = AllByRecursion (λ x. IsOf phase number x → ⊥) xs

-- none of these breaks the rule
abbrev pub Lacks : Rule → List rules.Fault → Type 0
Lacks rule xs = AllByRecursion (λ x. x.rule ≢ rule) xs

-- of each class, by its place among all classes; of each field of a class
abbrev pub EachClass : (ℕ → TClass → Type 0) → ℕ → List TClass → Type 0
EachClass says number [] = Unit {0}
EachClass says number (c ∷ more) = says number c × EachClass says (suc number) more

abbrev pub EachField : (ℕ → TField → Type 0) → ℕ → List TField → Type 0
EachField says place [] = Unit {0}
EachField says place (x ∷ more) = says place x × EachField says (suc place) more

-- a field of an interface is a constant variable
abbrev pub HoldsConstants : ℕ → TClass → Type 0
HoldsConstants number c = EachField (λ place x. (is_interface_sort c.sort && not (constant_by x (value_at place c.initializers))) ≡ false) 0 c.fields

-- no field of an object is without a value and not set, below a class that isn't closed
abbrev pub NoneOpen : (MemberRef → Bool) → List TUnit → ℕ → TClass → Type 0
NoneOpen is_accessor units number c =
    EachField (λ place x. (not x.modifiers.is_static && (is_unset is_accessor (inner units) units number c place x && not (fields_lead is_accessor (inner units) units number c))) ≡ false) 0 c.fields
