-- Projects none of whose statics is late: without a value and not set, below a class whose statics lead (own rule).
use Rattle.std.specs.Prelude.{◌≡◌, ℕ, suc, Bool, false, List, [], ◌∷◌}
use Rattle.java_typed.specs.declared.members.MemberRef.{MemberRef}
use Rattle.java_typed.specs.declared.units.TField.{TField}
use Rattle.java_typed.specs.declared.units.TClass.{TClass}
use Rattle.java_typed.specs.declared.units.TUnit.{TUnit}
use Rattle.java_flow.specs.Variables.{JavaAct}
use Rattle.java_profile.specs.Classes.{is_late_static}

module _ (is_accessor : MemberRef → Bool) (inner : ℕ → ℕ → JavaAct) (units : List TUnit) where
  -- no static of a class is late, of its fields from a place on
  abbrev pub NoneLate : ℕ → TClass → ℕ → List TField → Type 0
  NoneLate number c place [] = Unit {0}
  NoneLate number c place (x ∷ more) = (is_late_static is_accessor inner units number c place x ≡ false) × NoneLate number c (suc place) more

  -- of classes from a number on
  abbrev pub AllKept : ℕ → List TClass → Type 0
  AllKept number [] = Unit {0}
  AllKept number (c ∷ more) = NoneLate number c 0 c.fields × AllKept (suc number) more
