-- What an anonymous class does to the variables around it (JLS 8.1.3, 15.9.5, 16): its initializers and its methods run later, any
-- number of times.
use Rattle.std.specs.Prelude.{ℕ, ◌+◌, List, [], ◌∷◌, length, slice_get, Option, Some, None}
use Rattle.java_typed.specs.declared.units.TMethod.{TMethod}
use Rattle.java_typed.specs.declared.units.TClass.{TClass}
use Rattle.flow.specs.Acts.{Skip, Then, Later}
use Rattle.java_flow.specs.Variables.{JavaAct}
use Rattle.java_flow.specs.Fields.{static_part, instance_part, method_does}

-- the class's place among all classes, and what the anonymous classes in it do
module _ (number : ℕ) (inner : ℕ → JavaAct) where
  abbrev pub methods_later : TClass → List TMethod → JavaAct
  methods_later c [] = Skip
  methods_later c (m ∷ more) = Then (Later (method_does number inner c m)) (methods_later c more)

  abbrev pub class_later : TClass → JavaAct
  class_later c = Then (Later (static_part number inner c)) (Then (Later (instance_part number inner c)) (methods_later c c.methods))

-- the place of the unit's first class among all classes, and the classes of the unit
module _ (first : ℕ) (classes : List TClass) where
  -- by the place among the classes of the unit, and by how many stand around one another at most
  abbrev pub found_later : ℕ → (ℕ → JavaAct) → Option TClass → JavaAct
  found_later place inner None = Skip
  found_later place inner (Some c) = class_later (first + place) inner c

  abbrev pub within : ℕ → ℕ → JavaAct
  within ℕ.zero place = Skip
  within (ℕ.suc depth) place = found_later place (within depth) (slice_get classes place)

  -- no class stands in itself
  abbrev pub anonymous : ℕ → JavaAct
  anonymous = within (length classes)
