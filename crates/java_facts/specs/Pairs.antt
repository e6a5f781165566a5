-- What it takes that a property can stand for a field and its accessors (own rule), condition by condition.
use Rattle.std.specs.Prelude.{◌≡◌, ℕ, Bool, true, List, Option, Some, None, length}
use Rattle.java_typed.specs.declared.types.ClassRef.TheVariants as class
use Rattle.java_typed.specs.declared.types.TType.{TType}
use Rattle.java_typed.specs.declared.members.MemberRef.{MemberRef}
use Rattle.java_typed.specs.declared.units.TField.{TField}
use Rattle.java_typed.specs.declared.units.TMethod.{TMethod}
use Rattle.java_typed.specs.declared.units.TClass.{TClass}
use Rattle.java_facts.specs.Accessors.{Pair, getter_name, setter_name, is_hidden_field, is_only_field, is_only_method, is_plain, is_getter, is_setter, named}

-- a member of a class of the project, by its place there
abbrev pub member_at : ℕ → ℕ → MemberRef
member_at number place = record { class = class.Project number; place = place }

module _ (same_type : TType → TType → Bool) (overrides : MemberRef → Bool) (classes : List TClass) (number : ℕ) (c : TClass) (m : MemberRef) (f : TField) where
  -- a method of the class, beside its place, is the accessor that a shape tells
  pub record IsAccessor (shape : MemberRef → TField → TMethod → Bool) (x : ℕ × TMethod) : Type 0 where
    pub has_shape : shape m f x.1 ≡ true
    -- neither static nor synchronized, and no method stands for it or it for another
    pub is_plain_method : is_plain same_type overrides classes (record { class = class.Project number; place = x.0 }) x.1 ≡ true
    -- no other method of the class or of one above or below has its name and number of parameters
    pub is_only : is_only_method same_type overrides classes number c x.1.name (length x.1.params) ≡ true

  -- where no method has the setter's name there is none; else it is the setter
  abbrev pub HasSetter : Option (ℕ × TMethod) → Option ℕ → Type 0
  HasSetter None setter = setter ≡ None
  HasSetter (Some x) setter = IsAccessor (is_setter same_type overrides classes) x × (setter ≡ Some x.0)

  pub record IsPair (is_constant : Bool) (p : Pair) : Type 0 where
    -- a private field of the objects, and no constant variable
    pub is_hidden : is_hidden_field same_type overrides classes f is_constant ≡ true
    -- no class above or below has a field of its name
    pub is_only : is_only_field same_type overrides classes number f ≡ true
    pub getter : ℕ × TMethod
    pub is_found : named same_type overrides classes (getter_name f.name) 0 0 c.methods ≡ Some getter
    pub is_accessor : IsAccessor (is_getter same_type overrides classes) getter
    pub is_getter_at : p.getter ≡ getter.0
    pub has_setter : HasSetter (named same_type overrides classes (setter_name f.name) 1 0 c.methods) p.setter
