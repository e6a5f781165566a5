-- The accessors of a field: its getter and, where there is one, its setter, that a property can stand for (own rule).
use Rattle.std.specs.Prelude.{ℕ, zero, suc, Bool, true, false, not, ◌&&◌, ◌||◌, ◌==◌, ◌-◌, nat_le, bytes_eq, List, [], ◌∷◌, ◌++◌, Option, Some, None, length, slice_get, is_none, codes, if◌then◌else◌}
use Rattle.java_typed.specs.declared.types.ClassRef.{ClassRef}
use Rattle.java_typed.specs.declared.types.ClassRef.TheVariants as class
use Rattle.java_typed.specs.declared.types.TType.{TType, out-TType}
use Rattle.java_typed.specs.declared.types.TWritten.{TWritten}
use Rattle.java_typed.specs.declared.members.Access.{Access}
use Rattle.java_typed.specs.declared.members.Access.TheVariants as access
use Rattle.java_typed.specs.declared.members.MemberRef.{MemberRef}
use Rattle.java_typed.specs.declared.exprs.TExpr.{TExpr, out-TExpr}
use Rattle.java_typed.specs.declared.exprs.TExpr.TheOpen.{TExpr-F}
use Rattle.java_typed.specs.declared.statements.TSimple.{TSimple}
use Rattle.java_typed.specs.declared.statements.TSimple.TheVariants as simple
use Rattle.java_typed.specs.declared.statements.TStatement.{TStatement, out-TStatement}
use Rattle.java_typed.specs.declared.statements.TBody.{TBody}
use Rattle.java_typed.specs.declared.statements.TBody.TheOpen.{TStatement-F}
use Rattle.java_typed.specs.declared.statements.TCaseGroup.{TCaseGroup}
use Rattle.java_typed.specs.declared.statements.TCatch.{TCatch}
use Rattle.java_typed.specs.declared.units.TBlock.{TBlock}
use Rattle.java_typed.specs.declared.units.TField.{TField}
use Rattle.java_typed.specs.declared.units.TParam.{TParam}
use Rattle.java_typed.specs.declared.units.TMethod.{TMethod}
use Rattle.java_typed.specs.declared.units.TClass.{TClass}
use Rattle.java_flow.specs.Variables.{same_class, same_member}
use Rattle.java_facts.specs.Project.{above_by}

-- ---- names

-- the first letter in upper case, where it is one of a to z
abbrev pub upper : ℕ → ℕ
upper c = if nat_le 97 c && nat_le c 122 then c - 32 else c

abbrev pub capital : List ℕ → List ℕ
capital [] = []
capital (c ∷ more) = upper c ∷ more

abbrev pub getter_name : List ℕ → List ℕ
getter_name name = codes "get" ++ capital name

abbrev pub setter_name : List ℕ → List ℕ
setter_name name = codes "set" ++ capital name

-- the methods by their places
pub record Pair : Type 0 where
  pub getter : ℕ
  pub setter : Option ℕ

-- ---- bodies

abbrev pub is_this_by : TExpr-F TExpr → Bool
is_this_by (TExpr-F.This at is_written kind) = true
is_this_by _ = false

-- the field by its simple name or behind `this`
abbrev pub names_field : MemberRef → TExpr-F TExpr → Bool
names_field m (TExpr-F.Field object n at kind) = is_this_by (out-TExpr object) && same_member m n
names_field m _ = false

abbrev pub names_local : List ℕ → TExpr-F TExpr → Bool
names_local name (TExpr-F.Local n at kind) = bytes_eq name n
names_local name _ = false

abbrev pub assigns_field : MemberRef → List ℕ → TExpr-F TExpr → Bool
assigns_field m name (TExpr-F.Assign target at v) = names_field m (out-TExpr target) && names_local name (out-TExpr v)
assigns_field m name _ = false

abbrev pub returns : MemberRef → TSimple → Bool
returns m (simple.Return (Some x)) = names_field m (out-TExpr x)
returns m _ = false

abbrev pub assigns : MemberRef → List ℕ → TSimple → Bool
assigns m name (simple.Value x) = assigns_field m name (out-TExpr x)
assigns m name _ = false

abbrev pub simply : (TSimple → Bool) → TStatement-F TBody TStatement TCaseGroup TCatch → Bool
simply is (TStatement-F.Simple at x bodies) = is x
simply is _ = false

-- the body is one statement
abbrev pub only : (TSimple → Bool) → Option TBlock → Bool
only is None = false
only is (Some b) = by b.statements
  where
    by : List TStatement → Bool
    by [] = false
    by (x ∷ []) = simply is (out-TStatement x)
    by (x ∷ y ∷ more) = false

-- ---- the conditions, by when two types are the same (JLS 4.3.4), and which methods override or implement another one, in their
-- class or in one below it, or are overridden (JLS 8.4.8)

module _ (same_type : TType → TType → Bool) (overrides : MemberRef → Bool) (classes : List TClass) where
  -- the field is a private one of the objects, and no constant variable
  abbrev pub is_hidden_field : TField → Bool → Bool
  is_hidden_field f is_constant = is_private f.modifiers.access && not f.modifiers.is_static && not is_constant
    where
      is_private : Access → Bool
      is_private access.Private = true
      is_private _ = false

  abbrev pub same_result : TType → Option TWritten → Bool
  same_result t None = false
  same_result t (Some w) = same_type t w.kind

  -- the getter gives the field and does nothing else
  abbrev pub is_getter : MemberRef → TField → TMethod → Bool
  is_getter m f x = bytes_eq x.name (getter_name f.name) && no_params x.params && same_result f.kind.kind x.result && only (returns m) x.block
    where
      no_params : List TParam → Bool
      no_params [] = true
      no_params (p ∷ more) = false

  -- the setter assigns its parameter to the field and does nothing else
  abbrev pub is_setter : MemberRef → TField → TMethod → Bool
  is_setter m f x = bytes_eq x.name (setter_name f.name) && is_none x.result && by x.params
    where
      by : List TParam → Bool
      by (p ∷ []) = same_type f.kind.kind p.kind.kind && only (assigns m p.name) x.block
      by _ = false

  -- it is called on objects, locks nothing, and no other method stands for it or it for another
  abbrev pub is_plain : MemberRef → TMethod → Bool
  is_plain m x = not (x.modifiers.is_static || x.modifiers.is_synchronized || overrides m)

  -- ---- the classes above and below

  abbrev pub above_class : Option TType → Option ClassRef
  above_class None = None
  above_class (Some t) = above_by (out-TType t)

  abbrev pub class_at : ClassRef → Option TClass
  class_at (class.Library n) = None
  class_at (class.Project n) = slice_get classes n

  abbrev pub is_or_above : ClassRef → (Option TClass → Bool) → Option ClassRef → Bool
  is_or_above c more None = false
  is_or_above c more (Some d) = same_class c d || more (class_at d)

  -- one is above the other, at most so many steps
  abbrev pub is_above : ℕ → ClassRef → Option TClass → Bool
  is_above zero c x = false
  is_above (suc n) c None = false
  is_above (suc n) c (Some x) = is_or_above c (λ y. is_above n c y) (above_class x.above)

  -- of two classes, by their places, one is above the other
  abbrev pub are_related : ℕ → ℕ → Bool
  are_related a b = is_above (length classes) (class.Project a) (slice_get classes b) || is_above (length classes) (class.Project b) (slice_get classes a)

  -- whether a class above or below says something
  abbrev pub any_related : ℕ → (TClass → Bool) → ℕ → List TClass → Bool
  any_related number says at [] = false
  any_related number says at (c ∷ more) = (are_related number at && says c) || any_related number says (suc at) more

  abbrev pub declares_field : List ℕ → List TField → Bool
  declares_field name [] = false
  declares_field name (f ∷ more) = bytes_eq name f.name || declares_field name more

  -- how many methods have a name and a number of parameters
  abbrev pub methods_named : List ℕ → ℕ → List TMethod → ℕ
  methods_named name params [] = 0
  methods_named name params (x ∷ more) = if bytes_eq name x.name && (length x.params == params) then suc (methods_named name params more) else methods_named name params more

  -- no class above or below has a field of the field's name
  abbrev pub is_only_field : ℕ → TField → Bool
  is_only_field number f = not (any_related number (λ c. declares_field f.name c.fields) 0 classes)

  -- no other method of the class, or of one above or below, has an accessor's name and number of parameters
  abbrev pub is_only_method : ℕ → TClass → List ℕ → ℕ → Bool
  is_only_method number c name params = (methods_named name params c.methods == 1) && not (any_related number (λ d. not (methods_named name params d.methods == 0)) 0 classes)

  -- ---- the pair

  -- the first method of a name and a number of parameters, by its place
  abbrev pub named : List ℕ → ℕ → ℕ → List TMethod → Option (ℕ × TMethod)
  named name params at [] = None
  named name params at (x ∷ more) = if bytes_eq name x.name && (length x.params == params) then Some (at, x) else named name params (suc at) more

  abbrev pub is_accessor : (MemberRef → TField → TMethod → Bool) → ℕ → TClass → MemberRef → TField → ℕ × TMethod → Bool
  is_accessor shape number c m f x = shape m f x.1 && is_plain (record { class = class.Project number; place = x.0 }) x.1 && is_only_method number c x.1.name (length x.1.params)

  -- where a method has the setter's name and isn't one, nothing is a pair
  abbrev pub with_setter : ℕ → TClass → MemberRef → TField → ℕ → Option (ℕ × TMethod) → Option Pair
  with_setter number c m f getter None = Some (record { getter = getter; setter = None })
  with_setter number c m f getter (Some x) = if is_accessor is_setter number c m f x then Some (record { getter = getter; setter = Some x.0 }) else None

  abbrev pub with_getter : ℕ → TClass → MemberRef → TField → Option (ℕ × TMethod) → Option Pair
  with_getter number c m f None = None
  with_getter number c m f (Some x) = if is_accessor is_getter number c m f x then with_setter number c m f x.0 (named (setter_name f.name) 1 0 c.methods) else None

  -- the accessors of the field of a place in the class of a place
  abbrev pub pair : ℕ → TClass → ℕ → TField → Bool → Option Pair
  pair number c place f is_constant = if is_hidden_field f is_constant && is_only_field number f then with_getter number c (record { class = class.Project number; place = place }) f (named (getter_name f.name) 0 0 c.methods) else None
