-- A field and its accessors are a pair exactly where the conditions hold.
use Rattle.std.proofs.Common.{◌≡◌, ℕ, Bool, true, false, not, ◌&&◌, ◌||◌, List, Option, Some, None, refl, ap, sym, ◌∙◌, length, if◌then◌else◌}
use Rattle.java_typed.specs.declared.types.ClassRef.TheVariants as class
use Rattle.java_typed.specs.declared.types.TType.{TType}
use Rattle.java_typed.specs.declared.members.MemberRef.{MemberRef}
use Rattle.java_typed.specs.declared.units.TField.{TField}
use Rattle.java_typed.specs.declared.units.TMethod.{TMethod}
use Rattle.java_typed.specs.declared.units.TClass.{TClass}
use Rattle.java_facts.specs.Accessors.{Pair, getter_name, setter_name, is_hidden_field, is_only_field, is_only_method, is_plain, is_getter, is_setter, is_accessor, named, pair, with_getter, with_setter}
use Rattle.java_facts.specs.Pairs.{IsAccessor, HasSetter, IsPair}
use Rattle.java_facts.proofs.Forms.{and_left, and_right}

both_true : (a b : Bool) → a ≡ true → b ≡ true → (a && b) ≡ true
both_true true b p q = q
both_true false b p q = cc

if_some : {A : Type 0} (b : Bool) (x : Option A) (p : A) → (if b then x else None) ≡ Some p → (b ≡ true) × (x ≡ Some p)
if_some true x p h = (refl, h)
if_some false x p h = cc

then_some : {A : Type 0} (b : Bool) (x : Option A) (p : A) → b ≡ true → x ≡ Some p → (if b then x else None) ≡ Some p
then_some true x p h k = k
then_some false x p h k = cc

no_pair : {A : Type 0} (p : A) → None ≡ Some p → ⊥
no_pair p h = cc

abbrev getter_in : Option Pair → ℕ
getter_in None = 0
getter_in (Some p) = p.getter

abbrev setter_in : Option Pair → Option ℕ
setter_in None = None
setter_in (Some p) = p.setter

made : (p : Pair) (g : ℕ) (s : Option ℕ) → p.getter ≡ g → p.setter ≡ s → Some (record { getter = g; setter = s }) ≡ Some p
made p g s a b = ap (λ (z : ℕ). Some (record { getter = z; setter = s })) (sym a) ∙ ap (λ (z : Option ℕ). Some (record { getter = p.getter; setter = z })) (sym b)

module _ (same_type : TType → TType → Bool) (overrides : MemberRef → Bool) (classes : List TClass) (number : ℕ) (c : TClass) (m : MemberRef) (f : TField) where
  abbrev is : (MemberRef → TField → TMethod → Bool) → ℕ × TMethod → Bool
  is shape x = is_accessor same_type overrides classes shape number c m f x

  abbrev Is : (MemberRef → TField → TMethod → Bool) → ℕ × TMethod → Type 0
  Is shape x = IsAccessor same_type overrides classes number c m f shape x

  abbrev plain : ℕ × TMethod → Bool
  plain x = is_plain same_type overrides classes (record { class = class.Project number; place = x.0 }) x.1

  abbrev alone : ℕ × TMethod → Bool
  alone x = is_only_method same_type overrides classes number c x.1.name (length x.1.params)

  accessor : (shape : MemberRef → TField → TMethod → Bool) (x : ℕ × TMethod) → is shape x ≡ true → Is shape x
  accessor shape x h = record {
    has_shape = and_left (shape m f x.1) (plain x) (and_left (shape m f x.1 && plain x) (alone x) h);
    is_plain_method = and_right (shape m f x.1) (plain x) (and_left (shape m f x.1 && plain x) (alone x) h);
    is_only = and_right (shape m f x.1 && plain x) (alone x) h;
  }

  is_it : (shape : MemberRef → TField → TMethod → Bool) (x : ℕ × TMethod) → Is shape x → is shape x ≡ true
  is_it shape x h = both_true (shape m f x.1 && plain x) (alone x) (both_true (shape m f x.1) (plain x) h.has_shape h.is_plain_method) h.is_only

  from_setter : (getter : ℕ) (found : Option (ℕ × TMethod)) (p : Pair) → with_setter same_type overrides classes number c m f getter found ≡ Some p → (p.getter ≡ getter) × HasSetter same_type overrides classes number c m f found p.setter
  from_setter getter None p h = (ap getter_in (sym h), ap setter_in (sym h))
  from_setter getter (Some x) p h =
      let k : (is (is_setter same_type overrides classes) x ≡ true) × (Some (record { getter = getter; setter = Some x.0 }) ≡ Some p) = if_some (is (is_setter same_type overrides classes) x) (Some (record { getter = getter; setter = Some x.0 })) p h in
      (ap getter_in (sym k.1), (accessor (is_setter same_type overrides classes) x k.0, ap setter_in (sym k.1)))

  to_setter : (getter : ℕ) (found : Option (ℕ × TMethod)) (p : Pair) → p.getter ≡ getter → HasSetter same_type overrides classes number c m f found p.setter → with_setter same_type overrides classes number c m f getter found ≡ Some p
  to_setter getter None p h k = made p getter None h k
  to_setter getter (Some x) p h k = then_some (is (is_setter same_type overrides classes) x) (Some (record { getter = getter; setter = Some x.0 })) p (is_it (is_setter same_type overrides classes) x k.0) (made p getter (Some x.0) h k.1)

  abbrev setter_found : Option (ℕ × TMethod)
  setter_found = named same_type overrides classes (setter_name f.name) 1 0 c.methods

  abbrev Found : Option (ℕ × TMethod) → Pair → Type 0
  Found found p = (x : ℕ × TMethod) × (found ≡ Some x) × Is (is_getter same_type overrides classes) x × (p.getter ≡ x.0) × HasSetter same_type overrides classes number c m f setter_found p.setter

  from_getter : (found : Option (ℕ × TMethod)) (p : Pair) → with_getter same_type overrides classes number c m f found ≡ Some p → Found found p
  from_getter None p h = absurd (no_pair p h)
  from_getter (Some x) p h =
      let k : (is (is_getter same_type overrides classes) x ≡ true) × (with_setter same_type overrides classes number c m f x.0 setter_found ≡ Some p) = if_some (is (is_getter same_type overrides classes) x) (with_setter same_type overrides classes number c m f x.0 setter_found) p h in
      let s : (p.getter ≡ x.0) × HasSetter same_type overrides classes number c m f setter_found p.setter = from_setter x.0 setter_found p k.1 in
      (x, refl, accessor (is_getter same_type overrides classes) x k.0, s.0, s.1)

  to_getter : (found : Option (ℕ × TMethod)) (x : ℕ × TMethod) (p : Pair) → found ≡ Some x → Is (is_getter same_type overrides classes) x → p.getter ≡ x.0 → HasSetter same_type overrides classes number c m f setter_found p.setter → with_getter same_type overrides classes number c m f found ≡ Some p
  to_getter found x p e h g s =
      ap (with_getter same_type overrides classes number c m f) e ∙ then_some (is (is_getter same_type overrides classes) x) (with_setter same_type overrides classes number c m f x.0 setter_found) p (is_it (is_getter same_type overrides classes) x h) (to_setter x.0 setter_found p g s)

module _ (same_type : TType → TType → Bool) (overrides : MemberRef → Bool) (classes : List TClass) (number : ℕ) (c : TClass) (place : ℕ) (f : TField) (is_constant : Bool) (p : Pair) where
  abbrev it : MemberRef
  it = record { class = class.Project number; place = place }

  abbrev getter_found : Option (ℕ × TMethod)
  getter_found = named same_type overrides classes (getter_name f.name) 0 0 c.methods

  pub pair_only_so : pair same_type overrides classes number c place f is_constant ≡ Some p → IsPair same_type overrides classes number c it f is_constant p
  pair_only_so h =
      let k : ((is_hidden_field same_type overrides classes f is_constant && is_only_field same_type overrides classes number f) ≡ true) × (with_getter same_type overrides classes number c it f getter_found ≡ Some p) = if_some (is_hidden_field same_type overrides classes f is_constant && is_only_field same_type overrides classes number f) (with_getter same_type overrides classes number c it f getter_found) p h in
      let g = from_getter same_type overrides classes number c it f getter_found p k.1 in
      record {
        is_hidden = and_left _ _ k.0;
        is_only = and_right (is_hidden_field same_type overrides classes f is_constant) _ k.0;
        getter = g.0;
        is_found = g.1;
        is_accessor = g.2;
        is_getter_at = g.3;
        has_setter = g.4;
      }

  pub pair_so : IsPair same_type overrides classes number c it f is_constant p → pair same_type overrides classes number c place f is_constant ≡ Some p
  pair_so h = then_some (is_hidden_field same_type overrides classes f is_constant && is_only_field same_type overrides classes number f) (with_getter same_type overrides classes number c it f getter_found) p (both_true _ _ h.is_hidden h.is_only) (to_getter same_type overrides classes number c it f getter_found h.getter p h.is_found h.is_accessor h.is_getter_at h.has_setter)

-- ---- a method that another stands for, or that stands for another, is no accessor

stands_for : (s l o : Bool) → o ≡ true → not (s || l || o) ≡ false
stands_for true l true h = refl
stands_for false true true h = refl
stands_for false false true h = refl
stands_for s l false h = cc

pub overridden_is_none : (same_type : TType → TType → Bool) (overrides : MemberRef → Bool) (classes : List TClass) (m : MemberRef) (x : TMethod) → overrides m ≡ true → is_plain same_type overrides classes m x ≡ false
overridden_is_none same_type overrides classes m x h = stands_for x.modifiers.is_static x.modifiers.is_synchronized (overrides m) h
