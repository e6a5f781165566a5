-- Of subtyping, unboxing and boxing at most one converts a type to another.
use Rattle.std.proofs.Common.{◌≡◌, true, false, [], List, Option, Some, None, refl, ap, ◌∙◌}
use Rattle.j2k_base.specs.declared.constants.Kind.{Kind}
use Rattle.java_typed.specs.declared.types.ClassRef.{ClassRef}
use Rattle.java_typed.specs.declared.types.TType.{TType, out-TType}
use Rattle.java_typed.specs.declared.types.TType.TheOpen.{TType-F}
use Rattle.java_type_relations.specs.declared.heads.Heads.{Heads}
use Rattle.java_type_relations.specs.declared.kinds.Simple.{Simple}
use Rattle.java_type_relations.specs.Kinds.{box_of, simple_by, simple_of, unboxed, unboxed_by}
use Rattle.java_type_relations.specs.Subtypes.{apart_forms, below_forms, below_parts, is_subtype}
use Rattle.java_type_relations.specs.Contexts.{both_within, boxed_below, class_type, is_boxed, is_unboxed}
use Rattle.java_type_relations.proofs.Forms.{out_class}

simple_is : (x : TType) (f : TType-F TType) → out-TType x ≡ f → simple_of x ≡ simple_by f
unfolding simple_of
simple_is x f e = ap simple_by e

none_within : (p : Option Simple) → both_within p None ≡ false
none_within None = refl
none_within (Some p) = refl

module _ (heads : Heads) where
  not_boxed : (a b : TType) → simple_of a ≡ None → is_boxed heads a b ≡ false
  not_boxed a b e = ap (boxed_below heads b) e

  not_unboxed : (a b : TType) → unboxed a ≡ None → is_unboxed a b ≡ false
  not_unboxed a b e = ap (λ p. both_within p (simple_of b)) e

  not_to_reference : (a b : TType) → simple_of b ≡ None → is_unboxed a b ≡ false
  not_to_reference a b e = ap (both_within (unboxed a)) e ∙ none_within (unboxed a)

  -- ---- no reference is below a primitive type, nor the other way round

  class_form : (a b : TType) (c : ClassRef) (xs : List TType) (g : TType-F TType) (p : Simple) → simple_by g ≡ Some p → below_forms heads a b (TType-F.Class c xs) g ≡ false
  class_form a b c xs (TType-F.Number l) p e = refl
  class_form a b c xs TType-F.Boolean p e = refl
  class_form a b c xs g p e = cc

  class_not_below : (a b : TType) (c : ClassRef) (xs : List TType) (g : TType-F TType) (p : Simple) → out-TType a ≡ TType-F.Class c xs → out-TType b ≡ g → simple_by g ≡ Some p → is_subtype heads a b ≡ false
  class_not_below a b c xs g p e f h =
      ap (λ z. below_parts heads (apart_forms z (out-TType b) a b)) e
      ∙ ap (λ z. below_forms heads a b z (out-TType b)) e
      ∙ ap (below_forms heads a b (TType-F.Class c xs)) f
      ∙ class_form a b c xs g p h

  number_form : (a b : TType) (k : Kind) (g : TType-F TType) → simple_by g ≡ None → below_forms heads a b (TType-F.Number k) g ≡ false
  number_form a b k (TType-F.Number l) e = cc
  number_form a b k g e = refl

  boolean_form : (a b : TType) (g : TType-F TType) → simple_by g ≡ None → below_forms heads a b TType-F.Boolean g ≡ false
  boolean_form a b TType-F.Boolean e = cc
  boolean_form a b g e = refl

  number_not_below : (a b : TType) (k : Kind) (g : TType-F TType) → out-TType a ≡ TType-F.Number k → out-TType b ≡ g → simple_by g ≡ None → is_subtype heads a b ≡ false
  number_not_below a b k g e f h =
      ap (λ z. below_parts heads (apart_forms z (out-TType b) a b)) e
      ∙ ap (λ z. below_forms heads a b z (out-TType b)) e
      ∙ ap (below_forms heads a b (TType-F.Number k)) f
      ∙ number_form a b k g h

  boolean_not_below : (a b : TType) (g : TType-F TType) → out-TType a ≡ TType-F.Boolean → out-TType b ≡ g → simple_by g ≡ None → is_subtype heads a b ≡ false
  boolean_not_below a b g e f h =
      ap (λ z. below_parts heads (apart_forms z (out-TType b) a b)) e
      ∙ ap (λ z. below_forms heads a b z (out-TType b)) e
      ∙ ap (below_forms heads a b TType-F.Boolean) f
      ∙ boolean_form a b g h

  -- ---- boxing goes to no primitive type

  boxed_to : (a b : TType) (g : TType-F TType) (p : Simple) (o : Option Simple) → out-TType b ≡ g → simple_by g ≡ Some p → boxed_below heads b o ≡ false
  boxed_to a b g p None e h = refl
  boxed_to a b g p (Some q) e h = class_not_below (class_type (box_of q)) b (box_of q) [] g p (out_class (box_of q) []) e h

  -- from a primitive type: to none by boxing, or to none by subtyping
  from_simple : (a b : TType) (g : TType-F TType) (o : Option Simple) → out-TType b ≡ g → simple_by g ≡ o → (simple_by g ≡ None → is_subtype heads a b ≡ false) →
      is_subtype heads a b ≡ true → is_boxed heads a b ≡ false
  from_simple a b g None e s lower h = let none : is_subtype heads a b ≡ false = lower s in cc
  from_simple a b g (Some p) e s lower h = boxed_to a b g p (simple_of a) e s

  -- from a class: to none by unboxing, or to none by subtyping
  from_class : (a b : TType) (c : ClassRef) (xs : List TType) (g : TType-F TType) (o : Option Simple) → out-TType a ≡ TType-F.Class c xs → out-TType b ≡ g → simple_by g ≡ o →
      is_subtype heads a b ≡ true → is_unboxed a b ≡ false
  from_class a b c xs g None e f s h = not_to_reference a b (simple_is b g f ∙ s)
  from_class a b c xs g (Some p) e f s h = let none : is_subtype heads a b ≡ false = class_not_below a b c xs g p e f s in cc

  subtype_form : (a b : TType) (f : TType-F TType) → out-TType a ≡ f → is_subtype heads a b ≡ true → (is_unboxed a b ≡ false) × (is_boxed heads a b ≡ false)
  subtype_form a b (TType-F.Number k) e h =
      (not_unboxed a b (ap unboxed_by e), from_simple a b (out-TType b) (simple_by (out-TType b)) refl refl (number_not_below a b k (out-TType b) e refl) h)
  subtype_form a b TType-F.Boolean e h =
      (not_unboxed a b (ap unboxed_by e), from_simple a b (out-TType b) (simple_by (out-TType b)) refl refl (boolean_not_below a b (out-TType b) e refl) h)
  subtype_form a b TType-F.Null e h = (not_unboxed a b (ap unboxed_by e), not_boxed a b (simple_is a TType-F.Null e))
  subtype_form a b (TType-F.Class c xs) e h =
      (from_class a b c xs (out-TType b) (simple_by (out-TType b)) e refl refl h, not_boxed a b (simple_is a (TType-F.Class c xs) e))
  subtype_form a b (TType-F.Variable c n) e h = (not_unboxed a b (ap unboxed_by e), not_boxed a b (simple_is a (TType-F.Variable c n) e))
  subtype_form a b (TType-F.Array x) e h = (not_unboxed a b (ap unboxed_by e), not_boxed a b (simple_is a (TType-F.Array x) e))

  pub subtype_alone : (a b : TType) → is_subtype heads a b ≡ true → (is_unboxed a b ≡ false) × (is_boxed heads a b ≡ false)
  subtype_alone a b h = subtype_form a b (out-TType a) refl h

  unboxed_form : (a b : TType) (f : TType-F TType) → out-TType a ≡ f → is_unboxed a b ≡ true → is_boxed heads a b ≡ false
  unboxed_form a b (TType-F.Number k) e h = let none : is_unboxed a b ≡ false = not_unboxed a b (ap unboxed_by e) in cc
  unboxed_form a b TType-F.Boolean e h = let none : is_unboxed a b ≡ false = not_unboxed a b (ap unboxed_by e) in cc
  unboxed_form a b f e h = not_boxed a b (simple_is a f e)

  pub unboxed_alone : (a b : TType) → is_unboxed a b ≡ true → is_boxed heads a b ≡ false
  unboxed_alone a b h = unboxed_form a b (out-TType a) refl h
