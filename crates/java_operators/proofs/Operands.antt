-- What the conversions of an operand give.
use Rattle.std.proofs.Common.{◌≡◌, Bool, true, false, if◌then◌else◌, Option, Some, None, refl, sym, ap, subst, ◌∙◌}
use Rattle.j2k_base.specs.declared.constants.Kind.{Kind}
use Rattle.j2k_base.specs.declared.constants.Kind.TheVariants as kind
use Rattle.java_typed.specs.declared.types.TType.{TType, roll-TType, out-TType, roll-out-TType}
use Rattle.java_typed.specs.declared.types.TType.TheOpen.{TType-F}
use Rattle.java_typed.specs.declared.types.TType.TheVariants as t
use Rattle.java_typed.specs.declared.types.TResult.TheVariants as r
use Rattle.java_typed.specs.declared.exprs.Conversion.TheVariants as to
use Rattle.java_typed.specs.declared.exprs.TExpr.{TExpr}
use Rattle.java_typed.specs.declared.exprs.TExpr.TheVariants as x
use Rattle.java_type_relations.specs.declared.heads.Heads.{Heads}
use Rattle.java_type_relations.specs.declared.kinds.Simple.{Simple}
use Rattle.java_type_relations.specs.declared.kinds.Simple.TheVariants as simple
use Rattle.java_type_relations.specs.Types.{same_kind}
use Rattle.java_type_relations.specs.Kinds.{or_unboxed, simple_by, simple_in, simple_of, unboxed}
use Rattle.java_type_relations.specs.Casts.{is_simple_cast}
use Rattle.java_typing.specs.Typing.{Declared, HasType}
use Rattle.java_typing.specs.Typing as y
use Rattle.java_operators.specs.Choices.{simple_type}
use Rattle.java_operators.specs.Steps.{between, box_in, by_box, from_some, held, unboxing}
use Rattle.java_operators.specs.Trees.{in_type, put_step}

kind_tells : (k l : Kind) → same_kind k l ≡ true → k ≡ l
kind_tells kind.Byte kind.Byte h = refl
kind_tells kind.Short kind.Short h = refl
kind_tells kind.Char kind.Char h = refl
kind_tells kind.Int kind.Int h = refl
kind_tells kind.Long kind.Long h = refl
kind_tells k l h = cc

-- ---- primitive types

form_tells : (a : TType) (p : Simple) (f : TType-F TType) → out-TType a ≡ f → simple_by f ≡ Some p → a ≡ simple_type p
form_tells a p (TType-F.Number k) e g =
    let is : simple.Number k ≡ p = cc in
    sym (roll-out-TType a) ∙ ap roll-TType e ∙ t.rolls-Number k ∙ ap simple_type is
form_tells a p TType-F.Boolean e g =
    let is : simple.Boolean ≡ p = cc in
    sym (roll-out-TType a) ∙ ap roll-TType e ∙ t.rolls-Boolean ∙ ap simple_type is
form_tells a p f e g = cc

pub simple_tells : (a : TType) (p : Simple) → simple_of a ≡ Some p → a ≡ simple_type p
unfolding simple_of
simple_tells a p e = form_tells a p (out-TType a) refl e

module _ (heads : Heads) (declared : Declared) where
  abbrev pub Has : TExpr → TType → Type 0
  Has e a = HasType heads declared e (r.Value a)

  number_typed : (k l : Kind) (s : Bool) → same_kind k l ≡ s → (e : TExpr) → Has e (t.Number k) →
      Has (put_step (if s then None else Some (to.Number k l)) e) (t.Number l)
  number_typed k l true i e h = subst (λ m. Has e (t.Number m)) (kind_tells k l i) h
  number_typed k l false i e h = y.convert (to.Number k l) e (t.Number k) h refl

  pub between_typed : (p q : Simple) → is_simple_cast p q ≡ true → (e : TExpr) → Has e (simple_type p) → Has (put_step (between p q) e) (simple_type q)
  between_typed simple.Boolean simple.Boolean c e h = h
  between_typed (simple.Number k) (simple.Number l) c e h = number_typed k l (same_kind k l) refl e h
  between_typed p q c e h = cc

  convert_typed : (a : TType) (p : Simple) → unboxed a ≡ Some p → (e : TExpr) → Has e a → Has (x.Convert (unboxing p) e) (simple_type p)
  convert_typed a (simple.Number k) g e h = y.convert (to.Unbox k) e a h g
  convert_typed a simple.Boolean g e h = y.convert to.UnboxBoolean e a h g

  opened_at : (a : TType) (p : Simple) (o : Option Simple) → simple_of a ≡ o → or_unboxed a o ≡ Some p → (e : TExpr) → Has e a →
      Has (put_step (by_box unboxing (held a o)) e) (simple_type p)
  opened_at a p (Some q) i g e h = subst (λ z. Has e z) (simple_tells a p (i ∙ g)) h
  opened_at a p None i g e h = subst (λ o. Has (put_step (by_box unboxing o) e) (simple_type p)) (sym g) (convert_typed a p g e h)

  pub opened_typed : (a : TType) (p : Simple) → simple_in a ≡ Some p → (e : TExpr) → Has e a → Has (put_step (by_box unboxing (box_in a)) e) (simple_type p)
  opened_typed a p g e h = opened_at a p (simple_of a) refl g e h

  -- an operand that is or holds a primitive type comes to each other that it can be cast to
  pub operand_typed : (a : TType) (p q : Simple) → simple_in a ≡ Some p → is_simple_cast p q ≡ true → (e : TExpr) → Has e a → Has (in_type q a e) (simple_type q)
  operand_typed a p q i c e h =
      let opened : TExpr = put_step (by_box unboxing (box_in a)) e in
      subst (λ o. Has (put_step (from_some o q) opened) (simple_type q)) (sym i) (between_typed p q c opened (opened_typed a p i e h))
