-- What some forms of an expression use, by what their parts do.
use Rattle.std.proofs.Common.{◌≡◌, ℕ, Bool, true, false, ◌&&◌, List, map, ap, sym, ◌∙◌, subst, refl}
use Rattle.java_tree.specs.declared.tokens.Position.{Position}
use Rattle.java_typed.specs.declared.types.TType.{TType}
use Rattle.java_typed.specs.declared.types.TResult.{TResult}
use Rattle.java_typed.specs.declared.types.ClassRef.{ClassRef}
use Rattle.java_typed.specs.declared.members.MemberRef.{MemberRef}
use Rattle.java_typed.specs.declared.exprs.TExpr.{TExpr, roll-TExpr, map-TExpr, fold-roll-TExpr}
use Rattle.java_typed.specs.declared.exprs.TExpr.TheOpen.{TExpr-F}
use Rattle.java_typed.specs.declared.exprs.TExpr.TheVariants as e
use Rattle.facts.specs.Uses.{Use, Among, This, Further, this_used, where_so, one, both}
use Rattle.facts.specs.Items.{Late}
use Rattle.java_facts.specs.Items.{box_item, given_item}
use Rattle.java_facts.specs.Kinds.{Boxed, result_sort, is_object}
use Rattle.java_facts.specs.Expressions.{JavaUses, JavaUsed, Known, Seen, seen, seen_by, uses_of, all_uses, call_uses}

pub and_left : (a b : Bool) → (a && b) ≡ true → a ≡ true
and_left true b h = refl
and_left false b h = cc

pub and_right : (a b : Bool) → (a && b) ≡ true → b ≡ true
and_right true b h = h
and_right false b h = cc

where_among : (x : Use ClassRef ℕ) (b : Bool) (uses : JavaUses) → b ≡ true → Among x uses → Among x (where_so b uses)
where_among x true uses h among = among
where_among x false uses h among = cc

call_shows : (accessor : Bool) (arguments : JavaUses) → accessor ≡ false → Among This (call_uses accessor false this_used arguments)
call_shows false arguments h test passes = and_left (test This) (arguments test) (and_left (test This && arguments test) (test Further) passes)
call_shows true arguments h test passes = cc

module _ (k : Known) (bodies : ℕ → JavaUses) where
  form : (x : TExpr-F TExpr) (y : TExpr) → roll-TExpr x ≡ y → seen k bodies y ≡ seen_by k bodies (map-TExpr TExpr Seen (seen k bodies) x)
  unfolding seen
  form x y rolls = ap (seen k bodies) (sym rolls) ∙ fold-roll-TExpr Seen (seen_by k bodies) x

  this_used_is : (at : Position) (w : Bool) (kind : TType) → (seen k bodies (e.This at w kind)).used ≡ this_used
  this_used_is at w kind = ap (λ z. z.used) (form (TExpr-F.This at w kind) _ (e.rolls-This at w kind))

  exact_uses : (x : TExpr) (s : Bool) (m : MemberRef) (at : Position) (xs : List TExpr) (r : TResult) →
      uses_of k bodies (e.ExactCall x s m at xs r) ≡ call_uses (k.is_accessor m) false (seen k bodies x).used (all_uses (map (seen k bodies) xs))
  exact_uses x s m at xs r = ap (λ z. z.used.uses) (form (TExpr-F.ExactCall x s m at xs r) _ (e.rolls-ExactCall x s m at xs r))

  -- a call of `super.m()`, or of a private method of `this`
  pub exact_shows : (p at : Position) (w s : Bool) (kind : TType) (m : MemberRef) (xs : List TExpr) (r : TResult) → k.is_accessor m ≡ false → Among This (uses_of k bodies (e.ExactCall (e.This p w kind) s m at xs r))
  exact_shows p at w s kind m xs r none =
      subst (λ (z : JavaUses). Among This z) (sym (exact_uses (e.This p w kind) s m at xs r ∙ ap (λ z. call_uses (k.is_accessor m) false z (all_uses (map (seen k bodies) xs))) (this_used_is p w kind)))
      (call_shows (k.is_accessor m) (all_uses (map (seen k bodies) xs)) none)

  concat_uses : (x : TExpr) (at : Position) (y : TExpr) →
      uses_of k bodies (e.Concat x at y) ≡ both (both (uses_of k bodies x) (uses_of k bodies y)) (both (where_so (is_object (result_sort (seen k bodies x).kind)) (one Further)) (where_so (is_object (result_sort (seen k bodies y).kind)) (one Further)))
  concat_uses x at y = ap (λ z. z.used.uses) (form (TExpr-F.Concat x at y) _ (e.rolls-Concat x at y))

  -- a text of an object, whichever operand it is
  pub left_text_is_further : (x : TExpr) (at : Position) (y : TExpr) → is_object (result_sort (seen k bodies x).kind) ≡ true → Among Further (uses_of k bodies (e.Concat x at y))
  left_text_is_further x at y h = subst (λ (z : JavaUses). Among Further z) (sym (concat_uses x at y)) (λ test passes. where_among Further _ (one Further) h (λ t p. p) test (and_left _ _ (and_right _ _ passes)))

  pub right_text_is_further : (x : TExpr) (at : Position) (y : TExpr) → is_object (result_sort (seen k bodies y).kind) ≡ true → Among Further (uses_of k bodies (e.Concat x at y))
  right_text_is_further x at y h = subst (λ (z : JavaUses). Among Further z) (sym (concat_uses x at y)) (λ test passes. where_among Further _ (one Further) h (λ t p. p) test (and_right _ _ (and_right _ _ passes)))

late : (is_null is_zero : Bool) (place : ℕ) (uses : JavaUses) → is_zero ≡ true → is_null ≡ false → box_item is_null is_zero place uses ≡ Late place
late false true place uses h k = refl
late true z place uses h k = cc
late false false place uses h k = cc

pub late_box : (place : ℕ) (x : JavaUsed) → x.is_zero ≡ true → x.is_null ≡ false → given_item Boxed place x ≡ Late place
late_box place x = late x.is_null x.is_zero place x.uses
