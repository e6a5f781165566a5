-- A well-typed expression has the type that its tree says.
use Rattle.std.proofs.Common.{◌≡◌, true, Some, None, refl, sym, ap, ◌∙◌}
use Rattle.j2k_base.specs.declared.constants.Op2.{Op2}
use Rattle.j2k_base.specs.declared.constants.Op2.TheVariants as op
use Rattle.java_typed.specs.declared.types.TType.TheVariants as k
use Rattle.java_typed.specs.declared.types.TResult.{TResult}
use Rattle.java_typed.specs.declared.types.TResult.TheVariants as r
use Rattle.java_typed.specs.declared.exprs.UnaryOp.{UnaryOp}
use Rattle.java_typed.specs.declared.exprs.UnaryOp.TheVariants as unary
use Rattle.java_typed.specs.declared.exprs.TExpr.{TExpr, roll-TExpr, map-TExpr, fold-roll-TExpr}
use Rattle.java_typed.specs.declared.exprs.TExpr.TheOpen.{TExpr-F}
use Rattle.java_typed.specs.declared.exprs.TExpr.TheVariants as t
use Rattle.java_typed.specs.Reading.{binary_type, type_by, type_of, unary_type}
use Rattle.java_type_relations.specs.declared.heads.Heads.{Heads}
use Rattle.java_typing.specs.Operators.{is_arithmetic, is_comparison, is_logical, is_shift, is_sign}
use Rattle.java_typing.specs.Typing.{Claim, Declared, Fill, Go, Holds, Is}
use Rattle.java_typing.specs.Typing as y

-- the type of a form, by those of its parts
at : (x : TExpr-F TExpr) → type_of (roll-TExpr x) ≡ type_by (map-TExpr TExpr TResult type_of x)
unfolding type_of
at x = fold-roll-TExpr TResult type_by x

formed : (x : TExpr-F TExpr) (e : TExpr) → roll-TExpr x ≡ e → type_of e ≡ type_by (map-TExpr TExpr TResult type_of x)
formed x e is = ap type_of (sym is) ∙ at x

-- ---- operators

sign_keeps : (o : UnaryOp) (a : TResult) → is_sign o ≡ true → unary_type o a ≡ a
sign_keeps unary.Plus a e = refl
sign_keeps unary.Minus a e = refl
sign_keeps unary.Complement a e = refl
sign_keeps unary.Not a e = cc

arithmetic_keeps : (o : Op2) (a : TResult) → is_arithmetic o ≡ true → binary_type o a ≡ a
arithmetic_keeps op.Add a e = refl
arithmetic_keeps op.Sub a e = refl
arithmetic_keeps op.Mul a e = refl
arithmetic_keeps op.Div a e = refl
arithmetic_keeps op.Rem a e = refl
arithmetic_keeps op.And a e = refl
arithmetic_keeps op.Or a e = refl
arithmetic_keeps op.Xor a e = refl
arithmetic_keeps o a e = cc

shift_keeps : (o : Op2) (a : TResult) → is_shift o ≡ true → binary_type o a ≡ a
shift_keeps op.Shl a e = refl
shift_keeps op.Shr a e = refl
shift_keeps op.Ushr a e = refl
shift_keeps o a e = cc

comparison_tells : (o : Op2) (a : TResult) → is_comparison o ≡ true → binary_type o a ≡ r.Value k.Boolean
comparison_tells op.Lt a e = refl
comparison_tells op.Le a e = refl
comparison_tells op.Gt a e = refl
comparison_tells op.Ge a e = refl
comparison_tells op.Eq a e = refl
comparison_tells op.Ne a e = refl
comparison_tells o a e = cc

logical_tells : (o : Op2) → is_logical o ≡ true → binary_type o (r.Value k.Boolean) ≡ r.Value k.Boolean
logical_tells op.Eq e = refl
logical_tells op.Ne e = refl
logical_tells op.And e = refl
logical_tells op.Or e = refl
logical_tells op.Xor e = refl
logical_tells op.AndAlso e = refl
logical_tells op.OrElse e = refl
logical_tells o e = cc

-- ---- all forms

abbrev Says : Claim → Type 0
Says (Is x a) = type_of x ≡ a
Says (Go xs ps) = Unit {0}
Says (Fill xs p) = Unit {0}

module _ (heads : Heads) (declared : Declared) where
  pub told : (c : Claim) → Holds heads declared c → Says c
  told _ y.no_arguments = tt
  told _ (y.argument x a p xs ps h e hs) = tt
  told _ (y.no_elements p) = tt
  told _ (y.element_of x a p xs h e hs) = tt
  told _ (y.literal v a) = formed (TExpr-F.Literal v a) _ (t.rolls-Literal v a)
  told _ (y.null_literal a) = formed (TExpr-F.Null a) _ (t.rolls-Null a)
  told _ (y.constant v x h) = formed (TExpr-F.Constant v x) _ (t.rolls-Constant v x) ∙ told _ h
  told _ (y.this a w kind) = formed (TExpr-F.This a w kind) _ (t.rolls-This a w kind)
  told _ (y.paren a x b h) = formed (TExpr-F.Paren a x) _ (t.rolls-Paren a x) ∙ told _ h
  told _ (y.local n a kind) = formed (TExpr-F.Local n a kind) _ (t.rolls-Local n a kind)
  told _ (y.static_field first m a f d s) = formed (TExpr-F.Static first m a f.kind) _ (t.rolls-Static first m a f.kind)
  told _ (y.field x m a f b args h s d i) = formed (TExpr-F.Field x m a _) _ (t.rolls-Field x m a _)
  told _ (y.array_length x a b h) = formed (TExpr-F.Length x a) _ (t.rolls-Length x a)
  told _ (y.element x i b h j) = formed (TExpr-F.Element x i b) _ (t.rolls-Element x i b)
  told _ (y.static_call first m a xs f d s hs) = formed (TExpr-F.StaticCall first m a xs f.result) _ (t.rolls-StaticCall first m a xs f.result)
  told _ (y.virtual_call x m a xs f b args h s d i hs) = formed (TExpr-F.VirtualCall x m a xs _) _ (t.rolls-VirtualCall x m a xs _)
  told _ (y.exact_call x u m a xs f b args h s d i hs) = formed (TExpr-F.ExactCall x u m a xs _) _ (t.rolls-ExactCall x u m a xs _)
  told _ (y.through x z a b h j) = formed (TExpr-F.Through x z) _ (t.rolls-Through x z) ∙ told _ j
  told _ (y.step p o a x sum b v h e) = formed (TExpr-F.Step p o a x sum) _ (t.rolls-Step p o a x sum) ∙ told _ h
  told _ (y.sign o a x of e p h) =
      formed (TExpr-F.Unary o a x) _ (t.rolls-Unary o a x) ∙ sign_keeps o (type_of x) e ∙ told _ h
  told _ (y.complement a x h) = formed (TExpr-F.Unary unary.Not a x) _ (t.rolls-Unary unary.Not a x)
  told _ (y.arithmetic x o a z of e p h j) =
      formed (TExpr-F.Binary x o a z) _ (t.rolls-Binary x o a z) ∙ arithmetic_keeps o (type_of x) e ∙ told _ h
  told _ (y.shift x o a z of by e p q h j) =
      formed (TExpr-F.Binary x o a z) _ (t.rolls-Binary x o a z) ∙ shift_keeps o (type_of x) e ∙ told _ h
  told _ (y.comparison x o a z of e p h j) =
      formed (TExpr-F.Binary x o a z) _ (t.rolls-Binary x o a z) ∙ comparison_tells o (type_of x) e
  told _ (y.logical x o a z e h j) =
      formed (TExpr-F.Binary x o a z) _ (t.rolls-Binary x o a z) ∙ ap (binary_type o) (told _ h) ∙ logical_tells o e
  told _ (y.concat x a z b c h j e) = formed (TExpr-F.Concat x a z) _ (t.rolls-Concat x a z)
  told _ (y.same_reference x q a z b c h j e) = formed (TExpr-F.Same x q a z) _ (t.rolls-Same x q a z)
  told _ (y.instance x a of b h e) = formed (TExpr-F.Instanceof x a of) _ (t.rolls-Instanceof x a of)
  told _ (y.cast a of x b h e) = formed (TExpr-F.Cast a of x) _ (t.rolls-Cast a of x)
  told _ (y.convert c x b h e) = formed (TExpr-F.Convert c x) _ (t.rolls-Convert c x)
  told _ (y.conditional x z w of b c h i j e f) = formed (TExpr-F.Conditional x z w of) _ (t.rolls-Conditional x z w of)
  told _ (y.assign x a z b c v h j e) = formed (TExpr-F.Assign x a z) _ (t.rolls-Assign x a z) ∙ told _ h
  told _ (y.compound x o of a z b own i v h e w j f) = formed (TExpr-F.Compound x o (Some of) a z) _ (t.rolls-Compound x o (Some of) a z) ∙ told _ h
  told _ (y.compound_shift x o of by a z b i v h e p j f) = formed (TExpr-F.Compound x o (Some of) a z) _ (t.rolls-Compound x o (Some of) a z) ∙ told _ h
  told _ (y.compound_bitwise x o a z b i v h e j) = formed (TExpr-F.Compound x o None a z) _ (t.rolls-Compound x o None a z) ∙ told _ h
  told _ (y.append x a z b v h j) = formed (TExpr-F.Append x a z) _ (t.rolls-Append x a z) ∙ told _ h
  told _ (y.lambda l x m args q b i d h e) = formed (TExpr-F.Lambda l x) _ (t.rolls-Lambda l x)
  told _ (y.lambda_statement l x m args b i d s h) = formed (TExpr-F.Lambda l x) _ (t.rolls-Lambda l x)
  told _ (y.lambda_block l n m args i) = formed (TExpr-F.LambdaBlock l n) _ (t.rolls-LambdaBlock l n)
  told _ (y.new_object a of m xs b c args ps e d hs) = formed (TExpr-F.New a of m xs b) _ (t.rolls-New a of m xs b)
  told _ (y.new_array a of x b e h) = formed (TExpr-F.NewArray a of x) _ (t.rolls-NewArray a of x)
  told _ (y.filled_array a of xs b e hs) = formed (TExpr-F.NewFilled a of xs) _ (t.rolls-NewFilled a of xs)
