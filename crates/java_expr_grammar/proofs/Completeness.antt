-- What stands is read again, where nothing follows that would go on with it.
use Rattle.std.proofs.Common.{◌≡◌, ◌≤◌, ◌<◌, ◌+◌, ℕ, zero, suc, max, Bool, true, false, not, ◌&&◌, ◌||◌, ◌++◌, List, [], ◌∷◌, length, map, Option, Some, None, refl, ap, sym, ◌∙◌, subst, append_assoc, arith}
use Rattle.std.specs.List.{AllByRecursion}
use Rattle.java_tree.specs.declared.tokens.Position.{Position}
use Rattle.java_tree.specs.declared.tokens.Mark.{Mark}
use Rattle.java_tree.specs.declared.tokens.Mark.TheVariants as m
use Rattle.java_tree.specs.Seen.{Token}
use Rattle.java_tree.specs.declared.types.Primitive.{Primitive}
use Rattle.java_tree.specs.declared.types.Primitive.TheVariants as primitive
use Rattle.java_tree.specs.declared.exprs.PrefixOp.{PrefixOp}
use Rattle.java_tree.specs.declared.exprs.PrefixOp.TheVariants as prefix
use Rattle.java_tree.specs.declared.tokens.Keyword.TheVariants as w
use Rattle.java_tree.specs.declared.exprs.PostfixOp.{PostfixOp}
use Rattle.java_tree.specs.declared.exprs.PostfixOp.TheVariants as postfix
use Rattle.java_tree.specs.declared.exprs.BinaryOp.{BinaryOp}
use Rattle.java_tree.specs.declared.exprs.BinaryOp.TheVariants as op
use Rattle.java_tree.specs.declared.exprs.AssignOp.{AssignOp}
use Rattle.java_tree.specs.declared.exprs.AssignOp.TheVariants as assign
use Rattle.java_tree.specs.declared.exprs.Span.{Span}
use Rattle.java_tree.specs.declared.exprs.JLiteral.{JLiteral}
use Rattle.java_tree.specs.declared.exprs.JCreated.{JCreated}
use Rattle.java_tree.specs.declared.exprs.JCreated.TheVariants as created
use Rattle.java_tree.specs.declared.exprs.JTypedParam.{JTypedParam}
use Rattle.java_tree.specs.declared.exprs.JParam.{JParam}
use Rattle.java_tree.specs.declared.exprs.JParams.{JParams}
use Rattle.java_tree.specs.declared.exprs.JParams.TheVariants as params
use Rattle.java_tree.specs.declared.types.JQualified.{JQualified}
use Rattle.java_tree.specs.declared.types.JBrackets.{JBrackets}
use Rattle.java_tree.specs.declared.types.JType.{JType, out-JType, roll-JType, roll-out-JType}
use Rattle.java_tree.specs.declared.types.JType.TheVariants as ty
use Rattle.java_tree.specs.declared.types.JType.TheOpen.{JType-F}
use Rattle.java_tree.specs.declared.exprs.JExpr.{JExpr, out-JExpr, roll-JExpr, roll-out-JExpr, map-JExpr}
use Rattle.java_tree.specs.declared.exprs.JExpr.TheVariants as e
use Rattle.java_tree.specs.declared.exprs.JExpr.TheOpen.{JExpr-F}
use Rattle.java_tree.specs.Seen.{Tokens}
use Rattle.java_tree.specs.Trees.{listed, AreBetween, prefix_mark, operator_tokens, assign_tokens, level, init_level, any_level, else_level, or_level, relation_level, unary_level, postfix_level, primary_level, is_test, is_test_by, is_sized, is_sized_by, is_least, may_compare, tokens, tokens_by, depth, depth_by, top, top_by, TypeStands, TypedStands, type_tokens, stands_by, Stands, is_primitive, is_primitive_by, is_class, is_class_by, is_array, is_array_by, may_cast, begins_sign, param_tokens, typed_tokens, qualified_tokens, brackets_tokens, created_tokens, created_stands, closing, args_close, trailing, braces_tokens}
use Rattle.java_expr_grammar.specs.Reading as r
use Rattle.java_expr_grammar.specs.Reading.{Reader, ◌>>=◌, maybe}
use Rattle.java_expr_grammar.specs.declared.suffix.Suffix.{Suffix}
use Rattle.java_expr_grammar.specs.declared.suffix.Suffix.TheVariants as sx
use Rattle.java_expr_grammar.proofs.Tools.{true_le, true_lt, false_lt}
use Rattle.java_expr_grammar.proofs.Lists as lists
use Rattle.java_expr_grammar.proofs.Lists.{inner_takes}
use Rattle.java_expr_grammar.proofs.TypeTexts.{tokens_Primitive}
use Rattle.java_expr_grammar.proofs.TypeLaws.{type_again, base_again, typed_again, qualified_again, brackets_again, closes_again, begins_less, begins_member, begins_pair, EndsBase, EndsType}
use Rattle.java_expr_grammar.proofs.Trees.{spelled, deep, deep_out, top_roll, within, resize, layer_resize, all_resized, type_resize, at_level, level_is}
use Rattle.java_expr_grammar.proofs.First.{First, further, first, starts, Begins, begins, begins_any, Named, names, longer, typed_named, any, sign_same, operand_first, primitive_first, skips, type_skips, ident_skips, typed_skips, names_begin, typed_begin, goes_inferred, inferred_begins, type_inferred}
use Rattle.java_expr_grammar.proofs.Soundness.{suffix_tokens}

-- ---- how strongly the next token goes on with what stands before it

abbrev ends_mark : Mark → ℕ
ends_mark m.CloseRound = 0
ends_mark m.Comma = 0
ends_mark m.Colon = 0
ends_mark m.CloseSquare = 0
ends_mark m.CloseCurly = 0
ends_mark m.Semicolon = 0
ends_mark _ = 99

abbrev ends : Tokens → ℕ
ends [] = 0
ends (Token.Sign mark at ∷ rest) = ends_mark mark
ends (Token.CloseBody at body ∷ rest) = 0
ends _ = 99

abbrev goes_op : BinaryOp → ℕ
goes_op op.OrElse = 8
goes_op op.AndAlso = 10
goes_op op.BitOr = 12
goes_op op.BitXor = 14
goes_op op.BitAnd = 16
goes_op op.Equal = 18
goes_op op.NotEqual = 18
goes_op op.Less = 21
goes_op op.LessEqual = 20
goes_op op.Greater = 20
goes_op (op.GreaterEqual second) = 20
goes_op op.ShiftLeft = 22
goes_op (op.ShiftRight second) = 22
goes_op (op.ShiftUnsigned second third) = 22
goes_op op.Add = 24
goes_op op.Subtract = 24
goes_op op.Multiply = 26
goes_op op.Divide = 26
goes_op op.Remainder = 26

-- twice the strength, and one more for a `<` and a `[`
abbrev goes : Suffix → ℕ
goes (sx.Binary op at) = goes_op op
goes (sx.Assign op at) = 2
goes (sx.Question at) = 6
goes (sx.Dot at) = 32
goes (sx.Square at) = 33
goes (sx.Postfix op at) = 30
goes (sx.Instanceof at) = 20

abbrev after_by : Option (Suffix × Tokens) → Tokens → ℕ
after_by (Some s) ts = goes s.0
after_by None ts = ends ts

abbrev pub after : Tokens → ℕ
after ts = after_by (r.suffix ts) ts

suffix_again : (s : Suffix) (rest : Tokens) → r.suffix (suffix_tokens s ++ rest) ≡ Some (s, rest)
unfolding r.suffix
suffix_again (sx.Binary op.OrElse at) rest = refl
suffix_again (sx.Binary op.AndAlso at) rest = refl
suffix_again (sx.Binary op.BitOr at) rest = refl
suffix_again (sx.Binary op.BitXor at) rest = refl
suffix_again (sx.Binary op.BitAnd at) rest = refl
suffix_again (sx.Binary op.Equal at) rest = refl
suffix_again (sx.Binary op.NotEqual at) rest = refl
suffix_again (sx.Binary op.Less at) rest = refl
suffix_again (sx.Binary op.LessEqual at) rest = refl
suffix_again (sx.Binary op.Greater at) rest = refl
suffix_again (sx.Binary (op.GreaterEqual second) at) rest = refl
suffix_again (sx.Binary op.ShiftLeft at) rest = refl
suffix_again (sx.Binary (op.ShiftRight second) at) rest = refl
suffix_again (sx.Binary (op.ShiftUnsigned second third) at) rest = refl
suffix_again (sx.Binary op.Add at) rest = refl
suffix_again (sx.Binary op.Subtract at) rest = refl
suffix_again (sx.Binary op.Multiply at) rest = refl
suffix_again (sx.Binary op.Divide at) rest = refl
suffix_again (sx.Binary op.Remainder at) rest = refl
suffix_again (sx.Assign assign.Plain at) rest = refl
suffix_again (sx.Assign assign.Add at) rest = refl
suffix_again (sx.Assign assign.Subtract at) rest = refl
suffix_again (sx.Assign assign.Multiply at) rest = refl
suffix_again (sx.Assign assign.Divide at) rest = refl
suffix_again (sx.Assign assign.Remainder at) rest = refl
suffix_again (sx.Assign assign.ShiftLeft at) rest = refl
suffix_again (sx.Assign (assign.ShiftRight second third) at) rest = refl
suffix_again (sx.Assign (assign.ShiftUnsigned second third fourth) at) rest = refl
suffix_again (sx.Assign assign.BitAnd at) rest = refl
suffix_again (sx.Assign assign.BitOr at) rest = refl
suffix_again (sx.Assign assign.BitXor at) rest = refl
suffix_again (sx.Question at) rest = refl
suffix_again (sx.Dot at) rest = refl
suffix_again (sx.Square at) rest = refl
suffix_again (sx.Postfix postfix.Increment at) rest = refl
suffix_again (sx.Postfix postfix.Decrement at) rest = refl
suffix_again (sx.Instanceof at) rest = refl

half_op : (op : BinaryOp) → level op + level op ≤ goes_op op
half_op op.OrElse = omega arith
half_op op.AndAlso = omega arith
half_op op.BitOr = omega arith
half_op op.BitXor = omega arith
half_op op.BitAnd = omega arith
half_op op.Equal = omega arith
half_op op.NotEqual = omega arith
half_op op.Less = omega arith
half_op op.LessEqual = omega arith
half_op op.Greater = omega arith
half_op (op.GreaterEqual second) = omega arith
half_op op.ShiftLeft = omega arith
half_op (op.ShiftRight second) = omega arith
half_op (op.ShiftUnsigned second third) = omega arith
half_op op.Add = omega arith
half_op op.Subtract = omega arith
half_op op.Multiply = omega arith
half_op op.Divide = omega arith
half_op op.Remainder = omega arith

half : (s : Suffix) → r.strength s + r.strength s ≤ goes s
half (sx.Binary op at) = half_op op
half (sx.Assign op at) = omega arith
half (sx.Question at) = omega arith
half (sx.Dot at) = omega arith
half (sx.Square at) = omega arith
half (sx.Postfix op at) = omega arith
half (sx.Instanceof at) = omega arith

level_large : (op : BinaryOp) → 4 ≤ level op
level_large op.OrElse = omega arith
level_large op.AndAlso = omega arith
level_large op.BitOr = omega arith
level_large op.BitXor = omega arith
level_large op.BitAnd = omega arith
level_large op.Equal = omega arith
level_large op.NotEqual = omega arith
level_large op.Less = omega arith
level_large op.LessEqual = omega arith
level_large op.Greater = omega arith
level_large (op.GreaterEqual second) = omega arith
level_large op.ShiftLeft = omega arith
level_large (op.ShiftRight second) = omega arith
level_large (op.ShiftUnsigned second third) = omega arith
level_large op.Add = omega arith
level_large op.Subtract = omega arith
level_large op.Multiply = omega arith
level_large op.Divide = omega arith
level_large op.Remainder = omega arith

goes_pos : (s : Suffix) → 2 ≤ goes s
goes_pos (sx.Binary op at) = omega (arith, half_op op, level_large op)
goes_pos (sx.Assign op at) = omega arith
goes_pos (sx.Question at) = omega arith
goes_pos (sx.Dot at) = omega arith
goes_pos (sx.Square at) = omega arith
goes_pos (sx.Postfix op at) = omega arith
goes_pos (sx.Instanceof at) = omega arith

-- what may follow a tree at a level. At the level of values in braces it is what may at the next.
abbrev pub limit : ℕ → ℕ
limit l = max 1 (l + l)

after_suffix : (s : Suffix) (rest : Tokens) → after (suffix_tokens s ++ rest) ≡ goes s
after_suffix s rest = ap (λ o. after_by o (suffix_tokens s ++ rest)) (suffix_again s rest)

-- ---- what may follow a form: what goes on less strongly than this

abbrev bound_by : JExpr-F JExpr → ℕ
bound_by (JExpr-F.Assign left op at right) = 2
bound_by (JExpr-F.Lambda params arrow body) = 2
bound_by (JExpr-F.Conditional left question then_ colon else_) = 2
bound_by (JExpr-F.Binary left op at right) = level op + level op + 2
bound_by (JExpr-F.Instanceof left at to) = 21
bound_by (JExpr-F.Prefix op at inner) = 28
bound_by (JExpr-F.Cast lp to rp inner) = 28
bound_by (JExpr-F.NewArray at of lb size rb more) = 33
bound_by _ = 34

abbrev pub bound : JExpr → ℕ
bound x = bound_by (out-JExpr x)

pub level_small : (op : BinaryOp) → level op ≤ 13
level_small op.OrElse = omega arith
level_small op.AndAlso = omega arith
level_small op.BitOr = omega arith
level_small op.BitXor = omega arith
level_small op.BitAnd = omega arith
level_small op.Equal = omega arith
level_small op.NotEqual = omega arith
level_small op.Less = omega arith
level_small op.LessEqual = omega arith
level_small op.Greater = omega arith
level_small (op.GreaterEqual second) = omega arith
level_small op.ShiftLeft = omega arith
level_small (op.ShiftRight second) = omega arith
level_small (op.ShiftUnsigned second third) = omega arith
level_small op.Add = omega arith
level_small op.Subtract = omega arith
level_small op.Multiply = omega arith
level_small op.Divide = omega arith
level_small op.Remainder = omega arith

layer_bound : (k : ℕ) (x : JExpr-F JExpr) → k ≤ 27 → or_level ≤ top_by x → k ≤ top_by x + top_by x → k < bound_by x
layer_bound k (JExpr-F.Assign left op at right) h g f = absurd (omega arith)
layer_bound k (JExpr-F.Lambda params arrow body) h g f = absurd (omega arith)
layer_bound k (JExpr-F.Conditional left question then_ colon else_) h g f = absurd (omega arith)
layer_bound k (JExpr-F.Binary left op at right) h g f = omega arith
layer_bound k (JExpr-F.Instanceof left at to) h g f = omega arith
layer_bound k (JExpr-F.Prefix op at inner) h g f = omega arith
layer_bound k (JExpr-F.Cast lp to rp inner) h g f = omega arith
layer_bound k _ h g f = omega arith

bounded : (k : ℕ) (x : JExpr) → k ≤ 27 → or_level ≤ top x → k ≤ top x + top x → k < bound x
unfolding top
bounded k x h g f = layer_bound k (out-JExpr x) h g f

layer_less : (x : JExpr-F JExpr) → 10 ≤ top_by x → is_test_by x ≡ false → 21 < bound_by x
layer_less (JExpr-F.Assign left op at right) g h = absurd (omega arith)
layer_less (JExpr-F.Lambda params arrow body) g h = absurd (omega arith)
layer_less (JExpr-F.Conditional left question then_ colon else_) g h = absurd (omega arith)
layer_less (JExpr-F.Binary left op at right) g h = omega arith
layer_less (JExpr-F.Instanceof left at to) g h = absurd (cc h)
layer_less (JExpr-F.Prefix op at inner) g h = omega arith
layer_less (JExpr-F.Cast lp to rp inner) g h = omega arith
layer_less _ g h = omega arith

not_false : (b : Bool) → not b ≡ true → b ≡ false
not_false true h = absurd (cc h)
not_false false h = refl

layer_goes : (op : BinaryOp) (x : JExpr-F JExpr) → level op ≤ top_by x → may_compare op (is_test_by x) ≡ true → goes_op op < bound_by x
layer_goes op.OrElse x g h = layer_bound 8 x (omega arith) (omega arith) (omega arith)
layer_goes op.AndAlso x g h = layer_bound 10 x (omega arith) (omega arith) (omega arith)
layer_goes op.BitOr x g h = layer_bound 12 x (omega arith) (omega arith) (omega arith)
layer_goes op.BitXor x g h = layer_bound 14 x (omega arith) (omega arith) (omega arith)
layer_goes op.BitAnd x g h = layer_bound 16 x (omega arith) (omega arith) (omega arith)
layer_goes op.Equal x g h = layer_bound 18 x (omega arith) (omega arith) (omega arith)
layer_goes op.NotEqual x g h = layer_bound 18 x (omega arith) (omega arith) (omega arith)
layer_goes op.Less x g h = layer_less x g (not_false _ h)
layer_goes op.LessEqual x g h = layer_bound 20 x (omega arith) (omega arith) (omega arith)
layer_goes op.Greater x g h = layer_bound 20 x (omega arith) (omega arith) (omega arith)
layer_goes (op.GreaterEqual second) x g h = layer_bound 20 x (omega arith) (omega arith) (omega arith)
layer_goes op.ShiftLeft x g h = layer_bound 22 x (omega arith) (omega arith) (omega arith)
layer_goes (op.ShiftRight second) x g h = layer_bound 22 x (omega arith) (omega arith) (omega arith)
layer_goes (op.ShiftUnsigned second third) x g h = layer_bound 22 x (omega arith) (omega arith) (omega arith)
layer_goes op.Add x g h = layer_bound 24 x (omega arith) (omega arith) (omega arith)
layer_goes op.Subtract x g h = layer_bound 24 x (omega arith) (omega arith) (omega arith)
layer_goes op.Multiply x g h = layer_bound 26 x (omega arith) (omega arith) (omega arith)
layer_goes op.Divide x g h = layer_bound 26 x (omega arith) (omega arith) (omega arith)
layer_goes op.Remainder x g h = layer_bound 26 x (omega arith) (omega arith) (omega arith)

goes_below : (op : BinaryOp) (x : JExpr) → level op ≤ top x → may_compare op (is_test x) ≡ true → goes_op op < bound x
unfolding top is_test
goes_below op x g h = layer_goes op (out-JExpr x) g h

layer_bound_pos : (x : JExpr-F JExpr) → 2 ≤ bound_by x
layer_bound_pos (JExpr-F.Binary left op at right) = omega arith
layer_bound_pos _ = omega arith

pub bound_pos : (x : JExpr) → 2 ≤ bound x
bound_pos x = layer_bound_pos (out-JExpr x)

layer_bound_primary : (x : JExpr-F JExpr) → postfix_level ≤ top_by x → 33 ≤ bound_by x
layer_bound_primary (JExpr-F.Assign left op at right) h = absurd (omega arith)
layer_bound_primary (JExpr-F.Lambda params arrow body) h = absurd (omega arith)
layer_bound_primary (JExpr-F.Conditional left question then_ colon else_) h = absurd (omega arith)
layer_bound_primary (JExpr-F.Binary left op at right) h = absurd (omega (arith, level_small op))
layer_bound_primary (JExpr-F.Instanceof left at to) h = absurd (omega arith)
layer_bound_primary (JExpr-F.Prefix op at inner) h = absurd (omega arith)
layer_bound_primary (JExpr-F.Cast lp to rp inner) h = absurd (omega arith)
layer_bound_primary _ h = omega arith

bound_primary : (x : JExpr) → postfix_level ≤ top x → 33 ≤ bound x
unfolding top
bound_primary x h = layer_bound_primary (out-JExpr x) h

layer_bound_whole : (x : JExpr-F JExpr) → postfix_level ≤ top_by x → is_sized_by x ≡ false → 34 ≤ bound_by x
layer_bound_whole (JExpr-F.Assign left op at right) h g = absurd (omega arith)
layer_bound_whole (JExpr-F.Lambda params arrow body) h g = absurd (omega arith)
layer_bound_whole (JExpr-F.Conditional left question then_ colon else_) h g = absurd (omega arith)
layer_bound_whole (JExpr-F.Binary left op at right) h g = absurd (omega (arith, level_small op))
layer_bound_whole (JExpr-F.Instanceof left at to) h g = absurd (omega arith)
layer_bound_whole (JExpr-F.Prefix op at inner) h g = absurd (omega arith)
layer_bound_whole (JExpr-F.Cast lp to rp inner) h g = absurd (omega arith)
layer_bound_whole (JExpr-F.NewArray at of lb size rb more) h g = absurd (cc g)
layer_bound_whole _ h g = omega arith

bound_whole : (x : JExpr) → postfix_level ≤ top x → is_sized x ≡ false → 34 ≤ bound x
unfolding top is_sized
bound_whole x h g = layer_bound_whole (out-JExpr x) h g

layer_bound_unary : (x : JExpr-F JExpr) → unary_level ≤ top_by x → 28 ≤ bound_by x
layer_bound_unary (JExpr-F.Assign left op at right) h = absurd (omega arith)
layer_bound_unary (JExpr-F.Lambda params arrow body) h = absurd (omega arith)
layer_bound_unary (JExpr-F.Conditional left question then_ colon else_) h = absurd (omega arith)
layer_bound_unary (JExpr-F.Binary left op at right) h = absurd (omega (arith, level_small op))
layer_bound_unary (JExpr-F.Instanceof left at to) h = absurd (omega arith)
layer_bound_unary _ h = omega arith

bound_unary : (x : JExpr) → unary_level ≤ top x → 28 ≤ bound x
unfolding top
bound_unary x h = layer_bound_unary (out-JExpr x) h

-- ---- what can't follow a primary

named_alone : (types base : Reader JType) (typed : Reader JTypedParam) (sub : ℕ → Reader JExpr) (n : List ℕ) (at : Position) (rest : Tokens) → after rest < 34 → r.named types base typed sub n at rest ≡ Some (e.Name n at, rest)
unfolding r.named r.suffix
named_alone types base typed sub n at (Token.Sign m.OpenRound lp ∷ rest) h = absurd (omega arith)
named_alone types base typed sub n at (Token.Sign m.Arrow lp ∷ rest) h = absurd (omega arith)
named_alone types base typed sub n at (Token.ArrowBody arrow body ∷ rest) h = absurd (omega arith)
named_alone types base typed sub n at _ h = refl

member_alone : (types base : Reader JType) (typed : Reader JTypedParam) (sub : ℕ → Reader JExpr) (left : JExpr) (dot : Position) (n : JParam) (rest : Tokens) → after rest < 34 → r.member types base typed sub left dot n rest ≡ Some (e.Field left dot n.name n.at, rest)
unfolding r.member r.suffix
member_alone types base typed sub left dot n (Token.Sign m.OpenRound lp ∷ rest) h = absurd (omega arith)
member_alone types base typed sub left dot n _ h = refl

not_less_after : (rest : Tokens) → after rest < 21 → begins_less rest ≡ false
unfolding r.suffix
not_less_after (Token.Sign m.Less at ∷ rest) h = absurd (omega arith)
not_less_after _ h = refl

not_member_after : (rest : Tokens) → after rest < 32 → begins_member rest ≡ false
unfolding r.suffix
not_member_after (Token.Sign m.Dot d ∷ Token.Id n at ∷ rest) h = absurd (omega arith)
not_member_after _ h = refl

not_pair_after : (rest : Tokens) → after rest < 33 → begins_pair rest ≡ false
unfolding r.suffix
not_pair_after (Token.Sign m.OpenSquare o ∷ Token.Sign m.CloseSquare c ∷ rest) h = absurd (omega arith)
not_pair_after _ h = refl

ends_type_after : (rest : Tokens) → after rest < 21 → EndsType rest
ends_type_after rest h = (not_member_after rest (omega arith), not_less_after rest h, not_pair_after rest (omega arith))

not_arrow : (rest : Tokens) → after rest < 34 → r.begins_arrow rest ≡ false
unfolding r.suffix
not_arrow (Token.Sign m.Arrow at ∷ rest) h = absurd (omega arith)
not_arrow (Token.ArrowBody at body ∷ rest) h = absurd (omega arith)
not_arrow _ h = refl

not_operand : (rest : Tokens) → after rest < 34 → r.begins_operand rest ≡ false
unfolding r.suffix
not_operand (Token.Id n at ∷ rest) h = absurd (omega arith)
not_operand (Token.Literal n at ∷ rest) h = absurd (omega arith)
not_operand (Token.Sign m.OpenRound at ∷ rest) h = absurd (omega arith)
not_operand (Token.Sign m.Not at ∷ rest) h = absurd (omega arith)
not_operand (Token.Sign m.Tilde at ∷ rest) h = absurd (omega arith)
not_operand (Token.Word w.This at ∷ rest) h = absurd (omega arith)
not_operand (Token.Word w.Super at ∷ rest) h = absurd (omega arith)
not_operand (Token.Word w.New at ∷ rest) h = absurd (omega arith)
not_operand _ h = refl

-- ---- forms that no suffix makes

starts_no_arrow : (a b : Tokens) → First a → r.begins_arrow (a ++ b) ≡ false
starts_no_arrow a b f = rw f.is (no_arrow f.head _ f.starts)
  where
    no_arrow : (x : Token) (ts : Tokens) → starts x ≡ true → r.begins_arrow (x ∷ ts) ≡ false
    no_arrow (Token.Sign m.Arrow at) ts h = absurd (cc h)
    no_arrow (Token.ArrowBody at body) ts h = absurd (cc h)
    no_arrow _ ts h = refl

-- a list of arguments or of values that ends at once begins with no tree

starts_no_end : (ts : Tokens) → First ts → r.args_end ts ≡ None
starts_no_end ts f = rw f.is (no_end f.head f.tail f.starts)
  where
    no_end : (x : Token) (ts : Tokens) → starts x ≡ true → r.args_end (x ∷ ts) ≡ None
    no_end (Token.Sign m.CloseRound at) ts h = absurd (cc h)
    no_end (Token.CloseBody at body) ts h = absurd (cc h)
    no_end _ ts h = refl

begins_no_end : (a b : Tokens) → Begins a → r.braces_end (a ++ b) ≡ None
begins_no_end a b f = rw f.is (no_end f.head (f.tail ++ b) f.begins)
  where
    no_end : (x : Token) (ts : Tokens) → begins x ≡ true → r.braces_end (x ∷ ts) ≡ None
    no_end (Token.Sign m.Comma at) ts h = absurd (cc h)
    no_end (Token.Sign m.CloseCurly at) ts h = absurd (cc h)
    no_end _ ts h = refl

begins_no_close : (a b : Tokens) → Begins a → lists.begins_close (a ++ b) ≡ false
begins_no_close a b f = rw f.is (no_close f.head (f.tail ++ b) f.begins)
  where
    no_close : (x : Token) (ts : Tokens) → begins x ≡ true → lists.begins_close (x ∷ ts) ≡ false
    no_close (Token.Sign m.CloseCurly at) ts h = absurd (cc h)
    no_close _ ts h = refl

named_no_close : (ts : Tokens) → Named ts → r.close ts ≡ None
named_no_close ts f = rw f.is (no_close f.head f.tail f.names)
  where
    no_close : (x : Token) (ts : Tokens) → names x ≡ true → r.close (x ∷ ts) ≡ None
    no_close (Token.Sign m.CloseRound at) ts h = absurd (cc h)
    no_close _ ts h = refl

-- the ends of arguments and of values

args_end_again : (rp : Position) (body : Option Span) (rest : Tokens) → r.args_end (args_close rp body ∷ rest) ≡ Some ((rp, body), rest)
args_end_again rp None rest = refl
args_end_again rp (Some body) rest = refl

args_end_after : (rp : Position) (body : Option Span) (rest : Tokens) → after (args_close rp body ∷ rest) ≡ 0
unfolding r.suffix
args_end_after rp None rest = refl
args_end_after rp (Some body) rest = refl

args_end_comma : (rp : Position) (body : Option Span) (rest : Tokens) → r.comma (args_close rp body ∷ rest) ≡ None
args_end_comma rp None rest = refl
args_end_comma rp (Some body) rest = refl

braces_end_again : (more : Option Position) (rc : Position) (rest : Tokens) → r.braces_end (trailing more ++ Token.Sign m.CloseCurly rc ∷ rest) ≡ Some ((more, rc), rest)
braces_end_again None rc rest = refl
braces_end_again (Some at) rc rest = refl

braces_end_after : (more : Option Position) (rc : Position) (rest : Tokens) → after (trailing more ++ Token.Sign m.CloseCurly rc ∷ rest) ≡ 0
unfolding r.suffix
braces_end_after None rc rest = refl
braces_end_after (Some at) rc rest = refl

braces_end_comma : (more : Option Position) (rc : Position) (rest : Tokens) → r.inner_comma (trailing more ++ Token.Sign m.CloseCurly rc ∷ rest) ≡ None
braces_end_comma None rc rest = refl
braces_end_comma (Some at) rc rest = refl

both_hold : {a b : Bool} → a ≡ true → b ≡ true → (a && b) ≡ true
both_hold h g = rw (h, g) refl

abbrev Again : ℕ → Type 0
Again d = (l : ℕ) (x : JExpr) → Stands d l x → (rest : Tokens) → after rest < limit l → after rest < bound x → r.read d l (tokens x ++ rest) ≡ Some (x, rest)

module _ (d : ℕ) (again : Again d) where
  abbrev types : Reader JType
  types = r.type_read d

  abbrev base : Reader JType
  base = r.base_read (suc d)

  abbrev typed : Reader JTypedParam
  typed = r.typed_read d

  abbrev sub : ℕ → Reader JExpr
  sub = r.read d

  commas_low : (at : Position) (rest : Tokens) → after (Token.Sign m.Comma at ∷ rest) < 2
  unfolding r.suffix
  commas_low at rest = omega arith

  commas_lower : (at : Position) (rest : Tokens) → after (Token.Sign m.Comma at ∷ rest) < 1
  unfolding r.suffix
  commas_lower at rest = omega arith

  -- a part that a mark ends
  part : (l : ℕ) (x : JExpr) → Stands d l x → (rest : Tokens) → after rest ≡ 0 → sub l (tokens x ++ rest) ≡ Some (x, rest)
  part l x s rest e = again l x s rest (omega arith) (omega (arith, bound_pos x))

  paren_again : (lp rp : Position) (inner : JExpr) (rest : Tokens) → Stands d any_level inner → after rest < 34
      → r.group types base typed sub lp (tokens inner ++ Token.Sign m.CloseRound rp ∷ rest) ≡ Some (e.Paren lp inner rp, rest)
  unfolding r.group r.paren r.after_close r.suffix
  paren_again lp rp inner rest s h =
      let f = first d any_level inner (omega arith) s in
      rw (
        (skips d any_level inner s).go 0 (Token.Sign m.CloseRound rp ∷ rest),
        not_arrow rest h,
        primitive_first (tokens inner) (Token.Sign m.CloseRound rp ∷ rest) f,
        not_operand rest h,
        part any_level inner s (Token.Sign m.CloseRound rp ∷ rest) refl,
      ) refl

  or_true : (b : Bool) → (b || true) ≡ true
  or_true true = refl
  or_true false = refl

  primitive_seen : (p : Primitive) (at : Position) (other : Tokens) (b : Bool) → (r.begins_primitive (type_tokens (ty.Primitive p at) ++ other) || b) ≡ true
  primitive_seen primitive.Byte at other b = rw (tokens_Primitive primitive.Byte at) refl
  primitive_seen primitive.Short at other b = rw (tokens_Primitive primitive.Short at) refl
  primitive_seen primitive.Char at other b = rw (tokens_Primitive primitive.Char at) refl
  primitive_seen primitive.Int at other b = rw (tokens_Primitive primitive.Int at) refl
  primitive_seen primitive.Long at other b = rw (tokens_Primitive primitive.Long at) refl
  primitive_seen primitive.Boolean at other b = rw (tokens_Primitive primitive.Boolean at) refl

  layer_seen : (to : JType-F JType) (inner : JExpr) (other rest : Tokens) → First (tokens inner) → may_cast (is_primitive_by to) (tokens inner)
      → (r.begins_primitive (type_tokens (roll-JType to) ++ other) || r.begins_operand (tokens inner ++ rest)) ≡ true
  layer_seen (JType-F.Primitive p at) inner other rest f h =
      subst (λ (z : JType). (r.begins_primitive (type_tokens z ++ other) || r.begins_operand (tokens inner ++ rest)) ≡ true) (sym (ty.rolls-Primitive p at)) (primitive_seen p at other _)
  layer_seen (JType-F.Class n) inner other rest f h = rw (operand_first (tokens inner) rest f h) (or_true _)
  layer_seen (JType-F.Applied n lp args commas j rp) inner other rest f h = rw (operand_first (tokens inner) rest f h) (or_true _)
  layer_seen (JType-F.Array element brackets) inner other rest f h = rw (operand_first (tokens inner) rest f h) (or_true _)

  cast_seen : (to : JType) (inner : JExpr) (other rest : Tokens) → First (tokens inner) → may_cast (is_primitive to) (tokens inner)
      → (r.begins_primitive (type_tokens to ++ other) || r.begins_operand (tokens inner ++ rest)) ≡ true
  cast_seen to inner other rest f h =
      subst (λ (z : JType). (r.begins_primitive (type_tokens z ++ other) || r.begins_operand (tokens inner ++ rest)) ≡ true) (roll-out-JType to)
      (layer_seen (out-JType to) inner other rest f h)

  cast_allowed : (p : Bool) (a b : Tokens) → First a → may_cast p a → (p || not (begins_sign (a ++ b))) ≡ true
  cast_allowed true a b f h = refl
  cast_allowed false a b f h = rw (sign_same a b f, h) refl

  cast_again : (lp rp : Position) (to : JType) (inner : JExpr) (rest : Tokens) → TypeStands d to → Stands d unary_level inner → may_cast (is_primitive to) (tokens inner) → after rest < 28
      → r.group types base typed sub lp (type_tokens to ++ Token.Sign m.CloseRound rp ∷ (tokens inner ++ rest)) ≡ Some (e.Cast lp to rp inner, rest)
  unfolding r.group r.cast r.cast_of r.after_close
  cast_again lp rp to inner rest k s h fits =
      let f = first d unary_level inner (omega arith) s in
      let low : after rest < bound inner = omega (arith, bound_unary inner (level_is d unary_level inner s)) in
      rw (
        (type_skips d to k).go 0 (Token.Sign m.CloseRound rp ∷ (tokens inner ++ rest)),
        starts_no_arrow (tokens inner) rest f,
        cast_seen to inner (Token.Sign m.CloseRound rp ∷ (tokens inner ++ rest)) rest f h,
        type_again d to k (Token.Sign m.CloseRound rp ∷ (tokens inner ++ rest)) (refl, refl, refl),
        cast_allowed (is_primitive to) (tokens inner) rest f h,
        again unary_level inner s rest fits low,
      ) refl

  lambda_again : (ps : JParams) (arrow : Position) (body : JExpr) (rest : Tokens) → Stands d any_level body → after rest < 2
      → r.lambda types base typed sub ps (Token.Sign m.Arrow arrow ∷ (tokens body ++ rest)) ≡ Some (e.Lambda ps arrow body, rest)
  unfolding r.lambda r.lambda_body
  lambda_again ps arrow body rest s h = rw (again any_level body s rest h (omega (arith, bound_pos body))) refl

  block_again : (ps : JParams) (arrow : Position) (body : Span) (rest : Tokens) → r.lambda types base typed sub ps (Token.ArrowBody arrow body ∷ rest) ≡ Some (e.LambdaBlock ps arrow body, rest)
  unfolding r.lambda
  block_again ps arrow body rest = refl

  -- parameters in parentheses, with the rest of a lambda behind them
  several_again : (lp rp : Position) (ps : List JParam) (commas : List Position) (ts : Tokens) (y : JExpr × Tokens) → (1 ≤ length ps) × AreBetween commas ps → r.begins_arrow ts ≡ true
      → r.lambda types base typed sub (params.Several lp ps commas rp) ts ≡ Some y → r.group types base typed sub lp (listed commas (map param_tokens ps) ++ Token.Sign m.CloseRound rp ∷ ts) ≡ Some y
  unfolding r.group r.lambda_of r.lambda_names r.after_close
  several_again lp rp [] commas ts y g a h = absurd (omega (arith, g.0))
  several_again lp rp (p ∷ ps) commas ts y g a h =
      rw (
        (ident_skips (p ∷ ps) commas).go 0 (Token.Sign m.CloseRound rp ∷ ts),
        a,
        names_begin p ps commas rp ts g.1,
        lists.by_again JParam param_tokens (λ p. Unit {0}) (λ rest. Unit {0}) (λ at rest. tt) r.comma r.ident (λ p s at rest. refl) (λ p s rest q. refl) p ps commas (Token.Sign m.CloseRound rp ∷ ts) g.1 (any (p ∷ ps)) tt refl,
      ) h

  typed_from_again : (ps : List JTypedParam) (commas : List Position) (rp : Position) (ts : Tokens) → AreBetween commas ps → AllByRecursion (TypedStands d) ps
      → r.typed_from types base typed sub (listed commas (map typed_tokens ps) ++ Token.Sign m.CloseRound rp ∷ ts) ≡ Some ((ps, commas), Token.Sign m.CloseRound rp ∷ ts)
  unfolding r.typed_from
  typed_from_again [] commas rp ts b all = rw b refl
  typed_from_again (p ∷ ps) commas rp ts b all =
      rw (named_no_close (listed commas (map typed_tokens (p ∷ ps)) ++ Token.Sign m.CloseRound rp ∷ ts) (longer _ _ (longer _ _ (typed_named d p all.0))))
      (lists.by_again JTypedParam typed_tokens (TypedStands d) (λ rest. Unit {0}) (λ at rest. tt) r.comma typed (λ p s at rest. refl) (λ p s rest q. typed_again d p s rest)
      p ps commas (Token.Sign m.CloseRound rp ∷ ts) b all tt refl)

  typed_params_again : (lp rp : Position) (ps : List JTypedParam) (commas : List Position) (ts : Tokens) (y : JExpr × Tokens) → AreBetween commas ps → AllByRecursion (TypedStands d) ps → r.begins_arrow ts ≡ true
      → r.lambda types base typed sub (params.Typed lp ps commas rp) ts ≡ Some y → r.group types base typed sub lp (listed commas (map typed_tokens ps) ++ Token.Sign m.CloseRound rp ∷ ts) ≡ Some y
  unfolding r.group r.lambda_of r.lambda_typed r.after_close
  typed_params_again lp rp ps commas ts y b all a h =
      rw (
        (typed_skips d ps commas all).go 0 (Token.Sign m.CloseRound rp ∷ ts),
        a,
        typed_begin d ps commas rp ts all,
        typed_from_again ps commas rp ts b all,
      ) h

  pub args_again : (args : List JExpr) (commas : List Position) (rp : Position) (body : Option Span) (rest : Tokens) → AreBetween commas args → AllByRecursion (Stands d any_level) args
      → r.args_from types base typed sub (listed commas (map tokens args) ++ args_close rp body ∷ rest) ≡ Some ((args, commas), args_close rp body ∷ rest)
  unfolding r.args_from
  args_again [] commas rp body rest b all = rw (b, args_end_again rp body rest) refl
  args_again (x ∷ xs) commas rp body rest b all =
      rw (starts_no_end (listed commas (map tokens (x ∷ xs)) ++ args_close rp body ∷ rest) (further _ _ (further _ _ (first d any_level x (omega arith) all.0))))
      (lists.by_again JExpr tokens (Stands d any_level) (λ rest. after rest < 2) commas_low r.comma (sub any_level) (λ x s at rest. refl)
      (λ x s rest q. again any_level x s rest q (omega (arith, bound_pos x))) x xs commas (args_close rp body ∷ rest) b all (omega (arith, args_end_after rp body rest)) (args_end_comma rp body rest))

  inits_again : (inits : List JExpr) (commas : List Position) (more : Option Position) (rc : Position) (rest : Tokens) → AreBetween commas inits → AllByRecursion (Stands d init_level) inits
      → r.inits types base typed sub (listed commas (map tokens inits) ++ (trailing more ++ Token.Sign m.CloseCurly rc ∷ rest)) ≡ Some ((inits, commas), trailing more ++ Token.Sign m.CloseCurly rc ∷ rest)
  unfolding r.inits
  inits_again [] commas more rc rest b all = rw (b, braces_end_again more rc rest) refl
  inits_again (x ∷ xs) commas more rc rest b all =
      rw (
        append_assoc (tokens x) _ (trailing more ++ Token.Sign m.CloseCurly rc ∷ rest),
        begins_no_end (tokens x) _ (begins_any d init_level x all.0),
        ← append_assoc (tokens x) _ (trailing more ++ Token.Sign m.CloseCurly rc ∷ rest),
      )
      (lists.by_again JExpr tokens (Stands d init_level) (λ rest. after rest < 1) commas_lower r.inner_comma (sub init_level)
      (λ x s at rest. inner_takes at (tokens x ++ rest) (begins_no_close (tokens x) rest (begins_any d init_level x s)))
      (λ x s rest q. again init_level x s rest q (omega (arith, bound_pos x))) x xs commas (trailing more ++ Token.Sign m.CloseCurly rc ∷ rest) b all (omega (arith, braces_end_after more rc rest)) (braces_end_comma more rc rest))

  call_again : (n : List ℕ) (at lp rp : Position) (args : List JExpr) (commas : List Position) (rest : Tokens) → AreBetween commas args → AllByRecursion (Stands d any_level) args
      → r.call types base typed sub n at lp (listed commas (map tokens args) ++ Token.Sign m.CloseRound rp ∷ rest) ≡ Some (e.Call n at lp args commas rp, rest)
  unfolding r.call
  call_again n at lp rp args commas rest b all = rw (args_again args commas rp None rest b all) refl

  super_again : (above dot : Position) (n : List ℕ) (at lp rp : Position) (args : List JExpr) (commas : List Position) (rest : Tokens) → AreBetween commas args → AllByRecursion (Stands d any_level) args
      → r.super_call types base typed sub above (Token.Sign m.Dot dot ∷ Token.Id n at ∷ Token.Sign m.OpenRound lp ∷ (listed commas (map tokens args) ++ Token.Sign m.CloseRound rp ∷ rest)) ≡ Some (e.SuperCall above dot n at lp args commas rp, rest)
  unfolding r.super_call r.super_args
  super_again above dot n at lp rp args commas rest b all = rw (args_again args commas rp None rest b all) refl

  unary_part : (inner : JExpr) (rest : Tokens) → Stands d unary_level inner → after rest < 28 → sub unary_level (tokens inner ++ rest) ≡ Some (inner, rest)
  unary_part inner rest s h = again unary_level inner s rest h (omega (arith, bound_unary inner (level_is d unary_level inner s)))

  named_call : (n : List ℕ) (at lp : Position) (ts : Tokens) → r.named types base typed sub n at (Token.Sign m.OpenRound lp ∷ ts) ≡ r.call types base typed sub n at lp ts
  unfolding r.named
  named_call n at lp ts = refl

  named_lambda : (p : JParam) (arrow : Position) (ts : Tokens) → r.named types base typed sub p.name p.at (Token.Sign m.Arrow arrow ∷ ts) ≡ r.lambda types base typed sub (params.One p) (Token.Sign m.Arrow arrow ∷ ts)
  unfolding r.named
  named_lambda p arrow ts = refl

  named_block : (p : JParam) (arrow : Position) (body : Span) (ts : Tokens) → r.named types base typed sub p.name p.at (Token.ArrowBody arrow body ∷ ts) ≡ r.lambda types base typed sub (params.One p) (Token.ArrowBody arrow body ∷ ts)
  unfolding r.named
  named_block p arrow body ts = refl

  prefixed_again : (op : PrefixOp) (at : Position) (inner : JExpr) (rest : Tokens) → Stands d unary_level inner → after rest < 28
      → r.prefixed types base typed sub (Some op) at (tokens inner ++ rest) ≡ Some (e.Prefix op at inner, rest)
  unfolding r.prefixed
  prefixed_again op at inner rest s h = rw (unary_part inner rest s h) refl

  -- No tree begins with a literal that only `-` takes.
  minus_head : (at : Position) (x : Token) (ts : Tokens) → starts x ≡ true → r.minus types base typed sub at (x ∷ ts) ≡ r.prefixed types base typed sub (Some prefix.Minus) at (x ∷ ts)
  minus_head at (Token.Literal literal p) ts h = rw (not_false (is_least literal) h) refl
  minus_head at _ ts h = refl

  minus_plain : (at : Position) (ts : Tokens) → First ts → r.minus types base typed sub at ts ≡ r.prefixed types base typed sub (Some prefix.Minus) at ts
  minus_plain at ts f = subst (λ (z : Tokens). r.minus types base typed sub at z ≡ r.prefixed types base typed sub (Some prefix.Minus) at z) (sym f.is) (minus_head at f.head f.tail f.starts)

  prefix_again : (op : PrefixOp) (at : Position) (inner : JExpr) (rest : Tokens) → Stands d unary_level inner → after rest < 28
      → r.marked types base typed sub (prefix_mark op) at (tokens inner ++ rest) ≡ Some (e.Prefix op at inner, rest)
  prefix_again prefix.Plus at inner rest s h = prefixed_again prefix.Plus at inner rest s h
  prefix_again prefix.Minus at inner rest s h = minus_plain at (tokens inner ++ rest) (further _ _ (first d unary_level inner (omega arith) s)) ∙ prefixed_again prefix.Minus at inner rest s h
  prefix_again prefix.Increment at inner rest s h = prefixed_again prefix.Increment at inner rest s h
  prefix_again prefix.Decrement at inner rest s h = prefixed_again prefix.Decrement at inner rest s h
  prefix_again prefix.Complement at inner rest s h = prefixed_again prefix.Complement at inner rest s h
  prefix_again prefix.Not at inner rest s h = prefixed_again prefix.Not at inner rest s h

  least_again : (minus : Position) (literal : JLiteral) (at : Position) (rest : Tokens) → is_least literal ≡ true → r.marked types base typed sub m.Minus minus (Token.Literal literal at ∷ rest) ≡ Some (e.MinusLeast minus literal at, rest)
  least_again minus literal at rest h = rw h refl

  -- ---- what is created

  new_args_again : (at : Position) (made : JCreated) (lp rp : Position) (args : List JExpr) (commas : List Position) (body : Option Span) (rest : Tokens) → AreBetween commas args → AllByRecursion (Stands d any_level) args
      → r.new_args types base typed sub at made lp (listed commas (map tokens args) ++ args_close rp body ∷ rest) ≡ Some (e.New at made lp args commas rp body, rest)
  unfolding r.new_args
  new_args_again at made lp rp args commas body rest b all = rw (args_again args commas rp body rest b all, args_end_again rp body rest) refl

  inferred_again : (q : JQualified) (lp : Position) (j : Bool) (close : Position) (rest : Tokens) → r.inferred (created_tokens (created.Inferred q lp j close) ++ rest) ≡ Some (created.Inferred q lp j close, rest)
  inferred_again q lp j close rest =
      ap r.inferred (append_assoc (qualified_tokens q) (Token.Sign m.Less lp ∷ Token.Sign (closing j) close ∷ []) rest)
      ∙ ap (λ (y : JQualified × Tokens). r.inferred_by y.0 y.1) (qualified_again q (Token.Sign m.Less lp ∷ Token.Sign (closing j) close ∷ rest) refl)
      ∙ rw (closes_again j close rest) refl

  -- behind the type of what is created
  round_inferred : (lp : Position) (ts : Tokens) → goes_inferred (Token.Sign m.OpenRound lp ∷ ts) ≡ false
  unfolding r.dotted
  round_inferred lp ts = refl

  square_inferred : (lb : Position) (ts : Tokens) → goes_inferred (Token.Sign m.OpenSquare lb ∷ ts) ≡ false
  unfolding r.dotted
  square_inferred lb ts = refl

  typed_creation : (at : Position) (of : JType) (mark : Mark) (p : Position) (ts : Tokens) → TypeStands (suc d) of → is_array of ≡ false → EndsBase (Token.Sign mark p ∷ ts)
      → goes_inferred (Token.Sign mark p ∷ ts) ≡ false
      → r.creation types base typed sub at (type_tokens of ++ Token.Sign mark p ∷ ts) ≡ r.new_of types base typed sub at of (Token.Sign mark p ∷ ts)
  unfolding r.creation
  typed_creation at of mark p ts s a ends g = rw (type_inferred (suc d) of s (Token.Sign mark p ∷ ts) g, base_again (suc d) of s a (Token.Sign mark p ∷ ts) ends) refl

  -- A class is no array.
  class_no_array : (x : JType) → is_class x ≡ true → is_array x ≡ false
  class_no_array x h = layer (out-JType x) h
    where
      layer : (x : JType-F JType) → is_class_by x ≡ true → is_array_by x ≡ false
      layer (JType-F.Array element brackets) h = absurd (cc h)
      layer _ h = refl

  new_again : (at : Position) (made : JCreated) (lp rp : Position) (args : List JExpr) (commas : List Position) (body : Option Span) (rest : Tokens) → created_stands d made → AreBetween commas args → AllByRecursion (Stands d any_level) args
      → r.creation types base typed sub at (created_tokens made ++ Token.Sign m.OpenRound lp ∷ (listed commas (map tokens args) ++ args_close rp body ∷ rest)) ≡ Some (e.New at made lp args commas rp body, rest)
  unfolding r.creation r.new_inferred
  new_again at (created.Type x) lp rp args commas body rest s b all =
      typed_creation at x m.OpenRound lp _ s.0 (class_no_array x s.1) (refl, refl) (round_inferred lp _) ∙ rw s.1 (new_args_again at (created.Type x) lp rp args commas body rest b all)
  new_again at (created.Inferred q lb j close) lp rp args commas body rest s b all =
      let ts : Tokens = Token.Sign m.OpenRound lp ∷ (listed commas (map tokens args) ++ args_close rp body ∷ rest) in
      rw (inferred_begins q lb j close ts, inferred_again q lb j close ts) (new_args_again at (created.Inferred q lb j close) lp rp args commas body rest b all)

  array_head : (at : Position) (of : JType) (lb : Position) (x : Token) (ts : Tokens) → starts x ≡ true → r.new_array types base typed sub at of lb (x ∷ ts) ≡ r.new_sized types base typed sub at of lb (x ∷ ts)
  array_head at of lb (Token.Sign m.CloseSquare rb) ts h = absurd (cc h)
  array_head at of lb _ ts h = refl

  array_sized : (at : Position) (of : JType) (lb : Position) (ts : Tokens) → First ts → r.new_array types base typed sub at of lb ts ≡ r.new_sized types base typed sub at of lb ts
  array_sized at of lb ts f = subst (λ (z : Tokens). r.new_array types base typed sub at of lb z ≡ r.new_sized types base typed sub at of lb z) (sym f.is) (array_head at of lb f.head f.tail f.starts)

  sized_again : (at : Position) (of : JType) (lb : Position) (size : JExpr) (rb : Position) (more : List JBrackets) (rest : Tokens) → Stands d any_level size → after rest < 33
      → r.new_sized types base typed sub at of lb (tokens size ++ Token.Sign m.CloseSquare rb ∷ (brackets_tokens more ++ rest)) ≡ Some (e.NewArray at of lb size rb more, rest)
  unfolding r.new_sized r.suffix
  sized_again at of lb size rb more rest s h =
      rw (part any_level size s (Token.Sign m.CloseSquare rb ∷ (brackets_tokens more ++ rest)) refl, brackets_again more rest (not_pair_after rest h)) refl

  new_array_again : (at : Position) (of : JType) (lb : Position) (size : JExpr) (rb : Position) (more : List JBrackets) (rest : Tokens) → TypeStands (suc d) of → is_array of ≡ false → Stands d any_level size → after rest < 33
      → r.creation types base typed sub at (type_tokens of ++ Token.Sign m.OpenSquare lb ∷ (tokens size ++ Token.Sign m.CloseSquare rb ∷ (brackets_tokens more ++ rest))) ≡ Some (e.NewArray at of lb size rb more, rest)
  new_array_again at of lb size rb more rest k a s h =
      typed_creation at of m.OpenSquare lb _ k a (refl, refl) (square_inferred lb _)
      ∙ array_sized at of lb _ (further _ _ (first d any_level size (omega arith) s)) ∙ sized_again at of lb size rb more rest s h

  -- the values in braces, behind the `{`
  values_again : (commas : List Position) (inits : List JExpr) (more : Option Position) (rc : Position) (rest : Tokens) → (listed commas (map tokens inits) ++ (trailing more ++ Token.Sign m.CloseCurly rc ∷ [])) ++ rest ≡ listed commas (map tokens inits) ++ (trailing more ++ Token.Sign m.CloseCurly rc ∷ rest)
  values_again commas inits more rc rest =
      append_assoc (listed commas (map tokens inits)) _ rest ∙ ap (λ r. listed commas (map tokens inits) ++ r) (append_assoc (trailing more) (Token.Sign m.CloseCurly rc ∷ []) rest)

  braces_again : (lc : Position) (inits : List JExpr) (commas : List Position) (more : Option Position) (rc : Position) (rest : Tokens) → AreBetween commas inits → AllByRecursion (Stands d init_level) inits
      → r.braces types base typed sub lc (listed commas (map tokens inits) ++ (trailing more ++ Token.Sign m.CloseCurly rc ∷ rest)) ≡ Some (e.Braces lc inits commas more rc, rest)
  unfolding r.braces
  braces_again lc inits commas more rc rest b all = rw (inits_again inits commas more rc rest b all, braces_end_again more rc rest) refl

  filled_again : (at : Position) (of : JType) (pairs : List JBrackets) (lc : Position) (inits : List JExpr) (commas : List Position) (more : Option Position) (rc : Position) (rest : Tokens) → AreBetween commas inits → AllByRecursion (Stands d init_level) inits
      → r.new_filled types base typed sub at of pairs (Token.Sign m.OpenCurly lc ∷ (listed commas (map tokens inits) ++ (trailing more ++ Token.Sign m.CloseCurly rc ∷ rest))) ≡ Some (e.NewFilled at of pairs lc inits commas more rc, rest)
  unfolding r.new_filled
  filled_again at of pairs lc inits commas more rc rest b all = rw (inits_again inits commas more rc rest b all, braces_end_again more rc rest) refl

  new_filled_again : (at : Position) (of : JType) (pairs : List JBrackets) (lc : Position) (inits : List JExpr) (commas : List Position) (more : Option Position) (rc : Position) (rest : Tokens) → TypeStands (suc d) of → is_array of ≡ false
      → 1 ≤ length pairs → AreBetween commas inits → AllByRecursion (Stands d init_level) inits
      → r.creation types base typed sub at (type_tokens of ++ (brackets_tokens pairs ++ Token.Sign m.OpenCurly lc ∷ (listed commas (map tokens inits) ++ (trailing more ++ Token.Sign m.CloseCurly rc ∷ rest))))
      ≡ Some (e.NewFilled at of pairs lc inits commas more rc, rest)
  new_filled_again at of [] lc inits commas more rc rest k a h b all = absurd (omega (arith, h))
  new_filled_again at of (x ∷ xs) lc inits commas more rc rest k a h b all =
      typed_creation at of m.OpenSquare x.opens _ k a (refl, refl) (square_inferred x.opens _)
      ∙ rw (brackets_again xs (Token.Sign m.OpenCurly lc ∷ (listed commas (map tokens inits) ++ (trailing more ++ Token.Sign m.CloseCurly rc ∷ rest))) refl)
      (filled_again at of (x ∷ xs) lc inits commas more rc rest b all)

  three : (a b c e : Tokens) → (a ++ (b ++ c)) ++ e ≡ a ++ (b ++ (c ++ e))
  three a b c e = append_assoc a (b ++ c) e ∙ ap (λ r. a ++ r) (append_assoc b c e)

  in_round : (a : Tokens) (rp : Position) (ts rest : Tokens) → ((a ++ Token.Sign m.CloseRound rp ∷ []) ++ ts) ++ rest ≡ a ++ Token.Sign m.CloseRound rp ∷ (ts ++ rest)
  in_round a rp ts rest = append_assoc (a ++ Token.Sign m.CloseRound rp ∷ []) ts rest ∙ append_assoc a (Token.Sign m.CloseRound rp ∷ []) (ts ++ rest)

  -- the layers that no suffix makes
  abbrev IsOperand : JExpr-F JExpr → Type 0
  IsOperand (JExpr-F.Field left dot n at) = ⊥
  IsOperand (JExpr-F.Method left dot n at lp args commas rp) = ⊥
  IsOperand (JExpr-F.Element left lp index rp) = ⊥
  IsOperand (JExpr-F.Postfix left op at) = ⊥
  IsOperand (JExpr-F.Instanceof left at to) = ⊥
  IsOperand (JExpr-F.Binary left op at right) = ⊥
  IsOperand (JExpr-F.Conditional left question then_ colon else_) = ⊥
  IsOperand (JExpr-F.Assign left op at right) = ⊥
  IsOperand _ = Unit {0}

  -- at a layer, what holds at its variant
  given : (x : JExpr-F JExpr) (y : JExpr) (rest : Tokens) → roll-JExpr x ≡ y → r.operand types base typed sub (tokens_by (map-JExpr JExpr Tokens tokens x) ++ rest) ≡ Some (y, rest)
      → r.operand types base typed sub (tokens (roll-JExpr x) ++ rest) ≡ Some (roll-JExpr x, rest)
  given x y rest same h = rw (spelled x) (h ∙ ap (λ (z : JExpr). Option.Some (z, rest)) (sym same))

  operand_again : (x : JExpr-F JExpr) (rest : Tokens) → IsOperand x → stands_by d (TypeStands d) (TypedStands d) (Stands d) x → after rest < bound_by x
      → r.operand types base typed sub (tokens (roll-JExpr x) ++ rest) ≡ Some (roll-JExpr x, rest)
  unfolding r.operand
  operand_again (JExpr-F.Name n at) rest o s h = given (JExpr-F.Name n at) _ rest (e.rolls-Name n at) (named_alone types base typed sub n at rest h)
  operand_again (JExpr-F.Literal n at) rest o s h = given (JExpr-F.Literal n at) _ rest (e.rolls-Literal n at) (rw s refl)
  operand_again (JExpr-F.This at) rest o s h = given (JExpr-F.This at) _ rest (e.rolls-This at) refl
  operand_again (JExpr-F.SuperCall above dot n at lp args commas rp) rest o s h = given (JExpr-F.SuperCall above dot n at lp args commas rp) _ rest (e.rolls-SuperCall above dot n at lp args commas rp)
      (rw (append_assoc (listed commas (map tokens args)) (Token.Sign m.CloseRound rp ∷ []) rest) (super_again above dot n at lp rp args commas rest s.0 s.1))
  operand_again (JExpr-F.Paren lp inner rp) rest o s h = given (JExpr-F.Paren lp inner rp) _ rest (e.rolls-Paren lp inner rp)
      (rw (append_assoc (tokens inner) (Token.Sign m.CloseRound rp ∷ []) rest) (paren_again lp rp inner rest s h))
  operand_again (JExpr-F.Call n at lp args commas rp) rest o s h = given (JExpr-F.Call n at lp args commas rp) _ rest (e.rolls-Call n at lp args commas rp)
      (named_call n at lp _ ∙ rw (append_assoc (listed commas (map tokens args)) (Token.Sign m.CloseRound rp ∷ []) rest) (call_again n at lp rp args commas rest s.0 s.1))
  operand_again (JExpr-F.Prefix op at inner) rest o s h = given (JExpr-F.Prefix op at inner) _ rest (e.rolls-Prefix op at inner) (prefix_again op at inner rest s h)
  operand_again (JExpr-F.Cast lp to rp inner) rest o s h = given (JExpr-F.Cast lp to rp inner) _ rest (e.rolls-Cast lp to rp inner)
      (rw (append_assoc (type_tokens to) (Token.Sign m.CloseRound rp ∷ tokens inner) rest) (cast_again lp rp to inner rest s.0 s.1 s.2 h))
  operand_again (JExpr-F.MinusLeast minus literal at) rest o s h = given (JExpr-F.MinusLeast minus literal at) _ rest (e.rolls-MinusLeast minus literal at) (least_again minus literal at rest s.0)
  operand_again (JExpr-F.Lambda (params.One p) arrow body) rest o s h = given (JExpr-F.Lambda (params.One p) arrow body) _ rest (e.rolls-Lambda (params.One p) arrow body)
      (named_lambda p arrow _ ∙ lambda_again (params.One p) arrow body rest s.1 h)
  operand_again (JExpr-F.Lambda (params.Several lp ps commas rp) arrow body) rest o s h = given (JExpr-F.Lambda (params.Several lp ps commas rp) arrow body) _ rest (e.rolls-Lambda (params.Several lp ps commas rp) arrow body)
      (rw (in_round (listed commas (map param_tokens ps)) rp (Token.Sign m.Arrow arrow ∷ tokens body) rest)
      (several_again lp rp ps commas (Token.Sign m.Arrow arrow ∷ (tokens body ++ rest)) _ s.0 refl (lambda_again (params.Several lp ps commas rp) arrow body rest s.1 h)))
  operand_again (JExpr-F.Lambda (params.Typed lp ps commas rp) arrow body) rest o s h = given (JExpr-F.Lambda (params.Typed lp ps commas rp) arrow body) _ rest (e.rolls-Lambda (params.Typed lp ps commas rp) arrow body)
      (rw (in_round (listed commas (map typed_tokens ps)) rp (Token.Sign m.Arrow arrow ∷ tokens body) rest)
      (typed_params_again lp rp ps commas (Token.Sign m.Arrow arrow ∷ (tokens body ++ rest)) _ s.0.0 s.0.1 refl (lambda_again (params.Typed lp ps commas rp) arrow body rest s.1 h)))
  operand_again (JExpr-F.LambdaBlock (params.One p) arrow body) rest o s h = given (JExpr-F.LambdaBlock (params.One p) arrow body) _ rest (e.rolls-LambdaBlock (params.One p) arrow body)
      (named_block p arrow body rest ∙ block_again (params.One p) arrow body rest)
  operand_again (JExpr-F.LambdaBlock (params.Several lp ps commas rp) arrow body) rest o s h = given (JExpr-F.LambdaBlock (params.Several lp ps commas rp) arrow body) _ rest (e.rolls-LambdaBlock (params.Several lp ps commas rp) arrow body)
      (rw (in_round (listed commas (map param_tokens ps)) rp (Token.ArrowBody arrow body ∷ []) rest)
      (several_again lp rp ps commas (Token.ArrowBody arrow body ∷ rest) _ s.0 refl (block_again (params.Several lp ps commas rp) arrow body rest)))
  operand_again (JExpr-F.LambdaBlock (params.Typed lp ps commas rp) arrow body) rest o s h = given (JExpr-F.LambdaBlock (params.Typed lp ps commas rp) arrow body) _ rest (e.rolls-LambdaBlock (params.Typed lp ps commas rp) arrow body)
      (rw (in_round (listed commas (map typed_tokens ps)) rp (Token.ArrowBody arrow body ∷ []) rest)
      (typed_params_again lp rp ps commas (Token.ArrowBody arrow body ∷ rest) _ s.0.0 s.0.1 refl (block_again (params.Typed lp ps commas rp) arrow body rest)))
  operand_again (JExpr-F.New at made lp args commas rp body) rest o s h = given (JExpr-F.New at made lp args commas rp body) _ rest (e.rolls-New at made lp args commas rp body)
      (rw (append_assoc (created_tokens made) (Token.Sign m.OpenRound lp ∷ (listed commas (map tokens args) ++ args_close rp body ∷ [])) rest, append_assoc (listed commas (map tokens args)) (args_close rp body ∷ []) rest)
      (new_again at made lp rp args commas body rest s.0 s.1 s.2))
  operand_again (JExpr-F.NewArray at of lb size rb more) rest o s h = given (JExpr-F.NewArray at of lb size rb more) _ rest (e.rolls-NewArray at of lb size rb more)
      (rw (append_assoc (type_tokens of) (Token.Sign m.OpenSquare lb ∷ (tokens size ++ Token.Sign m.CloseSquare rb ∷ brackets_tokens more)) rest, append_assoc (tokens size) (Token.Sign m.CloseSquare rb ∷ brackets_tokens more) rest)
      (new_array_again at of lb size rb more rest s.0 s.1 s.2 h))
  operand_again (JExpr-F.NewFilled at of pairs lc inits commas more rc) rest o s h = given (JExpr-F.NewFilled at of pairs lc inits commas more rc) _ rest (e.rolls-NewFilled at of pairs lc inits commas more rc)
      (rw (three (type_tokens of) (brackets_tokens pairs) (braces_tokens lc (map tokens inits) commas more rc) rest, values_again commas inits more rc rest)
      (new_filled_again at of pairs lc inits commas more rc rest s.0 s.1 s.2 s.3 s.4))
  operand_again (JExpr-F.Braces lc inits commas more rc) rest o s h = given (JExpr-F.Braces lc inits commas more rc) _ rest (e.rolls-Braces lc inits commas more rc)
      (rw (values_again commas inits more rc rest) (braces_again lc inits commas more rc rest s.0 s.1))
  operand_again (JExpr-F.Field left dot n at) rest o s h = absurd o
  operand_again (JExpr-F.Method left dot n at lp args commas rp) rest o s h = absurd o
  operand_again (JExpr-F.Element left lp index rp) rest o s h = absurd o
  operand_again (JExpr-F.Postfix left op at) rest o s h = absurd o
  operand_again (JExpr-F.Instanceof left at to) rest o s h = absurd o
  operand_again (JExpr-F.Binary left op at right) rest o s h = absurd o
  operand_again (JExpr-F.Conditional left question then_ colon else_) rest o s h = absurd o
  operand_again (JExpr-F.Assign left op at right) rest o s h = absurd o

  -- ---- reading comes to the whole of a tree, and goes on behind it

  pub record Reaches (least : ℕ) (x : JExpr) (rest : Tokens) : Type 0 where
    pub n : ℕ
    pub room : suc d ≤ n + depth x
    pub same : r.level_read types base typed sub d least (tokens x ++ rest) ≡ r.climb types base typed sub d least n x rest

  grow_from : (n least : ℕ) (s : Suffix) (left x : JExpr) (text rest : Tokens) → suc d ≤ n + depth left
      → r.level_read types base typed sub d least (tokens x ++ rest) ≡ r.climb types base typed sub d least n left (suffix_tokens s ++ text)
      → least ≤ r.strength s → r.takes s left ≡ true → depth left ≤ d → suc (depth left) ≤ depth x → r.finish types base typed sub s left text ≡ Some (x, rest) → Reaches least x rest
  unfolding r.climb r.grown
  grow_from zero least s left x text rest room same strong takes low deeper made = absurd (omega arith)
  grow_from (suc n) least s left x text rest room same strong takes low deeper made = record {
    n = n;
    room = omega arith;
    same = same ∙ rw (suffix_again s text, false_lt (r.strength s) least strong, takes, true_le (depth left) d low, made) refl;
  }

  grow : (least : ℕ) (s : Suffix) (left x : JExpr) (text rest : Tokens) → Reaches least left (suffix_tokens s ++ text) → tokens x ++ rest ≡ tokens left ++ (suffix_tokens s ++ text)
      → least ≤ r.strength s → r.takes s left ≡ true → depth left ≤ d → suc (depth left) ≤ depth x → r.finish types base typed sub s left text ≡ Some (x, rest) → Reaches least x rest
  grow least s left x text rest from same strong takes low deeper made =
      grow_from from.n least s left x text rest from.room (ap (λ ts. r.level_read types base typed sub d least ts) same ∙ from.same) strong takes low deeper made

  field_again : (dot at : Position) (n : List ℕ) (left : JExpr) (rest : Tokens) → after rest < 34 → r.finish types base typed sub (sx.Dot dot) left (Token.Id n at ∷ rest) ≡ Some (e.Field left dot n at, rest)
  unfolding r.finish
  field_again dot at n left rest h = member_alone types base typed sub left dot (record { name = n; at = at }) rest h

  method_again : (dot : Position) (n : List ℕ) (at lp rp : Position) (args : List JExpr) (commas : List Position) (left : JExpr) (rest : Tokens) → AreBetween commas args → AllByRecursion (Stands d any_level) args
      → r.finish types base typed sub (sx.Dot dot) left (Token.Id n at ∷ Token.Sign m.OpenRound lp ∷ (listed commas (map tokens args) ++ Token.Sign m.CloseRound rp ∷ rest)) ≡ Some (e.Method left dot n at lp args commas rp, rest)
  unfolding r.finish r.member r.method
  method_again dot n at lp rp args commas left rest b all = rw (args_again args commas rp None rest b all) refl

  element_again : (lp rp : Position) (left index : JExpr) (rest : Tokens) → Stands d any_level index
      → r.finish types base typed sub (sx.Square lp) left (tokens index ++ Token.Sign m.CloseSquare rp ∷ rest) ≡ Some (e.Element left lp index rp, rest)
  unfolding r.finish r.element r.suffix
  element_again lp rp left index rest s = rw (part any_level index s (Token.Sign m.CloseSquare rp ∷ rest) refl) refl

  postfix_again : (op : PostfixOp) (at : Position) (left : JExpr) (rest : Tokens) → r.finish types base typed sub (sx.Postfix op at) left rest ≡ Some (e.Postfix left op at, rest)
  unfolding r.finish
  postfix_again op at left rest = refl

  test_again : (at : Position) (left : JExpr) (to : JType) (rest : Tokens) → TypeStands d to → after rest < 21
      → r.finish types base typed sub (sx.Instanceof at) left (type_tokens to ++ rest) ≡ Some (e.Instanceof left at to, rest)
  unfolding r.finish
  test_again at left to rest k h = rw (type_again d to k rest (ends_type_after rest h)) refl

  stops_at : (least n : ℕ) (x : JExpr) (rest : Tokens) (o : Option (Suffix × Tokens)) → r.suffix rest ≡ o → after rest < limit least
      → maybe (r.suffix rest) (Option.Some (x, rest)) (λ s. r.grown types base typed sub d least x rest s (λ y. r.climb types base typed sub d least n y.0 y.1)) ≡ Some (x, rest)
  unfolding r.grown
  stops_at least n x rest None is h = rw is refl
  stops_at least n x rest (Some s) is h =
      let low : r.strength s.0 < least = omega (arith, half s.0, goes_pos s.0, ap (λ o. after_by o rest) is) in
      rw (is, true_lt (r.strength s.0) least low) refl

  -- a form that a suffix makes, at its layer
  grow_layer : (least : ℕ) (s : Suffix) (left : JExpr) (x : JExpr-F JExpr) (y : JExpr) (text rest : Tokens) → roll-JExpr x ≡ y
      → Reaches least left (suffix_tokens s ++ text) → tokens_by (map-JExpr JExpr Tokens tokens x) ++ rest ≡ tokens left ++ (suffix_tokens s ++ text)
      → least ≤ r.strength s → r.takes s left ≡ true → depth left ≤ d → suc (depth left) ≤ depth_by (map-JExpr JExpr ℕ depth x) → r.finish types base typed sub s left text ≡ Some (y, rest) → Reaches least (roll-JExpr x) rest
  grow_layer least s left x y text rest rolls from same strong takes low deeper made =
      grow least s left (roll-JExpr x) text rest from (rw (spelled x) same) strong takes low (rw (deep x) deeper) (made ∙ ap (λ (z : JExpr). Option.Some (z, rest)) (sym rolls))

  binary_again : (op : BinaryOp) (at : Position) (left right : JExpr) (rest : Tokens) → Stands d ((level op + 1)) right → after rest < level op + level op + 2
      → r.finish types base typed sub (sx.Binary op at) left (tokens right ++ rest) ≡ Some (e.Binary left op at right, rest)
  unfolding r.finish
  binary_again op at left right rest s h =
      let top_is : (level op + 1) ≤ top right = level_is d ((level op + 1)) right s in
      rw (again ((level op + 1)) right s rest (omega arith) (bounded (after rest) right (omega (arith, level_small op)) (omega (arith, level_large op)) (omega arith))) refl

  assign_again : (op : AssignOp) (at : Position) (left right : JExpr) (rest : Tokens) → Stands d any_level right → after rest < 2
      → r.finish types base typed sub (sx.Assign op at) left (tokens right ++ rest) ≡ Some (e.Assign left op at right, rest)
  unfolding r.finish
  assign_again op at left right rest s h = rw (again any_level right s rest h (omega (arith, bound_pos right))) refl

  cond_again : (question colon : Position) (left then_ else_ : JExpr) (rest : Tokens) → Stands d any_level then_ → Stands d else_level else_ → after rest < 2
      → r.finish types base typed sub (sx.Question question) left (tokens then_ ++ Token.Sign m.Colon colon ∷ (tokens else_ ++ rest)) ≡ Some (e.Conditional left question then_ colon else_, rest)
  unfolding r.finish r.choice r.suffix
  cond_again question colon left then_ else_ rest s k h =
      rw (part any_level then_ s (Token.Sign m.Colon colon ∷ (tokens else_ ++ rest)) refl, again else_level else_ k rest (omega arith) (omega (arith, bound_pos else_))) refl

  operand_reaches : (least : ℕ) (x : JExpr-F JExpr) (rest : Tokens) → IsOperand x → stands_by d (TypeStands d) (TypedStands d) (Stands d) x → least ≤ top_by x → depth_by (map-JExpr JExpr ℕ depth x) ≤ suc d → after rest < bound_by x → Reaches least (roll-JExpr x) rest
  unfolding r.level_read
  operand_reaches least x rest o s g fits h = record {
    n = d + 1;
    room = omega arith;
    same = rw (operand_again x rest o s h, true_le least (top (roll-JExpr x)) (rw (top_roll x) g), true_le (depth (roll-JExpr x)) (d + 1) (omega (arith, deep x))) refl;
  }

  module _ (k : ℕ) (ih : (least : ℕ) (x : JExpr) → Stands k least x → depth x ≤ suc d → (rest : Tokens) → after rest < bound x → Reaches least x rest) where
    left_reaches : (least l : ℕ) (s : Suffix) (left : JExpr) (text : Tokens) → Stands k l left → least ≤ top left → depth left ≤ d → goes s < bound left → Reaches least left (suffix_tokens s ++ text)
    left_reaches least l s left text stands h low fits =
        ih least left (at_level k l least left stands h) (omega arith) (suffix_tokens s ++ text) (rw (after_suffix s text) fits)

    reach_layer : (least : ℕ) (x : JExpr-F JExpr) → least ≤ top_by x → stands_by k (TypeStands k) (TypedStands k) (Stands k) x → depth_by (map-JExpr JExpr ℕ depth x) ≤ suc d → (rest : Tokens) → after rest < bound_by x → Reaches least (roll-JExpr x) rest
    reach_layer least (JExpr-F.Name n at) g s fits rest h = operand_reaches least (JExpr-F.Name n at) rest tt s g fits h
    reach_layer least (JExpr-F.Literal n at) g s fits rest h = operand_reaches least (JExpr-F.Literal n at) rest tt s g fits h
    reach_layer least (JExpr-F.Paren lp inner rp) g s fits rest h = operand_reaches least (JExpr-F.Paren lp inner rp) rest tt (layer_resize k d (resize k d) (JExpr-F.Paren lp inner rp) s fits) g fits h
    reach_layer least (JExpr-F.Call n at lp args commas rp) g s fits rest h = operand_reaches least (JExpr-F.Call n at lp args commas rp) rest tt (layer_resize k d (resize k d) (JExpr-F.Call n at lp args commas rp) s fits) g fits h
    reach_layer least (JExpr-F.Prefix op at inner) g s fits rest h = operand_reaches least (JExpr-F.Prefix op at inner) rest tt (layer_resize k d (resize k d) (JExpr-F.Prefix op at inner) s fits) g fits h
    reach_layer least (JExpr-F.Cast lp to rp inner) g s fits rest h = operand_reaches least (JExpr-F.Cast lp to rp inner) rest tt (layer_resize k d (resize k d) (JExpr-F.Cast lp to rp inner) s fits) g fits h
    reach_layer least (JExpr-F.Lambda params arrow body) g s fits rest h = operand_reaches least (JExpr-F.Lambda params arrow body) rest tt (layer_resize k d (resize k d) (JExpr-F.Lambda params arrow body) s fits) g fits h
    reach_layer least (JExpr-F.MinusLeast minus literal at) g s fits rest h = operand_reaches least (JExpr-F.MinusLeast minus literal at) rest tt (layer_resize k d (resize k d) (JExpr-F.MinusLeast minus literal at) s fits) g fits h
    reach_layer least (JExpr-F.LambdaBlock params arrow body) g s fits rest h = operand_reaches least (JExpr-F.LambdaBlock params arrow body) rest tt (layer_resize k d (resize k d) (JExpr-F.LambdaBlock params arrow body) s fits) g fits h
    reach_layer least (JExpr-F.New at made lp args commas rp body) g s fits rest h = operand_reaches least (JExpr-F.New at made lp args commas rp body) rest tt (layer_resize k d (resize k d) (JExpr-F.New at made lp args commas rp body) s fits) g fits h
    reach_layer least (JExpr-F.NewArray at of lb size rb more) g s fits rest h = operand_reaches least (JExpr-F.NewArray at of lb size rb more) rest tt (layer_resize k d (resize k d) (JExpr-F.NewArray at of lb size rb more) s fits) g fits h
    reach_layer least (JExpr-F.NewFilled at of brackets lc inits commas more rc) g s fits rest h = operand_reaches least (JExpr-F.NewFilled at of brackets lc inits commas more rc) rest tt (layer_resize k d (resize k d) (JExpr-F.NewFilled at of brackets lc inits commas more rc) s fits) g fits h
    reach_layer least (JExpr-F.Braces lc inits commas more rc) g s fits rest h = operand_reaches least (JExpr-F.Braces lc inits commas more rc) rest tt (layer_resize k d (resize k d) (JExpr-F.Braces lc inits commas more rc) s fits) g fits h
    reach_layer least (JExpr-F.Field left dot n at) g s fits rest h =
        let top_is : primary_level ≤ top left = level_is k primary_level left s in
        grow_layer least (sx.Dot dot) left (JExpr-F.Field left dot n at) _ (Token.Id n at ∷ rest) rest (e.rolls-Field left dot n at)
        (left_reaches least primary_level (sx.Dot dot) left (Token.Id n at ∷ rest) s (omega arith) (omega arith) (omega (arith, bound_primary left (omega arith))))
        (append_assoc (tokens left) _ rest) g (true_le primary_level (top left) top_is) (omega arith) (omega arith) (field_again dot at n left rest h)
    reach_layer least (JExpr-F.This at) g s fits rest h = operand_reaches least (JExpr-F.This at) rest tt s g fits h
    reach_layer least (JExpr-F.SuperCall above dot n at lp args commas rp) g s fits rest h = operand_reaches least (JExpr-F.SuperCall above dot n at lp args commas rp) rest tt (layer_resize k d (resize k d) (JExpr-F.SuperCall above dot n at lp args commas rp) s fits) g fits h
    reach_layer least (JExpr-F.Method left dot n at lp args commas rp) g s fits rest h =
        let top_is : primary_level ≤ top left = level_is k primary_level left s.0 in
        grow_layer least (sx.Dot dot) left (JExpr-F.Method left dot n at lp args commas rp) _ (Token.Id n at ∷ Token.Sign m.OpenRound lp ∷ (listed commas (map tokens args) ++ Token.Sign m.CloseRound rp ∷ rest)) rest (e.rolls-Method left dot n at lp args commas rp)
        (left_reaches least primary_level (sx.Dot dot) left (Token.Id n at ∷ Token.Sign m.OpenRound lp ∷ (listed commas (map tokens args) ++ Token.Sign m.CloseRound rp ∷ rest)) s.0 (omega arith) (omega arith) (omega (arith, bound_primary left (omega arith))))
        (append_assoc (tokens left) _ rest ∙ ap (λ r. tokens left ++ Token.Sign m.Dot dot ∷ Token.Id n at ∷ Token.Sign m.OpenRound lp ∷ r) (append_assoc (listed commas (map tokens args)) (Token.Sign m.CloseRound rp ∷ []) rest))
        g (true_le primary_level (top left) top_is) (omega arith) (omega arith)
        (method_again dot n at lp rp args commas left rest s.1 (all_resized (Stands k any_level) (Stands d any_level) depth d (resize k d any_level) args s.2 (omega arith)))
    reach_layer least (JExpr-F.Element left lp index rp) g s fits rest h =
        let top_is : primary_level ≤ top left = level_is k primary_level left s.0 in
        grow_layer least (sx.Square lp) left (JExpr-F.Element left lp index rp) _ (tokens index ++ Token.Sign m.CloseSquare rp ∷ rest) rest (e.rolls-Element left lp index rp)
        (left_reaches least primary_level (sx.Square lp) left (tokens index ++ Token.Sign m.CloseSquare rp ∷ rest) s.0 (omega arith) (omega arith) (omega (arith, bound_whole left (omega arith) s.1)))
        (append_assoc (tokens left) _ rest ∙ ap (λ r. tokens left ++ Token.Sign m.OpenSquare lp ∷ r) (append_assoc (tokens index) (Token.Sign m.CloseSquare rp ∷ []) rest))
        g (both_hold (true_le primary_level (top left) top_is) (rw s.1 refl)) (omega arith) (omega arith)
        (element_again lp rp left index rest (resize k d any_level index s.2 (omega arith)))
    reach_layer least (JExpr-F.Postfix left op at) g s fits rest h =
        let top_is : postfix_level ≤ top left = level_is k postfix_level left s in
        grow_layer least (sx.Postfix op at) left (JExpr-F.Postfix left op at) _ rest rest (e.rolls-Postfix left op at)
        (left_reaches least postfix_level (sx.Postfix op at) left rest s (omega arith) (omega arith) (omega (arith, bound_primary left top_is)))
        (append_assoc (tokens left) _ rest) g (true_le postfix_level (top left) top_is) (omega arith) (omega arith) (postfix_again op at left rest)
    reach_layer least (JExpr-F.Instanceof left at to) g s fits rest h =
        let top_is : relation_level ≤ top left = level_is k relation_level left s.0 in
        grow_layer least (sx.Instanceof at) left (JExpr-F.Instanceof left at to) _ (type_tokens to ++ rest) rest (e.rolls-Instanceof left at to)
        (left_reaches least relation_level (sx.Instanceof at) left (type_tokens to ++ rest) s.0 (omega arith) (omega arith) (bounded 20 left (omega arith) (omega arith) (omega arith)))
        (append_assoc (tokens left) _ rest) g (true_le relation_level (top left) top_is) (omega arith) (omega arith)
        (test_again at left to rest (type_resize k d to s.1 (omega arith)) h)
    reach_layer least (JExpr-F.Binary left op at right) g s fits rest h =
        let top_is : level op ≤ top left = level_is k (level op) left s.0 in
        grow_layer least (sx.Binary op at) left (JExpr-F.Binary left op at right) _ (tokens right ++ rest) rest (e.rolls-Binary left op at right)
        (left_reaches least (level op) (sx.Binary op at) left (tokens right ++ rest) s.0 (omega arith) (omega arith) (goes_below op left top_is s.2))
        (three (tokens left) (operator_tokens op at) (tokens right) rest) g (both_hold (true_le (level op) (top left) top_is) s.2) (omega arith) (omega arith)
        (binary_again op at left right rest (resize k d ((level op + 1)) right s.1 (omega arith)) h)
    reach_layer least (JExpr-F.Conditional left question then_ colon else_) g s fits rest h =
        let top_is : or_level ≤ top left = level_is k or_level left s.0 in
        grow_layer least (sx.Question question) left (JExpr-F.Conditional left question then_ colon else_) _ (tokens then_ ++ Token.Sign m.Colon colon ∷ (tokens else_ ++ rest)) rest (e.rolls-Conditional left question then_ colon else_)
        (left_reaches least or_level (sx.Question question) left (tokens then_ ++ Token.Sign m.Colon colon ∷ (tokens else_ ++ rest)) s.0 (omega arith) (omega arith) (bounded 6 left (omega arith) top_is (omega arith)))
        (append_assoc (tokens left) _ rest ∙ ap (λ r. tokens left ++ Token.Sign m.Question question ∷ r) (append_assoc (tokens then_) (Token.Sign m.Colon colon ∷ tokens else_) rest))
        g (true_le or_level (top left) top_is) (omega arith) (omega arith)
        (cond_again question colon left then_ else_ rest (resize k d any_level then_ s.1 (omega arith)) (resize k d else_level else_ s.2 (omega arith)) h)
    reach_layer least (JExpr-F.Assign left op at right) g s fits rest h =
        let top_is : primary_level ≤ top left = level_is k primary_level left s.0 in
        grow_layer least (sx.Assign op at) left (JExpr-F.Assign left op at right) _ (tokens right ++ rest) rest (e.rolls-Assign left op at right)
        (left_reaches least primary_level (sx.Assign op at) left (tokens right ++ rest) s.0 (omega arith) (omega arith) (omega (arith, bound_primary left (omega arith))))
        (three (tokens left) (assign_tokens op at) (tokens right) rest) g s.1 (omega arith) (omega arith)
        (assign_again op at left right rest (resize k d any_level right s.2 (omega arith)) h)

  reach : (k least : ℕ) (x : JExpr) → Stands k least x → depth x ≤ suc d → (rest : Tokens) → after rest < bound x → Reaches least x rest
  unfolding Stands top
  reach zero least x s fits rest h = absurd s
  reach (suc k) least x s fits rest h =
      subst (λ (z : JExpr). Reaches least z rest) (roll-out-JExpr x) (reach_layer k (reach k) least (out-JExpr x) s.0 s.1 (rw (deep_out x) at fits) rest h)

  climb_stops : (least n : ℕ) (x : JExpr) (rest : Tokens) → after rest < limit least → r.climb types base typed sub d least n x rest ≡ Some (x, rest)
  unfolding r.climb
  climb_stops least zero x rest h = refl
  climb_stops least (suc n) x rest h = stops_at least n x rest (r.suffix rest) refl h

  read_again : Again (suc d)
  unfolding r.read
  read_again l x s rest h g =
      let from = reach (suc d) l x s (within (suc d) l x s) rest g in
      from.same ∙ climb_stops l from.n x rest h

nothing : (l : ℕ) (x : JExpr) → Stands 0 l x → ⊥
unfolding Stands
nothing l x s = s

pub again : (d : ℕ) → Again d
again zero l x s rest h g = absurd (nothing l x s)
again (suc d) l x s rest h g = read_again d (again d) l x s rest h g
