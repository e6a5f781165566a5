-- Depths, lengths and looks ahead, as the proofs of the readers use them.
use Rattle.std.proofs.Common.{◌≡◌, ◌≢◌, ◌<◌, ℕ, suc, List, [], ◌∷◌, ◌++◌, Some, None, length, false, if◌then◌else◌, nat_le, refl, ap, sym, ◌∙◌, arith, append_assoc, append-nil}
use Rattle.java_tree.specs.declared.tokens.Mark.TheVariants as m
use Rattle.java_tree.specs.declared.types.JBrackets.{JBrackets}
use Rattle.java_tree.specs.declared.types.JDotted.{JDotted}
use Rattle.java_tree.specs.declared.types.JType.{JType}
use Rattle.java_tree.specs.declared.types.JType.TheVariants as ty
use Rattle.java_tree.specs.Seen.{Token, Tokens}
use Rattle.java_tree.specs.Trees.{type_depth}
use Rattle.java_expr_grammar.specs.Reading.{◌>>=◌, maybe, brackets, dotted, base_step, type_read, array_by, begins_names, ident, after_close}
use Rattle.java_expr_grammar.proofs.LawsToCite.{depth_Primitive, depth_Class, depth_Applied, depth_Array, deepest_more}
use Rattle.java_token_cursor.specs.declared.piece.Piece.{Piece}
use Rattle.java_token_cursor.specs.Shown.{shown}
use Rattle.java_type_parser.specs.Gives.{pair_at, dotted_at, ends_first}

pub length_shown : (xs : List Piece) → length (shown xs) ≡ length xs
unfolding shown
length_shown [] = refl
length_shown (x ∷ xs) = ap suc (length_shown xs)

pub brackets_none : (ts : Tokens) → pair_at ts ≡ None → brackets ts ≡ ([], ts)
unfolding brackets
brackets_none [] e = refl
brackets_none (Token.Sign m.OpenSquare o ∷ []) e = refl
brackets_none (Token.Sign m.OpenSquare o ∷ Token.Sign m.CloseSquare c ∷ ts) e = absurd (cc e)
brackets_none (Token.Sign m.OpenSquare o ∷ x ∷ ts) e = refl
brackets_none (x ∷ ts) e = refl

pub brackets_more : (ts : Tokens) (x : JBrackets) (rest : Tokens) → pair_at ts ≡ Some (x, rest) → brackets ts ≡ (x ∷ (brackets rest).0, (brackets rest).1)
unfolding brackets
brackets_more [] x rest e = absurd (cc e)
brackets_more (Token.Sign m.OpenSquare o ∷ []) x rest e = absurd (cc e)
brackets_more (Token.Sign m.OpenSquare o ∷ Token.Sign m.CloseSquare c ∷ ts) x rest e = grind arith
brackets_more (Token.Sign m.OpenSquare o ∷ _ ∷ ts) x rest e = absurd (cc e)
brackets_more (_ ∷ ts) x rest e = absurd (cc e)

pub dotted_none : (ts : Tokens) → dotted_at ts ≡ None → dotted ts ≡ ([], ts)
unfolding dotted
dotted_none [] e = refl
dotted_none (Token.Sign m.Dot d ∷ []) e = refl
dotted_none (Token.Sign m.Dot d ∷ Token.Id n at ∷ ts) e = absurd (cc e)
dotted_none (Token.Sign m.Dot d ∷ x ∷ ts) e = refl
dotted_none (x ∷ ts) e = refl

pub dotted_more : (ts : Tokens) (x : JDotted) (rest : Tokens) → dotted_at ts ≡ Some (x, rest) → dotted ts ≡ (x ∷ (dotted rest).0, (dotted rest).1)
unfolding dotted
dotted_more [] x rest e = absurd (cc e)
dotted_more (Token.Sign m.Dot d ∷ []) x rest e = absurd (cc e)
dotted_more (Token.Sign m.Dot d ∷ Token.Id n at ∷ ts) x rest e = grind arith
dotted_more (Token.Sign m.Dot d ∷ _ ∷ ts) x rest e = absurd (cc e)
dotted_more (_ ∷ ts) x rest e = absurd (cc e)

pub brackets_end : (whole ts : Tokens) (xs : List JBrackets) → brackets whole ≡ (xs ++ (brackets ts).0, (brackets ts).1) → pair_at ts ≡ None → (xs, ts) ≡ brackets whole
brackets_end whole ts xs e none =
    sym (e ∙ ap (λ (b : List JBrackets × Tokens). (xs ++ b.0, b.1)) (brackets_none ts none) ∙ ap (λ ys. (ys, ts)) (append-nil xs))

pub brackets_on : (whole ts rest : Tokens) (xs : List JBrackets) (x : JBrackets) → brackets whole ≡ (xs ++ (brackets ts).0, (brackets ts).1) → pair_at ts ≡ Some (x, rest) → brackets whole ≡ ((xs ++ x ∷ []) ++ (brackets rest).0, (brackets rest).1)
brackets_on whole ts rest xs x e some =
    e ∙ ap (λ (b : List JBrackets × Tokens). (xs ++ b.0, b.1)) (brackets_more ts x rest some) ∙ ap (λ ys. (ys, (brackets rest).1)) (sym (append_assoc xs (x ∷ []) (brackets rest).0))

pub dotted_end : (whole ts : Tokens) (xs : List JDotted) → dotted whole ≡ (xs ++ (dotted ts).0, (dotted ts).1) → dotted_at ts ≡ None → (xs, ts) ≡ dotted whole
dotted_end whole ts xs e none =
    sym (e ∙ ap (λ (b : List JDotted × Tokens). (xs ++ b.0, b.1)) (dotted_none ts none) ∙ ap (λ ys. (ys, ts)) (append-nil xs))

pub dotted_on : (whole ts rest : Tokens) (xs : List JDotted) (x : JDotted) → dotted whole ≡ (xs ++ (dotted ts).0, (dotted ts).1) → dotted_at ts ≡ Some (x, rest) → dotted whole ≡ ((xs ++ x ∷ []) ++ (dotted rest).0, (dotted rest).1)
dotted_on whole ts rest xs x e some =
    e ∙ ap (λ (b : List JDotted × Tokens). (xs ++ b.0, b.1)) (dotted_more ts x rest some) ∙ ap (λ ys. (ys, (dotted rest).1)) (sym (append_assoc xs (x ∷ []) (dotted rest).0))

pub pair_shorter : (ts : Tokens) (x : JBrackets) (rest : Tokens) → pair_at ts ≡ Some (x, rest) → length rest < length ts
pair_shorter [] x rest e = absurd (cc e)
pair_shorter (Token.Sign m.OpenSquare o ∷ []) x rest e = absurd (cc e)
pair_shorter (Token.Sign m.OpenSquare o ∷ Token.Sign m.CloseSquare c ∷ ts) x rest e = grind arith
pair_shorter (Token.Sign m.OpenSquare o ∷ _ ∷ ts) x rest e = absurd (cc e)
pair_shorter (_ ∷ ts) x rest e = absurd (cc e)

pub dotted_shorter : (ts : Tokens) (x : JDotted) (rest : Tokens) → dotted_at ts ≡ Some (x, rest) → length rest < length ts
dotted_shorter [] x rest e = absurd (cc e)
dotted_shorter (Token.Sign m.Dot d ∷ []) x rest e = absurd (cc e)
dotted_shorter (Token.Sign m.Dot d ∷ Token.Id n at ∷ ts) x rest e = grind arith
dotted_shorter (Token.Sign m.Dot d ∷ _ ∷ ts) x rest e = absurd (cc e)
dotted_shorter (_ ∷ ts) x rest e = absurd (cc e)

-- a name, and what is behind it
pub names_is : (ts : Tokens) → begins_names ts ≡ maybe (ident ts) false (λ x. ends_first x.1)
names_is [] = refl
names_is (Token.Id n at ∷ []) = refl
names_is (Token.Id n at ∷ Token.Sign mark p ∷ ts) = refl
names_is (Token.Id n at ∷ _ ∷ ts) = refl
names_is (_ ∷ ts) = refl

pub array_none : (d : ℕ) (x : JType) (pairs : List JBrackets) (ts : Tokens) → pairs ≡ [] → array_by d x (pairs, ts) ≡ Some (x, ts)
array_none d x pairs ts e = rw e refl

pub array_more : (d : ℕ) (x : JType) (pairs : List JBrackets) (ts : Tokens) → pairs ≢ [] → array_by d x (pairs, ts) ≡ (if nat_le (type_depth x) d then Some (ty.Array x pairs, ts) else None)
array_more d x [] ts some = absurd (some refl)
array_more d x (y ∷ ys) ts some = refl

pub read_more : (d : ℕ) (ts us : Tokens) (x : JType) (b : List JBrackets × Tokens) → base_step (type_read d) ts ≡ Some (x, us) → b ≡ brackets us → type_read (suc d) ts ≡ array_by d x b
unfolding type_read
read_more d ts us x b e f = ap (λ o. o >>= (λ y. array_by d y.0 (brackets y.1))) e ∙ ap (array_by d x) (sym f)

pub after_none : (n : ℕ) (xs : List Piece) → length xs ≡ 0 → after_close n (shown xs) ≡ shown xs
unfolding after_close shown
after_none n [] e = refl
after_none n (x ∷ xs) e = absurd (cc e)

pub ruleset arrays = (array_none, array_more, depth_Array)

pub ruleset names = (brackets_none, brackets_more, dotted_none, dotted_more, pair_shorter, dotted_shorter)

pub ruleset rules = (depth_Primitive, depth_Class, depth_Applied, depth_Array, deepest_more, length_shown)
