-- A stack of work, and of what was written.
use Rattle.std.proofs.Common.{◌≡◌, ◌<◌, ◌≤◌, ℕ, suc, ◌+◌, get_or, drop-cons, List, [], ◌∷◌, ◌++◌, length, map, take, drop, reverse, ap, sym, refl, ◌∙◌, append_assoc, arith}
use Rattle.std.proofs.Math.Seq.{drop-nil, take-nil}
use Rattle.std.proofs.lemmas.List.{append-nil, drop_all, reverse-append, reverse-reverse}
use Rattle.java_tree.specs.declared.tokens.Position.{Position}
use Rattle.java_tree.specs.declared.tokens.Keyword.{Keyword}
use Rattle.java_tree.specs.declared.tokens.Keyword.TheVariants as w
use Rattle.java_tree.specs.declared.tokens.TokenKind.{TokenKind}
use Rattle.java_tree.specs.declared.tokens.TokenKind.TheVariants as k
use Rattle.java_tree.specs.Seen.{Token, Tokens, kind_seen, word_seen}
use Rattle.java_expr_printer.specs.declared.written.Written.{Written}
use Rattle.java_expr_printer.specs.Shown.{shown, written_shown}
use Rattle.java_expr_printer.proofs.LawsToCite.{written_texts, kind_plain, expanded_none, expanded_more, expanded_joins}
use Rattle.java_expr_grammar.proofs.LawsToCite.{seen_more, seen_none}
use Rattle.java_unit_grammar.specs.declared.statements.JBody.{JBody}
use Rattle.java_unit_grammar.specs.declared.statements.JStatement.{JStatement}
use Rattle.java_unit_grammar.specs.Tokens.{filled, body_tokens}
use Rattle.java_unit_printer.specs.declared.work.Work.{Work}
use Rattle.java_unit_printer.specs.Work.{laid, todo, work_tokens, weight, work_weight}
use Rattle.java_unit_printer.specs.Weights.{total}
use Rattle.java_unit_printer.proofs.UnitTexts.{unit_texts, record_texts}
use Rattle.java_unit_printer.proofs.Weighted.{weights, record_weights}

pub laid_none : laid [] ≡ []
unfolding laid shown
laid_none = refl

pub laid_more : (text : List Written) (x : Written) → laid (text ++ x ∷ []) ≡ written_shown x ∷ laid text
unfolding laid shown
laid_more text x = ap shown (reverse-append text (x ∷ []))

pub laid_reverse : (text : List Written) → laid (reverse text) ≡ shown text
unfolding laid
laid_reverse text = ap shown (reverse-reverse text)

pub todo_none : todo [] ≡ []
unfolding todo
todo_none = refl

pub todo_more : (xs : List Work) (x : Work) → todo (xs ++ x ∷ []) ≡ work_tokens x ++ todo xs
unfolding todo
todo_more [] x = sym (append-nil (work_tokens x))
todo_more (y ∷ xs) x = ap (λ z. z ++ work_tokens y) (todo_more xs x) ∙ append_assoc (work_tokens x) (todo xs) (work_tokens y)

pub weight_none : weight [] ≡ 0
unfolding weight
weight_none = refl

pub weight_more : (xs : List Work) (x : Work) → weight (xs ++ x ∷ []) ≡ work_weight x + weight xs
unfolding weight
weight_more [] x = refl
weight_more (y ∷ xs) x = omega (arith, weight_more xs x)

pub filled_none : (ts : Tokens) → filled ts [] ≡ ts
filled_none [] = refl
filled_none (Token.Sign mark at ∷ ts) = ap (λ z. Token.Sign mark at ∷ z) (filled_none ts)
filled_none (Token.Word word at ∷ ts) = ap (λ z. Token.Word word at ∷ z) (filled_none ts)
filled_none (Token.Id n at ∷ ts) = ap (λ z. Token.Id n at ∷ z) (filled_none ts)
filled_none (Token.Literal x at ∷ ts) = ap (λ z. Token.Literal x at ∷ z) (filled_none ts)
filled_none (Token.ArrowBody at span ∷ ts) = ap (λ z. Token.ArrowBody at span ∷ z) (filled_none ts)
filled_none (Token.CloseBody at span ∷ ts) = ap (λ z. Token.CloseBody at span ∷ z) (filled_none ts)

pub filled_end : (t : Token) (ts : Tokens) (bodies : List JBody) → length bodies < 1 → filled (t ∷ ts) (map body_tokens bodies) ≡ t ∷ filled ts (map body_tokens bodies)
filled_end t ts [] few = filled_none (t ∷ ts) ∙ ap (λ z. t ∷ z) (sym (filled_none ts))
filled_end t ts (b ∷ bs) few = absurd (omega (arith, few))

-- ---- a token of a file has no body

word_filled : (word : Keyword) (at : Position) (ts : Tokens) (bodies : List Tokens) → filled (word_seen word at ∷ ts) bodies ≡ word_seen word at ∷ filled ts bodies
word_filled w.Abstract at ts bodies = refl
word_filled w.Boolean at ts bodies = refl
word_filled w.Break at ts bodies = refl
word_filled w.Byte at ts bodies = refl
word_filled w.Case at ts bodies = refl
word_filled w.Catch at ts bodies = refl
word_filled w.Char at ts bodies = refl
word_filled w.Class at ts bodies = refl
word_filled w.Continue at ts bodies = refl
word_filled w.Default at ts bodies = refl
word_filled w.Do at ts bodies = refl
word_filled w.Else at ts bodies = refl
word_filled w.Enum at ts bodies = refl
word_filled w.Extends at ts bodies = refl
word_filled w.False at ts bodies = refl
word_filled w.Final at ts bodies = refl
word_filled w.Finally at ts bodies = refl
word_filled w.For at ts bodies = refl
word_filled w.If at ts bodies = refl
word_filled w.Implements at ts bodies = refl
word_filled w.Import at ts bodies = refl
word_filled w.Instanceof at ts bodies = refl
word_filled w.Int at ts bodies = refl
word_filled w.Interface at ts bodies = refl
word_filled w.Long at ts bodies = refl
word_filled w.New at ts bodies = refl
word_filled w.Null at ts bodies = refl
word_filled w.Package at ts bodies = refl
word_filled w.Private at ts bodies = refl
word_filled w.Protected at ts bodies = refl
word_filled w.Public at ts bodies = refl
word_filled w.Return at ts bodies = refl
word_filled w.Short at ts bodies = refl
word_filled w.Static at ts bodies = refl
word_filled w.Super at ts bodies = refl
word_filled w.Switch at ts bodies = refl
word_filled w.Synchronized at ts bodies = refl
word_filled w.This at ts bodies = refl
word_filled w.Throw at ts bodies = refl
word_filled w.Throws at ts bodies = refl
word_filled w.True at ts bodies = refl
word_filled w.Try at ts bodies = refl
word_filled w.Void at ts bodies = refl
word_filled w.Volatile at ts bodies = refl
word_filled w.While at ts bodies = refl

pub kind_filled : (kind : TokenKind) (at : Position) (ts : Tokens) (bodies : List Tokens) → filled (kind_seen kind at ∷ ts) bodies ≡ kind_seen kind at ∷ filled ts bodies
kind_filled (k.Mark mark) at ts bodies = refl
kind_filled (k.Keyword word) at ts bodies = word_filled word at ts bodies
kind_filled (k.Name name) at ts bodies = refl
kind_filled (k.Integer n) at ts bodies = refl
kind_filled k.LeastInteger at ts bodies = refl
kind_filled (k.Long n) at ts bodies = refl
kind_filled k.LeastLong at ts bodies = refl
kind_filled (k.Character n) at ts bodies = refl
kind_filled (k.Text units) at ts bodies = refl

-- ---- a body of which there is none

pub none_between : (n from : ℕ) → ◌≡◌ {A = Tokens} (take n (drop from [])) []
none_between n from = ap (take n) (drop-nil from) ∙ take-nil n

pub total_some : (ns : List ℕ) → 1 ≤ total ns
total_some [] = omega arith
total_some (n ∷ ns) = omega arith

pub nothing_left : (xs : List Written) → length xs ≡ 0 → xs ≡ []
nothing_left [] none = refl
nothing_left (x ∷ xs) none = absurd (omega (arith, none))

-- ---- statements from one of a number on

pub statements_from : (xs : List JStatement) (from : ℕ) (x : JStatement) → from < length xs → x ≡ get_or xs from x → drop from xs ≡ x ∷ drop (from + 1) xs
statements_from xs from x within same =
    let one : suc from ≡ from + 1 = omega arith in
    drop-cons xs from x within ∙ (ap (λ z. z ∷ drop (suc from) xs) (sym same) ∙ ap (λ z. x ∷ drop z xs) one)

pub statements_end : (xs : List JStatement) (from : ℕ) → length xs ≤ from → drop from xs ≡ []
statements_end xs from beyond = drop_all from xs beyond

pub ruleset places = (append_assoc, append-nil, todo_more, weight_more, statements_from, statements_end)

pub ruleset stacks = (append_assoc, append-nil, laid_none, laid_more, laid_reverse, todo_none, todo_more, weight_none, weight_more, filled_none, kind_filled, total_some, nothing_left, written_texts)

pub ruleset firsts = (append_assoc, kind_filled, filled_end)

pub ruleset records = (stacks, record_texts, record_weights)

pub ruleset opened = (stacks, unit_texts, weights)

pub ruleset leaves = (append_assoc, append-nil, seen_more, seen_none, kind_plain, none_between)

pub ruleset turns = (append_assoc, append-nil, seen_more, seen_none, todo_none, todo_more, weight_none, weight_more, expanded_none, expanded_more, expanded_joins)
