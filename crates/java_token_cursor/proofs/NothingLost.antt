-- Pieces give their tokens back.
use Rattle.std.proofs.Common.{◌≡◌, ℕ, zero, suc, ◌+◌, ◌-◌, ◌<◌, ◌≤◌, List, [], ◌∷◌, ◌++◌, length, take, drop, slice_range, inl, inr, refl, sym, ap, subst, ◌∙◌, append_assoc, arith}
use Rattle.std.proofs.lemmas.List.{length-append, length-drop, length-take-le, map-append, take-append-drop}
use Rattle.std.proofs.lemmas.Bool.{cases_lt}
use Rattle.std.proofs.lemmas.List.Folds.{drop_split}
use Rattle.std.proofs.Math.Seq.{drop-append_seam, take-append_seam}
use Rattle.java_tree.specs.declared.tokens.Mark.TheVariants as m
use Rattle.java_tree.specs.declared.tokens.Position.{Position}
use Rattle.java_tree.specs.declared.tokens.Keyword.{Keyword}
use Rattle.java_tree.specs.declared.tokens.Keyword.TheVariants as w
use Rattle.java_tree.specs.declared.tokens.TokenKind.{TokenKind}
use Rattle.java_tree.specs.declared.tokens.TokenKind.TheVariants as k
use Rattle.java_tree.specs.declared.tokens.JToken.{JToken}
use Rattle.java_tree.specs.declared.exprs.Span.{Span}
use Rattle.java_tree.specs.Seen.{Token, Tokens, word_seen, kind_seen, token_seen, seen, between, from_closing, joins, body, body_by, piece, pieces, pieces_within, body_tokens, token_tokens, expanded}
use Rattle.java_expr_grammar.proofs.LawsToCite.{length_seen}
use Rattle.java_token_cursor.proofs.BodySteps.{piece_shorter}

-- ---- a token of a list is itself

abbrev pub Plain : Token → Type 0
Plain x = (file : Tokens) → token_tokens file x ≡ x ∷ []

abbrev pub AllPlain : Tokens → Type 0
AllPlain [] = Unit {0}
AllPlain (x ∷ ts) = Plain x × AllPlain ts

word_plain : (word : Keyword) (at : Position) → Plain (word_seen word at)
word_plain w.True at = λ file. refl
word_plain w.False at = λ file. refl
word_plain w.Null at = λ file. refl
word_plain _ at = λ file. refl

kind_plain : (kind : TokenKind) (at : Position) → Plain (kind_seen kind at)
kind_plain (k.Mark mark) at = λ file. refl
kind_plain (k.Keyword word) at = word_plain word at
kind_plain (k.Name name) at = λ file. refl
kind_plain _ at = λ file. refl

all_plain : (xs : List JToken) → AllPlain (seen xs)
unfolding seen
all_plain [] = tt
all_plain (x ∷ xs) = (kind_plain x.kind x.position, all_plain xs)

plain_behind : (a b : Tokens) → AllPlain (a ++ b) → AllPlain b
plain_behind [] b h = h
plain_behind (x ∷ a) b h = plain_behind a b h.1

-- ---- a body

from_split : (n : ℕ) (ts : Tokens) → (mid : Tokens) × (ts ≡ mid ++ from_closing n ts)
unfolding from_closing
from_split n [] = ([], refl)
from_split n (Token.Sign m.OpenCurly at ∷ ts) = let e = from_split (suc n) ts in (Token.Sign m.OpenCurly at ∷ e.0, ap (λ (l : Tokens). Token.Sign m.OpenCurly at ∷ l) e.1)
from_split zero (Token.Sign m.CloseCurly at ∷ ts) = ([], refl)
from_split (suc n) (Token.Sign m.CloseCurly at ∷ ts) = let e = from_split n ts in (Token.Sign m.CloseCurly at ∷ e.0, ap (λ (l : Tokens). Token.Sign m.CloseCurly at ∷ l) e.1)
from_split zero (x ∷ ts) = let e = from_split zero ts in (x ∷ e.0, ap (λ (l : Tokens). x ∷ l) e.1)
from_split (suc n) (x ∷ ts) = let e = from_split (suc n) ts in (x ∷ e.0, ap (λ (l : Tokens). x ∷ l) e.1)

part : (pre mid behind : Tokens) (from to : ℕ) → from ≡ length pre → to ≡ length pre + length mid → take (to - from) (drop from (pre ++ mid ++ behind)) ≡ mid
part pre mid behind from to f t =
    let n : to - from ≡ length mid = omega (arith, f, t) in
    let d : drop from (pre ++ (mid ++ behind)) ≡ mid ++ behind = ap (λ i. drop i (pre ++ (mid ++ behind))) f ∙ drop-append_seam pre (mid ++ behind) in
    let a = append_assoc pre mid behind in
    ap (λ (l : Tokens). take (to - from) (drop from l)) a ∙ ap (λ (l : Tokens). take (to - from) l) d ∙ ap (λ i. take i (mid ++ behind)) n ∙ take-append_seam mid behind

-- what a token with the body behind it gives, and what follows
abbrev given : Tokens → Token × Tokens → Tokens
given file x = token_tokens file x.0 ++ x.1

-- the tokens of a file around some of them, of which the last stands before the number `end`
pub record Lies (file ts : Tokens) (end : ℕ) : Type 0 where
  pub before : Tokens
  pub behind : Tokens
  pub whole : file ≡ before ++ (ts ++ behind)
  pub ends : end ≡ length before + length ts

moved : (file a b : Tokens) (end : ℕ) → Lies file (a ++ b) end → Lies file b end
moved file a b end h = record {
  before = h.before ++ a;
  behind = h.behind;
  whole = h.whole ∙ ap (λ (l : Tokens). h.before ++ l) (append_assoc a b h.behind) ∙ sym (append_assoc h.before a (b ++ h.behind));
  ends = let p = length-append h.before a in let q = length-append a b in omega (arith, p, q, h.ends);
}

body_behind : (file : Tokens) (end : ℕ) (make : Span → Token) (plain : Token) (opens : Position) (mid rest : Tokens)
    → ((s : Span) → token_tokens file (make s) ≡ plain ∷ body_tokens file s)
    → token_tokens file plain ≡ plain ∷ []
    → Lies file (mid ++ rest) end
    → given file (joins make plain (Token.Sign m.OpenCurly opens ∷ (mid ++ rest)) (body_by end opens (length (mid ++ rest)) rest)) ≡ plain ∷ Token.Sign m.OpenCurly opens ∷ (mid ++ rest)
body_behind file end make plain opens mid (Token.Sign m.CloseCurly closes ∷ rest) makes bare h =
    let from = end - length (mid ++ Token.Sign m.CloseCurly closes ∷ rest) in
    let to = end - suc (length rest) in
    let tail : Tokens = Token.Sign m.CloseCurly closes ∷ rest in
    let s : Span = record { opens = opens; from = from; to = to; closes = closes } in
    let n = length-append mid tail in
    let inner : take (to - from) (drop from file) ≡ mid =
    ap (λ (l : Tokens). take (to - from) (drop from l)) (h.whole ∙ ap (λ (l : Tokens). h.before ++ l) (append_assoc mid tail h.behind) ∙ sym (append_assoc h.before mid (tail ++ h.behind)))
    ∙ part h.before mid (tail ++ h.behind) from to (omega (arith, n, h.ends)) (omega (arith, n, h.ends)) in
    ap (λ (l : Tokens). l ++ rest) (makes s)
    ∙ ap (λ (l : Tokens). plain ∷ Token.Sign m.OpenCurly opens ∷ ((l ++ Token.Sign m.CloseCurly closes ∷ []) ++ rest)) inner
    ∙ ap (λ (l : Tokens). plain ∷ Token.Sign m.OpenCurly opens ∷ l) (append_assoc mid (Token.Sign m.CloseCurly closes ∷ []) rest)
body_behind file end make plain opens mid (rest) makes bare h =
    ap (λ (l : Tokens). l ++ (Token.Sign m.OpenCurly opens ∷ (mid ++ rest))) bare

joined : (file : Tokens) (end : ℕ) (make : Span → Token) (plain : Token) (ts : Tokens)
    → ((s : Span) → token_tokens file (make s) ≡ plain ∷ body_tokens file s)
    → token_tokens file plain ≡ plain ∷ []
    → Lies file ts end
    → given file (joins make plain ts (body end ts)) ≡ plain ∷ ts
joined file end make plain (Token.Sign m.OpenCurly opens ∷ inside) makes bare h =
    let e = from_split 0 inside in
    let P : Tokens → Type 0 = λ l. Lies file l end in
    let within : Lies file (e.0 ++ from_closing 0 inside) end = subst P e.1 (moved file (Token.Sign m.OpenCurly opens ∷ []) inside end h) in
    let Q : Tokens → Type 0 = λ l. given file (joins make plain (Token.Sign m.OpenCurly opens ∷ l) (body_by end opens (length l) (from_closing 0 inside))) ≡ plain ∷ Token.Sign m.OpenCurly opens ∷ l in
    subst Q (sym e.1) (body_behind file end make plain opens e.0 (from_closing 0 inside) makes bare within)
joined file end make plain (ts) makes bare h = ap (λ (l : Tokens). l ++ ts) bare

piece_kept : (file : Tokens) (end : ℕ) (x : Token) (ts : Tokens) → Plain x → Lies file ts end → given file (piece end x ts) ≡ x ∷ ts
piece_kept file end (Token.Sign m.Arrow at) ts p h = joined file end (Token.ArrowBody at) (Token.Sign m.Arrow at) ts (λ s. refl) refl h
piece_kept file end (Token.Sign m.CloseRound at) ts p h = joined file end (Token.CloseBody at) (Token.Sign m.CloseRound at) ts (λ s. refl) refl h
piece_kept file end (Token.ArrowBody at s) ts p h = ap (λ (l : Tokens). l ++ ts) (p file)
piece_kept file end (Token.CloseBody at s) ts p h = ap (λ (l : Tokens). l ++ ts) (p file)
piece_kept file end (_) ts p h = refl

-- ---- all of them

kept : (n : ℕ) (file ts : Tokens) (end : ℕ) → length ts ≤ n → AllPlain ts → Lies file ts end → expanded file (pieces_within n end ts) ≡ ts
unfolding pieces_within expanded
kept zero file [] end g p h = refl
kept (suc n) file [] end g p h = refl
kept zero file (x ∷ ts) end g p h = absurd (omega (arith, g))
kept (suc n) file (x ∷ ts) end g p h =
    let e = piece_kept file end x ts p.0 (moved file (x ∷ []) ts end h) in
    let first : Tokens = token_tokens file (piece end x ts).0 in
    let rest : Tokens = (piece end x ts).1 in
    let P : Tokens → Type 0 = λ l. Lies file l end in
    let lies : Lies file rest end = moved file first rest end (subst P (sym e) h) in
    let Q : Tokens → Type 0 = λ l. AllPlain l in
    let plain : AllPlain rest = plain_behind first rest (subst Q (sym e) p) in
    let s = piece_shorter end x ts in
    ap (λ (l : Tokens). first ++ l) (kept n file rest end (omega (arith, g, s)) plain lies) ∙ e

seen-append : (a b : List JToken) → seen (a ++ b) ≡ seen a ++ seen b
unfolding seen
seen-append a b = map-append token_seen a b

between_lies : (file : List JToken) (from to : ℕ) → to ≤ length file → from ≤ to → Lies (seen file) (between from to file) to
between_lies file from to within ordered = record {
  before = seen (take from file);
  behind = seen (drop to file);
  whole =
      let s = take-append-drop from file in
      let d = drop_split file from to ordered in
      ap seen (sym s ∙ ap (λ (l : List JToken). take from file ++ l) d)
      ∙ seen-append (take from file) (slice_range file from to ++ drop to file)
      ∙ ap (λ (l : Tokens). seen (take from file) ++ l) (seen-append (slice_range file from to) (drop to file));
  ends =
      let a = length_seen (take from file) in
      let b = length_seen (slice_range file from to) in
      let c = length-take-le from file (omega (arith, ordered, within)) in
      let d = length-drop from file in
      let e = length-take-le (to - from) (drop from file) (omega (arith, d, within)) in
      omega (arith, a, b, c, e, ordered);
}

none_between : (file : List JToken) (from to : ℕ) → to < from → between from to file ≡ []
unfolding seen
none_between file from to h =
    let e : to - from ≡ 0 = omega (arith, h) in
    ap (λ n. seen (take n (drop from file))) e

none_kept : (file : Tokens) (end : ℕ) (ts : Tokens) → ts ≡ [] → expanded file (pieces end ts) ≡ ts
unfolding pieces_within expanded
none_kept file end [] e = refl
none_kept file end (x ∷ ts) e = absurd (cc e)

pub nothing : (file : List JToken) (from to : ℕ) → to ≤ length file → expanded (seen file) (pieces to (between from to file)) ≡ between from to file
nothing file from to within =
    elim (cases_lt to from) [
      | inl h ↦ none_kept (seen file) to (between from to file) (none_between file from to h)
      | inr h ↦ kept (length (between from to file)) (seen file) (between from to file) to (omega arith) (all_plain (slice_range file from to)) (between_lies file from to within h)
    ]
