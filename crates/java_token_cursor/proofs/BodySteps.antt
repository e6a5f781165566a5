-- Braces among tokens, a token at a time.
use Rattle.std.proofs.Common.{◌≡◌, ℕ, zero, suc, ◌+◌, ◌-◌, ◌≤◌, List, [], ◌∷◌, ◌++◌, length, map, Option, Some, None, refl, ap, append_assoc, arith}
use Rattle.std.proofs.lemmas.List.{append-nil}
use Rattle.java_tree.specs.declared.tokens.Mark.TheVariants as m
use Rattle.java_tree.specs.declared.tokens.Position.{Position}
use Rattle.java_tree.specs.declared.exprs.Span.{Span}
use Rattle.java_tree.specs.Seen.{Token, Tokens, from_closing, joins, body, body_by, piece, pieces, pieces_within}
use Rattle.java_expr_grammar.proofs.LawsToCite.{length_seen}
use Rattle.java_token_cursor.specs.declared.piece.Piece.{Piece}
use Rattle.java_token_cursor.specs.Shown.{shown, piece_shown}
use Rattle.java_token_cursor.specs.declared.bodies.Brace.{Brace}
use Rattle.java_token_cursor.specs.declared.bodies.Brace.TheVariants as c
use Rattle.java_token_cursor.specs.declared.bodies.Opener.{Opener}
use Rattle.java_token_cursor.specs.declared.bodies.Opener.TheVariants as o
use Rattle.java_token_cursor.specs.declared.bodies.Turn.{Turn}
use Rattle.java_token_cursor.specs.declared.bodies.Turn.TheVariants as u
use Rattle.java_token_cursor.specs.Bodies.{brace, opener, turn, closed, closing}

abbrev pub after_turn : Turn → Tokens → Option (Position × Tokens)
after_turn (u.Open n) ts = closing n ts
after_turn (u.Closed at) ts = Some (at, ts)

pub closing_none : (n : ℕ) → closing n [] ≡ None
unfolding closing from_closing
closing_none n = refl

pub closing_more : (n : ℕ) (x : Token) (ts : Tokens) → closing n (x ∷ ts) ≡ after_turn (turn n (brace x)) ts
unfolding closing from_closing
closing_more n (Token.Sign m.OpenCurly at) ts = ap (λ k. closed (from_closing k ts)) (omega arith)
closing_more zero (Token.Sign m.CloseCurly at) ts = refl
closing_more (suc n) (Token.Sign m.CloseCurly at) ts = refl
closing_more zero (_) ts = refl
closing_more (suc n) (_) ts = refl

abbrev pub body_from : ℕ → ℕ → Brace → Option (Position × Tokens) → Option (Span × Tokens)
body_from end inside (c.Opens opens) (Some found) =
    Some (record { opens = opens; from = end - inside; to = end - (length found.1 + 1); closes = found.0 }, found.1)
body_from end inside _ _ = None

body_behind : (end : ℕ) (opens : Position) (inside : ℕ) (ts : Tokens) → body_by end opens inside ts ≡ body_from end inside (c.Opens opens) (closed ts)
body_behind end opens inside [] = refl
body_behind end opens inside (Token.Sign m.CloseCurly closes ∷ rest) =
    ap (λ (n : ℕ). Some (record { opens = opens; from = end - inside; to = end - n; closes = closes }, rest)) (omega arith)
body_behind end opens inside (_ ∷ rest) = refl

pub body_none : (end : ℕ) → body end [] ≡ None
body_none end = refl

pub body_more : (end : ℕ) (x : Token) (ts : Tokens) → body end (x ∷ ts) ≡ body_from end (length ts) (brace x) (closing 0 ts)
unfolding closing
body_more end (Token.Sign m.OpenCurly at) ts = body_behind end at (length ts) (from_closing 0 ts)
body_more end (_) ts = refl

abbrev pub piece_from : Opener → Token → Tokens → Option (Span × Tokens) → Token × Tokens
piece_from (o.Arrow at) x ts (Some found) = (Token.ArrowBody at found.0, found.1)
piece_from (o.CloseRound at) x ts (Some found) = (Token.CloseBody at found.0, found.1)
piece_from _ x ts _ = (x, ts)

piece_arrow : (end : ℕ) (at : Position) (ts : Tokens) (found : Option (Span × Tokens)) → joins (Token.ArrowBody at) (Token.Sign m.Arrow at) ts found ≡ piece_from (o.Arrow at) (Token.Sign m.Arrow at) ts found
piece_arrow end at ts None = refl
piece_arrow end at ts (Some found) = refl

piece_close : (end : ℕ) (at : Position) (ts : Tokens) (found : Option (Span × Tokens)) → joins (Token.CloseBody at) (Token.Sign m.CloseRound at) ts found ≡ piece_from (o.CloseRound at) (Token.Sign m.CloseRound at) ts found
piece_close end at ts None = refl
piece_close end at ts (Some found) = refl

pub piece_is : (end : ℕ) (x : Token) (ts : Tokens) → piece end x ts ≡ piece_from (opener x) x ts (body end ts)
piece_is end (Token.Sign m.Arrow at) ts = piece_arrow end at ts (body end ts)
piece_is end (Token.Sign m.CloseRound at) ts = piece_close end at ts (body end ts)
piece_is end (_) ts = refl

-- ---- no piece lengthens what is left

from_shorter : (n : ℕ) (ts : Tokens) → length (from_closing n ts) ≤ length ts
unfolding from_closing
from_shorter n [] = omega arith
from_shorter n (Token.Sign m.OpenCurly at ∷ ts) = let e = from_shorter (suc n) ts in omega (arith, e)
from_shorter zero (Token.Sign m.CloseCurly at ∷ ts) = omega arith
from_shorter (suc n) (Token.Sign m.CloseCurly at ∷ ts) = let e = from_shorter n ts in omega (arith, e)
from_shorter zero (_ ∷ ts) = let e = from_shorter zero ts in omega (arith, e)
from_shorter (suc n) (_ ∷ ts) = let e = from_shorter (suc n) ts in omega (arith, e)

abbrev left : Tokens → Option (Span × Tokens) → Tokens
left ts None = ts
left ts (Some found) = found.1

body_by_left : (end : ℕ) (opens : Position) (inside : ℕ) (ts whole : Tokens) → length ts ≤ length whole → length (left whole (body_by end opens inside ts)) ≤ length whole
body_by_left end opens inside [] whole h = omega arith
body_by_left end opens inside (Token.Sign m.CloseCurly closes ∷ ts) whole h = omega (arith, h)
body_by_left end opens inside (_ ∷ ts) whole h = omega arith

body_left : (end : ℕ) (ts : Tokens) → length (left ts (body end ts)) ≤ length ts
body_left end [] = omega arith
body_left end (Token.Sign m.OpenCurly at ∷ ts) =
    let e = from_shorter 0 ts in
    body_by_left end at (length ts) (from_closing 0 ts) (Token.Sign m.OpenCurly at ∷ ts) (omega (arith, e))
body_left end (_ ∷ ts) = omega arith

joins_left : (make : Span → Token) (plain : Token) (ts : Tokens) (found : Option (Span × Tokens)) → (joins make plain ts found).1 ≡ left ts found
joins_left make plain ts None = refl
joins_left make plain ts (Some found) = refl

joins_shorter : (make : Span → Token) (plain : Token) (end : ℕ) (ts : Tokens) → length (joins make plain ts (body end ts)).1 ≤ length ts
joins_shorter make plain end ts =
    let e = ap (λ (l : Tokens). length l) (joins_left make plain ts (body end ts)) in
    omega (arith, e, body_left end ts)

pub piece_shorter : (end : ℕ) (x : Token) (ts : Tokens) → length (piece end x ts).1 ≤ length ts
piece_shorter end (Token.Sign m.Arrow at) ts = joins_shorter (Token.ArrowBody at) (Token.Sign m.Arrow at) end ts
piece_shorter end (Token.Sign m.CloseRound at) ts = joins_shorter (Token.CloseBody at) (Token.Sign m.CloseRound at) end ts
piece_shorter end (_) ts = omega arith

-- ---- the pieces, one at a time

enough : (n k end : ℕ) (ts : Tokens) → length ts ≤ n → length ts ≤ k → pieces_within n end ts ≡ pieces_within k end ts
unfolding pieces_within
enough zero zero end ts g h = refl
enough zero (suc k) end [] g h = refl
enough (suc n) zero end [] g h = refl
enough (suc n) (suc k) end [] g h = refl
enough zero k end (x ∷ ts) g h = absurd (omega (arith, g))
enough (suc n) zero end (x ∷ ts) g h = absurd (omega (arith, h))
enough (suc n) (suc k) end (x ∷ ts) g h =
    let e = piece_shorter end x ts in
    ap (λ (l : Tokens). (piece end x ts).0 ∷ l) (enough n k end (piece end x ts).1 (omega (arith, g, e)) (omega (arith, h, e)))

pub pieces_none : (end : ℕ) → pieces end [] ≡ []
unfolding pieces_within
pieces_none end = refl

pub pieces_more : (end : ℕ) (x : Token) (ts : Tokens) → pieces end (x ∷ ts) ≡ (piece end x ts).0 ∷ pieces end (piece end x ts).1
unfolding pieces_within
pieces_more end x ts =
    let e = piece_shorter end x ts in
    ap (λ (l : Tokens). (piece end x ts).0 ∷ l) (enough (length ts) (length (piece end x ts).1) end (piece end x ts).1 e (omega arith))

-- ---- lists as they are shown

pub shown_none : shown [] ≡ []
unfolding shown
shown_none = refl

pub shown_more : (xs : List Piece) (x : Piece) → shown (xs ++ x ∷ []) ≡ shown xs ++ piece_shown x ∷ []
unfolding shown
shown_more [] x = refl
shown_more (y ∷ xs) x = ap (λ (l : Tokens). piece_shown y ∷ l) (shown_more xs x)

pub ruleset bodies = (closing_none, closing_more, body_none, body_more, piece_is, length_seen)

pub ruleset listed = (pieces_none, pieces_more, shown_none, shown_more, append_assoc, append-nil)
