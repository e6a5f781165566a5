-- The body behind a `{`.
use Rattle.std.proofs.Common.{◌≡◌, ◌≤◌, ◌+◌, ◌-◌, ℕ, suc, List, [], ◌∷◌, length, take, drop, Option, Some, None, refl, ap, arith}
use Rattle.java_tree.specs.declared.tokens.Mark.TheVariants as m
use Rattle.java_tree.specs.declared.tokens.Position.{Position}
use Rattle.java_tree.specs.declared.exprs.Span.{Span}
use Rattle.java_tree.specs.Seen.{Token, Tokens, from_closing, body, body_by}
use Rattle.java_token_cursor.specs.declared.piece.Piece.{Piece}
use Rattle.java_token_cursor.specs.Shown.{shown}
use Rattle.java_token_cursor.specs.Bodies.{closed, closing}
use Rattle.java_type_parser.proofs.LawsToCite.{length_shown}

abbrev pub ended : ℕ → Position → ℕ → Option (Position × Tokens) → Option (Span × Tokens)
ended end opens inside None = None
ended end opens inside (Some found) =
    Some (record { opens = opens; from = end - inside; to = end - (length found.1 + 1); closes = found.0 }, found.1)

body_end : (end : ℕ) (opens : Position) (inside : ℕ) (ts : Tokens) → body_by end opens inside ts ≡ ended end opens inside (closed ts)
body_end end opens inside [] = refl
body_end end opens inside (Token.Sign m.CloseCurly closes ∷ rest) =
    ap (λ (n : ℕ). Some (record { opens = opens; from = end - inside; to = end - n; closes = closes }, rest)) (omega arith)
body_end end opens inside (_ ∷ rest) = refl

pub body_opens : (end : ℕ) (opens : Position) (ts : Tokens) → body end (Token.Sign m.OpenCurly opens ∷ ts) ≡ ended end opens (length ts) (closing 0 ts)
unfolding closing
body_opens end opens ts = body_end end opens (length ts) (from_closing 0 ts)

pub closing_none : (n : ℕ) (xs : List Piece) → length xs ≡ 0 → closing n (shown xs) ≡ None
unfolding closing from_closing shown
closing_none n [] e = refl
closing_none n (x ∷ xs) e = absurd (cc e)

pub ruleset bodies = (body_opens, length_shown)
