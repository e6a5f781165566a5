-- What follows a text is no longer than the text and it.
use Rattle.std.proofs.Common.{◌≡◌, ◌≤◌, List, [], ◌∷◌, length, arith, ap}
use Rattle.std.specs.Borrow.{Bor}
use Rattle.java_tree.specs.declared.tokens.Mark.TheVariants as m
use Rattle.java_tree.specs.Seen.{Token, Tokens}
use Rattle.java_token_cursor.specs.declared.piece.Piece.{Piece}
use Rattle.java_token_cursor.specs.Shown.{shown}
use Rattle.java_type_parser.proofs.LawsToCite.{length_shown}
use Rattle.java_unit_grammar.specs.Reading.{line}

line_within : (ts : Tokens) → length (line ts).1 ≤ length ts
line_within [] = omega arith
line_within (Token.Sign m.Semicolon at ∷ rest) = omega arith
line_within (x ∷ rest) = let h = line_within rest in omega (arith, h)

shown_within : (xs ys : List Piece) (ts : Tokens) → shown ys ≡ ts → length ts ≤ length (shown xs) → length ys ≤ length xs
shown_within xs ys ts e h =
    let a = ap length e in
    let b = length_shown xs in
    let c = length_shown ys in
    omega (arith, a, b, c, h)

pub line_shorter : (xs : List Piece) (p : Bor (List Piece) × Bor (List Piece)) → (shown p.0.now, shown p.1.now) ≡ line (shown xs) → length p.1.now ≤ length xs
line_shorter xs p e = shown_within xs p.1.now _ (ap (λ (x : Tokens × Tokens). x.1) e) (line_within (shown xs))

pub ruleset lengths = (line_shorter)
