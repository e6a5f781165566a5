-- What follows what is read is no longer.
use Rattle.std.proofs.Common.{◌≡◌, ◌≤◌, ℕ, suc, [], ◌∷◌, List, length, Option, Some, None, Result, Ok, Err, ap, arith}
use Rattle.std.specs.Borrow.{Bor}
use Rattle.std.proofs.lemmas.List.{length-append}
use Rattle.j2k_base.specs.declared.errors.NoMemory.{NoMemory}
use Rattle.java_tree.specs.declared.tokens.Mark.TheVariants as m
use Rattle.java_tree.specs.declared.exprs.JTypedParam.{JTypedParam}
use Rattle.java_tree.specs.Trees.{typed_tokens}
use Rattle.java_tree.specs.Seen.{Token, Tokens}
use Rattle.java_expr_grammar.specs.Reading.{type_read, typed_read, typed_step}
use Rattle.java_expr_grammar.proofs.LawsToCite.{typed_sound}
use Rattle.java_unit_grammar.specs.Reading.{before_curly}
use Rattle.java_token_cursor.specs.declared.piece.Piece.{Piece}
use Rattle.java_token_cursor.specs.Shown.{shown}
use Rattle.java_type_parser.specs.Gives.{Gives, Always}
use Rattle.java_type_parser.proofs.LawsToCite.{length_shown}
use Rattle.java_block_parser.specs.Asks.{Shorter, found}

pub curly_within : (ts : Tokens) → length (before_curly ts).1 ≤ length ts
curly_within [] = omega arith
curly_within (Token.Sign m.OpenCurly at ∷ rest) = omega arith
curly_within (x ∷ rest) = let h = curly_within rest in omega (arith, h)

pub typed_within : (d : ℕ) (ts rest : Tokens) (x : JTypedParam) → typed_read d ts ≡ Some (x, rest) → length rest ≤ length ts
typed_within d ts rest x e =
    let l = ap length (typed_sound d ts (x, rest) e).0 in
    let k = length-append (typed_tokens x) rest in
    omega (arith, l, k)

pub curly_shorter : (ts before behind : List Piece) → (shown before, shown behind) ≡ before_curly (shown ts) → length behind ≤ length ts
curly_shorter ts before behind e =
    let same : shown behind ≡ (before_curly (shown ts)).1 = ap (λ (x : Tokens × Tokens). x.1) e in
    let l = ap length same in
    let h = curly_within (shown ts) in
    let k = length_shown ts in
    let j = length_shown behind in
    omega (arith, l, h, k, j)

-- what is caught
pub caught_fits : (d : ℕ) (ts : List Piece) (x : Result (Option (JTypedParam × Bor (List Piece))) NoMemory)
    → Gives found Always (typed_step (type_read d) (shown ts)) x → Gives found (Shorter ts) (typed_read (suc d) (shown ts)) x
unfolding typed_read
caught_fits d ts (Err e) g = tt
caught_fits d ts (Ok None) g = g
caught_fits d ts (Ok (Some x)) g =
    let h = typed_within (suc d) (shown ts) (shown x.1.now) x.0 g.0 in
    let k = length_shown ts in
    let j = length_shown x.1.now in
    (g.0, omega (arith, h, k, j))
