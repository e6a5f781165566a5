-- What a file declares.
use Rattle.std.proofs.Common.{◌≡◌, ◌<◌, ◌^◌, suc, List, [], ◌∷◌, length, true, false, IfOk, Option, Some, None, Result, Ok, Err, refl, sym, ap, arith}
use Rattle.j2k_base.specs.declared.errors.NoMemory.{NoMemory}
use Rattle.java_tree.specs.declared.tokens.JToken.{JToken}
use Rattle.java_tree.specs.Seen.{Tokens, seen}
use Rattle.java_expr_grammar.specs.Reading.{whole}
use Rattle.java_token_cursor.specs.declared.piece.Piece.{Piece}
use Rattle.java_token_cursor.specs.Shown.{shown}
use Rattle.java_type_parser.specs.Gives.{Gives, Always}
use Rattle.java_type_parser.proofs.LawsToCite.{length_shown}
use Rattle.java_unit_grammar.specs.Reading as r
use Rattle.java_unit_parser.specs.declared.files.Declared.{Declared}
use Rattle.java_unit_parser.specs.Files.{declared_seen, one_seen}

pub whole_ends : {A : Type 0} → (x : A) (ts : Tokens) → r.is_end ts ≡ true → whole (Some (x, ts)) ≡ Some x
whole_ends x [] e = refl
whole_ends x (t ∷ ts) e = absurd (cc e)

pub whole_goes_on : {A : Type 0} → (x : A) (ts : Tokens) → r.is_end ts ≡ false → whole (Some (x, ts)) ≡ None
whole_goes_on x [] e = absurd (cc e)
whole_goes_on x (t ∷ ts) e = refl

pub given : (o : Option r.Declared) (x : Result (Option Declared) NoMemory) → Gives one_seen Always o x → IfOk x (λ y. declared_seen y ≡ o)
given o (Err e) g = tt
given o (Ok None) g = sym g
given o (Ok (Some x)) g = sym g.0

seen_length : (ts : List JToken) → length (seen ts) ≡ length ts
unfolding seen
seen_length [] = refl
seen_length (t ∷ ts) = ap suc (seen_length ts)

pub as_few : (ts : List JToken) (xs : List Piece) → length ts < 2 ^ 32 → shown xs ≡ seen ts → length xs < 2 ^ 32
as_few ts xs h e =
    let a = ap length e in
    let b = length_shown xs in
    let c = seen_length ts in
    omega (arith, a, b, c, h)

pub ruleset ends = (whole_ends, whole_goes_on)

pub ruleset units = (given)
