-- What is known of flaws, a token further.
use Rattle.std.proofs.Common.{◌≡◌, ◌<◌, ℕ, zero, suc, [], length, reverse, get_or, Option, Some, None, refl, ap, ◌∙◌}
use Rattle.std.proofs.lemmas.Option.{slice_get_read}
use Rattle.kotlin_tree.specs.declared.tokens.KToken.{KToken}
use Rattle.kotlin_brackets.specs.declared.stack.Bracket.{Bracket}
use Rattle.kotlin_brackets.specs.Brackets.{Tokens, bracket, bracket_of, bracket_at, after, open_before}
use Rattle.kotlin_brackets.specs.declared.flaws.Flaw.{Flaw}
use Rattle.kotlin_brackets.specs.declared.scanning.Scan.{Scan}
use Rattle.kotlin_brackets.specs.Steps.{first_before, told, flaw_of, IsScan}

pub bracket_read : (xs : Tokens) (n : ℕ) (x : KToken) → n < length xs → x ≡ get_or xs n x → bracket_at xs n ≡ bracket x.kind
unfolding bracket_at
bracket_read xs n x lt is = ap bracket_of (slice_get_read xs (length xs) n x refl lt is)

pub first_more : (ts : Tokens) (n : ℕ) → first_before ts (suc n) ≡ told (first_before ts n) n (flaw_of (open_before ts n) (bracket_at ts n))
unfolding first_before
first_more ts n = refl

pub scan_none : (ts : Tokens) (scan : Scan) → scan.stack.items ≡ [] → scan.first ≡ None → IsScan ts 0 scan
unfolding open_before first_before
scan_none ts scan e f = record { stack = rw e refl; first = f }

open_more : (ts : Tokens) (n : ℕ) → open_before ts (suc n) ≡ after (open_before ts n) n (bracket_at ts n)
unfolding open_before
open_more ts n = refl

pub scan_more : (ts : Tokens) (n : ℕ) (old new : Scan) (kind : Bracket) (flaw : Option Flaw) → IsScan ts n old → bracket_at ts n ≡ kind
    → flaw ≡ flaw_of (reverse old.stack.items) kind → new.first ≡ told old.first n flaw
    → reverse new.stack.items ≡ after (reverse old.stack.items) n kind → IsScan ts (suc n) new
scan_more ts n old new kind flaw s e f g h = record {
  stack = h ∙ rw (s.stack, ← e, ← open_more ts n) refl;
  first = g ∙ rw (f, s.first, s.stack, ← e, ← first_more ts n) refl;
}
