-- What is known of flaws and of partners, a token further.
use Rattle.std.proofs.Common.{◌≡◌, ◌<◌, ◌+◌, ℕ, zero, suc, List, [], ◌∷◌, length, reverse, slice_get, slice_set, get_or, Option, Some, None, IfSome, refl, sym, ap, subst, ◌∙◌, arith}
use Rattle.std.proofs.lemmas.List.{length-append, length-set}
use Rattle.std.proofs.lemmas.Option.{slice_get-map, slice_get_read}
use Rattle.java_tree.specs.Seen.{Tokens, seen, token_seen}
use Rattle.java_tree.specs.declared.tokens.JToken.{JToken}
use Rattle.java_brackets.specs.declared.stack.Bracket.{Bracket}
use Rattle.java_brackets.specs.Brackets.{bracket, bracket_of, bracket_at, Open, closed_by, after, open_before}
use Rattle.java_brackets.specs.declared.flaws.Flaw.{Flaw}
use Rattle.java_brackets.specs.declared.pairing.Pairing.{Pairing}
use Rattle.java_brackets.specs.declared.scanning.Scan.{Scan}
use Rattle.java_brackets.specs.Steps.{noted, partners_before, first_before, told, flaw_of, IsScan, IsPairing}
use Rattle.java_brackets.proofs.Nesting.{pairs_below}

option_seen : (xs : List JToken) (n : ℕ) (x : JToken) → slice_get xs n ≡ Some x → slice_get (seen xs) n ≡ Some (token_seen x)
unfolding seen
option_seen xs n x h = slice_get-map token_seen xs n ∙ rw h refl

pub bracket_read : (xs : List JToken) (n : ℕ) (x : JToken) → n < length xs → x ≡ get_or xs n x → bracket_at (seen xs) n ≡ bracket (token_seen x)
unfolding bracket_at
bracket_read xs n x lt is = ap bracket_of (option_seen xs n x (slice_get_read xs (length xs) n x refl lt is))

length_noted : (ps : List ℕ) (n : ℕ) (i : Option ℕ) → length (noted ps n i) ≡ length ps + 1
length_noted ps n None = length-append ps (n ∷ [])
length_noted ps n (Some i) = omega (arith, length-append (slice_set ps i n) (i ∷ []), length-set ps i n)

pub length_partners : (ts : Tokens) (n : ℕ) → length (partners_before ts n) ≡ n
unfolding partners_before
length_partners ts zero = refl
length_partners ts (suc n) =
    let e = length_noted (partners_before ts n) n (closed_by (open_before ts n) (bracket_at ts n)) in
    omega (arith, e, length_partners ts n)

pub partners_more : (ts : Tokens) (n : ℕ) → partners_before ts (suc n) ≡ noted (partners_before ts n) n (closed_by (open_before ts n) (bracket_at ts n))
unfolding partners_before
partners_more ts n = refl

pub first_more : (ts : Tokens) (n : ℕ) → first_before ts (suc n) ≡ told (first_before ts n) n (flaw_of (open_before ts n) (bracket_at ts n))
unfolding first_before
first_more ts n = refl

below_by : (ts : Tokens) (n : ℕ) (found : Option ℕ) → closed_by (open_before ts n) (bracket_at ts n) ≡ found → IfSome found (λ i. i < n)
below_by ts n None h = tt
below_by ts n (Some i) h = pairs_below ts i n h

pub partner_below : (ts : Tokens) (n : ℕ) → IfSome (closed_by (open_before ts n) (bracket_at ts n)) (λ i. i < n)
partner_below ts n = below_by ts n (closed_by (open_before ts n) (bracket_at ts n)) refl

pub scan_none : (ts : Tokens) (scan : Scan) → scan.stack.items ≡ [] → scan.first ≡ None → IsScan ts 0 scan
unfolding open_before first_before
scan_none ts scan e f = record { stack = rw e refl; first = f }

open_more : (ts : Tokens) (n : ℕ) → open_before ts (suc n) ≡ after (open_before ts n) n (bracket_at ts n)
unfolding open_before
open_more ts n = refl

pub scan_more : (ts : Tokens) (n : ℕ) (old new : Scan) (kind : Bracket) (flaw : Option Flaw) → IsScan ts n old → bracket_at ts n ≡ kind
    → flaw ≡ flaw_of (reverse old.stack.items) kind → new.first ≡ told old.first n flaw
    → reverse new.stack.items ≡ after (reverse old.stack.items) n kind → IsScan ts (suc n) new
scan_more ts n old new kind flaw s e f g h = record {
  stack = h ∙ rw (s.stack, ← e, ← open_more ts n) refl;
  first = g ∙ rw (f, s.first, s.stack, ← e, ← first_more ts n) refl;
}

-- ---- partners

pub pairing_none : (ts : Tokens) (pairing : Pairing) → pairing.stack.items ≡ [] → pairing.partners.items ≡ [] → IsPairing ts 0 pairing
unfolding open_before partners_before
pairing_none ts pairing e f = record { stack = rw e refl; partners = f }

pub pairing_partner : (ts : Tokens) (n : ℕ) (pairing : Pairing) (kind : Bracket) (partner : Option ℕ) → IsPairing ts n pairing → bracket_at ts n ≡ kind
    → partner ≡ closed_by (reverse pairing.stack.items) kind → IfSome partner (λ i. i < length pairing.partners.items)
pairing_partner ts n pairing kind partner s e h =
    let P : Option ℕ → Type 0 = λ found. IfSome found (λ i. i < length pairing.partners.items) in
    let Q : ℕ → Type 0 = λ k. IfSome (closed_by (open_before ts n) (bracket_at ts n)) (λ i. i < k) in
    let long : n ≡ length pairing.partners.items = sym (ap length s.partners ∙ length_partners ts n) in
    let is : closed_by (open_before ts n) (bracket_at ts n) ≡ partner =
    ap (λ (z : Open). closed_by z (bracket_at ts n)) (sym s.stack) ∙ (ap (λ (z : Bracket). closed_by (reverse pairing.stack.items) z) e ∙ sym h) in
    subst P is (subst Q long (partner_below ts n))

pub pairing_more : (ts : Tokens) (n : ℕ) (old new : Pairing) (kind : Bracket) (partner : Option ℕ) → IsPairing ts n old → bracket_at ts n ≡ kind
    → partner ≡ closed_by (reverse old.stack.items) kind → new.partners.items ≡ noted old.partners.items n partner
    → reverse new.stack.items ≡ after (reverse old.stack.items) n kind → IsPairing ts (suc n) new
pairing_more ts n old new kind partner s e p g h = record {
  stack = h ∙ rw (s.stack, ← e, ← open_more ts n) refl;
  partners = g ∙ rw (p, s.partners, s.stack, ← e, ← partners_more ts n) refl;
}
