-- The partners that are noted.
use Rattle.std.proofs.Common.{◌≡◌, ◌≢◌, ◌<◌, ℕ, zero, suc, List, [], ◌∷◌, ◌++◌, length, get_or, slice_index, slice_set, Option, Some, None, refl, sym, ap, subst, ◌∙◌, inl, inr, arith}
use Rattle.std.proofs.lemmas.List.{length-append, length-set, length-map}
use Rattle.std.proofs.lemmas.Grind.{common_steps}
use Rattle.java_tree.specs.declared.tokens.JToken.{JToken}
use Rattle.java_tree.specs.Seen.{Tokens, seen, token_seen}
use Rattle.java_brackets.specs.declared.stack.Form.{Form}
use Rattle.java_brackets.specs.declared.stack.Bracket.{Bracket}
use Rattle.java_brackets.specs.declared.stack.Bracket.TheVariants as b
use Rattle.java_brackets.specs.declared.flaws.Flaw.{Flaw}
use Rattle.java_brackets.specs.declared.flaws.Flaw.TheVariants as w
use Rattle.java_brackets.specs.Brackets.{bracket_at, closed_by, open_before, Pairs, IsBracket, ArePartners, IsFlawed, Partnered}
use Rattle.java_brackets.specs.Steps.{noted, partners_before}
use Rattle.java_brackets.proofs.Nesting.{Turn, turn, split_suc, pairs_below, pairs_opens, pairs_closes, pairs_within, open_or_paired, closed_once}
use Rattle.java_brackets.proofs.Scans.{partners_more}
use Rattle.java_brackets.proofs.Judged.{closing_lonely, left_lonely, opens_within}

pub length_seen : (xs : List JToken) → length (seen xs) ≡ length xs
unfolding seen
length_seen xs = length-map xs token_seen

old_value : (ps : List ℕ) (n x k : ℕ) → length ps ≡ n → k < n → get_or (ps ++ x ∷ []) k 0 ≡ get_or ps k 0
old_value ps n x k e lt = grind (arith, common_steps)

new_value : (ps : List ℕ) (n x : ℕ) → length ps ≡ n → get_or (ps ++ x ∷ []) n 0 ≡ x
new_value ps n x e = grind (arith, common_steps)

other_value : (ps : List ℕ) (n i x y k : ℕ) → length ps ≡ n → k < n → k ≢ i → get_or (slice_set ps i x ++ y ∷ []) k 0 ≡ get_or ps k 0
other_value ps n i x y k e lt ne = old_value (slice_set ps i x) n y k (length-set ps i x ∙ e) lt ∙ grind (arith, common_steps)

set_value : (ps : List ℕ) (n i x y : ℕ) → length ps ≡ n → i < n → get_or (slice_set ps i x ++ y ∷ []) i 0 ≡ x
set_value ps n i x y e lt = old_value (slice_set ps i x) n y i (length-set ps i x ∙ e) lt ∙ grind (arith, common_steps)

record Kept (ts : Tokens) (n : ℕ) (ps : List ℕ) : Type 0 where
  long : length ps ≡ n
  both : (i j : ℕ) → j < n → Pairs ts i j → (slice_index ps i ≡ j) × (slice_index ps j ≡ i)
  others : (k : ℕ) → k < n → bracket_at ts k ≡ b.Other → slice_index ps k ≡ k

-- one that opens isn't one that closes
pub apart : (ts : Tokens) (i j k l : ℕ) → Pairs ts i j → Pairs ts k l → j ≢ k
apart ts i j k l g h e =
    let P : ℕ → Type 0 = λ n. (form : Form) × (bracket_at ts n ≡ b.Closes form) in
    let c = subst P e (pairs_closes ts i j g) in
    let o = pairs_opens ts k l h in
    let x = c.1 in let y = o.1 in cc (x, y)

kept_none : (ts : Tokens) (n : ℕ) (ps : List ℕ) → Kept ts n ps → closed_by (open_before ts n) (bracket_at ts n) ≡ None → Kept ts (suc n) (ps ++ n ∷ [])
kept_none ts n ps h none = record {
  long = omega (arith, length-append ps (n ∷ []), h.long);
  both = λ i j lt pair. elim (split_suc j n lt) [
    | inl less ↦
        let below = pairs_below ts i j pair in
        let were = h.both i j less pair in
        (old_value ps n n i h.long (omega (arith, below, less)) ∙ were.0, old_value ps n n j h.long less ∙ were.1)
    | inr at ↦ let P : ℕ → Type 0 = λ k. Pairs ts i k in let here = subst P at pair in absurd (cc (here, none))
  ];
  others = λ k lt other. elim (split_suc k n lt) [
    | inl less ↦ old_value ps n n k h.long less ∙ h.others k less other
    | inr at ↦ ap (λ (m : ℕ). get_or (ps ++ n ∷ []) m 0) at ∙ (new_value ps n n h.long ∙ sym at)
  ];
}

kept_some : (ts : Tokens) (n i : ℕ) (ps : List ℕ) → Kept ts n ps → Pairs ts i n → Kept ts (suc n) (slice_set ps i n ++ i ∷ [])
kept_some ts n i ps h pair = record {
  long = omega (arith, length-append (slice_set ps i n) (i ∷ []), length-set ps i n, h.long);
  both = λ k j lt new. elim (split_suc j n lt) [
    | inl less ↦
        let below = pairs_below ts k j new in
        let were = h.both k j less new in
        let ne : k ≢ i = λ e.
        let P : ℕ → Type 0 = λ m. Pairs ts m j in
        let once = closed_once ts i j n (subst P e new) pair in omega (arith, once, less) in
        (other_value ps n i n i k h.long (omega (arith, below, less)) ne ∙ were.0, other_value ps n i n i j h.long less (apart ts k j i n new pair) ∙ were.1)
    | inr at ↦
        let P : ℕ → Type 0 = λ m. Pairs ts k m in
        let here = subst P at new in
        let is : k ≡ i = cc (here, pair) in (
          ap (λ (m : ℕ). get_or (slice_set ps i n ++ i ∷ []) m 0) is ∙ (set_value ps n i n i h.long (pairs_below ts i n pair) ∙ sym at),
          ap (λ (m : ℕ). get_or (slice_set ps i n ++ i ∷ []) m 0) at ∙ (new_value (slice_set ps i n) n i (length-set ps i n ∙ h.long) ∙ sym is),
        )
  ];
  others = λ k lt other. elim (split_suc k n lt) [
    | inl less ↦
        let ne : k ≢ i = λ e.
        let P : ℕ → Type 0 = λ m. bracket_at ts m ≡ b.Other in
        let at = subst P e other in
        let o = pairs_opens ts i n pair in let x = o.1 in cc (at, x) in
        other_value ps n i n i k h.long less ne ∙ h.others k less other
    | inr at ↦
        let P : ℕ → Type 0 = λ m. bracket_at ts m ≡ b.Other in
        let here = subst P at other in
        let c = pairs_closes ts i n pair in let x = c.1 in absurd (cc (here, x))
  ];
}

kept_more : (ts : Tokens) (n : ℕ) (ps : List ℕ) → Kept ts n ps → (found : Option ℕ) → closed_by (open_before ts n) (bracket_at ts n) ≡ found → Kept ts (suc n) (noted ps n found)
kept_more ts n ps h None e = kept_none ts n ps h e
kept_more ts n ps h (Some i) e = kept_some ts n i ps h e

none_noted : (ts : Tokens) → partners_before ts zero ≡ []
unfolding partners_before
none_noted ts = refl

kept : (ts : Tokens) (n : ℕ) → Kept ts n (partners_before ts n)
kept ts zero =
    let P : List ℕ → Type 0 = λ ps. Kept ts zero ps in
    subst P (sym (none_noted ts)) (record { long = refl; both = λ i j lt pair. absurd (omega (arith, lt)); others = λ k lt other. absurd (omega (arith, lt)) })
kept ts (suc n) =
    let P : List ℕ → Type 0 = λ ps. Kept ts (suc n) ps in
    subst P (sym (partners_more ts n)) (kept_more ts n (partners_before ts n) (kept ts n) (closed_by (open_before ts n) (bracket_at ts n)) refl)

abbrev pub NoFlaw : Tokens → Type 0
NoFlaw ts = (n : ℕ) (flaw : Flaw) → IsFlawed ts n flaw → ⊥

opens_partner : (ts : Tokens) (ps : List ℕ) (n : ℕ) (form : Form) → Kept ts (length ts) ps → NoFlaw ts → bracket_at ts n ≡ b.Opens form → ArePartners ts n (slice_index ps n)
opens_partner ts ps n form h none e =
    elim (open_or_paired ts (length ts) n form e (opens_within ts n form e)) [
      | inl has ↦ absurd (none n w.Lonely (left_lonely ts n has))
      | inr pair ↦
          let P : ℕ → Type 0 = λ k. Pairs ts n k in
          inl (subst P (sym (h.both n pair.0 (pairs_within ts n pair.0 pair.2) pair.2).0) pair.2)
    ]

closes_partner : (ts : Tokens) (ps : List ℕ) (n : ℕ) (form : Form) → Kept ts (length ts) ps → NoFlaw ts → bracket_at ts n ≡ b.Closes form → ArePartners ts n (slice_index ps n)
closes_partner ts ps n form h none is =
    elim (turn ts n) [
      | Turn.Opens other e g p ↦ absurd (cc (is, e))
      | Turn.Pairs_with x xs other e f g p ↦
          let P : ℕ → Type 0 = λ k. Pairs ts k n in
          inr (subst P (sym (h.both x.number n (pairs_within ts x.number n p) p).1) p)
      | Turn.Closes_none other e g p ↦ absurd (none n w.Lonely (closing_lonely ts n other e p))
      | Turn.Passes e g p ↦ absurd (cc (is, e))
    ]

partner_of : (ts : Tokens) (ps : List ℕ) (n : ℕ) → Kept ts (length ts) ps → NoFlaw ts → (k : Bracket) → bracket_at ts n ≡ k → IsBracket k → ArePartners ts n (slice_index ps n)
partner_of ts ps n h none (b.Opens form) e is = opens_partner ts ps n form h none e
partner_of ts ps n h none (b.Closes form) e is = closes_partner ts ps n form h none e
partner_of ts ps n h none b.Other e is = absurd is

other_of : (k : Bracket) → (IsBracket k → ⊥) → k ≡ b.Other
other_of (b.Opens form) h = absurd (h tt)
other_of (b.Closes form) h = absurd (h tt)
other_of b.Other h = refl

partnered : (ts : Tokens) (ps : List ℕ) → Kept ts (length ts) ps → NoFlaw ts → Partnered ts ps
partnered ts ps h none = record {
  each = h.long;
  both = λ i j pair. h.both i j (pairs_within ts i j pair) pair;
  all = λ n is. partner_of ts ps n h none (bracket_at ts n) refl is;
  others = λ n lt not. h.others n lt (other_of (bracket_at ts n) not);
}

pub all_partnered : (ts : Tokens) (ps : List ℕ) → ps ≡ partners_before ts (length ts) → NoFlaw ts → Partnered ts ps
all_partnered ts ps is none =
    let P : List ℕ → Type 0 = λ qs. Partnered ts qs in
    subst P (sym is) (partnered ts (partners_before ts (length ts)) (kept ts (length ts)) none)
