-- One letter of a look ahead, and one more letter.
use Rattle.std.proofs.Common.{◌≡◌, ◌<◌, ◌≤◌, ◌+◌, ◌-◌, ℕ, zero, suc, Bool, false, List, [], ◌∷◌, length, drop, get_or, Option, Some, None, refl, ap, sym, ◌∙◌, arith}
use Rattle.std.specs.List.{slice_get}
use Rattle.kotlin_tree.specs.declared.tokens.KToken.{KToken}
use Rattle.kotlin_grammar.specs.declared.ahead.Letter.{Letter}
use Rattle.kotlin_grammar.specs.declared.ahead.Spot.{Spot}
use Rattle.kotlin_grammar.specs.Ahead.{Letters, opens, opens_by, arguments_follow, names_follow, letters, letter}
use Rattle.kotlin_kinds.specs.declared.spots.Turn.{Turn}
use Rattle.kotlin_kinds.specs.declared.names.NamesTurn.{NamesTurn}
use Rattle.kotlin_kinds.specs.Turns.{TurnThere, turn_gives, NamesThere, names_give}

module _ {X : Type 0} where
  first : (ls : List X) (i : ℕ) (l : X) → slice_get ls i ≡ Some l → drop i ls ≡ l ∷ drop (i + 1) ls
  first [] i l h = absurd (cc h)
  first (x ∷ ls) zero l h = ap (λ z. z ∷ ls) (same h)
    where
      same : Option.Some x ≡ Some l → x ≡ l
      same e = cc e
  first (x ∷ ls) (suc i) l h =
      let n : suc (i + 1) ≡ suc i + 1 = omega arith in
      first ls i l h ∙ ap (λ z. l ∷ drop z (x ∷ ls)) n

  past : (ls : List X) (i : ℕ) → length ls ≤ i → drop i ls ≡ []
  past [] zero l = refl
  past [] (suc i) l = refl
  past (x ∷ ls) zero l = absurd (omega arith)
  past (x ∷ ls) (suc i) l = past ls i (omega arith)

  none_past : (ls : List X) (i : ℕ) → slice_get ls i ≡ None → drop i ls ≡ []
  none_past [] zero h = refl
  none_past [] (suc i) h = refl
  none_past (x ∷ ls) zero h = absurd (cc h)
  none_past (x ∷ ls) (suc i) h = none_past ls i h

  get_drop : (ls : List X) (i k : ℕ) → slice_get (drop i ls) k ≡ slice_get ls (i + k)
  get_drop ls zero k = ap (slice_get ls) n
    where
      n : k ≡ 0 + k
      n = omega arith
  get_drop [] (suc i) k = refl
  get_drop (x ∷ ls) (suc i) k = get_drop ls i k ∙ ap (slice_get (x ∷ ls)) n
    where
      n : suc (i + k) ≡ suc i + k
      n = omega arith

pub opens_there : (ls : Letters) (i : ℕ) → opens (drop i ls) ≡ opens_by (slice_get ls i) (slice_get ls (i + 1))
opens_there ls i =
    let z : i + 0 ≡ i = omega arith in
    ap (λ x. opens_by x (slice_get (drop i ls) 1)) (get_drop ls i 0 ∙ ap (slice_get ls) z) ∙ ap (opens_by (slice_get ls i)) (get_drop ls i 1)

pub args_more : (p : Spot) (n : ℕ) (ls : Letters) (i : ℕ) (u : Turn) → TurnThere p n (slice_get ls i) u
    → arguments_follow p n (drop i ls) ≡ turn_gives u (λ q m. arguments_follow q m (drop (i + 1) ls)) (opens (drop (i + 1) ls))
unfolding arguments_follow
args_more p n ls i u h = by (slice_get ls i) refl h
  where
    by : (o : Option Letter) → slice_get ls i ≡ o → TurnThere p n o u
        → arguments_follow p n (drop i ls) ≡ turn_gives u (λ q m. arguments_follow q m (drop (i + 1) ls)) (opens (drop (i + 1) ls))
    by None e g = ap (arguments_follow p n) (none_past ls i e) ∙ g (λ q m. arguments_follow q m (drop (i + 1) ls)) (opens (drop (i + 1) ls))
    by (Some l) e g = ap (arguments_follow p n) (first ls i l e) ∙ g (λ q m. arguments_follow q m (drop (i + 1) ls)) (opens (drop (i + 1) ls))

pub args_out : (p : Spot) (n : ℕ) (ls : Letters) (i : ℕ) → length ls ≤ i → arguments_follow p n (drop i ls) ≡ false
unfolding arguments_follow
args_out p n ls i l = ap (arguments_follow p n) (past ls i l)

pub names_more : (b : Bool) (ls : Letters) (i : ℕ) (u : NamesTurn) → NamesThere b (slice_get ls i) u
    → names_follow b (drop i ls) ≡ names_give u (λ c. names_follow c (drop (i + 1) ls))
unfolding names_follow
names_more b ls i u h = by (slice_get ls i) refl h
  where
    by : (o : Option Letter) → slice_get ls i ≡ o → NamesThere b o u → names_follow b (drop i ls) ≡ names_give u (λ c. names_follow c (drop (i + 1) ls))
    by None e g = ap (names_follow b) (none_past ls i e) ∙ g (λ c. names_follow c (drop (i + 1) ls))
    by (Some l) e g = ap (names_follow b) (first ls i l e) ∙ g (λ c. names_follow c (drop (i + 1) ls))

pub names_out : (b : Bool) (ls : Letters) (i : ℕ) → length ls ≤ i → names_follow b (drop i ls) ≡ false
unfolding names_follow
names_out b ls i l = ap (names_follow b) (past ls i l)

-- ---- one more letter, before those that were made

drop_last : (ts : List KToken) (n i : ℕ) (d : KToken) → n ≡ length ts → i < n → drop (n - 1 - i) ts ≡ get_or ts (n - 1 - i) d ∷ drop (n - i) ts
drop_last ts n i d e l =
    let m : n - 1 - i + 1 ≡ n - i = omega (arith, l) in
    more ts (n - 1 - i) d (omega (arith, e, l)) ∙ ap (λ z. get_or ts (n - 1 - i) d ∷ drop z ts) m
  where
    more : (ts : List KToken) (i : ℕ) (d : KToken) → i < length ts → drop i ts ≡ get_or ts i d ∷ drop (i + 1) ts
    more [] i d l = absurd (omega arith)
    more (t ∷ ts) zero d l = refl
    more (t ∷ ts) (suc i) d l =
        let n : suc (i + 1) ≡ suc i + 1 = omega arith in
        more ts i d (omega arith) ∙ ap (λ z. get_or ts i d ∷ drop z (t ∷ ts)) n

pub none_yet : (ts : List KToken) (ls : Letters) → ls ≡ [] → ls ≡ letters (drop (length ts - 0) ts)
unfolding letters
none_yet ts ls e = e ∙ sym (ap letters (past ts (length ts - 0) (omega arith)))

pub one_more : (ts : List KToken) (n i : ℕ) (d : KToken) (ls : Letters) → n ≡ length ts → i < n → d ≡ get_or ts (n - 1 - i) d → ls ≡ letters (drop (n - i) ts)
    → letter d ls ∷ ls ≡ letters (drop (n - (i + 1)) ts)
unfolding letters
one_more ts n i d ls e l h g =
    let m : n - 1 - i ≡ n - (i + 1) = omega (arith, l) in
    rw g (sym (ap letters (drop_last ts n i d e l ∙ ap (λ z. z ∷ drop (n - i) ts) (sym h))) ∙ ap (λ z. letters (drop z ts)) m)
