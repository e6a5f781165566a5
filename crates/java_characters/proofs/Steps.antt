-- What a text begins with says what follows.
use Rattle.std.proofs.Common.{◌≡◌, ℕ, zero, suc, ◌-◌, ◌<◌, false, List, [], ◌∷◌, length, drop, eqb, cond, refl, sym, ◌∙◌, ap, subst, arith}
use Rattle.std.proofs.lemmas.List.{drop-drop, length-drop}
use Rattle.java_tree.specs.declared.tokens.Position.{Position}
use Rattle.java_characters.specs.declared.letters.Cursor.{Cursor}
use Rattle.java_characters.specs.declared.letters.Ending.{Ending}
use Rattle.java_characters.specs.declared.letters.RawFront.{RawFront}
use Rattle.java_characters.specs.declared.letters.RawFront.TheVariants.{Stop, Plain, Escaped}
use Rattle.java_characters.specs.Letters.{Letters, letter, stop, raw_front, raw_from, raw_letters, raw_at, letters, without_final, end_without, past_plain, past_escape, Takes}

raw_skip : (k : ℕ) (p : Cursor) (bs : List ℕ) → raw_letters k p bs ≡ raw_letters 0 p (drop k bs)
raw_skip zero p [] = refl
raw_skip zero p (b ∷ bs) = refl
raw_skip (suc k) p [] = refl
raw_skip (suc k) p (b ∷ bs) = raw_skip k p bs

-- the text behind what bytes begin with
abbrev from_front : Cursor → List ℕ → RawFront → Letters
from_front p bs (Stop e) = stop e p.position
from_front p bs (Plain c n) = letter c p.position (raw_letters 0 (past_plain p c n) (drop n bs))
from_front p bs (Escaped c n) = letter c p.position (raw_letters 0 (past_escape p n) (drop n bs))

behind : (n : ℕ) (p : Cursor) (b : ℕ) (bs : List ℕ) → 0 < n → raw_letters (n - 1) p bs ≡ raw_letters 0 p (drop n (b ∷ bs))
behind zero p b bs h = absurd (omega (arith, h))
behind (suc k) p b bs h =
    let e : suc k - 1 ≡ k = omega arith in
    ap (λ m. raw_letters m p bs) e ∙ raw_skip k p bs

by_front : (f : RawFront) (p : Cursor) (b : ℕ) (bs : List ℕ) → Takes (length (b ∷ bs)) f → raw_from p f (λ k q. raw_letters k q bs) ≡ from_front p (b ∷ bs) f
by_front (Stop e) p b bs t = refl
by_front (Plain c n) p b bs t = ap (λ x. letter c p.position x) (behind n (past_plain p c n) b bs t.0)
by_front (Escaped c n) p b bs t = ap (λ x. letter c p.position x) (behind n (past_escape p n) b bs t.0)

by_bytes : (p : Cursor) (bs : List ℕ) → Takes (length bs) (raw_front p.odd bs) → raw_letters 0 p bs ≡ from_front p bs (raw_front p.odd bs)
unfolding raw_front
by_bytes p [] t = refl
by_bytes p (b ∷ bs) t = by_front (raw_front p.odd (b ∷ bs)) p b bs t

-- the text behind what the bytes begin with at p
abbrev pub from_raw : List ℕ → Cursor → RawFront → Letters
from_raw bytes p (Stop e) = stop e p.position
from_raw bytes p (Plain c n) = letter c p.position (raw_at bytes (past_plain p c n))
from_raw bytes p (Escaped c n) = letter c p.position (raw_at bytes (past_escape p n))

moved : (f : RawFront) (bytes : List ℕ) (p : Cursor) → from_front p (drop p.position.offset bytes) f ≡ from_raw bytes p f
unfolding raw_at
moved (Stop e) bytes p = refl
moved (Plain c n) bytes p = ap (λ bs. letter c p.position (raw_letters 0 (past_plain p c n) bs)) (drop-drop n p.position.offset bytes)
moved (Escaped c n) bytes p = ap (λ bs. letter c p.position (raw_letters 0 (past_escape p n) bs)) (drop-drop n p.position.offset bytes)

pub raw_step : (bytes : List ℕ) (p : Cursor) (f : RawFront) → f ≡ raw_front p.odd (drop p.position.offset bytes) → Takes (length bytes - p.position.offset) f → raw_at bytes p ≡ from_raw bytes p f
unfolding raw_at
raw_step bytes p f e t =
    let bs = drop p.position.offset bytes in
    let room : Takes (length bs) f = subst (λ n. Takes n f) (sym (length-drop p.position.offset bytes)) t in
    by_bytes p bs (subst (λ g. Takes (length bs) g) e room) ∙ (ap (λ g. from_front p bs g) (sym e) ∙ moved f bytes p)

pub stop_step : (bytes : List ℕ) (p : Cursor) (e : Ending) (q : Position) → raw_at bytes p ≡ stop e q → letters bytes p ≡ stop e q
unfolding letters
stop_step bytes p e q h = ap without_final h

plain : (c : ℕ) (q : Position) (rest : Letters) → eqb c 26 ≡ false → without_final (letter c q rest) ≡ letter c q (without_final rest)
plain c q (letter d r rest) h = refl
plain c q (stop e r) h = ap (λ t. cond t (stop e (end_without e q r)) (letter c q (stop e r))) h

pub letter_step : (bytes : List ℕ) (p next : Cursor) (c : ℕ) (q : Position) → raw_at bytes p ≡ letter c q (raw_at bytes next) → eqb c 26 ≡ false → letters bytes p ≡ letter c q (letters bytes next)
unfolding letters
letter_step bytes p next c q h n = ap without_final h ∙ plain c q (raw_at bytes next) n

pub final_step : (bytes : List ℕ) (p next : Cursor) (q r : Position) (e : Ending) → raw_at bytes p ≡ letter 26 q (raw_at bytes next) → raw_at bytes next ≡ stop e r → letters bytes p ≡ stop e (end_without e q r)
unfolding letters
final_step bytes p next q r e h n = ap without_final (h ∙ ap (λ x. letter 26 q x) n)

pub inner_step : (bytes : List ℕ) (p next : Cursor) (c d : ℕ) (q r : Position) (rest : Letters) → raw_at bytes p ≡ letter c q (raw_at bytes next) → raw_at bytes next ≡ letter d r rest → letters bytes p ≡ letter c q (letters bytes next)
unfolding letters
inner_step bytes p next c d q r rest h n =
    ap without_final (h ∙ ap (λ x. letter c q x) n) ∙ ap (λ x. letter c q (without_final x)) (sym n)
