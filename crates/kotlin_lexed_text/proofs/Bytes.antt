-- A text behind its first characters.
use Rattle.std.proofs.Common.{◌≡◌, ℕ, zero, suc, ◌-◌, ◌<◌, Bool, true, false, not, List, [], ◌∷◌, ◌++◌, length, drop, Option, Some, None, refl, ap, sym, subst, ◌∙◌, arith}
use Rattle.std.specs.Prelude.{◌&&◌, ◌==◌, nat_lt, nat_le, encode_utf8}
use Rattle.std.proofs.lemmas.Bool.Decides.{nat_tests}
use Rattle.std.proofs.lemmas.Bool.{lt-ltb}
use Rattle.std.specs.Char.{IsScalar}
use lib.Utf8.{encode}
use Rattle.java_characters.specs.declared.letters.RawFront.TheVariants.{Plain}
use Rattle.java_characters.specs.Letters.{character_front}
use Rattle.kotlin_characters.specs.declared.letters.Cursor.{Cursor}
use Rattle.kotlin_characters.specs.Letters.{Letters, letter, read_character, first_character, past, from_character, letters_from}
use Rattle.kotlin_characters.specs.Scans.{head}
use Rattle.kotlin_lexer.specs.Names.{is_start}
use Rattle.kotlin_lexed_text.specs.Lexable.{first_of, is_other}

-- the text of bytes from a place on
abbrev pub T : Cursor → List ℕ → Letters
T p bs = letters_from 0 p bs

skip : (k : ℕ) (p : Cursor) (bs : List ℕ) → letters_from k p bs ≡ letters_from 0 p (drop k bs)
skip zero p [] = refl
skip zero p (b ∷ bs) = refl
skip (suc k) p [] = refl
skip (suc k) p (b ∷ bs) = skip k p bs

behind : (n : ℕ) (p : Cursor) (b : ℕ) (bs : List ℕ) → 0 < n → letters_from (n - 1) p bs ≡ letters_from 0 p (drop n (b ∷ bs))
behind zero p b bs h = absurd (omega (arith, h))
behind (suc k) p b bs h =
    let e : suc k - 1 ≡ k = omega arith in
    ap (λ m. letters_from m p bs) e ∙ skip k p bs

by_bytes : (p : Cursor) (c : ℕ) (bs : List ℕ) → first_character bs ≡ Some c → 0 < length (encode_utf8 c) →
    T p bs ≡ letter c p.position (T (past p c) (drop (length (encode_utf8 c)) bs))
unfolding first_character
by_bytes p c [] h n = cc
by_bytes p c (b ∷ bs) h n =
    ap (λ f. from_character p f (λ k q. letters_from k q bs)) h
    ∙ ap (λ x. letter c p.position x) (behind (length (encode_utf8 c)) (past p c) b bs n)

drop_front : (xs ys : List ℕ) → drop (length xs) (xs ++ ys) ≡ ys
drop_front [] ys = refl
drop_front (x ∷ xs) ys = drop_front xs ys

read_first : (xs : List ℕ) (c n : ℕ) → character_front xs ≡ Plain c n → 0 < length xs → first_character xs ≡ Some c
unfolding first_character
read_first [] c n h l = absurd (omega (arith, l))
read_first (b ∷ bs) c n h l = ap read_character h

longer : (xs ys : List ℕ) → 0 < length xs → 0 < length (xs ++ ys)
longer [] ys h = absurd (omega (arith, h))
longer (x ∷ xs) ys h = omega arith

-- A character's bytes are read as that character: the law of java_characters.
abbrev pub Decodes : Type 0
Decodes = (c : ℕ) (rest : List ℕ) → IsScalar c → character_front (encode_utf8 c ++ rest) ≡ Plain c (length (encode_utf8 c))

-- a character stands there
pub character_there : Decodes → (c : ℕ) (bs : List ℕ) (p : Cursor) → IsScalar c → 0 < length (encode_utf8 c) → T p (encode_utf8 c ++ bs) ≡ letter c p.position (T (past p c) bs)
character_there decodes c bs p s n =
    by_bytes p c (encode_utf8 c ++ bs) (read_first (encode_utf8 c ++ bs) c (length (encode_utf8 c)) (decodes c bs s) (longer (encode_utf8 c) bs n)) n
    ∙ ap (λ z. letter c p.position (T (past p c) z)) (drop_front (encode_utf8 c) bs)

pub is_low : (b : ℕ) → nat_lt b 128 ≡ true → b < 128
is_low b h = grind (arith, nat_tests)

pub encode_low : (c : ℕ) → c < 128 → encode_utf8 c ≡ c ∷ []
unfolding encode
encode_low c h = let e = lt-ltb c 128 h in rw e refl

low_front : (b : ℕ) (bs : List ℕ) → nat_lt b 128 ≡ true → character_front (b ∷ bs) ≡ Plain b 1
unfolding character_front
low_front b bs h = rw h refl

-- an ASCII character stands there
pub low_there : (b : ℕ) (bs : List ℕ) (p : Cursor) → nat_lt b 128 ≡ true → T p (b ∷ bs) ≡ letter b p.position (T (past p b) bs)
low_there b bs p h =
    let e = encode_low b (is_low b h) in
    by_bytes p b (b ∷ bs) (read_first (b ∷ bs) b 1 (low_front b bs h) (omega arith)) (subst (λ z. 0 < length z) (sym e) (omega arith))
    ∙ ap (λ z. letter b p.position (T (past p b) (drop (length z) (b ∷ bs)))) e

pub both : (b c : Bool) → (b && c) ≡ true → (b ≡ true) × (c ≡ true)
both true c is = (refl, is)
both false c is = absurd (cc is)

is_no : (b : Bool) → not b ≡ true → b ≡ false
is_no true h = absurd (cc h)
is_no false h = refl

-- another character stands first
pub other_head : (c : ℕ) (bs : List ℕ) (p : Cursor) → (0 == c) ≡ false → is_other c (first_of bs None) ≡ true → (head (T p bs) == c) ≡ false
other_head c [] p z h = z
other_head c (b ∷ bs) p z h =
    let k = both (nat_lt b 128) (not (b == c)) h in
    ap (λ t. head t == c) (low_there b bs p k.0) ∙ is_no (b == c) k.1

-- what stands first, where something is told of it
pub data Agrees (x y : Option ℕ) : Type 0 where
  Same : x ≡ y → Agrees x y
  Letter : (c : ℕ) → x ≡ Some c → nat_lt c 128 ≡ true → is_start c ≡ true → y ≡ Some 95 → Agrees x y
  Digit : (c : ℕ) → x ≡ Some c → nat_le 48 c ≡ true → nat_le c 57 ≡ true → y ≡ Some 48 → Agrees x y
  Any : y ≡ Some 200 → Agrees x y
