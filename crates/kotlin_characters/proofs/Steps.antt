-- What bytes begin with says what follows.
use Rattle.std.proofs.Common.{◌≡◌, ◌≢◌, ℕ, zero, suc, ◌+◌, ◌-◌, ◌<◌, ◌≤◌, Bool, true, false, List, [], ◌∷◌, length, drop, take, cond, Option, Some, None, refl, sym, ◌∙◌, ap, subst, arith}
use Rattle.std.proofs.lemmas.List.{drop-drop, drop_all, length-drop, length-take, drop_more}
use Rattle.std.proofs.lemmas.Bool.{ne_eqb}
use Rattle.std.specs.Prelude.{encode_utf8, slice_index, nat_lt}
use Rattle.std.specs.Char.{IsScalar}
use Rattle.std.specs.Option.{SomeIff}
use Rattle.std.proofs.lemmas.Str.{length-encode}
use lib.Utf8.{encode}
use Rattle.java_characters.specs.declared.letters.Cursor.{Cursor as java_cursor}
use Rattle.java_characters.specs.declared.letters.Front.{Front as java_front}
use Rattle.java_characters.specs.declared.letters.Front.TheVariants as front
use Rattle.java_characters.specs.declared.letters.RawFront.{RawFront}
use Rattle.java_characters.specs.declared.letters.RawFront.TheVariants.{Stop, Plain, Escaped}
use Rattle.java_tree.specs.declared.tokens.Position.{Position as java_position}
use Rattle.java_characters.specs.Letters as java
use Rattle.java_characters.specs.Letters.{character_front, character_of, is_two, is_three, is_four, some_front, raw_front, raw_from, raw_letters, raw_at, without_final, final_at, end_without}
use Rattle.java_characters.proofs.LawsToCite.{encoded}
use Rattle.kotlin_characters.specs.declared.letters.Cursor.{Cursor}
use Rattle.kotlin_characters.specs.declared.letters.Ending.TheVariants.{File, Byte}
use Rattle.kotlin_characters.specs.Letters.{letter, stop, read_character, first_character, past, from_character, letters_from, letters}

skip : (k : ℕ) (p : Cursor) (bs : List ℕ) → letters_from k p bs ≡ letters_from 0 p (drop k bs)
skip zero p [] = refl
skip zero p (b ∷ bs) = refl
skip (suc k) p [] = refl
skip (suc k) p (b ∷ bs) = skip k p bs

behind : (n : ℕ) (p : Cursor) (b : ℕ) (bs : List ℕ) → 0 < n → letters_from (n - 1) p bs ≡ letters_from 0 p (drop n (b ∷ bs))
behind zero p b bs h = absurd (omega (arith, h))
behind (suc k) p b bs h =
    let e : suc k - 1 ≡ k = omega arith in
    ap (λ m. letters_from m p bs) e ∙ skip k p bs

by_bytes : (p : Cursor) (c : ℕ) (bs : List ℕ) → first_character bs ≡ Some c → 0 < length (encode_utf8 c) →
    letters_from 0 p bs ≡ letter c p.position (letters_from 0 (past p c) (drop (length (encode_utf8 c)) bs))
unfolding first_character
by_bytes p c [] h n = cc
by_bytes p c (b ∷ bs) h n =
    ap (λ f. from_character p f (λ k q. letters_from k q bs)) h
    ∙ ap (λ x. letter c p.position x) (behind (length (encode_utf8 c)) (past p c) b bs n)

-- a character stands at p
pub goes_on : (bytes : List ℕ) (p : Cursor) (c : ℕ) → Some c ≡ first_character (drop p.position.offset bytes) → 0 < length (encode_utf8 c) →
    letters bytes p ≡ letter c p.position (letters bytes (past p c))
unfolding letters
goes_on bytes p c h n =
    by_bytes p c (drop p.position.offset bytes) (sym h) n
    ∙ ap (λ bs. letter c p.position (letters_from 0 (past p c) bs)) (drop-drop (length (encode_utf8 c)) p.position.offset bytes)

-- nothing stands at p
pub at_end : (bytes : List ℕ) (p : Cursor) → length bytes ≤ p.position.offset → letters bytes p ≡ stop File p.position
unfolding letters
at_end bytes p h = ap (λ bs. letters_from 0 p bs) (drop_all p.position.offset bytes h)

no_character : (p : Cursor) (bs : List ℕ) → first_character bs ≡ None → 0 < length bs → letters_from 0 p bs ≡ stop Byte p.position
no_character p [] h n = absurd (omega (arith, n))
no_character p (b ∷ bs) h n = ap (λ f. from_character p f (λ k q. letters_from k q bs)) h

-- a byte stands at p that begins no character
pub at_byte : (bytes : List ℕ) (p : Cursor) → None ≡ first_character (drop p.position.offset bytes) → p.position.offset < length bytes → letters bytes p ≡ stop Byte p.position
unfolding letters
at_byte bytes p h n =
    let e = length-drop p.position.offset bytes in
    no_character p (drop p.position.offset bytes) (sym h) (omega (arith, e, n))

-- ---- a Java text where no escape begins

-- the character that a Java text was found to begin with
abbrev pub found : java_front → Option ℕ
found (front.Stop e q) = None
found (front.Letter c next) = Some c

abbrev IsNoEscape : RawFront → Type 0
IsNoEscape (Escaped c n) = ⊥
IsNoEscape _ = Unit {0}

either : (b : Bool) (f g : RawFront) → IsNoEscape f → IsNoEscape g → IsNoEscape (cond b f g)
either true f g h i = h
either false f g h i = i

of_bytes : (a b c d : ℕ) → IsNoEscape (character_of a b c d)
of_bytes a b c d =
    either (nat_lt a 0x80) _ _ tt (either (is_two a b) _ _ tt (either (is_three a b c) _ _ tt (either (is_four a b c d) _ _ tt tt)))

no_escape : (bs : List ℕ) → IsNoEscape (character_front bs)
unfolding character_front
no_escape bs = of_bytes (slice_index bs 0) (slice_index bs 1) (slice_index bs 2) (slice_index bs 3)

sub_code : encode 26 ≡ 26 ∷ []
unfolding encode
sub_code = refl

starts : (n b : ℕ) (bs : List ℕ) → b ≢ 26 → take n (b ∷ bs) ≡ 26 ∷ [] → ⊥
starts zero b bs h e = cc
starts (suc n) b bs h e = let same : b ≡ 26 = cc in h same

not_sub : (b : ℕ) (bs : List ℕ) (n : ℕ) → b ≢ 26 → character_front (b ∷ bs) ≢ Plain 26 n
not_sub b bs n h e = starts n b bs h ((encoded b bs 26 n e).1 ∙ sub_code)

not_last : (c : ℕ) (q : java_position) (rest : java.Letters) → c ≢ 26 → without_final (java.letter c q rest) ≡ java.letter c q (without_final rest)
not_last c q (java.letter d r rest) h = refl
not_last c q (java.stop e r) h = ap (λ b. cond b (java.stop e (end_without e q r)) (java.letter c q (java.stop e r))) (ne_eqb c 26 h)

told : (f : RawFront) (g : java_front) (bytes : List ℕ) (q : java_cursor) (more : ℕ → java_cursor → java.Letters) → IsNoEscape f → ((n : ℕ) → f ≢ Plain 26 n) →
    without_final (raw_from q f more) ≡ java.seen bytes q g → found g ≡ read_character f
told (Stop e) (front.Stop d p) bytes q more i m h = refl
told (Stop e) (front.Letter c next) bytes q more i m h = cc
told (Plain c n) (front.Stop e p) bytes q more i m h =
    let k = sym (not_last c q.position (more (n - 1) (java.past_plain q c n)) (λ x. m n (ap (λ y. Plain y n) x))) ∙ h in cc
told (Plain c n) (front.Letter d next) bytes q more i m h =
    let k = sym (not_last c q.position (more (n - 1) (java.past_plain q c n)) (λ x. m n (ap (λ y. Plain y n) x))) ∙ h in
    let same : c ≡ d = cc in ap (λ x. Some x) (sym same)
told (Escaped c n) g bytes q more i m h = absurd i

at_front : (q : java_cursor) (some : List ℕ) (b : ℕ) (bs : List ℕ) → q.odd ≡ true → some ≡ b ∷ bs →
    raw_letters 0 q some ≡ raw_from q (character_front (b ∷ bs)) (λ k r. raw_letters k r bs)
unfolding raw_front
at_front q some b bs o e =
    ap (λ x. raw_letters 0 q x) e ∙ ap (λ x. raw_from q (raw_front x (b ∷ bs)) (λ k r. raw_letters k r bs)) o

on_bytes : (bytes : List ℕ) (q : java_cursor) (g : java_front) (b : ℕ) (bs : List ℕ) → q.odd ≡ true → drop q.position.offset bytes ≡ b ∷ bs → b ≢ 26 →
    java.letters bytes q ≡ java.seen bytes q g → found g ≡ first_character (b ∷ bs)
unfolding java.letters raw_at first_character
on_bytes bytes q g b bs o e n h =
    told (character_front (b ∷ bs)) g bytes q (λ k r. raw_letters k r bs) (no_escape (b ∷ bs)) (λ k. not_sub b bs k n)
    (ap without_final (sym (at_front q (drop q.position.offset bytes) b bs o e)) ∙ h)

-- Where no escape begins, what a Java text was found to begin with is the character that stands there, but for U+001A.
pub by_front : (bytes : List ℕ) (o : ℕ) (q : java_cursor) (g : java_front) → q.position.offset ≡ o → q.odd ≡ true → o < length bytes → slice_index bytes o ≢ 26 →
    java.letters bytes q ≡ java.seen bytes q g → found g ≡ first_character (drop o bytes)
by_front bytes o q g at odd within byte h =
    let e : drop o bytes ≡ slice_index bytes o ∷ drop (o + 1) bytes = drop_more bytes o 0 within in
    on_bytes bytes q g (slice_index bytes o) (drop (o + 1) bytes) odd (ap (λ x. drop x bytes) at ∙ e) byte h ∙ ap first_character (sym e)

sub_first : (bs : List ℕ) → first_character (26 ∷ bs) ≡ Some 26
unfolding first_character character_front
sub_first bs = refl

pub sub_stands : (bytes : List ℕ) (o : ℕ) → o < length bytes → slice_index bytes o ≡ 26 → Some 26 ≡ first_character (drop o bytes)
sub_stands bytes o within byte =
    let e : drop o bytes ≡ slice_index bytes o ∷ drop (o + 1) bytes = drop_more bytes o 0 within in
    sym (ap first_character e ∙ (ap (λ b. first_character (b ∷ drop (o + 1) bytes)) byte ∙ sub_first (drop (o + 1) bytes)))

none_stands : first_character [] ≡ None
unfolding first_character
none_stands = refl

pub nothing_stands : (bytes : List ℕ) (o : ℕ) → length bytes ≤ o → None ≡ first_character (drop o bytes)
nothing_stands bytes o h = sym (ap first_character (drop_all o bytes h) ∙ none_stands)

-- ---- a character's bytes are there

record Encodes (bs : List ℕ) (c : ℕ) : Type 0 where
  scalar : IsScalar c
  count : ℕ
  bytes : take count bs ≡ encode_utf8 c

by_read : (f : RawFront) (b : ℕ) (bs : List ℕ) (c : ℕ) → character_front (b ∷ bs) ≡ f → read_character f ≡ Some c → Encodes (b ∷ bs) c
by_read (Stop e) b bs c h k = cc
by_read (Escaped d n) b bs c h k = cc
by_read (Plain d n) b bs c h k =
    let same : d ≡ c = cc in
    let x = encoded b bs c n (h ∙ ap (λ y. Plain y n) same) in
    record { scalar = x.0; count = n; bytes = x.1 }

encodes : (bs : List ℕ) (c : ℕ) → first_character bs ≡ Some c → Encodes bs c
unfolding first_character
encodes [] c h = cc
encodes (b ∷ bs) c h = by_read (character_front (b ∷ bs)) b bs c refl h

pub is_scalar : (bytes : List ℕ) (o c : ℕ) → Some c ≡ first_character (drop o bytes) → IsScalar c
is_scalar bytes o c h = (encodes (drop o bytes) c (sym h)).scalar

pub room : (bytes : List ℕ) (o c : ℕ) → o ≤ length bytes → Some c ≡ first_character (drop o bytes) → o + length (encode_utf8 c) ≤ length bytes
room bytes o c within h =
    let x = encodes (drop o bytes) c (sym h) in
    let e = ap length x.bytes in
    let f = length-take x.count (drop o bytes) in
    let g = length-drop o bytes in
    omega (arith, e, f, g, within)

pub made : (x : Option ℕ) (c : ℕ) → SomeIff x (IsScalar c) c → IsScalar c → x ≡ Some c
made None c h s = absurd (h s)
made (Some d) c h s = ap (λ y. Some y) h.1

least : (x y z : Bool) → 0 < cond x 1 (cond y 2 (cond z 3 4))
least true y z = omega arith
least false true z = omega arith
least false false true = omega arith
least false false false = omega arith

-- a character takes a byte at least
pub takes_some : (c : ℕ) → 0 < length (encode_utf8 c)
takes_some c = subst (λ n. 0 < n) (sym (length-encode c)) (least (nat_lt c 0x80) (nat_lt c 0x800) (nat_lt c 0x1_0000))
