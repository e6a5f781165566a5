-- Literals: the text of each is read as it.
use Rattle.std.proofs.Common.{◌≡◌, ℕ, zero, suc, ◌+◌, ◌-◌, ◌*◌, ◌/◌, ◌%◌, ◌^◌, ◌<◌, ◌≤◌, Bool, true, false, not, List, [], ◌∷◌, ◌++◌, Option, Some, None, refl, ap, sym, subst, ◌∙◌, append_assoc, arith}
use Rattle.std.specs.Prelude.{◌&&◌, ◌||◌, ◌==◌, nat_lt, nat_le, nat_eq, min, if◌then◌else◌, codes}
use Rattle.std.specs.Fmt.{decimal}
use Rattle.std.specs.List.{flat_map, list_all}
use Rattle.std.specs.Int.{is_in_range}
use Rattle.std.specs.Char.{is_ascii_alphanumeric, digit_value}
use Rattle.std.proofs.lemmas.List.{append-nil}
use Rattle.std.proofs.lemmas.Bool.Decides.{nat_tests}
use Rattle.std.proofs.lemmas.Fmt.{decimal_by_steps}
use Rattle.kotlin_tree.specs.declared.places.Position.{Position}
use Rattle.kotlin_tree.specs.declared.tokens.Keyword.TheVariants as k
use Rattle.kotlin_tree.specs.declared.tokens.TokenKind.{TokenKind}
use Rattle.kotlin_tree.specs.declared.tokens.TokenKind.TheVariants as t
use Rattle.kotlin_tree.specs.declared.expressions.KLiteral.{KLiteral}
use Rattle.kotlin_tree.specs.declared.expressions.KLiteral.TheVariants as literal
use Rattle.kotlin_characters.specs.declared.letters.Cursor.{Cursor}
use Rattle.kotlin_characters.specs.Letters.{Letters, letter, stop, past}
use Rattle.kotlin_characters.specs.Scans.{head, tail, drop_while, drop_letters}
use Rattle.kotlin_lexer.specs.declared.found.Code.TheVariants as code
use Rattle.kotlin_lexer.specs.declared.literals.Quote.{Quote}
use Rattle.kotlin_lexer.specs.declared.literals.Quote.TheVariants.{Single, Double}
use Rattle.kotlin_lexer.specs.declared.literals.Quoted.TheVariants as quoted
use Rattle.kotlin_lexer.specs.Found.{token, fault}
use Rattle.kotlin_lexer.specs.Numbers.{is_digit, value_with, number_value, whole_piece, integer_piece, long_piece, number_piece}
use Rattle.kotlin_lexer.specs.Literals.{is_plain, is_hex, needs_code, coded, unit_of, escape_of, meaning_of, string_turn, string_at, string_piece, closed, character_turn, character_piece}
use Rattle.unicode_ident.proofs.Computing.{unicode_ident}
use Rattle.kotlin_lexer.specs.Pieces.{is_blank, is_line_end, piece_of, quoted_token, token_piece}
use Rattle.kotlin_layout.specs.Names.{hex_digit, hex_text, is_printable, control_text, printable_text, unit_text, escaped_in_character, escaped_in_string, string_unit_text, literal_text}
use Rattle.kotlin_canonical_text.specs.Tokens.{literal_token}
use Rattle.kotlin_lexed_text.specs.Lexable.{first_of, ends_word, ends_literal, literal_first, is_unit, is_literal}
use Rattle.kotlin_lexed_text.proofs.Bytes.{Agrees, Decodes, T, low_there, both}
use Rattle.kotlin_lexed_text.proofs.Words.{keyword_reads}

abbrev Reads : Cursor → List ℕ → List ℕ → TokenKind → Type 0
Reads p text bs x = (r : Cursor) × (piece_of (T p (text ++ bs)) ≡ token x p.position (T r bs))

is_no : (b : Bool) → not b ≡ true → b ≡ false
is_no true h = absurd (cc h)
is_no false h = refl

either_no : (b c : Bool) → (b || c) ≡ false → (b ≡ false) × (c ≡ false)
either_no true c h = absurd (cc h)
either_no false c h = (refl, h)

and_true : (v w : Bool) → v ≡ true → w ≡ true → (v && w) ≡ true
and_true v w h i = ap (λ z. z && w) h ∙ i

and_no : (v w : Bool) → v ≡ false → (v && w) ≡ false
and_no v w h = ap (λ z. z && w) h

if_true : {A : Type 0} (v : Bool) (x z : A) → v ≡ true → (if v then x else z) ≡ x
if_true true x z h = refl
if_true false x z h = absurd (cc h)

if_false : {A : Type 0} (v : Bool) (x z : A) → v ≡ false → (if v then x else z) ≡ z
if_false true x z h = absurd (cc h)
if_false false x z h = refl

same_number : (c k : ℕ) → (c == k) ≡ true → c ≡ k
same_number c k h = grind (arith, nat_tests)

le_is : (c n : ℕ) → nat_le c n ≡ true → c ≤ n
le_is c n h = grind (arith, nat_tests)

is_le : (c n : ℕ) → c ≤ n → nat_le c n ≡ true
is_le c n h = grind (arith, nat_tests)

lt_is : (c n : ℕ) → nat_lt c n ≡ true → c < n
lt_is c n h = grind (arith, nat_tests)

is_lt : (c n : ℕ) → c < n → nat_lt c n ≡ true
is_lt c n h = grind (arith, nat_tests)

-- ---- digits

-- the value of digits behind digits of value v
told : ℕ → List ℕ → ℕ
told v [] = v
told v (c ∷ cs) = told (v * 10 + (c - 48)) cs

told_push : (v d : ℕ) (cs : List ℕ) → told v (cs ++ d ∷ []) ≡ told v cs * 10 + (d - 48)
unfolding told
told_push v d [] = refl
told_push v d (c ∷ cs) = told_push (v * 10 + (c - 48)) d cs

told_more : (v : ℕ) (cs : List ℕ) → v ≤ told v cs
unfolding told
told_more v [] = omega arith
told_more v (c ∷ cs) = let h = told_more (v * 10 + (c - 48)) cs in omega (arith, h)

digit_is : (c : ℕ) → 48 ≤ c → c ≤ 57 → is_digit c ≡ true
digit_is c h i = and_true (nat_le 48 c) (nat_le c 57) (is_le 48 c h) (is_le c 57 i)

digits_push : (cs : List ℕ) (d : ℕ) → list_all is_digit cs ≡ true → is_digit d ≡ true → list_all is_digit (cs ++ d ∷ []) ≡ true
digits_push [] d h i = and_true (is_digit d) true i refl
digits_push (c ∷ cs) d h i = let k = both (is_digit c) (list_all is_digit cs) h in and_true (is_digit c) (list_all is_digit (cs ++ d ∷ [])) k.0 (digits_push cs d k.1 i)

-- the digits of a number, of which the first is 0 only where it stands alone
record Numeral (n : ℕ) (ds : List ℕ) : Type 0 where
  first : ℕ
  more : List ℕ
  is : ds ≡ first ∷ more
  begins : is_digit first ≡ true
  goes_on : list_all is_digit more ≡ true
  value : told (first - 48) more ≡ n
  alone : first ≡ 48 → more ≡ []

numeral_one : (n : ℕ) → n < 10 → Numeral n ((48 + n) ∷ [])
unfolding told
numeral_one n h = record { first = 48 + n; more = []; is = refl; begins = digit_is (48 + n) (omega arith) (omega (arith, h)); goes_on = refl; value = omega arith; alone = λ e. refl }

not_alone : (n first : ℕ) (more : List ℕ) → 10 ≤ n → told (first - 48) more ≡ n / 10 → first ≡ 48 → more ≡ [] → ⊥
unfolding told
not_alone n first more h value e none =
    let a : told (first - 48) [] ≡ n / 10 = ap (told (first - 48)) (sym none) ∙ value in
    let b : first - 48 ≡ n / 10 = a in omega (arith, b, e, h)

last_digit : (n v d : ℕ) → v ≡ n / 10 → v * 10 + (48 + n % 10 - 48) ≡ n
last_digit n v d h = omega (arith, h)

numeral_more : (n : ℕ) (ds : List ℕ) → 10 ≤ n → Numeral (n / 10) ds → Numeral n (ds ++ (48 + n % 10) ∷ [])
numeral_more n ds h r = record {
  first = r.first;
  more = r.more ++ (48 + n % 10) ∷ [];
  is = ap (λ z. z ++ (48 + n % 10) ∷ []) r.is;
  begins = r.begins;
  goes_on = digits_push r.more (48 + n % 10) r.goes_on (digit_is (48 + n % 10) (omega arith) (omega arith));
  value = told_push (r.first - 48) (48 + n % 10) r.more ∙ last_digit n (told (r.first - 48) r.more) 0 r.value;
  alone = λ e. absurd (not_alone n r.first r.more h r.value e (r.alone e));
}

numeral : (n : ℕ) → n < 2 ^ 64 → Numeral n (decimal n)
numeral = decimal_by_steps Numeral numeral_one numeral_more

-- no digit stands there
abbrev ends_digits : Option ℕ → Bool
ends_digits None = true
ends_digits (Some b) = nat_lt b 128 && not (is_digit b)

word_digits : (b : Option ℕ) → ends_word b ≡ true → ends_digits b ≡ true
word_digits None h = refl
word_digits (Some b) h =
    let i = both (nat_lt b 128) (not (is_ascii_alphanumeric b || (b == 95))) h in
    let j = either_no (is_ascii_alphanumeric b) (b == 95) (is_no (is_ascii_alphanumeric b || (b == 95)) i.1) in
    let l = either_no (is_in_range 48 57 b || is_in_range 65 90 b) (is_in_range 97 122 b) j.0 in
    let m = either_no (is_in_range 48 57 b) (is_in_range 65 90 b) l.0 in
    and_true (nat_lt b 128) (not (is_digit b)) i.0 (ap not m.0)

record Digits (cs bs : List ℕ) (p : Cursor) (v : ℕ) : Type 0 where
  at : Cursor
  rest : drop_while is_digit (T p (cs ++ bs)) ≡ T at bs
  value : number_value v (T p (cs ++ bs)) ≡ told v cs

digits_end : (bs : List ℕ) (p : Cursor) (v : ℕ) → ends_digits (first_of bs None) ≡ true → Digits [] bs p v
unfolding told
digits_end [] p v h = record { at = p; rest = refl; value = refl }
digits_end (b ∷ bs) p v h =
    let i = both (nat_lt b 128) (not (is_digit b)) h in
    let e = low_there b bs p i.0 in
    let n = is_no (is_digit b) i.1 in
    let u = T (past p b) bs in
    record {
      at = p;
      rest = ap (drop_while is_digit) e ∙ ap (λ z. if z then drop_while is_digit u else letter b p.position u) n ∙ sym e;
      value = ap (number_value v) e ∙ ap (λ z. if z then number_value (value_with v b) u else v) n;
    }

small : (v w : ℕ) → v ≤ w → w < 2 ^ 64 → min v (2 ^ 64) ≡ v
small v w h i = omega (arith, h, i)

digit_low : (c : ℕ) → is_digit c ≡ true → nat_lt c 128 ≡ true
digit_low c h = let i = le_is c 57 (both (nat_le 48 c) (nat_le c 57) h).1 in is_lt c 128 (omega (arith, i))

digits_read : (cs bs : List ℕ) (p : Cursor) (v : ℕ) → list_all is_digit cs ≡ true → ends_digits (first_of bs None) ≡ true → told v cs < 2 ^ 64 → Digits cs bs p v
unfolding told
digits_read [] bs p v all h low = digits_end bs p v h
digits_read (c ∷ cs) bs p v all h low =
    let i = both (is_digit c) (list_all is_digit cs) all in
    let w = v * 10 + (c - 48) in
    let r = digits_read cs bs (past p c) w i.1 h low in
    let e = low_there c (cs ++ bs) p (digit_low c i.0) in
    let u = T (past p c) (cs ++ bs) in
    record {
      at = r.at;
      rest = ap (drop_while is_digit) e ∙ ap (λ z. if z then drop_while is_digit u else letter c p.position u) i.0 ∙ r.rest;
      value = ap (number_value v) e ∙ ap (λ z. if z then number_value (value_with v c) u else v) i.0 ∙ ap (λ z. number_value z u) (small w (told w cs) (told_more w cs) low) ∙ r.value;
    }

other_by : (v : Bool) (c k : ℕ) → (c == k) ≡ v → is_digit c ≡ true → is_digit k ≡ false → v ≡ false
other_by true c k e h i = let bad : true ≡ false = sym h ∙ ap is_digit (same_number c k e) ∙ i in absurd (cc bad)
other_by false c k e h i = refl

other : (c k : ℕ) → is_digit c ≡ true → is_digit k ≡ false → (c == k) ≡ false
other c k h i = other_by (c == k) c k refl h i

or_no : (a b : Bool) → a ≡ false → b ≡ false → (a || b) ≡ false
or_no a b h i = ap (λ z. z || b) h ∙ i

number_first : (c : ℕ) (p : Position) (rest : Letters) → is_digit c ≡ true → piece_of (letter c p rest) ≡ number_piece p c rest
unfolding piece_of quoted_token token_piece
number_first c p rest h =
    if_false (is_blank c) _ _ (or_no (c == 32) ((c == 9) || (c == 12)) (other c 32 h refl) (or_no (c == 9) (c == 12) (other c 9 h refl) (other c 12 h refl)))
    ∙ if_false (is_line_end c) _ _ (or_no (c == 10) (c == 13) (other c 10 h refl) (other c 13 h refl))
    ∙ if_false (c == 59) _ _ (other c 59 h refl) ∙ if_false (c == 47) _ _ (other c 47 h refl) ∙ if_false (c == 34) _ _ (other c 34 h refl)
    ∙ if_false (c == 39) _ _ (other c 39 h refl) ∙ if_false (c == 96) _ _ (other c 96 h refl) ∙ if_true (is_digit c) _ _ h

no_digit : (bs : List ℕ) (p : Cursor) → ends_digits (first_of bs None) ≡ true → is_digit (head (T p bs)) ≡ false
no_digit [] p h = refl
no_digit (b ∷ bs) p h = let i = both (nat_lt b 128) (not (is_digit b)) h in ap (λ z. is_digit (head z)) (low_there b bs p i.0) ∙ is_no (is_digit b) i.1

padded_by : (v : Bool) (c : ℕ) (more bs : List ℕ) (p : Cursor) → (c == 48) ≡ v → (c ≡ 48 → more ≡ []) → ends_digits (first_of bs None) ≡ true → (v && is_digit (head (T p (more ++ bs)))) ≡ false
padded_by true c more bs p e alone h = ap (λ z. is_digit (head (T p (z ++ bs)))) (alone (same_number c 48 e)) ∙ no_digit bs p h
padded_by false c more bs p e alone h = refl

digits_piece : (n : ℕ) → n < 2 ^ 64 → (p : Cursor) (bs : List ℕ) → ends_digits (first_of bs None) ≡ true → (r : Cursor) × (piece_of (T p (decimal n ++ bs)) ≡ whole_piece p.position n (T r bs))
unfolding number_piece
digits_piece n low p bs h =
    let d = numeral n low in
    let c = d.first in
    let s = past p c in
    let u = T s (d.more ++ bs) in
    let r = digits_read d.more bs s (c - 48) d.goes_on h (subst (λ z. z < 2 ^ 64) (sym d.value) low) in (
      r.at,
      ap (λ z. piece_of (T p (z ++ bs))) d.is ∙ ap piece_of (low_there c (d.more ++ bs) p (digit_low c d.begins)) ∙ number_first c p.position u d.begins
          ∙ ap (λ z. if z then fault code.Form p.position (drop_while is_digit u) else whole_piece p.position (number_value (c - 48) u) (drop_while is_digit u)) (padded_by (c == 48) c d.more bs s refl d.alone h)
          ∙ ap (λ z. whole_piece p.position z (drop_while is_digit u)) (r.value ∙ d.value) ∙ ap (λ z. whole_piece p.position n z) r.rest,
    )

no_letter : (bs : List ℕ) (p : Cursor) → ends_word (first_of bs None) ≡ true → (head (T p bs) == 76) ≡ false
no_letter [] p h = refl
no_letter (b ∷ bs) p h =
    let i = both (nat_lt b 128) (not (is_ascii_alphanumeric b || (b == 95))) h in
    ap (λ z. head z == 76) (low_there b bs p i.0) ∙ letter_by (b == 76) b refl (either_no (is_ascii_alphanumeric b) (b == 95) (is_no (is_ascii_alphanumeric b || (b == 95)) i.1)).0
  where
    letter_by : (v : Bool) (b : ℕ) → (b == 76) ≡ v → is_ascii_alphanumeric b ≡ false → v ≡ false
    letter_by true b e h = let bad : true ≡ false = sym (ap is_ascii_alphanumeric (same_number b 76 e)) ∙ h in absurd (cc bad)
    letter_by false b e h = refl

integer_reads : (n : ℕ) → nat_lt n (2 ^ 31) ≡ true → (p : Cursor) (bs : List ℕ) → ends_word (first_of bs None) ≡ true → Reads p (decimal n) bs (t.Integer n)
integer_reads n low p bs h =
    let i = lt_is n (2 ^ 31) low in
    let r = digits_piece n (omega (arith, i)) p bs (word_digits (first_of bs None) h) in
    let q = p.position in
    let u = T r.0 bs in
    (r.0, r.1 ∙ ap (λ z. if z then long_piece q n (tail u) else integer_piece q n u) (no_letter bs r.0 h) ∙ if_true (nat_lt n (2 ^ 31)) (token (t.Integer n) q u) _ low)

long_reads : (n : ℕ) → nat_lt n (2 ^ 63) ≡ true → (p : Cursor) (bs : List ℕ) → Reads p (decimal n ++ codes "L") bs (t.Long n)
long_reads n low p bs =
    let i = lt_is n (2 ^ 63) low in
    let r = digits_piece n (omega (arith, i)) p (76 ∷ bs) refl in
    let q = p.position in
    let u = T (past r.0 76) bs in (
      past r.0 76,
      ap (λ z. piece_of (T p z)) (append_assoc (decimal n) (codes "L") bs) ∙ r.1 ∙ ap (whole_piece q n) (low_there 76 bs r.0 refl) ∙ if_true (nat_lt n (2 ^ 63)) (token (t.Long n) q u) _ low,
    )

-- ---- units

record UnitRead (q : Quote) (u : ℕ) (text bs : List ℕ) (p : Cursor) : Type 0 where
  c : ℕ
  more : Letters
  n : ℕ
  at : Cursor
  there : T p (text ++ bs) ≡ letter c p.position more
  meaning : meaning_of q c more ≡ quoted.Unit u n
  rest : drop_letters n more ≡ T at bs

plain_read : (q : Quote) (u : ℕ) (bs : List ℕ) (p : Cursor) → is_printable u ≡ true → ((more : Letters) → meaning_of q u more ≡ quoted.Unit u 0) → UnitRead q u (u ∷ []) bs p
plain_read q u bs p h means =
    let i = le_is u 126 (both (nat_le 32 u) (nat_le u 126) h).1 in
    record { c = u; more = T (past p u) bs; n = 0; at = past p u; there = low_there u bs p (is_lt u 128 (omega (arith, i))); meaning = means (T (past p u) bs); rest = refl }

escape_read : (q : Quote) (u c : ℕ) (bs : List ℕ) (p : Cursor) → nat_lt c 128 ≡ true → ((r : Position) (more : Letters) → meaning_of q 92 (letter c r more) ≡ quoted.Unit u 1) → UnitRead q u (92 ∷ c ∷ []) bs p
escape_read q u c bs p h means =
    let s = past p 92 in
    record {
      c = 92;
      more = letter c s.position (T (past s c) bs);
      n = 1;
      at = past s c;
      there = low_there 92 (c ∷ bs) p refl ∙ ap (λ z. letter 92 p.position z) (low_there c bs s h);
      meaning = means s.position (T (past s c) bs);
      rest = refl;
    }

hex_read : (d : ℕ) → d < 16 → (digit_value (hex_digit d) ≡ d) × (is_hex (hex_digit d) ≡ true) × (nat_lt (hex_digit d) 128 ≡ true)
hex_read zero h = (refl, refl, refl)
hex_read (suc zero) h = (refl, refl, refl)
hex_read (suc (suc zero)) h = (refl, refl, refl)
hex_read (suc (suc (suc zero))) h = (refl, refl, refl)
hex_read (suc (suc (suc (suc zero)))) h = (refl, refl, refl)
hex_read (suc (suc (suc (suc (suc zero))))) h = (refl, refl, refl)
hex_read (suc (suc (suc (suc (suc (suc zero)))))) h = (refl, refl, refl)
hex_read (suc (suc (suc (suc (suc (suc (suc zero))))))) h = (refl, refl, refl)
hex_read (suc (suc (suc (suc (suc (suc (suc (suc zero)))))))) h = (refl, refl, refl)
hex_read (suc (suc (suc (suc (suc (suc (suc (suc (suc zero))))))))) h = (refl, refl, refl)
hex_read (suc (suc (suc (suc (suc (suc (suc (suc (suc (suc zero)))))))))) h = (refl, refl, refl)
hex_read (suc (suc (suc (suc (suc (suc (suc (suc (suc (suc (suc zero))))))))))) h = (refl, refl, refl)
hex_read (suc (suc (suc (suc (suc (suc (suc (suc (suc (suc (suc (suc zero)))))))))))) h = (refl, refl, refl)
hex_read (suc (suc (suc (suc (suc (suc (suc (suc (suc (suc (suc (suc (suc zero))))))))))))) h = (refl, refl, refl)
hex_read (suc (suc (suc (suc (suc (suc (suc (suc (suc (suc (suc (suc (suc (suc zero)))))))))))))) h = (refl, refl, refl)
hex_read (suc (suc (suc (suc (suc (suc (suc (suc (suc (suc (suc (suc (suc (suc (suc zero))))))))))))))) h = (refl, refl, refl)
hex_read (suc (suc (suc (suc (suc (suc (suc (suc (suc (suc (suc (suc (suc (suc (suc (suc d)))))))))))))))) h = absurd (omega (arith, h))

four_digits : (u : ℕ) → u < 2 ^ 16 → ((u / 4096 % 16 * 16 + u / 256 % 16) * 16 + u / 16 % 16) * 16 + u % 16 ≡ u
four_digits u h = omega (arith, h)

code_read : (u : ℕ) → u < 2 ^ 16 → needs_code u ≡ true → coded (hex_digit (u / 4096 % 16)) (hex_digit (u / 256 % 16)) (hex_digit (u / 16 % 16)) (hex_digit (u % 16)) ≡ Some u
code_read u low needs =
    let a = hex_read (u / 4096 % 16) (omega arith) in
    let b = hex_read (u / 256 % 16) (omega arith) in
    let c = hex_read (u / 16 % 16) (omega arith) in
    let d = hex_read (u % 16) (omega arith) in
    let x = hex_digit (u / 4096 % 16) in
    let y = hex_digit (u / 256 % 16) in
    let z = hex_digit (u / 16 % 16) in
    let w = hex_digit (u % 16) in
    let v : ((digit_value x * 16 + digit_value y) * 16 + digit_value z) * 16 + digit_value w ≡ u =
    ap (λ e. ((e * 16 + digit_value y) * 16 + digit_value z) * 16 + digit_value w) a.0 ∙ ap (λ e. ((u / 4096 % 16 * 16 + e) * 16 + digit_value z) * 16 + digit_value w) b.0
    ∙ ap (λ e. ((u / 4096 % 16 * 16 + u / 256 % 16) * 16 + e) * 16 + digit_value w) c.0 ∙ ap (λ e. ((u / 4096 % 16 * 16 + u / 256 % 16) * 16 + u / 16 % 16) * 16 + e) d.0 ∙ four_digits u low in
    if_true (is_hex x && (is_hex y && (is_hex z && is_hex w))) _ _ (and_true (is_hex x) (is_hex y && (is_hex z && is_hex w)) a.1 (and_true (is_hex y) (is_hex z && is_hex w) b.1 (and_true (is_hex z) (is_hex w) c.1 d.1)))
    ∙ ap (λ e. if needs_code e then Some e else None) v ∙ if_true (needs_code u) (Some u) None needs

coded_means : (q : Quote) (u a b c d : ℕ) (r r1 r2 r3 r4 : Position) (more : Letters) → coded a b c d ≡ Some u
    → meaning_of q 92 (letter 117 r (letter a r1 (letter b r2 (letter c r3 (letter d r4 more))))) ≡ quoted.Unit u 5
unfolding meaning_of escape_of
coded_means Single u a b c d r r1 r2 r3 r4 more h = ap (λ z. unit_of z 5) h
coded_means Double u a b c d r r1 r2 r3 r4 more h = ap (λ z. unit_of z 5) h

coded_read : (q : Quote) (u : ℕ) (bs : List ℕ) (p : Cursor) → u < 2 ^ 16 → needs_code u ≡ true → UnitRead q u (codes "\\u" ++ hex_text u) bs p
coded_read q u bs p low needs =
    let a = hex_digit (u / 4096 % 16) in
    let b = hex_digit (u / 256 % 16) in
    let c = hex_digit (u / 16 % 16) in
    let d = hex_digit (u % 16) in
    let p1 = past p 92 in
    let p2 = past p1 117 in
    let p3 = past p2 a in
    let p4 = past p3 b in
    let p5 = past p4 c in
    let p6 = past p5 d in
    let rest : Letters = letter 117 p1.position (letter a p2.position (letter b p3.position (letter c p4.position (letter d p5.position (T p6 bs))))) in
    record {
      c = 92;
      more = rest;
      n = 5;
      at = p6;
      there = low_there 92 (117 ∷ a ∷ b ∷ c ∷ d ∷ bs) p refl ∙ ap (λ z. letter 92 p.position z)
          (low_there 117 (a ∷ b ∷ c ∷ d ∷ bs) p1 refl ∙ ap (λ z. letter 117 p1.position z)
          (low_there a (b ∷ c ∷ d ∷ bs) p2 (hex_read (u / 4096 % 16) (omega arith)).2 ∙ ap (λ z. letter a p2.position z)
          (low_there b (c ∷ d ∷ bs) p3 (hex_read (u / 256 % 16) (omega arith)).2 ∙ ap (λ z. letter b p3.position z)
          (low_there c (d ∷ bs) p4 (hex_read (u / 16 % 16) (omega arith)).2 ∙ ap (λ z. letter c p4.position z)
          (low_there d bs p5 (hex_read (u % 16) (omega arith)).2)))));
      meaning = coded_means q u a b c d p1.position p2.position p3.position p4.position p5.position (T p6 bs) (code_read u low needs);
      rest = refl;
    }

tab_means : (q : Quote) (r : Position) (more : Letters) → meaning_of q 92 (letter 116 r more) ≡ quoted.Unit 9 1
unfolding meaning_of escape_of
tab_means Single r more = refl
tab_means Double r more = refl

back_means : (q : Quote) (r : Position) (more : Letters) → meaning_of q 92 (letter 98 r more) ≡ quoted.Unit 8 1
unfolding meaning_of escape_of
back_means Single r more = refl
back_means Double r more = refl

feed_means : (q : Quote) (r : Position) (more : Letters) → meaning_of q 92 (letter 110 r more) ≡ quoted.Unit 10 1
unfolding meaning_of escape_of
feed_means Single r more = refl
feed_means Double r more = refl

return_means : (q : Quote) (r : Position) (more : Letters) → meaning_of q 92 (letter 114 r more) ≡ quoted.Unit 13 1
unfolding meaning_of escape_of
return_means Single r more = refl
return_means Double r more = refl

-- a unit that isn't printable
module _ (q : Quote) (u : ℕ) (bs : List ℕ) (p : Cursor) where
  return_by : (v : Bool) → nat_eq u 13 ≡ v → u < 2 ^ 16 → is_printable u ≡ false → nat_eq u 9 ≡ false → nat_eq u 8 ≡ false → nat_eq u 10 ≡ false
      → UnitRead q u (if v then codes "\\r" else codes "\\u" ++ hex_text u) bs p
  return_by true e low odd a b c = subst (λ z. UnitRead q z (codes "\\r") bs p) (sym (same_number u 13 e)) (escape_read q 13 114 bs p refl (return_means q))
  return_by false e low odd a b c =
      coded_read q u bs p low (and_true (not (is_printable u)) (not ((u == 8) || ((u == 9) || ((u == 10) || (u == 13))))) (ap not odd)
      (ap not (or_no (u == 8) ((u == 9) || ((u == 10) || (u == 13))) b (or_no (u == 9) ((u == 10) || (u == 13)) a (or_no (u == 10) (u == 13) c e)))))

  feed_by : (v : Bool) → nat_eq u 10 ≡ v → u < 2 ^ 16 → is_printable u ≡ false → nat_eq u 9 ≡ false → nat_eq u 8 ≡ false
      → UnitRead q u (if v then codes "\\n" else (if nat_eq u 13 then codes "\\r" else codes "\\u" ++ hex_text u)) bs p
  feed_by true e low odd a b = subst (λ z. UnitRead q z (codes "\\n") bs p) (sym (same_number u 10 e)) (escape_read q 10 110 bs p refl (feed_means q))
  feed_by false e low odd a b = return_by (nat_eq u 13) refl low odd a b e

  back_by : (v : Bool) → nat_eq u 8 ≡ v → u < 2 ^ 16 → is_printable u ≡ false → nat_eq u 9 ≡ false
      → UnitRead q u (if v then codes "\\b" else (if nat_eq u 10 then codes "\\n" else (if nat_eq u 13 then codes "\\r" else codes "\\u" ++ hex_text u))) bs p
  back_by true e low odd a = subst (λ z. UnitRead q z (codes "\\b") bs p) (sym (same_number u 8 e)) (escape_read q 8 98 bs p refl (back_means q))
  back_by false e low odd a = feed_by (nat_eq u 10) refl low odd a e

  control_by : (v : Bool) → nat_eq u 9 ≡ v → u < 2 ^ 16 → is_printable u ≡ false
      → UnitRead q u (if v then codes "\\t" else (if nat_eq u 8 then codes "\\b" else (if nat_eq u 10 then codes "\\n" else (if nat_eq u 13 then codes "\\r" else codes "\\u" ++ hex_text u)))) bs p
  control_by true e low odd = subst (λ z. UnitRead q z (codes "\\t") bs p) (sym (same_number u 9 e)) (escape_read q 9 116 bs p refl (tab_means q))
  control_by false e low odd = back_by (nat_eq u 8) refl low odd e

-- before which a backslash stands in a literal
abbrev escaped : Quote → ℕ → Bool
escaped Single u = escaped_in_character u
escaped Double u = escaped_in_string u

escaped_means : (q : Quote) (u : ℕ) → escaped q u ≡ true → (r : Position) (more : Letters) → meaning_of q 92 (letter u r more) ≡ quoted.Unit u 1
unfolding meaning_of escape_of
escaped_means Single u h r more = single_by (nat_eq u 92) u refl h r more
  where
    single_by : (v : Bool) (u : ℕ) → nat_eq u 92 ≡ v → (v || nat_eq u 39) ≡ true → (r : Position) (more : Letters) → meaning_of Single 92 (letter u r more) ≡ quoted.Unit u 1
    single_by true u e h r more = subst (λ z. meaning_of Single 92 (letter z r more) ≡ quoted.Unit z 1) (sym (same_number u 92 e)) refl
    single_by false u e h r more = subst (λ z. meaning_of Single 92 (letter z r more) ≡ quoted.Unit z 1) (sym (same_number u 39 h)) refl
escaped_means Double u h r more = double_by (nat_eq u 92) (nat_eq u 34) u refl refl h r more
  where
    double_by : (v w : Bool) (u : ℕ) → nat_eq u 92 ≡ v → nat_eq u 34 ≡ w → (v || w || nat_eq u 36) ≡ true → (r : Position) (more : Letters) → meaning_of Double 92 (letter u r more) ≡ quoted.Unit u 1
    double_by true w u e i h r more = subst (λ z. meaning_of Double 92 (letter z r more) ≡ quoted.Unit z 1) (sym (same_number u 92 e)) refl
    double_by false true u e i h r more = subst (λ z. meaning_of Double 92 (letter z r more) ≡ quoted.Unit z 1) (sym (same_number u 34 i)) refl
    double_by false false u e i h r more = subst (λ z. meaning_of Double 92 (letter z r more) ≡ quoted.Unit z 1) (sym (same_number u 36 h)) refl

plain_means : (q : Quote) (u : ℕ) → escaped q u ≡ false → is_printable u ≡ true → (more : Letters) → meaning_of q u more ≡ quoted.Unit u 0
unfolding meaning_of
plain_means Single u e h more =
    let a = either_no (nat_eq u 92) (nat_eq u 39) e in
    if_false (u == 39) _ _ a.1 ∙ if_false (u == 92) _ _ a.0 ∙ if_true (is_plain Single u) _ _ (and_true (is_printable u) true h refl)
plain_means Double u e h more =
    let a = either_no (nat_eq u 92 || nat_eq u 34) (nat_eq u 36) e in
    let b = either_no (nat_eq u 92) (nat_eq u 34) a.0 in
    if_false (u == 34) _ _ b.1 ∙ if_false (u == 92) _ _ b.0 ∙ if_true (is_plain Double u) _ _ (and_true (is_printable u) (not (u == 36)) h (ap not a.1))

printable_by : (v : Bool) (q : Quote) (u : ℕ) (bs : List ℕ) (p : Cursor) → escaped q u ≡ v → is_printable u ≡ true → UnitRead q u (printable_text v u) bs p
printable_by true q u bs p e h =
    let i = le_is u 126 (both (nat_le 32 u) (nat_le u 126) h).1 in
    escape_read q u u bs p (is_lt u 128 (omega (arith, i))) (escaped_means q u e)
printable_by false q u bs p e h = plain_read q u bs p h (plain_means q u e h)

unit_by : (v : Bool) (q : Quote) (u : ℕ) (bs : List ℕ) (p : Cursor) → is_printable u ≡ v → is_unit u ≡ true → UnitRead q u (if v then printable_text (escaped q u) u else control_text u) bs p
unit_by true q u bs p e low = printable_by (escaped q u) q u bs p refl e
unit_by false q u bs p e low = control_by q u bs p (nat_eq u 9) refl (lt_is u (2 ^ 16) low) e

unit_read : (q : Quote) (u : ℕ) (bs : List ℕ) (p : Cursor) → is_unit u ≡ true → UnitRead q u (unit_text (escaped q u) u) bs p
unit_read q u bs p low = unit_by (is_printable u) q u bs p refl low

-- ---- characters and Strings

character_reads : (u : ℕ) → is_unit u ≡ true → (p : Cursor) (bs : List ℕ) → Reads p (codes "'" ++ unit_text (escaped_in_character u) u ++ codes "'") bs (t.Character u)
unfolding piece_of quoted_token character_piece
character_reads u low p bs =
    let x = unit_text (escaped_in_character u) u in
    let s = past p 39 in
    let r = unit_read Single u (39 ∷ bs) s low in
    let a : T p ((codes "'" ++ x ++ codes "'") ++ bs) ≡ letter 39 p.position (T s (x ++ 39 ∷ bs)) = low_there 39 ((x ++ codes "'") ++ bs) p refl ∙ ap (λ z. letter 39 p.position (T s z)) (append_assoc x (codes "'") bs) in (
      past r.at 39,
      ap piece_of a ∙ ap (character_piece p.position) r.there ∙ ap (λ z. character_turn p.position z (letter r.c s.position r.more) r.more) r.meaning
          ∙ ap (closed p.position u) (r.rest ∙ low_there 39 bs r.at refl),
    )

string_skip : (n : ℕ) (q : Position) (us : List ℕ) (t : Letters) → string_at q n us t ≡ string_at q 0 us (drop_letters n t)
string_skip zero q us t = refl
string_skip (suc n) q us (stop e r) = refl
string_skip (suc n) q us (letter c r rest) = string_skip n q us rest

units_read : (us done : List ℕ) (q : Position) (p : Cursor) (bs : List ℕ) → list_all is_unit us ≡ true → (r : Cursor) × (string_at q 0 done (T p (flat_map string_unit_text us ++ 34 ∷ bs)) ≡ token (t.Text (done ++ us)) q (T r bs))
unfolding meaning_of
units_read [] done q p bs all = (past p 34, ap (string_at q 0 done) (low_there 34 bs p refl) ∙ ap (λ z. token (t.Text z) q (T (past p 34) bs)) (sym (append-nil done)))
units_read (u ∷ us) done q p bs all =
    let i = both (is_unit u) (list_all is_unit us) all in
    let x = string_unit_text u in
    let y = flat_map string_unit_text us in
    let r = unit_read Double u (y ++ 34 ∷ bs) p i.0 in
    let s = units_read us (done ++ u ∷ []) q r.at bs i.1 in (
      s.0,
      ap (λ z. string_at q 0 done (T p z)) (append_assoc x y (34 ∷ bs)) ∙ ap (string_at q 0 done) r.there
          ∙ ap (λ z. string_turn q done z (letter r.c p.position r.more) r.more (λ n vs. string_at q n vs r.more)) r.meaning
          ∙ string_skip r.n q (done ++ u ∷ []) r.more ∙ ap (string_at q 0 (done ++ u ∷ [])) r.rest ∙ s.1
          ∙ ap (λ z. token (t.Text z) q (T s.0 bs)) (append_assoc done (u ∷ []) us),
    )

text_reads : (us : List ℕ) → list_all is_unit us ≡ true → (p : Cursor) (bs : List ℕ) → Reads p (codes "\"" ++ flat_map string_unit_text us ++ codes "\"") bs (t.Text us)
unfolding piece_of quoted_token string_piece
text_reads us all p bs =
    let x = flat_map string_unit_text us in
    let s = past p 34 in
    let r = units_read us [] p.position s bs all in
    let a : T p ((codes "\"" ++ x ++ codes "\"") ++ bs) ≡ letter 34 p.position (T s (x ++ 34 ∷ bs)) = low_there 34 ((x ++ codes "\"") ++ bs) p refl ∙ ap (λ z. letter 34 p.position (T s z)) (append_assoc x (codes "\"") bs) in
    (r.0, ap piece_of a ∙ r.1)

-- ---- every literal

pub literal_reads : Decodes → (x : KLiteral) → is_literal x ≡ true → (p : Cursor) (bs : List ℕ) → ends_literal x (first_of bs None) ≡ true → Reads p (literal_text x) bs (literal_token x)
unfolding literal_text
literal_reads decodes (literal.Integer n) is p bs h = integer_reads n is p bs h
literal_reads decodes (literal.Long n) is p bs h = long_reads n is p bs
literal_reads decodes (literal.Character u) is p bs h = character_reads u is p bs
literal_reads decodes (literal.Text us) is p bs h = text_reads us is p bs
literal_reads decodes literal.True is p bs h = keyword_reads decodes k.True p bs h
literal_reads decodes literal.False is p bs h = keyword_reads decodes k.False p bs h
literal_reads decodes literal.Null is p bs h = keyword_reads decodes k.Null p bs h

digits_begin : (n : ℕ) → n < 2 ^ 64 → (xs bs : List ℕ) → Agrees (first_of ((decimal n ++ xs) ++ bs) None) (Some 48)
digits_begin n low xs bs =
    let d = numeral n low in
    let i = both (nat_le 48 d.first) (nat_le d.first 57) d.begins in
    Agrees.Digit d.first (ap (λ z. first_of ((z ++ xs) ++ bs) None) d.is) i.0 i.1 refl

pub literal_begins : (x : KLiteral) → is_literal x ≡ true → (bs : List ℕ) → Agrees (first_of (literal_text x ++ bs) None) (Some (literal_first x))
unfolding literal_text unicode_ident
literal_begins (literal.Integer n) is bs = let i = lt_is n (2 ^ 31) is in subst (λ z. Agrees (first_of (z ++ bs) None) (Some 48)) (append-nil (decimal n)) (digits_begin n (omega (arith, i)) [] bs)
literal_begins (literal.Long n) is bs = let i = lt_is n (2 ^ 63) is in digits_begin n (omega (arith, i)) (codes "L") bs
literal_begins (literal.Character u) is bs = Agrees.Same refl
literal_begins (literal.Text us) is bs = Agrees.Same refl
literal_begins literal.True is bs = Agrees.Letter 116 refl refl refl refl
literal_begins literal.False is bs = Agrees.Letter 102 refl refl refl refl
literal_begins literal.Null is bs = Agrees.Letter 110 refl refl refl refl
