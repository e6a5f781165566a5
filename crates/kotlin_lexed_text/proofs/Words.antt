-- Words: the text of each keyword, word and name is read as it where no letter, digit or `_` stands behind it.
use Rattle.std.proofs.Common.{◌≡◌, ℕ, ◌<◌, ◌≤◌, Bool, true, false, not, List, [], ◌∷◌, ◌++◌, length, Option, Some, None, refl, ap, sym, subst, ◌∙◌, append_assoc, arith}
use Rattle.std.specs.Prelude.{◌&&◌, ◌||◌, ◌==◌, nat_lt, nat_le, cond, if◌then◌else◌, encode_utf8, encode_utf8_all, find, bytes_eq, codes}
use Rattle.std.specs.Str.{all_scalars}
use Rattle.std.specs.List.{list_all, list_any}
use Rattle.std.specs.Option.{option_map}
use Rattle.std.specs.Char.{is_ascii_alphabetic, is_ascii_alphanumeric}
use Rattle.std.proofs.lemmas.Bool.Decides.{nat_tests}
use Rattle.std.proofs.lemmas.Slice.Eq.{bytes_eq-Decides}
use Rattle.std.proofs.lemmas.Str.{length-encode}
use lib.Utf8.{encode, scalar}
use Rattle.unicode_ident.proofs.Computing.{unicode_ident}
use Rattle.unicode_ident.proofs.IdentLemmas.{is_xid_start-ascii, is_xid_continue-ascii}
use Rattle.kotlin_tree.specs.declared.tokens.Keyword.{Keyword}
use Rattle.kotlin_tree.specs.declared.tokens.Keyword.TheVariants as h
use Rattle.kotlin_tree.specs.declared.tokens.Word.{Word}
use Rattle.kotlin_tree.specs.declared.tokens.Word.TheVariants as o
use Rattle.kotlin_tree.specs.declared.tokens.TokenKind.{TokenKind}
use Rattle.kotlin_tree.specs.declared.tokens.TokenKind.TheVariants as q
use Rattle.kotlin_tree.specs.declared.places.Position.{Position}
use Rattle.kotlin_tree.specs.Spellings.{keyword_text, word_text}
use Rattle.kotlin_keywords.specs.declared.words.WordKind.{WordKind}
use Rattle.kotlin_keywords.specs.declared.words.WordKind.TheVariants as row
use Rattle.kotlin_keywords.specs.Words.{Entry, keywords, soft_words, beside, or_else, word_kind}
use Rattle.kotlin_words.specs.Words.{hard_keywords, contains_word}
use Rattle.kotlin_characters.specs.declared.letters.Cursor.{Cursor}
use Rattle.kotlin_characters.specs.Letters.{Letters, letter, past, start}
use Rattle.kotlin_characters.specs.Scans.{head, drop_while}
use Rattle.kotlin_lexer.specs.declared.found.Code.TheVariants as code
use Rattle.kotlin_lexer.specs.Found.{token, fault}
use Rattle.kotlin_lexer.specs.Numbers.{is_digit}
use Rattle.kotlin_lexer.specs.Names.{is_start, is_continue, name_of, is_named, word_rest, word_token, word_piece, quoted_name, quoted_piece}
use Rattle.kotlin_lexer.specs.Pieces.{is_blank, is_line_end, piece_of, quoted_token, token_piece}
use Rattle.kotlin_layout.specs.Names.{is_quoted, is_keyword, is_odd, other_keywords, is_past_ascii, is_underscore, name_text}
use Rattle.kotlin_canonical_text.specs.Tokens.{name_token, word_by}
use Rattle.kotlin_lexed_text.specs.Lexable.{IsIdentifier, first_of, ends_word}
use Rattle.kotlin_lexed_text.proofs.Bytes.{Agrees, Decodes, T, character_there, low_there, is_low, both}

abbrev pub Reads : Cursor → List ℕ → List ℕ → TokenKind → Type 0
Reads p text bs x = (r : Cursor) × (piece_of (T p (text ++ bs)) ≡ token x p.position (T r bs))

least : (a b d : Bool) → 0 < cond a 1 (cond b 2 (cond d 3 4))
least true b d = omega arith
least false true d = omega arith
least false false true = omega arith
least false false false = omega arith

pub some_bytes : (c : ℕ) → 0 < length (encode_utf8 c)
some_bytes c = subst (λ n. 0 < n) (sym (length-encode c)) (least (nat_lt c 0x80) (nat_lt c 0x800) (nat_lt c 0x1_0000))

-- ---- the rest of a word

-- another character than `_` stands among these
abbrev pub named_by : Bool → List ℕ → Bool
named_by so_far [] = so_far
named_by so_far (c ∷ cs) = named_by (so_far || not (c == 95)) cs

record Rest (cs bs : List ℕ) (p : Cursor) : Type 0 where
  at : Cursor
  name : name_of (T p (encode_utf8_all cs ++ bs)) ≡ encode_utf8_all cs
  rest : word_rest (T p (encode_utf8_all cs ++ bs)) ≡ T at bs
  named : (so_far : Bool) → is_named so_far (T p (encode_utf8_all cs ++ bs)) ≡ named_by so_far cs

is_no : (b : Bool) → not b ≡ true → b ≡ false
is_no true h = absurd (cc h)
is_no false h = refl

no_more : (b : ℕ) → (nat_lt b 128 && not (is_ascii_alphanumeric b || (b == 95))) ≡ true → is_continue b ≡ false
no_more b h =
    let k = both (nat_lt b 128) (not (is_ascii_alphanumeric b || (b == 95))) h in
    is_xid_continue-ascii b (is_low b k.0) ∙ is_no (is_ascii_alphanumeric b || (b == 95)) k.1

word_ends : (bs : List ℕ) (p : Cursor) → ends_word (first_of bs None) ≡ true → Rest [] bs p
word_ends [] p h = record { at = p; name = refl; rest = refl; named = λ s. refl }
word_ends (b ∷ bs) p h =
    let k = both (nat_lt b 128) (not (is_ascii_alphanumeric b || (b == 95))) h in
    let t = low_there b bs p k.0 in
    let n = no_more b h in
    let u = letter b p.position (T (past p b) bs) in
    record {
      at = p;
      name = ap name_of t ∙ ap (λ z. if z then encode_utf8 b ++ name_of (T (past p b) bs) else []) n;
      rest = ap word_rest t ∙ ap (λ z. if z then drop_while is_continue (T (past p b) bs) else u) n ∙ sym t;
      named = λ s. ap (is_named s) t ∙ ap (λ z. if z then is_named (s || not (b == 95)) (T (past p b) bs) else s) n;
    }

rest_read : Decodes → (cs bs : List ℕ) (p : Cursor) → all_scalars cs ≡ true → list_all is_continue cs ≡ true → ends_word (first_of bs None) ≡ true → Rest cs bs p
rest_read decodes [] bs p s c h = word_ends bs p h
rest_read decodes (c ∷ cs) bs p s g h =
    let k = both (scalar c) (all_scalars cs) s in
    let i = both (is_continue c) (list_all is_continue cs) g in
    let r = rest_read decodes cs bs (past p c) k.1 i.1 h in
    let u = T (past p c) (encode_utf8_all cs ++ bs) in
    let t : T p (encode_utf8_all (c ∷ cs) ++ bs) ≡ letter c p.position u = ap (T p) (append_assoc (encode_utf8 c) (encode_utf8_all cs) bs) ∙ character_there decodes c (encode_utf8_all cs ++ bs) p k.0 (some_bytes c) in
    record {
      at = r.at;
      name = ap name_of t ∙ ap (λ z. if z then encode_utf8 c ++ name_of u else []) i.0 ∙ ap (λ z. encode_utf8 c ++ z) r.name;
      rest = ap word_rest t ∙ ap (λ z. if z then drop_while is_continue u else letter c p.position u) i.0 ∙ r.rest;
      named = λ s. ap (is_named s) t ∙ ap (λ z. if z then is_named (s || not (c == 95)) u else s) i.0 ∙ r.named (s || not (c == 95));
    }

-- ---- the first character of a word

same_number : (c k : ℕ) → (c == k) ≡ true → c ≡ k
same_number c k h = grind (arith, nat_tests)

start_by : (b : Bool) (c k : ℕ) → (c == k) ≡ b → is_start c ≡ true → is_start k ≡ false → b ≡ false
start_by true c k e h i = let bad : true ≡ false = sym h ∙ ap is_start (same_number c k e) ∙ i in absurd (cc bad)
start_by false c k e h i = refl

start_not : (c k : ℕ) → is_start c ≡ true → is_start k ≡ false → (c == k) ≡ false
start_not c k h i = start_by (c == k) c k refl h i

or_no : (a b : Bool) → a ≡ false → b ≡ false → (a || b) ≡ false
or_no a b h i = ap (λ z. z || b) h ∙ i

and_no : (a b : Bool) → a ≡ false → (a && b) ≡ false
and_no a b h = ap (λ z. z && b) h

le_no : (a c : ℕ) → c < a → nat_le a c ≡ false
le_no a c h = grind (arith, nat_tests)

eq_no : (a c : ℕ) → c < a → (c == a) ≡ false
eq_no a c h = grind (arith, nat_tests)

no_digit : (c : ℕ) → c ≤ 57 → ((c == 95) || is_ascii_alphabetic c) ≡ true → ⊥
no_digit c hi h =
    let no : ((c == 95) || is_ascii_alphabetic c) ≡ false =
    or_no (c == 95) (is_ascii_alphabetic c) (eq_no 95 c (omega (arith, hi)))
    (or_no (nat_le 65 c && nat_le c 90) (nat_le 97 c && nat_le c 122) (and_no (nat_le 65 c) (nat_le c 90) (le_no 65 c (omega (arith, hi)))) (and_no (nat_le 97 c) (nat_le c 122) (le_no 97 c (omega (arith, hi))))) in
    let bad : true ≡ false = sym h ∙ no in cc bad

le_is : (c n : ℕ) → nat_le c n ≡ true → c ≤ n
le_is c n h = grind (arith, nat_tests)

digit_by : (b : Bool) (c : ℕ) → is_digit c ≡ b → is_start c ≡ true → b ≡ false
digit_by true c e h =
    let k = both (nat_le 48 c) (nat_le c 57) e in
    let hi : c ≤ 57 = le_is c 57 k.1 in
    let low : c < 128 = omega (arith, hi) in
    let bad : ((c == 95) || is_ascii_alphabetic c) ≡ true = ap (λ z. (c == 95) || z) (sym (is_xid_start-ascii c low)) ∙ h in
    absurd (no_digit c hi bad)
digit_by false c e h = refl

digit_not : (c : ℕ) → is_start c ≡ true → is_digit c ≡ false
digit_not c h = digit_by (is_digit c) c refl h

if_true : {A : Type 0} (v : Bool) (x z : A) → v ≡ true → (if v then x else z) ≡ x
if_true true x z h = refl
if_true false x z h = absurd (cc h)

if_false : {A : Type 0} (v : Bool) (x z : A) → v ≡ false → (if v then x else z) ≡ z
if_false true x z h = absurd (cc h)
if_false false x z h = refl

word_first : (c : ℕ) (p : Position) (rest : Letters) → is_start c ≡ true → piece_of (letter c p rest) ≡ word_piece p c rest
unfolding piece_of quoted_token token_piece unicode_ident
word_first c p rest h =
    if_false (is_blank c) _ _ (or_no (c == 32) ((c == 9) || (c == 12)) (start_not c 32 h refl) (or_no (c == 9) (c == 12) (start_not c 9 h refl) (start_not c 12 h refl)))
    ∙ if_false (is_line_end c) _ _ (or_no (c == 10) (c == 13) (start_not c 10 h refl) (start_not c 13 h refl))
    ∙ if_false (c == 59) _ _ (start_not c 59 h refl) ∙ if_false (c == 47) _ _ (start_not c 47 h refl) ∙ if_false (c == 34) _ _ (start_not c 34 h refl)
    ∙ if_false (c == 39) _ _ (start_not c 39 h refl) ∙ if_false (c == 96) _ _ (start_not c 96 h refl) ∙ if_false (is_digit c) _ _ (digit_not c h) ∙ if_true (is_start c) _ _ h

pub word_reads : Decodes → (n : List ℕ) (id : IsIdentifier n) (p : Cursor) (bs : List ℕ) → ends_word (first_of bs None) ≡ true
    → (r : Cursor) × (piece_of (T p (n ++ bs)) ≡ word_token (word_kind n) (named_by (not (id.first == 95)) id.more) p.position n (T r bs))
unfolding word_piece
word_reads decodes n id p bs h =
    let c = id.first in
    let k = both (scalar c) (all_scalars id.more) id.scalars in
    let r = rest_read decodes id.more bs (past p c) k.1 id.goes_on h in
    let u = T (past p c) (encode_utf8_all id.more ++ bs) in
    let t : T p (n ++ bs) ≡ letter c p.position u =
    ap (λ z. T p (z ++ bs)) id.bytes ∙ ap (T p) (append_assoc (encode_utf8 c) (encode_utf8_all id.more) bs) ∙ character_there decodes c (encode_utf8_all id.more ++ bs) p k.0 (some_bytes c) in (
      r.at,
      ap piece_of t ∙ word_first c p.position u id.starts
          ∙ ap (λ z. word_token (word_kind (encode_utf8 c ++ z)) (is_named (not (c == 95)) u) p.position (encode_utf8 c ++ z) (word_rest u)) r.name
          ∙ ap (λ z. word_token (word_kind (encode_utf8_all (c ∷ id.more))) z p.position (encode_utf8_all (c ∷ id.more)) (word_rest u)) (r.named (not (c == 95)))
          ∙ ap (λ z. word_token (word_kind (encode_utf8_all (c ∷ id.more))) (named_by (not (c == 95)) id.more) p.position (encode_utf8_all (c ∷ id.more)) z) r.rest
          ∙ ap (λ z. word_token (word_kind z) (named_by (not (c == 95)) id.more) p.position z (T r.at bs)) (sym id.bytes),
    )

-- ---- keywords and words

word_as : Decodes → (n : List ℕ) (k : WordKind) (x : TokenKind) → word_kind n ≡ Some k → ((p : Position) (some : Bool) (t : Letters) → word_token (Some k) some p n t ≡ token x p t) → IsIdentifier n
    → (p : Cursor) (bs : List ℕ) → ends_word (first_of bs None) ≡ true → Reads p n bs x
word_as decodes n k x is told id p bs h =
    let r = word_reads decodes n id p bs h in
    (r.0, r.1 ∙ ap (λ z. word_token z (named_by (not (id.first == 95)) id.more) p.position n (T r.0 bs)) is ∙ told p.position (named_by (not (id.first == 95)) id.more) (T r.0 bs))

keyword_identifier : (x : Keyword) → IsIdentifier (keyword_text x)
unfolding unicode_ident encode
keyword_identifier h.As = record { first = 97; more = 115 ∷ []; bytes = refl; scalars = refl; starts = refl; goes_on = refl }
keyword_identifier h.Break = record { first = 98; more = 114 ∷ 101 ∷ 97 ∷ 107 ∷ []; bytes = refl; scalars = refl; starts = refl; goes_on = refl }
keyword_identifier h.Class = record { first = 99; more = 108 ∷ 97 ∷ 115 ∷ 115 ∷ []; bytes = refl; scalars = refl; starts = refl; goes_on = refl }
keyword_identifier h.Continue = record { first = 99; more = 111 ∷ 110 ∷ 116 ∷ 105 ∷ 110 ∷ 117 ∷ 101 ∷ []; bytes = refl; scalars = refl; starts = refl; goes_on = refl }
keyword_identifier h.Do = record { first = 100; more = 111 ∷ []; bytes = refl; scalars = refl; starts = refl; goes_on = refl }
keyword_identifier h.Else = record { first = 101; more = 108 ∷ 115 ∷ 101 ∷ []; bytes = refl; scalars = refl; starts = refl; goes_on = refl }
keyword_identifier h.False = record { first = 102; more = 97 ∷ 108 ∷ 115 ∷ 101 ∷ []; bytes = refl; scalars = refl; starts = refl; goes_on = refl }
keyword_identifier h.For = record { first = 102; more = 111 ∷ 114 ∷ []; bytes = refl; scalars = refl; starts = refl; goes_on = refl }
keyword_identifier h.Fun = record { first = 102; more = 117 ∷ 110 ∷ []; bytes = refl; scalars = refl; starts = refl; goes_on = refl }
keyword_identifier h.If = record { first = 105; more = 102 ∷ []; bytes = refl; scalars = refl; starts = refl; goes_on = refl }
keyword_identifier h.In = record { first = 105; more = 110 ∷ []; bytes = refl; scalars = refl; starts = refl; goes_on = refl }
keyword_identifier h.Interface = record { first = 105; more = 110 ∷ 116 ∷ 101 ∷ 114 ∷ 102 ∷ 97 ∷ 99 ∷ 101 ∷ []; bytes = refl; scalars = refl; starts = refl; goes_on = refl }
keyword_identifier h.Is = record { first = 105; more = 115 ∷ []; bytes = refl; scalars = refl; starts = refl; goes_on = refl }
keyword_identifier h.Null = record { first = 110; more = 117 ∷ 108 ∷ 108 ∷ []; bytes = refl; scalars = refl; starts = refl; goes_on = refl }
keyword_identifier h.Object = record { first = 111; more = 98 ∷ 106 ∷ 101 ∷ 99 ∷ 116 ∷ []; bytes = refl; scalars = refl; starts = refl; goes_on = refl }
keyword_identifier h.Package = record { first = 112; more = 97 ∷ 99 ∷ 107 ∷ 97 ∷ 103 ∷ 101 ∷ []; bytes = refl; scalars = refl; starts = refl; goes_on = refl }
keyword_identifier h.Return = record { first = 114; more = 101 ∷ 116 ∷ 117 ∷ 114 ∷ 110 ∷ []; bytes = refl; scalars = refl; starts = refl; goes_on = refl }
keyword_identifier h.Super = record { first = 115; more = 117 ∷ 112 ∷ 101 ∷ 114 ∷ []; bytes = refl; scalars = refl; starts = refl; goes_on = refl }
keyword_identifier h.This = record { first = 116; more = 104 ∷ 105 ∷ 115 ∷ []; bytes = refl; scalars = refl; starts = refl; goes_on = refl }
keyword_identifier h.Throw = record { first = 116; more = 104 ∷ 114 ∷ 111 ∷ 119 ∷ []; bytes = refl; scalars = refl; starts = refl; goes_on = refl }
keyword_identifier h.True = record { first = 116; more = 114 ∷ 117 ∷ 101 ∷ []; bytes = refl; scalars = refl; starts = refl; goes_on = refl }
keyword_identifier h.Try = record { first = 116; more = 114 ∷ 121 ∷ []; bytes = refl; scalars = refl; starts = refl; goes_on = refl }
keyword_identifier h.Typealias = record { first = 116; more = 121 ∷ 112 ∷ 101 ∷ 97 ∷ 108 ∷ 105 ∷ 97 ∷ 115 ∷ []; bytes = refl; scalars = refl; starts = refl; goes_on = refl }
keyword_identifier h.Typeof = record { first = 116; more = 121 ∷ 112 ∷ 101 ∷ 111 ∷ 102 ∷ []; bytes = refl; scalars = refl; starts = refl; goes_on = refl }
keyword_identifier h.Val = record { first = 118; more = 97 ∷ 108 ∷ []; bytes = refl; scalars = refl; starts = refl; goes_on = refl }
keyword_identifier h.Var = record { first = 118; more = 97 ∷ 114 ∷ []; bytes = refl; scalars = refl; starts = refl; goes_on = refl }
keyword_identifier h.When = record { first = 119; more = 104 ∷ 101 ∷ 110 ∷ []; bytes = refl; scalars = refl; starts = refl; goes_on = refl }
keyword_identifier h.While = record { first = 119; more = 104 ∷ 105 ∷ 108 ∷ 101 ∷ []; bytes = refl; scalars = refl; starts = refl; goes_on = refl }

keyword_kind : (x : Keyword) → word_kind (keyword_text x) ≡ Some (row.Keyword x)
unfolding keywords soft_words
keyword_kind h.As = refl
keyword_kind h.Break = refl
keyword_kind h.Class = refl
keyword_kind h.Continue = refl
keyword_kind h.Do = refl
keyword_kind h.Else = refl
keyword_kind h.False = refl
keyword_kind h.For = refl
keyword_kind h.Fun = refl
keyword_kind h.If = refl
keyword_kind h.In = refl
keyword_kind h.Interface = refl
keyword_kind h.Is = refl
keyword_kind h.Null = refl
keyword_kind h.Object = refl
keyword_kind h.Package = refl
keyword_kind h.Return = refl
keyword_kind h.Super = refl
keyword_kind h.This = refl
keyword_kind h.Throw = refl
keyword_kind h.True = refl
keyword_kind h.Try = refl
keyword_kind h.Typealias = refl
keyword_kind h.Typeof = refl
keyword_kind h.Val = refl
keyword_kind h.Var = refl
keyword_kind h.When = refl
keyword_kind h.While = refl

word_identifier : (x : Word) → IsIdentifier (word_text x)
unfolding unicode_ident encode
word_identifier o.Abstract = record { first = 97; more = 98 ∷ 115 ∷ 116 ∷ 114 ∷ 97 ∷ 99 ∷ 116 ∷ []; bytes = refl; scalars = refl; starts = refl; goes_on = refl }
word_identifier o.And = record { first = 97; more = 110 ∷ 100 ∷ []; bytes = refl; scalars = refl; starts = refl; goes_on = refl }
word_identifier o.Catch = record { first = 99; more = 97 ∷ 116 ∷ 99 ∷ 104 ∷ []; bytes = refl; scalars = refl; starts = refl; goes_on = refl }
word_identifier o.Companion = record { first = 99; more = 111 ∷ 109 ∷ 112 ∷ 97 ∷ 110 ∷ 105 ∷ 111 ∷ 110 ∷ []; bytes = refl; scalars = refl; starts = refl; goes_on = refl }
word_identifier o.Const = record { first = 99; more = 111 ∷ 110 ∷ 115 ∷ 116 ∷ []; bytes = refl; scalars = refl; starts = refl; goes_on = refl }
word_identifier o.Constructor = record { first = 99; more = 111 ∷ 110 ∷ 115 ∷ 116 ∷ 114 ∷ 117 ∷ 99 ∷ 116 ∷ 111 ∷ 114 ∷ []; bytes = refl; scalars = refl; starts = refl; goes_on = refl }
word_identifier o.Finally = record { first = 102; more = 105 ∷ 110 ∷ 97 ∷ 108 ∷ 108 ∷ 121 ∷ []; bytes = refl; scalars = refl; starts = refl; goes_on = refl }
word_identifier o.Import = record { first = 105; more = 109 ∷ 112 ∷ 111 ∷ 114 ∷ 116 ∷ []; bytes = refl; scalars = refl; starts = refl; goes_on = refl }
word_identifier o.Init = record { first = 105; more = 110 ∷ 105 ∷ 116 ∷ []; bytes = refl; scalars = refl; starts = refl; goes_on = refl }
word_identifier o.Java = record { first = 106; more = 97 ∷ 118 ∷ 97 ∷ []; bytes = refl; scalars = refl; starts = refl; goes_on = refl }
word_identifier o.JvmField = record { first = 74; more = 118 ∷ 109 ∷ 70 ∷ 105 ∷ 101 ∷ 108 ∷ 100 ∷ []; bytes = refl; scalars = refl; starts = refl; goes_on = refl }
word_identifier o.JvmStatic = record { first = 74; more = 118 ∷ 109 ∷ 83 ∷ 116 ∷ 97 ∷ 116 ∷ 105 ∷ 99 ∷ []; bytes = refl; scalars = refl; starts = refl; goes_on = refl }
word_identifier o.Open = record { first = 111; more = 112 ∷ 101 ∷ 110 ∷ []; bytes = refl; scalars = refl; starts = refl; goes_on = refl }
word_identifier o.Or = record { first = 111; more = 114 ∷ []; bytes = refl; scalars = refl; starts = refl; goes_on = refl }
word_identifier o.Override = record { first = 111; more = 118 ∷ 101 ∷ 114 ∷ 114 ∷ 105 ∷ 100 ∷ 101 ∷ []; bytes = refl; scalars = refl; starts = refl; goes_on = refl }
word_identifier o.Private = record { first = 112; more = 114 ∷ 105 ∷ 118 ∷ 97 ∷ 116 ∷ 101 ∷ []; bytes = refl; scalars = refl; starts = refl; goes_on = refl }
word_identifier o.Run = record { first = 114; more = 117 ∷ 110 ∷ []; bytes = refl; scalars = refl; starts = refl; goes_on = refl }
word_identifier o.Set = record { first = 115; more = 101 ∷ 116 ∷ []; bytes = refl; scalars = refl; starts = refl; goes_on = refl }
word_identifier o.Shl = record { first = 115; more = 104 ∷ 108 ∷ []; bytes = refl; scalars = refl; starts = refl; goes_on = refl }
word_identifier o.Shr = record { first = 115; more = 104 ∷ 114 ∷ []; bytes = refl; scalars = refl; starts = refl; goes_on = refl }
word_identifier o.SynchronizedBlock = record { first = 115; more = 121 ∷ 110 ∷ 99 ∷ 104 ∷ 114 ∷ 111 ∷ 110 ∷ 105 ∷ 122 ∷ 101 ∷ 100 ∷ []; bytes = refl; scalars = refl; starts = refl; goes_on = refl }
word_identifier o.SynchronizedMethod = record { first = 83; more = 121 ∷ 110 ∷ 99 ∷ 104 ∷ 114 ∷ 111 ∷ 110 ∷ 105 ∷ 122 ∷ 101 ∷ 100 ∷ []; bytes = refl; scalars = refl; starts = refl; goes_on = refl }
word_identifier o.Until = record { first = 117; more = 110 ∷ 116 ∷ 105 ∷ 108 ∷ []; bytes = refl; scalars = refl; starts = refl; goes_on = refl }
word_identifier o.Ushr = record { first = 117; more = 115 ∷ 104 ∷ 114 ∷ []; bytes = refl; scalars = refl; starts = refl; goes_on = refl }
word_identifier o.Volatile = record { first = 86; more = 111 ∷ 108 ∷ 97 ∷ 116 ∷ 105 ∷ 108 ∷ 101 ∷ []; bytes = refl; scalars = refl; starts = refl; goes_on = refl }
word_identifier o.Xor = record { first = 120; more = 111 ∷ 114 ∷ []; bytes = refl; scalars = refl; starts = refl; goes_on = refl }

word_is : (x : Word) → word_kind (word_text x) ≡ Some (row.Word x)
unfolding keywords soft_words
word_is o.Abstract = refl
word_is o.And = refl
word_is o.Catch = refl
word_is o.Companion = refl
word_is o.Const = refl
word_is o.Constructor = refl
word_is o.Finally = refl
word_is o.Import = refl
word_is o.Init = refl
word_is o.Java = refl
word_is o.JvmField = refl
word_is o.JvmStatic = refl
word_is o.Open = refl
word_is o.Or = refl
word_is o.Override = refl
word_is o.Private = refl
word_is o.Run = refl
word_is o.Set = refl
word_is o.Shl = refl
word_is o.Shr = refl
word_is o.SynchronizedBlock = refl
word_is o.SynchronizedMethod = refl
word_is o.Until = refl
word_is o.Ushr = refl
word_is o.Volatile = refl
word_is o.Xor = refl

pub keyword_reads : Decodes → (x : Keyword) (p : Cursor) (bs : List ℕ) → ends_word (first_of bs None) ≡ true → Reads p (keyword_text x) bs (q.Keyword x)
keyword_reads decodes x p bs h = word_as decodes (keyword_text x) (row.Keyword x) (q.Keyword x) (keyword_kind x) (λ p some t. refl) (keyword_identifier x) p bs h

pub word_text_reads : Decodes → (x : Word) (p : Cursor) (bs : List ℕ) → ends_word (first_of bs None) ≡ true → Reads p (word_text x) bs (q.Word x)
word_text_reads decodes x p bs h = word_as decodes (word_text x) (row.Word x) (q.Word x) (word_is x) (λ p some t. refl) (word_identifier x) p bs h

-- ---- names without backticks

either_no : (b c : Bool) → (b || c) ≡ false → (b ≡ false) × (c ≡ false)
either_no true c h = absurd (cc h)
either_no false c h = (refl, h)

-- a keyword among these is one of the hard keywords
abbrev AllHard : List Entry → Type 0
AllHard [] = Unit {0}
AllHard ((n, row.Keyword x) ∷ xs) = (contains_word hard_keywords n ≡ true) × AllHard xs
AllHard ((n, row.Word x) ∷ xs) = AllHard xs

hard_by : (b : Bool) (n : List ℕ) (k : WordKind) (xs : List Entry) (m : List ℕ) (x : Keyword) → bytes_eq n m ≡ b → AllHard ((n, k) ∷ xs) → ((AllHard xs) → beside m xs ≡ Some (row.Keyword x) → contains_word hard_keywords m ≡ true)
    → option_map (λ (row : Entry). row.1) (cond b (Some (n, k)) (find (λ (row : Entry). bytes_eq row.0 m) xs)) ≡ Some (row.Keyword x) → contains_word hard_keywords m ≡ true
hard_by true n (row.Keyword y) xs m x is all more h = subst (λ z. contains_word hard_keywords z ≡ true) ((bytes_eq-Decides n m).0 is) all.0
hard_by true n (row.Word y) xs m x is all more h = absurd (cc h)
hard_by false n (row.Keyword y) xs m x is all more h = more all.1 h
hard_by false n (row.Word y) xs m x is all more h = more all h

hard_found : (xs : List Entry) (m : List ℕ) (x : Keyword) → AllHard xs → beside m xs ≡ Some (row.Keyword x) → contains_word hard_keywords m ≡ true
hard_found [] m x all h = absurd (cc h)
hard_found ((n, k) ∷ xs) m x all h = hard_by (bytes_eq n m) n k xs m x refl all (λ a i. hard_found xs m x a i) h

keywords_hard : AllHard keywords
unfolding keywords hard_keywords
keywords_hard = (refl, (refl, (refl, (refl, (refl, (refl, (refl, (refl, (refl, (refl, (refl, (refl, (refl, (refl, (refl, (refl, (refl, (refl, (refl, (refl, (refl, (refl, (refl, (refl, (refl, (refl, (refl, (refl, tt))))))))))))))))))))))))))))

words_hard : AllHard soft_words
unfolding soft_words
words_hard = tt

or_hard : (a b : Option WordKind) (m : List ℕ) (x : Keyword) → (a ≡ Some (row.Keyword x) → contains_word hard_keywords m ≡ true) → (b ≡ Some (row.Keyword x) → contains_word hard_keywords m ≡ true)
    → or_else a b ≡ Some (row.Keyword x) → contains_word hard_keywords m ≡ true
or_hard None b m x f g h = g h
or_hard (Some k) b m x f g h = f h

no_keyword : (m : List ℕ) (x : Keyword) → word_kind m ≡ Some (row.Keyword x) → contains_word hard_keywords m ≡ true
no_keyword m x h = or_hard (beside m keywords) (beside m soft_words) m x (hard_found keywords m x keywords_hard) (hard_found soft_words m x words_hard) h

under_all : (xs ys : List ℕ) → list_all is_underscore xs ≡ true → list_all is_underscore ys ≡ true → list_all is_underscore (xs ++ ys) ≡ true
under_all [] ys h i = i
under_all (x ∷ xs) ys h i = let k = both (is_underscore x) (list_all is_underscore xs) h in ap (λ z. z && list_all is_underscore (xs ++ ys)) k.0 ∙ under_all xs ys k.1 i

under_one : (c : ℕ) → not (c == 95) ≡ false → list_all is_underscore (encode_utf8 c) ≡ true
unfolding encode
under_one c h = let e : c ≡ 95 = same_number c 95 (not_no (c == 95) h) in subst (λ z. list_all is_underscore (encode_utf8 z) ≡ true) (sym e) refl
  where
    not_no : (b : Bool) → not b ≡ false → b ≡ true
    not_no true h = refl
    not_no false h = absurd (cc h)

named_under : (so_far : Bool) (cs : List ℕ) → named_by so_far cs ≡ false → (so_far ≡ false) × (list_all is_underscore (encode_utf8_all cs) ≡ true)
named_under so_far [] h = (h, refl)
named_under so_far (c ∷ cs) h =
    let r = named_under (so_far || not (c == 95)) cs h in
    let k = either_no so_far (not (c == 95)) r.0 in
    (k.0, under_all (encode_utf8 c) (encode_utf8_all cs) (under_one c k.1) r.1)

named_true : (b : Bool) (n : List ℕ) (id : IsIdentifier n) → named_by (not (id.first == 95)) id.more ≡ b → list_all is_underscore n ≡ false → b ≡ true
named_true true n id h is = refl
named_true false n id h is =
    let r = named_under (not (id.first == 95)) id.more h in
    let bad : true ≡ false = sym (ap (list_all is_underscore) id.bytes ∙ under_all (encode_utf8 id.first) (encode_utf8_all id.more) (under_one id.first r.0) r.1) ∙ is in
    absurd (cc bad)

name_told : (k : Option WordKind) (some : Bool) (p : Position) (n : List ℕ) (t : Letters) → some ≡ true → ((x : Keyword) → k ≡ Some (row.Keyword x) → ⊥) → word_token k some p n t ≡ token (word_by n k) p t
name_told None true p n t is never = refl
name_told None false p n t is never = absurd (cc is)
name_told (Some (row.Word x)) some p n t is never = refl
name_told (Some (row.Keyword x)) some p n t is never = absurd (never x refl)

bare_reads : Decodes → (n : List ℕ) → IsIdentifier n → is_quoted n ≡ false → (p : Cursor) (bs : List ℕ) → ends_word (first_of bs None) ≡ true → Reads p n bs (word_by n (word_kind n))
bare_reads decodes n id bare p bs h =
    let a = either_no (is_keyword n) (is_odd n) bare in
    let b = either_no (contains_word hard_keywords n) (contains_word other_keywords n) a.0 in
    let d = either_no (list_any is_past_ascii n) (list_all is_underscore n) a.1 in
    let r = word_reads decodes n id p bs h in (
      r.0,
      r.1 ∙ name_told (word_kind n) (named_by (not (id.first == 95)) id.more) p.position n (T r.0 bs) (named_true (named_by (not (id.first == 95)) id.more) n id refl d.1)
          (λ x is. let bad : true ≡ false = sym (no_keyword n x is) ∙ b.0 in cc bad),
    )

-- ---- names in backticks

quoted_reads : Decodes → (n : List ℕ) → IsIdentifier n → (p : Cursor) (bs : List ℕ) → Reads p (codes "`" ++ n ++ codes "`") bs (q.Name n)
unfolding piece_of quoted_token quoted_piece
quoted_reads decodes n id p bs =
    let c = id.first in
    let s = past p 96 in
    let k = both (scalar c) (all_scalars id.more) id.scalars in
    let r = rest_read decodes id.more (96 ∷ bs) (past s c) k.1 id.goes_on refl in
    let u = T (past s c) (encode_utf8_all id.more ++ 96 ∷ bs) in
    let a : T p ((codes "`" ++ n ++ codes "`") ++ bs) ≡ letter 96 p.position (T s (n ++ 96 ∷ bs)) = low_there 96 ((n ++ codes "`") ++ bs) p refl ∙ ap (λ z. letter 96 p.position (T s z)) (append_assoc n (codes "`") bs) in
    let t : T s (n ++ 96 ∷ bs) ≡ letter c s.position u =
    ap (λ z. T s (z ++ 96 ∷ bs)) id.bytes ∙ ap (T s) (append_assoc (encode_utf8 c) (encode_utf8_all id.more) (96 ∷ bs)) ∙ character_there decodes c (encode_utf8_all id.more ++ 96 ∷ bs) s k.0 (some_bytes c) in
    let e : T r.at (96 ∷ bs) ≡ letter 96 r.at.position (T (past r.at 96) bs) = low_there 96 bs r.at refl in (
      past r.at 96,
      ap piece_of a ∙ ap (quoted_piece p.position) t
          ∙ ap (λ z. if z then quoted_name p.position (encode_utf8 c ++ name_of u) (word_rest u) else fault code.Character p.position (letter c s.position u)) id.starts
          ∙ ap (λ z. quoted_name p.position (encode_utf8 c ++ z) (word_rest u)) r.name
          ∙ ap (quoted_name p.position (encode_utf8_all (c ∷ id.more))) (r.rest ∙ e)
          ∙ ap (λ z. token (q.Name z) p.position (T (past r.at 96) bs)) (sym id.bytes),
    )

name_by : Decodes → (b : Bool) (n : List ℕ) → IsIdentifier n → is_quoted n ≡ b → (p : Cursor) (bs : List ℕ) → (if b then true else ends_word (first_of bs None)) ≡ true
    → Reads p (if b then codes "`" ++ n ++ codes "`" else n) bs (if b then q.Name n else word_by n (word_kind n))
name_by decodes true n id is p bs h = quoted_reads decodes n id p bs
name_by decodes false n id is p bs h = bare_reads decodes n id is p bs h

pub name_reads : Decodes → (n : List ℕ) → IsIdentifier n → (p : Cursor) (bs : List ℕ) → (if is_quoted n then true else ends_word (first_of bs None)) ≡ true → Reads p (name_text n) bs (name_token n)
unfolding name_text name_token
name_reads decodes n id p bs h = name_by decodes (is_quoted n) n id refl p bs h

-- ---- with what a name begins

same_letter : (c d : ℕ) (p r : Position) (t u : Letters) → letter c p t ≡ letter d r u → c ≡ d
same_letter c d p r t u h = ap head h

no_more_bytes : (xs ys : List ℕ) → 0 < length xs → (xs ++ ys) ≡ [] → ⊥
no_more_bytes [] ys h e = omega (arith, h)
no_more_bytes (x ∷ xs) ys h e = cc e

no_bytes : (c : ℕ) (ys : List ℕ) → (encode_utf8 c ++ ys) ≡ [] → ⊥
no_bytes c ys e = no_more_bytes (encode_utf8 c) ys (some_bytes c) e

is_low_byte : (d : ℕ) → nat_lt 127 d ≡ false → nat_lt d 128 ≡ true
is_low_byte d h = grind (arith, nat_tests)

bare_front : Decodes → (n c : List ℕ) (id : IsIdentifier n) → list_any is_past_ascii n ≡ false → Agrees (first_of (n ++ c) None) (Some 95)
bare_front decodes [] c id low =
    let bad = sym id.bytes in absurd (no_bytes id.first (encode_utf8_all id.more) bad)
bare_front decodes (d ∷ ds) c id low =
    let a = either_no (is_past_ascii d) (list_any is_past_ascii ds) low in
    let e : nat_lt d 128 ≡ true = is_low_byte d a.0 in
    let k = both (scalar id.first) (all_scalars id.more) id.scalars in
    let t : T start (d ∷ ds) ≡ letter id.first start.position (T (past start id.first) (encode_utf8_all id.more)) =
    ap (T start) id.bytes ∙ character_there decodes id.first (encode_utf8_all id.more) start k.0 (some_bytes id.first) in
    let same : d ≡ id.first = ap head (sym (low_there d ds start e) ∙ t) in
    Agrees.Letter d refl e (subst (λ z. is_start z ≡ true) (sym same) id.starts) refl

name_first_by : Decodes → (v : Bool) (n c : List ℕ) → IsIdentifier n → is_quoted n ≡ v → Agrees (first_of ((if v then codes "`" ++ n ++ codes "`" else n) ++ c) None) (Some (if v then 96 else 95))
name_first_by decodes true n c id is = Agrees.Same refl
name_first_by decodes false n c id is =
    let a = either_no (is_keyword n) (is_odd n) is in
    let b = either_no (list_any is_past_ascii n) (list_all is_underscore n) a.1 in
    bare_front decodes n c id b.0

pub name_front : Decodes → (n c : List ℕ) → IsIdentifier n → Agrees (first_of (name_text n ++ c) None) (Some (if is_quoted n then 96 else 95))
unfolding name_text
name_front decodes n c id = name_first_by decodes (is_quoted n) n c id refl
