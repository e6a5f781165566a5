-- The text of roles is cut into their tokens.
use Rattle.std.proofs.Common.{◌≡◌, ℕ, zero, suc, ◌+◌, ◌-◌, ◌*◌, Bool, true, false, not, List, [], ◌∷◌, ◌++◌, replicate, Option, Some, None, refl, ap, sym, subst, ◌∙◌, append_assoc, arith}
use Rattle.std.proofs.lemmas.List.{append-nil}
use Rattle.std.proofs.lemmas.Bool.Decides.{nat_tests}
use Rattle.std.specs.Prelude.{◌&&◌, ◌==◌, nat_lt, nat_le, if◌then◌else◌, codes}
use Rattle.kotlin_tree.specs.declared.tokens.Gap.{Gap}
use Rattle.kotlin_tree.specs.declared.tokens.Gap.TheVariants as gap
use Rattle.kotlin_tree.specs.declared.tokens.TokenKind.{TokenKind}
use Rattle.kotlin_tree.specs.declared.tokens.TokenKind.TheVariants as q
use Rattle.kotlin_tree.specs.declared.places.Position.{Position}
use Rattle.kotlin_tree.specs.declared.expressions.KLiteral.{KLiteral}
use Rattle.kotlin_tree.specs.declared.expressions.KLiteral.TheVariants as literal
use Rattle.kotlin_tree.specs.declared.tokens.Mark.{Mark}
use Rattle.kotlin_tree.specs.declared.tokens.Mark.TheVariants as m
use Rattle.kotlin_tree.specs.declared.tokens.Keyword.{Keyword}
use Rattle.kotlin_tree.specs.declared.tokens.Keyword.TheVariants as k
use Rattle.kotlin_tree.specs.declared.tokens.Word.{Word}
use Rattle.kotlin_tree.specs.declared.tokens.Word.TheVariants as o
use Rattle.unicode_ident.proofs.Computing.{unicode_ident}
use Rattle.kotlin_lexer.specs.Names.{is_start}
use Rattle.kotlin_tree.specs.Spellings.{mark_text, keyword_text, word_text}
use Rattle.kotlin_characters.specs.declared.letters.Cursor.{Cursor}
use Rattle.kotlin_characters.specs.declared.letters.Ending.TheVariants.{File}
use Rattle.kotlin_characters.specs.Letters.{Letters, letter, stop, past, start, text_of as letters_of, letters}
use Rattle.kotlin_characters.specs.Scans.{drop_while}
use Rattle.kotlin_lexer.specs.declared.found.Piece.{Piece}
use Rattle.kotlin_lexer.specs.declared.found.Piece.TheVariants.{End, Blank, LineEnd, Semicolon, Token}
use Rattle.kotlin_lexer.specs.Found.{Cut, is_last, token, blank}
use Rattle.kotlin_lexer.specs.Nesting.{Open, is_listed, open_behind, behind, bracket, bracket_mark}
use Rattle.kotlin_lexer.specs.declared.nesting.Bracket.TheVariants as b
use Rattle.kotlin_lexer.specs.declared.pieces.Class.TheVariants as classes
use Rattle.kotlin_lexer.specs.Pieces.{piece_of, is_blank, is_in}
use Rattle.kotlin_lexer.specs.Cutting.{Cuts, tokens_of, line_end_gap, Lexes}
use Rattle.kotlin_layout.specs.declared.glyphs.Glyph.TheVariants as g
use Rattle.kotlin_layout.specs.Roles.{Role, Roles}
use Rattle.kotlin_layout.specs.Names.{name_text, literal_text, is_quoted}
use Rattle.kotlin_layout.specs.Layout.{Printed, indentation, laid, laid_role, laid_glyph, text_of}
use Rattle.kotlin_canonical_text.specs.Tokens.{Tokens, token as made_token, tokens, name_token, literal_token, lined}
use Rattle.kotlin_canonical_text.specs.Gaps.{gap_behind}
use Rattle.kotlin_canonical_text.proofs.LawsToCite.{is_ident, name_ident}
use Rattle.kotlin_placeless.specs.Placeless.{placeless_tokens}
use Rattle.kotlin_lexed_text.specs.Lexable.{IsComment, first_of, role_first, front, is_other, ends_mark, ends_word, ends_literal, is_line_end, pairs_by, is_lexable, IsPart, AreParts}
use Rattle.kotlin_lexed_text.proofs.Bytes.{Agrees, Decodes, T, low_there, both}
use Rattle.kotlin_lexed_text.proofs.Comments.{comment_blank}
use Rattle.kotlin_lexed_text.proofs.Literals.{literal_reads, literal_begins}
use Rattle.kotlin_lexed_text.proofs.Marks.{mark_reads}
use Rattle.kotlin_lexed_text.proofs.Words.{keyword_reads, word_text_reads, name_reads, name_front}

-- The text is cut up to its end into tokens that are these but for their places.
pub record Lexed (o : Open) (h : Gap) (t : Letters) (ts : Tokens) : Type 0 where
  pub pieces : List Piece
  pub at : Position
  pub rest : Letters
  pub cuts : Cuts t pieces (End at) rest
  pub are : placeless_tokens (tokens_of o h pieces (End at)) ≡ ts

stopped : (o : Open) (h : Gap) (p : Position) → Lexed o h (stop File p) (made_token q.End h ∷ [])
unfolding piece_of
stopped o h p = record { pieces = []; at = p; rest = stop File p; cuts = (refl, refl); are = refl }

token_more : (o : Open) (h : Gap) (t u : Letters) (x : TokenKind) (p : Position) (ts : Tokens) → piece_of t ≡ token x p u → Lexed (open_behind o x) gap.Plain u ts → Lexed o h t (made_token x h ∷ ts)
token_more o h t u x p ts is l = record { pieces = Token x p ∷ l.pieces; at = l.at; rest = l.rest; cuts = (u, is, refl, l.cuts); are = ap (λ z. made_token x h ∷ z) l.are }

blank_more : (o : Open) (h : Gap) (t u : Letters) (ts : Tokens) → piece_of t ≡ blank u → Lexed o h u ts → Lexed o h t ts
blank_more o h t u ts is l = record { pieces = Blank ∷ l.pieces; at = l.at; rest = l.rest; cuts = (u, is, refl, l.cuts); are = l.are }

semicolon_more : (o : Open) (h : Gap) (t u : Letters) (ts : Tokens) → piece_of t ≡ record { piece = Semicolon; rest = u } → Lexed o gap.Semicolon u ts → Lexed o h t ts
semicolon_more o h t u ts is l = record { pieces = Semicolon ∷ l.pieces; at = l.at; rest = l.rest; cuts = (u, is, refl, l.cuts); are = l.are }

line_gap : (listed : Bool) (h : Gap) → listed ≡ false → (if listed then h else line_end_gap h) ≡ lined h
line_gap true h is = absurd (cc is)
line_gap false gap.Plain is = refl
line_gap false gap.Line is = refl
line_gap false gap.Semicolon is = refl

line_more : (o : Open) (h : Gap) (t u : Letters) (ts : Tokens) → piece_of t ≡ record { piece = LineEnd; rest = u } → is_listed o ≡ false → Lexed o (lined h) u ts → Lexed o h t ts
line_more o h t u ts is free l = record {
  pieces = LineEnd ∷ l.pieces;
  at = l.at;
  rest = l.rest;
  cuts = (u, is, refl, l.cuts);
  are = ap (λ z. placeless_tokens (tokens_of o z l.pieces (End l.at))) (line_gap (is_listed o) h free) ∙ l.are;
}

-- ---- blanks

-- what follows a blank that is one with the blanks behind it
if_true : {A : Type 0} (v : Bool) (x z : A) → v ≡ true → (if v then x else z) ≡ x
if_true true x z h = refl
if_true false x z h = absurd (cc h)

blank_first : (c : ℕ) (r : Position) (t : Letters) → is_blank c ≡ true → piece_of (letter c r t) ≡ blank (drop_while (is_in classes.Blank) t)
unfolding piece_of
blank_first c r t is = if_true (is_blank c) _ _ is

blanks_one : (c : ℕ) (p r : Position) (t : Letters) → is_blank c ≡ true → piece_of (letter 32 p (letter c r t)) ≡ piece_of (letter c r t)
unfolding piece_of
blanks_one c p r t is = ap (λ z. blank (if z then drop_while (is_in classes.Blank) t else letter c r t)) is ∙ sym (blank_first c r t is)

joined_by : (o : Open) (h : Gap) (c : ℕ) (p r : Position) (t : Letters) (ts : Tokens) (ps : List Piece) (e : Position) (rest : Letters) → is_blank c ≡ true
    → Cuts (letter c r t) ps (End e) rest → placeless_tokens (tokens_of o h ps (End e)) ≡ ts → Lexed o h (letter 32 p (letter c r t)) ts
joined_by o h c p r t ts [] e rest is cuts are =
    let bad : true ≡ false = sym cuts.1 ∙ ap (λ (z : Cut). is_last z.piece) (sym cuts.0 ∙ blank_first c r t is) in absurd (cc bad)
joined_by o h c p r t ts (x ∷ ps) e rest is cuts are =
    record { pieces = x ∷ ps; at = e; rest = rest; cuts = (cuts.0, blanks_one c p r t is ∙ cuts.1, cuts.2, cuts.3); are = are }

alone_by : (c : ℕ) (p r : Position) (t : Letters) → is_blank c ≡ false → piece_of (letter 32 p (letter c r t)) ≡ blank (letter c r t)
unfolding piece_of
alone_by c p r t is = ap (λ z. blank (if z then drop_while (is_in classes.Blank) t else letter c r t)) is

space_by : (v : Bool) (o : Open) (h : Gap) (c : ℕ) (p r : Position) (t : Letters) (ts : Tokens) → is_blank c ≡ v → Lexed o h (letter c r t) ts → Lexed o h (letter 32 p (letter c r t)) ts
space_by true o h c p r t ts is l = joined_by o h c p r t ts l.pieces l.at l.rest is l.cuts l.are
space_by false o h c p r t ts is l = blank_more o h (letter 32 p (letter c r t)) (letter c r t) ts (alone_by c p r t is) l

space_more : (o : Open) (h : Gap) (p : Position) (t : Letters) (ts : Tokens) → Lexed o h t ts → Lexed o h (letter 32 p t) ts
unfolding piece_of
space_more o h p (stop e r) ts l = blank_more o h (letter 32 p (stop e r)) (stop e r) ts refl l
space_more o h p (letter c r t) ts l = space_by (is_blank c) o h c p r t ts refl l

-- wherever the text stands
abbrev Anywhere : Open → Gap → List ℕ → Tokens → Type 0
Anywhere o h bs ts = (p : Cursor) → Lexed o h (T p bs) ts

space_there : (o : Open) (h : Gap) (bs : List ℕ) (ts : Tokens) → Anywhere o h bs ts → Anywhere o h (32 ∷ bs) ts
space_there o h bs ts l p = subst (λ z. Lexed o h z ts) (sym (low_there 32 bs p refl)) (space_more o h p.position (T (past p 32) bs) ts (l (past p 32)))

spaces_there : (n : ℕ) (o : Open) (h : Gap) (bs : List ℕ) (ts : Tokens) → Anywhere o h bs ts → Anywhere o h (replicate n 32 ++ bs) ts
spaces_there zero o h bs ts l = l
spaces_there (suc n) o h bs ts l = space_there o h (replicate n 32 ++ bs) ts (spaces_there n o h bs ts l)

line_there : (l : ℕ) (o : Open) (h : Gap) (bs : List ℕ) (ts : Tokens) → is_listed o ≡ false → Anywhere o (lined h) bs ts → Anywhere o h ((10 ∷ indentation l) ++ bs) ts
unfolding piece_of
line_there l o h bs ts free more p =
    let u = T (past p 10) (indentation l ++ bs) in
    line_more o h (T p (10 ∷ (indentation l ++ bs))) u ts (ap piece_of (low_there 10 (indentation l ++ bs) p refl)) free (spaces_there (l * 4) o (lined h) bs ts more (past p 10))

semicolon_there : (o : Open) (h : Gap) (bs : List ℕ) (ts : Tokens) → Anywhere o gap.Semicolon bs ts → Anywhere o h (59 ∷ bs) ts
unfolding piece_of
semicolon_there o h bs ts more p = semicolon_more o h (T p (59 ∷ bs)) (T (past p 59) bs) ts (ap piece_of (low_there 59 bs p refl)) (more (past p 59))

same_number : (c k : ℕ) → (c == k) ≡ true → c ≡ k
same_number c k h = grind (arith, nat_tests)

comment_read : Decodes → (x bs : List ℕ) (p : Cursor) → IsComment x → is_line_end (first_of bs None) ≡ true → (r : Cursor) × (piece_of (T p (x ++ bs)) ≡ blank (T r bs))
comment_read decodes x [] p c h = absurd (cc h)
comment_read decodes x (d ∷ bs) p c h = subst (λ z. (r : Cursor) × (piece_of (T p (x ++ z ∷ bs)) ≡ blank (T r (z ∷ bs)))) (sym (same_number d 10 h)) (comment_blank decodes x c p bs)

-- ---- the text of roles

abbrev pub role_text : ℕ → Role → List ℕ
role_text l (Role.Fixed (g.Mark x)) = mark_text x
role_text l (Role.Fixed (g.Keyword x)) = keyword_text x
role_text l (Role.Fixed (g.Word x)) = word_text x
role_text l (Role.Fixed g.Semicolon) = codes ";"
role_text l (Role.Fixed g.Blank) = codes " "
role_text l (Role.Fixed g.Line) = 10 ∷ indentation l
role_text l (Role.Fixed g.Deeper) = []
role_text l (Role.Fixed g.Shallower) = []
role_text l (Role.Name n) = name_text n
role_text l (Role.Literal x) = literal_text x
role_text l (Role.Comment x) = x

abbrev pub level_behind : ℕ → Role → ℕ
level_behind l (Role.Fixed g.Deeper) = l + 1
level_behind l (Role.Fixed g.Shallower) = l - 1
level_behind l _ = l

-- the text of roles, with so many levels of indentation
unfoldable pub text_behind : ℕ → Roles → List ℕ
text_behind l [] = []
text_behind l (x ∷ xs) = role_text l x ++ text_behind (level_behind l x) xs

laid_one : (x : Role) (a : List ℕ) (l : ℕ) → laid_role x (record { text = a; levels = l }) ≡ record { text = a ++ role_text l x; levels = level_behind l x }
unfolding laid_glyph
laid_one (Role.Fixed (g.Mark x)) a l = refl
laid_one (Role.Fixed (g.Keyword x)) a l = refl
laid_one (Role.Fixed (g.Word x)) a l = refl
laid_one (Role.Fixed g.Semicolon) a l = refl
laid_one (Role.Fixed g.Blank) a l = refl
laid_one (Role.Fixed g.Line) a l = refl
laid_one (Role.Fixed g.Deeper) a l = ap (λ z. record { text = z; levels = l + 1 }) (sym (append-nil a))
laid_one (Role.Fixed g.Shallower) a l = ap (λ z. record { text = z; levels = l - 1 }) (sym (append-nil a))
laid_one (Role.Name n) a l = refl
laid_one (Role.Literal x) a l = refl
laid_one (Role.Comment x) a l = refl

laid_is : (xs : Roles) (a : List ℕ) (l : ℕ) → (laid xs (record { text = a; levels = l })).text ≡ (a ++ text_behind l xs)
unfolding laid text_behind
laid_is [] a l = sym (append-nil a)
laid_is (x ∷ xs) a l =
    ap (λ (z : Printed). (laid xs z).text) (laid_one x a l) ∙ laid_is xs (a ++ role_text l x) (level_behind l x) ∙ append_assoc a (role_text l x) (text_behind (level_behind l x) xs)

text_is : (xs : Roles) → text_of xs ≡ text_behind 0 xs
text_is xs = laid_is xs [] 0

mark_front : (x : Mark) (c : List ℕ) → first_of (mark_text x ++ c) None ≡ first_of (mark_text x) None
mark_front m.OpenRound c = refl
mark_front m.CloseRound c = refl
mark_front m.OpenSquare c = refl
mark_front m.CloseSquare c = refl
mark_front m.OpenCurly c = refl
mark_front m.CloseCurly c = refl
mark_front m.Comma c = refl
mark_front m.Dot c = refl
mark_front m.At c = refl
mark_front m.Question c = refl
mark_front m.Colon c = refl
mark_front m.DoubleColon c = refl
mark_front m.Assign c = refl
mark_front m.Equal c = refl
mark_front m.Identical c = refl
mark_front m.Not c = refl
mark_front m.NotNull c = refl
mark_front m.NotEqual c = refl
mark_front m.NotIdentical c = refl
mark_front m.Plus c = refl
mark_front m.PlusPlus c = refl
mark_front m.Minus c = refl
mark_front m.MinusMinus c = refl
mark_front m.Arrow c = refl
mark_front m.Star c = refl
mark_front m.Slash c = refl
mark_front m.Percent c = refl
mark_front m.AndAnd c = refl
mark_front m.OrOr c = refl
mark_front m.Less c = refl
mark_front m.LessEqual c = refl
mark_front m.Greater c = refl
mark_front m.GreaterEqual c = refl

keyword_front : (x : Keyword) (c : List ℕ) → Agrees (first_of (keyword_text x ++ c) None) (Some 95)
unfolding unicode_ident
keyword_front k.As c = Agrees.Letter 97 refl refl refl refl
keyword_front k.Break c = Agrees.Letter 98 refl refl refl refl
keyword_front k.Class c = Agrees.Letter 99 refl refl refl refl
keyword_front k.Continue c = Agrees.Letter 99 refl refl refl refl
keyword_front k.Do c = Agrees.Letter 100 refl refl refl refl
keyword_front k.Else c = Agrees.Letter 101 refl refl refl refl
keyword_front k.False c = Agrees.Letter 102 refl refl refl refl
keyword_front k.For c = Agrees.Letter 102 refl refl refl refl
keyword_front k.Fun c = Agrees.Letter 102 refl refl refl refl
keyword_front k.If c = Agrees.Letter 105 refl refl refl refl
keyword_front k.In c = Agrees.Letter 105 refl refl refl refl
keyword_front k.Interface c = Agrees.Letter 105 refl refl refl refl
keyword_front k.Is c = Agrees.Letter 105 refl refl refl refl
keyword_front k.Null c = Agrees.Letter 110 refl refl refl refl
keyword_front k.Object c = Agrees.Letter 111 refl refl refl refl
keyword_front k.Package c = Agrees.Letter 112 refl refl refl refl
keyword_front k.Return c = Agrees.Letter 114 refl refl refl refl
keyword_front k.Super c = Agrees.Letter 115 refl refl refl refl
keyword_front k.This c = Agrees.Letter 116 refl refl refl refl
keyword_front k.Throw c = Agrees.Letter 116 refl refl refl refl
keyword_front k.True c = Agrees.Letter 116 refl refl refl refl
keyword_front k.Try c = Agrees.Letter 116 refl refl refl refl
keyword_front k.Typealias c = Agrees.Letter 116 refl refl refl refl
keyword_front k.Typeof c = Agrees.Letter 116 refl refl refl refl
keyword_front k.Val c = Agrees.Letter 118 refl refl refl refl
keyword_front k.Var c = Agrees.Letter 118 refl refl refl refl
keyword_front k.When c = Agrees.Letter 119 refl refl refl refl
keyword_front k.While c = Agrees.Letter 119 refl refl refl refl

word_front : (x : Word) (c : List ℕ) → Agrees (first_of (word_text x ++ c) None) (Some 95)
unfolding unicode_ident
word_front o.Abstract c = Agrees.Letter 97 refl refl refl refl
word_front o.And c = Agrees.Letter 97 refl refl refl refl
word_front o.Catch c = Agrees.Letter 99 refl refl refl refl
word_front o.Companion c = Agrees.Letter 99 refl refl refl refl
word_front o.Const c = Agrees.Letter 99 refl refl refl refl
word_front o.Constructor c = Agrees.Letter 99 refl refl refl refl
word_front o.Finally c = Agrees.Letter 102 refl refl refl refl
word_front o.Import c = Agrees.Letter 105 refl refl refl refl
word_front o.Init c = Agrees.Letter 105 refl refl refl refl
word_front o.Java c = Agrees.Letter 106 refl refl refl refl
word_front o.JvmField c = Agrees.Letter 74 refl refl refl refl
word_front o.JvmStatic c = Agrees.Letter 74 refl refl refl refl
word_front o.Open c = Agrees.Letter 111 refl refl refl refl
word_front o.Or c = Agrees.Letter 111 refl refl refl refl
word_front o.Override c = Agrees.Letter 111 refl refl refl refl
word_front o.Private c = Agrees.Letter 112 refl refl refl refl
word_front o.Run c = Agrees.Letter 114 refl refl refl refl
word_front o.Set c = Agrees.Letter 115 refl refl refl refl
word_front o.Shl c = Agrees.Letter 115 refl refl refl refl
word_front o.Shr c = Agrees.Letter 115 refl refl refl refl
word_front o.SynchronizedBlock c = Agrees.Letter 115 refl refl refl refl
word_front o.SynchronizedMethod c = Agrees.Letter 83 refl refl refl refl
word_front o.Until c = Agrees.Letter 117 refl refl refl refl
word_front o.Ushr c = Agrees.Letter 117 refl refl refl refl
word_front o.Volatile c = Agrees.Letter 86 refl refl refl refl
word_front o.Xor c = Agrees.Letter 120 refl refl refl refl

role_agrees : Decodes → (x : Role) (l : ℕ) (c : List ℕ) (f : Option ℕ) → IsPart x → Agrees (first_of c None) f → Agrees (first_of (role_text l x ++ c) None) (role_first x f)
role_agrees decodes (Role.Fixed (g.Mark x)) l c f part a = Agrees.Same (mark_front x c)
role_agrees decodes (Role.Fixed (g.Keyword x)) l c f part a = keyword_front x c
role_agrees decodes (Role.Fixed (g.Word x)) l c f part a = word_front x c
role_agrees decodes (Role.Fixed g.Semicolon) l c f part a = Agrees.Same refl
role_agrees decodes (Role.Fixed g.Blank) l c f part a = Agrees.Same refl
role_agrees decodes (Role.Fixed g.Line) l c f part a = Agrees.Same refl
role_agrees decodes (Role.Fixed g.Deeper) l c f part a = a
role_agrees decodes (Role.Fixed g.Shallower) l c f part a = a
role_agrees decodes (Role.Name n) l c f part a = name_front decodes n c part
role_agrees decodes (Role.Literal x) l c f part a = literal_begins x part c
role_agrees decodes (Role.Comment x) l c f part a = Agrees.Any refl

front_agrees : Decodes → (l : ℕ) (xs : Roles) → AreParts xs → Agrees (first_of (text_behind l xs) None) (front xs)
unfolding text_behind front AreParts
front_agrees decodes l [] parts = Agrees.Same refl
front_agrees decodes l (x ∷ xs) parts = role_agrees decodes x l (text_behind (level_behind l x) xs) (front xs) parts.0 (front_agrees decodes (level_behind l x) xs parts.1)

-- a test that doesn't tell letters of names apart, nor digits
abbrev Uniform : (Option ℕ → Bool) → Type 0
Uniform f = (x y : Option ℕ) → Agrees x y → f y ≡ true → f x ≡ true

start_by : (v : Bool) (c k : ℕ) → (c == k) ≡ v → is_start c ≡ true → is_start k ≡ false → v ≡ false
start_by true c k e h i = let bad : true ≡ false = sym h ∙ ap is_start (same_number c k e) ∙ i in absurd (cc bad)
start_by false c k e h i = refl

digit_by : (v : Bool) (c k : ℕ) → (c == k) ≡ v → nat_le 48 c ≡ true → nat_le c 57 ≡ true → (nat_le 48 k && nat_le k 57) ≡ false → v ≡ false
digit_by true c k e h i j =
    let bad : true ≡ false = sym (ap (λ z. z && nat_le c 57) h ∙ i) ∙ ap (λ z. nat_le 48 z && nat_le z 57) (same_number c k e) ∙ j in absurd (cc bad)
digit_by false c k e h i j = refl

low_digit : (c : ℕ) → nat_le c 57 ≡ true → nat_lt c 128 ≡ true
low_digit c h = grind (arith, nat_tests)

uniform_other : (k : ℕ) → is_start k ≡ false → (nat_le 48 k && nat_le k 57) ≡ false → Uniform (is_other k)
uniform_other k s d x y (Agrees.Same e) h = ap (is_other k) e ∙ h
uniform_other k s d x y (Agrees.Letter c e low starts f) h =
    ap (is_other k) e ∙ ap (λ z. z && not (c == k)) low ∙ ap not (start_by (c == k) c k refl starts s)
uniform_other k s d x y (Agrees.Digit c e lo hi f) h =
    ap (is_other k) e ∙ ap (λ z. z && not (c == k)) (low_digit c hi) ∙ ap not (digit_by (c == k) c k refl lo hi d)
uniform_other k s d x y (Agrees.Any f) h = let bad : false ≡ true = sym (ap (is_other k) f) ∙ h in absurd (cc bad)

uniform_word : Uniform ends_word
uniform_word x y (Agrees.Same e) h = ap ends_word e ∙ h
uniform_word x y (Agrees.Letter c e low starts f) h = let bad : false ≡ true = sym (ap ends_word f) ∙ h in absurd (cc bad)
uniform_word x y (Agrees.Digit c e lo hi f) h = let bad : false ≡ true = sym (ap ends_word f) ∙ h in absurd (cc bad)
uniform_word x y (Agrees.Any f) h = let bad : false ≡ true = sym (ap ends_word f) ∙ h in absurd (cc bad)

uniform_line : Uniform is_line_end
uniform_line x y (Agrees.Same e) h = ap is_line_end e ∙ h
uniform_line x y (Agrees.Letter c e low starts f) h = let bad : false ≡ true = sym (ap is_line_end f) ∙ h in absurd (cc bad)
uniform_line x y (Agrees.Digit c e lo hi f) h = let bad : false ≡ true = sym (ap is_line_end f) ∙ h in absurd (cc bad)
uniform_line x y (Agrees.Any f) h = let bad : false ≡ true = sym (ap is_line_end f) ∙ h in absurd (cc bad)

uniform_true : Uniform (λ x. true)
uniform_true x y a h = refl

and_true : (v w : Bool) → v ≡ true → w ≡ true → (v && w) ≡ true
and_true v w h i = ap (λ z. z && w) h ∙ i

uniform_both : (f e : Option ℕ → Bool) → Uniform f → Uniform e → Uniform (λ x. f x && e x)
uniform_both f e u v x y a h = let k = both (f y) (e y) h in and_true (f x) (e x) (u x y a k.0) (v x y a k.1)

uniform_mark : (x : Mark) → Uniform (ends_mark x)
unfolding ends_mark unicode_ident
uniform_mark m.OpenRound = uniform_true
uniform_mark m.CloseRound = uniform_true
uniform_mark m.OpenSquare = uniform_true
uniform_mark m.CloseSquare = uniform_true
uniform_mark m.OpenCurly = uniform_true
uniform_mark m.CloseCurly = uniform_true
uniform_mark m.Comma = uniform_true
uniform_mark m.Dot = uniform_true
uniform_mark m.At = uniform_true
uniform_mark m.Question = uniform_true
uniform_mark m.Colon = uniform_other 58 refl refl
uniform_mark m.DoubleColon = uniform_true
uniform_mark m.Assign = uniform_other 61 refl refl
uniform_mark m.Equal = uniform_other 61 refl refl
uniform_mark m.Identical = uniform_true
uniform_mark m.Not = uniform_both (is_other 33) (is_other 61) (uniform_other 33 refl refl) (uniform_other 61 refl refl)
uniform_mark m.NotNull = uniform_true
uniform_mark m.NotEqual = uniform_other 61 refl refl
uniform_mark m.NotIdentical = uniform_true
uniform_mark m.Plus = uniform_other 43 refl refl
uniform_mark m.PlusPlus = uniform_true
uniform_mark m.Minus = uniform_both (is_other 62) (is_other 45) (uniform_other 62 refl refl) (uniform_other 45 refl refl)
uniform_mark m.MinusMinus = uniform_true
uniform_mark m.Arrow = uniform_true
uniform_mark m.Star = uniform_true
uniform_mark m.Slash = uniform_both (is_other 47) (is_other 42) (uniform_other 47 refl refl) (uniform_other 42 refl refl)
uniform_mark m.Percent = uniform_true
uniform_mark m.AndAnd = uniform_true
uniform_mark m.OrOr = uniform_true
uniform_mark m.Less = uniform_other 61 refl refl
uniform_mark m.LessEqual = uniform_true
uniform_mark m.Greater = uniform_other 61 refl refl
uniform_mark m.GreaterEqual = uniform_true

uniform_literal : (x : KLiteral) → Uniform (ends_literal x)
uniform_literal (literal.Integer x) = uniform_word
uniform_literal (literal.Long x) = uniform_true
uniform_literal (literal.Character x) = uniform_true
uniform_literal (literal.Text x) = uniform_true
uniform_literal literal.True = uniform_word
uniform_literal literal.False = uniform_word
uniform_literal literal.Null = uniform_word

name_by : (v : Bool) → Uniform (λ z. if v then true else ends_word z)
name_by true = uniform_true
name_by false = uniform_word

-- ---- no brackets in names and literals

ident_other : (x : TokenKind) → is_ident x ≡ true → bracket x ≡ b.Other
ident_other (q.Mark x) is = absurd (cc is)
ident_other (q.Keyword x) is = refl
ident_other (q.Word x) is = refl
ident_other (q.Name x) is = refl
ident_other (q.Integer x) is = refl
ident_other (q.Long x) is = refl
ident_other (q.Character x) is = refl
ident_other (q.Text x) is = refl
ident_other q.End is = refl

name_open : (o : Open) (n : List ℕ) → open_behind o (name_token n) ≡ o
name_open o n = ap (behind o) (ident_other (name_token n) (name_ident n))

literal_open : (o : Open) (x : KLiteral) → open_behind o (literal_token x) ≡ o
literal_open o (literal.Integer x) = refl
literal_open o (literal.Long x) = refl
literal_open o (literal.Character x) = refl
literal_open o (literal.Text x) = refl
literal_open o literal.True = refl
literal_open o literal.False = refl
literal_open o literal.Null = refl

-- ---- the whole text

-- the tokens of a text, and the end of the file
abbrev ended : Gap → Roles → Tokens
ended h xs = tokens h xs ++ made_token q.End (gap_behind h xs) ∷ []

at_end : Decodes → (xs : Roles) (l : ℕ) (f : Option ℕ → Bool) → Uniform f → AreParts xs → f (front xs) ≡ true → f (first_of (text_behind l xs) None) ≡ true
at_end decodes xs l f u parts h = u (first_of (text_behind l xs) None) (front xs) (front_agrees decodes l xs parts) h

is_no : (v : Bool) → not v ≡ true → v ≡ false
is_no true h = absurd (cc h)
is_no false h = refl

text_lexed : Decodes → (xs : Roles) (l : ℕ) (o : Open) (h : Gap) → AreParts xs → is_lexable o xs ≡ true → Anywhere o h (text_behind l xs) (ended h xs)
unfolding is_lexable AreParts text_behind tokens
text_lexed decodes [] l o h parts is p = stopped o h p.position
text_lexed decodes (Role.Fixed (g.Mark x) ∷ xs) l o h parts is p =
    let k = both (ends_mark x (front xs)) (pairs_by o (bracket_mark x) && is_lexable (open_behind o (q.Mark x)) xs) is in
    let i = both (pairs_by o (bracket_mark x)) (is_lexable (open_behind o (q.Mark x)) xs) k.1 in
    let r = mark_reads x p (text_behind l xs) (at_end decodes xs l (ends_mark x) (uniform_mark x) parts.1 k.0) in
    token_more o h (T p (mark_text x ++ text_behind l xs)) (T r.0 (text_behind l xs)) (q.Mark x) p.position (ended gap.Plain xs) r.1 (text_lexed decodes xs l (open_behind o (q.Mark x)) gap.Plain parts.1 i.1 r.0)
text_lexed decodes (Role.Fixed (g.Keyword x) ∷ xs) l o h parts is p =
    let k = both (ends_word (front xs)) (is_lexable o xs) is in
    let r = keyword_reads decodes x p (text_behind l xs) (at_end decodes xs l ends_word uniform_word parts.1 k.0) in
    token_more o h (T p (keyword_text x ++ text_behind l xs)) (T r.0 (text_behind l xs)) (q.Keyword x) p.position (ended gap.Plain xs) r.1 (text_lexed decodes xs l o gap.Plain parts.1 k.1 r.0)
text_lexed decodes (Role.Fixed (g.Word x) ∷ xs) l o h parts is p =
    let k = both (ends_word (front xs)) (is_lexable o xs) is in
    let r = word_text_reads decodes x p (text_behind l xs) (at_end decodes xs l ends_word uniform_word parts.1 k.0) in
    token_more o h (T p (word_text x ++ text_behind l xs)) (T r.0 (text_behind l xs)) (q.Word x) p.position (ended gap.Plain xs) r.1 (text_lexed decodes xs l o gap.Plain parts.1 k.1 r.0)
text_lexed decodes (Role.Fixed g.Semicolon ∷ xs) l o h parts is p = semicolon_there o h (text_behind l xs) (ended gap.Semicolon xs) (text_lexed decodes xs l o gap.Semicolon parts.1 is) p
text_lexed decodes (Role.Fixed g.Line ∷ xs) l o h parts is p =
    let k = both (not (is_listed o)) (is_lexable o xs) is in
    line_there l o h (text_behind l xs) (ended (lined h) xs) (is_no (is_listed o) k.0) (text_lexed decodes xs l o (lined h) parts.1 k.1) p
text_lexed decodes (Role.Fixed g.Blank ∷ xs) l o h parts is p = space_there o h (text_behind l xs) (ended h xs) (text_lexed decodes xs l o h parts.1 is) p
text_lexed decodes (Role.Fixed g.Deeper ∷ xs) l o h parts is p = text_lexed decodes xs (l + 1) o h parts.1 is p
text_lexed decodes (Role.Fixed g.Shallower ∷ xs) l o h parts is p = text_lexed decodes xs (l - 1) o h parts.1 is p
text_lexed decodes (Role.Name n ∷ xs) l o h parts is p =
    let k = both (if is_quoted n then true else ends_word (front xs)) (is_lexable o xs) is in
    let r = name_reads decodes n parts.0 p (text_behind l xs) (at_end decodes xs l (λ z. if is_quoted n then true else ends_word z) (name_by (is_quoted n)) parts.1 k.0) in
    token_more o h (T p (name_text n ++ text_behind l xs)) (T r.0 (text_behind l xs)) (name_token n) p.position (ended gap.Plain xs) r.1
    (subst (λ z. Lexed z gap.Plain (T r.0 (text_behind l xs)) (ended gap.Plain xs)) (sym (name_open o n)) (text_lexed decodes xs l o gap.Plain parts.1 k.1 r.0))
text_lexed decodes (Role.Literal x ∷ xs) l o h parts is p =
    let k = both (ends_literal x (front xs)) (is_lexable o xs) is in
    let r = literal_reads decodes x parts.0 p (text_behind l xs) (at_end decodes xs l (ends_literal x) (uniform_literal x) parts.1 k.0) in
    token_more o h (T p (literal_text x ++ text_behind l xs)) (T r.0 (text_behind l xs)) (literal_token x) p.position (ended gap.Plain xs) r.1
    (subst (λ z. Lexed z gap.Plain (T r.0 (text_behind l xs)) (ended gap.Plain xs)) (sym (literal_open o x)) (text_lexed decodes xs l o gap.Plain parts.1 k.1 r.0))
text_lexed decodes (Role.Comment x ∷ xs) l o h parts is p =
    let k = both (is_line_end (front xs)) (is_lexable o xs) is in
    let r = comment_read decodes x (text_behind l xs) p parts.0 (at_end decodes xs l is_line_end uniform_line parts.1 k.0) in
    blank_more o h (T p (x ++ text_behind l xs)) (T r.0 (text_behind l xs)) (ended h xs) r.1 (text_lexed decodes xs l o h parts.1 k.1 r.0)

-- the tokens that bytes are, which are these but for their places
abbrev LexesAs : List ℕ → Tokens → Type 0
LexesAs bytes ts = (us : Tokens) × Lexes bytes us × (placeless_tokens us ≡ ts)

pub roles_lexed : Decodes → (xs : Roles) → AreParts xs → is_lexable [] xs ≡ true → LexesAs (text_of xs) (ended gap.Plain xs)
unfolding letters
roles_lexed decodes xs parts is =
    let l = text_lexed decodes xs 0 [] gap.Plain parts is start in (
      tokens_of [] gap.Plain l.pieces (End l.at),
      record { pieces = l.pieces; last = End l.at; rest = l.rest; cuts = subst (λ z. Cuts (letters_of z) l.pieces (End l.at) l.rest) (sym (text_is xs)) l.cuts; tokens_are = refl; fault_is = refl },
      l.are,
    )
