-- Marks: the text of each is read as it where no longer one stands there.
use Rattle.std.proofs.Common.{◌≡◌, ℕ, true, List, ◌∷◌, ◌++◌, None, refl, ap, ◌∙◌}
use Rattle.std.specs.Prelude.{◌&&◌, ◌==◌, nat_lt, if◌then◌else◌}
use Rattle.unicode_ident.proofs.Computing.{unicode_ident}
use Rattle.kotlin_tree.specs.declared.tokens.Mark.{Mark}
use Rattle.kotlin_tree.specs.declared.tokens.Mark.TheVariants as m
use Rattle.kotlin_tree.specs.declared.tokens.TokenKind.TheVariants as q
use Rattle.kotlin_tree.specs.Spellings.{mark_text}
use Rattle.kotlin_characters.specs.declared.letters.Cursor.{Cursor}
use Rattle.kotlin_characters.specs.Letters.{letter, past}
use Rattle.kotlin_characters.specs.Scans.{head, tail, drop_while}
use Rattle.kotlin_lexer.specs.declared.pieces.Class.TheVariants as classes
use Rattle.kotlin_lexer.specs.declared.marks.MarkKind.TheVariants.{Mark as Is}
use Rattle.kotlin_lexer.specs.Found.{token, blank}
use Rattle.kotlin_lexer.specs.Marks.{mark_of}
use Rattle.kotlin_lexer.specs.Pieces.{piece_of, slash_piece, quoted_token, token_piece, mark_piece, marked, block_piece, is_in}
use Rattle.kotlin_lexed_text.specs.Lexable.{first_of, is_other, ends_mark}
use Rattle.kotlin_lexed_text.proofs.Bytes.{T, low_there, other_head, both}

-- what a token is read as, somewhere
abbrev pub Reads : Cursor → List ℕ → List ℕ → Mark → Type 0
Reads p text bs x = (r : Cursor) × (piece_of (T p (text ++ bs)) ≡ token (q.Mark x) p.position (T r bs))

two_there : (a b : ℕ) (bs : List ℕ) (p : Cursor) → nat_lt a 128 ≡ true → nat_lt b 128 ≡ true → T p (a ∷ b ∷ bs) ≡ letter a p.position (letter b (past p a).position (T (past (past p a) b) bs))
two_there a b bs p h i = low_there a (b ∷ bs) p h ∙ ap (λ z. letter a p.position z) (low_there b bs (past p a) i)

three_there : (a b c : ℕ) (bs : List ℕ) (p : Cursor) → nat_lt a 128 ≡ true → nat_lt b 128 ≡ true → nat_lt c 128 ≡ true
    → T p (a ∷ b ∷ c ∷ bs) ≡ letter a p.position (letter b (past p a).position (letter c (past (past p a) b).position (T (past (past (past p a) b) c) bs)))
three_there a b c bs p h i j = low_there a (b ∷ c ∷ bs) p h ∙ ap (λ z. letter a p.position z) (two_there b c bs (past p a) i j)

read_OpenRound : (p : Cursor) (bs : List ℕ) → ends_mark m.OpenRound (first_of bs None) ≡ true → Reads p (mark_text m.OpenRound) bs m.OpenRound
unfolding piece_of slash_piece quoted_token token_piece mark_piece mark_of unicode_ident
read_OpenRound p bs h = ((past p 40), ap piece_of (low_there 40 bs p refl))

read_CloseRound : (p : Cursor) (bs : List ℕ) → ends_mark m.CloseRound (first_of bs None) ≡ true → Reads p (mark_text m.CloseRound) bs m.CloseRound
unfolding piece_of slash_piece quoted_token token_piece mark_piece mark_of unicode_ident
read_CloseRound p bs h = ((past p 41), ap piece_of (low_there 41 bs p refl))

read_OpenSquare : (p : Cursor) (bs : List ℕ) → ends_mark m.OpenSquare (first_of bs None) ≡ true → Reads p (mark_text m.OpenSquare) bs m.OpenSquare
unfolding piece_of slash_piece quoted_token token_piece mark_piece mark_of unicode_ident
read_OpenSquare p bs h = ((past p 91), ap piece_of (low_there 91 bs p refl))

read_CloseSquare : (p : Cursor) (bs : List ℕ) → ends_mark m.CloseSquare (first_of bs None) ≡ true → Reads p (mark_text m.CloseSquare) bs m.CloseSquare
unfolding piece_of slash_piece quoted_token token_piece mark_piece mark_of unicode_ident
read_CloseSquare p bs h = ((past p 93), ap piece_of (low_there 93 bs p refl))

read_OpenCurly : (p : Cursor) (bs : List ℕ) → ends_mark m.OpenCurly (first_of bs None) ≡ true → Reads p (mark_text m.OpenCurly) bs m.OpenCurly
unfolding piece_of slash_piece quoted_token token_piece mark_piece mark_of unicode_ident
read_OpenCurly p bs h = ((past p 123), ap piece_of (low_there 123 bs p refl))

read_CloseCurly : (p : Cursor) (bs : List ℕ) → ends_mark m.CloseCurly (first_of bs None) ≡ true → Reads p (mark_text m.CloseCurly) bs m.CloseCurly
unfolding piece_of slash_piece quoted_token token_piece mark_piece mark_of unicode_ident
read_CloseCurly p bs h = ((past p 125), ap piece_of (low_there 125 bs p refl))

read_Comma : (p : Cursor) (bs : List ℕ) → ends_mark m.Comma (first_of bs None) ≡ true → Reads p (mark_text m.Comma) bs m.Comma
unfolding piece_of slash_piece quoted_token token_piece mark_piece mark_of unicode_ident
read_Comma p bs h = ((past p 44), ap piece_of (low_there 44 bs p refl))

read_Dot : (p : Cursor) (bs : List ℕ) → ends_mark m.Dot (first_of bs None) ≡ true → Reads p (mark_text m.Dot) bs m.Dot
unfolding piece_of slash_piece quoted_token token_piece mark_piece mark_of unicode_ident
read_Dot p bs h = ((past p 46), ap piece_of (low_there 46 bs p refl))

read_At : (p : Cursor) (bs : List ℕ) → ends_mark m.At (first_of bs None) ≡ true → Reads p (mark_text m.At) bs m.At
unfolding piece_of slash_piece quoted_token token_piece mark_piece mark_of unicode_ident
read_At p bs h = ((past p 64), ap piece_of (low_there 64 bs p refl))

read_Question : (p : Cursor) (bs : List ℕ) → ends_mark m.Question (first_of bs None) ≡ true → Reads p (mark_text m.Question) bs m.Question
unfolding piece_of slash_piece quoted_token token_piece mark_piece mark_of unicode_ident
read_Question p bs h = ((past p 63), ap piece_of (low_there 63 bs p refl))

read_Colon : (p : Cursor) (bs : List ℕ) → ends_mark m.Colon (first_of bs None) ≡ true → Reads p (mark_text m.Colon) bs m.Colon
unfolding piece_of slash_piece quoted_token token_piece mark_piece mark_of unicode_ident ends_mark
read_Colon p bs h = ((past p 58), ap piece_of (low_there 58 bs p refl) ∙ ap (λ z. marked p.position (if z then Is m.DoubleColon 1 else Is m.Colon 0) (T (past p 58) bs) (letter 58 p.position (T (past p 58) bs))) (other_head 58 bs (past p 58) refl h))

read_DoubleColon : (p : Cursor) (bs : List ℕ) → ends_mark m.DoubleColon (first_of bs None) ≡ true → Reads p (mark_text m.DoubleColon) bs m.DoubleColon
unfolding piece_of slash_piece quoted_token token_piece mark_piece mark_of unicode_ident
read_DoubleColon p bs h = ((past (past p 58) 58), ap piece_of (two_there 58 58 bs p refl refl))

read_Assign : (p : Cursor) (bs : List ℕ) → ends_mark m.Assign (first_of bs None) ≡ true → Reads p (mark_text m.Assign) bs m.Assign
unfolding piece_of slash_piece quoted_token token_piece mark_piece mark_of unicode_ident ends_mark
read_Assign p bs h = ((past p 61), ap piece_of (low_there 61 bs p refl) ∙ ap (λ z. marked p.position (if z && (head (tail (T (past p 61) bs)) == 61) then Is m.Identical 2 else (if z then Is m.Equal 1 else Is m.Assign 0)) (T (past p 61) bs) (letter 61 p.position (T (past p 61) bs))) (other_head 61 bs (past p 61) refl h))

read_Equal : (p : Cursor) (bs : List ℕ) → ends_mark m.Equal (first_of bs None) ≡ true → Reads p (mark_text m.Equal) bs m.Equal
unfolding piece_of slash_piece quoted_token token_piece mark_piece mark_of unicode_ident ends_mark
read_Equal p bs h = ((past (past p 61) 61), ap piece_of (two_there 61 61 bs p refl refl) ∙ ap (λ z. marked p.position (if z then Is m.Identical 2 else Is m.Equal 1) (letter 61 (past p 61).position (T (past (past p 61) 61) bs)) (letter 61 p.position (letter 61 (past p 61).position (T (past (past p 61) 61) bs)))) (other_head 61 bs (past (past p 61) 61) refl h))

read_Identical : (p : Cursor) (bs : List ℕ) → ends_mark m.Identical (first_of bs None) ≡ true → Reads p (mark_text m.Identical) bs m.Identical
unfolding piece_of slash_piece quoted_token token_piece mark_piece mark_of unicode_ident
read_Identical p bs h = ((past (past (past p 61) 61) 61), ap piece_of (three_there 61 61 61 bs p refl refl refl))

read_Not : (p : Cursor) (bs : List ℕ) → ends_mark m.Not (first_of bs None) ≡ true → Reads p (mark_text m.Not) bs m.Not
unfolding piece_of slash_piece quoted_token token_piece mark_piece mark_of unicode_ident ends_mark
read_Not p bs h =
    let k = both (is_other 33 (first_of bs None)) (is_other 61 (first_of bs None)) h in
    ((past p 33), ap piece_of (low_there 33 bs p refl) ∙ ap (λ z. marked p.position (if z then Is m.NotNull 1 else (if (head (T (past p 33) bs) == 61) && (head (tail (T (past p 33) bs)) == 61) then Is m.NotIdentical 2 else (if head (T (past p 33) bs) == 61 then Is m.NotEqual 1 else Is m.Not 0))) (T (past p 33) bs) (letter 33 p.position (T (past p 33) bs))) (other_head 33 bs (past p 33) refl k.0) ∙ ap (λ z. marked p.position (if z && (head (tail (T (past p 33) bs)) == 61) then Is m.NotIdentical 2 else (if z then Is m.NotEqual 1 else Is m.Not 0)) (T (past p 33) bs) (letter 33 p.position (T (past p 33) bs))) (other_head 61 bs (past p 33) refl k.1))

read_NotNull : (p : Cursor) (bs : List ℕ) → ends_mark m.NotNull (first_of bs None) ≡ true → Reads p (mark_text m.NotNull) bs m.NotNull
unfolding piece_of slash_piece quoted_token token_piece mark_piece mark_of unicode_ident
read_NotNull p bs h = ((past (past p 33) 33), ap piece_of (two_there 33 33 bs p refl refl))

read_NotEqual : (p : Cursor) (bs : List ℕ) → ends_mark m.NotEqual (first_of bs None) ≡ true → Reads p (mark_text m.NotEqual) bs m.NotEqual
unfolding piece_of slash_piece quoted_token token_piece mark_piece mark_of unicode_ident ends_mark
read_NotEqual p bs h = ((past (past p 33) 61), ap piece_of (two_there 33 61 bs p refl refl) ∙ ap (λ z. marked p.position (if z then Is m.NotIdentical 2 else Is m.NotEqual 1) (letter 61 (past p 33).position (T (past (past p 33) 61) bs)) (letter 33 p.position (letter 61 (past p 33).position (T (past (past p 33) 61) bs)))) (other_head 61 bs (past (past p 33) 61) refl h))

read_NotIdentical : (p : Cursor) (bs : List ℕ) → ends_mark m.NotIdentical (first_of bs None) ≡ true → Reads p (mark_text m.NotIdentical) bs m.NotIdentical
unfolding piece_of slash_piece quoted_token token_piece mark_piece mark_of unicode_ident
read_NotIdentical p bs h = ((past (past (past p 33) 61) 61), ap piece_of (three_there 33 61 61 bs p refl refl refl))

read_Plus : (p : Cursor) (bs : List ℕ) → ends_mark m.Plus (first_of bs None) ≡ true → Reads p (mark_text m.Plus) bs m.Plus
unfolding piece_of slash_piece quoted_token token_piece mark_piece mark_of unicode_ident ends_mark
read_Plus p bs h = ((past p 43), ap piece_of (low_there 43 bs p refl) ∙ ap (λ z. marked p.position (if z then Is m.PlusPlus 1 else Is m.Plus 0) (T (past p 43) bs) (letter 43 p.position (T (past p 43) bs))) (other_head 43 bs (past p 43) refl h))

read_PlusPlus : (p : Cursor) (bs : List ℕ) → ends_mark m.PlusPlus (first_of bs None) ≡ true → Reads p (mark_text m.PlusPlus) bs m.PlusPlus
unfolding piece_of slash_piece quoted_token token_piece mark_piece mark_of unicode_ident
read_PlusPlus p bs h = ((past (past p 43) 43), ap piece_of (two_there 43 43 bs p refl refl))

read_Minus : (p : Cursor) (bs : List ℕ) → ends_mark m.Minus (first_of bs None) ≡ true → Reads p (mark_text m.Minus) bs m.Minus
unfolding piece_of slash_piece quoted_token token_piece mark_piece mark_of unicode_ident ends_mark
read_Minus p bs h =
    let k = both (is_other 62 (first_of bs None)) (is_other 45 (first_of bs None)) h in
    ((past p 45), ap piece_of (low_there 45 bs p refl) ∙ ap (λ z. marked p.position (if z then Is m.Arrow 1 else (if head (T (past p 45) bs) == 45 then Is m.MinusMinus 1 else Is m.Minus 0)) (T (past p 45) bs) (letter 45 p.position (T (past p 45) bs))) (other_head 62 bs (past p 45) refl k.0) ∙ ap (λ z. marked p.position (if z then Is m.MinusMinus 1 else Is m.Minus 0) (T (past p 45) bs) (letter 45 p.position (T (past p 45) bs))) (other_head 45 bs (past p 45) refl k.1))

read_MinusMinus : (p : Cursor) (bs : List ℕ) → ends_mark m.MinusMinus (first_of bs None) ≡ true → Reads p (mark_text m.MinusMinus) bs m.MinusMinus
unfolding piece_of slash_piece quoted_token token_piece mark_piece mark_of unicode_ident
read_MinusMinus p bs h = ((past (past p 45) 45), ap piece_of (two_there 45 45 bs p refl refl))

read_Arrow : (p : Cursor) (bs : List ℕ) → ends_mark m.Arrow (first_of bs None) ≡ true → Reads p (mark_text m.Arrow) bs m.Arrow
unfolding piece_of slash_piece quoted_token token_piece mark_piece mark_of unicode_ident
read_Arrow p bs h = ((past (past p 45) 62), ap piece_of (two_there 45 62 bs p refl refl))

read_Star : (p : Cursor) (bs : List ℕ) → ends_mark m.Star (first_of bs None) ≡ true → Reads p (mark_text m.Star) bs m.Star
unfolding piece_of slash_piece quoted_token token_piece mark_piece mark_of unicode_ident
read_Star p bs h = ((past p 42), ap piece_of (low_there 42 bs p refl))

read_Slash : (p : Cursor) (bs : List ℕ) → ends_mark m.Slash (first_of bs None) ≡ true → Reads p (mark_text m.Slash) bs m.Slash
unfolding piece_of slash_piece quoted_token token_piece mark_piece mark_of unicode_ident ends_mark
read_Slash p bs h =
    let k = both (is_other 47 (first_of bs None)) (is_other 42 (first_of bs None)) h in
    ((past p 47), ap piece_of (low_there 47 bs p refl) ∙ ap (λ z. if z then blank (drop_while (is_in classes.Line) (tail (T (past p 47) bs))) else (if head (T (past p 47) bs) == 42 then block_piece p.position 0 0 (tail (T (past p 47) bs)) else mark_piece p.position 47 (T (past p 47) bs) (letter 47 p.position (T (past p 47) bs)))) (other_head 47 bs (past p 47) refl k.0) ∙ ap (λ z. if z then block_piece p.position 0 0 (tail (T (past p 47) bs)) else mark_piece p.position 47 (T (past p 47) bs) (letter 47 p.position (T (past p 47) bs))) (other_head 42 bs (past p 47) refl k.1))

read_Percent : (p : Cursor) (bs : List ℕ) → ends_mark m.Percent (first_of bs None) ≡ true → Reads p (mark_text m.Percent) bs m.Percent
unfolding piece_of slash_piece quoted_token token_piece mark_piece mark_of unicode_ident
read_Percent p bs h = ((past p 37), ap piece_of (low_there 37 bs p refl))

read_AndAnd : (p : Cursor) (bs : List ℕ) → ends_mark m.AndAnd (first_of bs None) ≡ true → Reads p (mark_text m.AndAnd) bs m.AndAnd
unfolding piece_of slash_piece quoted_token token_piece mark_piece mark_of unicode_ident
read_AndAnd p bs h = ((past (past p 38) 38), ap piece_of (two_there 38 38 bs p refl refl))

read_OrOr : (p : Cursor) (bs : List ℕ) → ends_mark m.OrOr (first_of bs None) ≡ true → Reads p (mark_text m.OrOr) bs m.OrOr
unfolding piece_of slash_piece quoted_token token_piece mark_piece mark_of unicode_ident
read_OrOr p bs h = ((past (past p 124) 124), ap piece_of (two_there 124 124 bs p refl refl))

read_Less : (p : Cursor) (bs : List ℕ) → ends_mark m.Less (first_of bs None) ≡ true → Reads p (mark_text m.Less) bs m.Less
unfolding piece_of slash_piece quoted_token token_piece mark_piece mark_of unicode_ident ends_mark
read_Less p bs h = ((past p 60), ap piece_of (low_there 60 bs p refl) ∙ ap (λ z. marked p.position (if z then Is m.LessEqual 1 else Is m.Less 0) (T (past p 60) bs) (letter 60 p.position (T (past p 60) bs))) (other_head 61 bs (past p 60) refl h))

read_LessEqual : (p : Cursor) (bs : List ℕ) → ends_mark m.LessEqual (first_of bs None) ≡ true → Reads p (mark_text m.LessEqual) bs m.LessEqual
unfolding piece_of slash_piece quoted_token token_piece mark_piece mark_of unicode_ident
read_LessEqual p bs h = ((past (past p 60) 61), ap piece_of (two_there 60 61 bs p refl refl))

read_Greater : (p : Cursor) (bs : List ℕ) → ends_mark m.Greater (first_of bs None) ≡ true → Reads p (mark_text m.Greater) bs m.Greater
unfolding piece_of slash_piece quoted_token token_piece mark_piece mark_of unicode_ident ends_mark
read_Greater p bs h = ((past p 62), ap piece_of (low_there 62 bs p refl) ∙ ap (λ z. marked p.position (if z then Is m.GreaterEqual 1 else Is m.Greater 0) (T (past p 62) bs) (letter 62 p.position (T (past p 62) bs))) (other_head 61 bs (past p 62) refl h))

read_GreaterEqual : (p : Cursor) (bs : List ℕ) → ends_mark m.GreaterEqual (first_of bs None) ≡ true → Reads p (mark_text m.GreaterEqual) bs m.GreaterEqual
unfolding piece_of slash_piece quoted_token token_piece mark_piece mark_of unicode_ident
read_GreaterEqual p bs h = ((past (past p 62) 61), ap piece_of (two_there 62 61 bs p refl refl))

pub mark_reads : (x : Mark) (p : Cursor) (bs : List ℕ) → ends_mark x (first_of bs None) ≡ true → Reads p (mark_text x) bs x
mark_reads m.OpenRound p bs h = read_OpenRound p bs h
mark_reads m.CloseRound p bs h = read_CloseRound p bs h
mark_reads m.OpenSquare p bs h = read_OpenSquare p bs h
mark_reads m.CloseSquare p bs h = read_CloseSquare p bs h
mark_reads m.OpenCurly p bs h = read_OpenCurly p bs h
mark_reads m.CloseCurly p bs h = read_CloseCurly p bs h
mark_reads m.Comma p bs h = read_Comma p bs h
mark_reads m.Dot p bs h = read_Dot p bs h
mark_reads m.At p bs h = read_At p bs h
mark_reads m.Question p bs h = read_Question p bs h
mark_reads m.Colon p bs h = read_Colon p bs h
mark_reads m.DoubleColon p bs h = read_DoubleColon p bs h
mark_reads m.Assign p bs h = read_Assign p bs h
mark_reads m.Equal p bs h = read_Equal p bs h
mark_reads m.Identical p bs h = read_Identical p bs h
mark_reads m.Not p bs h = read_Not p bs h
mark_reads m.NotNull p bs h = read_NotNull p bs h
mark_reads m.NotEqual p bs h = read_NotEqual p bs h
mark_reads m.NotIdentical p bs h = read_NotIdentical p bs h
mark_reads m.Plus p bs h = read_Plus p bs h
mark_reads m.PlusPlus p bs h = read_PlusPlus p bs h
mark_reads m.Minus p bs h = read_Minus p bs h
mark_reads m.MinusMinus p bs h = read_MinusMinus p bs h
mark_reads m.Arrow p bs h = read_Arrow p bs h
mark_reads m.Star p bs h = read_Star p bs h
mark_reads m.Slash p bs h = read_Slash p bs h
mark_reads m.Percent p bs h = read_Percent p bs h
mark_reads m.AndAnd p bs h = read_AndAnd p bs h
mark_reads m.OrOr p bs h = read_OrOr p bs h
mark_reads m.Less p bs h = read_Less p bs h
mark_reads m.LessEqual p bs h = read_LessEqual p bs h
mark_reads m.Greater p bs h = read_Greater p bs h
mark_reads m.GreaterEqual p bs h = read_GreaterEqual p bs h
