-- Comments: each is one blank before the end of a line.
use Rattle.std.proofs.Common.{◌≡◌, ℕ, zero, suc, ◌+◌, ◌-◌, Bool, true, false, List, [], ◌∷◌, ◌++◌, refl, ap, sym, ◌∙◌, append_assoc, inl, inr}
use Rattle.std.specs.Prelude.{◌&&◌, ◌==◌, if◌then◌else◌, encode_utf8, encode_utf8_all}
use Rattle.std.specs.Str.{all_scalars}
use Rattle.std.specs.List.{list_all}
use lib.Utf8.{scalar}
use Rattle.kotlin_tree.specs.declared.places.Position.{Position}
use Rattle.kotlin_characters.specs.declared.letters.Cursor.{Cursor}
use Rattle.kotlin_characters.specs.Letters.{letter, past}
use Rattle.kotlin_characters.specs.Scans.{head, tail, drop_while}
use Rattle.kotlin_lexer.specs.declared.pieces.Class.TheVariants as classes
use Rattle.kotlin_lexer.specs.Found.{Cut, blank}
use Rattle.kotlin_lexer.specs.Pieces.{is_in, piece_of, slash_piece, block_piece}
use Rattle.kotlin_lexed_text.specs.Lexable.{IsLineComment, IsBlockComment, IsComment, first_character, is_one, closes}
use Rattle.kotlin_lexed_text.proofs.Bytes.{Decodes, T, character_there, low_there, both}
use Rattle.kotlin_lexed_text.proofs.Words.{some_bytes}

-- the letters of a character and of what stands behind it
one_there : Decodes → (c : ℕ) (cs bs : List ℕ) (p : Cursor) → scalar c ≡ true → T p (encode_utf8_all (c ∷ cs) ++ bs) ≡ letter c p.position (T (past p c) (encode_utf8_all cs ++ bs))
one_there decodes c cs bs p s = ap (T p) (append_assoc (encode_utf8 c) (encode_utf8_all cs) bs) ∙ character_there decodes c (encode_utf8_all cs ++ bs) p s (some_bytes c)

line_read : Decodes → (cs bs : List ℕ) (p : Cursor) → all_scalars cs ≡ true → list_all (is_in classes.Line) cs ≡ true
    → (r : Cursor) × (drop_while (is_in classes.Line) (T p (encode_utf8_all cs ++ 10 ∷ bs)) ≡ T r (10 ∷ bs))
line_read decodes [] bs p s h = (p, ap (drop_while (is_in classes.Line)) (low_there 10 bs p refl) ∙ sym (low_there 10 bs p refl))
line_read decodes (c ∷ cs) bs p s h =
    let k = both (scalar c) (all_scalars cs) s in
    let i = both (is_in classes.Line c) (list_all (is_in classes.Line) cs) h in
    let r = line_read decodes cs bs (past p c) k.1 i.1 in
    let u = T (past p c) (encode_utf8_all cs ++ 10 ∷ bs) in
    (r.0, ap (drop_while (is_in classes.Line)) (one_there decodes c cs (10 ∷ bs) p k.0) ∙ ap (λ z. if z then drop_while (is_in classes.Line) u else letter c p.position u) i.0 ∙ r.1)

line_comment : Decodes → (x : List ℕ) → IsLineComment x → (p : Cursor) (bs : List ℕ) → (r : Cursor) × (piece_of (T p (x ++ 10 ∷ bs)) ≡ blank (T r (10 ∷ bs)))
unfolding piece_of slash_piece
line_comment decodes x is p bs =
    let e = encode_utf8_all is.characters ++ 10 ∷ bs in
    let s = past p 47 in
    let r = line_read decodes is.characters bs (past s 47) is.scalars is.on_a_line in (
      r.0,
      ap (λ z. piece_of (T p (z ++ 10 ∷ bs))) is.bytes ∙ ap piece_of (low_there 47 (47 ∷ e) p refl ∙ ap (λ z. letter 47 p.position z) (low_there 47 e s refl)) ∙ ap blank r.1,
    )

-- what is looked at behind a character
first_same : Decodes → (cs bs : List ℕ) (p : Cursor) (k : ℕ) → all_scalars cs ≡ true → (0 == k) ≡ false → (10 == k) ≡ false → (head (T p (encode_utf8_all cs ++ 10 ∷ bs)) == k) ≡ (first_character cs == k)
first_same decodes [] bs p k s a b = ap (λ z. head z == k) (low_there 10 bs p refl) ∙ b ∙ sym a
first_same decodes (c ∷ cs) bs p k s a b = let i = both (scalar c) (all_scalars cs) s in ap (λ z. head z == k) (one_there decodes c cs (10 ∷ bs) p i.0)

last_read : Decodes → (cs bs : List ℕ) (p : Cursor) → all_scalars cs ≡ true → is_one cs ≡ true → (r : Cursor) × (blank (tail (T p (encode_utf8_all cs ++ 10 ∷ bs))) ≡ blank (T r (10 ∷ bs)))
last_read decodes [] bs p s h = absurd (cc h)
last_read decodes (c ∷ []) bs p s h = let i = both (scalar c) true s in (past p c, ap (λ z. blank (tail z)) (one_there decodes c [] (10 ∷ bs) p i.0))
last_read decodes (c ∷ d ∷ cs) bs p s h = absurd (cc h)

-- a block comment within which so many are open
abbrev Closed : Position → ℕ → ℕ → List ℕ → List ℕ → Cursor → Type 0
Closed q k n cs bs p = (r : Cursor) × (block_piece q k n (T p (encode_utf8_all cs ++ 10 ∷ bs)) ≡ blank (T r (10 ∷ bs)))

to_blank : (r : Cursor) (bs : List ℕ) (a b : Cut) → a ≡ b → b ≡ blank (T r (10 ∷ bs)) → a ≡ blank (T r (10 ∷ bs))
to_blank r bs a b e h = e ∙ h

block_read : Decodes → (cs : List ℕ) (q : Position) (k n : ℕ) (bs : List ℕ) (p : Cursor) → all_scalars cs ≡ true → closes k n cs ≡ true → Closed q k n cs bs p
unfolding closes
block_read decodes [] q k n bs p s h = absurd (cc h)
block_read decodes (c ∷ cs) q (suc k) n bs p s h =
    let i = both (scalar c) (all_scalars cs) s in
    let r = block_read decodes cs q k n bs (past p c) i.1 h in
    (r.0, ap (block_piece q (suc k) n) (one_there decodes c cs (10 ∷ bs) p i.0) ∙ r.1)
block_read decodes (c ∷ cs) q zero n bs p s h =
    let i = both (scalar c) (all_scalars cs) s in
    let u = T (past p c) (encode_utf8_all cs ++ 10 ∷ bs) in
    let more : (k m : ℕ) → closes k m cs ≡ true → Closed q k m cs bs (past p c) = λ k m. block_read decodes cs q k m bs (past p c) i.1 in
    let r = turn_by decodes ((c == 42) && (first_character cs == 47)) ((c == 47) && (first_character cs == 42)) (n == 0) q n cs bs (past p c) i.1 more h in (
      r.0,
      ap (block_piece q zero n) (one_there decodes c cs (10 ∷ bs) p i.0)
          ∙ ap (λ z. if (c == 42) && z then (if n == 0 then blank (tail u) else block_piece q 1 (n - 1) u) else (if (c == 47) && (head u == 42) then block_piece q 1 (n + 1) u else block_piece q 0 n u)) (first_same decodes cs bs (past p c) 47 i.1 refl refl)
          ∙ ap (λ z. if (c == 42) && (first_character cs == 47) then (if n == 0 then blank (tail u) else block_piece q 1 (n - 1) u) else (if (c == 47) && z then block_piece q 1 (n + 1) u else block_piece q 0 n u)) (first_same decodes cs bs (past p c) 42 i.1 refl refl)
          ∙ r.1,
    )
  where
    turn_by : Decodes → (v w z : Bool) (q : Position) (n : ℕ) (cs bs : List ℕ) (p : Cursor) → all_scalars cs ≡ true → ((k m : ℕ) → closes k m cs ≡ true → Closed q k m cs bs p)
        → (if v then (if z then is_one cs else closes 1 (n - 1) cs) else (if w then closes 1 (n + 1) cs else closes 0 n cs)) ≡ true
        → (r : Cursor) × ((if v then (if z then blank (tail (T p (encode_utf8_all cs ++ 10 ∷ bs))) else block_piece q 1 (n - 1) (T p (encode_utf8_all cs ++ 10 ∷ bs)))
        else (if w then block_piece q 1 (n + 1) (T p (encode_utf8_all cs ++ 10 ∷ bs)) else block_piece q 0 n (T p (encode_utf8_all cs ++ 10 ∷ bs)))) ≡ blank (T r (10 ∷ bs)))
    turn_by decodes true w true q n cs bs p s more h = last_read decodes cs bs p s h
    turn_by decodes true w false q n cs bs p s more h = more 1 (n - 1) h
    turn_by decodes false true z q n cs bs p s more h = more 1 (n + 1) h
    turn_by decodes false false z q n cs bs p s more h = more 0 n h

block_comment : Decodes → (x : List ℕ) → IsBlockComment x → (p : Cursor) (bs : List ℕ) → (r : Cursor) × (piece_of (T p (x ++ 10 ∷ bs)) ≡ blank (T r (10 ∷ bs)))
unfolding piece_of slash_piece
block_comment decodes x is p bs =
    let e = encode_utf8_all is.characters ++ 10 ∷ bs in
    let s = past p 47 in
    let r = block_read decodes is.characters p.position 0 0 bs (past s 42) is.scalars is.closed in (
      r.0,
      ap (λ z. piece_of (T p (z ++ 10 ∷ bs))) is.bytes ∙ ap piece_of (low_there 47 (42 ∷ e) p refl ∙ ap (λ z. letter 47 p.position z) (low_there 42 e s refl)) ∙ r.1,
    )

pub comment_blank : Decodes → (x : List ℕ) → IsComment x → (p : Cursor) (bs : List ℕ) → (r : Cursor) × (piece_of (T p (x ++ 10 ∷ bs)) ≡ blank (T r (10 ∷ bs)))
comment_blank decodes x (inl is) p bs = line_comment decodes x is p bs
comment_blank decodes x (inr is) p bs = block_comment decodes x is p bs
