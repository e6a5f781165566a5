-- The tokens of a text, part by part.
use Rattle.std.proofs.Common.{◌≡◌, Bool, true, false, [], ◌∷◌, ◌++◌, refl, ap, sym, subst, ◌∙◌, append_assoc}
use Rattle.std.proofs.lemmas.List.{append-nil}
use Rattle.std.specs.Prelude.{if◌then◌else◌}
use Rattle.kotlin_tree.specs.declared.tokens.Gap.{Gap}
use Rattle.kotlin_tree.specs.declared.tokens.Gap.TheVariants as gap
use Rattle.kotlin_tree.specs.declared.tokens.Mark.{Mark}
use Rattle.kotlin_tree.specs.declared.tokens.Mark.TheVariants as m
use Rattle.kotlin_tree.specs.declared.tokens.TokenKind.{TokenKind}
use Rattle.kotlin_tree.specs.declared.tokens.TokenKind.TheVariants as q
use Rattle.kotlin_tree.specs.declared.tokens.KToken.{KToken}
use Rattle.kotlin_layout.specs.declared.glyphs.Glyph.{Glyph}
use Rattle.kotlin_layout.specs.declared.glyphs.Glyph.TheVariants as g
use Rattle.kotlin_layout.specs.Roles.{Role, Roles}
use Rattle.kotlin_grammar.specs.Files.{pieces, open_behind, ends_piece}
use Rattle.kotlin_canonical_text.specs.Tokens.{Tokens, token, tokens, name_token, lined}
use Rattle.kotlin_canonical_text.specs.Gaps.{gap_behind}
use Rattle.kotlin_canonical_text.proofs.LawsToCite.{is_ident, name_ident}

pub tokens_split : (h : Gap) (xs ys : Roles) → tokens h (xs ++ ys) ≡ (tokens h xs ++ tokens (gap_behind h xs) ys)
unfolding tokens
tokens_split h [] ys = refl
tokens_split h (Role.Fixed (g.Mark x) ∷ r) ys = ap (λ z. token (q.Mark x) h ∷ z) (tokens_split gap.Plain r ys)
tokens_split h (Role.Fixed (g.Keyword x) ∷ r) ys = ap (λ z. token (q.Keyword x) h ∷ z) (tokens_split gap.Plain r ys)
tokens_split h (Role.Fixed (g.Word x) ∷ r) ys = ap (λ z. token (q.Word x) h ∷ z) (tokens_split gap.Plain r ys)
tokens_split h (Role.Fixed g.Semicolon ∷ r) ys = tokens_split gap.Semicolon r ys
tokens_split h (Role.Fixed g.Line ∷ r) ys = tokens_split (lined h) r ys
tokens_split h (Role.Fixed g.Blank ∷ r) ys = tokens_split h r ys
tokens_split h (Role.Fixed g.Deeper ∷ r) ys = tokens_split h r ys
tokens_split h (Role.Fixed g.Shallower ∷ r) ys = tokens_split h r ys
tokens_split h (Role.Name n ∷ r) ys = ap (λ z. token (name_token n) h ∷ z) (tokens_split gap.Plain r ys)
tokens_split h (Role.Literal x ∷ r) ys = ap (λ z. tokens h (Role.Literal x ∷ []) ++ z) (tokens_split gap.Plain r ys)
tokens_split h (Role.Comment x ∷ r) ys = tokens_split h r ys

pub gap_split : (h : Gap) (xs ys : Roles) → gap_behind h (xs ++ ys) ≡ gap_behind (gap_behind h xs) ys
gap_split h [] ys = refl
gap_split h (Role.Fixed (g.Mark x) ∷ r) ys = gap_split gap.Plain r ys
gap_split h (Role.Fixed (g.Keyword x) ∷ r) ys = gap_split gap.Plain r ys
gap_split h (Role.Fixed (g.Word x) ∷ r) ys = gap_split gap.Plain r ys
gap_split h (Role.Fixed g.Semicolon ∷ r) ys = gap_split gap.Semicolon r ys
gap_split h (Role.Fixed g.Line ∷ r) ys = gap_split (lined h) r ys
gap_split h (Role.Fixed g.Blank ∷ r) ys = gap_split h r ys
gap_split h (Role.Fixed g.Deeper ∷ r) ys = gap_split h r ys
gap_split h (Role.Fixed g.Shallower ∷ r) ys = gap_split h r ys
gap_split h (Role.Name n ∷ r) ys = gap_split gap.Plain r ys
gap_split h (Role.Literal x ∷ r) ys = gap_split gap.Plain r ys
gap_split h (Role.Comment x ∷ r) ys = gap_split h r ys

-- ---- parts without brackets

abbrev is_quiet_glyph : Glyph → Bool
is_quiet_glyph (g.Mark m.Dot) = true
is_quiet_glyph (g.Mark _) = false
is_quiet_glyph _ = true

abbrev is_quiet : Role → Bool
is_quiet (Role.Fixed x) = is_quiet_glyph x
is_quiet (Role.Name n) = true
is_quiet (Role.Literal x) = false
is_quiet (Role.Comment x) = true

-- no mark but dots, and no literal
abbrev pub quiet : Roles → Bool
quiet [] = true
quiet (x ∷ xs) = if is_quiet x then quiet xs else false

quiet_by : (b : Bool) (c d : Bool) → (c ≡ true → d ≡ true) → (if b then c else false) ≡ true → (if b then d else false) ≡ true
quiet_by true c d more is = more is
quiet_by false c d more is = absurd (cc is)

pub quiet_both : (xs ys : Roles) → quiet xs ≡ true → quiet ys ≡ true → quiet (xs ++ ys) ≡ true
quiet_both [] ys h i = i
quiet_both (x ∷ xs) ys h i = quiet_by (is_quiet x) (quiet xs) (quiet (xs ++ ys)) (λ k. quiet_both xs ys k i) h

halves : (b c : Bool) → (if b then c else false) ≡ true → (b ≡ true) × (c ≡ true)
halves true c is = (refl, is)
halves false c is = absurd (cc is)

quiet_dot : (x : Mark) → is_quiet_glyph (g.Mark x) ≡ true → x ≡ m.Dot
quiet_dot m.Dot is = refl
quiet_dot _ is = absurd (cc is)

ident_stays : (x : TokenKind) → is_ident x ≡ true → (ends_piece 0 x ≡ false) × (open_behind 0 x ≡ 0)
ident_stays (q.Mark x) is = absurd (cc is)
ident_stays (q.Keyword x) is = absurd (cc is)
ident_stays (q.Word x) is = (refl, refl)
ident_stays (q.Name x) is = (refl, refl)
ident_stays (q.Integer x) is = absurd (cc is)
ident_stays (q.Long x) is = absurd (cc is)
ident_stays (q.Character x) is = absurd (cc is)
ident_stays (q.Text x) is = absurd (cc is)
ident_stays q.End is = absurd (cc is)

passed : (p : Tokens) (t : KToken) (ts : Tokens) → ends_piece 0 t.kind ≡ false → open_behind 0 t.kind ≡ 0 → pieces 0 p (t ∷ ts) ≡ pieces 0 (p ++ t ∷ []) ts
unfolding pieces
passed p t ts e i = ap (λ z. if z then (p ++ t ∷ []) ∷ pieces 0 [] ts else pieces (open_behind 0 t.kind) (p ++ t ∷ []) ts) e ∙ ap (λ n. pieces n (p ++ t ∷ []) ts) i

one_more : (p : Tokens) (t : KToken) (xs ts : Tokens) → ends_piece 0 t.kind ≡ false → open_behind 0 t.kind ≡ 0 → ((p : Tokens) → pieces 0 p (xs ++ ts) ≡ pieces 0 (p ++ xs) ts)
    → pieces 0 p (t ∷ (xs ++ ts)) ≡ pieces 0 (p ++ t ∷ xs) ts
one_more p t xs ts e i more = passed p t (xs ++ ts) e i ∙ more (p ++ t ∷ []) ∙ ap (λ z. pieces 0 z ts) (append_assoc p (t ∷ []) xs)

none_more : (p ts : Tokens) → pieces 0 p ts ≡ pieces 0 (p ++ []) ts
none_more p ts = ap (λ z. pieces 0 z ts) (sym (append-nil p))

-- No piece ends in them.
pub quiet_passed : (h : Gap) (xs : Roles) (p ts : Tokens) → quiet xs ≡ true → pieces 0 p (tokens h xs ++ ts) ≡ pieces 0 (p ++ tokens h xs) ts
unfolding tokens
quiet_passed h [] p ts is = none_more p ts
quiet_passed h (Role.Fixed (g.Mark x) ∷ r) p ts is =
    let k = halves (is_quiet_glyph (g.Mark x)) (quiet r) is in
    subst (λ y. pieces 0 p (token (q.Mark y) h ∷ (tokens gap.Plain r ++ ts)) ≡ pieces 0 (p ++ token (q.Mark y) h ∷ tokens gap.Plain r) ts) (sym (quiet_dot x k.0))
    (one_more p (token (q.Mark m.Dot) h) (tokens gap.Plain r) ts refl refl (λ u. quiet_passed gap.Plain r u ts k.1))
quiet_passed h (Role.Fixed (g.Keyword x) ∷ r) p ts is = one_more p (token (q.Keyword x) h) (tokens gap.Plain r) ts refl refl (λ u. quiet_passed gap.Plain r u ts is)
quiet_passed h (Role.Fixed (g.Word x) ∷ r) p ts is = one_more p (token (q.Word x) h) (tokens gap.Plain r) ts refl refl (λ u. quiet_passed gap.Plain r u ts is)
quiet_passed h (Role.Fixed g.Semicolon ∷ r) p ts is = quiet_passed gap.Semicolon r p ts is
quiet_passed h (Role.Fixed g.Line ∷ r) p ts is = quiet_passed (lined h) r p ts is
quiet_passed h (Role.Fixed g.Blank ∷ r) p ts is = quiet_passed h r p ts is
quiet_passed h (Role.Fixed g.Deeper ∷ r) p ts is = quiet_passed h r p ts is
quiet_passed h (Role.Fixed g.Shallower ∷ r) p ts is = quiet_passed h r p ts is
quiet_passed h (Role.Name n ∷ r) p ts is =
    let k = ident_stays (name_token n) (name_ident n) in
    one_more p (token (name_token n) h) (tokens gap.Plain r) ts k.0 k.1 (λ u. quiet_passed gap.Plain r u ts is)
quiet_passed h (Role.Literal x ∷ r) p ts is = absurd (cc is)
quiet_passed h (Role.Comment x ∷ r) p ts is = quiet_passed h r p ts is
