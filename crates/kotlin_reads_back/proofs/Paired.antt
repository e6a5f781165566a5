-- The brackets of a text that is laid out pair, and no more than 1,600 are open at once.
use Rattle.std.proofs.Common.{◌≡◌, ℕ, zero, suc, ◌+◌, Bool, true, false, not, [], ◌∷◌, ◌++◌, map, length, slice_get, drop, Some, None, refl, ap, sym, subst, ◌∙◌, arith}
use Rattle.std.specs.Prelude.{◌&&◌, ◌==◌, if◌then◌else◌}
use Rattle.kotlin_tree.specs.declared.tokens.Gap.{Gap}
use Rattle.kotlin_tree.specs.declared.tokens.Gap.TheVariants as gap
use Rattle.kotlin_tree.specs.declared.tokens.Mark.{Mark}
use Rattle.kotlin_tree.specs.declared.tokens.Mark.TheVariants as m
use Rattle.kotlin_tree.specs.declared.tokens.TokenKind.{TokenKind}
use Rattle.kotlin_tree.specs.declared.tokens.TokenKind.TheVariants as q
use Rattle.kotlin_tree.specs.declared.tokens.KToken.{KToken}
use Rattle.kotlin_tree.specs.declared.expressions.KLiteral.{KLiteral}
use Rattle.kotlin_tree.specs.declared.expressions.KLiteral.TheVariants as literal
use Rattle.kotlin_lexer.specs.declared.nesting.Form.{Form}
use Rattle.kotlin_lexer.specs.declared.nesting.Form.TheVariants as f
use Rattle.kotlin_lexer.specs.declared.nesting.Bracket.{Bracket}
use Rattle.kotlin_lexer.specs.declared.nesting.Bracket.TheVariants as b
use Rattle.kotlin_lexer.specs.Nesting.{Open, bracket, bracket_mark, behind, open_behind, same}
use Rattle.kotlin_brackets.specs.declared.stack.Form.{Form as other_form}
use Rattle.kotlin_brackets.specs.declared.stack.Form.TheVariants as of
use Rattle.kotlin_brackets.specs.declared.stack.Bracket.{Bracket as other_bracket}
use Rattle.kotlin_brackets.specs.declared.stack.Bracket.TheVariants as ob
use Rattle.kotlin_brackets.specs.declared.stack.Opened.{Opened}
use Rattle.kotlin_brackets.specs.declared.flaws.Flaw.{Flaw}
use Rattle.kotlin_brackets.specs.Brackets as kb
use Rattle.kotlin_brackets.specs.Steps.{lonely, flaw_of, told, first_before}
use Rattle.kotlin_brackets.proofs.LawsToCite.{all_paired, first_more}
use Rattle.kotlin_layout.specs.declared.glyphs.Glyph.TheVariants as g
use Rattle.kotlin_layout.specs.Roles.{Role, Roles}
use Rattle.kotlin_canonical_text.specs.Tokens.{Tokens, token, tokens, name_token, literal_token, lined}
use Rattle.kotlin_canonical_text.proofs.LawsToCite.{is_ident, name_ident}
use Rattle.kotlin_placeless.specs.Placeless.{placeless_tokens}
use Rattle.kotlin_lexed_text.specs.Lexable.{front, ends, breaks, pairs_by, is_none, is_lexable, fits_by, is_shallow}
use Rattle.kotlin_canonical_text.specs.Gaps.{gap_behind}

both : (b c : Bool) → (b && c) ≡ true → (b ≡ true) × (c ≡ true)
both true c is = (refl, is)
both false c is = absurd (cc is)

and_true : (v w : Bool) → v ≡ true → w ≡ true → (v && w) ≡ true
and_true v w h i = ap (λ z. z && w) h ∙ i

-- the tokens of a text, and the end of the file
abbrev pub ended : Gap → Roles → Tokens
ended h xs = tokens h xs ++ token q.End (gap_behind h xs) ∷ []

-- the brackets of tokens pair and fit, where these are open before them
unfoldable pub are_sound : Open → Tokens → Bool
are_sound o [] = is_none o
are_sound o (t ∷ ts) = (pairs_by o (bracket t.kind) && fits_by o (bracket t.kind)) && are_sound (open_behind o t.kind) ts

other_sound : (o : Open) (x : TokenKind) (h : Gap) (ts : Tokens) → bracket x ≡ b.Other → are_sound o ts ≡ true → are_sound o (token x h ∷ ts) ≡ true
unfolding are_sound
other_sound o x h ts is more = ap (λ z. (pairs_by o z && fits_by o z) && are_sound (behind o z) ts) is ∙ more

ident_other : (x : TokenKind) → is_ident x ≡ true → bracket x ≡ b.Other
ident_other (q.Mark x) is = absurd (cc is)
ident_other (q.Keyword x) is = refl
ident_other (q.Word x) is = refl
ident_other (q.Name x) is = refl
ident_other (q.Integer x) is = refl
ident_other (q.Long x) is = refl
ident_other (q.Character x) is = refl
ident_other (q.Text x) is = refl
ident_other q.End is = refl

literal_other : (x : KLiteral) → bracket (literal_token x) ≡ b.Other
literal_other (literal.Integer x) = refl
literal_other (literal.Long x) = refl
literal_other (literal.Character x) = refl
literal_other (literal.Text x) = refl
literal_other literal.True = refl
literal_other literal.False = refl
literal_other literal.Null = refl

roles_sound : (xs : Roles) (o : Open) (h : Gap) → is_lexable o xs ≡ true → is_shallow o xs ≡ true → are_sound o (ended h xs) ≡ true
unfolding is_lexable is_shallow are_sound tokens
roles_sound [] o h is fits = is
roles_sound (Role.Fixed (g.Mark x) ∷ xs) o h is fits =
    let k = both (ends (Role.Fixed (g.Mark x)) (front xs)) (pairs_by o (bracket_mark x) && is_lexable (open_behind o (q.Mark x)) xs) is in
    let i = both (pairs_by o (bracket_mark x)) (is_lexable (open_behind o (q.Mark x)) xs) k.1 in
    let j = both (fits_by o (bracket_mark x)) (is_shallow (open_behind o (q.Mark x)) xs) fits in
    and_true (pairs_by o (bracket_mark x) && fits_by o (bracket_mark x)) (are_sound (open_behind o (q.Mark x)) (ended gap.Plain xs)) (and_true (pairs_by o (bracket_mark x)) (fits_by o (bracket_mark x)) i.0 j.0)
    (roles_sound xs (open_behind o (q.Mark x)) gap.Plain i.1 j.1)
roles_sound (Role.Fixed (g.Keyword x) ∷ xs) o h is fits = let k = both (ends (Role.Fixed (g.Keyword x)) (front xs)) (is_lexable o xs) is in roles_sound xs o gap.Plain k.1 fits
roles_sound (Role.Fixed (g.Word x) ∷ xs) o h is fits = let k = both (ends (Role.Fixed (g.Word x)) (front xs)) (is_lexable o xs) is in roles_sound xs o gap.Plain k.1 fits
roles_sound (Role.Fixed g.Semicolon ∷ xs) o h is fits = roles_sound xs o gap.Semicolon is fits
roles_sound (Role.Fixed g.Line ∷ xs) o h is fits = let k = both (breaks o (Role.Fixed g.Line)) (is_lexable o xs) is in roles_sound xs o (lined h) k.1 fits
roles_sound (Role.Fixed g.Blank ∷ xs) o h is fits = roles_sound xs o h is fits
roles_sound (Role.Fixed g.Deeper ∷ xs) o h is fits = roles_sound xs o h is fits
roles_sound (Role.Fixed g.Shallower ∷ xs) o h is fits = roles_sound xs o h is fits
roles_sound (Role.Name n ∷ xs) o h is fits =
    let k = both (ends (Role.Name n) (front xs)) (is_lexable o xs) is in
    other_sound o (name_token n) h (ended gap.Plain xs) (ident_other (name_token n) (name_ident n)) (roles_sound xs o gap.Plain k.1 fits)
roles_sound (Role.Literal x ∷ xs) o h is fits =
    let k = both (ends (Role.Literal x) (front xs)) (is_lexable o xs) is in
    other_sound o (literal_token x) h (ended gap.Plain xs) (literal_other x) (roles_sound xs o gap.Plain k.1 fits)
roles_sound (Role.Comment x ∷ xs) o h is fits = let k = both (ends (Role.Comment x) (front xs)) (is_lexable o xs) is in roles_sound xs o h k.1 fits

placeless_sound : (o : Open) (ts : Tokens) → are_sound o (placeless_tokens ts) ≡ are_sound o ts
unfolding are_sound
placeless_sound o [] = refl
placeless_sound o (t ∷ ts) = ap (λ z. (pairs_by o (bracket t.kind) && fits_by o (bracket t.kind)) && z) (placeless_sound (open_behind o t.kind) ts)

-- ---- the same brackets by their numbers

abbrev form_of : other_form → Form
form_of of.Round = f.Round
form_of of.Square = f.Square
form_of of.Curly = f.Curly

abbrev bracket_of : other_bracket → Bracket
bracket_of (ob.Opens x) = b.Opens (form_of x)
bracket_of (ob.Closes x) = b.Closes (form_of x)
bracket_of ob.Other = b.Other

abbrev forms : kb.Open → Open
forms xs = map (λ (x : Opened). form_of x.form) xs

mark_same : (x : Mark) → bracket_mark x ≡ bracket_of (kb.bracket_mark x)
mark_same m.OpenRound = refl
mark_same m.CloseRound = refl
mark_same m.OpenSquare = refl
mark_same m.CloseSquare = refl
mark_same m.OpenCurly = refl
mark_same m.CloseCurly = refl
mark_same m.Comma = refl
mark_same m.Dot = refl
mark_same m.At = refl
mark_same m.Question = refl
mark_same m.Colon = refl
mark_same m.DoubleColon = refl
mark_same m.Assign = refl
mark_same m.Equal = refl
mark_same m.Identical = refl
mark_same m.Not = refl
mark_same m.NotNull = refl
mark_same m.NotEqual = refl
mark_same m.NotIdentical = refl
mark_same m.Plus = refl
mark_same m.PlusPlus = refl
mark_same m.Minus = refl
mark_same m.MinusMinus = refl
mark_same m.Arrow = refl
mark_same m.Star = refl
mark_same m.Slash = refl
mark_same m.Percent = refl
mark_same m.AndAnd = refl
mark_same m.OrOr = refl
mark_same m.Less = refl
mark_same m.LessEqual = refl
mark_same m.Greater = refl
mark_same m.GreaterEqual = refl

kind_same : (x : TokenKind) → bracket x ≡ bracket_of (kb.bracket x)
kind_same (q.Mark x) = mark_same x
kind_same (q.Keyword x) = refl
kind_same (q.Word x) = refl
kind_same (q.Name x) = refl
kind_same (q.Integer x) = refl
kind_same (q.Long x) = refl
kind_same (q.Character x) = refl
kind_same (q.Text x) = refl
kind_same q.End = refl

form_same : (x y : other_form) → kb.same x y ≡ same (form_of x) (form_of y)
form_same of.Round of.Round = refl
form_same of.Round of.Square = refl
form_same of.Round of.Curly = refl
form_same of.Square of.Round = refl
form_same of.Square of.Square = refl
form_same of.Square of.Curly = refl
form_same of.Curly of.Round = refl
form_same of.Curly of.Square = refl
form_same of.Curly of.Curly = refl

forms_if : (v w : Bool) (xs ys : kb.Open) → v ≡ w → forms (if v then xs else ys) ≡ (if w then forms xs else forms ys)
forms_if true w xs ys is = ap (λ z. if z then forms xs else forms ys) is
forms_if false w xs ys is = ap (λ z. if z then forms xs else forms ys) is

after_same : (xs : kb.Open) (n : ℕ) (x : other_bracket) → forms (kb.after xs n x) ≡ behind (forms xs) (bracket_of x)
after_same xs n (ob.Opens x) = refl
after_same [] n (ob.Closes x) = refl
after_same (y ∷ xs) n (ob.Closes x) = forms_if (kb.same y.form x) (same (form_of y.form) (form_of x)) xs (y ∷ xs) (form_same y.form x)
after_same [] n ob.Other = refl
after_same (y ∷ xs) n ob.Other = refl

forms_long : (xs : kb.Open) → length (forms xs) ≡ length xs
forms_long [] = refl
forms_long (x ∷ xs) = ap suc (forms_long xs)

no_deep : (v w : Bool) (x : Flaw) → v ≡ w → not w ≡ true → (if v then Some x else None) ≡ None
no_deep true true x is h = absurd (cc h)
no_deep true false x is h = absurd (cc is)
no_deep false w x is h = refl

closes_by : (v w : Bool) (n : ℕ) → v ≡ w → w ≡ true → lonely (if v then Some n else None) ≡ None
closes_by true w n is h = refl
closes_by false w n is h = let bad : false ≡ true = is ∙ h in absurd (cc bad)

flaw_none : (xs : kb.Open) (x : other_bracket) → pairs_by (forms xs) (bracket_of x) ≡ true → fits_by (forms xs) (bracket_of x) ≡ true → flaw_of xs x ≡ None
flaw_none xs (ob.Opens x) p h = no_deep (length xs == 1600) (length (forms xs) == 1600) _ (ap (λ z. z == 1600) (sym (forms_long xs))) h
flaw_none [] (ob.Closes x) p h = absurd (cc p)
flaw_none (y ∷ xs) (ob.Closes x) p h = closes_by (kb.same y.form x) (same (form_of y.form) (form_of x)) y.number (form_same y.form x) p
flaw_none xs ob.Other p h = refl

none_forms : (xs : kb.Open) → is_none (forms xs) ≡ true → xs ≡ []
none_forms [] h = refl
none_forms (x ∷ xs) h = absurd (cc h)

-- ---- all tokens

there : (n : ℕ) (ts : Tokens) (t : KToken) (us : Tokens) → drop n ts ≡ t ∷ us → slice_get ts n ≡ Some t
there zero [] t us h = absurd (cc h)
there zero (x ∷ ts) t us h = cc
there (suc n) [] t us h = absurd (cc h)
there (suc n) (x ∷ ts) t us h = there n ts t us h

dropped : (n : ℕ) (ts : Tokens) (t : KToken) (us : Tokens) → drop n ts ≡ t ∷ us → drop (suc n) ts ≡ us
dropped zero [] t us h = absurd (cc h)
dropped zero (x ∷ ts) t us h = cc
dropped (suc n) [] t us h = absurd (cc h)
dropped (suc n) (x ∷ ts) t us h = dropped n ts t us h

record Sound (ts : Tokens) (n : ℕ) : Type 0 where
  left : kb.open_before ts n ≡ []
  first : first_before ts n ≡ None

goes : (ts : Tokens) (n : ℕ) (us : Tokens) → drop n ts ≡ us → length us + n ≡ length ts → first_before ts n ≡ None → are_sound (forms (kb.open_before ts n)) us ≡ true → Sound ts (length ts)
unfolding are_sound kb.open_before kb.bracket_at
goes ts n [] h long first is = let e : n ≡ length ts = omega (arith, long) in subst (Sound ts) e (record { left = none_forms (kb.open_before ts n) is; first = first })
goes ts n (t ∷ us) h long first is =
    let o = kb.open_before ts n in
    let x = kb.bracket t.kind in
    let e : kb.bracket_at ts n ≡ x = ap kb.bracket_of (there n ts t us h) in
    let k = both (pairs_by (forms o) (bracket t.kind) && fits_by (forms o) (bracket t.kind)) (are_sound (open_behind (forms o) t.kind) us) is in
    let j = both (pairs_by (forms o) (bracket t.kind)) (fits_by (forms o) (bracket t.kind)) k.0 in
    let flaw : flaw_of o (kb.bracket_at ts n) ≡ None =
    ap (flaw_of o) e ∙ flaw_none o x (ap (pairs_by (forms o)) (sym (kind_same t.kind)) ∙ j.0) (ap (fits_by (forms o)) (sym (kind_same t.kind)) ∙ j.1) in
    let next : forms (kb.open_before ts (suc n)) ≡ open_behind (forms o) t.kind = ap (λ z. forms (kb.after o n z)) e ∙ after_same o n x ∙ ap (behind (forms o)) (sym (kind_same t.kind)) in
    goes ts (suc n) us (dropped n ts t us h) (omega (arith, long)) (first_more ts n ∙ ap (λ z. told z n (flaw_of o (kb.bracket_at ts n))) first ∙ ap (told None n) flaw)
    (ap (λ z. are_sound z us) next ∙ k.1)

none_before : (ts : Tokens) → first_before ts 0 ≡ None
unfolding first_before
none_before ts = refl

start_sound : (ts : Tokens) → are_sound [] ts ≡ true → are_sound (forms (kb.open_before ts 0)) ts ≡ true
unfolding kb.open_before
start_sound ts h = h

tokens_paired : (ts : Tokens) → are_sound [] ts ≡ true → kb.IsFirstFlaw ts None
tokens_paired ts is =
    let s = goes ts 0 ts refl (omega arith) (none_before ts) (start_sound ts is) in
    all_paired ts s.left s.first

-- tokens that are those of a text but for their places
pub text_paired : (xs : Roles) (ts : Tokens) → is_lexable [] xs ≡ true → is_shallow [] xs ≡ true → placeless_tokens ts ≡ ended gap.Plain xs → kb.IsFirstFlaw ts None
text_paired xs ts is fits same =
    tokens_paired ts (sym (placeless_sound [] ts) ∙ ap (are_sound []) same ∙ roles_sound xs [] gap.Plain is fits)
