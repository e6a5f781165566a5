-- What is read of an expression at its places, from what is read of its form.
use Rattle.std.proofs.Common.{◌≡◌, ℕ, suc, Bool, true, false, List, [], ◌∷◌, ◌++◌, map, refl, ap, sym, subst, append_assoc, arith}
use Rattle.std.proofs.lemmas.Bool.{le-ltb}
use Rattle.std.proofs.lemmas.List.{append-nil}
use Rattle.std.specs.Prelude.{if◌then◌else◌, ◌&&◌, ◌||◌, nat_lt, max}
use Rattle.grammar.specs.declared.symbols.Symbol.TheVariants as y
use Rattle.kotlin_tree.specs.declared.places.Position.{Position}
use Rattle.kotlin_tree.specs.declared.tokens.Gap.TheVariants as gap
use Rattle.kotlin_tree.specs.declared.tokens.Mark.TheVariants as m
use Rattle.kotlin_tree.specs.declared.expressions.KExpr.{KExpr, map-KExpr}
use Rattle.kotlin_tree.specs.declared.expressions.KExpr.TheOpen.{KExpr-F}
use Rattle.kotlin_tree.specs.declared.expressions.KExpr.TheVariants as e
use Rattle.kotlin_tree.specs.declared.expressions.KChoice.{KChoice}
use Rattle.kotlin_tree.specs.declared.statements.KStmt.{KStmt}
use Rattle.kotlin_tree.specs.declared.statements.KBranch.{KBranch}
use Rattle.kotlin_tree.specs.declared.statements.KCatch.{KCatch}
use Rattle.kotlin_tree.specs.UpToPlaces.{made, made_brackets}
use Rattle.kotlin_layout.specs.declared.glyphs.Glyph.TheVariants as g
use Rattle.kotlin_layout.specs.declared.parens.Place.{Place}
use Rattle.kotlin_layout.specs.Parens.{needs_by, is_looser_by, mixes_by, clashes_by, free_place, list_place, level}
use Rattle.kotlin_layout.specs.declared.parens.Neighbor.{Neighbor}
use Rattle.kotlin_layout.specs.declared.parens.Neighbor.TheVariants as beside
use Rattle.kotlin_layout.specs.Roles.{Role, Roles, fixed, listed, more_roles, comma}
use Rattle.kotlin_layout.specs.Shown.{Placed, bare_by, in_round, at_place, arguments_roles}
use Rattle.kotlin_grammar.specs.declared.letters.Kind.TheVariants as k
use Rattle.kotlin_grammar.specs.declared.letters.Form.TheVariants as f
use Rattle.kotlin_grammar.specs.declared.letters.Term.TheVariants as t
use Rattle.kotlin_grammar.specs.declared.letters.Way.TheVariants as w
use Rattle.kotlin_grammar.specs.declared.built.Built.{Built}
use Rattle.kotlin_grammar.specs.Table.{Symbols, written, accepts}
use Rattle.kotlin_grammar.specs.Ahead.{letters, mark_kind, arguments_follow, names_follow}
use Rattle.kotlin_grammar.specs.Taking.{takes}
use Rattle.kotlin_grammar.specs.Meaning.{taken}
use Rattle.kotlin_canonical_text.specs.Tokens.{tokens}
use Rattle.kotlin_canonical_text.specs.Canonical.{Piece, Operand, fits, deepest, commas_behind, commas_of, roles_of, roles_at, tree_at, depth_at, all_at, arguments_at, deepest_at, tree_by, depth_by, bare_readable, operand_by}
use Rattle.kotlin_canonical_text.proofs.Names.{L}
use Rattle.kotlin_canonical_text.proofs.Firsts.{Begins, Scans, Unnamed, starts, begins_mark, relaxed_plain}
use Rattle.kotlin_canonical_text.proofs.Types.{both}
use Rattle.kotlin_canonical_text.proofs.Levels.{After, Level, number, Written, Whole, Stated, from_Post, whole_of, stated_of, plain_front}
use Rattle.kotlin_canonical_text.proofs.Steps.{Der, way, take, take_blank, act, Fits}
use Rattle.kotlin_canonical_text.proofs.Acts.{place, exprs, exprs_only, acts_Paren, acts_NoExprs, acts_AddExpr, acts_AddComma}

abbrev pub Layer : Type 0
Layer = KExpr-F Operand (Piece KStmt) (Piece KChoice) (Piece KBranch) (Piece KCatch)

-- its parts with their roles alone
abbrev pub shown : Layer → KExpr-F Placed Roles Roles Roles Roles
shown x = map-KExpr Operand (Piece KStmt) (Piece KChoice) (Piece KBranch) (Piece KCatch) Placed Roles Roles Roles Roles roles_at roles_of roles_of roles_of roles_of x

abbrev pub bare : Place → Layer → Roles
bare p x = bare_by p (shown x)

-- What is shown of an expression is read as it.
pub record Good (v : Operand) : Type 0 where
  pub begins : (p : Place) → v.readable p ≡ true → Begins (v.roles p)
  pub unnamed : (p : Place) → v.readable p ≡ true → Unnamed (v.roles p)
  pub scans : (p : Place) → v.readable p ≡ true → nat_lt 4 p.level ≡ true → Scans (v.roles p)
  pub written : (l : Level) (p : Place) → p.level ≡ number l → v.readable p ≡ true → Written p l (v.depth p) (v.tree p) (v.roles p)
  pub whole : (p : Place) → p.level ≡ 0 → v.readable p ≡ true → Whole p (v.depth p) (v.tree p) (v.roles p)
  pub stated : (p : Place) → p.level ≡ 0 → v.readable p ≡ true → Fits (v.depth p) → Stated p (v.depth p) (v.tree p) (v.roles p)

-- The form is, where it stands without parentheses.
pub record Bare (x : Layer) : Type 0 where
  pub begins : (p : Place) → bare_readable p x ≡ true → Begins (bare p x)
  pub unnamed : (p : Place) → bare_readable p x ≡ true → Unnamed (bare p x)
  pub scans : (p : Place) → needs_by p x ≡ false → bare_readable p x ≡ true → nat_lt 4 p.level ≡ true → Scans (bare p x)
  pub written : (l : Level) (p : Place) → p.level ≡ number l → needs_by p x ≡ false → bare_readable p x ≡ true → Written p l (suc (depth_by p x)) (tree_by p x) (bare p x)
  pub whole : (p : Place) → p.level ≡ 0 → needs_by p x ≡ false → bare_readable p x ≡ true → Whole p (suc (depth_by p x)) (tree_by p x) (bare p x)
  pub stated : (p : Place) → p.level ≡ 0 → needs_by p x ≡ false → bare_readable p x ≡ true → Fits (suc (depth_by p x)) → Stated p (suc (depth_by p x)) (tree_by p x) (bare p x)

-- ---- parentheses

post_least : (l : Level) → nat_lt 11 (number l) ≡ false
post_least Level.Or = refl
post_least Level.And = refl
post_least Level.Equality = refl
post_least Level.Comparison = refl
post_least Level.Is = refl
post_least Level.Infix = refl
post_least Level.Sum = refl
post_least Level.Product = refl
post_least Level.Cast = refl
post_least Level.Pre = refl
post_least Level.Post = refl

abbrev pub close_round : Roles → Roles
close_round r = Role.Fixed (g.Mark m.CloseRound) ∷ r

pub after_round : (p : Place) (r : Roles) → After p (L gap.Plain (close_round r))
unfolding letters tokens mark_kind arguments_follow
after_round p r = record { free = refl; calm = refl; plain = λ h. refl; stops = λ h n. refl }

pub round_written : (p : Place) (d : ℕ) (x : KExpr) (xs : Roles) → Fits d → Whole free_place d x xs → Written p Level.Post (suc d) (e.Paren made_brackets x) (in_round xs)
unfolding written takes letters tokens accepts taken mark_kind
round_written p d x xs fits inner front s b r new after h = rw (append_assoc xs (Role.Fixed (g.Mark m.CloseRound) ∷ []) r)
    (plain_front front s b _ new (way w.PlainParen (take refl
    (inner _ (place b) (close_round r) new (after_round free_place r)
    (take refl (act (acts_Paren d x b fits) h))))))

pub begins_round : (xs : Roles) → Begins (in_round xs)
unfolding mark_kind starts
begins_round xs = begins_mark m.OpenRound (xs ++ fixed (g.Mark m.CloseRound ∷ [])) (λ r. refl)

pub unnamed_round : (xs : Roles) → Unnamed (in_round xs)
unfolding letters tokens mark_kind names_follow accepts
unnamed_round xs r h = refl

pub scans_round : (xs : Roles) → Scans (in_round xs)
unfolding letters tokens mark_kind arguments_follow accepts
scans_round xs n r h = refl

-- ---- a form at a place

abbrev as_layer : Layer → Layer
as_layer x = x

clash_shown : (nb : Neighbor) (x : Layer) → clashes_by nb (shown x) ≡ clashes_by nb x
clash_shown beside.Other x = refl
clash_shown (beside.Prefix i) (KExpr-F.Literal x at) = refl
clash_shown (beside.Prefix i) (KExpr-F.Name x) = refl
clash_shown (beside.Prefix i) (KExpr-F.This at) = refl
clash_shown (beside.Prefix i) (KExpr-F.Paren round inner) = refl
clash_shown (beside.Prefix i) (KExpr-F.Call x types round arguments commas) = refl
clash_shown (beside.Prefix i) (KExpr-F.SuperCall at x round arguments commas) = refl
clash_shown (beside.Prefix i) (KExpr-F.Field object dot x) = refl
clash_shown (beside.Prefix i) (KExpr-F.Method object dot x types round arguments commas) = refl
clash_shown (beside.Prefix i) (KExpr-F.Element array square index) = refl
clash_shown (beside.Prefix i) (KExpr-F.Postfix operand o at) = refl
clash_shown (beside.Prefix i) (KExpr-F.Prefix o at operand) = refl
clash_shown (beside.Prefix i) (KExpr-F.As value at kind) = refl
clash_shown (beside.Prefix i) (KExpr-F.Is value at kind) = refl
clash_shown (beside.Prefix i) (KExpr-F.Binary before o at right) = refl
clash_shown (beside.Prefix i) (KExpr-F.IfValue at condition value else_at other) = refl
clash_shown (beside.Prefix i) (KExpr-F.WhenValue at subject curly choices else_at other) = refl
clash_shown (beside.Prefix i) (KExpr-F.Lambda face curly names statements) = refl
clash_shown (beside.Prefix i) (KExpr-F.Run at curly statements) = refl
clash_shown (beside.Prefix i) (KExpr-F.Class x at) = refl
clash_shown beside.Less (KExpr-F.Literal x at) = refl
clash_shown beside.Less (KExpr-F.Name x) = refl
clash_shown beside.Less (KExpr-F.This at) = refl
clash_shown beside.Less (KExpr-F.Paren round inner) = refl
clash_shown beside.Less (KExpr-F.Call x types round arguments commas) = refl
clash_shown beside.Less (KExpr-F.SuperCall at x round arguments commas) = refl
clash_shown beside.Less (KExpr-F.Field object dot x) = refl
clash_shown beside.Less (KExpr-F.Method object dot x types round arguments commas) = refl
clash_shown beside.Less (KExpr-F.Element array square index) = refl
clash_shown beside.Less (KExpr-F.Postfix operand o at) = refl
clash_shown beside.Less (KExpr-F.Prefix o at operand) = refl
clash_shown beside.Less (KExpr-F.As value at kind) = refl
clash_shown beside.Less (KExpr-F.Is value at kind) = refl
clash_shown beside.Less (KExpr-F.Binary before o at right) = refl
clash_shown beside.Less (KExpr-F.IfValue at condition value else_at other) = refl
clash_shown beside.Less (KExpr-F.WhenValue at subject curly choices else_at other) = refl
clash_shown beside.Less (KExpr-F.Lambda face curly names statements) = refl
clash_shown beside.Less (KExpr-F.Run at curly statements) = refl
clash_shown beside.Less (KExpr-F.Class x at) = refl
clash_shown beside.Greater (KExpr-F.Literal x at) = refl
clash_shown beside.Greater (KExpr-F.Name x) = refl
clash_shown beside.Greater (KExpr-F.This at) = refl
clash_shown beside.Greater (KExpr-F.Paren round inner) = refl
clash_shown beside.Greater (KExpr-F.Call x types round arguments commas) = refl
clash_shown beside.Greater (KExpr-F.SuperCall at x round arguments commas) = refl
clash_shown beside.Greater (KExpr-F.Field object dot x) = refl
clash_shown beside.Greater (KExpr-F.Method object dot x types round arguments commas) = refl
clash_shown beside.Greater (KExpr-F.Element array square index) = refl
clash_shown beside.Greater (KExpr-F.Postfix operand o at) = refl
clash_shown beside.Greater (KExpr-F.Prefix o at operand) = refl
clash_shown beside.Greater (KExpr-F.As value at kind) = refl
clash_shown beside.Greater (KExpr-F.Is value at kind) = refl
clash_shown beside.Greater (KExpr-F.Binary before o at right) = refl
clash_shown beside.Greater (KExpr-F.IfValue at condition value else_at other) = refl
clash_shown beside.Greater (KExpr-F.WhenValue at subject curly choices else_at other) = refl
clash_shown beside.Greater (KExpr-F.Lambda face curly names statements) = refl
clash_shown beside.Greater (KExpr-F.Run at curly statements) = refl
clash_shown beside.Greater (KExpr-F.Class x at) = refl

needs_shown : (p : Place) (x : Layer) → needs_by p (shown x) ≡ needs_by p x
needs_shown p (KExpr-F.Literal x at) = ap (λ z. is_looser_by p (as_layer (KExpr-F.Literal x at)) || mixes_by p (as_layer (KExpr-F.Literal x at)) || z) (clash_shown p.neighbor (KExpr-F.Literal x at))
needs_shown p (KExpr-F.Name x) = ap (λ z. is_looser_by p (as_layer (KExpr-F.Name x)) || mixes_by p (as_layer (KExpr-F.Name x)) || z) (clash_shown p.neighbor (KExpr-F.Name x))
needs_shown p (KExpr-F.This at) = ap (λ z. is_looser_by p (as_layer (KExpr-F.This at)) || mixes_by p (as_layer (KExpr-F.This at)) || z) (clash_shown p.neighbor (KExpr-F.This at))
needs_shown p (KExpr-F.Paren round inner) = ap (λ z. is_looser_by p (as_layer (KExpr-F.Paren round inner)) || mixes_by p (as_layer (KExpr-F.Paren round inner)) || z) (clash_shown p.neighbor (KExpr-F.Paren round inner))
needs_shown p (KExpr-F.Call x types round arguments commas) = ap (λ z. is_looser_by p (as_layer (KExpr-F.Call x types round arguments commas)) || mixes_by p (as_layer (KExpr-F.Call x types round arguments commas)) || z) (clash_shown p.neighbor (KExpr-F.Call x types round arguments commas))
needs_shown p (KExpr-F.SuperCall at x round arguments commas) = ap (λ z. is_looser_by p (as_layer (KExpr-F.SuperCall at x round arguments commas)) || mixes_by p (as_layer (KExpr-F.SuperCall at x round arguments commas)) || z) (clash_shown p.neighbor (KExpr-F.SuperCall at x round arguments commas))
needs_shown p (KExpr-F.Field object dot x) = ap (λ z. is_looser_by p (as_layer (KExpr-F.Field object dot x)) || mixes_by p (as_layer (KExpr-F.Field object dot x)) || z) (clash_shown p.neighbor (KExpr-F.Field object dot x))
needs_shown p (KExpr-F.Method object dot x types round arguments commas) = ap (λ z. is_looser_by p (as_layer (KExpr-F.Method object dot x types round arguments commas)) || mixes_by p (as_layer (KExpr-F.Method object dot x types round arguments commas)) || z) (clash_shown p.neighbor (KExpr-F.Method object dot x types round arguments commas))
needs_shown p (KExpr-F.Element array square index) = ap (λ z. is_looser_by p (as_layer (KExpr-F.Element array square index)) || mixes_by p (as_layer (KExpr-F.Element array square index)) || z) (clash_shown p.neighbor (KExpr-F.Element array square index))
needs_shown p (KExpr-F.Postfix operand o at) = ap (λ z. is_looser_by p (as_layer (KExpr-F.Postfix operand o at)) || mixes_by p (as_layer (KExpr-F.Postfix operand o at)) || z) (clash_shown p.neighbor (KExpr-F.Postfix operand o at))
needs_shown p (KExpr-F.Prefix o at operand) = ap (λ z. is_looser_by p (as_layer (KExpr-F.Prefix o at operand)) || mixes_by p (as_layer (KExpr-F.Prefix o at operand)) || z) (clash_shown p.neighbor (KExpr-F.Prefix o at operand))
needs_shown p (KExpr-F.As value at kind) = ap (λ z. is_looser_by p (as_layer (KExpr-F.As value at kind)) || mixes_by p (as_layer (KExpr-F.As value at kind)) || z) (clash_shown p.neighbor (KExpr-F.As value at kind))
needs_shown p (KExpr-F.Is value at kind) = ap (λ z. is_looser_by p (as_layer (KExpr-F.Is value at kind)) || mixes_by p (as_layer (KExpr-F.Is value at kind)) || z) (clash_shown p.neighbor (KExpr-F.Is value at kind))
needs_shown p (KExpr-F.Binary before o at right) = ap (λ z. is_looser_by p (as_layer (KExpr-F.Binary before o at right)) || mixes_by p (as_layer (KExpr-F.Binary before o at right)) || z) (clash_shown p.neighbor (KExpr-F.Binary before o at right))
needs_shown p (KExpr-F.IfValue at condition value else_at other) = ap (λ z. is_looser_by p (as_layer (KExpr-F.IfValue at condition value else_at other)) || mixes_by p (as_layer (KExpr-F.IfValue at condition value else_at other)) || z) (clash_shown p.neighbor (KExpr-F.IfValue at condition value else_at other))
needs_shown p (KExpr-F.WhenValue at subject curly choices else_at other) = ap (λ z. is_looser_by p (as_layer (KExpr-F.WhenValue at subject curly choices else_at other)) || mixes_by p (as_layer (KExpr-F.WhenValue at subject curly choices else_at other)) || z) (clash_shown p.neighbor (KExpr-F.WhenValue at subject curly choices else_at other))
needs_shown p (KExpr-F.Lambda face curly names statements) = ap (λ z. is_looser_by p (as_layer (KExpr-F.Lambda face curly names statements)) || mixes_by p (as_layer (KExpr-F.Lambda face curly names statements)) || z) (clash_shown p.neighbor (KExpr-F.Lambda face curly names statements))
needs_shown p (KExpr-F.Run at curly statements) = ap (λ z. is_looser_by p (as_layer (KExpr-F.Run at curly statements)) || mixes_by p (as_layer (KExpr-F.Run at curly statements)) || z) (clash_shown p.neighbor (KExpr-F.Run at curly statements))
needs_shown p (KExpr-F.Class x at) = ap (λ z. is_looser_by p (as_layer (KExpr-F.Class x at)) || mixes_by p (as_layer (KExpr-F.Class x at)) || z) (clash_shown p.neighbor (KExpr-F.Class x at))

lt_zero : (n : ℕ) → nat_lt n 0 ≡ false
lt_zero n = le-ltb n 0 (omega arith)

free_needs : (x : Layer) → needs_by free_place x ≡ false
free_needs (KExpr-F.Binary before o at right) = ap (λ z. z || false || false) (lt_zero (level o))
free_needs _ = refl

module _ (x : Layer) (p : Place) (h : Bare x) where
  abbrev readable_if : Bool → Bool
  readable_if b = if b then (bare_readable free_place x && fits (suc (depth_by free_place x))) else bare_readable p x

  abbrev tree_if : Bool → KExpr
  tree_if b = if b then e.Paren made_brackets (tree_by free_place x) else tree_by p x

  abbrev depth_if : Bool → ℕ
  depth_if b = if b then suc (suc (depth_by free_place x)) else suc (depth_by p x)

  abbrev roles_if : Bool → Roles
  roles_if c = if c then in_round (bare free_place x) else bare p x

  begins_placed : (b c : Bool) → c ≡ b → needs_by p x ≡ b → readable_if b ≡ true → Begins (roles_if c)
  begins_placed true true same is readable = begins_round (bare free_place x)
  begins_placed false false same is readable = h.begins p readable
  begins_placed true false same is readable = absurd (cc same)
  begins_placed false true same is readable = absurd (cc same)

  unnamed_placed : (b c : Bool) → c ≡ b → needs_by p x ≡ b → readable_if b ≡ true → Unnamed (roles_if c)
  unnamed_placed true true same is readable = unnamed_round (bare free_place x)
  unnamed_placed false false same is readable = h.unnamed p readable
  unnamed_placed true false same is readable = absurd (cc same)
  unnamed_placed false true same is readable = absurd (cc same)

  scans_placed : (b c : Bool) → c ≡ b → needs_by p x ≡ b → readable_if b ≡ true → nat_lt 4 p.level ≡ true → Scans (roles_if c)
  scans_placed true true same is readable high = scans_round (bare free_place x)
  scans_placed false false same is readable high = h.scans p is readable high
  scans_placed true false same is readable high = absurd (cc same)
  scans_placed false true same is readable high = absurd (cc same)

  in_parens : readable_if true ≡ true → Written p Level.Post (suc (suc (depth_by free_place x))) (e.Paren made_brackets (tree_by free_place x)) (in_round (bare free_place x))
  in_parens readable =
      let halves = both (bare_readable free_place x) (fits (suc (depth_by free_place x))) readable in
      round_written p (suc (depth_by free_place x)) (tree_by free_place x) (bare free_place x) halves.1 (h.whole free_place refl (free_needs x) halves.0)

  written_placed : (l : Level) (b c : Bool) → c ≡ b → needs_by p x ≡ b → p.level ≡ number l → readable_if b ≡ true → Written p l (depth_if b) (tree_if b) (roles_if c)
  written_placed l true true same is level readable = from_Post p _ _ (in_round (bare free_place x)) l (post_least l) (in_parens readable)
  written_placed l false false same is level readable = h.written l p level is readable
  written_placed l true false same is level readable = absurd (cc same)
  written_placed l false true same is level readable = absurd (cc same)

  whole_placed : (b c : Bool) → c ≡ b → needs_by p x ≡ b → p.level ≡ 0 → readable_if b ≡ true → Whole p (depth_if b) (tree_if b) (roles_if c)
  whole_placed true true same is level readable = whole_of Level.Post p _ _ (in_round (bare free_place x)) (in_parens readable)
  whole_placed false false same is level readable = h.whole p level is readable
  whole_placed true false same is level readable = absurd (cc same)
  whole_placed false true same is level readable = absurd (cc same)

  stated_placed : (b c : Bool) → c ≡ b → needs_by p x ≡ b → p.level ≡ 0 → readable_if b ≡ true → Fits (depth_if b) → Stated p (depth_if b) (tree_if b) (roles_if c)
  stated_placed true true same is level readable fit = stated_of Level.Post p _ _ (in_round (bare free_place x)) fit (in_parens readable)
  stated_placed false false same is level readable fit = h.stated p level is readable fit
  stated_placed true false same is level readable fit = absurd (cc same)
  stated_placed false true same is level readable fit = absurd (cc same)

pub good_of : (x : Layer) → Bare x → Good (operand_by x)
good_of x h = record {
  begins = λ p readable. begins_placed x p h (needs_by p x) (needs_by p (shown x)) (needs_shown p x) refl readable;
  unnamed = λ p readable. unnamed_placed x p h (needs_by p x) (needs_by p (shown x)) (needs_shown p x) refl readable;
  scans = λ p readable high. scans_placed x p h (needs_by p x) (needs_by p (shown x)) (needs_shown p x) refl readable high;
  written = λ l p level readable. written_placed x p h l (needs_by p x) (needs_by p (shown x)) (needs_shown p x) refl level readable;
  whole = λ p level readable. whole_placed x p h (needs_by p x) (needs_by p (shown x)) (needs_shown p x) refl level readable;
  stated = λ p level readable fit. stated_placed x p h (needs_by p x) (needs_by p (shown x)) (needs_shown p x) refl level readable fit;
}

-- a form that is a first operand
pub bare_post : (x : Layer) → ((p : Place) → bare_readable p x ≡ true → Begins (bare p x)) → ((p : Place) → bare_readable p x ≡ true → Unnamed (bare p x))
    → ((p : Place) → bare_readable p x ≡ true → Scans (bare p x)) → ((p : Place) → bare_readable p x ≡ true → Written p Level.Post (suc (depth_by p x)) (tree_by p x) (bare p x)) → Bare x
bare_post x begins unnamed scans post = record {
  begins = begins;
  unnamed = unnamed;
  scans = λ p is readable high. scans p readable;
  written = λ l p level is readable. from_Post p _ _ _ l (post_least l) (post p readable);
  whole = λ p level is readable. whole_of Level.Post p _ _ _ (post p readable);
  stated = λ p level is readable fit. stated_of Level.Post p _ _ _ fit (post p readable);
}

pub or_false : (a b : Bool) → (a || b) ≡ false → (a ≡ false) × (b ≡ false)
or_false true b h = absurd (cc h)
or_false false b h = (refl, h)

pub not_looser : (p : Place) (x : Layer) → needs_by p x ≡ false → is_looser_by p x ≡ false
not_looser p x h = first_false (is_looser_by p x) (mixes_by p x) (clashes_by p.neighbor x) h
  where
    first_false : (a b c : Bool) → (a || b || c) ≡ false → a ≡ false
    first_false true b c h = h
    first_false false b c h = refl

-- ---- lists of arguments

unfoldable pub AllRead : List Operand → Type 0
AllRead [] = Unit {0}
AllRead (x ∷ xs) = Good x × AllRead xs

abbrev pub more_exprs : List Operand → Roles
more_exprs xs = more_roles comma (map (at_place list_place) (map roles_at xs))

pub after_more : (xs : List Operand) (z : Roles) → After list_place (L gap.Plain z) → After list_place (L gap.Plain (more_exprs xs ++ z))
unfolding letters tokens mark_kind
after_more [] z after = after
after_more (x ∷ xs) z after = record { free = refl; calm = refl; plain = λ h. refl; stops = λ h. absurd (cc h) }

pub exprs_more : (xs : List Operand) (d : ℕ) (found : List KExpr) (cs : List Position) (s : Symbols) (b : Built) (z : Roles) (new : Built) → AllRead xs → all_at list_place xs ≡ true → After list_place (L gap.Plain z)
    → Der s (exprs (deepest d (map (depth_at list_place) xs)) (found ++ map (tree_at list_place) xs) (cs ++ commas_behind xs) b) (L gap.Plain z) new
    → Der (y.Form f.MoreExprs ∷ s) (exprs d found cs b) (L gap.Plain (more_exprs xs ++ z)) new
unfolding written takes letters tokens accepts taken mark_kind AllRead
exprs_more [] d found cs s b z new good readable after h = way w.ExprsEnd
    (subst (λ u. Der s (exprs d u cs b) (L gap.Plain z) new) (append-nil found)
    (subst (λ u. Der s (exprs d (found ++ []) u b) (L gap.Plain z) new) (append-nil cs) h))
exprs_more (x ∷ xs) d found cs s b z new good readable after h =
    let halves = both (x.readable list_place) (all_at list_place xs) readable in
    rw (append_assoc (x.roles list_place) (more_exprs xs) z)
    (way w.ExprsMore
    (take_blank (relaxed_plain (x.roles list_place) (more_exprs xs ++ z) (good.0.begins list_place halves.0 (more_exprs xs ++ z))) refl
    (act (acts_AddComma cs (exprs_only d found b))
    (good.0.whole list_place refl halves.0 _ (exprs d found (cs ++ made ∷ []) b) (more_exprs xs ++ z) new (after_more xs z after)
    (act (acts_AddExpr d found (cs ++ made ∷ []) (x.depth list_place) (x.tree list_place) b)
    (exprs_more xs (max (x.depth list_place) d) (found ++ x.tree list_place ∷ []) (cs ++ made ∷ []) s b z new good.1 halves.1 after
    (subst (λ u. Der s (exprs (deepest (max (x.depth list_place) d) (map (depth_at list_place) xs)) u ((cs ++ made ∷ []) ++ commas_behind xs) b) (L gap.Plain z) new) (sym (append_assoc found (x.tree list_place ∷ []) (map (tree_at list_place) xs)))
    (subst (λ u. Der s (exprs (deepest (max (x.depth list_place) d) (map (depth_at list_place) xs)) (found ++ x.tree list_place ∷ map (tree_at list_place) xs) u b) (L gap.Plain z) new) (sym (append_assoc cs (made ∷ []) (commas_behind xs))) h))))))))

abbrev pub listed_exprs : List Operand → Roles
listed_exprs xs = listed comma (map (at_place list_place) (map roles_at xs))

pub args_read : (xs : List Operand) (s : Symbols) (b : Built) (z : Roles) (new : Built) → AllRead xs → all_at list_place xs ≡ true → After list_place (L gap.Plain z)
    → Der s (exprs (deepest_at xs) (arguments_at xs) (commas_of xs) b) (L gap.Plain z) new → Der (y.Form f.Args ∷ s) b (L gap.Plain (listed_exprs xs ++ z)) new
unfolding written AllRead
args_read [] s b z new good readable after h = way w.ArgsNone (act (acts_NoExprs b) h)
args_read (x ∷ xs) s b z new good readable after h =
    let halves = both (x.readable list_place) (all_at list_place xs) readable in
    rw (append_assoc (x.roles list_place) (more_exprs xs) z)
    (way w.ArgsSome (act (acts_NoExprs b)
    (good.0.whole list_place refl halves.0 _ (exprs 0 [] [] b) (more_exprs xs ++ z) new (after_more xs z after)
    (act (acts_AddExpr 0 [] [] (x.depth list_place) (x.tree list_place) b)
    (exprs_more xs (max (x.depth list_place) 0) (x.tree list_place ∷ []) [] s b z new good.1 halves.1 after h)))))

-- `(`, arguments, `)`
pub round_args : (xs : List Operand) (s : Symbols) (b : Built) (r : Roles) (new : Built) → AllRead xs → all_at list_place xs ≡ true
    → Der s (place (exprs (deepest_at xs) (arguments_at xs) (commas_of xs) (place b))) (L gap.Plain r) new
    → Der (y.Term (t.Only k.OpenRound) ∷ y.Form f.Args ∷ y.Term (t.Only k.CloseRound) ∷ s) b (L gap.Plain (arguments_roles (map roles_at xs) ++ r)) new
unfolding written takes letters tokens accepts taken mark_kind
round_args xs s b r new good readable h = rw (append_assoc (listed_exprs xs) (Role.Fixed (g.Mark m.CloseRound) ∷ []) r)
    (take refl (args_read xs _ (place b) (close_round r) new good readable (after_round list_place r) (take refl h)))
