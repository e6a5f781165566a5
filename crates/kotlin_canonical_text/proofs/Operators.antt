-- Operators before and between operands.
use Rattle.std.proofs.Common.{◌≡◌, ℕ, suc, ◌+◌, Bool, true, false, [], ◌∷◌, ◌++◌, refl, ap, sym, subst, ◌∙◌, append_assoc, arith}
use Rattle.std.specs.Prelude.{if◌then◌else◌, ◌&&◌, ◌||◌, not, nat_lt, max}
use Rattle.grammar.specs.declared.symbols.Symbol.TheVariants as y
use Rattle.kotlin_tree.specs.declared.places.Position.{Position}
use Rattle.kotlin_tree.specs.declared.tokens.Gap.TheVariants as gap
use Rattle.kotlin_tree.specs.declared.tokens.Mark.TheVariants as m
use Rattle.kotlin_tree.specs.declared.tokens.Keyword.{Keyword}
use Rattle.kotlin_tree.specs.declared.tokens.Keyword.TheVariants as kw
use Rattle.kotlin_tree.specs.declared.tokens.Word.TheVariants as o
use Rattle.kotlin_tree.specs.declared.tokens.TokenKind.{TokenKind}
use Rattle.kotlin_tree.specs.declared.tokens.TokenKind.TheVariants as q
use Rattle.kotlin_tree.specs.declared.types.KType.{KType}
use Rattle.kotlin_tree.specs.declared.expressions.KPrefix.{KPrefix}
use Rattle.kotlin_tree.specs.declared.expressions.KPrefix.TheVariants as prefix
use Rattle.kotlin_tree.specs.declared.expressions.KBinary.{KBinary}
use Rattle.kotlin_tree.specs.declared.expressions.KBinary.TheVariants as op
use Rattle.kotlin_tree.specs.declared.expressions.KExpr.{KExpr}
use Rattle.kotlin_tree.specs.declared.expressions.KExpr.TheOpen.{KExpr-F}
use Rattle.kotlin_tree.specs.declared.expressions.KExpr.TheVariants as e
use Rattle.kotlin_tree.specs.UpToPlaces.{made}
use Rattle.kotlin_layout.specs.declared.glyphs.Glyph.TheVariants as g
use Rattle.kotlin_layout.specs.declared.parens.Place.{Place}
use Rattle.kotlin_layout.specs.declared.parens.Neighbor.{Neighbor}
use Rattle.kotlin_layout.specs.declared.parens.Neighbor.TheVariants as beside
use Rattle.kotlin_layout.specs.Parens.{needs_by, is_looser_by, mixes_by, clashes_by, level_by, is_as_by, operand_place, left_place, right_place, prefix_place, as_level, is_level, level, right_level, is_angle, is_less as is_less_op}
use Rattle.kotlin_layout.specs.Roles.{Role, Roles, fixed}
use Rattle.kotlin_layout.specs.Shown.{type_roles, operator_glyph, prefix_mark}
use Rattle.kotlin_grammar.specs.declared.letters.Kind.{Kind}
use Rattle.kotlin_grammar.specs.declared.letters.Kind.TheVariants as k
use Rattle.kotlin_grammar.specs.declared.letters.Form.TheVariants as f
use Rattle.kotlin_grammar.specs.declared.letters.Term.TheVariants as t
use Rattle.kotlin_grammar.specs.declared.letters.Way.TheVariants as w
use Rattle.kotlin_grammar.specs.declared.built.Built.{Built}
use Rattle.kotlin_grammar.specs.declared.ahead.Spot.TheVariants as sp
use Rattle.kotlin_grammar.specs.Table.{Symbols, written, accepts}
use Rattle.kotlin_grammar.specs.Ahead.{Letters, letters, letter_by, word_kind as kind_of_word, mark_kind, keyword_kind, arguments_follow, names_follow}
use Rattle.kotlin_grammar.specs.Taking.{takes}
use Rattle.kotlin_grammar.specs.Meaning.{taken}
use Rattle.kotlin_canonical_text.specs.Tokens.{token, tokens}
use Rattle.std.proofs.lemmas.Bool.{lt-ltb, ltb-true, le-ltb, ltb-false}
use Rattle.kotlin_canonical_text.specs.Canonical.{Operand, fits, tree_of, depth_of, type_piece, tree_by, depth_by, parts_by, bare_readable, may_be_less, is_less_neighbor, is_prefix_neighbor}
use Rattle.kotlin_canonical_text.proofs.Names.{L, named_plain}
use Rattle.kotlin_canonical_text.proofs.Firsts.{First, Begins, Stops, Scans, Unnamed, starts, begins_mark, begins_more, relaxed_plain, first_less, first_at}
use Rattle.kotlin_canonical_text.proofs.Types.{both, type_good, type_shown, Tight}
use Rattle.kotlin_canonical_text.proofs.Levels.{quiet, After, after_letter, tight_after, Level, number, form_at, Front, left, top, pending, Written, from_level, whole_of, stated_of, operand_of, may_compare, is_greater_neighbor}
use Rattle.kotlin_canonical_text.proofs.Expressions.{Layer, bare, Good, Bare, not_looser}
use Rattle.kotlin_canonical_text.proofs.Forms.{if_false}
use Rattle.kotlin_canonical_text.proofs.Steps.{Der, way, take_blank, act, Fits}
use Rattle.kotlin_canonical_text.proofs.Acts.{place, expr, kind, acts_Prefix, acts_Binary, acts_As, acts_Is}

-- ---- a form at its level

own_level : (p : Place) (l m : Level) (n : ℕ) → p.level ≡ number m → n ≡ number l → nat_lt n p.level ≡ false → nat_lt (number l) (number m) ≡ false
own_level p l m n at is low = sym (ap (λ z. nat_lt z (number m)) is) ∙ sym (ap (nat_lt n) at) ∙ low

pub bare_level : (x : Layer) (l : Level) → is_as_by x ≡ false → level_by x ≡ number l
    → ((p : Place) → bare_readable p x ≡ true → Begins (bare p x)) → ((p : Place) → bare_readable p x ≡ true → Unnamed (bare p x))
    → ((p : Place) → needs_by p x ≡ false → bare_readable p x ≡ true → nat_lt 4 p.level ≡ true → Scans (bare p x))
    → ((p : Place) → needs_by p x ≡ false → bare_readable p x ≡ true → Written p l (suc (depth_by p x)) (tree_by p x) (bare p x)) → Bare x
bare_level x l not_as own begins unnamed scans post = record {
  begins = begins;
  unnamed = unnamed;
  scans = scans;
  written = λ m p at is readable. from_level l p _ _ _ m (own_level p l m (level_by x) at own (low p is)) (post p is readable);
  whole = λ p at is readable. whole_of l p _ _ _ (post p is readable);
  stated = λ p at is readable fit. stated_of l p _ _ _ fit (post p is readable);
}
  where
    low : (p : Place) → needs_by p x ≡ false → nat_lt (level_by x) p.level ≡ false
    low p is = sym (ap (λ z. if z then nat_lt 0 p.level else nat_lt (level_by x) p.level) not_as) ∙ not_looser p x is

-- ---- operators before an operand

narrow : (p : Place) (o : KPrefix) → may_compare (prefix_place o p) ≡ true → ⊥
narrow p o h = if_false p.in_list h

prefix_after : (p : Place) (o : KPrefix) (r : Roles) → After p (L gap.Plain r) → After (prefix_place o p) (L gap.Plain r)
prefix_after p o r after = record { free = after.free; calm = after.calm; plain = λ h. absurd (cc h); stops = λ h. absurd (narrow p o h) }

prefix_reads : (o : KPrefix) (front : Front) (d : ℕ) (x : KExpr) (R : Roles) (s : Symbols) (b : Built) (r : Roles) (new : Built) → Fits d → First R r
    → ((s : Symbols) (b : Built) → Der s (expr d x b) (L gap.Plain r) new → Der (y.Form f.Prefixed ∷ s) b (L gap.Plain (R ++ r)) new)
    → Der (left front Level.Pre s) (expr (suc d) (e.Prefix o made x) b) (L gap.Plain r) new → Der (top front Level.Pre s) b (L gap.Plain (Role.Fixed (g.Mark (prefix_mark o)) ∷ (R ++ r))) new
unfolding written takes letters tokens accepts taken mark_kind
prefix_reads prefix.Plus Front.Inner d x R s b r new fit first operand h = way w.PrefixedMark (take_blank (relaxed_plain R r first) refl (operand _ _ (act (acts_Prefix (q.Mark m.Plus) d x prefix.Plus b refl fit) h)))
prefix_reads prefix.Plus Front.Outer d x R s b r new fit first operand h = way w.StatementPrefix (take_blank (relaxed_plain R r first) refl (operand _ _ (act (acts_Prefix (q.Mark m.Plus) d x prefix.Plus b refl fit) h)))
prefix_reads prefix.Minus Front.Inner d x R s b r new fit first operand h = way w.PrefixedMark (take_blank (relaxed_plain R r first) refl (operand _ _ (act (acts_Prefix (q.Mark m.Minus) d x prefix.Minus b refl fit) h)))
prefix_reads prefix.Minus Front.Outer d x R s b r new fit first operand h = way w.StatementPrefix (take_blank (relaxed_plain R r first) refl (operand _ _ (act (acts_Prefix (q.Mark m.Minus) d x prefix.Minus b refl fit) h)))
prefix_reads prefix.Not Front.Inner d x R s b r new fit first operand h = way w.PrefixedMark (take_blank (relaxed_plain R r first) refl (operand _ _ (act (acts_Prefix (q.Mark m.Not) d x prefix.Not b refl fit) h)))
prefix_reads prefix.Not Front.Outer d x R s b r new fit first operand h = way w.StatementPrefix (take_blank (relaxed_plain R r first) refl (operand _ _ (act (acts_Prefix (q.Mark m.Not) d x prefix.Not b refl fit) h)))
prefix_reads prefix.Increment Front.Inner d x R s b r new fit first operand h = way w.PrefixedMark (take_blank (relaxed_plain R r first) refl (operand _ _ (act (acts_Prefix (q.Mark m.PlusPlus) d x prefix.Increment b refl fit) h)))
prefix_reads prefix.Increment Front.Outer d x R s b r new fit first operand h = way w.StatementPrefix (take_blank (relaxed_plain R r first) refl (operand _ _ (act (acts_Prefix (q.Mark m.PlusPlus) d x prefix.Increment b refl fit) h)))
prefix_reads prefix.Decrement Front.Inner d x R s b r new fit first operand h = way w.PrefixedMark (take_blank (relaxed_plain R r first) refl (operand _ _ (act (acts_Prefix (q.Mark m.MinusMinus) d x prefix.Decrement b refl fit) h)))
prefix_reads prefix.Decrement Front.Outer d x R s b r new fit first operand h = way w.StatementPrefix (take_blank (relaxed_plain R r first) refl (operand _ _ (act (acts_Prefix (q.Mark m.MinusMinus) d x prefix.Decrement b refl fit) h)))

prefix_begins : (o : KPrefix) (xs : Roles) → Begins (Role.Fixed (g.Mark (prefix_mark o)) ∷ xs)
unfolding starts mark_kind
prefix_begins prefix.Plus xs = begins_mark m.Plus xs (λ r. refl)
prefix_begins prefix.Minus xs = begins_mark m.Minus xs (λ r. refl)
prefix_begins prefix.Not xs = begins_mark m.Not xs (λ r. refl)
prefix_begins prefix.Increment xs = begins_mark m.PlusPlus xs (λ r. refl)
prefix_begins prefix.Decrement xs = begins_mark m.MinusMinus xs (λ r. refl)

prefix_unnamed : (o : KPrefix) (xs : Roles) → Unnamed (Role.Fixed (g.Mark (prefix_mark o)) ∷ xs)
unfolding letters tokens mark_kind names_follow accepts
prefix_unnamed prefix.Plus xs r i = refl
prefix_unnamed prefix.Minus xs r i = refl
prefix_unnamed prefix.Not xs r i = refl
prefix_unnamed prefix.Increment xs r i = refl
prefix_unnamed prefix.Decrement xs r i = refl

prefix_scans : (o : KPrefix) (xs : Roles) → Scans (Role.Fixed (g.Mark (prefix_mark o)) ∷ xs)
unfolding letters tokens mark_kind arguments_follow accepts
prefix_scans prefix.Plus xs n r i = refl
prefix_scans prefix.Minus xs n r i = refl
prefix_scans prefix.Not xs n r i = refl
prefix_scans prefix.Increment xs n r i = refl
prefix_scans prefix.Decrement xs n r i = refl

pub prefix_bare : (o : KPrefix) (at : Position) (v : Operand) → Good v → Bare (KExpr-F.Prefix o at v)
prefix_bare o at v good =
    let c : Layer = KExpr-F.Prefix o at v in
    bare_level c Level.Pre refl refl
    (λ p is. prefix_begins o (v.roles (prefix_place o p)))
    (λ p is. prefix_unnamed o (v.roles (prefix_place o p)))
    (λ p is readable high. prefix_scans o (v.roles (prefix_place o p)))
    (λ p is readable front s b r new after h.
    let halves = both (v.readable (prefix_place o p)) (fits (v.depth (prefix_place o p))) readable in
    prefix_reads o front (v.depth (prefix_place o p)) (v.tree (prefix_place o p)) (v.roles (prefix_place o p)) s b r new halves.1 (good.begins (prefix_place o p) halves.0 r)
    (λ s b h. good.written Level.Pre (prefix_place o p) refl halves.0 Front.Inner s b r new (prefix_after p o r after) h) h)

-- ---- `as` and `is`

as_after : (p : Place) (r : Roles) → After p (L gap.Plain (Role.Fixed g.Blank ∷ Role.Fixed (g.Keyword kw.As) ∷ r))
unfolding letters tokens keyword_kind arguments_follow
as_after p r = record { free = refl; calm = refl; plain = λ h. refl; stops = λ h n. refl }

is_after : (p : Place) (r : Roles) → After p (L gap.Plain (Role.Fixed g.Blank ∷ Role.Fixed (g.Keyword kw.Is) ∷ r))
unfolding letters tokens keyword_kind arguments_follow
is_after p r = record { free = refl; calm = refl; plain = λ h. refl; stops = λ h n. refl }

as_named : (r : Roles) → names_follow true (L gap.Plain (Role.Fixed g.Blank ∷ Role.Fixed (g.Keyword kw.As) ∷ r)) ≡ false
unfolding letters tokens keyword_kind names_follow
as_named r = refl

is_named : (r : Roles) → names_follow true (L gap.Plain (Role.Fixed g.Blank ∷ Role.Fixed (g.Keyword kw.Is) ∷ r)) ≡ false
unfolding letters tokens keyword_kind names_follow
is_named r = refl

abbrev spaced : Keyword → Roles → Roles
spaced x r = Role.Fixed g.Blank ∷ Role.Fixed (g.Keyword x) ∷ Role.Fixed g.Blank ∷ r

typed_apart : (A T : Roles) (x : Keyword) (T2 : Roles) (r : Roles) → T ≡ T2 → (((A ++ fixed (g.Blank ∷ g.Keyword x ∷ g.Blank ∷ [])) ++ T) ++ r) ≡ (A ++ spaced x (T2 ++ r))
typed_apart A T x T2 r same =
    append_assoc (A ++ fixed (g.Blank ∷ g.Keyword x ∷ g.Blank ∷ [])) T r
    ∙ append_assoc A (fixed (g.Blank ∷ g.Keyword x ∷ g.Blank ∷ [])) (T ++ r)
    ∙ ap (λ z. A ++ spaced x (z ++ r)) same

as_reads : (kind : KType) (d : ℕ) (x : KExpr) (s : Symbols) (b : Built) (r : Roles) (new : Built) → (type_piece kind).readable ≡ true → Tight r → Fits (max (depth_of (type_piece kind)) d)
    → Der (y.Form f.CastTail ∷ s) (expr (suc (max (depth_of (type_piece kind)) d)) (e.As x made (tree_of (type_piece kind))) b) (L gap.Plain r) new
    → Der (y.Form f.CastTail ∷ s) (expr d x b) (L gap.Plain (spaced kw.As ((type_piece kind).roles ++ r))) new
unfolding written takes letters tokens accepts taken keyword_kind
as_reads kind d x s b r new readable tight fit h = way w.CastMore (take_blank (relaxed_plain (type_piece kind).roles r ((type_good kind).begins r)) refl
    ((type_good kind).reads readable _ (place (expr d x b)) r new tight
    (act (acts_As d x (depth_of (type_piece kind)) (tree_of (type_piece kind)) b fit) h)))

is_reads : (kind : KType) (d : ℕ) (x : KExpr) (s : Symbols) (b : Built) (r : Roles) (new : Built) → (type_piece kind).readable ≡ true → Tight r → Fits (max (depth_of (type_piece kind)) d)
    → Der (y.Form f.IsTail ∷ s) (expr (suc (max (depth_of (type_piece kind)) d)) (e.Is x made (tree_of (type_piece kind))) b) (L gap.Plain r) new
    → Der (y.Form f.IsTail ∷ s) (expr d x b) (L gap.Plain (spaced kw.Is ((type_piece kind).roles ++ r))) new
unfolding written takes letters tokens accepts taken keyword_kind
is_reads kind d x s b r new readable tight fit h = way w.IsMore (take_blank (relaxed_plain (type_piece kind).roles r ((type_good kind).begins r)) refl
    ((type_good kind).reads readable _ (place (expr d x b)) r new tight
    (act (acts_Is d x (depth_of (type_piece kind)) (tree_of (type_piece kind)) b fit) h)))

pub tight_free : (p : Place) → nat_lt 0 p.level ≡ false → may_be_less p ≡ false
tight_free p low = ap (λ z. if z then (if is_less_neighbor p.neighbor then true else (if is_prefix_neighbor p.neighbor then nat_lt 9 p.level else false)) else false) low

lt_nine : (n : ℕ) → nat_lt 5 n ≡ false → nat_lt 9 n ≡ false
lt_nine n low = le-ltb 9 n (omega (arith, ltb-false 5 n low))

as_written : (v : Operand) (at : Position) (kind : KType) → Good v → (p : Place) → nat_lt 0 p.level ≡ false → bare_readable p (KExpr-F.As v at kind) ≡ true
    → Written p Level.Cast (suc (depth_by p (KExpr-F.As v at kind))) (tree_by p (KExpr-F.As v at kind)) (bare p (KExpr-F.As v at kind))
as_written v at kind good p low readable front s b r new after h =
    let c : Layer = KExpr-F.As v at kind in
    let halves = both (parts_by p c) (fits (depth_by p c)) readable in
    let parts = both (v.readable (operand_place as_level p)) (type_piece kind).readable halves.0 in
    subst (λ z. Der (top front Level.Cast s) b (L gap.Plain z) new) (sym (typed_apart (v.roles (operand_place as_level p)) (type_roles kind) kw.As (type_piece kind).roles r (sym (type_shown kind))))
    (good.written Level.Cast (operand_place as_level p) refl parts.0 front s b (spaced kw.As ((type_piece kind).roles ++ r)) new (as_after (operand_place as_level p) _)
    (as_reads kind (v.depth (operand_place as_level p)) (v.tree (operand_place as_level p)) (left front Level.Cast s) b r new parts.1 (tight_after p r after (tight_free p low)) halves.1 h))

pub has_level : (l : Level) → nat_lt 0 (number l) ≡ true
has_level Level.Or = refl
has_level Level.And = refl
has_level Level.Equality = refl
has_level Level.Comparison = refl
has_level Level.Is = refl
has_level Level.Infix = refl
has_level Level.Sum = refl
has_level Level.Product = refl
has_level Level.Cast = refl
has_level Level.Pre = refl
has_level Level.Post = refl

pub contradict : (n : ℕ) → nat_lt 4 n ≡ true → nat_lt 0 n ≡ false → ⊥
contradict n high low = omega (arith, ltb-true 4 n high, ltb-false 0 n low)

pub as_bare : (v : Operand) (at : Position) (kind : KType) → Good v → Bare (KExpr-F.As v at kind)
as_bare v at kind good =
    let c : Layer = KExpr-F.As v at kind in
    let inner : (p : Place) → bare_readable p c ≡ true → v.readable (operand_place as_level p) ≡ true = λ p readable.
    (both (v.readable (operand_place as_level p)) (type_piece kind).readable (both (parts_by p c) (fits (depth_by p c)) readable).0).0 in
    record {
      begins = λ p readable. begins_more (v.roles (operand_place as_level p) ++ fixed (g.Blank ∷ g.Keyword kw.As ∷ g.Blank ∷ [])) (type_roles kind)
          (begins_more (v.roles (operand_place as_level p)) (fixed (g.Blank ∷ g.Keyword kw.As ∷ g.Blank ∷ [])) (good.begins (operand_place as_level p) (inner p readable)));
      unnamed = λ p readable r i. ap (λ z. names_follow false (L gap.Plain z)) (typed_apart (v.roles (operand_place as_level p)) (type_roles kind) kw.As (type_roles kind) r refl)
          ∙ good.unnamed (operand_place as_level p) (inner p readable) (spaced kw.As (type_roles kind ++ r)) (as_named _);
      scans = λ p is readable high n r i. absurd (contradict p.level high (not_looser p c is));
      written = λ l p level is readable. absurd (true_false (sym (has_level l) ∙ (sym (ap (nat_lt 0) level) ∙ not_looser p c is)));
      whole = λ p level is readable. whole_of Level.Cast p _ _ _ (as_written v at kind good p (not_looser p c is) readable);
      stated = λ p level is readable fit. stated_of Level.Cast p _ _ _ fit (as_written v at kind good p (not_looser p c is) readable);
    }
  where
    true_false : true ≡ false → ⊥
    true_false h = absurd (cc h)

third_false : (a b c : Bool) → (a || b || c) ≡ false → c ≡ false
third_false true b c h = absurd (cc h)
third_false false true c h = absurd (cc h)
third_false false false c h = h

second_false : (a b c : Bool) → (a || b || c) ≡ false → b ≡ false
second_false true b c h = absurd (cc h)
second_false false true c h = absurd (cc h)
second_false false false c h = refl

either_false : (b c : Bool) → c ≡ false → (if b then c else false) ≡ false
either_false true c h = h
either_false false c h = refl

abbrev IsOf : Operand → Position → KType → Layer
IsOf v at kind = KExpr-F.Is v at kind

is_tight : (v : Operand) (at : Position) (kind : KType) (nb : Neighbor) (n : ℕ) → nat_lt 5 n ≡ false → clashes_by nb (IsOf v at kind) ≡ false
    → (if nat_lt 0 n then (if is_less_neighbor nb then true else (if is_prefix_neighbor nb then nat_lt 9 n else false)) else false) ≡ false
is_tight v at kind beside.Other n low clash = either_false (nat_lt 0 n) false refl
is_tight v at kind (beside.Prefix o) n low clash = either_false (nat_lt 0 n) (nat_lt 9 n) (lt_nine n low)
is_tight v at kind beside.Less n low clash = absurd (cc clash)
is_tight v at kind beside.Greater n low clash = either_false (nat_lt 0 n) false refl

is_written : (v : Operand) (at : Position) (kind : KType) → Good v → (p : Place) → needs_by p (IsOf v at kind) ≡ false → bare_readable p (IsOf v at kind) ≡ true
    → Written p Level.Is (suc (depth_by p (IsOf v at kind))) (tree_by p (IsOf v at kind)) (bare p (IsOf v at kind))
is_written v at kind good p is readable front s b r new after h =
    let c : Layer = KExpr-F.Is v at kind in
    let halves = both (parts_by p c) (fits (depth_by p c)) readable in
    let parts = both (v.readable (operand_place is_level p)) (type_piece kind).readable halves.0 in
    let tight = is_tight v at kind p.neighbor p.level (not_looser p c is) (third_false (is_looser_by p c) (mixes_by p c) (clashes_by p.neighbor c) is) in
    subst (λ z. Der (top front Level.Is s) b (L gap.Plain z) new) (sym (typed_apart (v.roles (operand_place is_level p)) (type_roles kind) kw.Is (type_piece kind).roles r (sym (type_shown kind))))
    (good.written Level.Is (operand_place is_level p) refl parts.0 front s b (spaced kw.Is ((type_piece kind).roles ++ r)) new (is_after (operand_place is_level p) _)
    (is_reads kind (v.depth (operand_place is_level p)) (v.tree (operand_place is_level p)) (left front Level.Is s) b r new parts.1 (tight_after p r after tight) halves.1 h))

is_stops : (r : Roles) → Stops (L gap.Plain (Role.Fixed g.Blank ∷ Role.Fixed (g.Keyword kw.Is) ∷ r))
unfolding letters tokens keyword_kind arguments_follow
is_stops r n = refl

pub is_bare : (v : Operand) (at : Position) (kind : KType) → Good v → Bare (KExpr-F.Is v at kind)
is_bare v at kind good =
    let c : Layer = KExpr-F.Is v at kind in
    let q : Place → Place = λ p. operand_place is_level p in
    let inner : (p : Place) → bare_readable p c ≡ true → v.readable (operand_place is_level p) ≡ true = λ p readable.
    (both (v.readable (operand_place is_level p)) (type_piece kind).readable (both (parts_by p c) (fits (depth_by p c)) readable).0).0 in
    bare_level c Level.Is refl refl
    (λ p readable. begins_more (v.roles (operand_place is_level p) ++ fixed (g.Blank ∷ g.Keyword kw.Is ∷ g.Blank ∷ [])) (type_roles kind)
    (begins_more (v.roles (operand_place is_level p)) (fixed (g.Blank ∷ g.Keyword kw.Is ∷ g.Blank ∷ [])) (good.begins (operand_place is_level p) (inner p readable))))
    (λ p readable r i. ap (λ z. names_follow false (L gap.Plain z)) (typed_apart (v.roles (operand_place is_level p)) (type_roles kind) kw.Is (type_roles kind) r refl)
    ∙ good.unnamed (operand_place is_level p) (inner p readable) (spaced kw.Is (type_roles kind ++ r)) (is_named _))
    (λ p is readable high n r i. ap (λ z. arguments_follow sp.Type n (L gap.Plain z)) (typed_apart (v.roles (operand_place is_level p)) (type_roles kind) kw.Is (type_roles kind) r refl)
    ∙ good.scans (operand_place is_level p) (inner p readable) refl n (spaced kw.Is (type_roles kind ++ r)) (is_stops _))
    (λ p is readable. is_written v at kind good p is readable)

-- ---- operators between operands

abbrev lv : KBinary → Level
lv op.OrElse = Level.Or
lv op.AndAlso = Level.And
lv op.Equal = Level.Equality
lv op.NotEqual = Level.Equality
lv op.Same = Level.Equality
lv op.NotSame = Level.Equality
lv op.Less = Level.Comparison
lv op.Greater = Level.Comparison
lv op.LessEqual = Level.Comparison
lv op.GreaterEqual = Level.Comparison
lv op.ShiftLeft = Level.Infix
lv op.ShiftRight = Level.Infix
lv op.ShiftUnsigned = Level.Infix
lv op.BitAnd = Level.Infix
lv op.BitOr = Level.Infix
lv op.BitXor = Level.Infix
lv op.Add = Level.Sum
lv op.Subtract = Level.Sum
lv op.Multiply = Level.Product
lv op.Divide = Level.Product
lv op.Remainder = Level.Product

abbrev up : Level → Level
up Level.Or = Level.And
up Level.And = Level.Equality
up Level.Equality = Level.Comparison
up Level.Comparison = Level.Is
up Level.Infix = Level.Sum
up Level.Sum = Level.Product
up Level.Product = Level.Cast
up l = l

level_same : (o : KBinary) → level o ≡ number (lv o)
level_same op.OrElse = refl
level_same op.AndAlso = refl
level_same op.Equal = refl
level_same op.NotEqual = refl
level_same op.Same = refl
level_same op.NotSame = refl
level_same op.Less = refl
level_same op.Greater = refl
level_same op.LessEqual = refl
level_same op.GreaterEqual = refl
level_same op.ShiftLeft = refl
level_same op.ShiftRight = refl
level_same op.ShiftUnsigned = refl
level_same op.BitAnd = refl
level_same op.BitOr = refl
level_same op.BitXor = refl
level_same op.Add = refl
level_same op.Subtract = refl
level_same op.Multiply = refl
level_same op.Divide = refl
level_same op.Remainder = refl

up_same : (o : KBinary) → right_level o ≡ number (up (lv o))
up_same op.OrElse = refl
up_same op.AndAlso = refl
up_same op.Equal = refl
up_same op.NotEqual = refl
up_same op.Same = refl
up_same op.NotSame = refl
up_same op.Less = refl
up_same op.Greater = refl
up_same op.LessEqual = refl
up_same op.GreaterEqual = refl
up_same op.ShiftLeft = refl
up_same op.ShiftRight = refl
up_same op.ShiftUnsigned = refl
up_same op.BitAnd = refl
up_same op.BitOr = refl
up_same op.BitXor = refl
up_same op.Add = refl
up_same op.Subtract = refl
up_same op.Multiply = refl
up_same op.Divide = refl
up_same op.Remainder = refl

op_small : (o : KBinary) → nat_lt 9 (level o) ≡ false
op_small op.OrElse = refl
op_small op.AndAlso = refl
op_small op.Equal = refl
op_small op.NotEqual = refl
op_small op.Same = refl
op_small op.NotSame = refl
op_small op.Less = refl
op_small op.Greater = refl
op_small op.LessEqual = refl
op_small op.GreaterEqual = refl
op_small op.ShiftLeft = refl
op_small op.ShiftRight = refl
op_small op.ShiftUnsigned = refl
op_small op.BitAnd = refl
op_small op.BitOr = refl
op_small op.BitXor = refl
op_small op.Add = refl
op_small op.Subtract = refl
op_small op.Multiply = refl
op_small op.Divide = refl
op_small op.Remainder = refl

abbrev op_token : KBinary → TokenKind
op_token op.OrElse = q.Mark m.OrOr
op_token op.AndAlso = q.Mark m.AndAnd
op_token op.Equal = q.Mark m.Equal
op_token op.NotEqual = q.Mark m.NotEqual
op_token op.Same = q.Mark m.Identical
op_token op.NotSame = q.Mark m.NotIdentical
op_token op.Less = q.Mark m.Less
op_token op.Greater = q.Mark m.Greater
op_token op.LessEqual = q.Mark m.LessEqual
op_token op.GreaterEqual = q.Mark m.GreaterEqual
op_token op.ShiftLeft = q.Word o.Shl
op_token op.ShiftRight = q.Word o.Shr
op_token op.ShiftUnsigned = q.Word o.Ushr
op_token op.BitAnd = q.Word o.And
op_token op.BitOr = q.Word o.Or
op_token op.BitXor = q.Word o.Xor
op_token op.Add = q.Mark m.Plus
op_token op.Subtract = q.Mark m.Minus
op_token op.Multiply = q.Mark m.Star
op_token op.Divide = q.Mark m.Slash
op_token op.Remainder = q.Mark m.Percent

abbrev op_kind : KBinary → Kind
op_kind op.OrElse = k.OrOr
op_kind op.AndAlso = k.AndAnd
op_kind op.Equal = k.Equality
op_kind op.NotEqual = k.Equality
op_kind op.Same = k.Equality
op_kind op.NotSame = k.Equality
op_kind op.Less = k.Less
op_kind op.Greater = k.Greater
op_kind op.LessEqual = k.Compare
op_kind op.GreaterEqual = k.Compare
op_kind op.ShiftLeft = k.InfixWord
op_kind op.ShiftRight = k.InfixWord
op_kind op.ShiftUnsigned = k.InfixWord
op_kind op.BitAnd = k.InfixWord
op_kind op.BitOr = k.InfixWord
op_kind op.BitXor = k.InfixWord
op_kind op.Add = k.Sign
op_kind op.Subtract = k.Sign
op_kind op.Multiply = k.Times
op_kind op.Divide = k.Times
op_kind op.Remainder = k.Times

abbrev op_letters : KBinary → Roles → Letters
op_letters o xs = record { kind = op_kind o; token = token (op_token o) gap.Plain } ∷ L gap.Plain xs

abbrev op_roles : KBinary → Roles → Roles
op_roles o xs = Role.Fixed g.Blank ∷ Role.Fixed (operator_glyph o) ∷ Role.Fixed g.Blank ∷ xs

op_seen : (o : KBinary) (R r : Roles) → First R r → L gap.Plain (op_roles o (R ++ r)) ≡ op_letters o (R ++ r)
unfolding letters tokens mark_kind kind_of_word
op_seen op.OrElse R r f = refl
op_seen op.AndAlso R r f = refl
op_seen op.Equal R r f = refl
op_seen op.NotEqual R r f = refl
op_seen op.Same R r f = refl
op_seen op.NotSame R r f = refl
op_seen op.Less R r f = refl
op_seen op.Greater R r f = refl
op_seen op.LessEqual R r f = refl
op_seen op.GreaterEqual R r f = refl
op_seen op.ShiftLeft R r f = ap (λ z. letter_by z (token (q.Word o.Shl) gap.Plain) ∷ L gap.Plain (R ++ r)) (named_plain k.InfixWord (L gap.Plain (R ++ r)) (first_less R r gap.Plain f) (first_at R r gap.Plain f))
op_seen op.ShiftRight R r f = ap (λ z. letter_by z (token (q.Word o.Shr) gap.Plain) ∷ L gap.Plain (R ++ r)) (named_plain k.InfixWord (L gap.Plain (R ++ r)) (first_less R r gap.Plain f) (first_at R r gap.Plain f))
op_seen op.ShiftUnsigned R r f = ap (λ z. letter_by z (token (q.Word o.Ushr) gap.Plain) ∷ L gap.Plain (R ++ r)) (named_plain k.InfixWord (L gap.Plain (R ++ r)) (first_less R r gap.Plain f) (first_at R r gap.Plain f))
op_seen op.BitAnd R r f = ap (λ z. letter_by z (token (q.Word o.And) gap.Plain) ∷ L gap.Plain (R ++ r)) (named_plain k.InfixWord (L gap.Plain (R ++ r)) (first_less R r gap.Plain f) (first_at R r gap.Plain f))
op_seen op.BitOr R r f = ap (λ z. letter_by z (token (q.Word o.Or) gap.Plain) ∷ L gap.Plain (R ++ r)) (named_plain k.InfixWord (L gap.Plain (R ++ r)) (first_less R r gap.Plain f) (first_at R r gap.Plain f))
op_seen op.BitXor R r f = ap (λ z. letter_by z (token (q.Word o.Xor) gap.Plain) ∷ L gap.Plain (R ++ r)) (named_plain k.InfixWord (L gap.Plain (R ++ r)) (first_less R r gap.Plain f) (first_at R r gap.Plain f))
op_seen op.Add R r f = refl
op_seen op.Subtract R r f = refl
op_seen op.Multiply R r f = refl
op_seen op.Divide R r f = refl
op_seen op.Remainder R r f = refl

op_named : (o : KBinary) (ls : Letters) → names_follow true (record { kind = op_kind o; token = token (op_token o) gap.Plain } ∷ ls) ≡ false
unfolding names_follow
op_named op.OrElse ls = refl
op_named op.AndAlso ls = refl
op_named op.Equal ls = refl
op_named op.NotEqual ls = refl
op_named op.Same ls = refl
op_named op.NotSame ls = refl
op_named op.Less ls = refl
op_named op.Greater ls = refl
op_named op.LessEqual ls = refl
op_named op.GreaterEqual ls = refl
op_named op.ShiftLeft ls = refl
op_named op.ShiftRight ls = refl
op_named op.ShiftUnsigned ls = refl
op_named op.BitAnd ls = refl
op_named op.BitOr ls = refl
op_named op.BitXor ls = refl
op_named op.Add ls = refl
op_named op.Subtract ls = refl
op_named op.Multiply ls = refl
op_named op.Divide ls = refl
op_named op.Remainder ls = refl

op_stops : (o : KBinary) (ls : Letters) → nat_lt 4 (level o) ≡ true → Stops (record { kind = op_kind o; token = token (op_token o) gap.Plain } ∷ ls)
unfolding arguments_follow
op_stops op.OrElse ls high = absurd (cc high)
op_stops op.AndAlso ls high = absurd (cc high)
op_stops op.Equal ls high = absurd (cc high)
op_stops op.NotEqual ls high = absurd (cc high)
op_stops op.Same ls high = absurd (cc high)
op_stops op.NotSame ls high = absurd (cc high)
op_stops op.Less ls high = absurd (cc high)
op_stops op.Greater ls high = absurd (cc high)
op_stops op.LessEqual ls high = absurd (cc high)
op_stops op.GreaterEqual ls high = absurd (cc high)
op_stops op.ShiftLeft ls high = λ n. refl
op_stops op.ShiftRight ls high = λ n. refl
op_stops op.ShiftUnsigned ls high = λ n. refl
op_stops op.BitAnd ls high = λ n. refl
op_stops op.BitOr ls high = λ n. refl
op_stops op.BitXor ls high = λ n. refl
op_stops op.Add ls high = λ n. refl
op_stops op.Subtract ls high = λ n. refl
op_stops op.Multiply ls high = λ n. refl
op_stops op.Divide ls high = λ n. refl
op_stops op.Remainder ls high = λ n. refl

op_reads : (o : KBinary) (X : Symbols) (b : Built) (R r : Roles) (new : Built) (d g : ℕ) (x z : KExpr) → First R r → Fits (max g d)
    → ((s : Symbols) (b : Built) → Der s (expr g z b) (L gap.Plain r) new → Der (y.Form (form_at (up (lv o))) ∷ s) b (L gap.Plain (R ++ r)) new)
    → Der (pending (lv o) X) (expr (suc (max g d)) (e.Binary x o made z) b) (L gap.Plain r) new → Der (pending (lv o) X) (expr d x b) (L gap.Plain (op_roles o (R ++ r))) new
unfolding written takes accepts taken
op_reads op.OrElse X b R r new d g x z first fit operand h = way w.OrMore (take_blank (relaxed_plain R r first) (ap (takes taken (t.Only k.OrOr) (expr d x b)) (op_seen op.OrElse R r first)) (operand _ _ (act (acts_Binary d x (op_token op.OrElse) g z op.OrElse b refl fit) h)))
op_reads op.AndAlso X b R r new d g x z first fit operand h = way w.AndMore (take_blank (relaxed_plain R r first) (ap (takes taken (t.Only k.AndAnd) (expr d x b)) (op_seen op.AndAlso R r first)) (operand _ _ (act (acts_Binary d x (op_token op.AndAlso) g z op.AndAlso b refl fit) h)))
op_reads op.Equal X b R r new d g x z first fit operand h = way w.EqualMore (take_blank (relaxed_plain R r first) (ap (takes taken (t.Only k.Equality) (expr d x b)) (op_seen op.Equal R r first)) (operand _ _ (act (acts_Binary d x (op_token op.Equal) g z op.Equal b refl fit) h)))
op_reads op.NotEqual X b R r new d g x z first fit operand h = way w.EqualMore (take_blank (relaxed_plain R r first) (ap (takes taken (t.Only k.Equality) (expr d x b)) (op_seen op.NotEqual R r first)) (operand _ _ (act (acts_Binary d x (op_token op.NotEqual) g z op.NotEqual b refl fit) h)))
op_reads op.Same X b R r new d g x z first fit operand h = way w.EqualMore (take_blank (relaxed_plain R r first) (ap (takes taken (t.Only k.Equality) (expr d x b)) (op_seen op.Same R r first)) (operand _ _ (act (acts_Binary d x (op_token op.Same) g z op.Same b refl fit) h)))
op_reads op.NotSame X b R r new d g x z first fit operand h = way w.EqualMore (take_blank (relaxed_plain R r first) (ap (takes taken (t.Only k.Equality) (expr d x b)) (op_seen op.NotSame R r first)) (operand _ _ (act (acts_Binary d x (op_token op.NotSame) g z op.NotSame b refl fit) h)))
op_reads op.Less X b R r new d g x z first fit operand h = way w.CompareMore (take_blank (relaxed_plain R r first) (ap (takes taken t.CompareMark (expr d x b)) (op_seen op.Less R r first)) (operand _ _ (act (acts_Binary d x (op_token op.Less) g z op.Less b refl fit) h)))
op_reads op.Greater X b R r new d g x z first fit operand h = way w.CompareMore (take_blank (relaxed_plain R r first) (ap (takes taken t.CompareMark (expr d x b)) (op_seen op.Greater R r first)) (operand _ _ (act (acts_Binary d x (op_token op.Greater) g z op.Greater b refl fit) h)))
op_reads op.LessEqual X b R r new d g x z first fit operand h = way w.CompareMore (take_blank (relaxed_plain R r first) (ap (takes taken t.CompareMark (expr d x b)) (op_seen op.LessEqual R r first)) (operand _ _ (act (acts_Binary d x (op_token op.LessEqual) g z op.LessEqual b refl fit) h)))
op_reads op.GreaterEqual X b R r new d g x z first fit operand h = way w.CompareMore (take_blank (relaxed_plain R r first) (ap (takes taken t.CompareMark (expr d x b)) (op_seen op.GreaterEqual R r first)) (operand _ _ (act (acts_Binary d x (op_token op.GreaterEqual) g z op.GreaterEqual b refl fit) h)))
op_reads op.ShiftLeft X b R r new d g x z first fit operand h = way w.InfixMore (take_blank (relaxed_plain R r first) (ap (takes taken (t.Only k.InfixWord) (expr d x b)) (op_seen op.ShiftLeft R r first)) (operand _ _ (act (acts_Binary d x (op_token op.ShiftLeft) g z op.ShiftLeft b refl fit) h)))
op_reads op.ShiftRight X b R r new d g x z first fit operand h = way w.InfixMore (take_blank (relaxed_plain R r first) (ap (takes taken (t.Only k.InfixWord) (expr d x b)) (op_seen op.ShiftRight R r first)) (operand _ _ (act (acts_Binary d x (op_token op.ShiftRight) g z op.ShiftRight b refl fit) h)))
op_reads op.ShiftUnsigned X b R r new d g x z first fit operand h = way w.InfixMore (take_blank (relaxed_plain R r first) (ap (takes taken (t.Only k.InfixWord) (expr d x b)) (op_seen op.ShiftUnsigned R r first)) (operand _ _ (act (acts_Binary d x (op_token op.ShiftUnsigned) g z op.ShiftUnsigned b refl fit) h)))
op_reads op.BitAnd X b R r new d g x z first fit operand h = way w.InfixMore (take_blank (relaxed_plain R r first) (ap (takes taken (t.Only k.InfixWord) (expr d x b)) (op_seen op.BitAnd R r first)) (operand _ _ (act (acts_Binary d x (op_token op.BitAnd) g z op.BitAnd b refl fit) h)))
op_reads op.BitOr X b R r new d g x z first fit operand h = way w.InfixMore (take_blank (relaxed_plain R r first) (ap (takes taken (t.Only k.InfixWord) (expr d x b)) (op_seen op.BitOr R r first)) (operand _ _ (act (acts_Binary d x (op_token op.BitOr) g z op.BitOr b refl fit) h)))
op_reads op.BitXor X b R r new d g x z first fit operand h = way w.InfixMore (take_blank (relaxed_plain R r first) (ap (takes taken (t.Only k.InfixWord) (expr d x b)) (op_seen op.BitXor R r first)) (operand _ _ (act (acts_Binary d x (op_token op.BitXor) g z op.BitXor b refl fit) h)))
op_reads op.Add X b R r new d g x z first fit operand h = way w.SumMore (take_blank (relaxed_plain R r first) (ap (takes taken (t.Only k.Sign) (expr d x b)) (op_seen op.Add R r first)) (operand _ _ (act (acts_Binary d x (op_token op.Add) g z op.Add b refl fit) h)))
op_reads op.Subtract X b R r new d g x z first fit operand h = way w.SumMore (take_blank (relaxed_plain R r first) (ap (takes taken (t.Only k.Sign) (expr d x b)) (op_seen op.Subtract R r first)) (operand _ _ (act (acts_Binary d x (op_token op.Subtract) g z op.Subtract b refl fit) h)))
op_reads op.Multiply X b R r new d g x z first fit operand h = way w.ProductMore (take_blank (relaxed_plain R r first) (ap (takes taken (t.Only k.Times) (expr d x b)) (op_seen op.Multiply R r first)) (operand _ _ (act (acts_Binary d x (op_token op.Multiply) g z op.Multiply b refl fit) h)))
op_reads op.Divide X b R r new d g x z first fit operand h = way w.ProductMore (take_blank (relaxed_plain R r first) (ap (takes taken (t.Only k.Times) (expr d x b)) (op_seen op.Divide R r first)) (operand _ _ (act (acts_Binary d x (op_token op.Divide) g z op.Divide b refl fit) h)))
op_reads op.Remainder X b R r new d g x z first fit operand h = way w.ProductMore (take_blank (relaxed_plain R r first) (ap (takes taken (t.Only k.Times) (expr d x b)) (op_seen op.Remainder R r first)) (operand _ _ (act (acts_Binary d x (op_token op.Remainder) g z op.Remainder b refl fit) h)))

-- what stands behind the left operand
op_after : (o : KBinary) (p : Place) (R r : Roles) → First R r → (is_less_op o ≡ true → Scans R × Stops (L gap.Plain r)) → After (left_place o p) (op_letters o (R ++ r))
unfolding quiet arguments_follow
op_after op.OrElse p R r f less = after_letter _ _ _ refl
op_after op.AndAlso p R r f less = after_letter _ _ _ refl
op_after op.Equal p R r f less = after_letter _ _ _ refl
op_after op.NotEqual p R r f less = after_letter _ _ _ refl
op_after op.Same p R r f less = after_letter _ _ _ refl
op_after op.NotSame p R r f less = after_letter _ _ _ refl
op_after op.Less p R r f less = record { free = (less refl).0 0 r (less refl).1; calm = refl; plain = λ h. absurd (cc h); stops = λ h n. (less refl).0 (suc n) r (less refl).1 }
op_after op.Greater p R r f less = record { free = refl; calm = refl; plain = λ h. refl; stops = λ h. absurd (if_false p.in_list h) }
op_after op.LessEqual p R r f less = after_letter _ _ _ refl
op_after op.GreaterEqual p R r f less = after_letter _ _ _ refl
op_after op.ShiftLeft p R r f less = after_letter _ _ _ refl
op_after op.ShiftRight p R r f less = after_letter _ _ _ refl
op_after op.ShiftUnsigned p R r f less = after_letter _ _ _ refl
op_after op.BitAnd p R r f less = after_letter _ _ _ refl
op_after op.BitOr p R r f less = after_letter _ _ _ refl
op_after op.BitXor p R r f less = after_letter _ _ _ refl
op_after op.Add p R r f less = after_letter _ _ _ refl
op_after op.Subtract p R r f less = after_letter _ _ _ refl
op_after op.Multiply p R r f less = after_letter _ _ _ refl
op_after op.Divide p R r f less = after_letter _ _ _ refl
op_after op.Remainder p R r f less = after_letter _ _ _ refl

weaken_less : (nb : Neighbor) (n m : ℕ) → nat_lt n m ≡ false → nat_lt 9 n ≡ false
    → (if nat_lt 0 (n + 1) then (if is_less_neighbor nb then true else (if is_prefix_neighbor nb then nat_lt 9 (n + 1) else false)) else false) ≡ false
    → (if nat_lt 0 m then (if is_less_neighbor nb then true else (if is_prefix_neighbor nb then nat_lt 9 m else false)) else false) ≡ false
weaken_less beside.Other n m low small h = either_false (nat_lt 0 m) false refl
weaken_less beside.Greater n m low small h = either_false (nat_lt 0 m) false refl
weaken_less (beside.Prefix o) n m low small h = either_false (nat_lt 0 m) (nat_lt 9 m) (le-ltb 9 m (omega (arith, ltb-false n m low, ltb-false 9 n small)))
weaken_less beside.Less n m low small h =
    let i : true ≡ false = sym (ap (λ z. if z then true else false) (lt-ltb 0 (n + 1) (omega arith))) ∙ h in
    absurd (cc i)

compare_by : (il a b c d gr : Bool) → (a ≡ true → c ≡ true) → b ≡ true → (if il then false else (if a then (if b then gr else true) else false)) ≡ true → (if il then false else (if c then (if d then gr else true) else false)) ≡ true
compare_by true a b c d gr f i h = absurd (cc h)
compare_by false false b c d gr f i h = absurd (cc h)
compare_by false true false c d gr f i h = absurd (cc i)
compare_by false true true true true gr f i h = h
compare_by false true true true false gr f i h = refl
compare_by false true true false d gr f i h = absurd (cc (f refl))

right_after : (o : KBinary) (p : Place) (r : Roles) → nat_lt (level o) p.level ≡ false → After p (L gap.Plain r) → After (right_place o p) (L gap.Plain r)
right_after o p r low after = record {
  free = after.free;
  calm = after.calm;
  plain = λ h. after.plain (weaken_less p.neighbor (level o) p.level low (op_small o) h);
  stops = λ h. after.stops (compare_by p.in_list (nat_lt (level o + 1) 5) (nat_lt 0 (level o + 1)) (nat_lt p.level 5) (nat_lt 0 p.level) (not (is_greater_neighbor p.neighbor))
      (λ i. lt-ltb p.level 5 (omega (arith, ltb-true (level o + 1) 5 i, ltb-false (level o) p.level low))) (lt-ltb 0 (level o + 1) (omega arith)) h);
}

may_by : (il a b : Bool) (nb : Neighbor) → (il && true) ≡ false → a ≡ true → (is_greater_neighbor nb ≡ false) → (if il then false else (if a then (if b then not (is_greater_neighbor nb) else true) else false)) ≡ true
may_by true a b nb i j h = absurd (cc i)
may_by false false b nb i j h = absurd (cc j)
may_by false true false nb i j h = refl
may_by false true true nb i j h = ap not h

module _ (x : Operand) (o : KBinary) (at : Position) (z : Operand) (left_good : Good x) (right_good : Good z) where
  abbrev c : Layer
  c = KExpr-F.Binary x o at z

  parts : (p : Place) → bare_readable p c ≡ true → (x.readable (left_place o p) ≡ true) × (z.readable (right_place o p) ≡ true) × Fits (max (z.depth (right_place o p)) (x.depth (left_place o p)))
  parts p readable =
      let a = both (parts_by p c) (fits (depth_by p c)) readable in
      let b = both (x.readable (left_place o p)) (z.readable (right_place o p)) a.0 in
      (b.0, b.1, a.1)

  apart : (p : Place) (r : Roles) → (bare p c ++ r) ≡ (x.roles (left_place o p) ++ op_roles o (z.roles (right_place o p) ++ r))
  apart p r =
      append_assoc (x.roles (left_place o p) ++ fixed (g.Blank ∷ operator_glyph o ∷ g.Blank ∷ [])) (z.roles (right_place o p)) r
      ∙ append_assoc (x.roles (left_place o p)) (fixed (g.Blank ∷ operator_glyph o ∷ g.Blank ∷ [])) (z.roles (right_place o p) ++ r)

  greater_no : (nb : Neighbor) → is_less_op o ≡ true → clashes_by nb c ≡ false → is_greater_neighbor nb ≡ false
  greater_no beside.Other less h = refl
  greater_no (beside.Prefix i) less h = refl
  greater_no beside.Less less h = refl
  greater_no beside.Greater less h = absurd (true_false (sym less ∙ h))
    where
      true_false : true ≡ false → ⊥
      true_false h = absurd (cc h)

  less_facts : (p : Place) (r : Roles) → needs_by p c ≡ false → bare_readable p c ≡ true → After p (L gap.Plain r) → is_less_op o ≡ true → Scans (z.roles (right_place o p)) × Stops (L gap.Plain r)
  less_facts p r is readable after less =
      let low = not_looser p c is in
      let four : level o ≡ 4 = less_level o less in (
        right_good.scans (right_place o p) (parts p readable).1 (ap (λ n. nat_lt 4 (n + 1)) four),
        after.stops (may_by p.in_list (nat_lt p.level 5) (nat_lt 0 p.level) p.neighbor
            (sym (ap (λ b. p.in_list && b) (less_angle o less)) ∙ second_false (is_looser_by p c) (mixes_by p c) (clashes_by p.neighbor c) is)
            (lt-ltb p.level 5 (omega (arith, ltb-false (level o) p.level low, four)))
            (greater_no p.neighbor less (third_false (is_looser_by p c) (mixes_by p c) (clashes_by p.neighbor c) is))),
      )
    where
      less_level : (o : KBinary) → is_less_op o ≡ true → level o ≡ 4
      less_level op.Less h = refl
      less_level _ h = absurd (cc h)

      less_angle : (o : KBinary) → is_less_op o ≡ true → is_angle o ≡ true
      less_angle op.Less h = refl
      less_angle _ h = absurd (cc h)

  written_as : (p : Place) → needs_by p c ≡ false → bare_readable p c ≡ true → Written p (lv o) (suc (depth_by p c)) (tree_by p c) (bare p c)
  written_as p is readable front s b r new after h =
      let R = z.roles (right_place o p) in
      let first = right_good.begins (right_place o p) (parts p readable).1 r in
      subst (λ u. Der (top front (lv o) s) b (L gap.Plain u) new) (sym (apart p r))
      (left_good.written (lv o) (left_place o p) (level_same o) (parts p readable).0 front s b (op_roles o (R ++ r)) new
      (subst (After (left_place o p)) (sym (op_seen o R r first)) (op_after o p R r first (less_facts p r is readable after)))
      (op_reads o (left front (lv o) s) b R r new (x.depth (left_place o p)) (z.depth (right_place o p)) (x.tree (left_place o p)) (z.tree (right_place o p)) first (parts p readable).2
      (λ s b h. operand_of (up (lv o)) (right_place o p) (z.depth (right_place o p)) (z.tree (right_place o p)) R s b r new
      (right_good.written (up (lv o)) (right_place o p) (up_same o) (parts p readable).1) (right_after o p r (not_looser p c is) after) h) h))

  pub binary_bare : Bare (KExpr-F.Binary x o at z)
  binary_bare = bare_level c (lv o) refl (level_same o)
      (λ p readable. begins_more (x.roles (left_place o p) ++ fixed (g.Blank ∷ operator_glyph o ∷ g.Blank ∷ [])) (z.roles (right_place o p))
      (begins_more (x.roles (left_place o p)) (fixed (g.Blank ∷ operator_glyph o ∷ g.Blank ∷ [])) (left_good.begins (left_place o p) (parts p readable).0)))
      (λ p readable r i.
      let R = z.roles (right_place o p) in
      let first = right_good.begins (right_place o p) (parts p readable).1 r in
      ap (λ u. names_follow false (L gap.Plain u)) (apart p r) ∙ left_good.unnamed (left_place o p) (parts p readable).0 (op_roles o (R ++ r))
      (ap (names_follow true) (op_seen o R r first) ∙ op_named o (L gap.Plain (R ++ r))))
      (λ p is readable high n r i.
      let R = z.roles (right_place o p) in
      let first = right_good.begins (right_place o p) (parts p readable).1 r in
      let tall : nat_lt 4 (level o) ≡ true = lt-ltb 4 (level o) (omega (arith, ltb-true 4 p.level high, ltb-false (level o) p.level (not_looser p c is))) in
      ap (λ u. arguments_follow sp.Type n (L gap.Plain u)) (apart p r) ∙ left_good.scans (left_place o p) (parts p readable).0 tall n (op_roles o (R ++ r))
      (subst Stops (sym (op_seen o R r first)) (op_stops o (L gap.Plain (R ++ r)) tall)))
      written_as
