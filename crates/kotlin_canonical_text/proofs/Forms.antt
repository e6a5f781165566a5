-- Forms of expressions that are first operands.
use Rattle.std.proofs.Common.{◌≡◌, ℕ, suc, Bool, true, false, List, [], ◌∷◌, ◌++◌, map, Option, Some, None, refl, ap, sym, subst, ◌∙◌, append_assoc}
use Rattle.std.specs.Prelude.{if◌then◌else◌, ◌&&◌, max}
use Rattle.std.specs.Option.{option_map}
use Rattle.grammar.specs.declared.symbols.Symbol.TheVariants as y
use Rattle.kotlin_tree.specs.declared.places.Position.{Position}
use Rattle.kotlin_tree.specs.declared.places.Brackets.{Brackets}
use Rattle.kotlin_tree.specs.declared.tokens.Gap.{Gap}
use Rattle.kotlin_tree.specs.declared.tokens.Gap.TheVariants as gap
use Rattle.kotlin_tree.specs.declared.tokens.Mark.TheVariants as m
use Rattle.kotlin_tree.specs.declared.tokens.Keyword.TheVariants as kw
use Rattle.kotlin_tree.specs.declared.tokens.TokenKind.TheVariants as q
use Rattle.kotlin_tree.specs.declared.types.KName.{KName}
use Rattle.kotlin_tree.specs.declared.types.KTypeArguments.{KTypeArguments}
use Rattle.kotlin_tree.specs.declared.expressions.KLiteral.{KLiteral}
use Rattle.kotlin_tree.specs.declared.expressions.KLiteral.TheVariants as literal
use Rattle.kotlin_tree.specs.declared.expressions.KPostfix.{KPostfix}
use Rattle.kotlin_tree.specs.declared.expressions.KPostfix.TheVariants as postfix
use Rattle.kotlin_tree.specs.declared.expressions.KSuperAt.{KSuperAt}
use Rattle.kotlin_tree.specs.declared.expressions.KExpr.{KExpr}
use Rattle.kotlin_tree.specs.declared.expressions.KExpr.TheOpen.{KExpr-F}
use Rattle.kotlin_tree.specs.declared.expressions.KExpr.TheVariants as e
use Rattle.kotlin_tree.specs.UpToPlaces.{made, made_brackets, made_super}
use Rattle.kotlin_layout.specs.declared.glyphs.Glyph.TheVariants as g
use Rattle.kotlin_layout.specs.declared.parens.Place.{Place}
use Rattle.kotlin_layout.specs.declared.parens.Neighbor.TheVariants as beside
use Rattle.kotlin_layout.specs.Parens.{free_place, list_place, operand_place, postfix_level}
use Rattle.kotlin_layout.specs.Roles.{Role, Roles, fixed, listed, comma}
use Rattle.kotlin_layout.specs.Shown.{in_round, in_angles, arguments_roles, type_arguments_roles, postfix_mark}
use Rattle.kotlin_grammar.specs.declared.letters.Kind.TheVariants as k
use Rattle.kotlin_grammar.specs.declared.letters.Form.TheVariants as f
use Rattle.kotlin_grammar.specs.declared.letters.Term.TheVariants as t
use Rattle.kotlin_grammar.specs.declared.letters.Way.TheVariants as w
use Rattle.kotlin_grammar.specs.declared.built.Built.{Built}
use Rattle.kotlin_grammar.specs.declared.ahead.Spot.TheVariants as sp
use Rattle.kotlin_grammar.specs.Table.{Symbols, written, accepts}
use Rattle.kotlin_grammar.specs.Ahead.{Letters, letters, kind_of, named, mark_kind, keyword_kind, arguments_ahead, arguments_follow, names_follow, stands, is_curly}
use Rattle.kotlin_grammar.specs.Taking.{takes}
use Rattle.kotlin_grammar.specs.Meaning.{taken, literal_of}
use Rattle.kotlin_canonical_text.specs.Tokens.{tokens, literal_token}
use Rattle.kotlin_canonical_text.specs.Canonical.{Operand, fits, commas_of, roles_of, roles_at, all_at, all_readable, arguments_at, deepest_at, arguments_tree, arguments_depth, arguments_readable, types_readable, type_pieces, is_some, tree_by, depth_by, parts_by, bare_readable}
use Rattle.kotlin_canonical_text.proofs.Names.{L, Free, name_made, takes_name, takes_generic}
use Rattle.kotlin_canonical_text.proofs.Firsts.{Stops, Scans, Unnamed, starts, begins_keyword, begins_literal, begins_name, relaxed_plain, scan_name, unnamed_name}
use Rattle.kotlin_canonical_text.proofs.Types.{both, types_good, types_shown, pass_arguments, arguments_read}
use Rattle.kotlin_canonical_text.proofs.Levels.{After, Level, left, top, pending, Written, Whole, plain_front}
use Rattle.kotlin_canonical_text.proofs.Expressions.{Layer, bare, Good, Bare, bare_post, round_written, begins_round, unnamed_round, scans_round, AllRead, round_args, listed_exprs}
use Rattle.kotlin_canonical_text.proofs.Steps.{Der, way, take, take_blank, act, Fits}
use Rattle.kotlin_canonical_text.proofs.Acts.{place, tok, nm, expr, args, acts_Literal, acts_Name, acts_This, acts_Call, acts_GenericCall, acts_SuperCall, acts_Field, acts_Method, acts_GenericMethod, acts_Element, acts_Postfix}

-- ---- literals, names, `this`, parentheses

literal_starts : (x : KLiteral) (ls : Letters) → starts (kind_of (literal_token x) ls) ≡ true
unfolding starts keyword_kind
literal_starts (literal.Integer x) ls = refl
literal_starts (literal.Long x) ls = refl
literal_starts (literal.Character x) ls = refl
literal_starts (literal.Text x) ls = refl
literal_starts literal.True ls = refl
literal_starts literal.False ls = refl
literal_starts literal.Null ls = refl

literal_unnamed : (x : KLiteral) (r : Roles) → names_follow false (L gap.Plain (Role.Literal x ∷ r)) ≡ false
unfolding letters tokens keyword_kind names_follow accepts
literal_unnamed (literal.Integer x) r = refl
literal_unnamed (literal.Long x) r = refl
literal_unnamed (literal.Character x) r = refl
literal_unnamed (literal.Text x) r = refl
literal_unnamed literal.True r = refl
literal_unnamed literal.False r = refl
literal_unnamed literal.Null r = refl

literal_scans : (x : KLiteral) (n : ℕ) (r : Roles) → arguments_follow sp.Type n (L gap.Plain (Role.Literal x ∷ r)) ≡ false
unfolding letters tokens keyword_kind arguments_follow accepts
literal_scans (literal.Integer x) n r = refl
literal_scans (literal.Long x) n r = refl
literal_scans (literal.Character x) n r = refl
literal_scans (literal.Text x) n r = refl
literal_scans literal.True n r = refl
literal_scans literal.False n r = refl
literal_scans literal.Null n r = refl

takes_literal : (x : KLiteral) (b : Built) (r : Roles) → takes taken (t.Only k.Literal) b (L gap.Plain (Role.Literal x ∷ r)) ≡ Some (tok (literal_token x) b, L gap.Plain r)
unfolding takes letters tokens accepts taken keyword_kind
takes_literal (literal.Integer x) b r = refl
takes_literal (literal.Long x) b r = refl
takes_literal (literal.Character x) b r = refl
takes_literal (literal.Text x) b r = refl
takes_literal literal.True b r = refl
takes_literal literal.False b r = refl
takes_literal literal.Null b r = refl

literal_same : (x : KLiteral) → literal_of (literal_token x) ≡ Some x
literal_same (literal.Integer x) = refl
literal_same (literal.Long x) = refl
literal_same (literal.Character x) = refl
literal_same (literal.Text x) = refl
literal_same literal.True = refl
literal_same literal.False = refl
literal_same literal.Null = refl

literal_post : (p : Place) (x : KLiteral) → Written p Level.Post 1 (e.Literal x made) (Role.Literal x ∷ [])
unfolding written
literal_post p x front s b r new after h = plain_front front s b _ new (way w.PlainLiteral (take (takes_literal x b r) (act (acts_Literal (literal_token x) x b (literal_same x)) h)))

pub literal_bare : (x : KLiteral) (at : Position) → Bare (KExpr-F.Literal x at)
literal_bare x at = bare_post (KExpr-F.Literal x at) (λ p is. begins_literal x [] (λ r. literal_starts x (L gap.Plain ([] ++ r)))) (λ p is r i. literal_unnamed x r) (λ p is n r i. literal_scans x n r) (λ p is. literal_post p x)

name_post : (p : Place) (n : List ℕ) → Written p Level.Post 1 (e.Name (name_made n)) (Role.Name n ∷ [])
unfolding written
name_post p n front s b r new after h = plain_front front s b _ new (way w.PlainNamed (take (takes_name n r b after.free (λ is. after.calm)) (way w.NamedOnly (act (acts_Name n b) h))))

pub name_bare : (x : KName) → Bare (KExpr-F.Name x)
name_bare x = bare_post (KExpr-F.Name x) (λ p is. begins_name x.name []) (λ p is r i. unnamed_name x.name r i) (λ p is n r i. scan_name n x.name r i) (λ p is. name_post p x.name)

this_post : (p : Place) → Written p Level.Post 1 (e.This made) (fixed (g.Keyword kw.This ∷ []))
unfolding written takes letters tokens accepts taken keyword_kind
this_post p front s b r new after h = plain_front front s b _ new (way w.PlainThis (take refl (act (acts_This b) h)))

this_scans : Scans (fixed (g.Keyword kw.This ∷ []))
unfolding letters tokens keyword_kind arguments_follow accepts
this_scans n r i = refl

this_unnamed : Unnamed (fixed (g.Keyword kw.This ∷ []))
unfolding letters tokens keyword_kind names_follow accepts
this_unnamed r i = refl

pub this_bare : (at : Position) → Bare (KExpr-F.This at)
unfolding starts keyword_kind
this_bare at = bare_post (KExpr-F.This at) (λ p is. begins_keyword kw.This [] (λ r. refl)) (λ p is. this_unnamed) (λ p is. this_scans) (λ p is. this_post p)

pub paren_bare : (round : Brackets) (v : Operand) → Good v → Bare (KExpr-F.Paren round v)
paren_bare round v good = bare_post (KExpr-F.Paren round v) (λ p is. begins_round (v.roles free_place)) (λ p is. unnamed_round (v.roles free_place)) (λ p is. scans_round (v.roles free_place))
    (λ p is. let halves = both (v.readable free_place) (fits (v.depth free_place)) is in
    round_written p (v.depth free_place) (v.tree free_place) (v.roles free_place) halves.1 (good.whole free_place refl halves.0))

-- ---- type arguments of a call

abbrev generics : KTypeArguments → Roles
generics types = in_angles (map roles_of (type_pieces types.items))

-- a name with type arguments before `(` is one
ahead_of : (types : KTypeArguments) (z r : Roles) → arguments_readable types ≡ true → arguments_ahead (L gap.Plain (generics types ++ (in_round z ++ r))) ≡ true
unfolding letters tokens mark_kind
ahead_of types z r readable =
    let xs = type_pieces types.items in
    let halves = both (is_some xs) (all_readable xs) readable in
    pass_arguments xs 0 (in_round z ++ r) halves.0 (types_good types.items) halves.1

stops_generics : (types : KTypeArguments) (z r : Roles) → arguments_readable types ≡ true → Stops (L gap.Plain (generics types ++ (in_round z ++ r)))
unfolding letters tokens mark_kind arguments_follow
stops_generics types z r readable n =
    let xs = type_pieces types.items in
    let halves = both (is_some xs) (all_readable xs) readable in
    pass_arguments xs (suc n) (in_round z ++ r) halves.0 (types_good types.items) halves.1

stops_round : (z r : Roles) → Stops (L gap.Plain (in_round z ++ r))
unfolding letters tokens mark_kind arguments_follow
stops_round z r n = refl

free_round : (z r : Roles) → Free (L gap.Plain (in_round z ++ r))
unfolding letters tokens mark_kind
free_round z r = refl

calm_round : (z r : Roles) → stands is_curly (L gap.Plain (in_round z ++ r)) ≡ false
unfolding letters tokens mark_kind
calm_round z r = refl

abbrev pub types_roles : Option KTypeArguments → Roles
types_roles None = []
types_roles (Some types) = generics types

types_same : (types : Option KTypeArguments) → type_arguments_roles types ≡ types_roles types
types_same None = refl
types_same (Some types) = ap in_angles (sym (types_shown types.items))

stops_types : (types : Option KTypeArguments) (z r : Roles) → types_readable types ≡ true → Stops (L gap.Plain (types_roles types ++ (in_round z ++ r)))
stops_types None z r readable = stops_round z r
stops_types (Some types) z r readable = stops_generics types z r readable

named_types : (types : Option KTypeArguments) (z r : Roles) → names_follow true (L gap.Plain (types_roles types ++ (in_round z ++ r))) ≡ false
unfolding letters tokens mark_kind names_follow
named_types None z r = refl
named_types (Some types) z r = refl

-- ---- calls

abbrev arguments : List Operand → Roles
arguments xs = arguments_roles (map roles_at xs)

-- how deep the parts of a call are
abbrev call_depth : Option KTypeArguments → ℕ → ℕ
call_depth None d = d
call_depth (Some types) d = max d (arguments_depth types)

call_reads : (n : List ℕ) (types : Option KTypeArguments) (xs : List Operand) (s : Symbols) (b : Built) (r : Roles) (new : Built) → AllRead xs → types_readable types ≡ true → all_at list_place xs ≡ true
    → Fits (call_depth types (deepest_at xs))
    → Der s (expr (suc (call_depth types (deepest_at xs))) (e.Call (name_made n) (option_map arguments_tree types) made_brackets (arguments_at xs) (commas_of xs)) b) (L gap.Plain r) new
    → Der (y.Form f.Plain ∷ s) b (L gap.Plain (Role.Name n ∷ (types_roles types ++ (arguments xs ++ r)))) new
unfolding written
call_reads n None xs s b r new good typed readable fit h =
    way w.PlainNamed (take (takes_name n (arguments xs ++ r) b (free_round (listed_exprs xs) r) (λ is. calm_round (listed_exprs xs) r))
    (way w.NamedCall (round_args xs _ (nm n b) r new good readable
    (act (acts_Call n (deepest_at xs) (arguments_at xs) (commas_of xs) b fit) h))))
call_reads n (Some types) xs s b r new good typed readable fit h =
    let ts = type_pieces types.items in
    let halves = both (is_some ts) (all_readable ts) typed in
    way w.PlainGeneric (take (takes_generic n ((listed comma (map roles_of ts) ++ fixed (g.Mark m.Greater ∷ [])) ++ (arguments xs ++ r)) b (ahead_of types (listed_exprs xs) r typed))
    (arguments_read ts _ (nm n b) (arguments xs ++ r) new halves.0 (types_good types.items) halves.1
    (way w.GenericCall (round_args xs _ (args (arguments_depth types) (arguments_tree types) (nm n b)) r new good readable
    (act (acts_GenericCall n (arguments_depth types) (arguments_tree types) (deepest_at xs) (arguments_at xs) (commas_of xs) b fit) h)))))

call_apart : (n : List ℕ) (types : Option KTypeArguments) (xs : List Operand) (r : Roles)
    → (((Role.Name n ∷ type_arguments_roles types) ++ arguments xs) ++ r) ≡ (Role.Name n ∷ (types_roles types ++ (arguments xs ++ r)))
call_apart n types xs r = append_assoc (Role.Name n ∷ type_arguments_roles types) (arguments xs) r ∙ ap (λ z. Role.Name n ∷ (z ++ (arguments xs ++ r))) (types_same types)

call_depth_same : (x : KName) (types : Option KTypeArguments) (round : Brackets) (xs : List Operand) (commas : List Position) (p : Place) → depth_by p (KExpr-F.Call x types round xs commas) ≡ call_depth types (deepest_at xs)
call_depth_same x None round xs commas p = refl
call_depth_same x (Some types) round xs commas p = refl

pub call_bare : (x : KName) (types : Option KTypeArguments) (round : Brackets) (xs : List Operand) (commas : List Position) → AllRead xs → Bare (KExpr-F.Call x types round xs commas)
call_bare x types round xs commas good =
    let c : Layer = KExpr-F.Call x types round xs commas in
    bare_post c
    (λ p is. begins_name x.name (type_arguments_roles types ++ arguments xs))
    (λ p is r i. ap (λ z. names_follow false (L gap.Plain z)) (call_apart x.name types xs r) ∙ unnamed_name x.name (types_roles types ++ (arguments xs ++ r)) (named_types types (listed_exprs xs) r))
    (λ p is n r i. ap (λ z. arguments_follow sp.Type n (L gap.Plain z)) (call_apart x.name types xs r)
    ∙ scan_name n x.name (types_roles types ++ (arguments xs ++ r)) (stops_types types (listed_exprs xs) r (both (types_readable types) (all_at list_place xs) (both (parts_by p c) (fits (depth_by p c)) is).0).0))
    (λ p is front s b r new after h.
    let parts = both (types_readable types) (all_at list_place xs) (both (parts_by p c) (fits (depth_by p c)) is).0 in
    subst (λ z. Der (top front Level.Post s) b (L gap.Plain z) new) (sym (call_apart x.name types xs r))
    (plain_front front s b _ new (call_reads x.name types xs _ b r new good parts.0 parts.1
    (sym (ap fits (call_depth_same x types round xs commas p)) ∙ (both (parts_by p c) (fits (depth_by p c)) is).1)
    (subst (λ d. Der (pending Level.Post (left front Level.Post s)) (expr (suc d) (tree_by p c) b) (L gap.Plain r) new) (call_depth_same x types round xs commas p) h))))

-- ---- `super`

super_post : (p : Place) (n : List ℕ) (xs : List Operand) → AllRead xs → all_at list_place xs ≡ true → Fits (deepest_at xs)
    → Written p Level.Post (suc (deepest_at xs)) (e.SuperCall made_super (name_made n) made_brackets (arguments_at xs) (commas_of xs)) ((fixed (g.Keyword kw.Super ∷ g.Mark m.Dot ∷ []) ++ Role.Name n ∷ []) ++ arguments xs)
unfolding written takes letters tokens accepts taken keyword_kind mark_kind
super_post p n xs good readable fit front s b r new after h = plain_front front s b _ new
    (way w.PlainSuper (take refl (take_blank (relaxed_plain (Role.Name n ∷ []) (arguments xs ++ r) (begins_name n [] (arguments xs ++ r))) refl
    (take (takes_name n (arguments xs ++ r) (place (place b)) (free_round (listed_exprs xs) r) (λ is. calm_round (listed_exprs xs) r))
    (round_args xs _ (nm n (place (place b))) r new good readable
    (act (acts_SuperCall n (deepest_at xs) (arguments_at xs) (commas_of xs) b fit) h))))))

abbrev super_more : List ℕ → List Operand → Roles
super_more n xs = Role.Fixed (g.Mark m.Dot) ∷ Role.Name n ∷ arguments xs

super_scans : (xs : Roles) → Scans (Role.Fixed (g.Keyword kw.Super) ∷ xs)
unfolding letters tokens keyword_kind arguments_follow accepts
super_scans xs n r i = refl

super_unnamed : (xs : Roles) → Unnamed (Role.Fixed (g.Keyword kw.Super) ∷ xs)
unfolding letters tokens keyword_kind names_follow accepts
super_unnamed xs r i = refl

pub super_bare : (at : KSuperAt) (x : KName) (round : Brackets) (xs : List Operand) (commas : List Position) → AllRead xs → Bare (KExpr-F.SuperCall at x round xs commas)
unfolding starts keyword_kind
super_bare at x round xs commas good =
    bare_post (KExpr-F.SuperCall at x round xs commas) (λ p is. begins_keyword kw.Super (super_more x.name xs) (λ r. refl)) (λ p is. super_unnamed (super_more x.name xs)) (λ p is. super_scans (super_more x.name xs))
    (λ p is. let halves = both (all_at list_place xs) (fits (deepest_at xs)) is in super_post p x.name xs good halves.0 halves.1)

-- ---- what stands behind an operand

pub if_false : (b : Bool) → (if b then false else false) ≡ true → ⊥
if_false true h = absurd (cc h)
if_false false h = absurd (cc h)

abbrev pub at_post : Place → Place
at_post p = operand_place postfix_level p

pub suffix_bare : (x : Layer) (v : Operand) (S : Roles → Roles) → Good v
    → ((p : Place) (r : Roles) → (bare p x ++ r) ≡ (v.roles (at_post p) ++ S r))
    → ((p : Place) → bare_readable p x ≡ true → v.readable (at_post p) ≡ true)
    → ((p : Place) → bare_readable p x ≡ true → (r : Roles) → names_follow true (L gap.Plain (S r)) ≡ false)
    → ((p : Place) → bare_readable p x ≡ true → (r : Roles) → Stops (L gap.Plain r) → Stops (L gap.Plain (S r)))
    → ((p : Place) (r : Roles) → After (at_post p) (L gap.Plain (S r)))
    → ((p : Place) → bare_readable p x ≡ true → (s : Symbols) (b : Built) (r : Roles) (new : Built) → After p (L gap.Plain r)
    → Der (y.Form f.Suffixes ∷ s) (expr (suc (depth_by p x)) (tree_by p x) b) (L gap.Plain r) new
    → Der (y.Form f.Suffixes ∷ s) (expr (v.depth (at_post p)) (v.tree (at_post p)) b) (L gap.Plain (S r)) new)
    → Bare x
suffix_bare x v S good apart inner named stops after reads = bare_post x
    (λ p is r. let found = good.begins (at_post p) (inner p is) (S r) in
    record { kind = found.kind; front = found.front; more = found.more; is = λ h. shift h (bare p x ++ r) (v.roles (at_post p) ++ S r) (apart p r) ∙ found.is h; ok = found.ok })
    (λ p is r i. ap (λ z. names_follow false (L gap.Plain z)) (apart p r) ∙ good.unnamed (at_post p) (inner p is) (S r) (named p is r))
    (λ p is n r i. ap (λ z. arguments_follow sp.Type n (L gap.Plain z)) (apart p r) ∙ good.scans (at_post p) (inner p is) refl n (S r) (stops p is r i))
    (λ p is front s b r new behind h. subst (λ z. Der (top front Level.Post s) b (L gap.Plain z) new) (sym (apart p r))
    (good.written Level.Post (at_post p) refl (inner p is) front s b (S r) new (after p r) (reads p is _ b r new behind h)))
  where
    shift : (h : Gap) (a c : Roles) → a ≡ c → L h a ≡ L h c
    shift h a c e = ap (L h) e

-- ---- members

dotted_after : (p : Place) (r : Roles) → After (at_post p) (L gap.Plain (Role.Fixed (g.Mark m.Dot) ∷ r))
unfolding letters tokens mark_kind
dotted_after p r = record { free = refl; calm = refl; plain = λ h. refl; stops = λ h. absurd (if_false p.in_list h) }

dotted_named : (r : Roles) → names_follow true (L gap.Plain (Role.Fixed (g.Mark m.Dot) ∷ r)) ≡ false
unfolding letters tokens mark_kind names_follow
dotted_named r = refl

dotted_stops : (n : List ℕ) (r : Roles) → Stops (L gap.Plain r) → Stops (L gap.Plain (Role.Fixed (g.Mark m.Dot) ∷ Role.Name n ∷ r))
unfolding letters tokens mark_kind arguments_follow
dotted_stops n r stops i = scan_name i n r stops

abbrev dot : List ℕ → Roles → Roles
dot n r = Role.Fixed (g.Mark m.Dot) ∷ Role.Name n ∷ r

field_reads : (p : Place) (n : List ℕ) (d : ℕ) (x : KExpr) (s : Symbols) (b : Built) (r : Roles) (new : Built) → Fits d → After p (L gap.Plain r)
    → Der (y.Form f.Suffixes ∷ s) (expr (suc d) (e.Field x made (name_made n)) b) (L gap.Plain r) new → Der (y.Form f.Suffixes ∷ s) (expr d x b) (L gap.Plain (dot n r)) new
unfolding written takes letters tokens accepts taken mark_kind
field_reads p n d x s b r new fit after h = way w.SuffixDot (take_blank (relaxed_plain (Role.Name n ∷ []) r (begins_name n [] r)) refl
    (way w.DotNamed (take (takes_name n r (place (expr d x b)) after.free (λ is. after.calm))
    (way w.DottedOnly (act (acts_Field d x n b fit) h)))))

pub field_bare : (v : Operand) (at : Position) (x : KName) → Good v → Bare (KExpr-F.Field v at x)
field_bare v at x good =
    let c : Layer = KExpr-F.Field v at x in
    suffix_bare c v (λ r. dot x.name r) good
    (λ p r. append_assoc (v.roles (at_post p) ++ fixed (g.Mark m.Dot ∷ [])) (Role.Name x.name ∷ []) r ∙ append_assoc (v.roles (at_post p)) (fixed (g.Mark m.Dot ∷ [])) (Role.Name x.name ∷ r))
    (λ p is. (both (parts_by p c) (fits (depth_by p c)) is).0)
    (λ p is r. dotted_named (Role.Name x.name ∷ r))
    (λ p is r. dotted_stops x.name r)
    (λ p r. dotted_after p (Role.Name x.name ∷ r))
    (λ p is s b r new after h. field_reads p x.name (v.depth (at_post p)) (v.tree (at_post p)) s b r new (both (parts_by p c) (fits (depth_by p c)) is).1 after h)

abbrev method_depth : Option KTypeArguments → ℕ → ℕ → ℕ
method_depth None g d = max g d
method_depth (Some types) g d = max (max g (arguments_depth types)) d

method_reads : (n : List ℕ) (types : Option KTypeArguments) (xs : List Operand) (d : ℕ) (x : KExpr) (s : Symbols) (b : Built) (r : Roles) (new : Built) → AllRead xs → types_readable types ≡ true → all_at list_place xs ≡ true
    → Fits (method_depth types (deepest_at xs) d)
    → Der (y.Form f.Suffixes ∷ s) (expr (suc (method_depth types (deepest_at xs) d)) (e.Method x made (name_made n) (option_map arguments_tree types) made_brackets (arguments_at xs) (commas_of xs)) b) (L gap.Plain r) new
    → Der (y.Form f.Suffixes ∷ s) (expr d x b) (L gap.Plain (dot n (types_roles types ++ (arguments xs ++ r)))) new
unfolding written takes letters tokens accepts taken mark_kind
method_reads n None xs d x s b r new good typed readable fit h =
    way w.SuffixDot (take_blank (relaxed_plain (Role.Name n ∷ []) (arguments xs ++ r) (begins_name n [] (arguments xs ++ r))) refl
    (way w.DotNamed (take (takes_name n (arguments xs ++ r) (place (expr d x b)) (free_round (listed_exprs xs) r) (λ is. calm_round (listed_exprs xs) r))
    (way w.DottedCall (round_args xs _ (nm n (place (expr d x b))) r new good readable
    (act (acts_Method d x n (deepest_at xs) (arguments_at xs) (commas_of xs) b fit) h))))))
method_reads n (Some types) xs d x s b r new good typed readable fit h =
    let ts = type_pieces types.items in
    let halves = both (is_some ts) (all_readable ts) typed in
    way w.SuffixDot (take_blank (relaxed_plain (Role.Name n ∷ []) (generics types ++ (arguments xs ++ r)) (begins_name n [] (generics types ++ (arguments xs ++ r)))) refl
    (way w.DotGeneric (take (takes_generic n ((listed comma (map roles_of ts) ++ fixed (g.Mark m.Greater ∷ [])) ++ (arguments xs ++ r)) (place (expr d x b)) (ahead_of types (listed_exprs xs) r typed))
    (arguments_read ts _ (nm n (place (expr d x b))) (arguments xs ++ r) new halves.0 (types_good types.items) halves.1
    (way w.DottedGenericCall (round_args xs _ (args (arguments_depth types) (arguments_tree types) (nm n (place (expr d x b)))) r new good readable
    (act (acts_GenericMethod d x n (arguments_depth types) (arguments_tree types) (deepest_at xs) (arguments_at xs) (commas_of xs) b fit) h)))))))

method_depth_same : (v : Operand) (at : Position) (x : KName) (types : Option KTypeArguments) (round : Brackets) (xs : List Operand) (commas : List Position) (p : Place)
    → depth_by p (KExpr-F.Method v at x types round xs commas) ≡ method_depth types (deepest_at xs) (v.depth (at_post p))
method_depth_same v at x None round xs commas p = refl
method_depth_same v at x (Some types) round xs commas p = refl

method_apart : (A : Roles) (n : List ℕ) (types : Option KTypeArguments) (xs : List Operand) (r : Roles)
    → (((((A ++ fixed (g.Mark m.Dot ∷ [])) ++ Role.Name n ∷ []) ++ type_arguments_roles types) ++ arguments xs) ++ r) ≡ (A ++ dot n (types_roles types ++ (arguments xs ++ r)))
method_apart A n types xs r =
    append_assoc (((A ++ fixed (g.Mark m.Dot ∷ [])) ++ Role.Name n ∷ []) ++ type_arguments_roles types) (arguments xs) r
    ∙ append_assoc ((A ++ fixed (g.Mark m.Dot ∷ [])) ++ Role.Name n ∷ []) (type_arguments_roles types) (arguments xs ++ r)
    ∙ append_assoc (A ++ fixed (g.Mark m.Dot ∷ [])) (Role.Name n ∷ []) (type_arguments_roles types ++ (arguments xs ++ r))
    ∙ append_assoc A (fixed (g.Mark m.Dot ∷ [])) (Role.Name n ∷ (type_arguments_roles types ++ (arguments xs ++ r)))
    ∙ ap (λ z. A ++ dot n (z ++ (arguments xs ++ r))) (types_same types)

pub method_bare : (v : Operand) (at : Position) (x : KName) (types : Option KTypeArguments) (round : Brackets) (xs : List Operand) (commas : List Position) → Good v → AllRead xs → Bare (KExpr-F.Method v at x types round xs commas)
method_bare v at x types round xs commas good all =
    let c : Layer = KExpr-F.Method v at x types round xs commas in
    let parts : (p : Place) → bare_readable p c ≡ true → (v.readable (at_post p) ≡ true) × (types_readable types ≡ true) × (all_at list_place xs ≡ true) = λ p is.
    let a = both (v.readable (at_post p) && types_readable types) (all_at list_place xs) (both (parts_by p c) (fits (depth_by p c)) is).0 in
    let b = both (v.readable (at_post p)) (types_readable types) a.0 in (b.0, b.1, a.1) in
    suffix_bare c v (λ r. dot x.name (types_roles types ++ (arguments xs ++ r))) good
    (λ p r. method_apart (v.roles (at_post p)) x.name types xs r)
    (λ p is. (parts p is).0)
    (λ p is r. dotted_named (Role.Name x.name ∷ (types_roles types ++ (arguments xs ++ r))))
    (λ p is r i. dotted_stops x.name (types_roles types ++ (arguments xs ++ r)) (stops_types types (listed_exprs xs) r (parts p is).1))
    (λ p r. dotted_after p (Role.Name x.name ∷ (types_roles types ++ (arguments xs ++ r))))
    (λ p is s b r new after h. method_reads x.name types xs (v.depth (at_post p)) (v.tree (at_post p)) s b r new all (parts p is).1 (parts p is).2
    (sym (ap fits (method_depth_same v at x types round xs commas p)) ∙ (both (parts_by p c) (fits (depth_by p c)) is).1)
    (subst (λ d. Der (y.Form f.Suffixes ∷ s) (expr (suc d) (tree_by p c) b) (L gap.Plain r) new) (method_depth_same v at x types round xs commas p) h))

-- ---- elements

abbrev square : Roles → Roles → Roles
square I r = Role.Fixed (g.Mark m.OpenSquare) ∷ (I ++ (Role.Fixed (g.Mark m.CloseSquare) ∷ r))

square_after : (p : Place) (r : Roles) → After p (L gap.Plain (Role.Fixed (g.Mark m.OpenSquare) ∷ r))
unfolding letters tokens mark_kind arguments_follow
square_after p r = record { free = refl; calm = refl; plain = λ h. refl; stops = λ h n. refl }

close_after : (p : Place) (r : Roles) → After p (L gap.Plain (Role.Fixed (g.Mark m.CloseSquare) ∷ r))
unfolding letters tokens mark_kind arguments_follow
close_after p r = record { free = refl; calm = refl; plain = λ h. refl; stops = λ h n. refl }

square_named : (r : Roles) → names_follow true (L gap.Plain (Role.Fixed (g.Mark m.OpenSquare) ∷ r)) ≡ false
unfolding letters tokens mark_kind names_follow
square_named r = refl

element_reads : (d i : ℕ) (x z : KExpr) (I : Roles) (s : Symbols) (b : Built) (r : Roles) (new : Built) → Fits (max i d) → Whole free_place i z I
    → Der (y.Form f.Suffixes ∷ s) (expr (suc (max i d)) (e.Element x made_brackets z) b) (L gap.Plain r) new → Der (y.Form f.Suffixes ∷ s) (expr d x b) (L gap.Plain (square I r)) new
unfolding written takes letters tokens accepts taken mark_kind
element_reads d i x z I s b r new fit index h = way w.SuffixIndex (take refl
    (index _ (place (expr d x b)) (Role.Fixed (g.Mark m.CloseSquare) ∷ r) new (close_after free_place r)
    (take refl (act (acts_Element d x i z b fit) h))))

pub element_bare : (v : Operand) (at : Brackets) (i : Operand) → Good v → Good i → Bare (KExpr-F.Element v at i)
element_bare v at i good index =
    let c : Layer = KExpr-F.Element v at i in
    let parts : (p : Place) → bare_readable p c ≡ true → (v.readable (at_post p) ≡ true) × (i.readable free_place ≡ true) = λ p is.
    both (v.readable (at_post p)) (i.readable free_place) (both (parts_by p c) (fits (depth_by p c)) is).0 in
    suffix_bare c v (λ r. square (i.roles free_place) r) good
    (λ p r. append_assoc ((v.roles (at_post p) ++ fixed (g.Mark m.OpenSquare ∷ [])) ++ i.roles free_place) (fixed (g.Mark m.CloseSquare ∷ [])) r
    ∙ append_assoc (v.roles (at_post p) ++ fixed (g.Mark m.OpenSquare ∷ [])) (i.roles free_place) (Role.Fixed (g.Mark m.CloseSquare) ∷ r)
    ∙ append_assoc (v.roles (at_post p)) (fixed (g.Mark m.OpenSquare ∷ [])) (i.roles free_place ++ (Role.Fixed (g.Mark m.CloseSquare) ∷ r)))
    (λ p is. (parts p is).0)
    (λ p is r. square_named (i.roles free_place ++ (Role.Fixed (g.Mark m.CloseSquare) ∷ r)))
    (λ p is r stops. (square_after (record { level = 0; in_list = false; neighbor = beside.Other }) (i.roles free_place ++ (Role.Fixed (g.Mark m.CloseSquare) ∷ r))).stops refl)
    (λ p r. square_after (at_post p) (i.roles free_place ++ (Role.Fixed (g.Mark m.CloseSquare) ∷ r)))
    (λ p is s b r new after h. element_reads (v.depth (at_post p)) (i.depth free_place) (v.tree (at_post p)) (i.tree free_place) (i.roles free_place) s b r new
    (both (parts_by p c) (fits (depth_by p c)) is).1 (index.whole free_place refl (parts p is).1) h)

-- ---- operators behind an operand

postfix_after : (o : KPostfix) (p : Place) (r : Roles) → After p (L gap.Plain (Role.Fixed (g.Mark (postfix_mark o)) ∷ r))
unfolding letters tokens mark_kind arguments_follow
postfix_after postfix.NotNull p r = record { free = refl; calm = refl; plain = λ h. refl; stops = λ h n. refl }
postfix_after postfix.Increment p r = record { free = refl; calm = refl; plain = λ h. refl; stops = λ h n. refl }
postfix_after postfix.Decrement p r = record { free = refl; calm = refl; plain = λ h. refl; stops = λ h n. refl }

postfix_named : (o : KPostfix) (r : Roles) → names_follow true (L gap.Plain (Role.Fixed (g.Mark (postfix_mark o)) ∷ r)) ≡ false
unfolding letters tokens mark_kind names_follow
postfix_named postfix.NotNull r = refl
postfix_named postfix.Increment r = refl
postfix_named postfix.Decrement r = refl

postfix_reads : (o : KPostfix) (d : ℕ) (x : KExpr) (s : Symbols) (b : Built) (r : Roles) (new : Built) → Fits d
    → Der (y.Form f.Suffixes ∷ s) (expr (suc d) (e.Postfix x o made) b) (L gap.Plain r) new → Der (y.Form f.Suffixes ∷ s) (expr d x b) (L gap.Plain (Role.Fixed (g.Mark (postfix_mark o)) ∷ r)) new
unfolding written takes letters tokens accepts taken mark_kind
postfix_reads postfix.NotNull d x s b r new fit h = way w.SuffixMark (take refl (act (acts_Postfix d x (q.Mark m.NotNull) postfix.NotNull b refl fit) h))
postfix_reads postfix.Increment d x s b r new fit h = way w.SuffixMark (take refl (act (acts_Postfix d x (q.Mark m.PlusPlus) postfix.Increment b refl fit) h))
postfix_reads postfix.Decrement d x s b r new fit h = way w.SuffixMark (take refl (act (acts_Postfix d x (q.Mark m.MinusMinus) postfix.Decrement b refl fit) h))

pub postfix_bare : (v : Operand) (o : KPostfix) (at : Position) → Good v → Bare (KExpr-F.Postfix v o at)
postfix_bare v o at good =
    let c : Layer = KExpr-F.Postfix v o at in
    suffix_bare c v (λ r. Role.Fixed (g.Mark (postfix_mark o)) ∷ r) good
    (λ p r. append_assoc (v.roles (at_post p)) (fixed (g.Mark (postfix_mark o) ∷ [])) r)
    (λ p is. (both (parts_by p c) (fits (depth_by p c)) is).0)
    (λ p is r. postfix_named o r)
    (λ p is r stops. (postfix_after o (record { level = 0; in_list = false; neighbor = beside.Other }) r).stops refl)
    (λ p r. postfix_after o (at_post p) r)
    (λ p is s b r new after h. postfix_reads o (v.depth (at_post p)) (v.tree (at_post p)) s b r new (both (parts_by p c) (fits (depth_by p c)) is).1 h)
