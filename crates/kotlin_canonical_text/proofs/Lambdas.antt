-- Lambdas: each is derived where its statements are.
use Rattle.std.proofs.Common.{◌≡◌, ◌≤◌, ℕ, suc, ◌+◌, Bool, true, false, List, [], ◌∷◌, ◌++◌, map, length, Option, Some, None, refl, ap, sym, subst, ◌∙◌, append_assoc, arith}
use Rattle.std.proofs.lemmas.List.{append-nil}
use Rattle.std.specs.Prelude.{if◌then◌else◌, ◌&&◌, max}
use Rattle.grammar.specs.declared.symbols.Symbol.TheVariants as y
use Rattle.kotlin_tree.specs.declared.places.Position.{Position}
use Rattle.kotlin_tree.specs.declared.places.Brackets.{Brackets}
use Rattle.kotlin_tree.specs.declared.tokens.Gap.TheVariants as gap
use Rattle.kotlin_tree.specs.declared.tokens.Mark.TheVariants as m
use Rattle.kotlin_tree.specs.declared.tokens.TokenKind.TheVariants as q
use Rattle.kotlin_tree.specs.declared.types.KName.{KName}
use Rattle.kotlin_tree.specs.declared.types.KDotted.{KDotted}
use Rattle.kotlin_tree.specs.declared.types.KQualified.{KQualified}
use Rattle.kotlin_tree.specs.declared.types.KTypeArguments.{KTypeArguments}
use Rattle.kotlin_tree.specs.declared.types.KType.{KType, out-KType}
use Rattle.kotlin_tree.specs.declared.expressions.KLambdaNames.{KLambdaNames}
use Rattle.kotlin_tree.specs.declared.expressions.KExpr.{KExpr}
use Rattle.kotlin_tree.specs.declared.expressions.KExpr.TheOpen.{KExpr-F}
use Rattle.kotlin_tree.specs.declared.expressions.KExpr.TheVariants as e
use Rattle.kotlin_tree.specs.declared.statements.KStmt.{KStmt}
use Rattle.kotlin_tree.specs.UpToPlaces.{made, made_brackets, unplaced_name, unplaced_dotted, unplaced_qualified}
use Rattle.kotlin_layout.specs.declared.glyphs.Glyph.TheVariants as g
use Rattle.kotlin_layout.specs.declared.parens.Place.{Place}
use Rattle.kotlin_layout.specs.Roles.{Role, Roles, fixed, listed, more_roles, comma}
use Rattle.kotlin_layout.specs.Shown.{in_angles, type_roles}
use Rattle.kotlin_grammar.specs.declared.letters.Kind.TheVariants as k
use Rattle.kotlin_grammar.specs.declared.letters.Form.TheVariants as f
use Rattle.kotlin_grammar.specs.declared.letters.Term.TheVariants as t
use Rattle.kotlin_grammar.specs.declared.letters.Way.TheVariants as w
use Rattle.kotlin_grammar.specs.declared.built.Built.{Built}
use Rattle.kotlin_grammar.specs.declared.ahead.Spot.TheVariants as sp
use Rattle.kotlin_grammar.specs.Table.{Symbols, written, accepts}
use Rattle.kotlin_grammar.specs.Ahead.{Letters, letters, letter_by, kind_of, mark_kind, arguments_ahead, arguments_follow, names_follow, stands, is_less, is_at, is_curly, is_arrow}
use Rattle.kotlin_grammar.specs.Taking.{takes, relaxed}
use Rattle.kotlin_grammar.specs.Meaning.{taken}
use Rattle.kotlin_canonical_text.specs.Tokens.{token, tokens, name_token}
use Rattle.kotlin_tree.specs.declared.types.KType.{roll-KType, map-KType, out-roll-KType, ind-KType}
use Rattle.kotlin_tree.specs.declared.types.KType.TheOpen.{KType-F}
use Rattle.kotlin_tree.specs.declared.types.KType.TheVariants as ty
use Rattle.kotlin_layout.specs.Roles.{lines, closed as closed_glyphs}
use Rattle.kotlin_layout.specs.Shown.{lambda_names, name_of, qualified_roles}
use Rattle.kotlin_grammar.specs.declared.letters.Way.{Way}
use Rattle.kotlin_grammar.specs.declared.ahead.Spot.{Spot}
use Rattle.kotlin_grammar.specs.Ahead.{curly_kind, is_semicolon, opens}
use Rattle.kotlin_grammar.specs.Meaning.{chain}
use Rattle.kotlin_grammar.specs.Depth.{max_depth}
use Rattle.std.proofs.lemmas.Bool.{lt-ltb, ltb-true}
use Rattle.kotlin_canonical_text.specs.Canonical.{Piece, fits, deepest, commas_behind, commas_of, roles_of, tree_of, depth_of, all_readable, is_some, type_piece, bare_readable, is_chain, last_behind, name_of_type, names_tree, asked_if, is_calm}
use Rattle.kotlin_canonical_text.proofs.Names.{L, Free, Calm, is_run, not_run, gap_plain, name_made, takes_name, takes_generic, name_ident, ident_name}
use Rattle.kotlin_canonical_text.proofs.Firsts.{begins_name, relaxed_plain}
use Rattle.kotlin_canonical_text.proofs.Types.{both, not_true, Tight, path, type_good, type_shown, types_good, AllGood, is_open, asked_plain, asked_applied, piece_at, arguments_read, pass_arguments, question_roles, less}
use Rattle.kotlin_canonical_text.proofs.Levels.{Level, top, plain_front}
use Rattle.kotlin_canonical_text.proofs.Expressions.{Layer, Bare, bare_post}
use Rattle.kotlin_canonical_text.proofs.Blocks.{AllStand, block_curly, closing, statements_read, takes_curly}
use Rattle.kotlin_canonical_text.proofs.Values.{chain_tree, chain_depth, chain_more, chain_name, chain_dots, chain_field, dots_read, free_path, calm_here}
use Rattle.kotlin_canonical_text.proofs.Steps.{Der, way, take, take_blank, act, Fits}
use Rattle.kotlin_canonical_text.proofs.Acts.{place, nm, expr, kind, lnames, names_by, dotted, acts_NoNames, acts_AddName, acts_AddNameComma, acts_NamesArrow, acts_NoStatements, acts_Lambda, acts_Face, acts_Ask, acts_Applied, acts_DottedApplied, acts_Name, acts_Field}

-- ---- the braces of a lambda

-- the braces with what stands in them
abbrev brace : List KName → Roles → Roles
brace names z = Role.Fixed g.Blank ∷ Role.Fixed (g.Mark m.OpenCurly) ∷ (lambda_names names ++ (Role.Fixed g.Deeper ∷ z))

pub curly_facts : (c d : Bool) (ls : Letters) → (let u = letter_by (if c then k.OpenParameters else (if d then k.OpenParameters else k.OpenCurly)) (token (q.Mark m.OpenCurly) gap.Plain) ∷ ls in
    (stands is_less u ≡ false) × (stands is_at u ≡ false) × (names_follow true u ≡ false) × (opens u ≡ true) × ((spot : Spot) (n : ℕ) → is_open spot ≡ true → arguments_follow spot n u ≡ false))
unfolding names_follow arguments_follow
curly_facts true d ls = (refl, refl, refl, refl, λ spot n is. curly_spot spot n is)
  where
    curly_spot : (spot : Spot) (n : ℕ) → is_open spot ≡ true → arguments_follow spot n (letter_by k.OpenParameters (token (q.Mark m.OpenCurly) gap.Plain) ∷ ls) ≡ false
    curly_spot sp.Type n is = absurd (cc is)
    curly_spot sp.Name n is = refl
    curly_spot sp.Closed n is = refl
    curly_spot sp.Asked n is = refl
curly_facts false true ls = (refl, refl, refl, refl, λ spot n is. curly_spot spot n is)
  where
    curly_spot : (spot : Spot) (n : ℕ) → is_open spot ≡ true → arguments_follow spot n (letter_by k.OpenParameters (token (q.Mark m.OpenCurly) gap.Plain) ∷ ls) ≡ false
    curly_spot sp.Type n is = absurd (cc is)
    curly_spot sp.Name n is = refl
    curly_spot sp.Closed n is = refl
    curly_spot sp.Asked n is = refl
curly_facts false false ls = (refl, refl, refl, refl, λ spot n is. curly_spot spot n is)
  where
    curly_spot : (spot : Spot) (n : ℕ) → is_open spot ≡ true → arguments_follow spot n (letter_by k.OpenCurly (token (q.Mark m.OpenCurly) gap.Plain) ∷ ls) ≡ false
    curly_spot sp.Type n is = absurd (cc is)
    curly_spot sp.Name n is = refl
    curly_spot sp.Closed n is = refl
    curly_spot sp.Asked n is = refl

module _ (names : List KName) (z : Roles) where
  abbrev inner : Roles
  inner = lambda_names names ++ (Role.Fixed g.Deeper ∷ z)

  facts : (stands is_less (L gap.Plain (brace names z)) ≡ false) × (stands is_at (L gap.Plain (brace names z)) ≡ false) × (names_follow true (L gap.Plain (brace names z)) ≡ false)
      × (opens (L gap.Plain (brace names z)) ≡ true) × ((spot : Spot) (n : ℕ) → is_open spot ≡ true → arguments_follow spot n (L gap.Plain (brace names z)) ≡ false)
  unfolding letters tokens mark_kind
  facts = curly_facts (stands is_arrow (L gap.Plain inner)) (names_follow false (L gap.Plain inner)) (L gap.Plain inner)

  brace_free : Free (L gap.Plain (brace names z))
  brace_free = ap (λ u. if u then arguments_ahead (L gap.Plain (brace names z)) else stands is_at (L gap.Plain (brace names z))) facts.0 ∙ facts.1

  brace_tight : Tight (brace names z)
  brace_tight = (facts.0, facts.1)

-- ---- the names of a lambda

abbrev arrow : Roles → Roles
arrow z = Role.Fixed g.Blank ∷ Role.Fixed (g.Mark m.Arrow) ∷ z

abbrev more_names : List KName → Roles
more_names xs = more_roles comma (map name_of xs)

free_names : (xs : List KName) (z : Roles) → Free (L gap.Plain (more_names xs ++ arrow z))
unfolding letters tokens mark_kind
free_names [] z = refl
free_names (x ∷ xs) z = refl

calm_names : (xs : List KName) (z : Roles) → stands is_curly (L gap.Plain (more_names xs ++ arrow z)) ≡ false
unfolding letters tokens mark_kind
calm_names [] z = refl
calm_names (x ∷ xs) z = refl

names_more : (xs : List KName) (ns : List KName) (cs : List Position) (s : Symbols) (b : Built) (z : Roles) (new : Built)
    → Der s (lnames (names_by (ns ++ map unplaced_name xs) (cs ++ commas_behind xs) None) b) (L gap.Plain (arrow z)) new
    → Der (y.Form f.MoreNames ∷ s) (lnames (names_by ns cs None) b) (L gap.Plain (more_names xs ++ arrow z)) new
unfolding written takes letters tokens accepts taken mark_kind
names_more [] ns cs s b z new h = way w.NamesEnd
    (subst (λ u. Der s (lnames (names_by u cs None) b) (L gap.Plain (arrow z)) new) (append-nil ns)
    (subst (λ u. Der s (lnames (names_by (ns ++ []) u None) b) (L gap.Plain (arrow z)) new) (append-nil cs) h))
names_more (x ∷ xs) ns cs s b z new h = way w.NamesMore
    (take_blank (relaxed_plain (Role.Name x.name ∷ []) (more_names xs ++ arrow z) (begins_name x.name [] (more_names xs ++ arrow z))) refl
    (act (acts_AddNameComma ns cs None b)
    (take (takes_name x.name (more_names xs ++ arrow z) (lnames (names_by ns (cs ++ made ∷ []) None) b) (free_names xs z) (λ is. calm_names xs z))
    (act (acts_AddName ns (cs ++ made ∷ []) None x.name b)
    (names_more xs (ns ++ name_made x.name ∷ []) (cs ++ made ∷ []) s b z new
    (subst (λ u. Der s (lnames (names_by u ((cs ++ made ∷ []) ++ commas_behind xs) None) b) (L gap.Plain (arrow z)) new) (sym (append_assoc ns (name_made x.name ∷ []) (map unplaced_name xs)))
    (subst (λ u. Der s (lnames (names_by (ns ++ name_made x.name ∷ map unplaced_name xs) u None) b) (L gap.Plain (arrow z)) new) (sym (append_assoc cs (made ∷ []) (commas_behind xs))) h)))))))

pass_by : (b more : Bool) → b ≡ true → (if b then more else false) ≡ more
pass_by true more is = refl
pass_by false more is = absurd (cc is)

name_passes : (n : List ℕ) (r : Roles) → Free (L gap.Plain r) → Calm (name_token n) (L gap.Plain r) → names_follow false (L gap.Plain (Role.Name n ∷ r)) ≡ names_follow true (L gap.Plain r)
unfolding letters tokens names_follow
name_passes n r free calm =
    let ls = L gap.Plain r in
    let c = kind_of (name_token n) ls in
    ap (λ z. if is_semicolon z then false else (if accepts t.Name c then names_follow true ls else false)) (gap_plain c)
    ∙ pass_by (accepts t.Name c) (names_follow true ls) (ident_name (name_token n) ls free (name_ident n) calm)

names_seen : (xs : List KName) (z : Roles) → names_follow true (L gap.Plain (more_names xs ++ arrow z)) ≡ true
unfolding letters tokens mark_kind names_follow
names_seen [] z = refl
names_seen (x ∷ xs) z = name_passes x.name (more_names xs ++ arrow z) (free_names xs z) (λ is. calm_names xs z) ∙ names_seen xs z

params_by : (b c : Bool) → c ≡ true → (if b then k.OpenParameters else (if c then k.OpenParameters else k.OpenCurly)) ≡ k.OpenParameters
params_by true c is = refl
params_by false true is = refl
params_by false false is = absurd (cc is)

abbrev named_inner : KName → List KName → Roles → Roles
named_inner n ns z = Role.Fixed g.Blank ∷ Role.Name n.name ∷ (more_names ns ++ arrow z)

named_kind : (n : KName) (ns : List KName) (z : Roles) → curly_kind (L gap.Plain (named_inner n ns z)) ≡ k.OpenParameters
unfolding tokens
named_kind n ns z = params_by (stands is_arrow (L gap.Plain (named_inner n ns z))) (names_follow false (L gap.Plain (named_inner n ns z)))
    (name_passes n.name (more_names ns ++ arrow z) (free_names ns z) (λ is. calm_names ns z) ∙ names_seen ns z)

takes_params : (n : KName) (ns : List KName) (z : Roles) (b : Built)
    → takes taken (t.Only k.OpenParameters) b (L gap.Plain (Role.Fixed g.Blank ∷ Role.Fixed (g.Mark m.OpenCurly) ∷ named_inner n ns z)) ≡ Some (place b, relaxed (L gap.Plain (Role.Name n.name ∷ (more_names ns ++ arrow z))))
unfolding takes letters tokens accepts taken mark_kind
takes_params n ns z b = ap (λ c. takes taken (t.Only k.OpenParameters) b (letter_by c (token (q.Mark m.OpenCurly) gap.Plain) ∷ L gap.Plain (named_inner n ns z))) (named_kind n ns z)

-- ---- the body of a lambda

abbrev lambda_way : List KName → Way
lambda_way [] = w.LambdaPlain
lambda_way (n ∷ ns) = w.LambdaNamed

abbrev lines_in : List (Piece KStmt) → Roles
lines_in xs = lines (map roles_of xs)

names_apart : (n : KName) (ns : List KName) (z : Roles) → (lambda_names (n ∷ ns) ++ (Role.Fixed g.Deeper ∷ z)) ≡ named_inner n ns (Role.Fixed g.Deeper ∷ z)
names_apart n ns z = ap (λ u. Role.Fixed g.Blank ∷ Role.Name n.name ∷ u) (append_assoc (more_names ns) (fixed (g.Blank ∷ g.Mark m.Arrow ∷ [])) (Role.Fixed g.Deeper ∷ z))

body_read : (names : List KName) (F : KType) (d : ℕ) (xs : List (Piece KStmt)) (s : Symbols) (b : Built) (r : Roles) (new : Built) → AllStand xs → all_readable xs ≡ true → Fits (max (deepest 0 (map depth_of xs)) d)
    → Der s (expr (suc (max (deepest 0 (map depth_of xs)) d)) (e.Lambda F made_brackets (names_tree names) (map tree_of xs)) b) (L gap.Plain r) new
    → Der (written (lambda_way names) ++ s) (kind d F b) (L gap.Plain (brace names (lines_in xs ++ closing r))) new
unfolding written takes letters tokens accepts taken mark_kind
body_read [] F d xs s b r new all readable fit h =
    take (takes_curly (Role.Fixed g.Deeper ∷ (lines_in xs ++ closing r)) (kind d F b) (block_curly xs r all readable))
    (act (acts_NoNames (place (kind d F b)))
    (act (acts_NoStatements (lnames (names_by [] [] None) (place (kind d F b))))
    (statements_read xs _ (lnames (names_by [] [] None) (place (kind d F b))) r new all readable
    (take refl (act (acts_Lambda d F (names_by [] [] None) (deepest 0 (map depth_of xs)) (map tree_of xs) b fit) h)))))
body_read (n ∷ ns) F d xs s b r new all readable fit h =
    let z = lines_in xs ++ closing r in
    let z2 = Role.Fixed g.Deeper ∷ z in
    let c = place (kind d F b) in
    let l = names_tree (n ∷ ns) in
    subst (λ u. Der (written w.LambdaNamed ++ s) (kind d F b) (L gap.Plain (Role.Fixed g.Blank ∷ Role.Fixed (g.Mark m.OpenCurly) ∷ u)) new) (sym (names_apart n ns z))
    (take_blank (relaxed_plain (Role.Name n.name ∷ []) (more_names ns ++ arrow z2) (begins_name n.name [] (more_names ns ++ arrow z2))) (takes_params n ns z2 (kind d F b))
    (act (acts_NoNames c)
    (way w.NamesSome (take (takes_name n.name (more_names ns ++ arrow z2) (lnames (names_by [] [] None) c) (free_names ns z2) (λ is. calm_names ns z2))
    (act (acts_AddName [] [] None n.name c)
    (names_more ns (name_made n.name ∷ []) [] _ c z2 new
    (take refl (act (acts_NamesArrow (map unplaced_name (n ∷ ns)) (commas_behind ns) None c)
    (act (acts_NoStatements (lnames l c))
    (statements_read xs _ (lnames l c) r new all readable
    (take refl (act (acts_Lambda d F l (deepest 0 (map depth_of xs)) (map tree_of xs) b fit) h))))))))))))

-- ---- the interface of a lambda

-- A type before the braces of a lambda is read as its interface.
FaceGood : KType → Type 0
FaceGood x = (names : List KName) (s : Symbols) (b : Built) (z : Roles) (new : Built) → (type_piece x).readable ≡ true → is_chain (name_of_type (out-KType x)) ≡ true
    → Der (written (lambda_way names) ++ (y.Form f.Suffixes ∷ s)) (kind (type_piece x).depth (type_piece x).tree b) (L gap.Plain (brace names z)) new
    → Der (y.Form f.Plain ∷ y.Form f.Suffixes ∷ s) b (L gap.Plain ((type_piece x).roles ++ brace names z)) new

face_lambda : (names : List KName) (s : Symbols) (b : Built) (ls : Letters) (new : Built) → Der (written (lambda_way names) ++ s) b ls new → Der (y.Form f.Lambda ∷ s) b ls new
face_lambda [] s b ls new h = way w.LambdaPlain h
face_lambda (n ∷ ns) s b ls new h = way w.LambdaNamed h

question_free : (question : Option Position) (names : List KName) (z : Roles) → Free (L gap.Plain (question_roles question ++ brace names z))
unfolding letters tokens mark_kind
question_free None names z = brace_free names z
question_free (Some p) names z = refl

-- a name with dots, and what a `?` makes of it
plain_face : (question : Option Position) (names : List KName) (d : ℕ) (x : KExpr) (Q : KQualified) (s : Symbols) (b : Built) (z : Roles) (new : Built) → chain x ≡ Some Q
    → Der (written (lambda_way names) ++ (y.Form f.Suffixes ∷ s)) (kind 1 (ty.Plain Q (asked_if question) false) b) (L gap.Plain (brace names z)) new
    → Der (y.Form f.Suffixes ∷ s) (expr d x b) (L gap.Plain (question_roles question ++ brace names z)) new
unfolding written takes letters tokens accepts taken mark_kind
plain_face None [] d x Q s b z new is h = way w.SuffixLambda (act (acts_Face d x Q b is) h)
plain_face None (n ∷ ns) d x Q s b z new is h = way w.SuffixNamedLambda (act (acts_Face d x Q b is) h)
plain_face (Some p) names d x Q s b z new is h = way w.SuffixNullable (act (acts_Face d x Q b is) (take refl (act (acts_Ask 1 (ty.Plain Q None false) b ∙ ap (λ u. Some (kind 1 u b)) (asked_plain Q)) (face_lambda names _ _ _ new h))))

faced : (question : Option Position) (names : List KName) (d : ℕ) (Q : KQualified) (xs : List KType) (cs : List Position) (s : Symbols) (b : Built) (z : Roles) (new : Built)
    → Der (written (lambda_way names) ++ s) (kind d (ty.Applied Q made_brackets xs cs (asked_if question)) b) (L gap.Plain (brace names z)) new
    → Der (y.Form f.Faced ∷ s) (kind d (ty.Applied Q made_brackets xs cs None) b) (L gap.Plain (question_roles question ++ brace names z)) new
unfolding written takes letters tokens accepts taken mark_kind
faced None names d Q xs cs s b z new h = way w.FacedPlain (face_lambda names s _ _ new h)
faced (Some p) names d Q xs cs s b z new h = way w.FacedNullable (take refl (act (acts_Ask d (ty.Applied Q made_brackets xs cs None) b ∙ ap (λ u. Some (kind d u b)) (asked_applied Q made_brackets xs cs)) (face_lambda names s _ _ new h)))

question_opens : (question : Option Position) (names : List KName) (z : Roles) → opens (L gap.Plain (question_roles question ++ brace names z)) ≡ true
unfolding letters tokens mark_kind
question_opens None names z = (facts names z).3
question_opens (Some p) names z = question_curly (stands is_arrow (L gap.Plain (inner names z))) (names_follow false (L gap.Plain (inner names z))) (L gap.Plain (inner names z))
  where
    question_curly : (c d : Bool) (ls : Letters) → opens (letter_by k.Question (token (q.Mark m.Question) gap.Plain) ∷ (letter_by (if c then k.OpenParameters else (if d then k.OpenParameters else k.OpenCurly)) (token (q.Mark m.OpenCurly) gap.Plain) ∷ ls)) ≡ true
    question_curly true d ls = refl
    question_curly false true ls = refl
    question_curly false false ls = refl

abbrev front_of : KQualified → KQualified
front_of x = record { first = name_made x.first.name; rest = [] }

plain_face_good : (x : KQualified) (question : Option Position) (variable : Bool) (names : List KName) (s : Symbols) (b : Built) (z : Roles) (new : Built) → is_calm x ≡ true → is_chain x ≡ true
    → Der (written (lambda_way names) ++ (y.Form f.Suffixes ∷ s)) (kind 1 (ty.Plain (unplaced_qualified x) (asked_if question) false) b) (L gap.Plain (brace names z)) new
    → Der (y.Form f.Plain ∷ y.Form f.Suffixes ∷ s) b (L gap.Plain ((qualified_roles x ++ question_roles question) ++ brace names z)) new
unfolding written
plain_face_good x question variable names s b z new calm fit h =
    let n = x.first.name in
    let r = question_roles question ++ brace names z in
    let last_calm : is_run (name_token (last_behind n x.rest)) ≡ true → stands is_curly (L gap.Plain r) ≡ false = λ is. absurd (not_run (last_behind n x.rest) (not_true _ calm) is) in
    rw (append_assoc (path x.rest) (question_roles question) (brace names z))
    (way w.PlainNamed (take (takes_name n (path x.rest ++ r) b (free_path x.rest r (question_free question names z)) (calm_here n x.rest r last_calm))
    (way w.NamedOnly (act (acts_Name n b)
    (dots_read n x.rest 1 (e.Name (name_made n)) s b r new (omega (arith, ltb-true (length x.rest) max_depth fit)) (question_free question names z) last_calm
    (plain_face question names (chain_depth 1 x.rest) (chain_tree (e.Name (name_made n)) x.rest) (unplaced_qualified x) s b z new (chain_dots x.rest (e.Name (name_made n)) (front_of x) (chain_name n)) h))))))

-- ---- an interface with type arguments

module _ (x : KQualified) (angles : Brackets) (xs : List (Piece KType)) (cs : List Position) (question : Option Position) (good : AllGood xs) (some : is_some xs ≡ true) (readable : all_readable xs ≡ true) where
  abbrev D : ℕ
  D = deepest 0 (map depth_of xs)

  abbrev A : KTypeArguments
  A = record { angles = made_brackets; items = map tree_of xs; commas = commas_of xs }

  abbrev listed_types : Roles
  listed_types = listed comma (map roles_of xs) ++ fixed (g.Mark m.Greater ∷ [])

  abbrev behind_name : List KName → Roles → Roles
  behind_name names z = listed_types ++ (question_roles question ++ brace names z)

  ahead : (names : List KName) (z : Roles) → arguments_ahead (L gap.Plain (less (behind_name names z))) ≡ true
  unfolding letters tokens mark_kind
  ahead names z = pass_arguments xs 0 (question_roles question ++ brace names z) some good readable ∙ question_opens question names z

  -- the last name, and its arguments
  dots_face : (ns : List KDotted) (n : KDotted) (d : ℕ) (t : KExpr) (Q : KQualified) (names : List KName) (s : Symbols) (b : Built) (z : Roles) (new : Built) → chain t ≡ Some Q → d + length ns ≤ max_depth → Fits D
      → Der (written (lambda_way names) ++ (y.Form f.Suffixes ∷ s)) (kind (suc D) (ty.Applied (chain_more Q (n ∷ ns)) made_brackets (map tree_of xs) (commas_of xs) (asked_if question)) b) (L gap.Plain (brace names z)) new
      → Der (y.Form f.Suffixes ∷ s) (expr d t b) (L gap.Plain (path (n ∷ ns) ++ less (behind_name names z))) new
  unfolding written takes letters tokens accepts taken mark_kind
  dots_face [] n d t Q names s b z new is fit deep h =
      way w.SuffixDot (take_blank (relaxed_plain (Role.Name n.name.name ∷ []) (less (behind_name names z)) (begins_name n.name.name [] (less (behind_name names z)))) refl
      (way w.DotGeneric (take (takes_generic n.name.name (behind_name names z) (place (expr d t b)) (ahead names z))
      (arguments_read xs _ (nm n.name.name (place (expr d t b))) (question_roles question ++ brace names z) new some good readable
      (way w.DottedGenericLambda (act (acts_DottedApplied d t n.name.name D A Q b is deep)
      (faced question names (suc D) (dotted Q n.name.name) (map tree_of xs) (commas_of xs) _ b z new h)))))))
  dots_face (i ∷ ns) n d t Q names s b z new is fit deep h =
      way w.SuffixDot (take_blank (relaxed_plain (Role.Name n.name.name ∷ []) (path (i ∷ ns) ++ less (behind_name names z)) (begins_name n.name.name [] (path (i ∷ ns) ++ less (behind_name names z)))) refl
      (way w.DotNamed (take (takes_name n.name.name (path (i ∷ ns) ++ less (behind_name names z)) (place (expr d t b)) refl (λ is. refl))
      (way w.DottedOnly (act (acts_Field d t n.name.name b (lt-ltb d max_depth (omega (arith, fit))))
      (dots_face ns i (suc d) (e.Field t made (name_made n.name.name)) (dotted Q n.name.name) names s b z new (chain_field t n.name.name Q is) (omega (arith, fit)) deep
      (subst (λ u. Der (written (lambda_way names) ++ (y.Form f.Suffixes ∷ s)) (kind (suc D) (ty.Applied (record { first = Q.first; rest = u }) made_brackets (map tree_of xs) (commas_of xs) (asked_if question)) b) (L gap.Plain (brace names z)) new)
      (sym (append_assoc Q.rest (unplaced_dotted n ∷ []) (map unplaced_dotted (i ∷ ns)))) h)))))))

  applied_face : (names : List KName) (s : Symbols) (b : Built) (z : Roles) (new : Built) → is_chain x ≡ true → Fits D
      → Der (written (lambda_way names) ++ (y.Form f.Suffixes ∷ s)) (kind (suc D) (ty.Applied (unplaced_qualified x) made_brackets (map tree_of xs) (commas_of xs) (asked_if question)) b) (L gap.Plain (brace names z)) new
      → (rest : List KDotted) → rest ≡ x.rest → Der (y.Form f.Plain ∷ y.Form f.Suffixes ∷ s) b (L gap.Plain (Role.Name x.first.name ∷ (path rest ++ less (behind_name names z)))) new
  unfolding written takes letters tokens accepts taken mark_kind
  applied_face names s b z new fit deep h [] is =
      way w.PlainGeneric (take (takes_generic x.first.name (behind_name names z) b (ahead names z))
      (arguments_read xs _ (nm x.first.name b) (question_roles question ++ brace names z) new some good readable
      (way w.GenericLambda (act (acts_Applied x.first.name D A b deep)
      (faced question names (suc D) (front_of x) (map tree_of xs) (commas_of xs) _ b z new
      (subst (λ u. Der (written (lambda_way names) ++ (y.Form f.Suffixes ∷ s)) (kind (suc D) (ty.Applied (record { first = name_made x.first.name; rest = map unplaced_dotted u }) made_brackets (map tree_of xs) (commas_of xs) (asked_if question)) b) (L gap.Plain (brace names z)) new) (sym is) h))))))
  applied_face names s b z new fit deep h (n ∷ ns) is =
      way w.PlainNamed (take (takes_name x.first.name (path (n ∷ ns) ++ less (behind_name names z)) b refl (λ is. refl))
      (way w.NamedOnly (act (acts_Name x.first.name b)
      (dots_face ns n 1 (e.Name (name_made x.first.name)) (front_of x) names s b z new (chain_name x.first.name)
      (omega (arith, ltb-true (length x.rest) max_depth fit, length_same n ns is)) deep
      (subst (λ u. Der (written (lambda_way names) ++ (y.Form f.Suffixes ∷ s)) (kind (suc D) (ty.Applied (record { first = name_made x.first.name; rest = map unplaced_dotted u }) made_brackets (map tree_of xs) (commas_of xs) (asked_if question)) b) (L gap.Plain (brace names z)) new) (sym is) h)))))
    where
      length_same : (n : KDotted) (ns : List KDotted) → (n ∷ ns) ≡ x.rest → length ns + 1 ≡ length x.rest
      length_same n ns is = sym (omega arith) ∙ ap length is

  applied_face_good : (names : List KName) (s : Symbols) (b : Built) (z : Roles) (new : Built) → is_chain x ≡ true → Fits D
      → Der (written (lambda_way names) ++ (y.Form f.Suffixes ∷ s)) (kind (suc D) (ty.Applied (unplaced_qualified x) made_brackets (map tree_of xs) (commas_of xs) (asked_if question)) b) (L gap.Plain (brace names z)) new
      → Der (y.Form f.Plain ∷ y.Form f.Suffixes ∷ s) b (L gap.Plain (((qualified_roles x ++ in_angles (map roles_of xs)) ++ question_roles question) ++ brace names z)) new
  applied_face_good names s b z new fit deep h =
      subst (λ u. Der (y.Form f.Plain ∷ y.Form f.Suffixes ∷ s) b (L gap.Plain (Role.Name x.first.name ∷ u)) new)
      (sym (append_assoc (path x.rest ++ in_angles (map roles_of xs)) (question_roles question) (brace names z) ∙ append_assoc (path x.rest) (in_angles (map roles_of xs)) (question_roles question ++ brace names z)))
      (applied_face names s b z new fit deep h x.rest refl)

abbrev Faced : Type 0
Faced = (x : KType) × FaceGood x

face_layer : (x : KType-F Faced) → FaceGood (roll-KType (map-KType Faced KType (λ x. x.0) x))
unfolding FaceGood
face_layer (KType-F.Plain x question variable) names s b z new readable fit h =
    let at = piece_at (KType-F.Plain x question variable) in
    subst (λ (u : Piece KType). Der (y.Form f.Plain ∷ y.Form f.Suffixes ∷ s) b (L gap.Plain (u.roles ++ brace names z)) new) (sym at)
    (plain_face_good x question variable names s b z new (sym (ap (λ (u : Piece KType). u.readable) at) ∙ readable) (sym (ap (λ u. is_chain (name_of_type u)) (out-roll-KType (KType-F.Plain x question variable))) ∙ fit)
    (subst (λ (u : Piece KType). Der (written (lambda_way names) ++ (y.Form f.Suffixes ∷ s)) (kind u.depth u.tree b) (L gap.Plain (brace names z)) new) at h))
face_layer (KType-F.Applied x angles arguments commas question) names s b z new readable fit h =
    let ts = map (λ (x : Faced). x.0) arguments in
    let xs = map type_piece ts in
    let at = piece_at (KType-F.Applied x angles ts commas question) in
    let a = both (is_some xs && all_readable xs) (fits (deepest 0 (map depth_of xs))) (sym (ap (λ (u : Piece KType). u.readable) at) ∙ readable) in
    let c = both (is_some xs) (all_readable xs) a.0 in
    subst (λ (u : Piece KType). Der (y.Form f.Plain ∷ y.Form f.Suffixes ∷ s) b (L gap.Plain (u.roles ++ brace names z)) new) (sym at)
    (applied_face_good x angles xs commas question (types_good ts) c.0 c.1 names s b z new (sym (ap (λ u. is_chain (name_of_type u)) (out-roll-KType (KType-F.Applied x angles ts commas question))) ∙ fit) a.1
    (subst (λ (u : Piece KType). Der (written (lambda_way names) ++ (y.Form f.Suffixes ∷ s)) (kind u.depth u.tree b) (L gap.Plain (brace names z)) new) at h))

face_good : (x : KType) → FaceGood x
face_good = ind-KType FaceGood (λ x z is. subst (λ (u : KType-F KType). FaceGood (roll-KType u)) is (face_layer z))

-- ---- lambdas

lambda_apart : (F T : Roles) (names : List KName) (ls : Roles) (r : Roles) → F ≡ T
    → (((((F ++ fixed (g.Blank ∷ g.Mark m.OpenCurly ∷ [])) ++ lambda_names names) ++ fixed (g.Deeper ∷ [])) ++ ls) ++ fixed closed_glyphs) ++ r ≡ T ++ brace names (ls ++ closing r)
lambda_apart F T names ls r same =
    let O = fixed (g.Blank ∷ g.Mark m.OpenCurly ∷ []) in
    let N = lambda_names names in
    let D = fixed (g.Deeper ∷ []) in
    let C = fixed closed_glyphs in
    append_assoc ((((F ++ O) ++ N) ++ D) ++ ls) C r ∙ append_assoc (((F ++ O) ++ N) ++ D) ls (C ++ r) ∙ append_assoc ((F ++ O) ++ N) D (ls ++ (C ++ r)) ∙ append_assoc (F ++ O) N (D ++ (ls ++ (C ++ r)))
    ∙ append_assoc F O (N ++ (D ++ (ls ++ (C ++ r)))) ∙ ap (λ u. u ++ brace names (ls ++ closing r)) same

pub lambda_bare : (F : KType) (curly : Brackets) (names : KLambdaNames) (xs : List (Piece KStmt)) → AllStand xs → Bare (KExpr-F.Lambda F curly names xs)
unfolding FaceGood
lambda_bare F curly names xs all =
    let c : Layer = KExpr-F.Lambda F curly names xs in
    let T = type_piece F in
    let ns = names.items in
    let d = max (deepest 0 (map depth_of xs)) (depth_of T) in
    let apart : (r : Roles) → ((((((type_roles F ++ fixed (g.Blank ∷ g.Mark m.OpenCurly ∷ [])) ++ lambda_names ns) ++ fixed (g.Deeper ∷ [])) ++ lines_in xs) ++ fixed closed_glyphs) ++ r) ≡ T.roles ++ brace ns (lines_in xs ++ closing r) = λ r.
    lambda_apart (type_roles F) T.roles ns (lines_in xs) r (sym (type_shown F)) in
    let parts : (p : Place) → bare_readable p c ≡ true → (T.readable ≡ true) × (is_chain (name_of_type (out-KType F)) ≡ true) × (all_readable xs ≡ true) × Fits d = λ p is.
    let a = both (T.readable && is_chain (name_of_type (out-KType F)) && all_readable xs) (fits d) is in
    let b = both (T.readable && is_chain (name_of_type (out-KType F))) (all_readable xs) a.0 in
    let e = both T.readable (is_chain (name_of_type (out-KType F))) b.0 in (e.0, e.1, b.1, a.1) in
    bare_post c
    (λ p is r. let found = (type_good F).begins (brace ns (lines_in xs ++ closing r)) in
    record { kind = found.kind; front = found.front; more = found.more; is = λ h. ap (L h) (apart r) ∙ found.is h; ok = found.ok })
    (λ p is r i. ap (λ u. names_follow false (L gap.Plain u)) (apart r) ∙ (type_good F).unnamed (brace ns (lines_in xs ++ closing r)) (facts ns (lines_in xs ++ closing r)).2)
    (λ p is n r i. let passed = (type_good F).passed (parts p is).0 in
    ap (λ u. arguments_follow sp.Type n (L gap.Plain u)) (apart r) ∙ passed.pass n (brace ns (lines_in xs ++ closing r)) (brace_tight ns (lines_in xs ++ closing r)) ∙ (facts ns (lines_in xs ++ closing r)).4 passed.spot n passed.is)
    (λ p is front s b r new after h. subst (λ u. Der (top front Level.Post s) b (L gap.Plain u) new) (sym (apart r))
    (plain_front front s b _ new (face_by F ns _ b (lines_in xs ++ closing r) new (parts p is).0 (parts p is).1
    (body_read ns (tree_of T) (depth_of T) xs _ b r new all (parts p is).2 (parts p is).3 h))))
  where
    face_by : (x : KType) (names : List KName) (s : Symbols) (b : Built) (z : Roles) (new : Built) → (type_piece x).readable ≡ true → is_chain (name_of_type (out-KType x)) ≡ true
        → Der (written (lambda_way names) ++ (y.Form f.Suffixes ∷ s)) (kind (type_piece x).depth (type_piece x).tree b) (L gap.Plain (brace names z)) new
        → Der (y.Form f.Plain ∷ y.Form f.Suffixes ∷ s) b (L gap.Plain ((type_piece x).roles ++ brace names z)) new
    face_by x = face_good x
