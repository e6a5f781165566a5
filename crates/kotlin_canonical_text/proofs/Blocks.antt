-- Blocks: their statements are derived where each is.
use Rattle.std.proofs.Common.{◌≡◌, ℕ, Bool, true, false, List, [], ◌∷◌, ◌++◌, map, Some, refl, ap, sym, subst, ◌∙◌, append_assoc, ◌⊎◌, inl, inr}
use Rattle.std.proofs.lemmas.List.{append-nil}
use Rattle.std.specs.Prelude.{if◌then◌else◌, max}
use Rattle.grammar.specs.declared.symbols.Symbol.TheVariants as y
use Rattle.kotlin_tree.specs.declared.tokens.Gap.{Gap}
use Rattle.kotlin_tree.specs.declared.tokens.Gap.TheVariants as gap
use Rattle.kotlin_tree.specs.declared.tokens.Mark.TheVariants as m
use Rattle.kotlin_tree.specs.declared.tokens.TokenKind.TheVariants as q
use Rattle.kotlin_tree.specs.declared.statements.KStmt.{KStmt}
use Rattle.kotlin_tree.specs.UpToPlaces.{made_brackets}
use Rattle.kotlin_layout.specs.declared.glyphs.Glyph.TheVariants as g
use Rattle.kotlin_layout.specs.declared.parens.Place.{Place}
use Rattle.kotlin_layout.specs.Roles.{Role, Roles, fixed}
use Rattle.kotlin_grammar.specs.declared.letters.Kind.{Kind}
use Rattle.kotlin_grammar.specs.declared.letters.Kind.TheVariants as k
use Rattle.kotlin_grammar.specs.declared.letters.Form.TheVariants as f
use Rattle.kotlin_grammar.specs.declared.letters.Term.TheVariants as t
use Rattle.kotlin_grammar.specs.declared.letters.Way.TheVariants as w
use Rattle.kotlin_grammar.specs.declared.letters.Act.TheVariants as a
use Rattle.kotlin_grammar.specs.declared.built.Built.{Built}
use Rattle.kotlin_grammar.specs.Table.{Symbols, written, accepts}
use Rattle.kotlin_grammar.specs.Ahead.{Letters, letters, letter_by, named, mark_kind, arguments_follow, names_follow, stands, is_arrow}
use Rattle.kotlin_grammar.specs.Taking.{takes, relaxed}
use Rattle.kotlin_grammar.specs.Meaning.{taken}
use Rattle.kotlin_canonical_text.specs.Tokens.{token, tokens}
use Rattle.kotlin_layout.specs.Roles.{lines, block as block_of, closed as closed_glyphs}
use Rattle.kotlin_grammar.specs.Ahead.{curly_kind, is_semicolon, names_on}
use Rattle.kotlin_canonical_text.specs.Canonical.{Piece, fits, deepest, roles_of, tree_of, depth_of, all_readable, block_depth, block_readable}
use Rattle.kotlin_canonical_text.proofs.Names.{L}
use Rattle.kotlin_canonical_text.proofs.Firsts.{First, Begins, Unnamed, starts, takes_line, takes_semicolon, relaxed_line, relaxed_plain, first_arrow}
use Rattle.kotlin_canonical_text.proofs.Types.{both}
use Rattle.kotlin_canonical_text.proofs.Levels.{After, after_first}
use Rattle.kotlin_canonical_text.proofs.Steps.{Der, way, take, act}
use Rattle.kotlin_canonical_text.proofs.Acts.{place, stmt, stmts, block, acts_NoStatements, acts_AddStatement, acts_Block}

-- what stands behind a statement
pub record Behind (r : Roles) : Type 0 where
  pub after : (p : Place) → After p (L gap.Plain r)
  pub named : names_follow true (L gap.Plain r) ≡ false

-- What is shown of a statement is read as it. Comments may stand before it.
pub record Stands (x : Piece KStmt) : Type 0 where
  pub front : Roles
  pub body : Roles
  pub same : x.roles ≡ front ++ body
  pub line : (z : Roles) → L gap.Line (front ++ z) ≡ L gap.Line z
  pub semicolon : (z : Roles) → L gap.Semicolon (front ++ z) ≡ L gap.Semicolon z
  pub plain : (z : Roles) → (L gap.Plain (front ++ z) ≡ L gap.Plain z) ⊎ (L gap.Plain (front ++ z) ≡ L gap.Line z)
  pub begins : x.readable ≡ true → Begins body
  pub unnamed : x.readable ≡ true → Unnamed body
  pub reads : x.readable ≡ true → (s : Symbols) (b : Built) (r : Roles) (new : Built) → Behind r → Der s (stmt x.depth x.tree b) (L gap.Plain r) new → Der (y.Form f.Statement ∷ s) b (L gap.Plain (body ++ r)) new
  pub else_reads : x.is_if ≡ true → x.readable ≡ true → (s : Symbols) (b : Built) (r : Roles) (new : Built) → Behind r → Der (y.Act a.IfElseIf ∷ s) (stmt x.depth x.tree b) (L gap.Plain r) new
      → Der (y.Form f.ElseBody ∷ s) b (L gap.Plain (x.roles ++ r)) new
  pub else_begins : x.is_if ≡ true → Begins x.roles

unfoldable pub AllStand : List (Piece KStmt) → Type 0
AllStand [] = Unit {0}
AllStand (x ∷ xs) = Stands x × AllStand xs

-- ---- what is seen of a first token from the left

named_starts : (c : Kind) → starts c ≡ true → (more : Bool → Bool) → names_on true c more ≡ false
unfolding starts
named_starts k.Comma h more = absurd (cc h)
named_starts k.Arrow h more = absurd (cc h)
named_starts _ h more = refl

semicolon_no : (h : Gap) (b : Bool) → b ≡ false → (if is_semicolon h then false else b) ≡ false
semicolon_no gap.Plain b is = is
semicolon_no gap.Line b is = is
semicolon_no gap.Semicolon b is = refl

pub first_named : (xs r : Roles) (h : Gap) → First xs r → names_follow true (L h (xs ++ r)) ≡ false
unfolding names_follow
first_named xs r h f = ap (names_follow true) (f.is h) ∙ semicolon_no h _ (named_starts f.kind f.ok (λ b. names_follow b f.more))

names_line : (xs r : Roles) → First xs r → names_follow false (L gap.Line (xs ++ r)) ≡ names_follow false (L gap.Plain (xs ++ r))
unfolding names_follow
names_line xs r f = ap (names_follow false) (f.is gap.Line) ∙ sym (ap (names_follow false) (f.is gap.Plain))

line_arrow : (xs r : Roles) → First xs r → stands is_arrow (L gap.Line (xs ++ r)) ≡ false
line_arrow xs r f = ap (stands is_arrow) (f.is gap.Line)

-- ---- statements on lines of their own

abbrev pub closing : Roles → Roles
closing r = fixed closed_glyphs ++ r

abbrev pub lines_of : List (Piece KStmt) → Roles
lines_of xs = lines (map roles_of xs)

module _ {x : Piece KStmt} (h : Stands x) (readable : x.readable ≡ true) (z : Roles) where
  at_line : L gap.Line (x.roles ++ z) ≡ L gap.Line (h.body ++ z)
  at_line = ap (λ u. L gap.Line (u ++ z)) h.same ∙ ap (L gap.Line) (append_assoc h.front h.body z) ∙ h.line (h.body ++ z)

  at_semicolon : L gap.Semicolon (x.roles ++ z) ≡ L gap.Semicolon (h.body ++ z)
  at_semicolon = ap (λ u. L gap.Semicolon (u ++ z)) h.same ∙ ap (L gap.Semicolon) (append_assoc h.front h.body z) ∙ h.semicolon (h.body ++ z)

  at_plain : (L gap.Plain (x.roles ++ z) ≡ L gap.Plain (h.body ++ z)) ⊎ (L gap.Plain (x.roles ++ z) ≡ L gap.Line (h.body ++ z))
  at_plain = elim (h.plain (h.body ++ z)) [
    | inl e ↦ inl (ap (λ u. L gap.Plain (u ++ z)) h.same ∙ ap (L gap.Plain) (append_assoc h.front h.body z) ∙ e)
    | inr e ↦ inr (ap (λ u. L gap.Plain (u ++ z)) h.same ∙ ap (L gap.Plain) (append_assoc h.front h.body z) ∙ e)
  ]

  pub ends_line : (b : Built) → takes taken t.Ends b (L gap.Line (x.roles ++ z)) ≡ Some (b, L gap.Plain (h.body ++ z))
  ends_line b = ap (takes taken t.Ends b) at_line ∙ takes_line h.body z b (h.begins readable z)

  pub ends_semicolon : (b : Built) → takes taken t.Ends b (L gap.Semicolon (x.roles ++ z)) ≡ Some (b, L gap.Plain (h.body ++ z))
  ends_semicolon b = ap (takes taken t.Ends b) at_semicolon ∙ takes_semicolon h.body z b (h.begins readable z)

  pub relaxed_there : relaxed (L gap.Line (x.roles ++ z)) ≡ L gap.Plain (h.body ++ z)
  relaxed_there = ap relaxed at_line ∙ relaxed_line h.body z (h.begins readable z)

  pub relaxed_here : relaxed (L gap.Plain (x.roles ++ z)) ≡ L gap.Plain (h.body ++ z)
  relaxed_here = elim at_plain [ inl e ↦ ap relaxed e ∙ relaxed_plain h.body z (h.begins readable z) | inr e ↦ ap relaxed e ∙ relaxed_line h.body z (h.begins readable z) ]

  pub no_arrow : stands is_arrow (L gap.Line (x.roles ++ z)) ≡ false
  no_arrow = ap (stands is_arrow) at_line ∙ line_arrow h.body z (h.begins readable z)

  pub no_names : names_follow true (L gap.Plain z) ≡ false → names_follow false (L gap.Line (x.roles ++ z)) ≡ false
  no_names named = ap (names_follow false) at_line ∙ names_line h.body z (h.begins readable z) ∙ h.unnamed readable z named

  pub no_arrow_here : stands is_arrow (L gap.Plain (x.roles ++ z)) ≡ false
  no_arrow_here = elim at_plain [ inl e ↦ ap (stands is_arrow) e ∙ first_arrow h.body z gap.Plain (h.begins readable z) | inr e ↦ ap (stands is_arrow) e ∙ line_arrow h.body z (h.begins readable z) ]

  pub no_names_here : names_follow true (L gap.Plain z) ≡ false → names_follow false (L gap.Plain (x.roles ++ z)) ≡ false
  no_names_here named = elim at_plain [ inl e ↦ ap (names_follow false) e ∙ h.unnamed readable z named | inr e ↦ ap (names_follow false) e ∙ names_line h.body z (h.begins readable z) ∙ h.unnamed readable z named ]

  pub after_there : (p : Place) → After p (L gap.Line (x.roles ++ z))
  after_there p = subst (After p) (sym at_line) (after_first p gap.Line h.body z (h.begins readable z))

  pub after_semicolon : (p : Place) → After p (L gap.Semicolon (x.roles ++ z))
  after_semicolon p = subst (After p) (sym at_semicolon) (after_first p gap.Semicolon h.body z (h.begins readable z))

  pub named_there : names_follow true (L gap.Line (x.roles ++ z)) ≡ false
  named_there = ap (names_follow true) at_line ∙ first_named h.body z gap.Line (h.begins readable z)

  pub named_semicolon : names_follow true (L gap.Semicolon (x.roles ++ z)) ≡ false
  named_semicolon = ap (names_follow true) at_semicolon ∙ first_named h.body z gap.Semicolon (h.begins readable z)

pub after_closing : (p : Place) (r : Roles) → After p (L gap.Plain (closing r))
unfolding letters tokens mark_kind arguments_follow
after_closing p r = record { free = refl; calm = refl; plain = λ h. refl; stops = λ h n. refl }

named_closing : (r : Roles) → names_follow true (L gap.Plain (closing r)) ≡ false
unfolding letters tokens mark_kind names_follow
named_closing r = refl

pub behind_closing : (r : Roles) → Behind (closing r)
behind_closing r = record { after = λ p. after_closing p r; named = named_closing r }

behind_line : (x : Piece KStmt) (z : Roles) → Stands x → x.readable ≡ true → Behind (Role.Fixed g.Line ∷ (x.roles ++ z))
unfolding tokens
behind_line x z h readable = record { after = λ p. after_there h readable z p; named = named_there h readable z }

pub behind_lines : (xs : List (Piece KStmt)) (r : Roles) → AllStand xs → all_readable xs ≡ true → Behind (lines_of xs ++ closing r)
unfolding AllStand
behind_lines [] r good readable = behind_closing r
behind_lines (x ∷ xs) r good readable = subst Behind (sym (ap (λ u. Role.Fixed g.Line ∷ u) (append_assoc x.roles (lines_of xs) (closing r))))
    (behind_line x (lines_of xs ++ closing r) good.0 (both x.readable (all_readable xs) readable).0)

statements_more : (xs : List (Piece KStmt)) (d : ℕ) (found : List KStmt) (s : Symbols) (b : Built) (r : Roles) (new : Built) → AllStand xs → all_readable xs ≡ true
    → Der s (stmts (deepest d (map depth_of xs)) (found ++ map tree_of xs) b) (L gap.Plain (closing r)) new
    → Der (y.Form f.MoreStatements ∷ s) (stmts d found b) (L gap.Plain (lines_of xs ++ closing r)) new
unfolding written tokens AllStand
statements_more [] d found s b r new good readable h = way w.StatementsEnd (subst (λ z. Der s (stmts d z b) (L gap.Plain (closing r)) new) (append-nil found) h)
statements_more (x ∷ xs) d found s b r new good readable h =
    let halves = both x.readable (all_readable xs) readable in
    let z = lines_of xs ++ closing r in
    rw (append_assoc x.roles (lines_of xs) (closing r))
    (way w.StatementsMore (take (ends_line good.0 halves.0 z (stmts d found b))
    (way w.NextStatementSome (good.0.reads halves.0 _ (stmts d found b) z new (behind_lines xs r good.1 halves.1)
    (act (acts_AddStatement d found x.depth x.tree b)
    (statements_more xs (max x.depth d) (found ++ x.tree ∷ []) s b r new good.1 halves.1
    (subst (λ u. Der s (stmts (deepest (max x.depth d) (map depth_of xs)) u b) (L gap.Plain (closing r)) new) (sym (append_assoc found (x.tree ∷ []) (map tree_of xs))) h)))))))

-- behind `{`
abbrev pub inside : List (Piece KStmt) → Roles → Letters
inside xs r = relaxed (L gap.Plain (lines_of xs ++ closing r))

pub closed_inside : (r : Roles) → relaxed (L gap.Plain (closing r)) ≡ L gap.Plain (closing r)
unfolding letters tokens mark_kind
closed_inside r = refl

pub statements_read : (xs : List (Piece KStmt)) (s : Symbols) (b : Built) (r : Roles) (new : Built) → AllStand xs → all_readable xs ≡ true
    → Der s (stmts (deepest 0 (map depth_of xs)) (map tree_of xs) b) (L gap.Plain (closing r)) new → Der (y.Form f.Statements ∷ s) (stmts 0 [] b) (inside xs r) new
unfolding written tokens AllStand
statements_read [] s b r new good readable h = way w.StatementsNone (subst (λ u. Der s (stmts 0 [] b) u new) (sym (closed_inside r)) h)
statements_read (x ∷ xs) s b r new good readable h =
    let halves = both x.readable (all_readable xs) readable in
    let z = lines_of xs ++ closing r in
    subst (λ u. Der (y.Form f.Statements ∷ s) (stmts 0 [] b) u new)
    (sym (ap (λ u. relaxed (L gap.Line u)) (append_assoc x.roles (lines_of xs) (closing r)) ∙ relaxed_there good.0 halves.0 z))
    (way w.StatementsSome (good.0.reads halves.0 _ (stmts 0 [] b) z new (behind_lines xs r good.1 halves.1)
    (act (acts_AddStatement 0 [] x.depth x.tree b)
    (statements_more xs (max x.depth 0) (x.tree ∷ []) s b r new good.1 halves.1 h))))

-- `{` begins a block
pub plain_curly : (ls : Letters) → stands is_arrow ls ≡ false → names_follow false ls ≡ false → curly_kind ls ≡ k.OpenCurly
plain_curly ls arrow names = ap (λ z. if z then k.OpenParameters else (if names_follow false ls then k.OpenParameters else k.OpenCurly)) arrow ∙ ap (λ z. if z then k.OpenParameters else k.OpenCurly) names

pub closed_curly : (r : Roles) → curly_kind (L gap.Plain (closing r)) ≡ k.OpenCurly
unfolding letters tokens mark_kind names_follow accepts
closed_curly r = refl

pub block_curly : (xs : List (Piece KStmt)) (r : Roles) → AllStand xs → all_readable xs ≡ true → curly_kind (L gap.Plain (lines_of xs ++ closing r)) ≡ k.OpenCurly
unfolding tokens AllStand
block_curly [] r good readable = closed_curly r
block_curly (x ∷ xs) r good readable =
    let halves = both x.readable (all_readable xs) readable in
    let z = lines_of xs ++ closing r in
    ap (λ u. curly_kind (L gap.Line u)) (append_assoc x.roles (lines_of xs) (closing r))
    ∙ plain_curly (L gap.Line (x.roles ++ z)) (no_arrow good.0 halves.0 z) (no_names good.0 halves.0 z (behind_lines xs r good.1 halves.1).named)

pub takes_curly : (z : Roles) (b : Built) → curly_kind (L gap.Plain z) ≡ k.OpenCurly → takes taken (t.Only k.OpenCurly) b (L gap.Plain (Role.Fixed (g.Mark m.OpenCurly) ∷ z)) ≡ Some (place b, relaxed (L gap.Plain z))
unfolding takes letters tokens accepts taken mark_kind
takes_curly z b is = ap (λ c. takes taken (t.Only k.OpenCurly) b (letter_by c (token (q.Mark m.OpenCurly) gap.Plain) ∷ L gap.Plain z)) is

pub block_read : (xs : List (Piece KStmt)) (s : Symbols) (b : Built) (r : Roles) (new : Built) → AllStand xs → block_readable xs ≡ true
    → Der s (block (block_depth xs) (record { curly = made_brackets; statements = map tree_of xs }) b) (L gap.Plain r) new
    → Der (y.Form f.Block ∷ s) b (L gap.Plain (block_of (map roles_of xs) ++ r)) new
unfolding written takes letters tokens accepts taken mark_kind
block_read xs s b r new good readable h =
    let halves = both (all_readable xs) (fits (deepest 0 (map depth_of xs))) readable in
    rw (append_assoc (lines_of xs) (fixed closed_glyphs) r)
    (way w.BlockWhole (take (takes_curly (Role.Fixed g.Deeper ∷ (lines_of xs ++ closing r)) b (block_curly xs r good halves.0))
    (act (acts_NoStatements (place b))
    (statements_read xs _ (place b) r new good halves.0
    (take refl (act (acts_Block (deepest 0 (map depth_of xs)) (map tree_of xs) b halves.1) h))))))
