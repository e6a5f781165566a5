-- Statements: each is derived where its parts are.
use Rattle.std.proofs.Common.{◌≡◌, ℕ, ◌+◌, true, false, List, [], ◌∷◌, ◌++◌, map, Option, Some, None, refl, ap, sym, subst, ◌∙◌, append_assoc, ◌⊎◌, inl, inr}
use Rattle.std.proofs.lemmas.List.{append-nil}
use Rattle.std.specs.Prelude.{if◌then◌else◌, ◌&&◌, max}
use Rattle.std.specs.Option.{option_map}
use Rattle.grammar.specs.declared.symbols.Symbol.TheVariants as y
use Rattle.kotlin_tree.specs.declared.places.Position.{Position}
use Rattle.kotlin_tree.specs.declared.places.Brackets.{Brackets}
use Rattle.kotlin_tree.specs.declared.tokens.Gap.TheVariants as gap
use Rattle.kotlin_tree.specs.declared.tokens.Mark.TheVariants as m
use Rattle.kotlin_tree.specs.declared.tokens.Keyword.TheVariants as kw
use Rattle.kotlin_tree.specs.declared.tokens.Word.TheVariants as o
use Rattle.kotlin_tree.specs.declared.tokens.TokenKind.{TokenKind}
use Rattle.kotlin_tree.specs.declared.tokens.TokenKind.TheVariants as q
use Rattle.kotlin_tree.specs.declared.types.KName.{KName}
use Rattle.kotlin_tree.specs.declared.types.KType.{KType}
use Rattle.kotlin_tree.specs.declared.expressions.KHeadAt.{KHeadAt}
use Rattle.kotlin_tree.specs.declared.expressions.KExpr.TheOpen.{KStmt-F}
use Rattle.kotlin_tree.specs.declared.expressions.KChoice.{KChoice}
use Rattle.kotlin_tree.specs.declared.statements.KStmt.{KStmt}
use Rattle.kotlin_tree.specs.declared.statements.KBranch.{KBranch}
use Rattle.kotlin_tree.specs.declared.statements.KCatch.{KCatch}
use Rattle.kotlin_tree.specs.UpToPlaces.{made_brackets}
use Rattle.kotlin_layout.specs.declared.glyphs.Glyph.{Glyph}
use Rattle.kotlin_layout.specs.declared.glyphs.Glyph.TheVariants as g
use Rattle.kotlin_layout.specs.declared.parens.Place.{Place}
use Rattle.kotlin_layout.specs.Parens.{free_place, operand_place}
use Rattle.kotlin_layout.specs.Roles.{Role, Roles, fixed}
use Rattle.kotlin_layout.specs.Shown.{in_round, type_roles}
use Rattle.kotlin_grammar.specs.declared.letters.Kind.TheVariants as k
use Rattle.kotlin_grammar.specs.declared.letters.Form.TheVariants as f
use Rattle.kotlin_grammar.specs.declared.letters.Term.TheVariants as t
use Rattle.kotlin_grammar.specs.declared.letters.Way.TheVariants as w
use Rattle.kotlin_grammar.specs.declared.letters.Act.TheVariants as a
use Rattle.kotlin_grammar.specs.declared.built.Built.{Built}
use Rattle.kotlin_grammar.specs.Table.{Symbols, written, accepts}
use Rattle.kotlin_grammar.specs.Ahead.{Letters, letters, letter_by, word_kind as kind_of_word, mark_kind, keyword_kind, arguments_follow, names_follow, stands, is_curly, is_arrow}
use Rattle.kotlin_grammar.specs.Taking.{takes, relaxed}
use Rattle.kotlin_grammar.specs.Meaning.{taken}
use Rattle.kotlin_canonical_text.specs.Tokens.{token, tokens}
use Rattle.kotlin_tree.specs.declared.statements.KVariability.{KVariability}
use Rattle.kotlin_tree.specs.declared.statements.KVariability.TheVariants as variability
use Rattle.kotlin_tree.specs.declared.statements.KDeclared.{KDeclared}
use Rattle.kotlin_tree.specs.declared.statements.KLabel.{KLabel}
use Rattle.kotlin_tree.specs.declared.statements.KTarget.{KTarget}
use Rattle.kotlin_tree.specs.declared.statements.KFinallyAt.{KFinallyAt}
use Rattle.kotlin_tree.specs.declared.statements.KBlock.{KBlock}
use Rattle.kotlin_tree.specs.UpToPlaces.{unplaced_label, unplaced_target}
use Rattle.kotlin_layout.specs.Parens.{infix_level}
use Rattle.kotlin_layout.specs.Roles.{lines, joined, block as block_of, closed as closed_glyphs}
use Rattle.kotlin_layout.specs.Shown.{comment_roles, declared_roles, variability_word, assigns, label_roles, target_roles, headed, for_head}
use Rattle.kotlin_grammar.specs.Meaning.{is_target, variability_of}
use Rattle.kotlin_grammar.specs.Ahead.{curly_kind}
use Rattle.kotlin_canonical_text.specs.Canonical.{Piece, Operand, fits, deepest, roles_of, tree_of, depth_of, all_readable, block_depth, block_readable, type_piece, declared_tree, statement_piece}
use Rattle.kotlin_canonical_text.proofs.Names.{L, Free, takes_name, takes_label, takes_target_name, named_plain}
use Rattle.kotlin_canonical_text.proofs.Firsts.{First, Begins, Unnamed, starts, begins_name, begins_keyword, begins_word, begins_more, relaxed_plain, unnamed_name, first_arrow, first_less, first_at, first_curly}
use Rattle.kotlin_canonical_text.proofs.Types.{both, type_good, type_shown, Tight}
use Rattle.kotlin_canonical_text.proofs.Levels.{quiet, whole_of, After, after_letter, tight_after, Level, Front}
use Rattle.kotlin_canonical_text.proofs.Expressions.{Good, close_round, after_round}
use Rattle.kotlin_canonical_text.proofs.Forms.{at_post}
use Rattle.kotlin_canonical_text.proofs.Blocks.{Behind, Stands, AllStand, block_read, block_curly}
use Rattle.kotlin_canonical_text.proofs.Steps.{Der, way, take, take_blank, act, Fits}
use Rattle.kotlin_canonical_text.proofs.Acts.{place, tok, nm, expr, stmt, block, decl, label, target, catches, kind, acts_Declared, acts_Unset, acts_Local, acts_Assign, acts_NoLabel, acts_Label, acts_While, acts_DoWhile, acts_For, acts_ForRange, acts_If, acts_IfElse, acts_IfElseIf, acts_NoTarget, acts_Target, acts_Break, acts_Continue, acts_Return, acts_Give, acts_Throw, acts_NoCatches, acts_Try, acts_TryFinally, acts_Synchronized}

abbrev pub Part : Type 0
Part = KStmt-F Operand (Piece KStmt) (Piece KChoice) (Piece KBranch) (Piece KCatch)

-- a statement without comments before it, which is no `if`
pub simple : (x : Piece KStmt) → x.is_if ≡ false → (x.readable ≡ true → Begins x.roles) → (x.readable ≡ true → Unnamed x.roles)
    → (x.readable ≡ true → (s : Symbols) (b : Built) (r : Roles) (new : Built) → Behind r → Der s (stmt x.depth x.tree b) (L gap.Plain r) new → Der (y.Form f.Statement ∷ s) b (L gap.Plain (x.roles ++ r)) new) → Stands x
simple x no_if begins unnamed reads = record {
  front = [];
  body = x.roles;
  same = refl;
  line = λ z. refl;
  semicolon = λ z. refl;
  plain = λ z. inl refl;
  begins = begins;
  unnamed = unnamed;
  reads = reads;
  else_reads = λ is. absurd (true_false (sym is ∙ no_if));
  else_begins = λ is. absurd (true_false (sym is ∙ no_if));
}
  where
    true_false : true ≡ false → ⊥
    true_false h = absurd (cc h)

-- ---- comments

pub comments_line : (xs : List (List ℕ)) (z : Roles) → L gap.Line (comment_roles xs ++ z) ≡ L gap.Line z
unfolding tokens
comments_line [] z = refl
comments_line (x ∷ xs) z = comments_line xs z

comments_semicolon : (xs : List (List ℕ)) (z : Roles) → L gap.Semicolon (comment_roles xs ++ z) ≡ L gap.Semicolon z
unfolding tokens
comments_semicolon [] z = refl
comments_semicolon (x ∷ xs) z = comments_semicolon xs z

comments_plain : (xs : List (List ℕ)) (z : Roles) → (L gap.Plain (comment_roles xs ++ z) ≡ L gap.Plain z) ⊎ (L gap.Plain (comment_roles xs ++ z) ≡ L gap.Line z)
unfolding tokens
comments_plain [] z = inl refl
comments_plain (x ∷ xs) z = inr (comments_line xs z)

pub commented_stands : (xs : List (List ℕ)) (x : Piece KStmt) → Stands x → Stands (statement_piece (KStmt-F.Commented xs x))
commented_stands xs x h = record {
  front = comment_roles xs ++ h.front;
  body = h.body;
  same = ap (λ z. comment_roles xs ++ z) h.same ∙ sym (append_assoc (comment_roles xs) h.front h.body);
  line = λ z. ap (L gap.Line) (append_assoc (comment_roles xs) h.front z) ∙ comments_line xs (h.front ++ z) ∙ h.line z;
  semicolon = λ z. ap (L gap.Semicolon) (append_assoc (comment_roles xs) h.front z) ∙ comments_semicolon xs (h.front ++ z) ∙ h.semicolon z;
  plain = λ z. plain_by z (comments_plain xs (h.front ++ z)) (h.plain z);
  begins = h.begins;
  unnamed = h.unnamed;
  reads = h.reads;
  else_reads = λ is. absurd (cc is);
  else_begins = λ is. absurd (cc is);
}
  where
    plain_by : (z : Roles) → (L gap.Plain (comment_roles xs ++ (h.front ++ z)) ≡ L gap.Plain (h.front ++ z)) ⊎ (L gap.Plain (comment_roles xs ++ (h.front ++ z)) ≡ L gap.Line (h.front ++ z))
        → (L gap.Plain (h.front ++ z) ≡ L gap.Plain z) ⊎ (L gap.Plain (h.front ++ z) ≡ L gap.Line z)
        → (L gap.Plain ((comment_roles xs ++ h.front) ++ z) ≡ L gap.Plain z) ⊎ (L gap.Plain ((comment_roles xs ++ h.front) ++ z) ≡ L gap.Line z)
    plain_by z (inl e) (inl i) = inl (ap (L gap.Plain) (append_assoc (comment_roles xs) h.front z) ∙ e ∙ i)
    plain_by z (inl e) (inr i) = inr (ap (L gap.Plain) (append_assoc (comment_roles xs) h.front z) ∙ e ∙ i)
    plain_by z (inr e) i = inr (ap (L gap.Plain) (append_assoc (comment_roles xs) h.front z) ∙ e ∙ h.line z)

-- ---- declarations

abbrev pub var_token : KVariability → TokenKind
var_token variability.Val = q.Keyword kw.Val
var_token variability.Var = q.Keyword kw.Var

abbrev kind_of_type : KType → Built → Built
kind_of_type x b = kind (depth_of (type_piece x)) (tree_of (type_piece x)) b

takes_variability : (o : KVariability) (b : Built) (r : Roles) → takes taken t.Variability b (L gap.Plain (Role.Fixed (variability_word o) ∷ r)) ≡ Some (tok (var_token o) b, L gap.Plain r)
unfolding takes letters tokens accepts taken keyword_kind
takes_variability variability.Val b r = refl
takes_variability variability.Var b r = refl

var_same : (o : KVariability) → variability_of (var_token o) ≡ Some o
var_same variability.Val = refl
var_same variability.Var = refl

colon_free : (r : Roles) → Free (L gap.Plain (Role.Fixed (g.Mark m.Colon) ∷ r))
unfolding letters tokens mark_kind
colon_free r = refl

colon_calm : (r : Roles) → stands is_curly (L gap.Plain (Role.Fixed (g.Mark m.Colon) ∷ r)) ≡ false
unfolding letters tokens mark_kind
colon_calm r = refl

-- `:` and a type
pub typed : (kind : KType) (s : Symbols) (b : Built) (r : Roles) (new : Built) → (type_piece kind).readable ≡ true → Tight r
    → Der s (kind_of_type kind (place b)) (L gap.Plain r) new
    → Der (y.Term (t.Only k.Colon) ∷ y.Form f.Type ∷ s) b (L gap.Plain (Role.Fixed (g.Mark m.Colon) ∷ Role.Fixed g.Blank ∷ (type_roles kind ++ r))) new
unfolding takes letters tokens accepts taken mark_kind
typed kind s b r new readable tight h = subst (λ u. Der (y.Term (t.Only k.Colon) ∷ y.Form f.Type ∷ s) b (L gap.Plain (Role.Fixed (g.Mark m.Colon) ∷ Role.Fixed g.Blank ∷ (u ++ r))) new) (type_shown kind)
    (take_blank (relaxed_plain (type_piece kind).roles r ((type_good kind).begins r)) refl ((type_good kind).reads readable s (place b) r new tight h))

pub declared_read : (x : KDeclared) (s : Symbols) (b : Built) (r : Roles) (new : Built) → (type_piece x.kind).readable ≡ true → Tight r
    → Der s (decl (depth_of (type_piece x.kind)) (declared_tree x) b) (L gap.Plain r) new → Der (y.Form f.Declared ∷ s) b (L gap.Plain (declared_roles x ++ r)) new
unfolding written tokens
declared_read x s b r new readable tight h =
    let after = Role.Fixed (g.Mark m.Colon) ∷ Role.Fixed g.Blank ∷ (type_roles x.kind ++ r) in
    way w.DeclaredName (take (takes_variability x.word b (Role.Fixed g.Blank ∷ Role.Name x.name.name ∷ after))
    (take (takes_name x.name.name after (tok (var_token x.word) b) (colon_free (Role.Fixed g.Blank ∷ (type_roles x.kind ++ r))) (λ is. colon_calm (Role.Fixed g.Blank ∷ (type_roles x.kind ++ r))))
    (typed x.kind _ (nm x.name.name (tok (var_token x.word) b)) r new readable tight
    (act (acts_Declared (var_token x.word) x.name.name (depth_of (type_piece x.kind)) (tree_of (type_piece x.kind)) x.word b (var_same x.word)) h))))

var_begins : (o : KVariability) (xs : Roles) → Begins (Role.Fixed (variability_word o) ∷ xs)
unfolding starts keyword_kind
var_begins variability.Val xs = begins_keyword kw.Val xs (λ r. refl)
var_begins variability.Var xs = begins_keyword kw.Var xs (λ r. refl)

var_unnamed : (o : KVariability) (xs : Roles) → Unnamed (Role.Fixed (variability_word o) ∷ xs)
unfolding letters tokens keyword_kind names_follow accepts
var_unnamed variability.Val xs r i = refl
var_unnamed variability.Var xs r i = refl

tight_behind : (r : Roles) → Behind r → Tight r
tight_behind r h = tight_after free_place r (h.after free_place) refl

pub declared_stands : (x : KDeclared) → Stands (statement_piece (KStmt-F.Declared x))
unfolding written letters tokens keyword_kind names_follow accepts
declared_stands x = simple (statement_piece (KStmt-F.Declared x)) refl
    (λ is. var_begins x.word _) (λ is. var_unnamed x.word (Role.Fixed g.Blank ∷ (Role.Name x.name.name ∷ Role.Fixed (g.Mark m.Colon) ∷ Role.Fixed g.Blank ∷ type_roles x.kind)))
    (λ is s b r new behind h. let halves = both (type_piece x.kind).readable (fits (depth_of (type_piece x.kind))) is in
    way w.StatementLocal (declared_read x _ b r new halves.0 (tight_behind r behind) (way w.LocalNone (act (acts_Unset (depth_of (type_piece x.kind)) (declared_tree x) b halves.1) h))))

pub tight_assign : (r : Roles) → Tight (fixed assigns ++ r)
unfolding letters tokens mark_kind
tight_assign r = (refl, refl)

assign_after : (p : Place) (r : Roles) → After p (L gap.Plain (fixed assigns ++ r))
unfolding letters tokens mark_kind arguments_follow
assign_after p r = record { free = refl; calm = refl; plain = λ h. refl; stops = λ h n. refl }

assign_named : (r : Roles) → names_follow true (L gap.Plain (fixed assigns ++ r)) ≡ false
unfolding letters tokens mark_kind names_follow
assign_named r = refl

-- `=` and a value
pub assigned : (v : Operand) (s : Symbols) (b : Built) (r : Roles) (new : Built) → Good v → v.readable free_place ≡ true → After free_place (L gap.Plain r)
    → Der s (expr (v.depth free_place) (v.tree free_place) (place b)) (L gap.Plain r) new → Der (y.Term (t.Only k.Assign) ∷ y.Form f.Expr ∷ s) b (L gap.Plain (fixed assigns ++ (v.roles free_place ++ r))) new
unfolding takes letters tokens accepts taken mark_kind
assigned v s b r new good readable after h = take_blank (relaxed_plain (v.roles free_place) r (good.begins free_place readable r)) refl (good.whole free_place refl readable s (place b) r new after h)

local_apart : (A : Roles) (V r : Roles) → (((A ++ fixed assigns) ++ V) ++ r) ≡ (A ++ (fixed assigns ++ (V ++ r)))
local_apart A V r = append_assoc (A ++ fixed assigns) V r ∙ append_assoc A (fixed assigns) (V ++ r)

pub local_stands : (x : KDeclared) (at : Position) (v : Operand) → Good v → Stands (statement_piece (KStmt-F.Local x at v))
unfolding written letters tokens keyword_kind names_follow accepts
local_stands x at v good = simple (statement_piece (KStmt-F.Local x at v)) refl
    (λ is. var_begins x.word _) (λ is. var_unnamed x.word (Role.Fixed g.Blank ∷ ((Role.Name x.name.name ∷ Role.Fixed (g.Mark m.Colon) ∷ Role.Fixed g.Blank ∷ type_roles x.kind) ++ fixed assigns ++ v.roles free_place)))
    (λ is s b r new behind h.
    let whole = both ((type_piece x.kind).readable && v.readable free_place) (fits (max (v.depth free_place) (depth_of (type_piece x.kind)))) is in
    let parts = both (type_piece x.kind).readable (v.readable free_place) whole.0 in
    subst (λ z. Der (y.Form f.Statement ∷ s) b (L gap.Plain z) new) (sym (local_apart (declared_roles x) (v.roles free_place) r))
    (way w.StatementLocal (declared_read x _ b (fixed assigns ++ (v.roles free_place ++ r)) new parts.0 (tight_assign (v.roles free_place ++ r))
    (way w.LocalSome (assigned v _ (decl (depth_of (type_piece x.kind)) (declared_tree x) b) r new good parts.1 (behind.after free_place)
    (act (acts_Local (depth_of (type_piece x.kind)) (declared_tree x) (v.depth free_place) (v.tree free_place) b whole.1) h))))))

-- ---- expressions and assignments

pub expression_stands : (v : Operand) → Good v → Stands (statement_piece (KStmt-F.Expression v))
expression_stands v good = simple (statement_piece (KStmt-F.Expression v)) refl
    (λ is. good.begins free_place (both (v.readable free_place) (fits (v.depth free_place)) is).0)
    (λ is. good.unnamed free_place (both (v.readable free_place) (fits (v.depth free_place)) is).0)
    (λ is s b r new behind h. let halves = both (v.readable free_place) (fits (v.depth free_place)) is in
    good.stated free_place refl halves.0 halves.1 s b r new (behind.after free_place) h)

tails_stop : {s : Symbols} {b : Built} {ls : Letters} {new : Built} → Der (y.Form f.Store ∷ s) b ls new → Der (y.Form f.Suffixes ∷ y.Form f.Tails ∷ s) b ls new
unfolding written
tails_stop h = way w.SuffixesEnd (way w.TailsAll (way w.CastEnd (way w.ProductEnd (way w.SumEnd (way w.InfixEnd (way w.IsEnd (way w.CompareEnd (way w.EqualEnd (way w.AndEnd (way w.OrEnd h))))))))))

pub assign_stands : (x : Operand) (at : Position) (v : Operand) → Good x → Good v → Stands (statement_piece (KStmt-F.Assign x at v))
unfolding written
assign_stands x at v target_good good = simple (statement_piece (KStmt-F.Assign x at v)) refl
    (λ is. begins_more (x.roles P ++ fixed assigns) (v.roles free_place) (begins_more (x.roles P) (fixed assigns) (target_good.begins P (parts is).0)))
    (λ is r i. ap (λ z. names_follow false (L gap.Plain z)) (local_apart (x.roles P) (v.roles free_place) r) ∙ target_good.unnamed P (parts is).0 (fixed assigns ++ (v.roles free_place ++ r)) (assign_named (v.roles free_place ++ r)))
    (λ is s b r new behind h.
    subst (λ z. Der (y.Form f.Statement ∷ s) b (L gap.Plain z) new) (sym (local_apart (x.roles P) (v.roles free_place) r))
    (target_good.written Level.Post P refl (parts is).0 Front.Outer s b (fixed assigns ++ (v.roles free_place ++ r)) new (assign_after P (v.roles free_place ++ r))
    (tails_stop (way w.StoreSome (assigned v _ (expr (x.depth P) (x.tree P) b) r new good (parts is).2 (behind.after free_place)
    (act (acts_Assign (x.depth P) (x.tree P) (v.depth free_place) (v.tree free_place) b (parts is).1 (parts is).3) h))))))
  where
    P : Place
    P = at_post free_place

    parts : ((x.readable P && is_target (x.tree P) && v.readable free_place) && fits (max (v.depth free_place) (x.depth P))) ≡ true
        → (x.readable P ≡ true) × (is_target (x.tree P) ≡ true) × (v.readable free_place ≡ true) × Fits (max (v.depth free_place) (x.depth P))
    parts is =
        let a = both (x.readable P && is_target (x.tree P) && v.readable free_place) (fits (max (v.depth free_place) (x.depth P))) is in
        let b = both (x.readable P && is_target (x.tree P)) (v.readable free_place) a.0 in
        let c = both (x.readable P) (is_target (x.tree P)) b.0 in
        (c.0, c.1, b.1, a.1)

-- ---- heads in parentheses

abbrev pub head : Glyph → Roles → Roles → Roles
head word C r = Role.Fixed word ∷ Role.Fixed g.Blank ∷ Role.Fixed (g.Mark m.OpenRound) ∷ (C ++ close_round r)

pub head_apart : (word : Glyph) (C r : Roles) → (headed word C ++ r) ≡ head word C r
head_apart word C r = ap (λ z. Role.Fixed word ∷ Role.Fixed g.Blank ∷ Role.Fixed (g.Mark m.OpenRound) ∷ z) (append_assoc C (fixed (g.Mark m.CloseRound ∷ [])) r)

-- `(`, an expression, `)`
pub condition : (v : Operand) (s : Symbols) (b : Built) (r : Roles) (new : Built) → Good v → v.readable free_place ≡ true
    → Der s (place (expr (v.depth free_place) (v.tree free_place) (place b))) (L gap.Plain r) new
    → Der (y.Term (t.Only k.OpenRound) ∷ y.Form f.Expr ∷ y.Term (t.Only k.CloseRound) ∷ s) b (L gap.Plain (Role.Fixed g.Blank ∷ Role.Fixed (g.Mark m.OpenRound) ∷ (v.roles free_place ++ close_round r))) new
unfolding takes letters tokens accepts taken mark_kind
condition v s b r new good readable h = take refl (good.whole free_place refl readable _ (place b) (close_round r) new (after_round free_place r) (take refl h))

abbrev pub blocked : List (Piece KStmt) → KBlock
blocked xs = record { curly = made_brackets; statements = map tree_of xs }

-- ---- `if`

pub if_begins : (xs : Roles) → Begins (Role.Fixed (g.Keyword kw.If) ∷ xs)
unfolding starts keyword_kind
if_begins xs = begins_keyword kw.If xs (λ r. refl)

if_unnamed : (xs : Roles) → Unnamed (Role.Fixed (g.Keyword kw.If) ∷ xs)
unfolding letters tokens keyword_kind names_follow accepts
if_unnamed xs r i = refl

-- `if`, `(`, an expression, `)`
pub if_cond : (v : Operand) (s : Symbols) (b : Built) (z : Roles) (new : Built) → Good v → v.readable free_place ≡ true
    → Der s (place (expr (v.depth free_place) (v.tree free_place) (place (place b)))) (L gap.Plain z) new
    → Der (y.Term (t.Only k.If) ∷ y.Term (t.Only k.OpenRound) ∷ y.Form f.Expr ∷ y.Term (t.Only k.CloseRound) ∷ s) b (L gap.Plain (head (g.Keyword kw.If) (v.roles free_place) z)) new
unfolding takes letters tokens accepts taken keyword_kind
if_cond v s b z new good readable h = take refl (condition v s (place b) z new good readable h)

-- what is built before `else`
abbrev before_else : Operand → List (Piece KStmt) → Built → Built
before_else v xs b = block (block_depth xs) (blocked xs) (place (expr (v.depth free_place) (v.tree free_place) (place (place b))))

if_stands : (x : Piece KStmt) (v : Operand) (xs : List (Piece KStmt)) (Z : Roles → Roles) → Good v → AllStand xs
    → (x.readable ≡ true → (v.readable free_place ≡ true) × (block_readable xs ≡ true))
    → ((r : Roles) → (x.roles ++ r) ≡ head (g.Keyword kw.If) (v.roles free_place) (block_of (map roles_of xs) ++ Z r))
    → (more : Roles) → x.roles ≡ (Role.Fixed (g.Keyword kw.If) ∷ more)
    → (x.readable ≡ true → (s : Symbols) (b : Built) (r : Roles) (new : Built) → Behind r → Der s (stmt x.depth x.tree b) (L gap.Plain r) new
    → Der (y.Form f.ElseRest ∷ s) (before_else v xs b) (L gap.Plain (Z r)) new) → Stands x
unfolding written
if_stands x v xs Z good all parts apart more starts_if rest = record {
  front = [];
  body = x.roles;
  same = refl;
  line = λ z. refl;
  semicolon = λ z. refl;
  plain = λ z. inl refl;
  begins = λ is. subst Begins (sym starts_if) (if_begins more);
  unnamed = λ is. subst Unnamed (sym starts_if) (if_unnamed more);
  reads = λ is s b r new behind h. subst (λ u. Der (y.Form f.Statement ∷ s) b (L gap.Plain u) new) (sym (apart r))
      (way w.StatementIf (if_cond v _ b (block_of (map roles_of xs) ++ Z r) new good (parts is).0
      (way w.IfBlock (block_read xs _ (place (expr (v.depth free_place) (v.tree free_place) (place (place b)))) (Z r) new all (parts is).1 (rest is s b r new behind h)))));
  else_reads = λ i is s b r new behind h. subst (λ u. Der (y.Form f.ElseBody ∷ s) b (L gap.Plain u) new) (sym (apart r))
      (way w.ElseIf (if_cond v _ b (block_of (map roles_of xs) ++ Z r) new good (parts is).0
      (block_read xs _ (place (expr (v.depth free_place) (v.tree free_place) (place (place b)))) (Z r) new all (parts is).1 (rest is (y.Act a.IfElseIf ∷ s) b r new behind h))));
  else_begins = λ is. subst Begins (sym starts_if) (if_begins more);
}

pub takes_else : (z : Roles) (b : Built) → stands is_arrow (L gap.Plain z) ≡ false → takes taken (t.Only k.Else) b (L gap.Plain (Role.Fixed g.Blank ∷ Role.Fixed (g.Keyword kw.Else) ∷ z)) ≡ Some (place b, L gap.Plain z)
unfolding takes letters tokens accepts taken keyword_kind
takes_else z b arrow = ap (λ c. takes taken (t.Only k.Else) b (letter_by (if c then k.ElseArrow else k.Else) (token (q.Keyword kw.Else) gap.Plain) ∷ L gap.Plain z)) arrow

curly_arrow : (xs : List (Piece KStmt)) (r : Roles) → AllStand xs → all_readable xs ≡ true → stands is_arrow (L gap.Plain (block_of (map roles_of xs) ++ r)) ≡ false
unfolding letters tokens mark_kind
curly_arrow xs r all readable =
    ap (λ u. stands is_arrow (letter_by (curly_kind (L gap.Plain u)) (token (q.Mark m.OpenCurly) gap.Plain) ∷ L gap.Plain u)) (append_assoc (lines (map roles_of xs)) (fixed closed_glyphs) r)
    ∙ ap (λ c. stands is_arrow (letter_by c (token (q.Mark m.OpenCurly) gap.Plain) ∷ L gap.Plain (lines (map roles_of xs) ++ (fixed closed_glyphs ++ r)))) (block_curly xs r all readable)

pub if_one_stands : (at : KHeadAt) (v : Operand) (curly : Brackets) (xs : List (Piece KStmt)) → Good v → AllStand xs → Stands (statement_piece (KStmt-F.If at v curly xs))
unfolding written
if_one_stands at v curly xs good all =
    let x = statement_piece (KStmt-F.If at v curly xs) in
    let parts : x.readable ≡ true → (v.readable free_place ≡ true) × (block_readable xs ≡ true) × Fits (max (block_depth xs) (v.depth free_place)) = λ is.
    let a = both (v.readable free_place && block_readable xs) (fits (max (block_depth xs) (v.depth free_place))) is in
    let b = both (v.readable free_place) (block_readable xs) a.0 in (b.0, b.1, a.1) in
    if_stands x v xs (λ r. r) good all (λ is. ((parts is).0, (parts is).1))
    (λ r. append_assoc (headed (g.Keyword kw.If) (v.roles free_place)) (block_of (map roles_of xs)) r ∙ head_apart (g.Keyword kw.If) (v.roles free_place) (block_of (map roles_of xs) ++ r))
    _ refl
    (λ is s b r new behind h. way w.ElseNone (act (acts_If (v.depth free_place) (v.tree free_place) (block_depth xs) (blocked xs) b (parts is).2) h))

abbrev else_of : Roles → Roles
else_of z = Role.Fixed g.Blank ∷ Role.Fixed (g.Keyword kw.Else) ∷ z

pub if_else_stands : (at : KHeadAt) (v : Operand) (curly : Brackets) (xs : List (Piece KStmt)) (else_at : Position) (curly2 : Brackets) (ys : List (Piece KStmt)) → Good v → AllStand xs → AllStand ys
    → Stands (statement_piece (KStmt-F.IfElse at v curly xs else_at curly2 ys))
unfolding written
if_else_stands at v curly xs else_at curly2 ys good all all2 =
    let x = statement_piece (KStmt-F.IfElse at v curly xs else_at curly2 ys) in
    let H = headed (g.Keyword kw.If) (v.roles free_place) in
    let B = block_of (map roles_of xs) in
    let E = fixed (g.Blank ∷ g.Keyword kw.Else ∷ []) in
    let O = block_of (map roles_of ys) in
    let d = max (max (block_depth ys) (block_depth xs)) (v.depth free_place) in
    let parts : x.readable ≡ true → (v.readable free_place ≡ true) × (block_readable xs ≡ true) × (block_readable ys ≡ true) × Fits d = λ is.
    let a = both (v.readable free_place && block_readable xs && block_readable ys) (fits d) is in
    let b = both (v.readable free_place && block_readable xs) (block_readable ys) a.0 in
    let c = both (v.readable free_place) (block_readable xs) b.0 in (c.0, c.1, b.1, a.1) in
    if_stands x v xs (λ r. else_of (O ++ r)) good all (λ is. ((parts is).0, (parts is).1))
    (λ r. append_assoc ((H ++ B) ++ E) O r ∙ append_assoc (H ++ B) E (O ++ r) ∙ append_assoc H B (E ++ (O ++ r)) ∙ head_apart (g.Keyword kw.If) (v.roles free_place) (B ++ (E ++ (O ++ r))))
    _ refl
    (λ is s b r new behind h. way w.ElseSome (take (takes_else (O ++ r) (before_else v xs b) (curly_arrow ys r all2 (both (all_readable ys) (fits (deepest 0 (map depth_of ys))) (parts is).2).0))
    (way w.ElseBlock (block_read ys _ (place (before_else v xs b)) r new all2 (parts is).2
    (act (acts_IfElse (v.depth free_place) (v.tree free_place) (block_depth xs) (blocked xs) (block_depth ys) (blocked ys) b (parts is).3) h)))))

pub if_else_if_stands : (at : KHeadAt) (v : Operand) (curly : Brackets) (xs : List (Piece KStmt)) (else_at : Position) (other : Piece KStmt) → Good v → AllStand xs → Stands other
    → Stands (statement_piece (KStmt-F.IfElseIf at v curly xs else_at other))
unfolding written tokens
if_else_if_stands at v curly xs else_at other good all stands_other =
    let x = statement_piece (KStmt-F.IfElseIf at v curly xs else_at other) in
    let H = headed (g.Keyword kw.If) (v.roles free_place) in
    let B = block_of (map roles_of xs) in
    let E = fixed (g.Blank ∷ g.Keyword kw.Else ∷ g.Blank ∷ []) in
    let d = max (max other.depth (block_depth xs)) (v.depth free_place) in
    let parts : x.readable ≡ true → (v.readable free_place ≡ true) × (block_readable xs ≡ true) × (other.readable ≡ true) × (other.is_if ≡ true) × Fits d = λ is.
    let a = both (v.readable free_place && block_readable xs && other.readable && other.is_if) (fits d) is in
    let b = both (v.readable free_place && block_readable xs && other.readable) other.is_if a.0 in
    let c = both (v.readable free_place && block_readable xs) other.readable b.0 in
    let e = both (v.readable free_place) (block_readable xs) c.0 in (e.0, e.1, c.1, b.1, a.1) in
    if_stands x v xs (λ r. else_of (Role.Fixed g.Blank ∷ (other.roles ++ r))) good all (λ is. ((parts is).0, (parts is).1))
    (λ r. append_assoc ((H ++ B) ++ E) other.roles r ∙ append_assoc (H ++ B) E (other.roles ++ r) ∙ append_assoc H B (E ++ (other.roles ++ r)) ∙ head_apart (g.Keyword kw.If) (v.roles free_place) (B ++ (E ++ (other.roles ++ r))))
    _ refl
    (λ is s b r new behind h. way w.ElseSome (take (takes_else (Role.Fixed g.Blank ∷ (other.roles ++ r)) (before_else v xs b) (first_arrow other.roles r gap.Plain (stands_other.else_begins (parts is).3 r)))
    (stands_other.else_reads (parts is).3 (parts is).2 s (place (before_else v xs b)) r new behind
    (act (acts_IfElseIf (v.depth free_place) (v.tree free_place) (block_depth xs) (blocked xs) other.depth other.tree b (parts is).4) h))))

-- ---- labels and loops

label_read : (l : Option KLabel) (s : Symbols) (b : Built) (z : Roles) (new : Built) → Der (y.Form f.Loop ∷ s) (label (option_map unplaced_label l) b) (L gap.Plain z) new → Der (y.Form f.Statement ∷ s) b (L gap.Plain (label_roles l ++ z)) new
unfolding written takes letters tokens accepts taken mark_kind
label_read None s b z new h = way w.StatementLoop (act (acts_NoLabel b) h)
label_read (Some x) s b z new h = way w.StatementLabelled (take (takes_label x.name.name (Role.Fixed g.Blank ∷ z) b) (take refl (act (acts_Label x.name.name b) h)))

label_begins : (l : Option KLabel) (xs : Roles) → Begins xs → Begins (label_roles l ++ xs)
label_begins None xs h = h
label_begins (Some x) xs h = begins_name x.name.name (fixed (g.Mark m.At ∷ g.Blank ∷ []) ++ xs)

at_named : (r : Roles) → names_follow true (L gap.Plain (Role.Fixed (g.Mark m.At) ∷ r)) ≡ false
unfolding letters tokens mark_kind names_follow
at_named r = refl

label_unnamed : (l : Option KLabel) (xs : Roles) → Unnamed xs → Unnamed (label_roles l ++ xs)
label_unnamed None xs h = h
label_unnamed (Some x) xs h = λ r i. unnamed_name x.name.name (fixed (g.Mark m.At ∷ g.Blank ∷ []) ++ (xs ++ r)) (at_named (Role.Fixed g.Blank ∷ (xs ++ r)))

while_begins : (xs : Roles) → Begins (Role.Fixed (g.Keyword kw.While) ∷ xs)
unfolding starts keyword_kind
while_begins xs = begins_keyword kw.While xs (λ r. refl)

while_unnamed : (xs : Roles) → Unnamed (Role.Fixed (g.Keyword kw.While) ∷ xs)
unfolding letters tokens keyword_kind names_follow accepts
while_unnamed xs r i = refl

do_begins : (xs : Roles) → Begins (Role.Fixed (g.Keyword kw.Do) ∷ xs)
unfolding starts keyword_kind
do_begins xs = begins_keyword kw.Do xs (λ r. refl)

do_unnamed : (xs : Roles) → Unnamed (Role.Fixed (g.Keyword kw.Do) ∷ xs)
unfolding letters tokens keyword_kind names_follow accepts
do_unnamed xs r i = refl

for_begins : (xs : Roles) → Begins (Role.Fixed (g.Keyword kw.For) ∷ xs)
unfolding starts keyword_kind
for_begins xs = begins_keyword kw.For xs (λ r. refl)

for_unnamed : (xs : Roles) → Unnamed (Role.Fixed (g.Keyword kw.For) ∷ xs)
unfolding letters tokens keyword_kind names_follow accepts
for_unnamed xs r i = refl

try_begins : (xs : Roles) → Begins (Role.Fixed (g.Keyword kw.Try) ∷ xs)
unfolding starts keyword_kind
try_begins xs = begins_keyword kw.Try xs (λ r. refl)

try_unnamed : (xs : Roles) → Unnamed (Role.Fixed (g.Keyword kw.Try) ∷ xs)
unfolding letters tokens keyword_kind names_follow accepts
try_unnamed xs r i = refl

break_begins : (xs : Roles) → Begins (Role.Fixed (g.Keyword kw.Break) ∷ xs)
unfolding starts keyword_kind
break_begins xs = begins_keyword kw.Break xs (λ r. refl)

break_unnamed : (xs : Roles) → Unnamed (Role.Fixed (g.Keyword kw.Break) ∷ xs)
unfolding letters tokens keyword_kind names_follow accepts
break_unnamed xs r i = refl

continue_begins : (xs : Roles) → Begins (Role.Fixed (g.Keyword kw.Continue) ∷ xs)
unfolding starts keyword_kind
continue_begins xs = begins_keyword kw.Continue xs (λ r. refl)

continue_unnamed : (xs : Roles) → Unnamed (Role.Fixed (g.Keyword kw.Continue) ∷ xs)
unfolding letters tokens keyword_kind names_follow accepts
continue_unnamed xs r i = refl

return_begins : (xs : Roles) → Begins (Role.Fixed (g.Keyword kw.Return) ∷ xs)
unfolding starts keyword_kind
return_begins xs = begins_keyword kw.Return xs (λ r. refl)

return_unnamed : (xs : Roles) → Unnamed (Role.Fixed (g.Keyword kw.Return) ∷ xs)
unfolding letters tokens keyword_kind names_follow accepts
return_unnamed xs r i = refl

throw_begins : (xs : Roles) → Begins (Role.Fixed (g.Keyword kw.Throw) ∷ xs)
unfolding starts keyword_kind
throw_begins xs = begins_keyword kw.Throw xs (λ r. refl)

throw_unnamed : (xs : Roles) → Unnamed (Role.Fixed (g.Keyword kw.Throw) ∷ xs)
unfolding letters tokens keyword_kind names_follow accepts
throw_unnamed xs r i = refl

-- a loop behind its label
loop_stands : (x : Piece KStmt) (l : Option KLabel) (body : Roles) (Z : Roles → Roles) → x.is_if ≡ false → ((r : Roles) → (x.roles ++ r) ≡ (label_roles l ++ Z r)) → x.roles ≡ (label_roles l ++ body) → Begins body → Unnamed body
    → (x.readable ≡ true → (s : Symbols) (b : Built) (r : Roles) (new : Built) → Behind r → Der s (stmt x.depth x.tree b) (L gap.Plain r) new → Der (y.Form f.Loop ∷ s) (label (option_map unplaced_label l) b) (L gap.Plain (Z r)) new) → Stands x
loop_stands x l body Z no_if apart same begins unnamed reads = simple x no_if
    (λ is. subst Begins (sym same) (label_begins l body begins))
    (λ is. subst Unnamed (sym same) (label_unnamed l body unnamed))
    (λ is s b r new behind h. subst (λ u. Der (y.Form f.Statement ∷ s) b (L gap.Plain u) new) (sym (apart r)) (label_read l s b (Z r) new (reads is s b r new behind h)))

pub while_stands : (l : Option KLabel) (at : KHeadAt) (v : Operand) (curly : Brackets) (xs : List (Piece KStmt)) → Good v → AllStand xs → Stands (statement_piece (KStmt-F.While l at v curly xs))
unfolding written takes letters tokens accepts taken keyword_kind names_follow
while_stands l at v curly xs good all =
    let x = statement_piece (KStmt-F.While l at v curly xs) in
    let H = headed (g.Keyword kw.While) (v.roles free_place) in
    let B = block_of (map roles_of xs) in
    let d = max (block_depth xs) (v.depth free_place) in
    let parts : x.readable ≡ true → (v.readable free_place ≡ true) × (block_readable xs ≡ true) × Fits d = λ is.
    let a = both (v.readable free_place && block_readable xs) (fits d) is in
    let b = both (v.readable free_place) (block_readable xs) a.0 in (b.0, b.1, a.1) in
    loop_stands x l (H ++ B) (λ r. head (g.Keyword kw.While) (v.roles free_place) (B ++ r)) refl
    (λ r. append_assoc (label_roles l ++ H) B r ∙ append_assoc (label_roles l) H (B ++ r) ∙ ap (λ z. label_roles l ++ z) (head_apart (g.Keyword kw.While) (v.roles free_place) (B ++ r)))
    (append_assoc (label_roles l) H B) (while_begins _) (λ r i. refl)
    (λ is s b r new behind h. let c = label (option_map unplaced_label l) b in
    way w.LoopWhile (take refl (condition v _ (place c) (B ++ r) new good (parts is).0
    (block_read xs _ (place (expr (v.depth free_place) (v.tree free_place) (place (place c)))) r new all (parts is).1
    (act (acts_While (option_map unplaced_label l) (v.depth free_place) (v.tree free_place) (block_depth xs) (blocked xs) b (parts is).2) h)))))

pub do_stands : (l : Option KLabel) (at : Position) (curly : Brackets) (xs : List (Piece KStmt)) (at2 : KHeadAt) (v : Operand) → Good v → AllStand xs → Stands (statement_piece (KStmt-F.DoWhile l at curly xs at2 v))
unfolding written takes letters tokens accepts taken keyword_kind names_follow
do_stands l at curly xs at2 v good all =
    let x = statement_piece (KStmt-F.DoWhile l at curly xs at2 v) in
    let H = headed (g.Keyword kw.While) (v.roles free_place) in
    let B = block_of (map roles_of xs) in
    let D = fixed (g.Keyword kw.Do ∷ []) in
    let S = fixed (g.Blank ∷ []) in
    let d = max (v.depth free_place) (block_depth xs) in
    let parts : x.readable ≡ true → (v.readable free_place ≡ true) × (block_readable xs ≡ true) × Fits d = λ is.
    let a = both (v.readable free_place && block_readable xs) (fits d) is in
    let b = both (v.readable free_place) (block_readable xs) a.0 in (b.0, b.1, a.1) in
    loop_stands x l (D ++ (B ++ (S ++ H))) (λ r. D ++ (B ++ (S ++ head (g.Keyword kw.While) (v.roles free_place) r))) refl
    (λ r. append_assoc (((label_roles l ++ D) ++ B) ++ S) H r ∙ append_assoc ((label_roles l ++ D) ++ B) S (H ++ r) ∙ append_assoc (label_roles l ++ D) B (S ++ (H ++ r)) ∙ append_assoc (label_roles l) D (B ++ (S ++ (H ++ r)))
    ∙ ap (λ z. label_roles l ++ (D ++ (B ++ (S ++ z)))) (head_apart (g.Keyword kw.While) (v.roles free_place) r))
    (append_assoc ((label_roles l ++ D) ++ B) S H ∙ append_assoc (label_roles l ++ D) B (S ++ H) ∙ append_assoc (label_roles l) D (B ++ (S ++ H))) (do_begins _) (λ r i. refl)
    (λ is s b r new behind h. let c = place (label (option_map unplaced_label l) b) in
    way w.LoopDo (take refl (block_read xs _ c (S ++ head (g.Keyword kw.While) (v.roles free_place) r) new all (parts is).1
    (take refl (condition v _ (place (block (block_depth xs) (blocked xs) c)) r new good (parts is).0
    (act (acts_DoWhile (option_map unplaced_label l) (block_depth xs) (blocked xs) (v.depth free_place) (v.tree free_place) b (parts is).2) h))))))

in_free : (r : Roles) → Free (L gap.Plain (Role.Fixed g.Blank ∷ Role.Fixed (g.Keyword kw.In) ∷ r))
unfolding letters tokens keyword_kind
in_free r = refl

in_calm : (r : Roles) → stands is_curly (L gap.Plain (Role.Fixed g.Blank ∷ Role.Fixed (g.Keyword kw.In) ∷ r)) ≡ false
unfolding letters tokens keyword_kind
in_calm r = refl

abbrev in_behind : Roles → Roles
in_behind z = Role.Fixed g.Blank ∷ Role.Fixed (g.Keyword kw.In) ∷ Role.Fixed g.Blank ∷ z

-- `for`, `(`, a name, `in`
for_read : (x : KName) (s : Symbols) (b : Built) (z : Roles) (new : Built) → Der s (place (nm x.name (place (place b)))) (L gap.Plain z) new
    → Der (y.Term (t.Only k.For) ∷ y.Term (t.Only k.OpenRound) ∷ y.Term t.Name ∷ y.Term (t.Only k.In) ∷ s) b (L gap.Plain (for_head x ++ z)) new
unfolding takes letters tokens accepts taken keyword_kind mark_kind
for_read x s b z new h = take refl (take refl (take (takes_name x.name (in_behind z) (place (place b)) (in_free (Role.Fixed g.Blank ∷ z)) (λ is. in_calm (Role.Fixed g.Blank ∷ z))) (take refl h)))

pub for_stands : (l : Option KLabel) (at : KHeadAt) (x : KName) (in_at : Position) (v : Operand) (curly : Brackets) (xs : List (Piece KStmt)) → Good v → AllStand xs → Stands (statement_piece (KStmt-F.For l at x in_at v curly xs))
unfolding written takes letters tokens accepts taken mark_kind keyword_kind names_follow
for_stands l at n in_at v curly xs good all =
    let x = statement_piece (KStmt-F.For l at n in_at v curly xs) in
    let F = for_head n in
    let V = v.roles free_place in
    let C = fixed (g.Mark m.CloseRound ∷ []) in
    let B = block_of (map roles_of xs) in
    let d = max (block_depth xs) (v.depth free_place) in
    let parts : x.readable ≡ true → (v.readable free_place ≡ true) × (block_readable xs ≡ true) × Fits d = λ is.
    let a = both (v.readable free_place && block_readable xs) (fits d) is in
    let b = both (v.readable free_place) (block_readable xs) a.0 in (b.0, b.1, a.1) in
    loop_stands x l (F ++ (V ++ (C ++ B))) (λ r. F ++ (V ++ close_round (B ++ r))) refl
    (λ r. append_assoc (((label_roles l ++ F) ++ V) ++ C) B r ∙ append_assoc ((label_roles l ++ F) ++ V) C (B ++ r) ∙ append_assoc (label_roles l ++ F) V (C ++ (B ++ r)) ∙ append_assoc (label_roles l) F (V ++ (C ++ (B ++ r))))
    (append_assoc ((label_roles l ++ F) ++ V) C B ∙ append_assoc (label_roles l ++ F) V (C ++ B) ∙ append_assoc (label_roles l) F (V ++ (C ++ B))) (for_begins _) (λ r i. refl)
    (λ is s b r new behind h. let c = label (option_map unplaced_label l) b in
    way w.LoopFor (for_read n _ c (V ++ close_round (B ++ r)) new
    (good.whole free_place refl (parts is).0 _ (place (nm n.name (place (place c)))) (close_round (B ++ r)) new (after_round free_place (B ++ r))
    (way w.ForEach (take refl (block_read xs _ (place (expr (v.depth free_place) (v.tree free_place) (place (nm n.name (place (place c)))))) r new all (parts is).1
    (act (acts_For (option_map unplaced_label l) n.name (v.depth free_place) (v.tree free_place) (block_depth xs) (blocked xs) b (parts is).2) h)))))))

abbrev until : Roles → Roles
until z = Role.Fixed g.Blank ∷ Role.Fixed (g.Word o.Until) ∷ Role.Fixed g.Blank ∷ z

until_seen : (R r : Roles) → First R r → L gap.Plain (until (R ++ r)) ≡ (record { kind = k.UntilWord; token = token (q.Word o.Until) gap.Plain } ∷ L gap.Plain (R ++ r))
unfolding letters tokens kind_of_word
until_seen R r f = ap (λ z. letter_by z (token (q.Word o.Until) gap.Plain) ∷ L gap.Plain (R ++ r)) (named_plain k.UntilWord (L gap.Plain (R ++ r)) (first_less R r gap.Plain f) (first_at R r gap.Plain f))

takes_until : (R r : Roles) (b : Built) → First R r → takes taken (t.Only k.UntilWord) b (L gap.Plain (until (R ++ r))) ≡ Some (place b, relaxed (L gap.Plain (R ++ r)))
unfolding takes accepts taken
takes_until R r b f = ap (takes taken (t.Only k.UntilWord) b) (until_seen R r f)

until_quiet : (p : Place) (R r : Roles) → First R r → After p (L gap.Plain (until (R ++ r)))
unfolding quiet
until_quiet p R r f = subst (After p) (sym (until_seen R r f)) (after_letter p _ _ refl)

pub for_range_stands : (l : Option KLabel) (at : KHeadAt) (x : KName) (in_at : Position) (v : Operand) (until_at : Position) (u : Operand) (curly : Brackets) (xs : List (Piece KStmt)) → Good v → Good u → AllStand xs
    → Stands (statement_piece (KStmt-F.ForRange l at x in_at v until_at u curly xs))
unfolding written takes letters tokens accepts taken mark_kind keyword_kind names_follow
for_range_stands l at n in_at v until_at u curly xs good good2 all =
    let x = statement_piece (KStmt-F.ForRange l at n in_at v until_at u curly xs) in
    let p1 = operand_place infix_level free_place in
    let p2 = operand_place (infix_level + 1) free_place in
    let F = for_head n in
    let V = v.roles p1 in
    let M = fixed (g.Blank ∷ g.Word o.Until ∷ g.Blank ∷ []) in
    let E = u.roles p2 in
    let C = fixed (g.Mark m.CloseRound ∷ []) in
    let B = block_of (map roles_of xs) in
    let d = max (max (block_depth xs) (u.depth p2)) (v.depth p1) in
    let parts : x.readable ≡ true → (v.readable p1 ≡ true) × (u.readable p2 ≡ true) × (block_readable xs ≡ true) × Fits d = λ is.
    let a = both (v.readable p1 && u.readable p2 && block_readable xs) (fits d) is in
    let b = both (v.readable p1 && u.readable p2) (block_readable xs) a.0 in
    let c = both (v.readable p1) (u.readable p2) b.0 in (c.0, c.1, b.1, a.1) in
    loop_stands x l (F ++ (V ++ (M ++ (E ++ (C ++ B))))) (λ r. F ++ (V ++ (M ++ (E ++ close_round (B ++ r))))) refl
    (λ r. append_assoc (((((label_roles l ++ F) ++ V) ++ M) ++ E) ++ C) B r ∙ append_assoc ((((label_roles l ++ F) ++ V) ++ M) ++ E) C (B ++ r) ∙ append_assoc (((label_roles l ++ F) ++ V) ++ M) E (C ++ (B ++ r))
    ∙ append_assoc ((label_roles l ++ F) ++ V) M (E ++ (C ++ (B ++ r))) ∙ append_assoc (label_roles l ++ F) V (M ++ (E ++ (C ++ (B ++ r)))) ∙ append_assoc (label_roles l) F (V ++ (M ++ (E ++ (C ++ (B ++ r))))))
    (append_assoc ((((label_roles l ++ F) ++ V) ++ M) ++ E) C B ∙ append_assoc (((label_roles l ++ F) ++ V) ++ M) E (C ++ B)
    ∙ append_assoc ((label_roles l ++ F) ++ V) M (E ++ (C ++ B)) ∙ append_assoc (label_roles l ++ F) V (M ++ (E ++ (C ++ B))) ∙ append_assoc (label_roles l) F (V ++ (M ++ (E ++ (C ++ B))))) (for_begins _) (λ r i. refl)
    (λ is s b r new behind h.
    let c = label (option_map unplaced_label l) b in
    let b1 = place (nm n.name (place (place c))) in
    let first = good2.begins p2 (parts is).1 (close_round (B ++ r)) in
    way w.LoopFor (for_read n _ c (V ++ (M ++ (E ++ close_round (B ++ r)))) new
    (whole_of Level.Infix p1 (v.depth p1) (v.tree p1) V (good.written Level.Infix p1 refl (parts is).0) _ b1 (M ++ (E ++ close_round (B ++ r))) new (until_quiet p1 E (close_round (B ++ r)) first)
    (way w.ForRange (take_blank (relaxed_plain E (close_round (B ++ r)) first) (takes_until E (close_round (B ++ r)) (expr (v.depth p1) (v.tree p1) b1) first)
    (whole_of Level.Sum p2 (u.depth p2) (u.tree p2) E (good2.written Level.Sum p2 refl (parts is).1) _ (place (expr (v.depth p1) (v.tree p1) b1)) (close_round (B ++ r)) new (after_round p2 (B ++ r))
    (take refl (block_read xs _ (place (expr (u.depth p2) (u.tree p2) (place (expr (v.depth p1) (v.tree p1) b1)))) r new all (parts is).2
    (act (acts_ForRange (option_map unplaced_label l) n.name (v.depth p1) (v.tree p1) (u.depth p2) (u.tree p2) (block_depth xs) (blocked xs) b (parts is).3) h)))))))))

-- ---- jumps

target_read : (x : Option KTarget) (s : Symbols) (b : Built) (r : Roles) (new : Built) → Tight r → stands is_curly (L gap.Plain r) ≡ false
    → Der s (target (option_map unplaced_target x) b) (L gap.Plain r) new → Der (y.Form f.Target ∷ s) b (L gap.Plain (target_roles x ++ r)) new
unfolding written takes letters tokens accepts taken mark_kind
target_read None s b r new tight calm h = way w.TargetNone (act (acts_NoTarget b) h)
target_read (Some x) s b r new tight calm h = way w.TargetSome (take refl (take (takes_target_name x.name.name r (place b) tight.0 tight.1 (λ is. calm)) (act (acts_Target x.name.name b) h)))

pub break_stands : (at : Position) (x : Option KTarget) → Stands (statement_piece (KStmt-F.Break at x))
unfolding written takes letters tokens accepts taken keyword_kind names_follow
break_stands at x = simple (statement_piece (KStmt-F.Break at x)) refl (λ is. break_begins _) (λ is r i. refl)
    (λ is s b r new behind h. way w.StatementBreak (take refl (target_read x _ (place b) r new (tight_behind r behind) (behind.after free_place).calm
    (act (acts_Break (option_map unplaced_target x) b) h))))

pub continue_stands : (at : Position) (x : Option KTarget) → Stands (statement_piece (KStmt-F.Continue at x))
unfolding written takes letters tokens accepts taken keyword_kind names_follow
continue_stands at x = simple (statement_piece (KStmt-F.Continue at x)) refl (λ is. continue_begins _) (λ is r i. refl)
    (λ is s b r new behind h. way w.StatementContinue (take refl (target_read x _ (place b) r new (tight_behind r behind) (behind.after free_place).calm
    (act (acts_Continue (option_map unplaced_target x) b) h))))

pub return_stands : (at : Position) (x : Option KTarget) → Stands (statement_piece (KStmt-F.Return at x))
unfolding written takes letters tokens accepts taken keyword_kind names_follow
return_stands at x = simple (statement_piece (KStmt-F.Return at x)) refl (λ is. return_begins _) (λ is r i. refl)
    (λ is s b r new behind h. way w.StatementReturn (take refl (target_read x _ (place b) r new (tight_behind r behind) (behind.after free_place).calm
    (way w.GivenNone (act (acts_Return (option_map unplaced_target x) b) h)))))

pub give_stands : (at : Position) (x : Option KTarget) (v : Operand) → Good v → Stands (statement_piece (KStmt-F.Give at x v))
unfolding written takes letters tokens accepts taken keyword_kind names_follow
give_stands at x v good = simple (statement_piece (KStmt-F.Give at x v)) refl (λ is. return_begins _) (λ is r i. refl)
    (λ is s b r new behind h.
    let halves = both (v.readable free_place) (fits (v.depth free_place)) is in
    let V = v.roles free_place in
    let first = good.begins free_place halves.0 r in
    subst (λ z. Der (y.Form f.Statement ∷ s) b (L gap.Plain z) new) (sym (append_assoc (fixed (g.Keyword kw.Return ∷ []) ++ target_roles x ++ fixed (g.Blank ∷ [])) V r ∙ append_assoc (fixed (g.Keyword kw.Return ∷ []) ++ target_roles x) (fixed (g.Blank ∷ [])) (V ++ r)))
    (way w.StatementReturn (take refl (target_read x _ (place b) (Role.Fixed g.Blank ∷ (V ++ r)) new (first_less V r gap.Plain first, first_at V r gap.Plain first) (first_curly V r gap.Plain first)
    (way w.GivenSome (good.whole free_place refl halves.0 _ (target (option_map unplaced_target x) (place b)) r new (behind.after free_place)
    (act (acts_Give (option_map unplaced_target x) (v.depth free_place) (v.tree free_place) b halves.1) h)))))))

pub throw_stands : (at : Position) (v : Operand) → Good v → Stands (statement_piece (KStmt-F.Throw at v))
unfolding written takes letters tokens accepts taken keyword_kind names_follow
throw_stands at v good = simple (statement_piece (KStmt-F.Throw at v)) refl (λ is. throw_begins _) (λ is r i. refl)
    (λ is s b r new behind h.
    let halves = both (v.readable free_place) (fits (v.depth free_place)) is in
    way w.StatementThrow (take refl (good.whole free_place refl halves.0 _ (place b) r new (behind.after free_place)
    (act (acts_Throw (v.depth free_place) (v.tree free_place) b halves.1) h))))

-- ---- `synchronized`

sync_begins : (C : Roles) → Begins (Role.Fixed (g.Word o.SynchronizedBlock) ∷ Role.Fixed (g.Mark m.OpenRound) ∷ C)
unfolding starts kind_of_word letters tokens mark_kind
sync_begins C = begins_word o.SynchronizedBlock (Role.Fixed (g.Mark m.OpenRound) ∷ C) (λ r. refl)

sync_unnamed : (C : Roles) → Unnamed (Role.Fixed (g.Word o.SynchronizedBlock) ∷ Role.Fixed (g.Mark m.OpenRound) ∷ C)
unfolding letters tokens kind_of_word mark_kind names_follow accepts
sync_unnamed C r i = refl

pub synchronized_stands : (at : KHeadAt) (v : Operand) (curly : Brackets) (xs : List (Piece KStmt)) → Good v → AllStand xs → Stands (statement_piece (KStmt-F.Synchronized at v curly xs))
unfolding written takes letters tokens accepts taken kind_of_word mark_kind keyword_kind names_follow
synchronized_stands at v curly xs good all =
    let x = statement_piece (KStmt-F.Synchronized at v curly xs) in
    let V = v.roles free_place in
    let W = fixed (g.Word o.SynchronizedBlock ∷ []) in
    let B = block_of (map roles_of xs) in
    let d = max (block_depth xs) (v.depth free_place) in
    let parts : x.readable ≡ true → (v.readable free_place ≡ true) × (block_readable xs ≡ true) × Fits d = λ is.
    let a = both (v.readable free_place && block_readable xs) (fits d) is in
    let b = both (v.readable free_place) (block_readable xs) a.0 in (b.0, b.1, a.1) in
    simple x refl (λ is. sync_begins _) (λ is r i. refl)
    (λ is s b r new behind h.
    subst (λ z. Der (y.Form f.Statement ∷ s) b (L gap.Plain z) new)
    (sym (append_assoc (W ++ in_round V) B r ∙ ap (λ z. Role.Fixed (g.Word o.SynchronizedBlock) ∷ Role.Fixed (g.Mark m.OpenRound) ∷ z) (append_assoc V (fixed (g.Mark m.CloseRound ∷ [])) (B ++ r))))
    (way w.StatementSynchronized (take refl (take refl (good.whole free_place refl (parts is).0 _ (place (place b)) (close_round (B ++ r)) new (after_round free_place (B ++ r))
    (take refl (block_read xs _ (place (expr (v.depth free_place) (v.tree free_place) (place (place b)))) r new all (parts is).1
    (act (acts_Synchronized (v.depth free_place) (v.tree free_place) (block_depth xs) (blocked xs) b (parts is).2) h))))))))

-- ---- `try`

-- What is shown of a `catch` is read as it.
pub record Catches (x : Piece KCatch) : Type 0 where
  pub reads : x.readable ≡ true → (s : Symbols) (b : Built) (d : ℕ) (found : List KCatch) (r : Roles) (new : Built)
      → Der (y.Form f.Catches ∷ s) (catches (max x.depth d) (found ++ x.tree ∷ []) b) (L gap.Plain r) new → Der (y.Form f.Catches ∷ s) (catches d found b) (L gap.Plain (x.roles ++ r)) new

unfoldable pub AllCatch : List (Piece KCatch) → Type 0
AllCatch [] = Unit {0}
AllCatch (x ∷ xs) = Catches x × AllCatch xs

catches_read : (xs : List (Piece KCatch)) (s : Symbols) (b : Built) (d : ℕ) (found : List KCatch) (r : Roles) (new : Built) → AllCatch xs → all_readable xs ≡ true
    → Der s (catches (deepest d (map depth_of xs)) (found ++ map tree_of xs) b) (L gap.Plain r) new → Der (y.Form f.Catches ∷ s) (catches d found b) (L gap.Plain (joined (map roles_of xs) ++ r)) new
unfolding written AllCatch
catches_read [] s b d found r new all readable h = way w.CatchesEnd (subst (λ z. Der s (catches d z b) (L gap.Plain r) new) (append-nil found) h)
catches_read (x ∷ xs) s b d found r new all readable h =
    let halves = both x.readable (all_readable xs) readable in
    rw (append_assoc x.roles (joined (map roles_of xs)) r)
    (all.0.reads halves.0 s b d found (joined (map roles_of xs) ++ r) new
    (catches_read xs s b (max x.depth d) (found ++ x.tree ∷ []) r new all.1 halves.1
    (subst (λ u. Der s (catches (deepest (max x.depth d) (map depth_of xs)) u b) (L gap.Plain r) new) (sym (append_assoc found (x.tree ∷ []) (map tree_of xs))) h)))

pub try_stands : (at : Position) (curly : Brackets) (xs : List (Piece KStmt)) (cs : List (Piece KCatch)) → AllStand xs → AllCatch cs → Stands (statement_piece (KStmt-F.Try at curly xs cs))
unfolding written takes letters tokens accepts taken keyword_kind names_follow
try_stands at curly xs cs all all2 =
    let x = statement_piece (KStmt-F.Try at curly xs cs) in
    let T = fixed (g.Keyword kw.Try ∷ []) in
    let B = block_of (map roles_of xs) in
    let C = joined (map roles_of cs) in
    let d = max (deepest 0 (map depth_of cs)) (block_depth xs) in
    let parts : x.readable ≡ true → (block_readable xs ≡ true) × (all_readable cs ≡ true) × Fits d = λ is.
    let a = both (block_readable xs && all_readable cs) (fits d) is in
    let b = both (block_readable xs) (all_readable cs) a.0 in (b.0, b.1, a.1) in
    simple x refl (λ is. try_begins _) (λ is r i. refl)
    (λ is s b r new behind h.
    subst (λ z. Der (y.Form f.Statement ∷ s) b (L gap.Plain z) new) (sym (append_assoc (T ++ B) C r ∙ append_assoc T B (C ++ r)))
    (way w.StatementTry (take refl (block_read xs _ (place b) (C ++ r) new all (parts is).0
    (act (acts_NoCatches (block (block_depth xs) (blocked xs) (place b)))
    (catches_read cs _ (block (block_depth xs) (blocked xs) (place b)) 0 [] r new all2 (parts is).1
    (way w.FinallyNone (act (acts_Try (block_depth xs) (blocked xs) (deepest 0 (map depth_of cs)) (map tree_of cs) b (parts is).2) h))))))))

pub try_finally_stands : (at : Position) (curly : Brackets) (xs : List (Piece KStmt)) (cs : List (Piece KCatch)) (last_at : KFinallyAt) (ys : List (Piece KStmt)) → AllStand xs → AllCatch cs → AllStand ys
    → Stands (statement_piece (KStmt-F.TryFinally at curly xs cs last_at ys))
unfolding written takes letters tokens accepts taken keyword_kind kind_of_word names_follow
try_finally_stands at curly xs cs last_at ys all all2 all3 =
    let x = statement_piece (KStmt-F.TryFinally at curly xs cs last_at ys) in
    let T = fixed (g.Keyword kw.Try ∷ []) in
    let B = block_of (map roles_of xs) in
    let C = joined (map roles_of cs) in
    let F = fixed (g.Blank ∷ g.Word o.Finally ∷ []) in
    let O = block_of (map roles_of ys) in
    let d = max (max (block_depth ys) (deepest 0 (map depth_of cs))) (block_depth xs) in
    let parts : x.readable ≡ true → (block_readable xs ≡ true) × (all_readable cs ≡ true) × (block_readable ys ≡ true) × Fits d = λ is.
    let a = both (block_readable xs && all_readable cs && block_readable ys) (fits d) is in
    let b = both (block_readable xs && all_readable cs) (block_readable ys) a.0 in
    let c = both (block_readable xs) (all_readable cs) b.0 in (c.0, c.1, b.1, a.1) in
    simple x refl (λ is. try_begins _) (λ is r i. refl)
    (λ is s b r new behind h.
    subst (λ z. Der (y.Form f.Statement ∷ s) b (L gap.Plain z) new) (sym (append_assoc (((T ++ B) ++ C) ++ F) O r ∙ append_assoc ((T ++ B) ++ C) F (O ++ r) ∙ append_assoc (T ++ B) C (F ++ (O ++ r)) ∙ append_assoc T B (C ++ (F ++ (O ++ r)))))
    (way w.StatementTry (take refl (block_read xs _ (place b) (C ++ (F ++ (O ++ r))) new all (parts is).0
    (act (acts_NoCatches (block (block_depth xs) (blocked xs) (place b)))
    (catches_read cs _ (block (block_depth xs) (blocked xs) (place b)) 0 [] (F ++ (O ++ r)) new all2 (parts is).1
    (way w.FinallySome (take refl (block_read ys _ (place (catches (deepest 0 (map depth_of cs)) (map tree_of cs) (block (block_depth xs) (blocked xs) (place b)))) r new all3 (parts is).2
    (act (acts_TryFinally (block_depth xs) (blocked xs) (deepest 0 (map depth_of cs)) (map tree_of cs) (block_depth ys) (blocked ys) b (parts is).3) h))))))))))
