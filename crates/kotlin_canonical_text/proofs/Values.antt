-- Values by `if`, `run`, and classes as values: each is derived where its parts are.
use Rattle.std.proofs.Common.{◌≡◌, ◌≤◌, ℕ, zero, suc, ◌+◌, Bool, true, false, List, [], ◌∷◌, ◌++◌, map, length, Option, Some, refl, ap, sym, subst, ◌∙◌, append_assoc, arith}
use Rattle.std.proofs.lemmas.List.{append-nil}
use Rattle.std.specs.Prelude.{if◌then◌else◌, ◌&&◌, not, nat_lt, max}
use Rattle.grammar.specs.declared.symbols.Symbol.TheVariants as y
use Rattle.kotlin_tree.specs.declared.places.Position.{Position}
use Rattle.kotlin_tree.specs.declared.places.Brackets.{Brackets}
use Rattle.kotlin_tree.specs.declared.tokens.Gap.TheVariants as gap
use Rattle.kotlin_tree.specs.declared.tokens.Mark.TheVariants as m
use Rattle.kotlin_tree.specs.declared.tokens.Keyword.TheVariants as kw
use Rattle.kotlin_tree.specs.declared.tokens.Word.TheVariants as o
use Rattle.kotlin_tree.specs.declared.tokens.TokenKind.TheVariants as q
use Rattle.kotlin_tree.specs.declared.types.KDotted.{KDotted}
use Rattle.kotlin_tree.specs.declared.types.KQualified.{KQualified}
use Rattle.kotlin_tree.specs.declared.expressions.KHeadAt.{KHeadAt}
use Rattle.kotlin_tree.specs.declared.expressions.KClassAt.{KClassAt}
use Rattle.kotlin_tree.specs.declared.expressions.KExpr.{KExpr}
use Rattle.kotlin_tree.specs.declared.expressions.KExpr.TheOpen.{KExpr-F}
use Rattle.kotlin_tree.specs.declared.expressions.KExpr.TheVariants as e
use Rattle.kotlin_tree.specs.declared.statements.KStmt.{KStmt}
use Rattle.kotlin_tree.specs.UpToPlaces.{made, made_brackets, made_class, unplaced_dotted, unplaced_qualified}
use Rattle.kotlin_layout.specs.declared.glyphs.Glyph.TheVariants as g
use Rattle.kotlin_layout.specs.declared.parens.Place.{Place}
use Rattle.kotlin_layout.specs.Parens.{free_place, operand_place, level}
use Rattle.kotlin_layout.specs.Roles.{Role, Roles, fixed, listed, more_roles}
use Rattle.kotlin_grammar.specs.declared.letters.Kind.TheVariants as k
use Rattle.kotlin_grammar.specs.declared.letters.Form.TheVariants as f
use Rattle.kotlin_grammar.specs.declared.letters.Term.TheVariants as t
use Rattle.kotlin_grammar.specs.declared.letters.Way.TheVariants as w
use Rattle.kotlin_grammar.specs.declared.letters.Act.TheVariants as a
use Rattle.kotlin_grammar.specs.declared.built.Built.{Built}
use Rattle.kotlin_grammar.specs.declared.ahead.Spot.TheVariants as sp
use Rattle.kotlin_grammar.specs.Table.{Symbols, written, accepts}
use Rattle.kotlin_grammar.specs.Ahead.{Letters, letters, letter_by, named, word_kind as kind_of_word, mark_kind, keyword_kind, arguments_follow, names_follow, stands, is_curly}
use Rattle.kotlin_grammar.specs.Taking.{takes, relaxed}
use Rattle.kotlin_grammar.specs.Meaning.{taken}
use Rattle.kotlin_canonical_text.specs.Tokens.{token, tokens, name_token}
use Rattle.grammar.specs.Machine.{◌>>=◌}
use Rattle.kotlin_tree.specs.declared.expressions.KExpr.{fold-roll-KExpr}
use Rattle.kotlin_layout.specs.Roles.{next}
use Rattle.kotlin_layout.specs.Shown.{headed, class_of, qualified_roles}
use Rattle.kotlin_grammar.specs.Ahead.{curly_kind}
use Rattle.kotlin_grammar.specs.Meaning.{chain, chain_by, Unread}
use Rattle.kotlin_grammar.specs.Depth.{max_depth}
use Rattle.std.proofs.lemmas.Bool.{lt-ltb, ltb-true}
use Rattle.kotlin_canonical_text.specs.Canonical.{Piece, Operand, fits, deepest, roles_of, tree_of, depth_of, all_readable, block_depth, block_readable, tree_by, depth_by, parts_by, bare_readable, is_chain, may_be_less, last_behind}
use Rattle.kotlin_canonical_text.proofs.Names.{L, Free, Calm, is_run, name_made, takes_name, named_plain}
use Rattle.kotlin_canonical_text.proofs.Firsts.{First, Begins, Stops, begins_name, begins_word, relaxed_plain, first_arrow, scan_name, unnamed_name, word_starts}
use Rattle.kotlin_canonical_text.proofs.Types.{both, not_true, Tight, path}
use Rattle.kotlin_canonical_text.proofs.Levels.{quiet, After, after_letter, tight_after, Level, Written, Whole, Stated, plain_front}
use Rattle.kotlin_canonical_text.proofs.Expressions.{Layer, bare, Good, Bare, bare_post, not_looser}
use Rattle.kotlin_canonical_text.proofs.Operators.{has_level, contradict, tight_free}
use Rattle.kotlin_canonical_text.proofs.Blocks.{Behind, AllStand, plain_curly, relaxed_here, ends_semicolon, no_names_here, no_arrow_here, after_semicolon, named_semicolon}
use Rattle.kotlin_canonical_text.proofs.Statements.{head, head_apart, if_cond, takes_else, blocked, if_begins}
use Rattle.kotlin_canonical_text.proofs.Steps.{Der, way, take, take_blank, act, Fits}
use Rattle.kotlin_canonical_text.proofs.Acts.{place, expr, stmts, dotted, acts_IfValue, acts_Expression, acts_Run, acts_NoStatements, acts_AddStatement, acts_Block, acts_Name, acts_Field, acts_ClassOf}

-- ---- a value by `if`

abbrev else_then : Roles → Roles
else_then z = Role.Fixed g.Blank ∷ Role.Fixed (g.Keyword kw.Else) ∷ Role.Fixed g.Blank ∷ z

else_seen : (R r : Roles) → First R r → L gap.Plain (else_then (R ++ r)) ≡ (record { kind = k.Else; token = token (q.Keyword kw.Else) gap.Plain } ∷ L gap.Plain (R ++ r))
unfolding letters tokens keyword_kind
else_seen R r f = ap (λ z. letter_by (if z then k.ElseArrow else k.Else) (token (q.Keyword kw.Else) gap.Plain) ∷ L gap.Plain (R ++ r)) (first_arrow R r gap.Plain f)

else_quiet : (p : Place) (R r : Roles) → First R r → After p (L gap.Plain (else_then (R ++ r)))
unfolding quiet
else_quiet p R r f = subst (After p) (sym (else_seen R r f)) (after_letter p _ _ refl)

zero_by : (il a b gr : Bool) → a ≡ true → b ≡ false → (if il then false else true) ≡ true → (if il then false else (if a then (if b then gr else true) else false)) ≡ true
zero_by true a b gr i j h = absurd (cc h)
zero_by false true false gr i j h = refl
zero_by false false b gr i j h = absurd (cc i)
zero_by false true true gr i j h = absurd (cc j)

abbrev zero_place : Place → Place
zero_place p = operand_place zero p

after_zero : (p : Place) (ls : Letters) → p.level ≡ 0 → After p ls → After (zero_place p) ls
after_zero p ls level after = record {
  free = after.free;
  calm = after.calm;
  plain = λ h. after.plain (tight_free p (ap (nat_lt 0) level));
  stops = λ h. after.stops (zero_by p.in_list (nat_lt p.level 5) (nat_lt 0 p.level) _ (ap (λ n. nat_lt n 5) level) (ap (nat_lt 0) level) h);
}

module _ (at : KHeadAt) (v : Operand) (x : Operand) (else_at : Position) (z : Operand) (good : Good v) (good2 : Good x) (good3 : Good z) where
  abbrev c : Layer
  c = KExpr-F.IfValue at v x else_at z

  abbrev S : Roles
  S = v.roles free_place

  parts : (p : Place) → bare_readable p c ≡ true → (v.readable free_place ≡ true) × (x.readable (zero_place p) ≡ true) × (z.readable (zero_place p) ≡ true) × Fits (depth_by p c)
  parts p is =
      let a = both (v.readable free_place && x.readable (zero_place p) && z.readable (zero_place p)) (fits (depth_by p c)) is in
      let b = both (v.readable free_place && x.readable (zero_place p)) (z.readable (zero_place p)) a.0 in
      let d = both (v.readable free_place) (x.readable (zero_place p)) b.0 in (d.0, d.1, b.1, a.1)

  if_apart : (p : Place) (r : Roles) → (bare p c ++ r) ≡ head (g.Keyword kw.If) S (Role.Fixed g.Blank ∷ (x.roles (zero_place p) ++ else_then (z.roles (zero_place p) ++ r)))
  if_apart p r =
      let H = headed (g.Keyword kw.If) S in
      let B = fixed (g.Blank ∷ []) in
      let X = x.roles (zero_place p) in
      let E = fixed (g.Blank ∷ g.Keyword kw.Else ∷ g.Blank ∷ []) in
      let Z = z.roles (zero_place p) in
      append_assoc (((H ++ B) ++ X) ++ E) Z r ∙ append_assoc ((H ++ B) ++ X) E (Z ++ r) ∙ append_assoc (H ++ B) X (E ++ (Z ++ r)) ∙ append_assoc H B (X ++ (E ++ (Z ++ r))) ∙ head_apart (g.Keyword kw.If) S (B ++ (X ++ (E ++ (Z ++ r))))

  -- the values behind the head
  values : (p : Place) (s : Symbols) (b : Built) (r : Roles) (new : Built) → p.level ≡ 0 → bare_readable p c ≡ true → After p (L gap.Plain r)
      → Der s (expr (z.depth (zero_place p)) (z.tree (zero_place p)) (place (expr (x.depth (zero_place p)) (x.tree (zero_place p)) b))) (L gap.Plain r) new
      → Der (y.Form f.Expr ∷ y.Term (t.Only k.Else) ∷ y.Form f.Expr ∷ s) b (L gap.Plain (Role.Fixed g.Blank ∷ (x.roles (zero_place p) ++ else_then (z.roles (zero_place p) ++ r)))) new
  unfolding tokens
  values p s b r new level is after h =
      let Z = z.roles (zero_place p) in
      let first = good3.begins (zero_place p) (parts p is).2 r in
      good2.whole (zero_place p) refl (parts p is).1 _ b (else_then (Z ++ r)) new (else_quiet (zero_place p) Z r first)
      (take (takes_else (Role.Fixed g.Blank ∷ (Z ++ r)) (expr (x.depth (zero_place p)) (x.tree (zero_place p)) b) (first_arrow Z r gap.Plain first))
      (good3.whole (zero_place p) refl (parts p is).2 s (place (expr (x.depth (zero_place p)) (x.tree (zero_place p)) b)) r new (after_zero p (L gap.Plain r) level after) h))

  if_whole : (p : Place) → p.level ≡ 0 → bare_readable p c ≡ true → Whole p (suc (depth_by p c)) (tree_by p c) (bare p c)
  unfolding written
  if_whole p level is s b r new after h = subst (λ u. Der (y.Form f.Expr ∷ s) b (L gap.Plain u) new) (sym (if_apart p r))
      (way w.ExprIf (if_cond v _ b _ new good (parts p is).0
      (values p (y.Act a.IfValue ∷ s) (place (expr (v.depth free_place) (v.tree free_place) (place (place b)))) r new level is after
      (act (acts_IfValue (v.depth free_place) (v.tree free_place) (x.depth (zero_place p)) (x.tree (zero_place p)) (z.depth (zero_place p)) (z.tree (zero_place p)) b (parts p is).3) h))))

  if_stated : (p : Place) → p.level ≡ 0 → bare_readable p c ≡ true → Fits (suc (depth_by p c)) → Stated p (suc (depth_by p c)) (tree_by p c) (bare p c)
  unfolding written
  if_stated p level is fit s b r new after h = subst (λ u. Der (y.Form f.Statement ∷ s) b (L gap.Plain u) new) (sym (if_apart p r))
      (way w.StatementIf (if_cond v _ b _ new good (parts p is).0
      (way w.IfValue (values p (y.Act a.IfValue ∷ y.Act a.Expression ∷ s) (place (expr (v.depth free_place) (v.tree free_place) (place (place b)))) r new level is after
      (act (acts_IfValue (v.depth free_place) (v.tree free_place) (x.depth (zero_place p)) (x.tree (zero_place p)) (z.depth (zero_place p)) (z.tree (zero_place p)) b (parts p is).3)
      (act (acts_Expression (suc (depth_by p c)) (tree_by p c) b fit) h))))))

  pub if_bare : Bare (KExpr-F.IfValue at v x else_at z)
  unfolding letters tokens keyword_kind names_follow accepts
  if_bare = record {
    begins = λ p is. if_begins _;
    unnamed = λ p is r i. refl;
    scans = λ p is readable high n r i. absurd (contradict p.level high (not_looser p c is));
    written = λ l p level is readable. absurd (true_false (sym (has_level l) ∙ (sym (ap (nat_lt 0) level) ∙ not_looser p c is)));
    whole = λ p level is readable. if_whole p level readable;
    stated = λ p level is readable fit. if_stated p level readable fit;
  }
    where
      true_false : true ≡ false → ⊥
      true_false h = absurd (cc h)

-- ---- `run`

abbrev run_end : Roles → Roles
run_end r = Role.Fixed g.Blank ∷ Role.Fixed (g.Mark m.CloseCurly) ∷ r

abbrev more_next : List (Piece KStmt) → Roles
more_next xs = more_roles next (map roles_of xs)

run_end_behind : (r : Roles) → Behind (run_end r)
unfolding letters tokens mark_kind arguments_follow names_follow
run_end_behind r = record { after = λ p. record { free = refl; calm = refl; plain = λ h. refl; stops = λ h n. refl }; named = refl }

next_behind : (xs : List (Piece KStmt)) (r : Roles) → AllStand xs → all_readable xs ≡ true → Behind (more_next xs ++ run_end r)
unfolding AllStand tokens
next_behind [] r all readable = run_end_behind r
next_behind (x ∷ xs) r all readable =
    let halves = both x.readable (all_readable xs) readable in
    let z = more_next xs ++ run_end r in
    subst Behind (sym (ap (λ u. Role.Fixed g.Semicolon ∷ Role.Fixed g.Blank ∷ u) (append_assoc x.roles (more_next xs) (run_end r))))
    (record { after = λ p. after_semicolon all.0 halves.0 z p; named = named_semicolon all.0 halves.0 z })

next_read : (xs : List (Piece KStmt)) (d : ℕ) (found : List KStmt) (s : Symbols) (b : Built) (r : Roles) (new : Built) → AllStand xs → all_readable xs ≡ true
    → Der s (stmts (deepest d (map depth_of xs)) (found ++ map tree_of xs) b) (L gap.Plain (run_end r)) new
    → Der (y.Form f.MoreStatements ∷ s) (stmts d found b) (L gap.Plain (more_next xs ++ run_end r)) new
unfolding written tokens AllStand
next_read [] d found s b r new all readable h = way w.StatementsEnd (subst (λ z. Der s (stmts d z b) (L gap.Plain (run_end r)) new) (append-nil found) h)
next_read (x ∷ xs) d found s b r new all readable h =
    let halves = both x.readable (all_readable xs) readable in
    let z = more_next xs ++ run_end r in
    rw (append_assoc x.roles (more_next xs) (run_end r))
    (way w.StatementsMore (take (ends_semicolon all.0 halves.0 z (stmts d found b))
    (way w.NextStatementSome (all.0.reads halves.0 _ (stmts d found b) z new (next_behind xs r all.1 halves.1)
    (act (acts_AddStatement d found x.depth x.tree b)
    (next_read xs (max x.depth d) (found ++ x.tree ∷ []) s b r new all.1 halves.1
    (subst (λ u. Der s (stmts (deepest (max x.depth d) (map depth_of xs)) u b) (L gap.Plain (run_end r)) new) (sym (append_assoc found (x.tree ∷ []) (map tree_of xs))) h)))))))

abbrev listed_next : List (Piece KStmt) → Roles
listed_next xs = listed next (map roles_of xs)

run_relaxed : (r : Roles) → relaxed (L gap.Plain (run_end r)) ≡ L gap.Plain (run_end r)
unfolding letters tokens mark_kind
run_relaxed r = refl

run_curly : (xs : List (Piece KStmt)) (r : Roles) → AllStand xs → all_readable xs ≡ true → curly_kind (L gap.Plain (listed_next xs ++ run_end r)) ≡ k.OpenCurly
unfolding AllStand letters tokens mark_kind names_follow accepts
run_curly [] r all readable = refl
run_curly (x ∷ xs) r all readable =
    let halves = both x.readable (all_readable xs) readable in
    let z = more_next xs ++ run_end r in
    ap (λ u. curly_kind (L gap.Plain u)) (append_assoc x.roles (more_next xs) (run_end r))
    ∙ plain_curly (L gap.Plain (x.roles ++ z)) (no_arrow_here all.0 halves.0 z) (no_names_here all.0 halves.0 z (next_behind xs r all.1 halves.1).named)

run_statements : (xs : List (Piece KStmt)) (s : Symbols) (b : Built) (r : Roles) (new : Built) → AllStand xs → all_readable xs ≡ true
    → Der s (stmts (deepest 0 (map depth_of xs)) (map tree_of xs) b) (L gap.Plain (run_end r)) new → Der (y.Form f.Statements ∷ s) (stmts 0 [] b) (relaxed (L gap.Plain (listed_next xs ++ run_end r))) new
unfolding written AllStand
run_statements [] s b r new all readable h = way w.StatementsNone (subst (λ u. Der s (stmts 0 [] b) u new) (sym (run_relaxed r)) h)
run_statements (x ∷ xs) s b r new all readable h =
    let halves = both x.readable (all_readable xs) readable in
    let z = more_next xs ++ run_end r in
    subst (λ u. Der (y.Form f.Statements ∷ s) (stmts 0 [] b) u new)
    (sym (ap (λ u. relaxed (L gap.Plain u)) (append_assoc x.roles (more_next xs) (run_end r)) ∙ relaxed_here all.0 halves.0 z))
    (way w.StatementsSome (all.0.reads halves.0 _ (stmts 0 [] b) z new (next_behind xs r all.1 halves.1)
    (act (acts_AddStatement 0 [] x.depth x.tree b)
    (next_read xs (max x.depth 0) (x.tree ∷ []) s b r new all.1 halves.1 h))))

abbrev run_front : Roles → Roles
run_front z = Role.Fixed (g.Word o.Run) ∷ Role.Fixed g.Blank ∷ Role.Fixed (g.Mark m.OpenCurly) ∷ Role.Fixed g.Blank ∷ z

abbrev curly_then : Roles → Letters
curly_then z = letter_by (curly_kind (L gap.Plain z)) (token (q.Mark m.OpenCurly) gap.Plain) ∷ L gap.Plain z

takes_run : (z : Roles) (b : Built) → curly_kind (L gap.Plain z) ≡ k.OpenCurly → takes taken (t.Only k.RunBlock) b (L gap.Plain (run_front z)) ≡ Some (place b, L gap.Plain (Role.Fixed (g.Mark m.OpenCurly) ∷ Role.Fixed g.Blank ∷ z))
unfolding takes letters tokens accepts taken mark_kind kind_of_word
takes_run z b is =
    ap (λ c. takes taken (t.Only k.RunBlock) b (letter_by (if stands is_curly (letter_by c (token (q.Mark m.OpenCurly) gap.Plain) ∷ L gap.Plain z) then k.RunBlock else named k.Name (letter_by c (token (q.Mark m.OpenCurly) gap.Plain) ∷ L gap.Plain z)) (token (q.Word o.Run) gap.Plain)
    ∷ (letter_by c (token (q.Mark m.OpenCurly) gap.Plain) ∷ L gap.Plain z))) is
    ∙ sym (ap (λ c. Some (place b, letter_by c (token (q.Mark m.OpenCurly) gap.Plain) ∷ L gap.Plain z)) is)

takes_open : (z : Roles) (b : Built) → curly_kind (L gap.Plain z) ≡ k.OpenCurly → takes taken (t.Only k.OpenCurly) b (L gap.Plain (Role.Fixed (g.Mark m.OpenCurly) ∷ Role.Fixed g.Blank ∷ z)) ≡ Some (place b, relaxed (L gap.Plain z))
unfolding takes letters tokens accepts taken mark_kind
takes_open z b is = ap (λ c. takes taken (t.Only k.OpenCurly) b (letter_by c (token (q.Mark m.OpenCurly) gap.Plain) ∷ L gap.Plain z)) is

run_post : (xs : List (Piece KStmt)) (p : Place) → AllStand xs → block_readable xs ≡ true → Fits (block_depth xs)
    → Written p Level.Post (suc (block_depth xs)) (e.Run made made_brackets (map tree_of xs)) ((fixed (g.Word o.Run ∷ g.Blank ∷ g.Mark m.OpenCurly ∷ g.Blank ∷ []) ++ listed_next xs) ++ fixed (g.Blank ∷ g.Mark m.CloseCurly ∷ []))
unfolding written takes letters tokens accepts taken mark_kind
run_post xs p all readable fit front s b r new after h =
    let halves = both (all_readable xs) (fits (deepest 0 (map depth_of xs))) readable in
    let z = listed_next xs ++ run_end r in
    rw (append_assoc (listed_next xs) (fixed (g.Blank ∷ g.Mark m.CloseCurly ∷ [])) r)
    (plain_front front s b _ new (way w.PlainRun (take (takes_run z b (run_curly xs r all halves.0))
    (way w.BlockWhole (take (takes_open z (place b) (run_curly xs r all halves.0))
    (act (acts_NoStatements (place (place b)))
    (run_statements xs _ (place (place b)) r new all halves.0
    (take refl (act (acts_Block (deepest 0 (map depth_of xs)) (map tree_of xs) (place b) halves.1)
    (act (acts_Run (block_depth xs) (blocked xs) b fit) h))))))))))

run_begins : (xs : Roles) → Begins (Role.Fixed (g.Word o.Run) ∷ xs)
run_begins xs = begins_word o.Run xs (λ r. word_starts o.Run (L gap.Plain (xs ++ r)) refl)

run_unnamed : (z : Roles) → curly_kind (L gap.Plain z) ≡ k.OpenCurly → names_follow false (L gap.Plain (run_front z)) ≡ false
unfolding letters tokens names_follow accepts mark_kind kind_of_word
run_unnamed z is =
    ap (λ c. names_follow false (letter_by (if stands is_curly (letter_by c (token (q.Mark m.OpenCurly) gap.Plain) ∷ L gap.Plain z) then k.RunBlock else named k.Name (letter_by c (token (q.Mark m.OpenCurly) gap.Plain) ∷ L gap.Plain z)) (token (q.Word o.Run) gap.Plain)
    ∷ (letter_by c (token (q.Mark m.OpenCurly) gap.Plain) ∷ L gap.Plain z))) is

run_scans : (z : Roles) (n : ℕ) → curly_kind (L gap.Plain z) ≡ k.OpenCurly → arguments_follow sp.Type n (L gap.Plain (run_front z)) ≡ false
unfolding letters tokens arguments_follow accepts mark_kind kind_of_word
run_scans z n is =
    ap (λ c. arguments_follow sp.Type n (letter_by (if stands is_curly (letter_by c (token (q.Mark m.OpenCurly) gap.Plain) ∷ L gap.Plain z) then k.RunBlock else named k.Name (letter_by c (token (q.Mark m.OpenCurly) gap.Plain) ∷ L gap.Plain z)) (token (q.Word o.Run) gap.Plain)
    ∷ (letter_by c (token (q.Mark m.OpenCurly) gap.Plain) ∷ L gap.Plain z))) is

pub run_bare : (at : Position) (curly : Brackets) (xs : List (Piece KStmt)) → AllStand xs → Bare (KExpr-F.Run at curly xs)
run_bare at curly xs all =
    let c : Layer = KExpr-F.Run at curly xs in
    let inner : (p : Place) → bare_readable p c ≡ true → all_readable xs ≡ true = λ p is. (both (all_readable xs) (fits (deepest 0 (map depth_of xs))) (both (block_readable xs) (fits (block_depth xs)) is).0).0 in
    bare_post c (λ p is. run_begins _)
    (λ p is r i. ap (λ u. names_follow false (L gap.Plain (run_front u))) (append_assoc (listed_next xs) (fixed (g.Blank ∷ g.Mark m.CloseCurly ∷ [])) r) ∙ run_unnamed (listed_next xs ++ run_end r) (run_curly xs r all (inner p is)))
    (λ p is n r i. ap (λ u. arguments_follow sp.Type n (L gap.Plain (run_front u))) (append_assoc (listed_next xs) (fixed (g.Blank ∷ g.Mark m.CloseCurly ∷ [])) r) ∙ run_scans (listed_next xs ++ run_end r) n (run_curly xs r all (inner p is)))
    (λ p is. let halves = both (block_readable xs) (fits (block_depth xs)) is in run_post xs p all halves.0 halves.1)

-- ---- names with dots as expressions

abbrev pub chain_tree : KExpr → List KDotted → KExpr
chain_tree x [] = x
chain_tree x (n ∷ ns) = chain_tree (e.Field x made (name_made n.name.name)) ns

abbrev pub chain_depth : ℕ → List KDotted → ℕ
chain_depth d [] = d
chain_depth d (n ∷ ns) = chain_depth (suc d) ns

abbrev pub chain_more : KQualified → List KDotted → KQualified
chain_more q xs = record { first = q.first; rest = q.rest ++ map unplaced_dotted xs }

pub chain_name : (n : List ℕ) → chain (e.Name (name_made n)) ≡ Some (record { first = name_made n; rest = [] })
unfolding chain
chain_name n = ap chain (sym (e.rolls-Name (name_made n))) ∙ fold-roll-KExpr (Option KQualified) Unread Unread Unread Unread chain_by (λ _. tt) (λ _. tt) (λ _. tt) (λ _. tt) (KExpr-F.Name (name_made n))

pub chain_field : (x : KExpr) (n : List ℕ) (q : KQualified) → chain x ≡ Some q → chain (e.Field x made (name_made n)) ≡ Some (dotted q n)
unfolding chain
chain_field x n q is =
    ap chain (sym (e.rolls-Field x made (name_made n)))
    ∙ fold-roll-KExpr (Option KQualified) Unread Unread Unread Unread chain_by (λ _. tt) (λ _. tt) (λ _. tt) (λ _. tt) (KExpr-F.Field x made (name_made n))
    ∙ ap (λ z. z >>= λ q. Some (dotted q n)) is

pub chain_dots : (xs : List KDotted) (x : KExpr) (q : KQualified) → chain x ≡ Some q → chain (chain_tree x xs) ≡ Some (chain_more q xs)
chain_dots [] x q is = is ∙ ap (λ z. Some (record { first = q.first; rest = z })) (sym (append-nil q.rest))
chain_dots (n ∷ ns) x q is =
    chain_dots ns (e.Field x made (name_made n.name.name)) (dotted q n.name.name) (chain_field x n.name.name q is)
    ∙ ap (λ z. Some (record { first = q.first; rest = z })) (append_assoc q.rest (unplaced_dotted n ∷ []) (map unplaced_dotted ns))

pub free_path : (xs : List KDotted) (r : Roles) → Free (L gap.Plain r) → Free (L gap.Plain (path xs ++ r))
unfolding letters tokens mark_kind
free_path [] r h = h
free_path (x ∷ xs) r h = refl

calm_path : (xs : List KDotted) (r : Roles) → stands is_curly (L gap.Plain r) ≡ false → stands is_curly (L gap.Plain (path xs ++ r)) ≡ false
unfolding letters tokens mark_kind
calm_path [] r h = h
calm_path (x ∷ xs) r h = refl

-- a name before `{` isn't `run`
abbrev pub Calm_behind : List ℕ → List KDotted → Roles → Type 0
Calm_behind n xs r = is_run (name_token (last_behind n xs)) ≡ true → stands is_curly (L gap.Plain r) ≡ false

pub calm_here : (n : List ℕ) (xs : List KDotted) (r : Roles) → Calm_behind n xs r → Calm (name_token n) (L gap.Plain (path xs ++ r))
unfolding letters tokens mark_kind
calm_here n [] r h = h
calm_here n (x ∷ xs) r h = λ is. refl

pub dots_read : (n0 : List ℕ) (xs : List KDotted) (d : ℕ) (x : KExpr) (s : Symbols) (b : Built) (r : Roles) (new : Built) → d + length xs ≤ max_depth → Free (L gap.Plain r) → Calm_behind n0 xs r
    → Der (y.Form f.Suffixes ∷ s) (expr (chain_depth d xs) (chain_tree x xs) b) (L gap.Plain r) new → Der (y.Form f.Suffixes ∷ s) (expr d x b) (L gap.Plain (path xs ++ r)) new
unfolding written takes letters tokens accepts taken mark_kind
dots_read n0 [] d x s b r new fit free calm h = h
dots_read n0 (n ∷ ns) d x s b r new fit free calm h =
    way w.SuffixDot (take_blank (relaxed_plain (Role.Name n.name.name ∷ []) (path ns ++ r) (begins_name n.name.name [] (path ns ++ r))) refl
    (way w.DotNamed (take (takes_name n.name.name (path ns ++ r) (place (expr d x b)) (free_path ns r free) (calm_here n.name.name ns r calm))
    (way w.DottedOnly (act (acts_Field d x n.name.name b (lt-ltb d max_depth (omega (arith, fit))))
    (dots_read n.name.name ns (suc d) (e.Field x made (name_made n.name.name)) s b r new (omega (arith, fit)) free calm h))))))

-- ---- a class as a value

colons_free : (r : Roles) → Free (L gap.Plain (fixed class_of ++ r))
unfolding letters tokens mark_kind
colons_free r = refl

colons_calm : (r : Roles) → stands is_curly (L gap.Plain (fixed class_of ++ r)) ≡ false
unfolding letters tokens mark_kind
colons_calm r = refl

takes_java : (r : Roles) (b : Built) → Tight r → takes taken (t.Only k.JavaWord) b (L gap.Plain (Role.Fixed (g.Word o.Java) ∷ r)) ≡ Some (place b, L gap.Plain r)
unfolding takes letters tokens accepts taken kind_of_word
takes_java r b tight = ap (λ c. takes taken (t.Only k.JavaWord) b (letter_by c (token (q.Word o.Java) gap.Plain) ∷ L gap.Plain r)) (named_plain k.JavaWord (L gap.Plain r) tight.0 tight.1)

java_first : (r : Roles) → First (fixed (g.Word o.Java ∷ [])) r
java_first r = begins_word o.Java [] (λ r. word_starts o.Java (L gap.Plain ([] ++ r)) refl) r

class_reads : (d : ℕ) (x : KExpr) (q : KQualified) (s : Symbols) (b : Built) (r : Roles) (new : Built) → chain x ≡ Some q → Tight r
    → Der (y.Form f.Suffixes ∷ s) (expr 1 (e.Class q made_class) b) (L gap.Plain r) new → Der (y.Form f.Suffixes ∷ s) (expr d x b) (L gap.Plain (fixed class_of ++ r)) new
unfolding written takes letters tokens accepts taken mark_kind keyword_kind
class_reads d x q s b r new is tight h = way w.SuffixClass (take refl (take refl (take_blank (relaxed_plain (fixed (g.Word o.Java ∷ [])) r (java_first r)) refl
    (take (takes_java r _ tight) (act (acts_ClassOf d x q b is) h)))))

abbrev front_of : KQualified → KQualified
front_of x = record { first = name_made x.first.name; rest = [] }

class_post : (x : KQualified) (p : Place) → is_chain x ≡ true → may_be_less p ≡ false → Written p Level.Post 1 (e.Class (unplaced_qualified x) made_class) (qualified_roles x ++ fixed class_of)
unfolding written
class_post x p fit plain front s b r new after h =
    let z = fixed class_of ++ r in
    rw (append_assoc (path x.rest) (fixed class_of) r)
    (plain_front front s b _ new (way w.PlainNamed (take (takes_name x.first.name (path x.rest ++ z) b (free_path x.rest z (colons_free r)) (λ is. calm_path x.rest z (colons_calm r)))
    (way w.NamedOnly (act (acts_Name x.first.name b)
    (dots_read x.first.name x.rest 1 (e.Name (name_made x.first.name)) _ b z new (omega (arith, ltb-true (length x.rest) max_depth fit)) (colons_free r) (λ is. colons_calm r)
    (class_reads (chain_depth 1 x.rest) (chain_tree (e.Name (name_made x.first.name)) x.rest) (unplaced_qualified x) _ b r new (chain_dots x.rest (e.Name (name_made x.first.name)) (front_of x) (chain_name x.first.name)) (tight_after p r after plain) h)))))))

colons_named : (xs : List KDotted) (r : Roles) → names_follow true (L gap.Plain (path xs ++ (fixed class_of ++ r))) ≡ false
unfolding letters tokens mark_kind names_follow
colons_named [] r = refl
colons_named (x ∷ xs) r = refl

stops_path : (xs : List KDotted) (r : Roles) → Stops (L gap.Plain r) → Stops (L gap.Plain (path xs ++ r))
unfolding letters tokens mark_kind arguments_follow
stops_path [] r h = h
stops_path (x ∷ xs) r h = λ n. scan_name n x.name.name (path xs ++ r) (stops_path xs r h)

colons_stop : (r : Roles) → Stops (L gap.Plain (fixed class_of ++ r))
unfolding letters tokens mark_kind arguments_follow
colons_stop r n = refl

pub class_bare : (x : KQualified) (at : KClassAt) → Bare (KExpr-F.Class x at)
class_bare x at =
    let c : Layer = KExpr-F.Class x at in
    bare_post c (λ p is. begins_name x.first.name (path x.rest ++ fixed class_of))
    (λ p is r i. ap (λ u. names_follow false (L gap.Plain (Role.Name x.first.name ∷ u))) (append_assoc (path x.rest) (fixed class_of) r) ∙ unnamed_name x.first.name (path x.rest ++ (fixed class_of ++ r)) (colons_named x.rest r))
    (λ p is n r i. ap (λ u. arguments_follow sp.Type n (L gap.Plain (Role.Name x.first.name ∷ u))) (append_assoc (path x.rest) (fixed class_of) r) ∙ scan_name n x.first.name (path x.rest ++ (fixed class_of ++ r)) (stops_path x.rest (fixed class_of ++ r) (colons_stop r)))
    (λ p is. let halves = both (is_chain x) (not (may_be_less p)) (both (parts_by p c) (fits 0) is).0 in class_post x p halves.0 (not_true (may_be_less p) halves.1))
