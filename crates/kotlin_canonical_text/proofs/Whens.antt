-- `when`, its lines, and `catch`: each is derived where its parts are.
use Rattle.std.proofs.Common.{◌≡◌, ℕ, suc, Bool, true, false, List, [], ◌∷◌, ◌++◌, map, Some, refl, ap, sym, subst, ◌∙◌, append_assoc, arith}
use Rattle.std.proofs.lemmas.List.{append-nil}
use Rattle.std.specs.Prelude.{if◌then◌else◌, ◌&&◌, max}
use Rattle.grammar.specs.declared.symbols.Symbol.TheVariants as y
use Rattle.kotlin_tree.specs.declared.places.Position.{Position}
use Rattle.kotlin_tree.specs.declared.places.Brackets.{Brackets}
use Rattle.kotlin_tree.specs.declared.tokens.Gap.TheVariants as gap
use Rattle.kotlin_tree.specs.declared.tokens.Mark.TheVariants as m
use Rattle.kotlin_tree.specs.declared.tokens.Keyword.TheVariants as kw
use Rattle.kotlin_tree.specs.declared.tokens.Word.TheVariants as o
use Rattle.kotlin_tree.specs.declared.tokens.TokenKind.TheVariants as q
use Rattle.kotlin_tree.specs.declared.types.KName.{KName}
use Rattle.kotlin_tree.specs.declared.types.KType.{KType}
use Rattle.kotlin_tree.specs.declared.expressions.KHeadAt.{KHeadAt}
use Rattle.kotlin_tree.specs.declared.expressions.KElseAt.{KElseAt}
use Rattle.kotlin_tree.specs.declared.expressions.KExpr.{KExpr}
use Rattle.kotlin_tree.specs.declared.expressions.KExpr.TheOpen.{KExpr-F, KStmt-F}
use Rattle.kotlin_tree.specs.declared.expressions.KExpr.TheVariants as e
use Rattle.kotlin_tree.specs.declared.expressions.KChoice.{KChoice}
use Rattle.kotlin_tree.specs.declared.statements.KStmt.{KStmt}
use Rattle.kotlin_tree.specs.declared.statements.KBranch.{KBranch}
use Rattle.kotlin_tree.specs.UpToPlaces.{made_brackets, made_head, made_else}
use Rattle.kotlin_layout.specs.declared.glyphs.Glyph.TheVariants as g
use Rattle.kotlin_layout.specs.declared.parens.Place.{Place}
use Rattle.kotlin_layout.specs.Parens.{free_place, list_place}
use Rattle.kotlin_layout.specs.Roles.{Role, Roles, fixed}
use Rattle.kotlin_layout.specs.Shown.{type_roles}
use Rattle.kotlin_grammar.specs.declared.letters.Kind.TheVariants as k
use Rattle.kotlin_grammar.specs.declared.letters.Form.TheVariants as f
use Rattle.kotlin_grammar.specs.declared.letters.Term.TheVariants as t
use Rattle.kotlin_grammar.specs.declared.letters.Way.TheVariants as w
use Rattle.kotlin_grammar.specs.declared.letters.Act.TheVariants as a
use Rattle.kotlin_grammar.specs.declared.built.Built.{Built}
use Rattle.kotlin_grammar.specs.Table.{Symbols, written, accepts}
use Rattle.kotlin_grammar.specs.Ahead.{Letters, letters, letter_by, word_kind as kind_of_word, mark_kind, keyword_kind, arguments_follow, names_follow, stands, is_curly, is_arrow}
use Rattle.kotlin_grammar.specs.Taking.{takes, relaxed}
use Rattle.kotlin_grammar.specs.Meaning.{taken}
use Rattle.kotlin_canonical_text.specs.Tokens.{token, tokens}
use Rattle.kotlin_layout.specs.Roles.{lines, block as block_of, opened as opened_glyphs, closed as closed_glyphs}
use Rattle.kotlin_layout.specs.Shown.{headed, else_line, else_value}
use Rattle.kotlin_grammar.specs.Ahead.{curly_kind}
use Rattle.kotlin_canonical_text.specs.Canonical.{Piece, Operand, fits, deepest, commas_of, roles_of, tree_of, depth_of, all_readable, all_at, arguments_at, deepest_at, is_some, block_depth, block_readable, type_piece, statement_piece, choice_piece, branch_piece, catch_piece}
use Rattle.kotlin_canonical_text.proofs.Names.{L, Free, takes_name}
use Rattle.kotlin_canonical_text.proofs.Firsts.{First, Begins, Scans, Unnamed, starts, begins_keyword, begins_more, relaxed_plain, relaxed_line, takes_line}
use Rattle.kotlin_canonical_text.proofs.Types.{both, Tight}
use Rattle.kotlin_canonical_text.proofs.Levels.{After, after_first, Level, Front, left, top, pending}
use Rattle.kotlin_canonical_text.proofs.Expressions.{Layer, Good, Bare, bare_post, AllRead, close_round, exprs_more, after_more, more_exprs, listed_exprs}
use Rattle.kotlin_canonical_text.proofs.Blocks.{Behind, Stands, AllStand, block_read, block_curly, first_named, closing, after_closing}
use Rattle.kotlin_canonical_text.proofs.Statements.{head, head_apart, condition, blocked, typed, Catches, simple}
use Rattle.kotlin_canonical_text.proofs.Steps.{Der, way, take, take_blank, act, Fits}
use Rattle.kotlin_canonical_text.proofs.Acts.{place, nm, expr, stmt, block, catches, choice, choices, branch, branches, exprs, kind, acts_Catch, acts_AddCatch, acts_NoExprs, acts_AddExpr, acts_Choice, acts_NoChoices, acts_AddChoice, acts_AddChoiceFirst, acts_Branch, acts_NoBranches, acts_AddBranch, acts_AddBranchFirst, acts_WhenBranches, acts_WhenBranchesFirst, acts_WhenChoices, acts_WhenChoicesFirst}

-- ---- `catch`

round_tight : (r : Roles) → Tight (close_round r)
unfolding letters tokens mark_kind
round_tight r = (refl, refl)

colon_free : (r : Roles) → Free (L gap.Plain (Role.Fixed (g.Mark m.Colon) ∷ r))
unfolding letters tokens mark_kind
colon_free r = refl

colon_calm : (r : Roles) → stands is_curly (L gap.Plain (Role.Fixed (g.Mark m.Colon) ∷ r)) ≡ false
unfolding letters tokens mark_kind
colon_calm r = refl

abbrev catch_front : List ℕ → Roles → Roles
catch_front n z = Role.Fixed g.Blank ∷ Role.Fixed (g.Word o.Catch) ∷ Role.Fixed g.Blank ∷ Role.Fixed (g.Mark m.OpenRound) ∷ Role.Name n ∷ Role.Fixed (g.Mark m.Colon) ∷ Role.Fixed g.Blank ∷ z

pub catch_good : (at : KHeadAt) (x : KName) (colon : Position) (T : KType) (curly : Brackets) (xs : List (Piece KStmt)) → AllStand xs
    → Catches (catch_piece (record { at = at; name = x; colon = colon; kind = T; curly = curly; statements = xs }))
unfolding written takes letters tokens accepts taken kind_of_word mark_kind
catch_good at x colon T curly xs all =
    let c = catch_piece (record { at = at; name = x; colon = colon; kind = T; curly = curly; statements = xs }) in
    let B = block_of (map roles_of xs) in
    let K = type_piece T in
    let d = max (block_depth xs) (depth_of K) in
    record {
      reads = λ is s b dd found r new h.
          let a = both (K.readable && block_readable xs) (fits d) is in
          let parts = both K.readable (block_readable xs) a.0 in
          subst (λ z. Der (y.Form f.Catches ∷ s) (catches dd found b) (L gap.Plain z) new)
          (sym (append_assoc (catch_front x.name (type_roles T ++ fixed (g.Mark m.CloseRound ∷ []))) B r
          ∙ ap (catch_front x.name) (append_assoc (type_roles T) (fixed (g.Mark m.CloseRound ∷ [])) (B ++ r))))
          (way w.CatchesSome (take refl (take refl (take (takes_name x.name (Role.Fixed (g.Mark m.Colon) ∷ Role.Fixed g.Blank ∷ (type_roles T ++ close_round (B ++ r))) (place (place (catches dd found b))) (colon_free (Role.Fixed g.Blank ∷ (type_roles T ++ close_round (B ++ r)))) (λ is. colon_calm (Role.Fixed g.Blank ∷ (type_roles T ++ close_round (B ++ r)))))
          (typed T _ (nm x.name (place (place (catches dd found b)))) (close_round (B ++ r)) new parts.0 (round_tight (B ++ r))
          (take refl
          (block_read xs _ (place (kind (depth_of K) (tree_of K) (place (nm x.name (place (place (catches dd found b))))))) r new all parts.1
          (act (acts_Catch x.name (depth_of K) (tree_of K) (block_depth xs) (blocked xs) (catches dd found b) a.1)
          (act (acts_AddCatch dd found c.depth c.tree b) h)))))))));
    }

-- ---- labels of a `when`

abbrev arrow : Roles → Roles
arrow z = Role.Fixed g.Blank ∷ Role.Fixed (g.Mark m.Arrow) ∷ z

arrow_after : (p : Place) (z : Roles) → After p (L gap.Plain (arrow z))
unfolding letters tokens mark_kind arguments_follow
arrow_after p z = record { free = refl; calm = refl; plain = λ h. refl; stops = λ h n. refl }

labels_read : (xs : List Operand) (s : Symbols) (b : Built) (z : Roles) (new : Built) → is_some xs ≡ true → AllRead xs → all_at list_place xs ≡ true → relaxed (L gap.Plain z) ≡ L gap.Plain z
    → Der s (place (exprs (deepest_at xs) (arguments_at xs) (commas_of xs) b)) (L gap.Plain z) new
    → Der (y.Form f.Labels ∷ y.Term (t.Only k.Arrow) ∷ s) b (L gap.Plain (listed_exprs xs ++ arrow z)) new
unfolding written takes letters tokens accepts taken mark_kind AllRead
labels_read [] s b z new some good readable solid h = absurd (cc some)
labels_read (x ∷ xs) s b z new some good readable solid h =
    let halves = both (x.readable list_place) (all_at list_place xs) readable in
    rw (append_assoc (x.roles list_place) (more_exprs xs) (arrow z))
    (way w.LabelsSome (act (acts_NoExprs b)
    (good.0.whole list_place refl halves.0 _ (exprs 0 [] [] b) (more_exprs xs ++ arrow z) new (after_more xs (arrow z) (arrow_after list_place z))
    (act (acts_AddExpr 0 [] [] (x.depth list_place) (x.tree list_place) b)
    (exprs_more xs (max (x.depth list_place) 0) (x.tree list_place ∷ []) [] _ b (arrow z) new good.1 halves.1 (arrow_after list_place z)
    (take_blank solid refl h))))))

labels_begin : (xs : List Operand) (z : Roles) → is_some xs ≡ true → AllRead xs → all_at list_place xs ≡ true → Begins (listed_exprs xs ++ z)
unfolding AllRead
labels_begin [] z some good readable = absurd (cc some)
labels_begin (x ∷ xs) z some good readable = begins_more (listed_exprs (x ∷ xs)) z (begins_more (x.roles list_place) (more_exprs xs) (good.0.begins list_place (both (x.readable list_place) (all_at list_place xs) readable).0))

-- What is shown of a line of a `when` is read as it, wherever what stands behind its arrow is read.
pub record Line (T : Type 0) (first : Symbols) (built : ℕ → T → Built → Built) (x : Piece T) : Type 0 where
  pub begins : x.readable ≡ true → Begins x.roles
  pub reads : x.readable ≡ true → (X s : Symbols) (b : Built) (r : Roles) (new : Built) → Behind r → ((c : Built) (ls : Letters) → Der (first ++ s) c ls new → Der X c ls new)
      → Der s (built x.depth x.tree b) (L gap.Plain r) new → Der (y.Form f.Labels ∷ y.Term (t.Only k.Arrow) ∷ X) b (L gap.Plain (x.roles ++ r)) new

abbrev pub Choices : Piece KChoice → Type 0
Choices x = Line KChoice (y.Form f.Expr ∷ y.Act a.Choice ∷ []) choice x

abbrev pub Branches : Piece KBranch → Type 0
Branches x = Line KBranch (y.Form f.Block ∷ y.Act a.Branch ∷ []) branch x

spaced : (z : Roles) → L gap.Plain (Role.Fixed g.Blank ∷ z) ≡ L gap.Plain z
unfolding tokens
spaced z = refl

spaced_solid : (V r : Roles) → First V r → relaxed (L gap.Plain (Role.Fixed g.Blank ∷ (V ++ r))) ≡ L gap.Plain (Role.Fixed g.Blank ∷ (V ++ r))
unfolding tokens
spaced_solid V r first = relaxed_plain V r first

spaced_whole : (s : Symbols) (b : Built) (z : Roles) (new : Built) → Der s b (L gap.Plain z) new → Der s b (L gap.Plain (Role.Fixed g.Blank ∷ z)) new
unfolding tokens
spaced_whole s b z new h = h

pub choice_good : (ls : List Operand) (commas : List Position) (at : Position) (v : Operand) → AllRead ls → Good v → Choices (choice_piece (record { labels = ls; commas = commas; arrow = at; value = v }))
choice_good ls commas at v all good =
    let c = choice_piece (record { labels = ls; commas = commas; arrow = at; value = v }) in
    let V = v.roles free_place in
    let S = listed_exprs ls in
    let d = max (v.depth free_place) (deepest_at ls) in
    let parts : c.readable ≡ true → (is_some ls ≡ true) × (all_at list_place ls ≡ true) × (v.readable free_place ≡ true) × Fits d = λ is.
    let a = both (is_some ls && all_at list_place ls && v.readable free_place) (fits d) is in
    let b = both (is_some ls && all_at list_place ls) (v.readable free_place) a.0 in
    let e = both (is_some ls) (all_at list_place ls) b.0 in (e.0, e.1, b.1, a.1) in
    record {
      begins = λ is. subst Begins (sym (append_assoc (S ++ fixed (g.Blank ∷ g.Mark m.Arrow ∷ [])) (fixed (g.Blank ∷ [])) V ∙ append_assoc S (fixed (g.Blank ∷ g.Mark m.Arrow ∷ [])) (fixed (g.Blank ∷ []) ++ V)))
          (labels_begin ls (fixed (g.Blank ∷ g.Mark m.Arrow ∷ []) ++ (fixed (g.Blank ∷ []) ++ V)) (parts is).0 all (parts is).1);
      reads = λ is X s b r new behind conv h.
          subst (λ z. Der (y.Form f.Labels ∷ y.Term (t.Only k.Arrow) ∷ X) b (L gap.Plain z) new)
          (sym (append_assoc ((S ++ fixed (g.Blank ∷ g.Mark m.Arrow ∷ [])) ++ fixed (g.Blank ∷ [])) V r ∙ append_assoc (S ++ fixed (g.Blank ∷ g.Mark m.Arrow ∷ [])) (fixed (g.Blank ∷ [])) (V ++ r) ∙ append_assoc S (fixed (g.Blank ∷ g.Mark m.Arrow ∷ [])) (fixed (g.Blank ∷ []) ++ (V ++ r))))
          (labels_read ls X b (Role.Fixed g.Blank ∷ (V ++ r)) new (parts is).0 all (parts is).1 (spaced_solid V r (good.begins free_place (parts is).2 r))
          (conv _ _ (spaced_whole _ _ (V ++ r) new (good.whole free_place refl (parts is).2 (y.Act a.Choice ∷ s) (place (exprs (deepest_at ls) (arguments_at ls) (commas_of ls) b)) r new (behind.after free_place)
          (act (acts_Choice (deepest_at ls) (arguments_at ls) (commas_of ls) (v.depth free_place) (v.tree free_place) b (parts is).3) h)))));
    }

-- a block behind `->`
block_solid : (xs : List (Piece KStmt)) (r : Roles) → AllStand xs → all_readable xs ≡ true → relaxed (L gap.Plain (block_of (map roles_of xs) ++ r)) ≡ L gap.Plain (block_of (map roles_of xs) ++ r)
unfolding letters tokens mark_kind
block_solid xs r all readable =
    ap (λ u. relaxed (letter_by (curly_kind (L gap.Plain u)) (token (q.Mark m.OpenCurly) gap.Plain) ∷ L gap.Plain u)) (append_assoc (lines (map roles_of xs)) (fixed closed_glyphs) r)
    ∙ ap (λ c. relaxed (letter_by c (token (q.Mark m.OpenCurly) gap.Plain) ∷ L gap.Plain (lines (map roles_of xs) ++ (fixed closed_glyphs ++ r)))) (block_curly xs r all readable)
    ∙ sym (ap (λ c. letter_by c (token (q.Mark m.OpenCurly) gap.Plain) ∷ L gap.Plain (lines (map roles_of xs) ++ (fixed closed_glyphs ++ r))) (block_curly xs r all readable))
    ∙ sym (ap (λ u. letter_by (curly_kind (L gap.Plain u)) (token (q.Mark m.OpenCurly) gap.Plain) ∷ L gap.Plain u) (append_assoc (lines (map roles_of xs)) (fixed closed_glyphs) r))

pub branch_good : (ls : List Operand) (commas : List Position) (at : Position) (curly : Brackets) (xs : List (Piece KStmt)) → AllRead ls → AllStand xs
    → Branches (branch_piece (record { labels = ls; commas = commas; arrow = at; curly = curly; statements = xs }))
branch_good ls commas at curly xs all stand =
    let c = branch_piece (record { labels = ls; commas = commas; arrow = at; curly = curly; statements = xs }) in
    let B = block_of (map roles_of xs) in
    let S = listed_exprs ls in
    let A = fixed (g.Blank ∷ g.Mark m.Arrow ∷ []) in
    let d = max (block_depth xs) (deepest_at ls) in
    let parts : c.readable ≡ true → (is_some ls ≡ true) × (all_at list_place ls ≡ true) × (block_readable xs ≡ true) × Fits d = λ is.
    let a = both (is_some ls && all_at list_place ls && block_readable xs) (fits d) is in
    let b = both (is_some ls && all_at list_place ls) (block_readable xs) a.0 in
    let e = both (is_some ls) (all_at list_place ls) b.0 in (e.0, e.1, b.1, a.1) in
    record {
      begins = λ is. subst Begins (sym (append_assoc S A B)) (labels_begin ls (A ++ B) (parts is).0 all (parts is).1);
      reads = λ is X s b r new behind conv h.
          subst (λ z. Der (y.Form f.Labels ∷ y.Term (t.Only k.Arrow) ∷ X) b (L gap.Plain z) new) (sym (append_assoc (S ++ A) B r ∙ append_assoc S A (B ++ r)))
          (labels_read ls X b (B ++ r) new (parts is).0 all (parts is).1 (block_solid xs r stand (both (all_readable xs) (fits (deepest 0 (map depth_of xs))) (parts is).2).0)
          (conv _ _ (block_read xs (y.Act a.Branch ∷ s) (place (exprs (deepest_at ls) (arguments_at ls) (commas_of ls) b)) r new stand (parts is).2
          (act (acts_Branch (deepest_at ls) (arguments_at ls) (commas_of ls) (block_depth xs) (blocked xs) b (parts is).3) h))));
    }

-- ---- lines of a `when`

unfoldable pub AllLines : (T : Type 0) (first : Symbols) (built : ℕ → T → Built → Built) → List (Piece T) → Type 0
AllLines T first built [] = Unit {0}
AllLines T first built (x ∷ xs) = Line T first built x × AllLines T first built xs

abbrev lines_in : {T : Type 0} → List (Piece T) → Roles
lines_in xs = lines (map roles_of xs)

-- the line of `else`
abbrev else_at_line : Roles → Roles
else_at_line z = Role.Fixed g.Line ∷ Role.Fixed (g.Keyword kw.Else) ∷ Role.Fixed g.Blank ∷ Role.Fixed (g.Mark m.Arrow) ∷ z

abbrev else_now : Roles → Roles
else_now z = Role.Fixed (g.Keyword kw.Else) ∷ Role.Fixed g.Blank ∷ Role.Fixed (g.Mark m.Arrow) ∷ z

else_ends : (z : Roles) (b : Built) → takes taken t.Ends b (L gap.Plain (else_at_line z)) ≡ Some (b, L gap.Plain (else_now z))
unfolding takes letters tokens accepts keyword_kind mark_kind
else_ends z b = refl

else_relaxed : (z : Roles) → relaxed (L gap.Plain (else_at_line z)) ≡ L gap.Plain (else_now z)
unfolding letters tokens keyword_kind mark_kind
else_relaxed z = refl

else_behind : (z : Roles) → Behind (else_at_line z)
unfolding letters tokens keyword_kind mark_kind arguments_follow names_follow
else_behind z = record { after = λ p. record { free = refl; calm = refl; plain = λ h. refl; stops = λ h n. refl }; named = refl }

module _ (T : Type 0) (first : Symbols) (built : ℕ → T → Built → Built) where
  behind_line : (x : Piece T) (z : Roles) → Line T first built x → x.readable ≡ true → Behind (Role.Fixed g.Line ∷ (x.roles ++ z))
  unfolding tokens
  behind_line x z h readable = record { after = λ p. after_first p gap.Line x.roles z (h.begins readable z); named = first_named x.roles z gap.Line (h.begins readable z) }

  pub behind_lines : (xs : List (Piece T)) (z : Roles) → AllLines T first built xs → all_readable xs ≡ true → Behind (lines_in xs ++ else_at_line z)
  unfolding AllLines
  behind_lines [] z all readable = else_behind z
  behind_lines (x ∷ xs) z all readable = subst Behind (sym (ap (λ u. Role.Fixed g.Line ∷ u) (append_assoc x.roles (lines_in xs) (else_at_line z))))
      (behind_line x (lines_in xs ++ else_at_line z) all.0 (both x.readable (all_readable xs) readable).0)

abbrev pub AllChoices : List (Piece KChoice) → Type 0
AllChoices xs = AllLines KChoice (y.Form f.Expr ∷ y.Act a.Choice ∷ []) choice xs

abbrev pub AllBranches : List (Piece KBranch) → Type 0
AllBranches xs = AllLines KBranch (y.Form f.Block ∷ y.Act a.Branch ∷ []) branch xs

choices_more : (xs : List (Piece KChoice)) (d : ℕ) (found : List KChoice) (s : Symbols) (b : Built) (z : Roles) (new : Built) → AllChoices xs → all_readable xs ≡ true
    → Der (y.Form f.Choices ∷ s) (choices (deepest d (map depth_of xs)) (found ++ map tree_of xs) b) (L gap.Plain (else_now z)) new
    → Der (y.Term t.Ends ∷ y.Form f.Choices ∷ s) (choices d found b) (L gap.Plain (lines_in xs ++ else_at_line z)) new
unfolding written tokens AllLines
choices_more [] d found s b z new all readable h = take (else_ends z (choices d found b)) (subst (λ u. Der (y.Form f.Choices ∷ s) (choices d u b) (L gap.Plain (else_now z)) new) (append-nil found) h)
choices_more (x ∷ xs) d found s b z new all readable h =
    let halves = both x.readable (all_readable xs) readable in
    let r = lines_in xs ++ else_at_line z in
    rw (append_assoc x.roles (lines_in xs) (else_at_line z))
    (take (takes_line x.roles r (choices d found b) (all.0.begins halves.0 r))
    (way w.ChoiceNext (all.0.reads halves.0 _ _ (choices d found b) r new (behind_lines KChoice (y.Form f.Expr ∷ y.Act a.Choice ∷ []) choice xs z all.1 halves.1) (λ c ls h. h)
    (act (acts_AddChoice d found x.depth x.tree b)
    (choices_more xs (max x.depth d) (found ++ x.tree ∷ []) s b z new all.1 halves.1
    (subst (λ u. Der (y.Form f.Choices ∷ s) (choices (deepest (max x.depth d) (map depth_of xs)) u b) (L gap.Plain (else_now z)) new) (sym (append_assoc found (x.tree ∷ []) (map tree_of xs))) h))))))

branches_more : (xs : List (Piece KBranch)) (d : ℕ) (found : List KBranch) (s : Symbols) (b : Built) (z : Roles) (new : Built) → AllBranches xs → all_readable xs ≡ true
    → Der (y.Form f.Branches ∷ s) (branches (deepest d (map depth_of xs)) (found ++ map tree_of xs) b) (L gap.Plain (else_now z)) new
    → Der (y.Term t.Ends ∷ y.Form f.Branches ∷ s) (branches d found b) (L gap.Plain (lines_in xs ++ else_at_line z)) new
unfolding written tokens AllLines
branches_more [] d found s b z new all readable h = take (else_ends z (branches d found b)) (subst (λ u. Der (y.Form f.Branches ∷ s) (branches d u b) (L gap.Plain (else_now z)) new) (append-nil found) h)
branches_more (x ∷ xs) d found s b z new all readable h =
    let halves = both x.readable (all_readable xs) readable in
    let r = lines_in xs ++ else_at_line z in
    rw (append_assoc x.roles (lines_in xs) (else_at_line z))
    (take (takes_line x.roles r (branches d found b) (all.0.begins halves.0 r))
    (way w.BranchNext (all.0.reads halves.0 _ _ (branches d found b) r new (behind_lines KBranch (y.Form f.Block ∷ y.Act a.Branch ∷ []) branch xs z all.1 halves.1) (λ c ls h. h)
    (act (acts_AddBranch d found x.depth x.tree b)
    (branches_more xs (max x.depth d) (found ++ x.tree ∷ []) s b z new all.1 halves.1
    (subst (λ u. Der (y.Form f.Branches ∷ s) (branches (deepest (max x.depth d) (map depth_of xs)) u b) (L gap.Plain (else_now z)) new) (sym (append_assoc found (x.tree ∷ []) (map tree_of xs))) h))))))

-- ---- a `when`

zero_max : (n : ℕ) → max 0 n ≡ max n 0
zero_max n = omega arith

curly_by : (c d : Bool) (b : Built) (ls : Letters) → takes taken t.WhenCurly b (letter_by (if c then k.OpenParameters else (if d then k.OpenParameters else k.OpenCurly)) (token (q.Mark m.OpenCurly) gap.Plain) ∷ ls) ≡ Some (place b, relaxed ls)
unfolding takes accepts taken
curly_by true d b ls = refl
curly_by false true b ls = refl
curly_by false false b ls = refl

abbrev opened_when : Roles → Roles
opened_when z = Role.Fixed g.Blank ∷ Role.Fixed (g.Mark m.OpenCurly) ∷ Role.Fixed g.Deeper ∷ z

takes_when : (b : Built) (z : Roles) → takes taken t.WhenCurly b (L gap.Plain (opened_when z)) ≡ Some (place b, relaxed (L gap.Plain z))
unfolding letters tokens mark_kind
takes_when b z = curly_by (stands is_arrow (L gap.Plain z)) (names_follow false (L gap.Plain z)) b (L gap.Plain z)

when_begins : (xs : Roles) → Begins (Role.Fixed (g.Keyword kw.When) ∷ xs)
unfolding starts keyword_kind
when_begins xs = begins_keyword kw.When xs (λ r. refl)

when_unnamed : (xs : Roles) → Unnamed (Role.Fixed (g.Keyword kw.When) ∷ xs)
unfolding letters tokens keyword_kind names_follow accepts
when_unnamed xs r i = refl

when_scans : (xs : Roles) → Scans (Role.Fixed (g.Keyword kw.When) ∷ xs)
unfolding letters tokens keyword_kind arguments_follow accepts
when_scans xs n r i = refl

-- what is built before the lines
abbrev before_lines : Operand → Built → Built
before_lines v b = place (place (expr (v.depth free_place) (v.tree free_place) (place (place b))))

-- `else`, `->` and a block, and the end of the lines
else_block : (ys : List (Piece KStmt)) (s : Symbols) (b : Built) (r : Roles) (new : Built) → AllStand ys → block_readable ys ≡ true
    → Der s (place (block (block_depth ys) (blocked ys) (place (place b)))) (L gap.Plain r) new
    → Der (y.Term (t.Only k.ElseArrow) ∷ y.Term (t.Only k.Arrow) ∷ y.Form f.Block ∷ y.Form f.OptionalEnds ∷ y.Term (t.Only k.CloseCurly) ∷ s) b (L gap.Plain (else_now (block_of (map roles_of ys) ++ closing r))) new
unfolding written takes letters tokens accepts taken keyword_kind mark_kind
else_block ys s b r new all readable h = take refl (take_blank (block_solid ys (closing r) all (both (all_readable ys) (fits (deepest 0 (map depth_of ys))) readable).0) refl
    (block_read ys _ (place (place b)) (closing r) new all readable (way w.OptionalEndsNone (take refl h))))

-- the lines of a `when` as a statement, with what is behind them
when_lines : (v : Operand) (xs : List (Piece KBranch)) (ys : List (Piece KStmt)) (s : Symbols) (b : Built) (r : Roles) (new : Built) → AllBranches xs → all_readable xs ≡ true → AllStand ys → block_readable ys ≡ true
    → Fits (max (max (block_depth ys) (deepest 0 (map depth_of xs))) (v.depth free_place))
    → Der s (stmt (suc (max (max (block_depth ys) (deepest 0 (map depth_of xs))) (v.depth free_place))) (e.When made_head (v.tree free_place) made_brackets (map tree_of xs) made_else made_brackets (map tree_of ys)) b) (L gap.Plain r) new
    → Der (y.Form f.FirstCase ∷ s) (before_lines v b) (relaxed (L gap.Plain (lines_in xs ++ else_at_line (block_of (map roles_of ys) ++ closing r)))) new
unfolding written takes letters tokens accepts taken keyword_kind mark_kind AllLines
when_lines v [] ys s b r new all readable all2 readable2 fit h =
    let z = block_of (map roles_of ys) ++ closing r in
    subst (λ u. Der (y.Form f.FirstCase ∷ s) (before_lines v b) u new) (sym (else_relaxed z))
    (way w.FirstElse (take refl (take_blank (block_solid ys (closing r) all2 (both (all_readable ys) (fits (deepest 0 (map depth_of ys))) readable2).0) refl
    (way w.FirstElseBranch (act (acts_NoBranches (place (place (before_lines v b))))
    (block_read ys _ (branches 0 [] (place (place (before_lines v b)))) (closing r) new all2 readable2
    (way w.OptionalEndsNone (take refl
    (act (acts_WhenBranchesFirst (v.depth free_place) (v.tree free_place) 0 [] (block_depth ys) (blocked ys) b fit) h)))))))))
when_lines v (x ∷ xs) ys s b r new all readable all2 readable2 fit h =
    let z = block_of (map roles_of ys) ++ closing r in
    let halves = both x.readable (all_readable xs) readable in
    let R = lines_in xs ++ else_at_line z in
    subst (λ u. Der (y.Form f.FirstCase ∷ s) (before_lines v b) u new)
    (sym (ap (λ u. relaxed (L gap.Line u)) (append_assoc x.roles (lines_in xs) (else_at_line z)) ∙ relaxed_line x.roles R (all.0.begins halves.0 R)))
    (way w.FirstNext (all.0.reads halves.0 (y.Form f.FirstBody ∷ s) _ (before_lines v b) R new (behind_lines KBranch (y.Form f.Block ∷ y.Act a.Branch ∷ []) branch xs z all.1 halves.1) (λ c ls h. way w.FirstBranch h)
    (act (acts_NoBranches (branch x.depth x.tree (before_lines v b)))
    (act (acts_AddBranchFirst x.depth x.tree (before_lines v b) ∙ ap (λ n. Some (branches n (x.tree ∷ []) (before_lines v b))) (zero_max x.depth))
    (branches_more xs (max x.depth 0) (x.tree ∷ []) (y.Term (t.Only k.CloseCurly) ∷ y.Act a.WhenBranches ∷ s) (before_lines v b) z new all.1 halves.1
    (way w.BranchElse (else_block ys (y.Act a.WhenBranches ∷ s) (branches (deepest (max x.depth 0) (map depth_of xs)) (x.tree ∷ map tree_of xs) (before_lines v b)) r new all2 readable2
    (act (acts_WhenBranches (v.depth free_place) (v.tree free_place) (deepest (max x.depth 0) (map depth_of xs)) (x.tree ∷ map tree_of xs) (block_depth ys) (blocked ys) b fit) h))))))))

abbrev lined_apart : {T : Type 0} → Roles → List (Piece T) → Roles → Roles → Roles
lined_apart S xs E r = head (g.Keyword kw.When) S (opened_when (lines_in xs ++ (E ++ r)))

pub when_stands : (at : KHeadAt) (v : Operand) (curly : Brackets) (xs : List (Piece KBranch)) (else_at : KElseAt) (curly2 : Brackets) (ys : List (Piece KStmt)) → Good v → AllBranches xs → AllStand ys
    → Stands (statement_piece (KStmt-F.When at v curly xs else_at curly2 ys))
unfolding written takes letters tokens accepts taken keyword_kind names_follow
when_stands at v curly xs else_at curly2 ys good all all2 =
    let x = statement_piece (KStmt-F.When at v curly xs else_at curly2 ys) in
    let S = v.roles free_place in
    let H = headed (g.Keyword kw.When) S in
    let O = fixed opened_glyphs in
    let Ls = lines_in xs in
    let E = fixed else_line in
    let B = block_of (map roles_of ys) in
    let C = fixed closed_glyphs in
    let d = max (max (block_depth ys) (deepest 0 (map depth_of xs))) (v.depth free_place) in
    let parts : x.readable ≡ true → (v.readable free_place ≡ true) × (all_readable xs ≡ true) × (block_readable ys ≡ true) × Fits d = λ is.
    let a = both (v.readable free_place && all_readable xs && block_readable ys) (fits d) is in
    let b = both (v.readable free_place && all_readable xs) (block_readable ys) a.0 in
    let c = both (v.readable free_place) (all_readable xs) b.0 in (c.0, c.1, b.1, a.1) in
    simple x refl (λ is. when_begins _) (λ is r i. refl)
    (λ is s b r new behind h.
    subst (λ z. Der (y.Form f.Statement ∷ s) b (L gap.Plain z) new)
    (sym (append_assoc ((((H ++ O) ++ Ls) ++ E) ++ B) C r ∙ append_assoc (((H ++ O) ++ Ls) ++ E) B (C ++ r) ∙ append_assoc ((H ++ O) ++ Ls) E (B ++ (C ++ r)) ∙ append_assoc (H ++ O) Ls (E ++ (B ++ (C ++ r)))
    ∙ append_assoc H O (Ls ++ (E ++ (B ++ (C ++ r)))) ∙ head_apart (g.Keyword kw.When) S (O ++ (Ls ++ (E ++ (B ++ (C ++ r)))))))
    (way w.StatementWhen (take refl (condition v _ (place b) (opened_when (Ls ++ else_at_line (B ++ closing r))) new good (parts is).0
    (take (takes_when (place (expr (v.depth free_place) (v.tree free_place) (place (place b)))) (Ls ++ else_at_line (B ++ closing r)))
    (when_lines v xs ys s b r new all (parts is).1 all2 (parts is).2 (parts is).3 h))))))

-- ---- a `when` that gives a value

-- `else`, `->`, a value, and `}`
else_value_read : (u : Operand) (s : Symbols) (b : Built) (r : Roles) (new : Built) → Good u → u.readable free_place ≡ true
    → Der s (place (expr (u.depth free_place) (u.tree free_place) (place (place b)))) (L gap.Plain r) new
    → Der (y.Term (t.Only k.ElseArrow) ∷ y.Term (t.Only k.Arrow) ∷ y.Form f.Expr ∷ y.Form f.OptionalEnds ∷ y.Term (t.Only k.CloseCurly) ∷ s) b (L gap.Plain (else_now (Role.Fixed g.Blank ∷ (u.roles free_place ++ closing r)))) new
unfolding written takes letters tokens accepts taken keyword_kind mark_kind
else_value_read u s b r new good readable h = take refl (take_blank (relaxed_plain (u.roles free_place) (closing r) (good.begins free_place readable (closing r))) refl
    (good.whole free_place refl readable _ (place (place b)) (closing r) new (after_closing free_place r) (way w.OptionalEndsNone (take refl h))))

module _ (v u : Operand) (good : Good v) (good2 : Good u) where
  abbrev deep : List (Piece KChoice) → ℕ
  deep xs = max (max (u.depth free_place) (deepest 0 (map depth_of xs))) (v.depth free_place)

  abbrev valued : List (Piece KChoice) → KExpr
  valued xs = e.WhenValue made_head (v.tree free_place) made_brackets (map tree_of xs) made_else (u.tree free_place)

  abbrev else_behind_lines : Roles → Roles
  else_behind_lines r = Role.Fixed g.Blank ∷ (u.roles free_place ++ closing r)

  inner_lines : (xs : List (Piece KChoice)) (s : Symbols) (b : Built) (r : Roles) (new : Built) → AllChoices xs → all_readable xs ≡ true → u.readable free_place ≡ true → Fits (deep xs)
      → Der s (expr (suc (deep xs)) (valued xs) b) (L gap.Plain r) new
      → Der (y.Form f.Choices ∷ y.Term (t.Only k.CloseCurly) ∷ y.Act a.WhenChoices ∷ s) (choices 0 [] (before_lines v b)) (relaxed (L gap.Plain (lines_in xs ++ else_at_line (else_behind_lines r)))) new
  unfolding written tokens AllLines
  inner_lines [] s b r new all readable readable2 fit h =
      subst (λ z. Der (y.Form f.Choices ∷ y.Term (t.Only k.CloseCurly) ∷ y.Act a.WhenChoices ∷ s) (choices 0 [] (before_lines v b)) z new) (sym (else_relaxed (else_behind_lines r)))
      (way w.ChoiceElse (else_value_read u (y.Act a.WhenChoices ∷ s) (choices 0 [] (before_lines v b)) r new good2 readable2
      (act (acts_WhenChoices (v.depth free_place) (v.tree free_place) 0 [] (u.depth free_place) (u.tree free_place) b fit) h)))
  inner_lines (x ∷ xs) s b r new all readable readable2 fit h =
      let z = else_behind_lines r in
      let halves = both x.readable (all_readable xs) readable in
      let R = lines_in xs ++ else_at_line z in
      subst (λ q. Der (y.Form f.Choices ∷ y.Term (t.Only k.CloseCurly) ∷ y.Act a.WhenChoices ∷ s) (choices 0 [] (before_lines v b)) q new)
      (sym (ap (λ q. relaxed (L gap.Line q)) (append_assoc x.roles (lines_in xs) (else_at_line z)) ∙ relaxed_line x.roles R (all.0.begins halves.0 R)))
      (way w.ChoiceNext (all.0.reads halves.0 _ _ (choices 0 [] (before_lines v b)) R new (behind_lines KChoice (y.Form f.Expr ∷ y.Act a.Choice ∷ []) choice xs z all.1 halves.1) (λ c ls h. h)
      (act (acts_AddChoice 0 [] x.depth x.tree (before_lines v b))
      (choices_more xs (max x.depth 0) (x.tree ∷ []) (y.Term (t.Only k.CloseCurly) ∷ y.Act a.WhenChoices ∷ s) (before_lines v b) z new all.1 halves.1
      (way w.ChoiceElse (else_value_read u (y.Act a.WhenChoices ∷ s) (choices (deepest (max x.depth 0) (map depth_of xs)) (x.tree ∷ map tree_of xs) (before_lines v b)) r new good2 readable2
      (act (acts_WhenChoices (v.depth free_place) (v.tree free_place) (deepest (max x.depth 0) (map depth_of xs)) (x.tree ∷ map tree_of xs) (u.depth free_place) (u.tree free_place) b fit) h)))))))

  outer_lines : (xs : List (Piece KChoice)) (s : Symbols) (b : Built) (r : Roles) (new : Built) → AllChoices xs → all_readable xs ≡ true → u.readable free_place ≡ true → Fits (deep xs)
      → Der (y.Form f.Suffixes ∷ y.Form f.Tails ∷ s) (expr (suc (deep xs)) (valued xs) b) (L gap.Plain r) new
      → Der (y.Form f.FirstCase ∷ s) (before_lines v b) (relaxed (L gap.Plain (lines_in xs ++ else_at_line (else_behind_lines r)))) new
  unfolding written takes letters tokens accepts taken keyword_kind mark_kind AllLines
  outer_lines [] s b r new all readable readable2 fit h =
      subst (λ z. Der (y.Form f.FirstCase ∷ s) (before_lines v b) z new) (sym (else_relaxed (else_behind_lines r)))
      (way w.FirstElse (take refl (take_blank (relaxed_plain (u.roles free_place) (closing r) (good2.begins free_place readable2 (closing r))) refl
      (way w.FirstElseChoice (act (acts_NoChoices (place (place (before_lines v b))))
      (good2.whole free_place refl readable2 _ (choices 0 [] (place (place (before_lines v b)))) (closing r) new (after_closing free_place r)
      (way w.OptionalEndsNone (take refl
      (act (acts_WhenChoicesFirst (v.depth free_place) (v.tree free_place) 0 [] (u.depth free_place) (u.tree free_place) b fit) h)))))))))
  outer_lines (x ∷ xs) s b r new all readable readable2 fit h =
      let z = else_behind_lines r in
      let halves = both x.readable (all_readable xs) readable in
      let R = lines_in xs ++ else_at_line z in
      subst (λ q. Der (y.Form f.FirstCase ∷ s) (before_lines v b) q new)
      (sym (ap (λ q. relaxed (L gap.Line q)) (append_assoc x.roles (lines_in xs) (else_at_line z)) ∙ relaxed_line x.roles R (all.0.begins halves.0 R)))
      (way w.FirstNext (all.0.reads halves.0 (y.Form f.FirstBody ∷ s) _ (before_lines v b) R new (behind_lines KChoice (y.Form f.Expr ∷ y.Act a.Choice ∷ []) choice xs z all.1 halves.1) (λ c ls h. way w.FirstChoice h)
      (act (acts_NoChoices (choice x.depth x.tree (before_lines v b)))
      (act (acts_AddChoiceFirst x.depth x.tree (before_lines v b) ∙ ap (λ n. Some (choices n (x.tree ∷ []) (before_lines v b))) (zero_max x.depth))
      (choices_more xs (max x.depth 0) (x.tree ∷ []) (y.Term (t.Only k.CloseCurly) ∷ y.Act a.WhenChoices ∷ y.Form f.Suffixes ∷ y.Form f.Tails ∷ s) (before_lines v b) z new all.1 halves.1
      (way w.ChoiceElse (else_value_read u (y.Act a.WhenChoices ∷ y.Form f.Suffixes ∷ y.Form f.Tails ∷ s) (choices (deepest (max x.depth 0) (map depth_of xs)) (x.tree ∷ map tree_of xs) (before_lines v b)) r new good2 readable2
      (act (acts_WhenChoices (v.depth free_place) (v.tree free_place) (deepest (max x.depth 0) (map depth_of xs)) (x.tree ∷ map tree_of xs) (u.depth free_place) (u.tree free_place) b fit) h))))))))

  value_post : (xs : List (Piece KChoice)) (p : Place) → AllChoices xs → v.readable free_place ≡ true → all_readable xs ≡ true → u.readable free_place ≡ true → Fits (deep xs) → (front : Front) (s : Symbols) (b : Built) (r : Roles) (new : Built)
      → Der (pending Level.Post (left front Level.Post s)) (expr (suc (deep xs)) (valued xs) b) (L gap.Plain r) new
      → Der (top front Level.Post s) b (L gap.Plain (head (g.Keyword kw.When) (v.roles free_place) (opened_when (lines_in xs ++ else_at_line (else_behind_lines r))))) new
  unfolding written takes letters tokens accepts taken keyword_kind
  value_post xs p all readable readable_lines readable2 fit Front.Inner s b r new h =
      way w.PrefixedOperand (way w.OperandWhen (take refl (condition v _ (place b) (opened_when (lines_in xs ++ else_at_line (else_behind_lines r))) new good readable
      (take (takes_when (place (expr (v.depth free_place) (v.tree free_place) (place (place b)))) (lines_in xs ++ else_at_line (else_behind_lines r)))
      (act (acts_NoChoices (before_lines v b))
      (inner_lines xs _ b r new all readable_lines readable2 fit h))))))
  value_post xs p all readable readable_lines readable2 fit Front.Outer s b r new h =
      way w.StatementWhen (take refl (condition v _ (place b) (opened_when (lines_in xs ++ else_at_line (else_behind_lines r))) new good readable
      (take (takes_when (place (expr (v.depth free_place) (v.tree free_place) (place (place b)))) (lines_in xs ++ else_at_line (else_behind_lines r)))
      (outer_lines xs s b r new all readable_lines readable2 fit h))))

  pub when_bare : (at : KHeadAt) (curly : Brackets) (xs : List (Piece KChoice)) (else_at : KElseAt) → AllChoices xs → Bare (KExpr-F.WhenValue at v curly xs else_at u)
  unfolding letters tokens keyword_kind names_follow accepts arguments_follow
  when_bare at curly xs else_at all =
      let c : Layer = KExpr-F.WhenValue at v curly xs else_at u in
      let S = v.roles free_place in
      let H = headed (g.Keyword kw.When) S in
      let O = fixed opened_glyphs in
      let Ls = lines_in xs in
      let E = fixed else_value in
      let U = u.roles free_place in
      let C = fixed closed_glyphs in
      bare_post c (λ p is. when_begins _) (λ p is r i. refl) (λ p is n r i. refl)
      (λ p is front s b r new after h.
      let a = both (v.readable free_place && all_readable xs && u.readable free_place) (fits (deep xs)) is in
      let i = both (v.readable free_place && all_readable xs) (u.readable free_place) a.0 in
      let j = both (v.readable free_place) (all_readable xs) i.0 in
      subst (λ z. Der (top front Level.Post s) b (L gap.Plain z) new)
      (sym (append_assoc ((((H ++ O) ++ Ls) ++ E) ++ U) C r ∙ append_assoc (((H ++ O) ++ Ls) ++ E) U (C ++ r) ∙ append_assoc ((H ++ O) ++ Ls) E (U ++ (C ++ r)) ∙ append_assoc (H ++ O) Ls (E ++ (U ++ (C ++ r)))
      ∙ append_assoc H O (Ls ++ (E ++ (U ++ (C ++ r)))) ∙ head_apart (g.Keyword kw.When) S (O ++ (Ls ++ (E ++ (U ++ (C ++ r)))))))
      (value_post xs p all j.0 j.1 i.1 a.1 front s b r new h))
