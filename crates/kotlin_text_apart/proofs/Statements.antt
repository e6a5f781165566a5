-- Statements: their tokens stand apart.
use Rattle.std.proofs.Common.{◌≡◌, ℕ, ◌+◌, Bool, true, false, List, [], ◌∷◌, ◌++◌, map, Option, Some, None, refl, ap, sym, subst, ◌∙◌, append_assoc}
use Rattle.std.specs.Prelude.{if◌then◌else◌, bytes_eq, codes}
use Rattle.kotlin_tree.specs.declared.tokens.Mark.TheVariants as m
use Rattle.kotlin_tree.specs.declared.tokens.Keyword.{Keyword}
use Rattle.kotlin_tree.specs.declared.tokens.Keyword.TheVariants as k
use Rattle.kotlin_tree.specs.declared.tokens.Word.TheVariants as w
use Rattle.kotlin_tree.specs.declared.places.Brackets.{Brackets}
use Rattle.kotlin_tree.specs.declared.places.Position.{Position}
use Rattle.kotlin_tree.specs.declared.types.KName.{KName}
use Rattle.kotlin_tree.specs.declared.types.KType.{KType}
use Rattle.kotlin_lexer.specs.Nesting.{Open}
use Rattle.kotlin_lexer.specs.declared.nesting.Form.TheVariants as f
use Rattle.kotlin_layout.specs.declared.glyphs.Glyph.TheVariants as g
use Rattle.kotlin_layout.specs.Parens.{postfix_level, infix_level, free_place, list_place, operand_place}
use Rattle.kotlin_layout.specs.Roles.{Role, Roles, fixed, name, joined, lines, opened, closed, block}
use Rattle.kotlin_lexed_text.specs.Lexable.{front, is_other, ends_word, ends_mark, is_lexable}
use Rattle.kotlin_tree.specs.declared.expressions.KHeadAt.{KHeadAt}
use Rattle.kotlin_tree.specs.declared.expressions.KElseAt.{KElseAt}
use Rattle.kotlin_tree.specs.declared.statements.KDeclared.{KDeclared}
use Rattle.kotlin_tree.specs.declared.statements.KVariability.{KVariability}
use Rattle.kotlin_tree.specs.declared.statements.KVariability.TheVariants as variability
use Rattle.kotlin_tree.specs.declared.statements.KLabel.{KLabel}
use Rattle.kotlin_tree.specs.declared.statements.KTarget.{KTarget}
use Rattle.kotlin_tree.specs.declared.statements.KFinallyAt.{KFinallyAt}
use Rattle.kotlin_layout.specs.Shown.{Placed, type_roles, has_type, assigns, variability_word, declared_roles, label_roles, target_roles, for_head, headed, in_round, else_word, else_line, labels, at_place, statement_by, choice_by, branch_by, catch_by}
use Rattle.kotlin_tree.specs.declared.expressions.KExpr.TheOpen.{KStmt-F, KChoice-F, KBranch-F, KCatch-F}
use Rattle.kotlin_text_apart.proofs.Parts.{both, and_true, calm, Calm, Flows, Stands, flowing, behind, seq, seqs, name_goes, in_round_flows, keyword_headed, word_headed, braced_flows, AllStand, lines_stand, block_flows, block_calm, line_goes, commented_goes, typed}
use Rattle.kotlin_text_apart.proofs.Expressions.{Good, AllGood, labels_flow, spaced_flows}

-- ---- declarations, labels, targets

variability_goes : (x : KVariability) (o : Open) (zs : Roles) → is_lexable o zs ≡ true → is_lexable o (Role.Fixed (variability_word x) ∷ Role.Fixed g.Blank ∷ zs) ≡ true
unfolding is_lexable front
variability_goes variability.Val o zs h = h
variability_goes variability.Var o zs h = h

-- a name, a colon and a type
pub typed_name : (n : List ℕ) (kind : KType) → Flows ((name n ++ fixed has_type) ++ type_roles kind)
unfolding is_lexable front ends_mark
typed_name n kind = record { goes = λ o zs c h. name_goes n o (Role.Fixed (g.Mark m.Colon) ∷ Role.Fixed g.Blank ∷ (type_roles kind ++ zs)) refl ((typed kind).flows.goes o zs c h) }

pub declared_flows : (x : KDeclared) → Flows (declared_roles x)
declared_flows x = record { goes = λ o zs c h. variability_goes x.word o (((name x.name.name ++ fixed has_type) ++ type_roles x.kind) ++ zs) ((typed_name x.name.name x.kind).goes o zs c h) }

assigned : (A R : Roles) → Flows A → Flows R → Flows ((A ++ fixed assigns) ++ R)
unfolding is_lexable front ends_mark
assigned A R a r = record { goes = λ o zs c h. behind o (A ++ fixed assigns) R zs (behind o A (fixed assigns) (R ++ zs) (a.goes o (fixed assigns ++ (R ++ zs)) refl (r.goes o zs c h))) }

labeled : (x : Option KLabel) (R : Roles) → Flows R → Flows (label_roles x ++ R)
unfolding is_lexable front ends_mark
labeled None R r = r
labeled (Some x) R r = record { goes = λ o zs c h. name_goes x.name.name o (Role.Fixed (g.Mark m.At) ∷ Role.Fixed g.Blank ∷ (R ++ zs)) refl (r.goes o zs c h) }

target_calm : (x : Option KTarget) (zs : Roles) → calm (front zs) ≡ true → calm (front (target_roles x ++ zs)) ≡ true
unfolding front
target_calm None zs c = c
target_calm (Some x) zs c = refl

target_named : (b : Bool) (n : List ℕ) (o : Open) (zs : Roles) → ends_word (front zs) ≡ true → is_lexable o zs ≡ true → is_lexable o ((if b then fixed (g.Word w.SynchronizedBlock ∷ []) else name n) ++ zs) ≡ true
unfolding is_lexable
target_named true n o zs e h = and_true (ends_word (front zs)) (is_lexable o zs) e h
target_named false n o zs e h = name_goes n o zs e h

target_go : (x : Option KTarget) (o : Open) (zs : Roles) → calm (front zs) ≡ true → is_lexable o zs ≡ true → is_lexable o (target_roles x ++ zs) ≡ true
unfolding is_lexable front ends_mark
target_go None o zs c h = h
target_go (Some x) o zs c h = target_named (bytes_eq x.name.name (codes "synchronized")) x.name.name o zs (both (ends_word (front zs)) (is_other 61 (front zs)) c).0 h

-- a keyword, and where a jump goes
jump : (x : Keyword) (to : Option KTarget) → Flows (fixed (g.Keyword x ∷ []) ++ target_roles to)
unfolding is_lexable
jump x to = record {
  goes = λ o zs c h.
      let z = target_roles to ++ zs in
      and_true (ends_word (front z)) (is_lexable o z) (both (ends_word (front z)) (is_other 61 (front z)) (target_calm to zs c)).0 (target_go to o zs c h);
}

spaced : (A R : Roles) → Flows A → Flows R → Flows ((A ++ fixed (g.Blank ∷ [])) ++ R)
unfolding is_lexable front
spaced A R a r = record { goes = λ o zs c h. behind o (A ++ fixed (g.Blank ∷ [])) R zs (behind o A (fixed (g.Blank ∷ [])) (R ++ zs) (a.goes o (Role.Fixed g.Blank ∷ (R ++ zs)) refl (r.goes o zs c h))) }

-- a keyword before what begins with a blank
keyword_before : (x : Keyword) (ps : List Roles) → AllStand ps → Flows (fixed (g.Keyword x ∷ []) ++ block ps)
unfolding is_lexable front
keyword_before x ps all = record { goes = λ o zs c h. (block_flows ps all).goes o zs c h }

-- ---- the forms

module _ (v : Placed) (h : Good v) (ps : List Roles) (all : AllStand ps) where
  -- a keyword, in parentheses what stands between, a block
  guarded : (x : Keyword) → Flows (headed (g.Keyword x) (v free_place) ++ block ps)
  guarded x = seq (headed (g.Keyword x) (v free_place)) (block ps) (keyword_headed x (v free_place) (h.flows free_place)) (block_calm ps) (block_flows ps all)

pub form_Commented : (comments : List (List ℕ)) (R : Roles) → Stands R → Stands (statement_by (KStmt-F.Commented comments R))
form_Commented comments R r = record { goes = λ o zs free c h. commented_goes comments R o zs free (r.goes o zs free c h) }

pub form_Declared : (x : KDeclared) → Stands (statement_by (KStmt-F.Declared x))
form_Declared x = flowing (declared_roles x) (declared_flows x)

pub form_Local : (x : KDeclared) (at : Position) (v : Placed) → Good v → Stands (statement_by (KStmt-F.Local x at v))
form_Local x at v h = flowing _ (assigned (declared_roles x) (v free_place) (declared_flows x) (h.flows free_place))

pub form_Expression : (v : Placed) → Good v → Stands (statement_by (KStmt-F.Expression v))
form_Expression v h = flowing _ (h.flows free_place)

pub form_Assign : (v : Placed) (at : Position) (u : Placed) → Good v → Good u → Stands (statement_by (KStmt-F.Assign v at u))
form_Assign v at u h i = flowing _ (assigned (v (operand_place postfix_level free_place)) (u free_place) (h.flows (operand_place postfix_level free_place)) (i.flows free_place))

pub form_While : (label : Option KLabel) (at : KHeadAt) (v : Placed) (curly : Brackets) (ps : List Roles) → Good v → AllStand ps → Stands (statement_by (KStmt-F.While label at v curly ps))
form_While label at v curly ps h all =
    let a = headed (g.Keyword k.While) (v free_place) in
    flowing _ (subst Flows (sym (append_assoc (label_roles label) a (block ps))) (labeled label (a ++ block ps) (guarded v h ps all k.While)))

pub form_DoWhile : (label : Option KLabel) (do_at : Position) (curly : Brackets) (ps : List Roles) (at : KHeadAt) (v : Placed) → Good v → AllStand ps → Stands (statement_by (KStmt-F.DoWhile label do_at curly ps at v))
form_DoWhile label do_at curly ps at v h all =
    let l = label_roles label in
    let a = fixed (g.Keyword k.Do ∷ []) in
    let b = block ps in
    let c = fixed (g.Blank ∷ []) in
    let d = headed (g.Keyword k.While) (v free_place) in
    flowing _ (subst Flows (sym (append_assoc (l ++ a ++ b) c d ∙ append_assoc (l ++ a) b (c ++ d) ∙ append_assoc l a (b ++ (c ++ d)) ∙ ap (λ z. l ++ z) (sym (append_assoc (a ++ b) c d ∙ append_assoc a b (c ++ d)))))
    (labeled label ((a ++ b ++ c) ++ d) (spaced (a ++ b) d (keyword_before k.Do ps all) (keyword_headed k.While (v free_place) (h.flows free_place)))))

-- the rest of a `for` behind its name
for_flows : (x : List ℕ) (V : Roles) (ps : List Roles) → Flows V → AllStand ps
    → Flows (((fixed (g.Keyword k.For ∷ g.Blank ∷ g.Mark m.OpenRound ∷ []) ++ name x ++ fixed (g.Blank ∷ g.Keyword k.In ∷ g.Blank ∷ [])) ++ (V ++ fixed (g.Mark m.CloseRound ∷ []))) ++ block ps)
unfolding is_lexable front ends_mark
for_flows x V ps v all = record {
  goes = λ o zs c h.
      let z = fixed (g.Mark m.CloseRound ∷ []) in
      let n = f.Round ∷ o in
      name_goes x n (Role.Fixed g.Blank ∷ Role.Fixed (g.Keyword k.In) ∷ Role.Fixed g.Blank ∷ (((V ++ z) ++ block ps) ++ zs)) refl
      (behind n (V ++ z) (block ps) zs (behind n V z (block ps ++ zs) (v.goes n (Role.Fixed (g.Mark m.CloseRound) ∷ (block ps ++ zs)) refl ((block_flows ps all).goes o zs c h))));
}

pub form_For : (label : Option KLabel) (at : KHeadAt) (x : KName) (in_at : Position) (v : Placed) (curly : Brackets) (ps : List Roles) → Good v → AllStand ps → Stands (statement_by (KStmt-F.For label at x in_at v curly ps))
form_For label at x in_at v curly ps h all =
    let l = label_roles label in
    let a = for_head x in
    let b = v free_place in
    let c = fixed (g.Mark m.CloseRound ∷ []) in
    let d = block ps in
    flowing _ (subst Flows (sym (ap (λ z. z ++ d) (append_assoc (l ++ a) b c ∙ append_assoc l a (b ++ c)) ∙ append_assoc l (a ++ (b ++ c)) d))
    (labeled label ((a ++ (b ++ c)) ++ d) (for_flows x.name b ps (h.flows free_place) all)))

until_flows : (A R : Roles) → Flows A → Flows R → Flows ((A ++ fixed (g.Blank ∷ g.Word w.Until ∷ g.Blank ∷ [])) ++ R)
unfolding is_lexable front
until_flows A R a r = record {
  goes = λ o zs c h.
      let b = fixed (g.Blank ∷ g.Word w.Until ∷ g.Blank ∷ []) in
      behind o (A ++ b) R zs (behind o A b (R ++ zs) (a.goes o (b ++ (R ++ zs)) refl (r.goes o zs c h)));
}

pub form_ForRange : (label : Option KLabel) (at : KHeadAt) (x : KName) (in_at : Position) (v : Placed) (until_at : Position) (u : Placed) (curly : Brackets) (ps : List Roles) → Good v → Good u → AllStand ps
    → Stands (statement_by (KStmt-F.ForRange label at x in_at v until_at u curly ps))
form_ForRange label at x in_at v until_at u curly ps h i all =
    let l = label_roles label in
    let a = for_head x in
    let b = v (operand_place infix_level free_place) in
    let e = fixed (g.Blank ∷ g.Word w.Until ∷ g.Blank ∷ []) in
    let y = u (operand_place (infix_level + 1) free_place) in
    let c = fixed (g.Mark m.CloseRound ∷ []) in
    let d = block ps in
    flowing _ (subst Flows (sym (ap (λ z. z ++ d) (ap (λ z. (z ++ y) ++ c) (append_assoc (l ++ a) b e) ∙ ap (λ z. z ++ c) (append_assoc (l ++ a) (b ++ e) y) ∙ append_assoc (l ++ a) ((b ++ e) ++ y) c ∙ append_assoc l a (((b ++ e) ++ y) ++ c)) ∙ append_assoc l (a ++ (((b ++ e) ++ y) ++ c)) d))
    (labeled label ((a ++ (((b ++ e) ++ y) ++ c)) ++ d) (for_flows x.name ((b ++ e) ++ y) ps (until_flows b y (h.flows (operand_place infix_level free_place)) (i.flows (operand_place (infix_level + 1) free_place))) all)))

pub form_If : (at : KHeadAt) (v : Placed) (curly : Brackets) (ps : List Roles) → Good v → AllStand ps → Stands (statement_by (KStmt-F.If at v curly ps))
form_If at v curly ps h all = flowing _ (guarded v h ps all k.If)

else_block : (ps : List Roles) → AllStand ps → Flows (fixed else_word ++ block ps)
unfolding is_lexable front
else_block ps all = record { goes = λ o zs c h. (block_flows ps all).goes o zs c h }

pub form_IfElse : (at : KHeadAt) (v : Placed) (curly : Brackets) (ps : List Roles) (else_at : Position) (other : Brackets) (qs : List Roles) → Good v → AllStand ps → AllStand qs → Stands (statement_by (KStmt-F.IfElse at v curly ps else_at other qs))
unfolding front
form_IfElse at v curly ps else_at other qs h all more =
    let a = headed (g.Keyword k.If) (v free_place) ++ block ps in
    flowing _ (subst Flows (sym (append_assoc a (fixed else_word) (block qs))) (seq a (fixed else_word ++ block qs) (guarded v h ps all k.If) (λ zs. refl) (else_block qs more)))

else_stand : (R : Roles) → Stands R → Stands (fixed (g.Blank ∷ g.Keyword k.Else ∷ g.Blank ∷ []) ++ R)
unfolding is_lexable front
else_stand R r = record { goes = λ o zs free c h. r.goes o zs free c h }

pub form_IfElseIf : (at : KHeadAt) (v : Placed) (curly : Brackets) (ps : List Roles) (else_at : Position) (R : Roles) → Good v → AllStand ps → Stands R → Stands (statement_by (KStmt-F.IfElseIf at v curly ps else_at R))
unfolding front
form_IfElseIf at v curly ps else_at R h all r =
    let a = headed (g.Keyword k.If) (v free_place) ++ block ps in
    let b = fixed (g.Blank ∷ g.Keyword k.Else ∷ g.Blank ∷ []) in
    subst Stands (sym (append_assoc a b R)) (seqs a (b ++ R) (flowing a (guarded v h ps all k.If)) (λ zs. refl) (else_stand R r))

else_lines : (ps qs : List Roles) → AllStand ps → AllStand qs → Stands ((lines ps ++ fixed else_line) ++ block qs)
unfolding is_lexable front ends_mark
else_lines ps qs all more = record {
  goes = λ o zs free c h.
      behind o (lines ps ++ fixed else_line) (block qs) zs (behind o (lines ps) (fixed else_line) (block qs ++ zs)
      ((lines_stand ps all).goes o (fixed else_line ++ (block qs ++ zs)) free refl
      (line_goes o (Role.Fixed (g.Keyword k.Else) ∷ Role.Fixed g.Blank ∷ Role.Fixed (g.Mark m.Arrow) ∷ (block qs ++ zs)) free ((block_flows qs more).goes o zs c h))));
}

pub form_When : (at : KHeadAt) (v : Placed) (curly : Brackets) (bs : List Roles) (else_at : KElseAt) (other : Brackets) (qs : List Roles) → Good v → AllStand bs → AllStand qs → Stands (statement_by (KStmt-F.When at v curly bs else_at other qs))
unfolding front
form_When at v curly bs else_at other qs h all more =
    let a = headed (g.Keyword k.When) (v free_place) in
    let b = fixed opened in
    let c = lines bs in
    let d = fixed else_line in
    let e = block qs in
    let z = fixed closed in
    flowing _ (subst Flows (sym (ap (λ u. u ++ z) (append_assoc (a ++ b ++ c) d e ∙ append_assoc (a ++ b) c (d ++ e) ∙ append_assoc a b (c ++ (d ++ e)) ∙ ap (λ u. a ++ (b ++ u)) (sym (append_assoc c d e))) ∙ append_assoc a (b ++ ((c ++ d) ++ e)) z))
    (seq a ((b ++ ((c ++ d) ++ e)) ++ z) (keyword_headed k.When (v free_place) (h.flows free_place)) (λ zs. refl) (braced_flows ((c ++ d) ++ e) (else_lines bs qs all more))))

pub form_Break : (at : Position) (to : Option KTarget) → Stands (statement_by (KStmt-F.Break at to))
form_Break at to = flowing _ (jump k.Break to)

pub form_Continue : (at : Position) (to : Option KTarget) → Stands (statement_by (KStmt-F.Continue at to))
form_Continue at to = flowing _ (jump k.Continue to)

pub form_Return : (at : Position) (to : Option KTarget) → Stands (statement_by (KStmt-F.Return at to))
form_Return at to = flowing _ (jump k.Return to)

pub form_Give : (at : Position) (to : Option KTarget) (v : Placed) → Good v → Stands (statement_by (KStmt-F.Give at to v))
form_Give at to v h = flowing _ (spaced (fixed (g.Keyword k.Return ∷ []) ++ target_roles to) (v free_place) (jump k.Return to) (h.flows free_place))

throw_flows : (R : Roles) → Flows R → Flows (fixed (g.Keyword k.Throw ∷ g.Blank ∷ []) ++ R)
unfolding is_lexable front
throw_flows R r = record { goes = λ o zs c h. r.goes o zs c h }

pub form_Throw : (at : Position) (v : Placed) → Good v → Stands (statement_by (KStmt-F.Throw at v))
form_Throw at v h = flowing _ (throw_flows (v free_place) (h.flows free_place))

-- catches, each with a blank first
pub record Caught (R : Roles) : Type 0 where
  pub flows : Flows R
  pub calm : Calm R

abbrev pub AllCaught : List Roles → Type 0
AllCaught [] = Unit {0}
AllCaught (x ∷ xs) = Caught x × AllCaught xs

caught_calm : (ks : List Roles) (zs : Roles) → AllCaught ks → calm (front zs) ≡ true → calm (front (joined ks ++ zs)) ≡ true
caught_calm [] zs all c = c
caught_calm (x ∷ ks) zs all c = ap (λ z. calm (front z)) (append_assoc x (joined ks) zs) ∙ all.0.calm (joined ks ++ zs)

caught_go : (ks : List Roles) (o : Open) (zs : Roles) → AllCaught ks → calm (front zs) ≡ true → is_lexable o zs ≡ true → is_lexable o (joined ks ++ zs) ≡ true
caught_go [] o zs all c h = h
caught_go (x ∷ ks) o zs all c h = behind o x (joined ks) zs (all.0.flows.goes o (joined ks ++ zs) (caught_calm ks zs all.1 c) (caught_go ks o zs all.1 c h))

try_flows : (ps ks : List Roles) → AllStand ps → AllCaught ks → Flows ((fixed (g.Keyword k.Try ∷ []) ++ block ps) ++ joined ks)
try_flows ps ks all caught = record {
  goes = λ o zs c h.
      let a = fixed (g.Keyword k.Try ∷ []) ++ block ps in
      behind o a (joined ks) zs ((keyword_before k.Try ps all).goes o (joined ks ++ zs) (caught_calm ks zs caught c) (caught_go ks o zs caught c h));
}

pub form_Try : (at : Position) (curly : Brackets) (ps ks : List Roles) → AllStand ps → AllCaught ks → Stands (statement_by (KStmt-F.Try at curly ps ks))
form_Try at curly ps ks all caught = flowing _ (try_flows ps ks all caught)

last_block : (ps : List Roles) → AllStand ps → Flows (fixed (g.Blank ∷ g.Word w.Finally ∷ []) ++ block ps)
unfolding is_lexable front
last_block ps all = record { goes = λ o zs c h. (block_flows ps all).goes o zs c h }

pub form_TryFinally : (at : Position) (curly : Brackets) (ps ks : List Roles) (last_at : KFinallyAt) (qs : List Roles) → AllStand ps → AllCaught ks → AllStand qs → Stands (statement_by (KStmt-F.TryFinally at curly ps ks last_at qs))
unfolding front
form_TryFinally at curly ps ks last_at qs all caught more =
    let a = (fixed (g.Keyword k.Try ∷ []) ++ block ps) ++ joined ks in
    let b = fixed (g.Blank ∷ g.Word w.Finally ∷ []) in
    flowing _ (subst Flows (sym (append_assoc a b (block qs))) (seq a (b ++ block qs) (try_flows ps ks all caught) (λ zs. refl) (last_block qs more)))

locked : (X : Roles) → Flows X → Flows (fixed (g.Word w.SynchronizedBlock ∷ []) ++ in_round X)
unfolding is_lexable front
locked X x = record { goes = λ o zs c h. (in_round_flows X x).goes o zs c h }

pub form_Synchronized : (at : KHeadAt) (v : Placed) (curly : Brackets) (ps : List Roles) → Good v → AllStand ps → Stands (statement_by (KStmt-F.Synchronized at v curly ps))
form_Synchronized at v curly ps h all =
    flowing _ (seq (fixed (g.Word w.SynchronizedBlock ∷ []) ++ in_round (v free_place)) (block ps) (locked (v free_place) (h.flows free_place)) (block_calm ps) (block_flows ps all))

-- ---- alternatives, catches

pub form_Choice : (x : KChoice-F Placed Roles Roles Roles Roles) → AllGood x.labels → Good x.value → Stands (choice_by x)
form_Choice x all h = flowing _ (spaced (labels (map (at_place list_place) x.labels)) (x.value free_place) (labels_flow x.labels all) (h.flows free_place))

pub form_Branch : (x : KBranch-F Placed Roles Roles Roles Roles) → AllGood x.labels → AllStand x.statements → Stands (branch_by x)
form_Branch x all more =
    flowing _ (seq (labels (map (at_place list_place) x.labels)) (block x.statements) (labels_flow x.labels all) (block_calm x.statements) (block_flows x.statements more))

pub form_Catch : (x : KCatch-F Placed Roles Roles Roles Roles) → AllStand x.statements → Caught (catch_by x)
unfolding front
form_Catch x all =
    let a = headed (g.Word w.Catch) ((name x.name.name ++ fixed has_type) ++ type_roles x.kind) in
    let b = word_headed w.Catch ((name x.name.name ++ fixed has_type) ++ type_roles x.kind) (typed_name x.name.name x.kind) in
    record {
      flows = seq (fixed (g.Blank ∷ []) ++ a) (block x.statements) (spaced_flows a b) (block_calm x.statements) (block_flows x.statements all);
      calm = λ zs. refl;
    }
