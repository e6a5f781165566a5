-- The parts of what has no fault: alternatives of a `when`, lambdas, casts and tests, `return` without a value.
use Rattle.std.proofs.Common.{◌≡◌, inl, inr, ℕ, Bool, true, false, List, [], ◌∷◌, ◌++◌, map, Option, Some, None, refl, ap, subst, ◌∙◌}
use Rattle.std.specs.Prelude.{if◌then◌else◌}
use Rattle.judged.specs.Notes.{faults_in}
use Rattle.judged.specs.Judged.{after, both, each, pair, ◌>>=◌}
use Rattle.kotlin_tree.specs.declared.places.Position.{Position}
use Rattle.kotlin_tree.specs.declared.places.Brackets.{Brackets}
use Rattle.kotlin_tree.specs.declared.types.KName.{KName}
use Rattle.kotlin_tree.specs.declared.types.KType.{KType}
use Rattle.kotlin_tree.specs.declared.expressions.KHeadAt.{KHeadAt}
use Rattle.kotlin_tree.specs.declared.expressions.KElseAt.{KElseAt}
use Rattle.kotlin_tree.specs.declared.expressions.KLambdaNames.{KLambdaNames}
use Rattle.kotlin_tree.specs.declared.expressions.KExpr.{KExpr}
use Rattle.kotlin_tree.specs.declared.expressions.KExpr.TheVariants as e
use Rattle.kotlin_tree.specs.declared.expressions.KChoice.{KChoice, fold_out-KChoice}
use Rattle.kotlin_tree.specs.declared.statements.KBranch.{KBranch, fold_out-KBranch}
use Rattle.kotlin_tree.specs.declared.statements.KTarget.{KTarget}
use Rattle.kotlin_tree.specs.declared.statements.KStmt.{KStmt}
use Rattle.kotlin_tree.specs.declared.statements.KStmt.TheVariants as st
use Rattle.kotlin_types.specs.declared.kinds.KKind.{KKind}
use Rattle.kotlin_types.specs.Types.{boolean, not_null, same_but_null}
use Rattle.kotlin_typing.specs.declared.scope.KLocal.{KLocal}
use Rattle.kotlin_typing.specs.declared.scope.KReturns.{KReturns}
use Rattle.kotlin_typing.specs.declared.scope.KReturns.TheVariants as returns
use Rattle.kotlin_typing.specs.declared.scope.KScope.{KScope}
use Rattle.kotlin_typing.specs.declared.tables.KFace.{KFace}
use Rattle.kotlin_typing.specs.declared.tables.KTables.{KTables}
use Rattle.kotlin_typing.specs.Notes.{Typed, fault}
use Rattle.kotlin_typing.specs.Scopes.{in_lambda, lambda_around}
use Rattle.kotlin_typing.specs.Written.{written}
use Rattle.kotlin_typing.specs.Operators.{given_where}
use Rattle.kotlin_typing.specs.Forms.{Branch, Catch, Choice, Form, Line, judged, kind_or, lines_notes}
use Rattle.kotlin_typing.specs.Typing as t
use Rattle.kotlin_typing.specs.Typing.{branch_by, branch_form, catch_by, catch_form, choice_by, choice_form, form, form_by, line, line_by}
use Rattle.kotlin_typing.specs.Premises.{AreTyped, HasType, IsTypedStatement}
use Rattle.kotlin_typing.proofs.LawsToCite as q
use Rattle.kotlin_typing.proofs.LawsToCite.{clean_left, clean_right, each_told, has_type, some_same}
use Rattle.kotlin_typing_facts.specs.Facts.{AreBranches, AreLabels, HaveLabels, IsCast, IsChoice, IsLambda, IsLeft, branch_labels, branch_statements, choice_labels, choice_value}

-- ---- results one behind the other

after_told : {A B : Type 0} (o : Option A) (next : A → Typed B) (b : B) → (after o next).result ≡ Some b → (a : A) × (o ≡ Some a) × ((next a).result ≡ Some b)
after_told None next b h = cc
after_told (Some a) next b h = (a, refl, h)

pair_told : {A B C : Type 0} (o : Option A) (p : Option B) (next : A × B → Typed C) (c : C) → (after (both o p) next).result ≡ Some c →
    (a : A) × (b : B) × (o ≡ Some a) × (p ≡ Some b) × ((next (a, b)).result ≡ Some c)
pair_told None p next c h = cc
pair_told (Some a) None next c h = cc
pair_told (Some a) (Some b) next c h = (a, b, refl, refl, h)

or_told : {A : Type 0} (s : KScope) (n : ℕ) (at : Position) (o : Option A) (a : A) → (kind_or s n at o).result ≡ Some a → o ≡ Some a
or_told s n at None a h = cc
or_told s n at (Some x) a h = h

where_told : (b : Bool) (i k : KKind) → given_where b i ≡ Some k → (b ≡ true) × (i ≡ k)
where_told true i k h = (refl, some_same i k h)
where_told false i k h = cc

label_told : (s : KScope) (at : Position) (b : Bool) → faults_in (if b then [] else fault s 3 at) ≡ [] → b ≡ true
label_told s at true h = refl
label_told s at false h = cc

module _ (w : KTables) (s : KScope) where
  typed_as : (x : KExpr) (f : Form) (k : KKind) → form w x ≡ f → HasType w s x k → (faults_in (f.judge s).notes ≡ []) × ((f.judge s).result ≡ Some k)
  typed_as x f k is h = (subst (λ (g : Form). faults_in (g.judge s).notes ≡ []) is h.clean, subst (λ (g : Form). (g.judge s).result ≡ Some k) is h.is)

  noted_as : (x : KStmt) (l : Line) → line w x ≡ l → IsTypedStatement w s x → faults_in (l.notes s) ≡ []
  noted_as x l is h = subst (λ (g : Line). faults_in (g.notes s) ≡ []) is h

  -- ---- alternatives

  branch_parts : (x : KBranch) → branch_form w x ≡ record { labels = map (form w) (branch_labels x); lines = map (line w) (branch_statements x) }
  unfolding form line choice_form branch_form catch_form
  branch_parts x = fold_out-KBranch Form Line Choice Branch Catch (form_by w) (line_by w) choice_by branch_by (catch_by w) x

  choice_parts : (x : KChoice) → choice_form w x ≡ record { labels = map (form w) (choice_labels x); value = form w (choice_value x) }
  unfolding form line choice_form branch_form catch_form
  choice_parts x = fold_out-KChoice Form Line Choice Branch Catch (form_by w) (line_by w) choice_by branch_by (catch_by w) x

  labels_told : (xs : List KExpr) (k : KKind) → faults_in (t.labels_notes s (map (form w) xs) k) ≡ [] → AreLabels w s xs k
  labels_told [] k h = tt
  labels_told (x ∷ xs) k h =
      let j = (form w x).judge s in
      let rest = t.labels_notes s (map (form w) xs) k in
      let here = clean_left (j.notes ++ t.label_by s (form w x).first k j.result) rest h in
      let found = has_type w s x (clean_left j.notes (t.label_by s (form w x).first k j.result) here) in (
        (
          found.0,
          found.1,
          label_told s (form w x).first (same_but_null found.0 k)
              (subst (λ o. faults_in (t.label_by s (form w x).first k o) ≡ []) found.1.is (clean_right j.notes (t.label_by s (form w x).first k j.result) here)),
        ),
        labels_told xs k (clean_right (j.notes ++ t.label_by s (form w x).first k j.result) rest h),
      )

  branch_told : (x : KBranch) (k : KKind) → faults_in (t.labels_notes s (branch_form w x).labels k ++ lines_notes (branch_form w x).lines s) ≡ [] →
      AreLabels w s (branch_labels x) k × AreTyped w s (branch_statements x)
  branch_told x k h =
      let parts = subst (λ (b : Branch). faults_in (t.labels_notes s b.labels k ++ lines_notes b.lines s) ≡ []) (branch_parts x) h in
      let labels = t.labels_notes s (map (form w) (branch_labels x)) k in
      let body = lines_notes (map (line w) (branch_statements x)) s in
      (labels_told (branch_labels x) k (clean_left labels body parts), clean_right labels body parts)

  branches_told : (xs : List KBranch) (k : KKind) → faults_in (t.branches_notes s (map (branch_form w) xs) (Some k)) ≡ [] → AreBranches w s xs k
  branches_told [] k h = tt
  branches_told (x ∷ xs) k h =
      let one = t.labels_notes s (branch_form w x).labels k ++ lines_notes (branch_form w x).lines s in
      let rest = t.branches_notes s (map (branch_form w) xs) (Some k) in
      (branch_told x k (clean_left one rest h), branches_told xs k (clean_right one rest h))

  pub when_told : (at : KHeadAt) (x : KExpr) (curly : Brackets) (branches : List KBranch) (else_at : KElseAt) (other : Brackets) (ys : List KStmt) →
      IsTypedStatement w s (st.When at x curly branches else_at other ys) → (k : KKind) × HasType w s x k × AreBranches w s branches k × AreTyped w s ys
  when_told at x curly branches else_at other ys h =
      let all = noted_as (st.When at x curly branches else_at other ys) _ (q.on_When w at x curly branches else_at other ys) h in
      let j = (form w x).judge s in
      let middle = λ (o : Option KKind). t.branches_notes s (map (branch_form w) branches) o in
      let last = lines_notes (map (line w) ys) s in
      let found = has_type w s x (clean_left j.notes (middle j.result ++ last) all) in
      let rest = clean_right j.notes (middle j.result ++ last) all in (
        found.0,
        found.1,
        branches_told branches found.0 (subst (λ o. faults_in (middle o) ≡ []) found.1.is (clean_left (middle j.result) last rest)),
        clean_right (middle j.result) last rest,
      )

  -- ---- a `when` as a value

  choices_told : (xs : List KChoice) (k : KKind) → faults_in (t.choices_notes s (map (choice_form w) xs) k) ≡ [] → HaveLabels w s xs k
  choices_told [] k h = tt
  choices_told (x ∷ xs) k h =
      let one = t.labels_notes s (choice_form w x).labels k in
      let rest = t.choices_notes s (map (choice_form w) xs) k in (
        labels_told (choice_labels x) k (subst (λ (c : Choice). faults_in (t.labels_notes s c.labels k) ≡ []) (choice_parts x) (clean_left one rest h)),
        choices_told xs k (clean_right one rest h),
      )

  values_are : (xs : List KChoice) (y : KExpr) → t.choice_values (map (choice_form w) xs) ++ form w y ∷ [] ≡ map (form w) (map choice_value xs ++ y ∷ [])
  values_are [] y = refl
  values_are (x ∷ xs) y =
      ap (λ (c : Choice). c.value ∷ (t.choice_values (map (choice_form w) xs) ++ form w y ∷ [])) (choice_parts x)
      ∙ ap (λ z. form w (choice_value x) ∷ z) (values_are xs y)

  choice_told : (at : Position) (choices : List KChoice) (y x : KExpr) (i k : KKind) → HasType w s x i →
      faults_in (t.when_value w s at (map (choice_form w) choices) (form w y) i).notes ≡ [] → (t.when_value w s at (map (choice_form w) choices) (form w y) i).result ≡ Some k → IsChoice w s x choices y k
  choice_told at choices y x i k has h gives =
      let noted = t.choices_notes s (map (choice_form w) choices) i in
      let next = λ (ks : List KKind). kind_or s 3 at (t.all_either w ks) in
      let notes = subst (λ (fs : List Form). faults_in (each (map (judged s) fs) >>= next).notes ≡ []) (values_are choices y)
      (clean_right noted (each (map (judged s) (t.choice_values (map (choice_form w) choices) ++ form w y ∷ [])) >>= next).notes h) in
      let result = subst (λ (fs : List Form). (each (map (judged s) fs) >>= next).result ≡ Some k) (values_are choices y) gives in
      let j = each (map (judged s) (map (form w) (map choice_value choices ++ y ∷ []))) in
      let args = each_told w s (map choice_value choices ++ y ∷ []) (clean_left j.notes (after j.result next).notes notes) in
      record {
        of = i;
        subject_is = has;
        labels = choices_told choices i (clean_left noted _ h);
        kinds = args.0;
        values = args.2;
        all = or_told s 3 at (t.all_either w args.0) k (subst (λ o. (after o next).result ≡ Some k) args.1 result);
      }

  pub when_value_told : (at : KHeadAt) (x : KExpr) (curly : Brackets) (choices : List KChoice) (else_at : KElseAt) (y : KExpr) (k : KKind) →
      HasType w s (e.WhenValue at x curly choices else_at y) k → IsChoice w s x choices y k
  when_value_told at x curly choices else_at y k h =
      let all = typed_as (e.WhenValue at x curly choices else_at y) _ k (q.on_WhenValue w at x curly choices else_at y) h in
      let j = (form w x).judge s in
      let next = t.when_value w s at.word (map (choice_form w) choices) (form w y) in
      let found = has_type w s x (clean_left j.notes (after j.result next).notes all.0) in
      choice_told at.word choices y x found.0 k found.1
      (subst (λ o. faults_in (after o next).notes ≡ []) found.1.is (clean_right j.notes (after j.result next).notes all.0))
      (subst (λ o. (after o next).result ≡ Some k) found.1.is all.1)

  -- ---- lambdas

  rows_told : (at : Position) (name : List ℕ) (names : List KName) (xs : List Line) (j r k : KKind) (o : Option (List KLocal)) →
      faults_in (t.lambda_with s at name names xs j r o).notes ≡ [] → (t.lambda_with s at name names xs j r o).result ≡ Some k →
      (rows : List KLocal) × (o ≡ Some rows) × (faults_in (lines_notes xs (in_lambda name rows (t.returned r) s)) ≡ []) × (not_null j ≡ k)
  rows_told at name names xs j r k None h i = cc
  rows_told at name names xs j r k (Some rows) h i =
      (rows, refl, clean_right (t.names_notes s names) (lines_notes xs (in_lambda name rows (t.returned r) s)) h, some_same (not_null j) k i)

  face_told : (type : KType) (names : List KName) (xs : List KStmt) (j k : KKind) (o : Option KFace) → (written w type s.path).result ≡ Some j → t.face_of w j ≡ o →
      faults_in (t.lambda_by s (t.type_place type).0 (t.type_place type).1 names (map (line w) xs) j o).notes ≡ [] →
      (t.lambda_by s (t.type_place type).0 (t.type_place type).1 names (map (line w) xs) j o).result ≡ Some k → IsLambda w s type names xs k
  face_told type names xs j k None means finds h gives = cc
  face_told type names xs j k (Some f) means finds h gives =
      let told = rows_told (t.type_place type).0 (t.type_place type).1 names (map (line w) xs) j f.result k (t.lambda_rows names f.params) h gives in
      record { kind = j; meant = means; face = f; is = finds; rows = told.0; named = told.1; body = told.2; result = told.3 }

  pub lambda_told : (type : KType) (curly : Brackets) (names : KLambdaNames) (xs : List KStmt) (k : KKind) → HasType w s (e.Lambda type curly names xs) k → IsLambda w s type names.items xs k
  lambda_told type curly names xs k h =
      let all = typed_as (e.Lambda type curly names xs) _ k (q.on_Lambda w type curly names xs) h in
      let j = written w type s.path in
      let next = λ (i : KKind). t.lambda_by s (t.type_place type).0 (t.type_place type).1 names.items (map (line w) xs) i (t.face_of w i) in
      let found = after_told j.result next k all.1 in
      face_told type names.items xs found.0 k (t.face_of w found.0) found.1 refl
      (subst (λ o. faults_in (after o next).notes ≡ []) found.1 (clean_right j.notes (after j.result next).notes all.0))
      found.2

  -- ---- casts and tests

  -- a value, and a type that is written
  value_told : (x : KExpr) (type : KType) (next : KKind × KKind → Typed KKind) (k : KKind) → faults_in (pair ((form w x).judge s) (written w type s.path) >>= next).notes ≡ [] →
      (pair ((form w x).judge s) (written w type s.path) >>= next).result ≡ Some k →
      (i : KKind) × (j : KKind) × HasType w s x i × ((written w type s.path).result ≡ Some j) × ((next (i, j)).result ≡ Some k)
  value_told x type next k h gives =
      let a = (form w x).judge s in
      let b = written w type s.path in
      let found = pair_told a.result b.result next k gives in
      (found.0, found.1, record { clean = clean_left a.notes b.notes (clean_left (pair a b).notes (after (pair a b).result next).notes h); is = found.2 }, found.3, found.4)

  pub cast_told : (x : KExpr) (at : Position) (type : KType) (k : KKind) → HasType w s (e.As x at type) k → IsCast w s x type k
  cast_told x at type k h =
      let all = typed_as (e.As x at type) _ k (q.on_As w x at type) h in
      let told = value_told x type (t.cast s (form w x).first) k all.0 all.1 in
      let two = where_told (t.is_null_taken (told.0, told.1)) told.1 k (or_told s 3 (form w x).first (given_where (t.is_null_taken (told.0, told.1)) told.1) k told.4) in
      record {
        of = told.0;
        value = told.2;
        meant = told.3 ∙ ap (λ z. Some z) two.1;
        taken = subst (λ z. t.is_null_taken (told.0, z) ≡ true) two.1 two.0;
      }

  pub test_told : (x : KExpr) (at : Position) (type : KType) (k : KKind) → HasType w s (e.Is x at type) k →
      (i : KKind) × (j : KKind) × HasType w s x i × ((written w type s.path).result ≡ Some j) × (boolean ≡ k)
  test_told x at type k h =
      let all = typed_as (e.Is x at type) _ k (q.on_Is w x at type) h in
      let told = value_told x type (λ ks. record { result = Some boolean; notes = [] }) k all.0 all.1 in
      (told.0, told.1, told.2, told.3, some_same boolean k told.4)

  -- ---- `return` without a value

  left_by : (at : Position) (b : Bool) (r : KReturns) → faults_in (if b then t.return_by s at r else fault s 13 at) ≡ [] → (b ≡ true) × (r ≡ returns.NoValue)
  left_by at true returns.Nowhere h = cc
  left_by at true returns.NoValue h = (refl, refl)
  left_by at true (returns.Value k) h = cc
  left_by at false r h = cc

  left_where : (at : Position) (target : Option (List ℕ)) (b : Bool) → t.leaves_lock s target ≡ b →
      faults_in (if b then [] else if t.returns_from (lambda_around s) target then t.return_by s at s.returns else fault s 13 at) ≡ [] → IsLeft w s target
  left_where at target true is h = inl is
  left_where at target false is h = inr (left_by at (t.returns_from (lambda_around s) target) s.returns h)

  pub return_told : (at : Position) (target : Option KTarget) → IsTypedStatement w s (st.Return at target) → IsLeft w s (t.target_of target)
  return_told at target h = left_where at (t.target_of target) (t.leaves_lock s (t.target_of target)) refl (noted_as (st.Return at target) _ (q.on_Return w at target) h)
