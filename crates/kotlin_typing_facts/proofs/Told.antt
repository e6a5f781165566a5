-- The parts of what has no fault, construct by construct.
use Rattle.std.proofs.Common.{◌≡◌, ℕ, Bool, true, false, List, [], ◌∷◌, ◌++◌, map, Option, Some, None, refl, sym, ap, subst, ◌∙◌}
use Rattle.std.specs.Prelude.{if◌then◌else◌}
use Rattle.j2k_base.specs.declared.places.Fault.{Fault}
use Rattle.judged.specs.Notes.{faults_in}
use Rattle.judged.proofs.LawsToCite.{faults_in-append}
use Rattle.judged.specs.Judged.{after, both, pair, ◌>>=◌}
use Rattle.kotlin_tree.specs.declared.places.Position.{Position}
use Rattle.kotlin_tree.specs.declared.places.Brackets.{Brackets}
use Rattle.kotlin_tree.specs.declared.types.KName.{KName}
use Rattle.kotlin_tree.specs.declared.types.KTypeArguments.{KTypeArguments}
use Rattle.kotlin_tree.specs.declared.expressions.KHeadAt.{KHeadAt}
use Rattle.kotlin_tree.specs.declared.expressions.KSuperAt.{KSuperAt}
use Rattle.kotlin_tree.specs.declared.expressions.KPostfix.TheVariants as postfix
use Rattle.kotlin_tree.specs.declared.expressions.KBinary.{KBinary}
use Rattle.kotlin_tree.specs.declared.expressions.KExpr.{KExpr}
use Rattle.kotlin_tree.specs.declared.expressions.KExpr.TheVariants as e
use Rattle.kotlin_tree.specs.declared.statements.KCatch.{KCatch}
use Rattle.kotlin_tree.specs.declared.statements.KFinallyAt.{KFinallyAt}
use Rattle.kotlin_tree.specs.declared.statements.KLabel.{KLabel}
use Rattle.kotlin_tree.specs.declared.statements.KTarget.{KTarget}
use Rattle.kotlin_tree.specs.declared.statements.KStmt.{KStmt}
use Rattle.kotlin_tree.specs.declared.statements.KStmt.TheVariants as st
use Rattle.kotlin_types.specs.declared.kinds.KClassRef.{KClassRef}
use Rattle.kotlin_types.specs.declared.kinds.KKind.{KKind}
use Rattle.kotlin_types.specs.Types.{boolean, is_sure, not_null}
use Rattle.kotlin_typing.specs.declared.scope.KReturns.{KReturns}
use Rattle.kotlin_typing.specs.declared.scope.KReturns.TheVariants as returns
use Rattle.kotlin_typing.specs.declared.scope.KScope.{KScope}
use Rattle.kotlin_typing.specs.declared.tables.KCallable.{KCallable}
use Rattle.kotlin_typing.specs.declared.tables.KTables.{KTables}
use Rattle.kotlin_typing.specs.Notes.{Notes, Typed, fault, faulty}
use Rattle.kotlin_typing.specs.Scopes.{has_this, in_loop, in_run, lambda_around, with_parameter}
use Rattle.kotlin_typing.specs.Written.{Path, arguments_written, class_at, fits_class}
use Rattle.kotlin_typing.specs.Members.{callables_above, callables_behind, chosen, constructors_of, is_applicable, is_chosen, is_most_specific, none_applies}
use Rattle.kotlin_typing.specs.Operators.{binary_kind, either_kind}
use Rattle.kotlin_typing.specs.Forms.{Form, Line, Stored, as_wanted, kind_or, lines_notes, twice_named}
use Rattle.kotlin_typing.specs.Typing as t
use Rattle.kotlin_typing.specs.Typing.{catch_form, form, line}
use Rattle.kotlin_typing.specs.Premises.{AllHave, AreTyped, HasType, IsPlaced, IsTypedStatement}
use Rattle.kotlin_typing.proofs.LawsToCite as q
use Rattle.kotlin_typing.proofs.LawsToCite.{and_first, clean_left, clean_right, each_told, find_tells, has_type, placed, some_same}
use Rattle.kotlin_typing_facts.specs.Facts.{AreCaught, IsChosen, IsGiven, IsMade, IsWalked, int}

-- ---- judgements one behind the other

or_told : {A : Type 0} (s : KScope) (n : ℕ) (at : Position) (o : Option A) (a : A) → (kind_or s n at o).result ≡ Some a → o ≡ Some a
or_told s n at None a h = cc
or_told s n at (Some x) a h = h

then_some : {A B : Type 0} (o : Option A) (next : A → Typed B) (a : A) (b : B) → o ≡ Some a → (after o next).result ≡ Some b → (next a).result ≡ Some b
then_some o next a b is h = subst (λ z. (after z next).result ≡ Some b) is h

if_true : {A : Type 0} (b : Bool) (j : Typed A) (s : KScope) (n : ℕ) (at : Position) (a : A) → (if b then j else faulty s n at).result ≡ Some a → (b ≡ true) × (j.result ≡ Some a)
if_true true j s n at a h = (refl, h)
if_true false j s n at a h = cc

if_false : {A : Type 0} (b : Bool) (j : Typed A) (s : KScope) (n : ℕ) (at : Position) (a : A) → (if b then faulty s n at else j).result ≡ Some a → (b ≡ false) × (j.result ≡ Some a)
if_false true j s n at a h = cc
if_false false j s n at a h = (refl, h)

picked_told : (s : KScope) (at : Position) (b : Bool) (o : Option KCallable) (k : KKind) → (t.picked s at b o).result ≡ Some k → (m : KCallable) × (o ≡ Some m) × (m.result ≡ k)
picked_told s at b (Some m) k h = (m, refl, some_same m.result k h)
picked_told s at true None k h = cc
picked_told s at false None k h = cc

module _ (w : KTables) (s : KScope) where
  -- the notes and the type of a form that is another one
  typed_as : (x : KExpr) (f : Form) (k : KKind) → form w x ≡ f → HasType w s x k → (faults_in (f.judge s).notes ≡ []) × ((f.judge s).result ≡ Some k)
  typed_as x f k is h = (subst (λ (g : Form). faults_in (g.judge s).notes ≡ []) is h.clean, subst (λ (g : Form). (g.judge s).result ≡ Some k) is h.is)

  noted_as : (x : KStmt) (l : Line) → line w x ≡ l → IsTypedStatement w s x → faults_in (l.notes s) ≡ []
  noted_as x l is h = subst (λ (g : Line). faults_in (g.notes s) ≡ []) is h

  -- ---- calls

  chosen_of : (at : Position) (found : List KCallable) (xs : List KExpr) (ks : List KKind) (k : KKind) → AllHave w s xs ks → (t.one_of w s at ks found).result ≡ Some k → IsChosen w s found xs k
  chosen_of at found xs ks k args h =
      let told = picked_told s at (none_applies w ks found) (chosen w ks found) k h in
      record {
        kinds = ks;
        arguments = args;
        callable = told.0;
        is = told.1;
        below = and_first (is_applicable w ks told.0) (is_most_specific w ks found told.0) (find_tells (is_chosen w ks found) found told.0 told.1);
        result = told.2;
      }

  called_of : (at : Position) (found : List KCallable) (xs : List KExpr) (ks : List KKind) (k : KKind) → AllHave w s xs ks → (t.called w s at ks found).result ≡ Some k → IsChosen w s found xs k
  called_of at [] xs ks k args h = cc
  called_of at (m ∷ more) xs ks k args h = chosen_of at (m ∷ more) xs ks k args h

  made_of : (at : Position) (c : KClassRef) (ts : List KKind) (xs : List KExpr) (ks : List KKind) (k : KKind) → AllHave w s xs ks → (t.constructed w s at c ts ks).result ≡ Some k → IsMade w s c ts xs k
  made_of at c ts xs ks k args h =
      let concrete = if_false (t.is_abstract w c) (if fits_class w c ts then t.one_of w s at ks (constructors_of w s c ts) else faulty s 3 at) s 8 at k h in
      let bounded = if_true (fits_class w c ts) (t.one_of w s at ks (constructors_of w s c ts)) s 3 at k concrete.1 in
      record { concrete = concrete.0; bounded = bounded.0; made_by = chosen_of at (constructors_of w s c ts) xs ks k args bounded.1 }

  -- what is called alone, its arguments first
  plain_of : (at : Position) (name : List ℕ) (xs : List KExpr) (ts : List KKind) (k : KKind) → t.elements_of name ts ≡ None → t.sized name ts ≡ None →
      faults_in (t.call w s at name (map (form w) xs) ts).notes ≡ [] → (t.call w s at name (map (form w) xs) ts).result ≡ Some k →
      (ks : List KKind) × AllHave w s xs ks × ((t.plain_call w s at name ts ks (class_at w (name ∷ []))).result ≡ Some k)
  plain_of at name xs ts k none unsized clean gives =
      let j = t.arguments s (map (form w) xs) in
      let next = λ (args : List KKind). t.sized_call w s at name ts args (t.sized name ts) in
      let notes = subst (λ o. faults_in (t.call_with w s at name (map (form w) xs) ts o).notes ≡ []) none clean in
      let result = subst (λ o. (t.call_with w s at name (map (form w) xs) ts o).result ≡ Some k) none gives in
      let args = each_told w s xs (clean_left j.notes (after j.result next).notes notes) in
      (args.0, args.2, subst (λ o. (t.sized_call w s at name ts args.0 o).result ≡ Some k) unsized (then_some j.result next args.0 k args.1 result))

  pub made_told : (n : KName) (types : Option KTypeArguments) (round : Brackets) (xs : List KExpr) (commas : List Position) (ts : List KKind) (c : KClassRef) (k : KKind) →
      (arguments_written w s.path types).result ≡ Some ts → t.elements_of n.name ts ≡ None → t.sized n.name ts ≡ None → class_at w (n.name ∷ []) ≡ Some c →
      HasType w s (e.Call n types round xs commas) k → IsMade w s c ts xs k
  made_told n types round xs commas ts c k written none unsized class h =
      let j = arguments_written w s.path types in
      let next = t.call w s n.at n.name (map (form w) xs) in
      let both = typed_as (e.Call n types round xs commas) _ k (q.on_Call w n types round xs commas) h in
      let plain = plain_of n.at n.name xs ts k none unsized
      (subst (λ o. faults_in (after o next).notes ≡ []) written (clean_right j.notes (after j.result next).notes both.0))
      (then_some j.result next ts k written both.1) in
      made_of n.at c ts xs plain.0 k plain.1 (subst (λ o. (t.plain_call w s n.at n.name ts plain.0 o).result ≡ Some k) class plain.2)

  pub alone_told : (n : KName) (round : Brackets) (xs : List KExpr) (commas : List Position) (k : KKind) →
      t.elements_of n.name [] ≡ None → t.sized n.name [] ≡ None → class_at w (n.name ∷ []) ≡ None →
      HasType w s (e.Call n None round xs commas) k → IsChosen w s (callables_behind w s [] n.name) xs k
  alone_told n round xs commas k none unsized class h =
      let both = typed_as (e.Call n None round xs commas) _ k (q.on_Call w n None round xs commas) h in
      let plain = plain_of n.at n.name xs [] k none unsized both.0 both.1 in
      called_of n.at (callables_behind w s [] n.name) xs plain.0 k plain.1 (subst (λ o. (t.plain_call w s n.at n.name [] plain.0 o).result ≡ Some k) class plain.2)

  pub behind_told : (x : KExpr) (dot : Position) (n : KName) (types : Option KTypeArguments) (round : Brackets) (xs : List KExpr) (commas : List Position) (path : Path) (k : KKind) →
      t.static w s (form w x).path ≡ Some path → HasType w s (e.Method x dot n types round xs commas) k → IsChosen w s (callables_behind w s path n.name) xs k
  behind_told x dot n types round xs commas path k is h =
      let both = typed_as (e.Method x dot n types round xs commas) _ k (q.on_Method w x dot n types round xs commas) h in
      let j = t.arguments s (map (form w) xs) in
      let next = λ (args : List KKind). t.called w s (form w x).first args (callables_behind w s path n.name) in
      let notes = subst (λ o. faults_in (t.method_at w s (form w x) n.name (map (form w) xs) o).notes ≡ []) is
      (clean_right (t.untyped s (form w x).first types) (t.method_at w s (form w x) n.name (map (form w) xs) (t.static w s (form w x).path)).notes both.0) in
      let gives = subst (λ o. (t.method_at w s (form w x) n.name (map (form w) xs) o).result ≡ Some k) is both.1 in
      let args = each_told w s xs (clean_left j.notes (after j.result next).notes notes) in
      called_of (form w x).first (callables_behind w s path n.name) xs args.0 k args.2 (then_some j.result next args.0 k args.1 gives)

  pub above_told : (at : KSuperAt) (n : KName) (round : Brackets) (xs : List KExpr) (commas : List Position) (k : KKind) →
      HasType w s (e.SuperCall at n round xs commas) k → IsChosen w s (callables_above w s n.name (t.this_type w s)) xs k
  above_told at n round xs commas k h =
      let both = typed_as (e.SuperCall at n round xs commas) _ k (q.on_SuperCall w at n round xs commas) h in
      let j = t.arguments s (map (form w) xs) in
      let next = t.super_by w s at.word n.name in
      let args = each_told w s xs (clean_left j.notes (after j.result next).notes both.0) in
      called_of at.word (callables_above w s n.name (t.this_type w s)) xs args.0 k args.2
      (if_true (has_this s.part) (t.called w s at.word args.0 (callables_above w s n.name (t.this_type w s))) s 1 at.word k (then_some j.result next args.0 k args.1 both.1)).1

  -- ---- operators

  pub not_null_told : (x : KExpr) (at : Position) (k : KKind) → HasType w s (e.Postfix x postfix.NotNull at) k → (j : KKind) × HasType w s x j × (not_null j ≡ k)
  not_null_told x at k h =
      let both = typed_as (e.Postfix x postfix.NotNull at) _ k (q.on_Postfix w x postfix.NotNull at) h in
      let j = (form w x).judge s in
      let next : KKind → Typed KKind = λ i. record { result = Some (not_null i); notes = [] } in
      let found = has_type w s x (clean_left j.notes (after j.result next).notes both.0) in
      (found.0, found.1, some_same (not_null found.0) k (then_some j.result next found.0 k found.1.is both.1))

  -- two parts, and what both give
  two_told : (r : KScope) (x y : KExpr) (at : Position) (f : KKind → KKind → Option KKind) (k : KKind) →
      faults_in (pair ((form w x).judge s) ((form w y).judge r) >>= (λ ks. kind_or s 3 at (f ks.0 ks.1))).notes ≡ [] →
      (pair ((form w x).judge s) ((form w y).judge r) >>= (λ ks. kind_or s 3 at (f ks.0 ks.1))).result ≡ Some k →
      (i : KKind) × (j : KKind) × HasType w s x i × HasType w r y j × (f i j ≡ Some k)
  two_told r x y at f k clean gives =
      let a = (form w x).judge s in
      let b = (form w y).judge r in
      let next = λ (ks : KKind × KKind). kind_or s 3 at (f ks.0 ks.1) in
      let parts = clean_left (pair a b).notes (after (pair a b).result next).notes clean in
      let left = has_type w s x (clean_left a.notes b.notes parts) in
      let right = has_type w r y (clean_right a.notes b.notes parts) in (
        left.0,
        right.0,
        left.1,
        right.1,
        or_told s 3 at (f left.0 right.0) k
            (subst (λ o. (after (both (Some left.0) o) next).result ≡ Some k) right.1.is (subst (λ o. (after (both o b.result) next).result ≡ Some k) left.1.is gives)),
      )

  pub binary_told : (x y : KExpr) (o : KBinary) (at : Position) (k : KKind) → HasType w s (e.Binary x o at y) k →
      (i : KKind) × (j : KKind) × HasType w s x i × HasType w (t.past_left o s) y j × (binary_kind o i j ≡ Some k)
  binary_told x y o at k h =
      let both = typed_as (e.Binary x o at y) _ k (q.on_Binary w x o at y) h in
      two_told (t.past_left o s) x y (form w x).first (binary_kind o) k both.0 both.1

  pub either_told : (at : KHeadAt) (c x : KExpr) (else_at : Position) (y : KExpr) (k : KKind) → HasType w s (e.IfValue at c x else_at y) k →
      IsPlaced w s c boolean × ((i : KKind) × (j : KKind) × HasType w s x i × HasType w s y j × (either_kind w.classes i j ≡ Some k))
  either_told at c x else_at y k h =
      let all = typed_as (e.IfValue at c x else_at y) _ k (q.on_IfValue w at c x else_at y) h in
      let two = pair ((form w x).judge s) ((form w y).judge s) >>= (λ ks. kind_or s 3 at.word (either_kind w.classes ks.0 ks.1)) in (
        placed w s c boolean (clean_left (as_wanted w (form w c) s boolean) two.notes all.0),
        two_told s x y at.word (either_kind w.classes) k (clean_right (as_wanted w (form w c) s boolean) two.notes all.0) all.1,
      )

  -- ---- loops

  walk_by_told : (at : Position) (k : KKind) (b : Bool) (o : Option KKind) → faults_in (if b then kind_or s 3 at o else faulty s 4 at).notes ≡ [] →
      (b ≡ true) × ((x : KKind) × (o ≡ Some x) × ((if b then kind_or s 3 at o else faulty s 4 at).result ≡ Some x))
  walk_by_told at k true None h = cc
  walk_by_told at k true (Some x) h = (refl, (x, refl, refl))
  walk_by_told at k false o h = cc

  walk_told : (x : KExpr) → faults_in (t.walk w s (form w x)).notes ≡ [] → (k : KKind) × IsWalked w s x k × ((t.walk w s (form w x)).result ≡ Some k)
  walk_told x h =
      let j = (form w x).judge s in
      let next = t.walk_by w s (form w x).first in
      let found = has_type w s x (clean_left j.notes (after j.result next).notes h) in
      let told = walk_by_told (form w x).first found.0 (is_sure found.0) (t.walked w found.0)
      (subst (λ o. faults_in (after o next).notes ≡ []) found.1.is (clean_right j.notes (after j.result next).notes h)) in (
        told.1.0,
        record { value = record { kind = found.0; typed = found.1; sure = told.0 }; is = told.1.1 },
        subst (λ o. (after o next).result ≡ Some told.1.0) (sym found.1.is) told.1.2,
      )

  pub for_told : (label : Option KLabel) (at : KHeadAt) (n : KName) (in_at : Position) (x : KExpr) (curly : Brackets) (xs : List KStmt) → IsTypedStatement w s (st.For label at n in_at x curly xs) →
      (k : KKind) × IsWalked w s x k × AreTyped w (with_parameter n.name (Some k) (in_loop (t.label_of label) s)) xs
  for_told label at n in_at x curly xs h =
      let all = noted_as (st.For label at n in_at x curly xs) _ (q.on_For w label at n in_at x curly xs) h in
      let body = λ (o : Option KKind). lines_notes (map (line w) xs) (with_parameter n.name o (in_loop (t.label_of label) s)) in
      let head = t.walk w s (form w x) in
      let told = walk_told x (clean_left head.notes (twice_named s n.at n.name ++ body head.result) all) in (
        told.0,
        told.1,
        subst (λ o. faults_in (body o) ≡ []) told.2
            (clean_right (twice_named s n.at n.name) (body head.result) (clean_right head.notes (twice_named s n.at n.name ++ body head.result) all)),
      )

  pub range_told : (label : Option KLabel) (at : KHeadAt) (n : KName) (in_at : Position) (x : KExpr) (until_at : Position) (y : KExpr) (curly : Brackets) (xs : List KStmt) →
      IsTypedStatement w s (st.ForRange label at n in_at x until_at y curly xs) → IsPlaced w s x int × IsPlaced w s y int × AreTyped w (with_parameter n.name (Some int) (in_loop (t.label_of label) s)) xs
  range_told label at n in_at x until_at y curly xs h =
      let all = noted_as (st.ForRange label at n in_at x until_at y curly xs) _ (q.on_ForRange w label at n in_at x until_at y curly xs) h in
      let first = as_wanted w (form w x) s int in
      let end = as_wanted w (form w y) s int in
      let body = lines_notes (map (line w) xs) (with_parameter n.name (Some int) (in_loop (t.label_of label) s)) in
      let rest = clean_right first (end ++ (twice_named s n.at n.name ++ body)) all in (
        placed w s x int (clean_left first (end ++ (twice_named s n.at n.name ++ body)) all),
        placed w s y int (clean_left end (twice_named s n.at n.name ++ body) rest),
        clean_right (twice_named s n.at n.name) body (clean_right end (twice_named s n.at n.name ++ body) rest),
      )

  pub do_told : (label : Option KLabel) (do_at : Position) (curly : Brackets) (xs : List KStmt) (at : KHeadAt) (c : KExpr) → IsTypedStatement w s (st.DoWhile label do_at curly xs at c) →
      AreTyped w (in_loop (t.label_of label) s) xs × IsPlaced w s c boolean
  do_told label do_at curly xs at c h =
      let all = noted_as (st.DoWhile label do_at curly xs at c) _ (q.on_DoWhile w label do_at curly xs at c) h in
      let body = lines_notes (map (line w) xs) (in_loop (t.label_of label) s) in
      (clean_left body (as_wanted w (form w c) s boolean) all, placed w s c boolean (clean_right body (as_wanted w (form w c) s boolean) all))

  -- ---- blocks

  pub else_told : (at : KHeadAt) (c : KExpr) (curly : Brackets) (xs : List KStmt) (else_at : Position) (other : Brackets) (ys : List KStmt) → IsTypedStatement w s (st.IfElse at c curly xs else_at other ys) →
      IsPlaced w s c boolean × AreTyped w s xs × AreTyped w s ys
  else_told at c curly xs else_at other ys h =
      let all = noted_as (st.IfElse at c curly xs else_at other ys) _ (q.on_IfElse w at c curly xs else_at other ys) h in
      let test = as_wanted w (form w c) s boolean in
      let one = lines_notes (map (line w) xs) s in
      let two = lines_notes (map (line w) ys) s in
      let rest = clean_right test (one ++ two) all in
      (placed w s c boolean (clean_left test (one ++ two) all), clean_left one two rest, clean_right one two rest)

  pub else_if_told : (at : KHeadAt) (c : KExpr) (curly : Brackets) (xs : List KStmt) (else_at : Position) (y : KStmt) → IsTypedStatement w s (st.IfElseIf at c curly xs else_at y) →
      IsPlaced w s c boolean × AreTyped w s xs × IsTypedStatement w s y
  else_if_told at c curly xs else_at y h =
      let all = noted_as (st.IfElseIf at c curly xs else_at y) _ (q.on_IfElseIf w at c curly xs else_at y) h in
      let test = as_wanted w (form w c) s boolean in
      let one = lines_notes (map (line w) xs) s in
      let two = (line w y).notes s in
      let rest = clean_right test (one ++ two) all in
      (placed w s c boolean (clean_left test (one ++ two) all), clean_left one two rest, clean_right one two rest)

  caught_told : (xs : List KCatch) → faults_in (t.catches_notes s (map (catch_form w) xs)) ≡ [] → AreCaught w s xs
  caught_told [] h = tt
  caught_told (x ∷ xs) h =
      let rest = t.catches_notes s (map (catch_form w) xs) in
      (clean_left ((catch_form w x).notes s) rest h, caught_told xs (clean_right ((catch_form w x).notes s) rest h))

  pub try_told : (at : Position) (curly : Brackets) (xs : List KStmt) (catches : List KCatch) → IsTypedStatement w s (st.Try at curly xs catches) → AreTyped w s xs × AreCaught w s catches
  try_told at curly xs catches h =
      let all = noted_as (st.Try at curly xs catches) _ (q.on_Try w at curly xs catches) h in
      let body = lines_notes (map (line w) xs) s in
      (clean_left body (t.catches_notes s (map (catch_form w) catches)) all, caught_told catches (clean_right body (t.catches_notes s (map (catch_form w) catches)) all))

  pub finally_told : (at : Position) (curly : Brackets) (xs : List KStmt) (catches : List KCatch) (last_at : KFinallyAt) (ys : List KStmt) → IsTypedStatement w s (st.TryFinally at curly xs catches last_at ys) →
      AreTyped w s xs × AreCaught w s catches × AreTyped w s ys
  finally_told at curly xs catches last_at ys h =
      let all = noted_as (st.TryFinally at curly xs catches last_at ys) _ (q.on_TryFinally w at curly xs catches last_at ys) h in
      let body = lines_notes (map (line w) xs) s in
      let caught = t.catches_notes s (map (catch_form w) catches) in
      let last = lines_notes (map (line w) ys) s in
      let rest = clean_right body (caught ++ last) all in
      (clean_left body (caught ++ last) all, caught_told catches (clean_left caught last rest), clean_right caught last rest)

  pub run_told : (at : Position) (curly : Brackets) (xs : List KStmt) (k : KKind) → HasType w s (e.Run at curly xs) k → AreTyped w (in_run s) xs
  run_told at curly xs k h = (typed_as (e.Run at curly xs) _ k (q.on_Run w at curly xs) h).0

  -- ---- what `return` gives

  is_noted : {A : Type 0} (n : ℕ) (at : Position) → faults_in (fault s n at) ≡ [] → A
  is_noted n at h = cc

  never_noted : {A : Type 0} (xs : Notes) (n : ℕ) (at : Position) → faults_in (xs ++ fault s n at) ≡ [] → A
  never_noted xs n at h = is_noted n at (clean_right xs (fault s n at) h)

  given_by : (at : Position) (x : KExpr) (target : Option (List ℕ)) (r : KReturns) → s.returns ≡ r → t.returns_from (lambda_around s) target ≡ true →
      faults_in (t.give_by w s at (form w x) r) ≡ [] → IsGiven w s target x
  given_by at x target (returns.Value k) is leaves h = record { leaves = leaves; want = k; wanted = is; value = placed w s x k h }
  given_by at x target returns.Nowhere is leaves h = never_noted ((form w x).judge s).notes 13 at h
  given_by at x target returns.NoValue is leaves h = never_noted ((form w x).judge s).notes 3 at h

  given_where : (at : Position) (x : KExpr) (target : Option (List ℕ)) (b : Bool) → t.returns_from (lambda_around s) target ≡ b →
      faults_in (if b then t.give_by w s at (form w x) s.returns else (((form w x).judge s).notes ++ fault s 13 at)) ≡ [] → IsGiven w s target x
  given_where at x target true is h = given_by at x target s.returns refl is h
  given_where at x target false is h = never_noted ((form w x).judge s).notes 13 at h

  pub give_told : (at : Position) (target : Option KTarget) (x : KExpr) → IsTypedStatement w s (st.Give at target x) → IsGiven w s (t.target_of target) x
  give_told at target x h =
      given_where at x (t.target_of target) (t.returns_from (lambda_around s) (t.target_of target)) refl
      (noted_as (st.Give at target x) _ (q.on_Give w at target x) h)

  pub same_told : (x : KExpr) (k : KKind) → HasType w s x k → ((form w x).judge s).result ≡ Some k
  same_told x k h = h.is

  -- ---- null

  null_step : (at : Position) (ns : Notes) (b : Bool) (o : Option Stored) → b ≡ false → faults_in ns ≡ [] →
      faults_in ((ns ++ (if b then kind_or s 1 at o else faulty s 4 at).notes) ++ (after (if b then kind_or s 1 at o else faulty s 4 at).result t.kind_of).notes) ≡ faults_in (fault s 4 at)
  null_step at ns true o e h = cc
  null_step at ns false o e h =
      faults_in-append (ns ++ fault s 4 at) []
      ∙ (ap (λ (z : List Fault). z ++ []) (faults_in-append ns (fault s 4 at)) ∙ ap (λ (z : List Fault). (z ++ faults_in (fault s 4 at)) ++ []) h)

  pub null_told : (x : KExpr) (dot : Position) (n : KName) (k : KKind) → t.static w s (form w x).path ≡ None → HasType w s x k → is_sure k ≡ false →
      faults_in ((form w (e.Field x dot n)).judge s).notes ≡ faults_in (fault s 4 (form w x).first)
  null_told x dot n k none h unsure =
      let j = (form w x).judge s in
      let pin = t.property_in w s (form w x).first (form w x).is_this n.name in
      ap (λ (f : Form). faults_in (f.judge s).notes) (q.on_Field w x dot n)
      ∙ (ap (λ (o : Option Path). faults_in (t.field_by w s (form w x) n.name o >>= t.kind_of).notes) none
      ∙ (ap (λ (o : Option KKind). faults_in ((j.notes ++ (after o pin).notes) ++ (after (after o pin).result t.kind_of).notes)) h.is
      ∙ null_step (form w x).first j.notes (is_sure k) (t.property_of w s (form w x).is_this n.name k) unsure h.clean))
