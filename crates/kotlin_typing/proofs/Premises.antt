-- What is known of the parts of a well typed one.
use Rattle.std.proofs.Common.{◌≡◌, ◌⊎◌, inl, inr, ℕ, Bool, true, false, List, [], ◌∷◌, ◌++◌, map, Option, Some, None, refl, sym, ap, subst, ◌∙◌}
use Rattle.std.specs.Prelude.{◌&&◌, ◌||◌, IsSome, if◌then◌else◌, bytes_eq, find}
use Rattle.judged.specs.Notes.{faults_in}
use Rattle.judged.specs.Judged.{after, begun, both, each, pair, ◌>>=◌}
use Rattle.kotlin_tree.specs.declared.places.Position.{Position}
use Rattle.kotlin_tree.specs.declared.places.Brackets.{Brackets}
use Rattle.kotlin_tree.specs.declared.types.KName.{KName}
use Rattle.kotlin_tree.specs.declared.types.KTypeArguments.{KTypeArguments}
use Rattle.kotlin_tree.specs.declared.expressions.KHeadAt.{KHeadAt}
use Rattle.kotlin_tree.specs.declared.expressions.KExpr.{KExpr}
use Rattle.kotlin_tree.specs.declared.expressions.KExpr.TheVariants as e
use Rattle.kotlin_tree.specs.declared.statements.KDeclared.{KDeclared}
use Rattle.kotlin_tree.specs.declared.statements.KTarget.{KTarget}
use Rattle.kotlin_tree.specs.declared.statements.KLabel.{KLabel}
use Rattle.kotlin_tree.specs.declared.statements.KStmt.{KStmt}
use Rattle.kotlin_tree.specs.declared.statements.KStmt.TheVariants as st
use Rattle.kotlin_types.specs.declared.kinds.KKind.{KKind}
use Rattle.kotlin_types.specs.Types.{boolean, is_sure, string}
use Rattle.kotlin_types.specs.Supertypes.{is_subtype}
use Rattle.kotlin_typing.specs.declared.scope.KLocal.{KLocal}
use Rattle.kotlin_typing.specs.declared.scope.KScope.{KScope}
use Rattle.kotlin_typing.specs.declared.tables.KCallable.{KCallable}
use Rattle.kotlin_typing.specs.declared.tables.KTables.{KTables}
use Rattle.kotlin_typing.specs.Notes.{fault, faulty}
use Rattle.kotlin_typing.specs.declared.scope.KAround.{KAround}
use Rattle.kotlin_typing.specs.declared.scope.KAround.TheVariants as around
use Rattle.kotlin_typing.specs.Scopes.{is_meant, reaches_from, in_lock, in_loop, nearer, nearest, reaches}
use Rattle.kotlin_typing.specs.Written.{meant, written}
use Rattle.kotlin_typing.specs.Members.{callables_of, chosen, is_applicable, is_chosen, is_most_specific, none_applies}
use Rattle.kotlin_typing.specs.Forms.{Form, Line, Stored, as_placed, as_sure, as_wanted, fits, judged, kind_or, line_notes, lines_notes, mismatch, sure_by}
use Rattle.kotlin_typing.specs.Typing as t
use Rattle.kotlin_typing.specs.Typing.{form, line, static}
use Rattle.kotlin_typing.specs.Premises.{AreLoops, FindsLoop, AllHave, AreTyped, HasType, IsMethodCall, IsNearest, IsPlaced, IsRead, IsSureValue, IsTyped, IsTypedStatement, Means, behind_statement, called, given, text}
use Rattle.kotlin_typing.proofs.Equations as q
use Rattle.kotlin_typing.proofs.Whole.{clean_left, clean_right, whole}

pub some_told : {A : Type 0} (o : Option A) → IsSome o → (a : A) × (o ≡ Some a)
some_told None h = cc
some_told (Some a) h = (a, refl)

pub some_same : {A : Type 0} (a b : A) → Some a ≡ Some b → a ≡ b
some_same a b e = cc

pub find_tells : {A : Type 0} (p : A → Bool) (xs : List A) (a : A) → find p xs ≡ Some a → p a ≡ true
find_tells p [] a h = cc
find_tells p (x ∷ xs) a h = by_first p x xs a (p x) refl h (find_tells p xs a)
  where
    by_first : {A : Type 0} (p : A → Bool) (x : A) (xs : List A) (a : A) (b : Bool) → p x ≡ b → (if b then Some x else find p xs) ≡ Some a → (find p xs ≡ Some a → p a ≡ true) → p a ≡ true
    by_first p x xs a true e h rest = subst (λ z. p z ≡ true) (some_same x a h) e
    by_first p x xs a false e h rest = rest h

-- ---- names

none_here : (name : List ℕ) (row : KLocal) (b : Bool) → (if b then Some row else None) ≡ None → b ≡ false
none_here name row true e = cc
none_here name row false e = refl

none_nearer : (name : List ℕ) (o : Option KLocal) (row : KLocal) → nearer o row name ≡ None → (o ≡ None) × (bytes_eq row.name name ≡ false)
none_nearer name None row e = (refl, none_here name row (bytes_eq row.name name) e)
none_nearer name (Some found) row e = cc

none_there : (name : List ℕ) (other : KLocal) (some more : List KLocal) → nearest name (some ++ other ∷ more) ≡ None → bytes_eq other.name name ≡ false
none_there name other [] more e = (none_nearer name (nearest name more) other e).1
none_there name other (x ∷ xs) more e = none_there name other xs more (none_nearer name (nearest name (xs ++ other ∷ more)) x e).0

one_nearest : (name : List ℕ) (r : KLocal) (rows : List KLocal) (row : KLocal) (b : Bool) → nearest name rows ≡ None → bytes_eq r.name name ≡ b → (if b then Some r else None) ≡ Some row → IsNearest name (r ∷ rows) row
one_nearest name r rows row false none is h = cc
one_nearest name r rows row true none is h =
    subst (IsNearest name (r ∷ rows)) (some_same r row h)
    (record { before = []; after = rows; among = refl; named = is; last = λ other some more split. none_there name other some more (subst (λ z. nearest name z ≡ None) split none) })

nearest_by : (name : List ℕ) (r : KLocal) (rows : List KLocal) (row : KLocal) (o : Option KLocal) → nearest name rows ≡ o → nearer o r name ≡ Some row → (o ≡ Some row → IsNearest name rows row) → IsNearest name (r ∷ rows) row
nearest_by name r rows row None is h rest = one_nearest name r rows row (bytes_eq r.name name) is refl h
nearest_by name r rows row (Some found) is h rest =
    let told = rest h in
    record { before = r ∷ told.before; after = told.after; among = ap (λ z. r ∷ z) told.among; named = told.named; last = told.last }

pub nearest_told : (name : List ℕ) (rows : List KLocal) (row : KLocal) → nearest name rows ≡ Some row → IsNearest name rows row
nearest_told name [] row h = cc
nearest_told name (r ∷ rows) row h = nearest_by name r rows row (nearest name rows) refl h (nearest_told name rows row)

local_told : (s : KScope) (at : Position) (o : Option KLocal) (k : KKind) → (t.local_by s at o).result ≡ Some k → (row : KLocal) × (o ≡ Some row) × (row.kind ≡ k)
local_told s at None k h = cc
local_told s at (Some row) k h = (row, refl, some_same row.kind k h)

-- ---- values in their places

pub mismatch_told : (s : KScope) (at : Position) (b : Bool) → faults_in (mismatch s at b) ≡ [] → b ≡ true
mismatch_told s at true h = refl
mismatch_told s at false h = cc

sure_told : (s : KScope) (at : Position) (b : Bool) → faults_in (if b then [] else fault s 4 at) ≡ [] → b ≡ true
sure_told s at true h = refl
sure_told s at false h = cc

module _ (w : KTables) where
  pub has_type : (s : KScope) (x : KExpr) → IsTyped w s x → (k : KKind) × HasType w s x k
  has_type s x h =
      let found = some_told ((form w x).judge s).result (((whole w x).judged s).holds h) in
      (found.0, record { clean = h; is = found.1 })

  pub one_type : (s : KScope) (x : KExpr) (k l : KKind) → HasType w s x k → HasType w s x l → k ≡ l
  one_type s x k l a b = some_same k l (sym a.is ∙ b.is)

  pub placed : (s : KScope) (x : KExpr) (want : KKind) → faults_in (as_wanted w (form w x) s want) ≡ [] → IsPlaced w s x want
  placed s x want h =
      let found = has_type s x (clean_left ((form w x).judge s).notes _ h) in
      record {
        kind = found.0;
        typed = found.1;
        below = mismatch_told s (form w x).first (is_subtype w.classes found.0 want)
            (subst (λ o. faults_in (fits w s (form w x).first want o) ≡ []) found.1.is (clean_right ((form w x).judge s).notes (fits w s (form w x).first want ((form w x).judge s).result) h));
      }

  pub sure : (s : KScope) (x : KExpr) → faults_in (as_sure (form w x) s) ≡ [] → IsSureValue w s x
  sure s x h =
      let found = has_type s x (clean_left ((form w x).judge s).notes _ h) in
      record {
        kind = found.0;
        typed = found.1;
        sure = sure_told s (form w x).first (is_sure found.0)
            (subst (λ o. faults_in (sure_by s (form w x).first o) ≡ []) found.1.is (clean_right ((form w x).judge s).notes (sure_by s (form w x).first ((form w x).judge s).result) h));
      }

  -- a name that has a type stands in scope, and nothing nearer has that name
  pub name_told : (s : KScope) (x : KName) (k : KKind) → HasType w s (e.Name x) k → (row : KLocal) × IsNearest x.name s.locals row × (row.kind ≡ k)
  name_told s x k h =
      let found = local_told s x.at (nearest x.name s.locals) k (subst (λ (f : Form). (f.judge s).result ≡ Some k) (q.on_Name w x) h.is) in
      (found.0, nearest_told x.name s.locals found.0 found.1, found.2)

  -- ---- statements

  pub local_placed : (s : KScope) (x : KDeclared) (at : Position) (value : KExpr) (want : KKind) → meant w x.kind ≡ Some want → IsTypedStatement w s (st.Local x at value) → IsPlaced w s value want
  local_placed s x at value want is h =
      placed s value want (subst (λ o. faults_in (as_placed w (form w value) s o) ≡ []) is
      (clean_right (written w x.kind s.path).notes (as_placed w (form w value) s (meant w x.kind)) (subst (λ (l : Line). faults_in (l.notes s) ≡ []) (q.on_Local w x at value) h)))

  pub expression_typed : (s : KScope) (x : KExpr) → IsTypedStatement w s (st.Expression x) → IsTyped w s x
  expression_typed s x h = subst (λ (l : Line). faults_in (l.notes s) ≡ []) (q.on_Expression w x) h

  pub if_told : (s : KScope) (at : KHeadAt) (condition : KExpr) (curly : Brackets) (xs : List KStmt) → IsTypedStatement w s (st.If at condition curly xs) → IsPlaced w s condition boolean × AreTyped w s xs
  if_told s at condition curly xs h =
      let all = subst (λ (l : Line). faults_in (l.notes s) ≡ []) (q.on_If w at condition curly xs) h in (
        placed s condition boolean (clean_left (as_wanted w (form w condition) s boolean) _ all),
        clean_right (as_wanted w (form w condition) s boolean) (lines_notes (map (line w) xs) s) all,
      )

  pub while_told : (s : KScope) (label : Option KLabel) (at : KHeadAt) (condition : KExpr) (curly : Brackets) (xs : List KStmt) → IsTypedStatement w s (st.While label at condition curly xs) →
      IsPlaced w s condition boolean × AreTyped w (in_loop (t.label_of label) s) xs
  while_told s label at condition curly xs h =
      let all = subst (λ (l : Line). faults_in (l.notes s) ≡ []) (q.on_While w label at condition curly xs) h in (
        placed s condition boolean (clean_left (as_wanted w (form w condition) s boolean) _ all),
        clean_right (as_wanted w (form w condition) s boolean) (lines_notes (map (line w) xs) (in_loop (t.label_of label) s)) all,
      )

  pub throw_placed : (s : KScope) (at : Position) (x : KExpr) → IsTypedStatement w s (st.Throw at x) → IsPlaced w s x t.throwable
  throw_placed s at x h = placed s x t.throwable (subst (λ (l : Line). faults_in (l.notes s) ≡ []) (q.on_Throw w at x) h)

  pub lock_told : (s : KScope) (at : KHeadAt) (lock : KExpr) (curly : Brackets) (xs : List KStmt) → IsTypedStatement w s (st.Synchronized at lock curly xs) → IsSureValue w s lock × AreTyped w (in_lock s) xs
  lock_told s at lock curly xs h =
      let all = subst (λ (l : Line). faults_in (l.notes s) ≡ []) (q.on_Synchronized w at lock curly xs) h in
      (sure s lock (clean_left (as_sure (form w lock) s) _ all), clean_right (as_sure (form w lock) s) (lines_notes (map (line w) xs) (in_lock s)) all)

  jump_told : (s : KScope) (at : Position) (b : Bool) → faults_in (if b then [] else fault s 13 at) ≡ [] → b ≡ true
  jump_told s at true h = refl
  jump_told s at false h = cc

  pub break_told : (s : KScope) (at : Position) (target : Option KTarget) → IsTypedStatement w s (st.Break at target) → reaches (t.target_of target) s ≡ true
  break_told s at target h = jump_told s at (reaches (t.target_of target) s) (subst (λ (l : Line). faults_in (l.notes s) ≡ []) (q.on_Break w at target) h)

  pub continue_told : (s : KScope) (at : Position) (target : Option KTarget) → IsTypedStatement w s (st.Continue at target) → reaches (t.target_of target) s ≡ true
  continue_told s at target h = jump_told s at (reaches (t.target_of target) s) (subst (λ (l : Line). faults_in (l.notes s) ≡ []) (q.on_Continue w at target) h)

  -- statements in their order: the first at this place, the others behind it
  pub first_told : (s : KScope) (x : KStmt) (xs : List KStmt) → AreTyped w s (x ∷ xs) → IsTypedStatement w s x × AreTyped w (behind_statement w s x) xs
  first_told s x xs h = (
    clean_left ((line w x).notes s) _ (clean_left (line_notes (line w x) s) _ h),
    clean_right (line_notes (line w x) s) (lines_notes (map (line w) xs) (behind_statement w s x)) h,
  )

  -- the value of an assignment is below its target's type, and the target is open
  open_told : (s : KScope) (at : Position) (b : Bool) → faults_in (if b then [] else fault s 10 at) ≡ [] → b ≡ true
  open_told s at true h = refl
  open_told s at false h = cc

  pub assign_told : (s : KScope) (target : KExpr) (at : Position) (value : KExpr) (to : Stored) → ((form w target).target s).result ≡ Some to → IsTypedStatement w s (st.Assign target at value) →
      (to.is_open ≡ true) × IsPlaced w s value to.kind
  assign_told s target at value to is h =
      let all = subst (λ (l : Line). faults_in (l.notes s) ≡ []) (q.on_Assign w target at value) h in
      let rest = subst (λ o. faults_in (t.assign_by w s (form w target).first (form w value) o) ≡ []) is
      (clean_right ((form w target).target s).notes (t.assign_by w s (form w target).first (form w value) ((form w target).target s).result) all) in (
        open_told s (form w target).first to.is_open (clean_left (if to.is_open then [] else fault s 10 (form w target).first) _ rest),
        placed s value to.kind (clean_right (if to.is_open then [] else fault s 10 (form w target).first) (as_wanted w (form w value) s to.kind) rest),
      )

-- ---- members

pub and_first : (a b : Bool) → (a && b) ≡ true → a ≡ true
and_first true b h = refl
and_first false b h = cc

property_told : (s : KScope) (at : Position) (b : Bool) (o : Option Stored) (k : KKind) →
    faults_in (if b then kind_or s 1 at o else faulty s 4 at).notes ≡ [] → (after (if b then kind_or s 1 at o else faulty s 4 at).result t.kind_of).result ≡ Some k →
    (b ≡ true) × ((x : Stored) × (o ≡ Some x) × (x.kind ≡ k))
property_told s at true None k h i = cc
property_told s at true (Some x) k h i = (refl, (x, refl, some_same x.kind k i))
property_told s at false o k h i = cc

module _ (w : KTables) where
  pub each_told : (s : KScope) (xs : List KExpr) → faults_in (each (map (judged s) (map (form w) xs))).notes ≡ [] →
      (ks : List KKind) × ((each (map (judged s) (map (form w) xs))).result ≡ Some ks) × AllHave w s xs ks
  each_told s [] h = ([], refl, tt)
  each_told s (x ∷ xs) h =
      let first = has_type w s x (clean_left ((form w x).judge s).notes _ h) in
      let rest = each_told s xs (clean_right ((form w x).judge s).notes (each (map (judged s) (map (form w) xs))).notes h) in
      (first.0 ∷ rest.0, ap (λ o. begun o (each (map (judged s) (map (form w) xs))).result) first.1.is ∙ ap (begun (Some first.0)) rest.1, (first.1, rest.2))

  pub field_told : (s : KScope) (x : KExpr) (dot : Position) (n : KName) (k : KKind) → static w s (form w x).path ≡ None → HasType w s (e.Field x dot n) k → IsRead w s x n.name k
  field_told s x dot n k none h =
      let notes = subst (λ o. faults_in (t.field_by w s (form w x) n.name o >>= t.kind_of).notes ≡ []) none (subst (λ (f : Form). faults_in (f.judge s).notes ≡ []) (q.on_Field w x dot n) h.clean) in
      let gives = subst (λ o. (t.field_by w s (form w x) n.name o >>= t.kind_of).result ≡ Some k) none (subst (λ (f : Form). (f.judge s).result ≡ Some k) (q.on_Field w x dot n) h.is) in
      let reads = clean_left (t.field_by w s (form w x) n.name None).notes (after (t.field_by w s (form w x) n.name None).result t.kind_of).notes notes in
      let found = has_type w s x (clean_left ((form w x).judge s).notes (after ((form w x).judge s).result (t.property_in w s (form w x).first (form w x).is_this n.name)).notes reads) in
      let told = property_told s (form w x).first (is_sure found.0) (t.property_of w s (form w x).is_this n.name found.0) k
      (subst (λ o. faults_in (after o (t.property_in w s (form w x).first (form w x).is_this n.name)).notes ≡ []) found.1.is
      (clean_right ((form w x).judge s).notes (after ((form w x).judge s).result (t.property_in w s (form w x).first (form w x).is_this n.name)).notes reads))
      (subst (λ o. (after (after o (t.property_in w s (form w x).first (form w x).is_this n.name)).result t.kind_of).result ≡ Some k) found.1.is gives) in
      record { object = record { kind = found.0; typed = found.1; sure = told.0 }; found = told.1.0; is = told.1.1; kind = told.1.2 }

  picked_told : (s : KScope) (at : Position) (b : Bool) (o : Option KCallable) (k : KKind) → (t.picked s at b o).result ≡ Some k → (m : KCallable) × (o ≡ Some m) × (m.result ≡ k)
  picked_told s at b (Some m) k h = (m, refl, some_same m.result k h)
  picked_told s at true None k h = cc
  picked_told s at false None k h = cc

  pub called_told : (s : KScope) (at : Position) (args : List KKind) (found : List KCallable) (k : KKind) → (t.called w s at args found).result ≡ Some k →
      (m : KCallable) × (chosen w args found ≡ Some m) × (m.result ≡ k)
  called_told s at args [] k h = cc
  called_told s at args (m ∷ more) k h = picked_told s at (none_applies w args (m ∷ more)) (chosen w args (m ∷ more)) k h

  means_called : (s : KScope) (at : Position) (name : List ℕ) (r : KKind) (args : List KKind) (k : KKind) → is_sure r ≡ true → (t.called w s at args (callables_of w s name r)).result ≡ Some k → Means w s name r args k
  means_called s at name r args k sure h =
      let told = called_told s at args (callables_of w s name r) k h in
      called sure (record {
        callable = told.0;
        chosen_of_all = told.1;
        below = and_first (is_applicable w args told.0) (is_most_specific w args (callables_of w s name r) told.0)
            (find_tells (is_chosen w args (callables_of w s name r)) (callables_of w s name r) told.0 told.1);
        result = told.2;
      })

  means_sure : (s : KScope) (at : Position) (name : List ℕ) (r : KKind) (args : List KKind) (k : KKind) (o : Option KKind) → is_sure r ≡ true → t.given_by name r args ≡ o →
      (t.method_by w s at name r args o).result ≡ Some k → Means w s name r args k
  means_sure s at name r args k (Some g) sure is h = given sure (is ∙ h)
  means_sure s at name r args k None sure is h = means_called s at name r args k sure h

  means_text : (s : KScope) (at : Position) (name : List ℕ) (r : KKind) (args : List KKind) (k : KKind) (b : Bool) → t.is_text name args ≡ b →
      (if b then record { result = Some string; notes = [] } else faulty s 4 at).result ≡ Some k → Means w s name r args k
  means_text s at name r args k true is h = text is (some_same string k h)
  means_text s at name r args k false is h = cc

  means : (s : KScope) (at : Position) (name : List ℕ) (r : KKind) (args : List KKind) (k : KKind) (b : Bool) → is_sure r ≡ b →
      (if b then t.method_by w s at name r args (t.given_by name r args) else if t.is_text name args then record { result = Some string; notes = [] } else faulty s 4 at).result ≡ Some k →
      Means w s name r args k
  means s at name r args k true is h = means_sure s at name r args k (t.given_by name r args) is refl h
  means s at name r args k false is h = means_text s at name r args k (t.is_text name args) refl h

  pub method_told : (s : KScope) (x : KExpr) (dot : Position) (n : KName) (types : Option KTypeArguments) (round : Brackets) (xs : List KExpr) (commas : List Position) (k : KKind) →
      static w s (form w x).path ≡ None → HasType w s (e.Method x dot n types round xs commas) k → IsMethodCall w s x n.name xs k
  method_told s x dot n types round xs commas k none h =
      let notes = subst (λ o. faults_in (t.method_at w s (form w x) n.name (map (form w) xs) o).notes ≡ []) none
      (clean_right (t.untyped s (form w x).first types) (t.method_at w s (form w x) n.name (map (form w) xs) (static w s (form w x).path)).notes
      (subst (λ (f : Form). faults_in (f.judge s).notes ≡ []) (q.on_Method w x dot n types round xs commas) h.clean)) in
      let gives = subst (λ o. (t.method_at w s (form w x) n.name (map (form w) xs) o).result ≡ Some k) none (subst (λ (f : Form). (f.judge s).result ≡ Some k) (q.on_Method w x dot n types round xs commas) h.is) in
      let two = pair ((form w x).judge s) (t.arguments s (map (form w) xs)) in
      let parts = clean_left two.notes (after two.result (t.method_in w s (form w x).first n.name)).notes notes in
      let object = has_type w s x (clean_left ((form w x).judge s).notes (t.arguments s (map (form w) xs)).notes parts) in
      let args = each_told s xs (clean_right ((form w x).judge s).notes (t.arguments s (map (form w) xs)).notes parts) in
      record {
        object = object.0;
        typed = object.1;
        kinds = args.0;
        arguments = args.2;
        means = means s (form w x).first n.name object.0 args.0 k (is_sure object.0) refl
            (subst (λ o. (after (both (Some object.0) o) (t.method_in w s (form w x).first n.name)).result ≡ Some k) args.1
            (subst (λ o. (after (both o (t.arguments s (map (form w) xs)).result) (t.method_in w s (form w x).first n.name)).result ≡ Some k) object.1.is gives));
      }

-- ---- jumps

further : (target : Option (List ℕ)) (a : KAround) (rows : List KAround) → FindsLoop target rows → FindsLoop target (a ∷ rows)
further target a rows f = record { before = a ∷ f.before; after = f.after; label = f.label; among = ap (λ z. a ∷ z) f.among; meant = f.meant; loops = f.loops }

in_loop_told : (target l : Option (List ℕ)) (more : List KAround) (found m : Bool) → is_meant target l ≡ m → (found || m) ≡ true → AreLoops more → ((found ≡ true) × AreLoops (around.Loop l ∷ more)) ⊎ FindsLoop target (around.Loop l ∷ more)
in_loop_told target l more found true is h loops = inr (record { before = []; after = more; label = l; among = refl; meant = is; loops = loops })
in_loop_told target l more true false is h loops = inl (refl, loops)
in_loop_told target l more false false is h loops = cc

past_wall : (target : Option (List ℕ)) (a : KAround) (more : List KAround) (C : Type 0) → (((false ≡ true) × AreLoops more) ⊎ FindsLoop target more) → C ⊎ FindsLoop target (a ∷ more)
past_wall target a more C (inl h) = cc
past_wall target a more C (inr f) = inr (further target a more f)

past_loop : (target l : Option (List ℕ)) (more : List KAround) (found : Bool) → (((found || is_meant target l) ≡ true) × AreLoops more) ⊎ FindsLoop target more → ((found ≡ true) × AreLoops (around.Loop l ∷ more)) ⊎ FindsLoop target (around.Loop l ∷ more)
past_loop target l more found (inl h) = in_loop_told target l more found (is_meant target l) refl h.0 h.1
past_loop target l more found (inr f) = inr (further target (around.Loop l) more f)

reached : (target : Option (List ℕ)) (found : Bool) (rows : List KAround) → reaches_from target found rows ≡ true → ((found ≡ true) × AreLoops rows) ⊎ FindsLoop target rows
reached target found [] h = inl (h, tt)
reached target found (around.Loop l ∷ more) h = past_loop target l more found (reached target (found || is_meant target l) more h)
reached target found (around.Run ∷ more) h = past_wall target around.Run more _ (reached target false more h)
reached target found (around.Lambda face ∷ more) h = past_wall target (around.Lambda face) more _ (reached target false more h)
reached target found (around.Lock ∷ more) h = past_wall target around.Lock more _ (reached target false more h)

from_nothing : (target : Option (List ℕ)) (rows : List KAround) → ((false ≡ true) × AreLoops rows) ⊎ FindsLoop target rows → FindsLoop target rows
from_nothing target rows (inl h) = cc
from_nothing target rows (inr f) = f

module _ (w : KTables) where
  pub break_finds : (s : KScope) (at : Position) (target : Option KTarget) → IsTypedStatement w s (st.Break at target) → FindsLoop (t.target_of target) s.around
  break_finds s at target h = from_nothing (t.target_of target) s.around (reached (t.target_of target) false s.around (break_told w s at target h))

  pub continue_finds : (s : KScope) (at : Position) (target : Option KTarget) → IsTypedStatement w s (st.Continue at target) → FindsLoop (t.target_of target) s.around
  continue_finds s at target h = from_nothing (t.target_of target) s.around (reached (t.target_of target) false s.around (continue_told w s at target h))
