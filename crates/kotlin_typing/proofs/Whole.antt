-- Where no fault is noted of an expression it has a type.
use Rattle.std.proofs.Common.{◌≡◌, ℕ, Bool, true, false, List, [], ◌∷◌, ◌++◌, map, Option, Some, None, refl, sym, subst, ◌∙◌}
use Rattle.std.specs.Prelude.{IsSome, if◌then◌else◌}
use Rattle.judged.specs.Notes.{faults_in}
use Rattle.judged.specs.Judged.{AllWhole, IsWhole, each, good, pair, ◌>>=◌}
use Rattle.judged.proofs.LawsToCite.{faults_in-append, whole_each, whole_pair, whole_then}
use Rattle.kotlin_tree.specs.declared.places.Position.{Position}
use Rattle.kotlin_tree.specs.declared.types.KTypeArguments.{KTypeArguments}
use Rattle.kotlin_tree.specs.declared.types.KName.{KName}
use Rattle.kotlin_tree.specs.declared.types.KType.{KType, roll-KType, ind-KType, map-KType, fold-roll-KType}
use Rattle.kotlin_tree.specs.declared.types.KType.TheOpen.{KType-F}
use Rattle.kotlin_tree.specs.declared.expressions.KPrefix.{KPrefix}
use Rattle.kotlin_tree.specs.declared.expressions.KPrefix.TheVariants as prefix
use Rattle.kotlin_tree.specs.declared.expressions.KPostfix.{KPostfix}
use Rattle.kotlin_tree.specs.declared.expressions.KPostfix.TheVariants as postfix
use Rattle.kotlin_tree.specs.declared.expressions.KChoice.{KChoice, roll-KChoice}
use Rattle.kotlin_tree.specs.declared.expressions.KExpr.{KExpr, roll-KExpr, ind-KExpr, map-KExpr}
use Rattle.kotlin_tree.specs.declared.expressions.KExpr.TheOpen.{KExpr-F, KStmt-F, KChoice-F}
use Rattle.kotlin_tree.specs.declared.expressions.KExpr.TheViews.{roll-KStmt}
use Rattle.kotlin_tree.specs.declared.statements.KBranch.{KBranch}
use Rattle.kotlin_tree.specs.declared.statements.KCatch.{KCatch}
use Rattle.kotlin_tree.specs.declared.statements.KStmt.{KStmt, map-KStmt}
use Rattle.kotlin_types.specs.declared.kinds.KClassRef.{KClassRef}
use Rattle.kotlin_types.specs.declared.kinds.KHead.{KHead}
use Rattle.kotlin_types.specs.declared.kinds.Nullability.{Nullability}
use Rattle.kotlin_types.specs.declared.kinds.KKind.{KKind}
use Rattle.kotlin_types.specs.Types as k
use Rattle.kotlin_typing.specs.declared.scope.KLocal.{KLocal}
use Rattle.kotlin_typing.specs.declared.scope.KScope.{KScope}
use Rattle.kotlin_typing.specs.declared.tables.KCallable.{KCallable}
use Rattle.kotlin_typing.specs.declared.tables.KFace.{KFace}
use Rattle.kotlin_typing.specs.declared.tables.KTypeVariable.{KTypeVariable}
use Rattle.kotlin_typing.specs.declared.tables.KTables.{KTables}
use Rattle.kotlin_typing.specs.Notes.{Notes, Typed, faulty}
use Rattle.kotlin_typing.specs.Scopes as sc
use Rattle.kotlin_typing.specs.Written as wr
use Rattle.kotlin_typing.specs.Written.{Path, written}
use Rattle.kotlin_typing.specs.Forms.{Choice, Form, Line, Stored, behind, judged, kind_or, last_gives, line_notes, lines_notes}
use Rattle.kotlin_typing.specs.Typing as t
use Rattle.kotlin_typing.specs.Typing.{choice_form, form, form_by, line, line_by}
use Rattle.kotlin_typing.proofs.Equations.{choice_at, form_at, line_at}

-- ---- notes without faults

nil_left : {A : Type 0} (xs ys : List A) → xs ++ ys ≡ [] → xs ≡ []
nil_left [] ys e = refl
nil_left (x ∷ xs) ys e = cc

nil_right : {A : Type 0} (xs ys : List A) → xs ++ ys ≡ [] → ys ≡ []
nil_right [] ys e = e
nil_right (x ∷ xs) ys e = cc

pub clean_left : (xs ys : Notes) → faults_in (xs ++ ys) ≡ [] → faults_in xs ≡ []
clean_left xs ys e = nil_left (faults_in xs) (faults_in ys) (sym (faults_in-append xs ys) ∙ e)

pub clean_right : (xs ys : Notes) → faults_in (xs ++ ys) ≡ [] → faults_in ys ≡ []
clean_right xs ys e = nil_right (faults_in xs) (faults_in ys) (sym (faults_in-append xs ys) ∙ e)

-- ---- ways to judge

pub record Fine {A : Type 0} (j : Typed A) : Type 0 where
  pub holds : IsWhole j

abbrev pub AllFine : {A : Type 0} → List (Typed A) → Type 0
AllFine [] = Unit {0}
AllFine (j ∷ js) = Fine j × AllFine js

all_whole : {A : Type 0} (js : List (Typed A)) → AllFine js → AllWhole js
all_whole [] h = tt
all_whole (j ∷ js) h = (h.0.holds, all_whole js h.1)

fine_each : {A : Type 0} (js : List (Typed A)) → AllFine js → Fine (each js)
fine_each js h = record { holds = whole_each js (all_whole js h) }

fine_pair : {A B : Type 0} (j : Typed A) (k : Typed B) → Fine j → Fine k → Fine (pair j k)
fine_pair j k h i = record { holds = whole_pair j k h.holds i.holds }

fine_then : {A B : Type 0} (j : Typed A) (next : A → Typed B) → Fine j → ((a : A) → Fine (next a)) → Fine (j >>= next)
fine_then j next h i = record { holds = whole_then j next h.holds (λ a. (i a).holds) }

fine_good : {A : Type 0} (a : A) → Fine {A = A} (good a)
fine_good a = record { holds = λ e. refl }

fine_faulty : (A : Type 0) (s : KScope) (n : ℕ) (at : Position) → Fine {A = A} (faulty s n at)
fine_faulty A s n at = record { holds = λ e. cc }

fine_bad : (path : List ℕ) (n : ℕ) (at : Position) → Fine (wr.bad path n at)
fine_bad path n at = record { holds = λ e. cc }

fine_or : {A : Type 0} (s : KScope) (n : ℕ) (at : Position) (o : Option A) → Fine (kind_or s n at o)
fine_or s n at None = record { holds = λ e. cc }
fine_or s n at (Some a) = record { holds = λ e. refl }

fine_if : {A : Type 0} (b : Bool) (j k : Typed A) → Fine j → Fine k → Fine (if b then j else k)
fine_if true j k h i = h
fine_if false j k h i = i

fine_behind : {A : Type 0} (notes : Notes) (j : Typed A) → Fine j → Fine (behind notes j)
fine_behind notes j h = record { holds = λ e. h.holds (clean_right notes j.notes e) }

-- ---- written types

class_whole : (w : KTables) (path : List ℕ) (at : Position) (n : Nullability) (args : List KKind) (o : Option KClassRef) → Fine (wr.class_written w path at n args o)
class_whole w path at n args None = fine_bad path 1 at
class_whole w path at n args (Some c) = fine_if (wr.fits_class w c args) _ _ (fine_good _) (fine_bad path 3 at)

head_whole : (w : KTables) (path : List ℕ) (at : Position) (n : Nullability) (name : Path) (o : Option KHead) → Fine (wr.head_written w path at n name o)
head_whole w path at n name None = class_whole w path at n [] (wr.class_at w name)
head_whole w path at n name (Some h) = fine_good _

plain_whole : (w : KTables) (path : List ℕ) (at : Position) (name : Path) (q : Option Position) (o : Option KTypeVariable) → Fine (wr.plain_written w path at name q o)
plain_whole w path at name q None = head_whole w path at (wr.marked q) name (wr.array_named name)
plain_whole w path at name q (Some v) = fine_good _

array_whole : (path : List ℕ) (at : Position) (n : Nullability) (args : List KKind) → Fine (wr.array_written path at n args)
array_whole path at n [] = fine_bad path 3 at
array_whole path at n (x ∷ []) = fine_good _
array_whole path at n (x ∷ y ∷ xs) = fine_bad path 3 at

applied_whole : (w : KTables) (path : List ℕ) (at : Position) (n : Nullability) (name : Path) (args : List KKind) → Fine (wr.applied_written w path at n name args)
applied_whole w path at n name args = fine_if (wr.is_array_named name) _ _ (array_whole path at n args) (class_whole w path at n args (wr.class_at w name))

module _ (w : KTables) where
  abbrev WholeType : KType → Type 0
  WholeType x = (path : List ℕ) → Fine (written w x path)

  abbrev TypePart : Type 0
  TypePart = (x : KType) × WholeType x

  types_all : (xs : List TypePart) (path : List ℕ) → AllFine (map (wr.judged_type path) (map (written w) (map (λ (x : TypePart). x.0) xs)))
  types_all [] path = tt
  types_all (x ∷ xs) path = (x.1 path, types_all xs path)

  pub type_at : (x : KType-F KType) → written w (roll-KType x) ≡ wr.written_by w (map-KType KType (List ℕ → Typed KKind) (written w) x)
  unfolding written
  type_at x = fold-roll-KType (List ℕ → Typed KKind) (wr.written_by w) x

  type_from : (x : KType) (f : List ℕ → Typed KKind) → written w x ≡ f → ((path : List ℕ) → Fine (f path)) → WholeType x
  type_from x f e h = subst (λ (g : List ℕ → Typed KKind). (path : List ℕ) → Fine (g path)) (sym e) h

  type_case : (y : KType-F TypePart) → WholeType (roll-KType (map-KType TypePart KType (λ x. x.0) y))
  type_case (KType-F.Plain name q v) = type_from _ _ (type_at (KType-F.Plain name q v)) (λ path. plain_whole w path name.first.at (wr.path_of name) q (wr.variable_at w (wr.path_of name)))
  type_case (KType-F.Applied name angles args commas q) = type_from _ _ (type_at (KType-F.Applied name angles (map (λ (x : TypePart). x.0) args) commas q))
      (λ path. fine_then _ _ (fine_each _ (types_all args path)) (applied_whole w path name.first.at (wr.marked q) (wr.path_of name)))

  pub whole_type : (x : KType) → WholeType x
  whole_type = ind-KType WholeType (λ x y is. subst (λ (z : KType-F KType). WholeType (roll-KType z)) is (type_case y))

  types_whole : (xs : List KType) (path : List ℕ) → AllFine (map (wr.written_in w path) xs)
  types_whole [] path = tt
  types_whole (x ∷ xs) path = (whole_type x path, types_whole xs path)

  arguments_whole : (path : List ℕ) (o : Option KTypeArguments) → Fine (wr.arguments_written w path o)
  arguments_whole path None = fine_good _
  arguments_whole path (Some x) = fine_each _ (types_whole x.items path)

-- ---- parts of expressions

local_whole : (s : KScope) (at : Position) (o : Option KLocal) → Fine (t.local_by s at o)
local_whole s at None = fine_faulty KKind s 1 at
local_whole s at (Some row) = fine_good _

local_target_whole : (s : KScope) (at : Position) (o : Option KLocal) → Fine (t.local_target s at o)
local_target_whole s at None = fine_faulty Stored s 1 at
local_target_whole s at (Some row) = fine_good _

picked_whole : (s : KScope) (at : Position) (b : Bool) (o : Option KCallable) → Fine (t.picked s at b o)
picked_whole s at b (Some m) = fine_good _
picked_whole s at true None = fine_faulty KKind s 5 at
picked_whole s at false None = fine_faulty KKind s 6 at

module _ (w : KTables) where
  one_whole : (s : KScope) (at : Position) (args : List KKind) (found : List KCallable) → Fine (t.one_of w s at args found)
  one_whole s at args found = picked_whole s at _ _

  called_whole : (s : KScope) (at : Position) (args : List KKind) (found : List KCallable) → Fine (t.called w s at args found)
  called_whole s at args [] = fine_faulty KKind s 1 at
  called_whole s at args (m ∷ more) = one_whole s at args (m ∷ more)

  method_whole : (s : KScope) (at : Position) (name : List ℕ) (ks : KKind × List KKind) → Fine (t.method_in w s at name ks)
  method_whole s at name ks = fine_if (k.is_sure ks.0) _ _ (by_given (t.given_by name ks.0 ks.1)) (fine_if (t.is_text name ks.1) _ _ (fine_good _) (fine_faulty KKind s 4 at))
    where
      by_given : (o : Option KKind) → Fine (t.method_by w s at name ks.0 ks.1 o)
      by_given None = called_whole s at ks.1 _
      by_given (Some x) = fine_good _

  constructed_whole : (s : KScope) (at : Position) (c : KClassRef) (types args : List KKind) → Fine (t.constructed w s at c types args)
  constructed_whole s at c types args = fine_if (t.is_abstract w c) _ _ (fine_faulty KKind s 8 at) (fine_if (wr.fits_class w c types) _ _ (one_whole s at args _) (fine_faulty KKind s 3 at))

  plain_call_whole : (s : KScope) (at : Position) (name : List ℕ) (types args : List KKind) (o : Option KClassRef) → Fine (t.plain_call w s at name types args o)
  plain_call_whole s at name types args (Some c) = constructed_whole s at c types args
  plain_call_whole s at name [] args None = called_whole s at args _
  plain_call_whole s at name (x ∷ types) args None = fine_faulty KKind s 5 at

  sized_whole : (s : KScope) (at : Position) (name : List ℕ) (types args : List KKind) (o : Option KKind) → Fine (t.sized_call w s at name types args o)
  sized_whole s at name types args (Some x) = one_whole s at args (t.sizing name x ∷ [])
  sized_whole s at name types args None = plain_call_whole s at name types args _

  super_whole : (s : KScope) (at : Position) (name : List ℕ) (args : List KKind) → Fine (t.super_by w s at name args)
  super_whole s at name args = fine_if (sc.has_this s.part) _ _ (called_whole s at args _) (fine_faulty KKind s 1 at)

  this_whole : (s : KScope) (at : Position) → Fine (t.this_by w s at)
  this_whole s at = fine_if (sc.has_this s.part) _ _ (fine_good _) (fine_faulty KKind s 1 at)

  lambda_whole : (s : KScope) (at : Position) (name : List ℕ) (names : List KName) (xs : List Line) (x : KKind) (o : Option KFace) → Fine (t.lambda_by s at name names xs x o)
  lambda_whole s at name names xs x None = fine_faulty KKind s 1 at
  lambda_whole s at name names xs x (Some f) = by_rows (t.lambda_rows names f.params)
    where
      by_rows : (o : Option (List KLocal)) → Fine (t.lambda_with s at name names xs x f.result o)
      by_rows None = fine_faulty KKind s 3 at
      by_rows (Some rows) = record { holds = λ e. refl }

class_value_whole : (s : KScope) (at : Position) (o : Option KClassRef) → Fine (t.class_value s at o)
class_value_whole s at None = fine_faulty KKind s 1 at
class_value_whole s at (Some c) = fine_good _

-- ---- forms

pub record WholeForm (f : Form) : Type 0 where
  pub judged : (s : KScope) → Fine (f.judge s)
  pub target : (s : KScope) → Fine (f.target s)

abbrev pub WholeLine : Line → Type 0
WholeLine l = (s : KScope) → faults_in (l.notes s) ≡ [] → IsSome (l.gives s)

abbrev pub AllForms : List Form → Type 0
AllForms [] = Unit {0}
AllForms (x ∷ xs) = WholeForm x × AllForms xs

abbrev pub AllLines : List Line → Type 0
AllLines [] = Unit {0}
AllLines (x ∷ xs) = WholeLine x × AllLines xs

forms_judged : (xs : List Form) (s : KScope) → AllForms xs → AllFine (map (judged s) xs)
forms_judged [] s h = tt
forms_judged (x ∷ xs) s h = (h.0.judged s, forms_judged xs s h.1)

arguments_judged : (s : KScope) (xs : List Form) → AllForms xs → Fine (t.arguments s xs)
arguments_judged s xs h = fine_each _ (forms_judged xs (sc.past s) h)

forms_end : (xs : List Form) (y : Form) → AllForms xs → WholeForm y → AllForms (xs ++ y ∷ [])
forms_end [] y h i = (i, tt)
forms_end (x ∷ xs) y h i = (h.0, forms_end xs y h.1 i)

last_some : (xs : List Line) (s : KScope) → AllLines xs → faults_in (lines_notes xs s) ≡ [] → IsSome (last_gives xs s)
last_some [] s h e = refl
last_some (x ∷ []) s h e = h.0 s (clean_left (x.notes s) _ (clean_left (line_notes x s) _ e))
last_some (x ∷ y ∷ ys) s h e = last_some (y ∷ ys) (sc.declared s x.declares) h.1 (clean_right (line_notes x s) _ e)

steps_whole : (s : KScope) (x : Form) → WholeForm x → Fine (t.stepped s x)
steps_whole s x h = fine_then _ _ (h.target s) (λ (y : Stored). by_open y.is_open y)
  where
    by_open : (b : Bool) (y : Stored) → Fine (t.steps_by s x.first y)
    by_open b y = fine_if _ _ _ (fine_faulty KKind s 10 x.first) (fine_or s 3 x.first _)

module _ (w : KTables) where
  call_whole : (s : KScope) (at : Position) (name : List ℕ) (xs : List Form) (types : List KKind) → AllForms xs → Fine (t.call w s at name xs types)
  call_whole s at name xs types h = by_made (t.elements_of name types)
    where
      by_made : (o : Option (KKind × KKind)) → Fine (t.call_with w s at name xs types o)
      by_made (Some made) = record { holds = λ e. refl }
      by_made None = fine_then _ _ (arguments_judged s xs h) (λ args. sized_whole w s at name types args (t.sized name types))

  field_whole : (s : KScope) (x : Form) (name : List ℕ) → WholeForm x → Fine (t.field w s x name)
  field_whole s x name h = by_path (t.static w s x.path)
    where
      by_path : (o : Option Path) → Fine (t.field_by w s x name o)
      by_path (Some path) = fine_or s 1 x.first _
      by_path None = fine_then _ _ (h.judged s) (λ y. fine_if (k.is_sure y) _ _ (fine_or s 1 x.first _) (fine_faulty Stored s 4 x.first))

  element_whole : (s : KScope) (x i : Form) → WholeForm x → Fine (t.element w s x i)
  element_whole s x i h = fine_behind _ _ (fine_then _ _ (h.judged s) (λ y. fine_if (k.is_sure y) _ _ (fine_or s 5 x.first _) (fine_faulty Stored s 4 x.first)))

  method_at_whole : (s : KScope) (x : Form) (name : List ℕ) (xs : List Form) → WholeForm x → AllForms xs → Fine (t.method_at w s x name xs (t.static w s x.path))
  method_at_whole s x name xs h i = by_path (t.static w s x.path)
    where
      by_path : (o : Option Path) → Fine (t.method_at w s x name xs o)
      by_path (Some path) = fine_then _ _ (arguments_judged s xs i) (λ args. called_whole w s x.first args _)
      by_path None = fine_then _ _ (fine_pair _ _ (h.judged s) (arguments_judged s xs i)) (method_whole w s x.first name)

postfixed_whole : (s : KScope) (x : Form) (o : KPostfix) → WholeForm x → Fine (t.postfixed s x o)
postfixed_whole s x postfix.NotNull h = fine_then _ _ (h.judged s) (λ y. fine_good _)
postfixed_whole s x postfix.Increment h = steps_whole s x h
postfixed_whole s x postfix.Decrement h = steps_whole s x h

prefixed_whole : (s : KScope) (at : Position) (x : Form) (o : KPrefix) → WholeForm x → Fine (t.prefixed s at x o)
prefixed_whole s at x prefix.Plus h = fine_then _ _ (h.judged s) (λ y. fine_or s 3 at _)
prefixed_whole s at x prefix.Minus h = fine_then _ _ (h.judged s) (λ y. fine_or s 3 at _)
prefixed_whole s at x prefix.Not h = fine_then _ _ (h.judged s) (λ y. fine_or s 3 at _)
prefixed_whole s at x prefix.Increment h = steps_whole s x h
prefixed_whole s at x prefix.Decrement h = steps_whole s x h

kind_whole : (j : Typed Stored) → Fine j → Fine (j >>= t.kind_of)
kind_whole j h = fine_then _ _ h (λ y. fine_good _)

abbrev pub WholeChoice : Choice → Type 0
WholeChoice c = WholeForm c.value

abbrev pub AllChoices : List Choice → Type 0
AllChoices [] = Unit {0}
AllChoices (x ∷ xs) = WholeChoice x × AllChoices xs

choices_forms : (xs : List Choice) → AllChoices xs → AllForms (t.choice_values xs)
choices_forms [] h = tt
choices_forms (x ∷ xs) h = (h.0, choices_forms xs h.1)

module _ (w : KTables) where
  -- ---- one layer of an expression whose parts are whole

  abbrev Ex : Type 0
  Ex = (x : KExpr) × WholeForm (form w x)

  abbrev St : Type 0
  St = (x : KStmt) × WholeLine (line w x)

  abbrev Ch : Type 0
  Ch = (x : KChoice) × WholeChoice (choice_form w x)

  abbrev Br : Type 0
  Br = (x : KBranch) × Unit {0}

  abbrev Ca : Type 0
  Ca = (x : KCatch) × Unit {0}

  exs : (xs : List Ex) → AllForms (map (form w) (map (λ (x : Ex). x.0) xs))
  exs [] = tt
  exs (x ∷ xs) = (x.1, exs xs)

  sts : (xs : List St) → AllLines (map (line w) (map (λ (x : St). x.0) xs))
  sts [] = tt
  sts (x ∷ xs) = (x.1, sts xs)

  chs : (xs : List Ch) → AllChoices (map (choice_form w) (map (λ (x : Ch). x.0) xs))
  chs [] = tt
  chs (x ∷ xs) = (x.1, chs xs)

  abbrev ex_of : KExpr-F Ex St Ch Br Ca → KExpr-F KExpr KStmt KChoice KBranch KCatch
  ex_of y = map-KExpr Ex St Ch Br Ca KExpr KStmt KChoice KBranch KCatch (λ x. x.0) (λ x. x.0) (λ x. x.0) (λ x. x.0) (λ x. x.0) y

  abbrev st_of : KStmt-F Ex St Ch Br Ca → KStmt-F KExpr KStmt KChoice KBranch KCatch
  st_of y = map-KStmt Ex St Ch Br Ca KExpr KStmt KChoice KBranch KCatch (λ x. x.0) (λ x. x.0) (λ x. x.0) (λ x. x.0) (λ x. x.0) y

  from_form : (y : KExpr-F KExpr KStmt KChoice KBranch KCatch) (f : Form) → form w (roll-KExpr y) ≡ f → WholeForm f → WholeForm (form w (roll-KExpr y))
  from_form y f e h = subst WholeForm (sym e) h

  from_line : (y : KStmt-F KExpr KStmt KChoice KBranch KCatch) (l : Line) → line w (roll-KStmt y) ≡ l → WholeLine l → WholeLine (line w (roll-KStmt y))
  from_line y l e h = subst WholeLine (sym e) h

  expression_case : (y : KExpr-F Ex St Ch Br Ca) → WholeForm (form w (roll-KExpr (ex_of y)))
  expression_case (KExpr-F.Literal x at) = from_form _ _ (form_at w (ex_of (KExpr-F.Literal x at))) (record { judged = λ s. fine_good _; target = λ s. fine_faulty Stored s 10 _ })
  expression_case (KExpr-F.Name x) = from_form _ _ (form_at w (ex_of (KExpr-F.Name x))) (record { judged = λ s. local_whole s x.at _; target = λ s. local_target_whole s x.at _ })
  expression_case (KExpr-F.This at) = from_form _ _ (form_at w (ex_of (KExpr-F.This at))) (record { judged = λ s. this_whole w s at; target = λ s. fine_faulty Stored s 10 _ })
  expression_case (KExpr-F.Paren round x) = from_form _ _ (form_at w (ex_of (KExpr-F.Paren round x))) (record { judged = λ s. x.1.judged s; target = λ s. fine_faulty Stored s 10 _ })
  expression_case (KExpr-F.Call x types round xs commas) = from_form _ _ (form_at w (ex_of (KExpr-F.Call x types round xs commas))) (record { judged = λ s. fine_then _ _ (arguments_whole w s.path types) (λ ts. call_whole w s x.at x.name _ ts (exs xs)); target = λ s. fine_faulty Stored s 10 _ })
  expression_case (KExpr-F.SuperCall at x round xs commas) = from_form _ _ (form_at w (ex_of (KExpr-F.SuperCall at x round xs commas))) (record { judged = λ s. fine_then _ _ (arguments_judged s _ (exs xs)) (super_whole w s at.word x.name); target = λ s. fine_faulty Stored s 10 _ })
  expression_case (KExpr-F.Field object dot x) = from_form _ _ (form_at w (ex_of (KExpr-F.Field object dot x))) (record { judged = λ s. kind_whole _ (field_whole w s (form w object.0) x.name object.1); target = λ s. field_whole w s (form w object.0) x.name object.1 })
  expression_case (KExpr-F.Method object dot x types round xs commas) = from_form _ _ (form_at w (ex_of (KExpr-F.Method object dot x types round xs commas))) (record { judged = λ s. fine_behind _ _ (method_at_whole w s (form w object.0) x.name _ object.1 (exs xs)); target = λ s. fine_faulty Stored s 10 _ })
  expression_case (KExpr-F.Element array square index) = from_form _ _ (form_at w (ex_of (KExpr-F.Element array square index))) (record { judged = λ s. kind_whole _ (element_whole w s (form w array.0) (form w index.0) array.1); target = λ s. element_whole w s (form w array.0) (form w index.0) array.1 })
  expression_case (KExpr-F.Postfix x o at) = from_form _ _ (form_at w (ex_of (KExpr-F.Postfix x o at))) (record { judged = λ s. postfixed_whole s (form w x.0) o x.1; target = λ s. fine_faulty Stored s 10 _ })
  expression_case (KExpr-F.Prefix o at x) = from_form _ _ (form_at w (ex_of (KExpr-F.Prefix o at x))) (record { judged = λ s. prefixed_whole s at (form w x.0) o x.1; target = λ s. fine_faulty Stored s 10 _ })
  expression_case (KExpr-F.As x at kind) = from_form _ _ (form_at w (ex_of (KExpr-F.As x at kind))) (record { judged = λ s. fine_then _ _ (fine_pair _ _ (x.1.judged s) (whole_type w kind s.path)) (λ ks. fine_or s 3 (form w x.0).first _); target = λ s. fine_faulty Stored s 10 _ })
  expression_case (KExpr-F.Is x at kind) = from_form _ _ (form_at w (ex_of (KExpr-F.Is x at kind))) (record { judged = λ s. fine_then _ _ (fine_pair _ _ (x.1.judged s) (whole_type w kind s.path)) (λ ks. fine_good _); target = λ s. fine_faulty Stored s 10 _ })
  expression_case (KExpr-F.Binary left o at right) = from_form _ _ (form_at w (ex_of (KExpr-F.Binary left o at right))) (record { judged = λ s. fine_then _ _ (fine_pair _ _ (left.1.judged s) (right.1.judged _)) (λ ks. fine_or s 3 (form w left.0).first _); target = λ s. fine_faulty Stored s 10 _ })
  expression_case (KExpr-F.IfValue at condition x else_at other) = from_form _ _ (form_at w (ex_of (KExpr-F.IfValue at condition x else_at other))) (record { judged = λ s. fine_behind _ _ (fine_then _ _ (fine_pair _ _ (x.1.judged s) (other.1.judged s)) (λ ks. fine_or s 3 at.word _)); target = λ s. fine_faulty Stored s 10 _ })
  expression_case (KExpr-F.WhenValue at subject curly choices else_at other) = from_form _ _ (form_at w (ex_of (KExpr-F.WhenValue at subject curly choices else_at other))) (record { judged = λ s. fine_then _ _ (subject.1.judged s) (λ y. fine_behind _ _ (fine_then _ _ (fine_each _ (forms_judged _ s (forms_end _ _ (choices_forms _ (chs choices)) other.1))) (λ ks. fine_or s 3 at.word _))); target = λ s. fine_faulty Stored s 10 _ })
  expression_case (KExpr-F.Lambda face curly names xs) = from_form _ _ (form_at w (ex_of (KExpr-F.Lambda face curly names xs))) (record { judged = λ s. fine_then _ _ (whole_type w face s.path) (λ y. lambda_whole w s (t.type_place face).0 (t.type_place face).1 names.items (map (line w) (map (λ (x : St). x.0) xs)) y (t.face_of w y)); target = λ s. fine_faulty Stored s 10 _ })
  expression_case (KExpr-F.Run at curly xs) = from_form _ _ (form_at w (ex_of (KExpr-F.Run at curly xs))) (record { judged = λ s. record { holds = last_some _ (sc.in_run s) (sts xs) }; target = λ s. fine_faulty Stored s 10 _ })
  expression_case (KExpr-F.Class x at) = from_form _ _ (form_at w (ex_of (KExpr-F.Class x at))) (record { judged = λ s. class_value_whole s x.first.at _; target = λ s. fine_faulty Stored s 10 _ })

  statement_case : (y : KStmt-F Ex St Ch Br Ca) → WholeLine (line w (roll-KStmt (st_of y)))
  statement_case (KStmt-F.Commented comments x) = from_line _ _ (line_at w (st_of (KStmt-F.Commented comments x))) x.1
  statement_case (KStmt-F.Expression x) = from_line _ _ (line_at w (st_of (KStmt-F.Expression x))) (λ s e. (x.1.judged s).holds e)
  statement_case (KStmt-F.Declared x) = from_line _ _ (line_at w (st_of (KStmt-F.Declared x))) (λ s e. refl)
  statement_case (KStmt-F.Local x at value) = from_line _ _ (line_at w (st_of (KStmt-F.Local x at value))) (λ s e. refl)
  statement_case (KStmt-F.Assign target at value) = from_line _ _ (line_at w (st_of (KStmt-F.Assign target at value))) (λ s e. refl)
  statement_case (KStmt-F.While label at condition curly xs) = from_line _ _ (line_at w (st_of (KStmt-F.While label at condition curly xs))) (λ s e. refl)
  statement_case (KStmt-F.DoWhile label do_at curly xs at condition) = from_line _ _ (line_at w (st_of (KStmt-F.DoWhile label do_at curly xs at condition))) (λ s e. refl)
  statement_case (KStmt-F.For label at x in_at values curly xs) = from_line _ _ (line_at w (st_of (KStmt-F.For label at x in_at values curly xs))) (λ s e. refl)
  statement_case (KStmt-F.ForRange label at x in_at first until_at end curly xs) = from_line _ _ (line_at w (st_of (KStmt-F.ForRange label at x in_at first until_at end curly xs))) (λ s e. refl)
  statement_case (KStmt-F.If at condition curly xs) = from_line _ _ (line_at w (st_of (KStmt-F.If at condition curly xs))) (λ s e. refl)
  statement_case (KStmt-F.IfElse at condition curly xs else_at other_curly others) = from_line _ _ (line_at w (st_of (KStmt-F.IfElse at condition curly xs else_at other_curly others))) (λ s e. refl)
  statement_case (KStmt-F.IfElseIf at condition curly xs else_at other) = from_line _ _ (line_at w (st_of (KStmt-F.IfElseIf at condition curly xs else_at other))) (λ s e. refl)
  statement_case (KStmt-F.When at subject curly branches else_at other_curly others) = from_line _ _ (line_at w (st_of (KStmt-F.When at subject curly branches else_at other_curly others))) (λ s e. refl)
  statement_case (KStmt-F.Break at target) = from_line _ _ (line_at w (st_of (KStmt-F.Break at target))) (λ s e. refl)
  statement_case (KStmt-F.Continue at target) = from_line _ _ (line_at w (st_of (KStmt-F.Continue at target))) (λ s e. refl)
  statement_case (KStmt-F.Return at target) = from_line _ _ (line_at w (st_of (KStmt-F.Return at target))) (λ s e. refl)
  statement_case (KStmt-F.Give at target x) = from_line _ _ (line_at w (st_of (KStmt-F.Give at target x))) (λ s e. refl)
  statement_case (KStmt-F.Throw at x) = from_line _ _ (line_at w (st_of (KStmt-F.Throw at x))) (λ s e. refl)
  statement_case (KStmt-F.Try at curly xs catches) = from_line _ _ (line_at w (st_of (KStmt-F.Try at curly xs catches))) (λ s e. refl)
  statement_case (KStmt-F.TryFinally at curly xs catches last_at last) = from_line _ _ (line_at w (st_of (KStmt-F.TryFinally at curly xs catches last_at last))) (λ s e. refl)
  statement_case (KStmt-F.Synchronized at lock curly xs) = from_line _ _ (line_at w (st_of (KStmt-F.Synchronized at lock curly xs))) (λ s e. refl)

  choice_case : (y : KChoice-F Ex St Ch Br Ca) → WholeChoice (choice_form w (roll-KChoice (record { labels = map (λ (x : Ex). x.0) y.labels; commas = y.commas; arrow = y.arrow; value = y.value.0 })))
  choice_case y = subst WholeChoice (sym (choice_at w (record { labels = map (λ (x : Ex). x.0) y.labels; commas = y.commas; arrow = y.arrow; value = y.value.0 }))) y.value.1

  pub whole : (x : KExpr) → WholeForm (form w x)
  whole = ind-KExpr (λ x. WholeForm (form w x)) (λ x. WholeLine (line w x)) (λ x. WholeChoice (choice_form w x)) (λ x. Unit {0}) (λ x. Unit {0})
      (λ x y is. subst (λ (z : KExpr-F KExpr KStmt KChoice KBranch KCatch). WholeForm (form w (roll-KExpr z))) is (expression_case y))
      (λ x y is. subst (λ (z : KStmt-F KExpr KStmt KChoice KBranch KCatch). WholeLine (line w (roll-KStmt z))) is (statement_case y))
      (λ x y is. subst (λ (z : KChoice-F KExpr KStmt KChoice KBranch KCatch). WholeChoice (choice_form w (roll-KChoice z))) is (choice_case y))
      (λ x y is. tt)
      (λ x y is. tt)
