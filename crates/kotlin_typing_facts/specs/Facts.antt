-- What is known of the parts of a well typed one: calls, choices, lambdas, loops, `try` and what `return` gives.
use Rattle.std.specs.Prelude.{◌≡◌, ◌⊎◌, ℕ, true, false, List, [], ◌∷◌, ◌++◌, map, Option, Some}
use Rattle.judged.specs.Notes.{faults_in}
use Rattle.j2k_base.specs.declared.constants.Kind.TheVariants as kind
use Rattle.kotlin_tree.specs.declared.types.KName.{KName}
use Rattle.kotlin_tree.specs.declared.types.KType.{KType}
use Rattle.kotlin_tree.specs.declared.expressions.KExpr.{KExpr}
use Rattle.kotlin_tree.specs.declared.expressions.KChoice.{KChoice, out-KChoice}
use Rattle.kotlin_tree.specs.declared.statements.KStmt.{KStmt}
use Rattle.kotlin_tree.specs.declared.statements.KBranch.{KBranch, out-KBranch}
use Rattle.kotlin_tree.specs.declared.statements.KCatch.{KCatch}
use Rattle.kotlin_types.specs.declared.kinds.KClassRef.{KClassRef}
use Rattle.kotlin_types.specs.declared.kinds.KKind.{KKind}
use Rattle.kotlin_types.specs.Types.{not_null, number, same_but_null}
use Rattle.kotlin_typing.specs.declared.scope.KLocal.{KLocal}
use Rattle.kotlin_typing.specs.declared.scope.KReturns.TheVariants as returns
use Rattle.kotlin_typing.specs.declared.scope.KScope.{KScope}
use Rattle.kotlin_typing.specs.declared.tables.KCallable.{KCallable}
use Rattle.kotlin_typing.specs.declared.tables.KFace.{KFace}
use Rattle.kotlin_typing.specs.declared.tables.KTables.{KTables}
use Rattle.kotlin_typing.specs.Scopes.{in_lambda, lambda_around}
use Rattle.kotlin_typing.specs.Written.{fits_class, written}
use Rattle.kotlin_typing.specs.Members.{all_below, chosen, constructors_of}
use Rattle.kotlin_typing.specs.Typing.{all_either, catch_form, face_of, form, is_abstract, is_null_taken, lambda_rows, leaves_lock, returned, returns_from, type_place, walked}
use Rattle.kotlin_typing.specs.Premises.{AllHave, AreTyped, HasType, IsPlaced, IsSureValue}

-- the type of a part at its place, as the evaluator asks for it
abbrev pub type_of : KTables → KScope → KExpr → Option KKind
type_of w s x = ((form w x).judge s).result

-- ---- calls

-- of these the most specific that takes the arguments; each argument's type is below its parameter's
pub record IsChosen (w : KTables) (s : KScope) (found : List KCallable) (xs : List KExpr) (k : KKind) : Type 0 where
  pub kinds : List KKind
  pub arguments : AllHave w s xs kinds
  pub callable : KCallable
  pub is : chosen w kinds found ≡ Some callable
  pub below : all_below w kinds callable.params ≡ true
  pub result : callable.result ≡ k

-- an instance is made of a class that isn't abstract, with type arguments within their bounds, by a constructor of it
pub record IsMade (w : KTables) (s : KScope) (c : KClassRef) (types : List KKind) (xs : List KExpr) (k : KKind) : Type 0 where
  pub concrete : is_abstract w c ≡ false
  pub bounded : fits_class w c types ≡ true
  pub made_by : IsChosen w s (constructors_of w s c types) xs k

-- ---- choices

-- each label has the type of the subject, but for the `?`
abbrev pub AreLabels : KTables → KScope → List KExpr → KKind → Type 0
AreLabels w s [] subject = Unit {0}
AreLabels w s (x ∷ xs) subject = ((k : KKind) × HasType w s x k × (same_but_null k subject ≡ true)) × AreLabels w s xs subject

-- the parts of an alternative
abbrev pub branch_labels : KBranch → List KExpr
branch_labels x = (out-KBranch x).labels

abbrev pub branch_statements : KBranch → List KStmt
branch_statements x = (out-KBranch x).statements

abbrev pub choice_labels : KChoice → List KExpr
choice_labels x = (out-KChoice x).labels

abbrev pub choice_value : KChoice → KExpr
choice_value x = (out-KChoice x).value

-- of each alternative the labels, and its statements or its value
abbrev pub AreBranches : KTables → KScope → List KBranch → KKind → Type 0
AreBranches w s [] subject = Unit {0}
AreBranches w s (x ∷ xs) subject = (AreLabels w s (branch_labels x) subject × AreTyped w s (branch_statements x)) × AreBranches w s xs subject

abbrev pub HaveLabels : KTables → KScope → List KChoice → KKind → Type 0
HaveLabels w s [] subject = Unit {0}
HaveLabels w s (x ∷ xs) subject = AreLabels w s (choice_labels x) subject × HaveLabels w s xs subject

-- a `when` as a value: its type is that of all its values, the one behind `else` the last
pub record IsChoice (w : KTables) (s : KScope) (subject : KExpr) (choices : List KChoice) (other : KExpr) (k : KKind) : Type 0 where
  pub of : KKind
  pub subject_is : HasType w s subject of
  pub labels : HaveLabels w s choices of
  pub kinds : List KKind
  pub values : AllHave w s (map choice_value choices ++ other ∷ []) kinds
  pub all : all_either w kinds ≡ Some k

-- ---- lambdas

-- as many names as the one method of its interface has parameters, and statements that stand within it, where `return` gives what
-- that method gives; the lambda has the type that is written, without null
pub record IsLambda (w : KTables) (s : KScope) (type : KType) (names : List KName) (xs : List KStmt) (k : KKind) : Type 0 where
  pub kind : KKind
  pub meant : (written w type s.path).result ≡ Some kind
  pub face : KFace
  pub is : face_of w kind ≡ Some face
  pub rows : List KLocal
  pub named : lambda_rows names face.params ≡ Some rows
  pub body : AreTyped w (in_lambda (type_place type).1 rows (returned face.result) s) xs
  pub result : not_null kind ≡ k

-- ---- casts and tests

-- what may be null is cast to no type without null
pub record IsCast (w : KTables) (s : KScope) (x : KExpr) (type : KType) (k : KKind) : Type 0 where
  pub of : KKind
  pub value : HasType w s x of
  pub meant : (written w type s.path).result ≡ Some k
  pub taken : is_null_taken (of, k) ≡ true

-- ---- loops

-- what is walked through isn't null, and its elements have a type
pub record IsWalked (w : KTables) (s : KScope) (x : KExpr) (element : KKind) : Type 0 where
  pub value : IsSureValue w s x
  pub is : walked w value.kind ≡ Some element

abbrev pub int : KKind
int = number kind.Int

-- ---- catches

-- nothing is noted of the catches of a `try`, in their order
abbrev pub AreCaught : KTables → KScope → List KCatch → Type 0
AreCaught w s [] = Unit {0}
AreCaught w s (x ∷ xs) = (faults_in ((catch_form w x).notes s) ≡ []) × AreCaught w s xs

-- ---- what `return` gives

-- out of no lambda, or out of one with the name of its interface; a value below what is to be given
pub record IsGiven (w : KTables) (s : KScope) (target : Option (List ℕ)) (x : KExpr) : Type 0 where
  pub leaves : returns_from (lambda_around s) target ≡ true
  pub want : KKind
  pub wanted : s.returns ≡ returns.Value want
  pub value : IsPlaced w s x want

-- without a value: out of a `synchronized`, or where no value is to be given, and out of no lambda or out of one with the name of its
-- interface
abbrev pub IsLeft : KTables → KScope → Option (List ℕ) → Type 0
IsLeft w s target = (leaves_lock s target ≡ true) ⊎ ((returns_from (lambda_around s) target ≡ true) × (s.returns ≡ returns.NoValue))
