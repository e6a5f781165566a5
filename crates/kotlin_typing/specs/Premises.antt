-- What a well typed part is, and what is known of its parts, construct by construct.
use Rattle.std.specs.Prelude.{◌≡◌, ℕ, true, false, List, [], ◌∷◌, ◌++◌, map, Option, Some, bytes_eq}
use Rattle.judged.specs.Notes.{faults_in}
use Rattle.kotlin_tree.specs.declared.expressions.KExpr.{KExpr}
use Rattle.kotlin_tree.specs.declared.statements.KStmt.{KStmt}
use Rattle.kotlin_types.specs.declared.kinds.KKind.{KKind}
use Rattle.kotlin_types.specs.Types.{is_sure, string}
use Rattle.kotlin_types.specs.Supertypes.{is_subtype}
use Rattle.kotlin_typing.specs.declared.scope.KLocal.{KLocal}
use Rattle.kotlin_typing.specs.declared.scope.KAround.{KAround}
use Rattle.kotlin_typing.specs.declared.scope.KAround.TheVariants as around
use Rattle.kotlin_typing.specs.declared.scope.KScope.{KScope}
use Rattle.kotlin_typing.specs.declared.tables.KCallable.{KCallable}
use Rattle.kotlin_typing.specs.declared.tables.KTables.{KTables}
use Rattle.kotlin_typing.specs.Scopes.{declared, is_meant}
use Rattle.kotlin_typing.specs.Members.{all_below, callables_of, chosen}
use Rattle.kotlin_typing.specs.Forms.{Stored, lines_notes}
use Rattle.kotlin_typing.specs.Typing.{form, given_by, is_text, line, property_of}

-- no fault is noted of an expression at a place
abbrev pub IsTyped : KTables → KScope → KExpr → Type 0
IsTyped w s x = faults_in ((form w x).judge s).notes ≡ []

-- nor of a statement, nor of statements in their order
abbrev pub IsTypedStatement : KTables → KScope → KStmt → Type 0
IsTypedStatement w s x = faults_in ((line w x).notes s) ≡ []

abbrev pub AreTyped : KTables → KScope → List KStmt → Type 0
AreTyped w s xs = faults_in (lines_notes (map (line w) xs) s) ≡ []

-- the place behind a statement
abbrev pub behind_statement : KTables → KScope → KStmt → KScope
behind_statement w s x = declared s (line w x).declares

pub record HasType (w : KTables) (s : KScope) (x : KExpr) (k : KKind) : Type 0 where
  pub clean : IsTyped w s x
  pub is : ((form w x).judge s).result ≡ Some k

-- a value stands where a type is wanted: its type is below that one
pub record IsPlaced (w : KTables) (s : KScope) (x : KExpr) (want : KKind) : Type 0 where
  pub kind : KKind
  pub typed : HasType w s x kind
  pub below : is_subtype w.classes kind want ≡ true

-- a value of which a member is named: it isn't null
pub record IsSureValue (w : KTables) (s : KScope) (x : KExpr) : Type 0 where
  pub kind : KKind
  pub typed : HasType w s x kind
  pub sure : is_sure kind ≡ true

abbrev pub AllHave : KTables → KScope → List KExpr → List KKind → Type 0
AllHave w s [] [] = Unit {0}
AllHave w s [] (k ∷ ks) = ⊥
AllHave w s (x ∷ xs) [] = ⊥
AllHave w s (x ∷ xs) (k ∷ ks) = HasType w s x k × AllHave w s xs ks

-- ---- names

-- the row is of that name, it stands among these, and behind it stands none of that name
pub record IsNearest (name : List ℕ) (rows : List KLocal) (row : KLocal) : Type 0 where
  pub before : List KLocal
  pub after : List KLocal
  pub among : rows ≡ before ++ row ∷ after
  pub named : bytes_eq row.name name ≡ true
  pub last : (other : KLocal) (some more : List KLocal) → after ≡ some ++ other ∷ more → bytes_eq other.name name ≡ false

-- ---- members

-- the property that is read
pub record IsRead (w : KTables) (s : KScope) (x : KExpr) (name : List ℕ) (k : KKind) : Type 0 where
  pub object : IsSureValue w s x
  pub found : Stored
  pub is : property_of w s (form w x).is_this name object.kind ≡ Some found
  pub kind : found.kind ≡ k

-- the callable that is called: each argument's type is below its parameter's
pub record IsCalled (w : KTables) (s : KScope) (name : List ℕ) (object : KKind) (arguments : List KKind) (k : KKind) : Type 0 where
  pub callable : KCallable
  pub chosen_of_all : chosen w arguments (callables_of w s name object) ≡ Some callable
  pub below : all_below w arguments callable.params ≡ true
  pub result : callable.result ≡ k

-- `toString()` of any value; else the receiver isn't null, and the member is given with the language or chosen
pub data Means (w : KTables) (s : KScope) (name : List ℕ) (object : KKind) (arguments : List KKind) (k : KKind) : Type 0 where
  text : is_text name arguments ≡ true → string ≡ k → Means w s name object arguments k
  given : is_sure object ≡ true → given_by name object arguments ≡ Some k → Means w s name object arguments k
  called : is_sure object ≡ true → IsCalled w s name object arguments k → Means w s name object arguments k

pub record IsMethodCall (w : KTables) (s : KScope) (x : KExpr) (name : List ℕ) (xs : List KExpr) (k : KKind) : Type 0 where
  pub object : KKind
  pub typed : HasType w s x object
  pub kinds : List KKind
  pub arguments : AllHave w s xs kinds
  pub means : Means w s name object kinds k

-- ---- jumps

abbrev pub AreLoops : List KAround → Type 0
AreLoops [] = Unit {0}
AreLoops (around.Loop label ∷ more) = AreLoops more
AreLoops (around.Run ∷ more) = ⊥
AreLoops (around.Lambda face ∷ more) = ⊥
AreLoops (around.Lock ∷ more) = ⊥

-- the loop that a jump means, and nothing but loops within it
pub record FindsLoop (target : Option (List ℕ)) (all : List KAround) : Type 0 where
  pub before : List KAround
  pub after : List KAround
  pub label : Option (List ℕ)
  pub among : all ≡ before ++ around.Loop label ∷ after
  pub meant : is_meant target label ≡ true
  pub loops : AreLoops after
