-- Places of a body. Each way from one place to the next is a function of this file, and nothing else makes a scope of a scope.
use Rattle.std.specs.Prelude.{ℕ, Bool, true, false, ◌||◌, if◌then◌else◌, List, [], ◌∷◌, ◌++◌, Option, Some, None, bytes_eq}
use Rattle.kotlin_types.specs.declared.kinds.KKind.{KKind}
use Rattle.kotlin_typing.specs.declared.scope.KLocal.{KLocal}
use Rattle.kotlin_typing.specs.declared.scope.KAround.{KAround}
use Rattle.kotlin_typing.specs.declared.scope.KAround.TheVariants as around
use Rattle.kotlin_typing.specs.declared.scope.KReturns.{KReturns}
use Rattle.kotlin_typing.specs.declared.scope.KPart.{KPart}
use Rattle.kotlin_typing.specs.declared.scope.KPart.TheVariants as part
use Rattle.kotlin_typing.specs.declared.scope.KStore.TheVariants as store
use Rattle.kotlin_typing.specs.declared.scope.KScope.{KScope}

-- ---- the nearest variable of a name

abbrev pub nearer : Option KLocal → KLocal → List ℕ → Option KLocal
nearer (Some found) row name = Some found
nearer None row name = if bytes_eq row.name name then Some row else None

abbrev pub nearest : List ℕ → List KLocal → Option KLocal
nearest name [] = None
nearest name (row ∷ rows) = nearer (nearest name rows) row name

-- ---- from place to place

abbrev pub with_local : KScope → KLocal → KScope
with_local s row = record s { locals = s.locals ++ row ∷ [] }

abbrev pub with_locals : KScope → List KLocal → KScope
with_locals s rows = record s { locals = s.locals ++ rows }

abbrev pub within : KAround → KScope → KScope
within a s = record s { around = s.around ++ a ∷ [] }

-- behind a statement
abbrev pub declared : KScope → Option KLocal → KScope
declared s None = s
declared s (Some row) = with_local s row

abbrev pub in_loop : Option (List ℕ) → KScope → KScope
in_loop label s = within (around.Loop label) s

abbrev pub in_run : KScope → KScope
in_run s = within around.Run s

abbrev pub in_lock : KScope → KScope
in_lock s = within around.Lock s

-- the body of a lambda, with its parameters and what its method gives
abbrev pub in_lambda : List ℕ → List KLocal → KReturns → KScope → KScope
in_lambda face rows given s = within (around.Lambda face) (with_locals (record s { returns = given }) rows)

-- a parameter, or the variable of a loop or a catch
abbrev pub parameter : List ℕ → KKind → KLocal
parameter name kind = record { name = name; kind = kind; store = store.Fixed; is_parameter = true }

abbrev pub with_parameter : List ℕ → Option KKind → KScope → KScope
with_parameter name None s = s
with_parameter name (Some kind) s = with_local s (parameter name kind)

-- a place where an expression is true, and where it is false; no test changes a type
abbrev pub past_yes : KScope → KScope
past_yes s = s

abbrev pub past_no : KScope → KScope
past_no s = s

-- a place behind an expression
abbrev pub past : KScope → KScope
past s = s

-- ---- what is around

-- whether a jump to a label, or to the nearest loop, means a loop with this label or none
abbrev pub is_meant : Option (List ℕ) → Option (List ℕ) → Bool
is_meant None label = true
is_meant (Some name) None = false
is_meant (Some name) (Some label) = bytes_eq name label

-- whether the jump finds its loop and no block of a `run`, a lambda or a `synchronized` before it
abbrev pub reaches_from : Option (List ℕ) → Bool → List KAround → Bool
reaches_from label found [] = found
reaches_from label found (around.Loop l ∷ more) = reaches_from label (found || is_meant label l) more
reaches_from label found (around.Run ∷ more) = reaches_from label false more
reaches_from label found (around.Lambda face ∷ more) = reaches_from label false more
reaches_from label found (around.Lock ∷ more) = reaches_from label false more

abbrev pub reaches : Option (List ℕ) → KScope → Bool
reaches label s = reaches_from label false s.around

-- the interface of the nearest lambda
abbrev pub lambda_from : Option (List ℕ) → List KAround → Option (List ℕ)
lambda_from found [] = found
lambda_from found (around.Loop l ∷ more) = lambda_from found more
lambda_from found (around.Run ∷ more) = lambda_from found more
lambda_from found (around.Lambda face ∷ more) = lambda_from (Some face) more
lambda_from found (around.Lock ∷ more) = lambda_from found more

abbrev pub lambda_around : KScope → Option (List ℕ)
lambda_around s = lambda_from None s.around

-- whether a `synchronized` stands around, and no lambda within it
abbrev pub lock_from : Bool → List KAround → Bool
lock_from found [] = found
lock_from found (around.Loop l ∷ more) = lock_from found more
lock_from found (around.Run ∷ more) = lock_from found more
lock_from found (around.Lambda face ∷ more) = lock_from false more
lock_from found (around.Lock ∷ more) = lock_from true more

abbrev pub is_locked : KScope → Bool
is_locked s = lock_from false s.around

-- ---- parts of a class

abbrev pub has_this : KPart → Bool
has_this part.Companion = false
has_this part.CompanionInitializer = false
has_this p = true

-- where a `val` of the object may be stored to, and where one of the companion
abbrev pub initializes : KPart → Bool
initializes part.Constructor = true
initializes part.Initializer = true
initializes p = false

abbrev pub initializes_companion : KPart → Bool
initializes_companion part.CompanionInitializer = true
initializes_companion p = false
