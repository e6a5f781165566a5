-- What Kotlin's texts read, assign and reach, and where they jump.
use Rattle.std.specs.Prelude.{ℕ, Bool, true, false, ◌&&◌, ◌==◌, List, [], ◌∷◌, length, Option, Some, None, if◌then◌else◌}
use Rattle.std.specs.Str.{bytes_eq}
use Rattle.kotlin_tree.specs.declared.places.Position.{Position}
use Rattle.kotlin_tree.specs.declared.types.KName.{KName}
use Rattle.flow.specs.Acts.{Act, Test, Does}
use Rattle.flow.specs.Analyses.{Use, Reaches}

-- A variable as a text names it: a local, by how many locals are in scope at its declaration; a property by `this` and a dot; one
-- behind a name that is no local, which may be that of a class with a companion; one of another value.
pub data Variable : Type 0 where
  Local : ℕ → Variable
  OfThis : List ℕ → Variable
  OfClass : List ℕ → List ℕ → Variable
  Distant : List ℕ → Variable

-- Where a jump goes: behind the innermost loop or that of a label; to the next round of these; out of the body; out of the lambda
-- of a `fun interface`; behind the innermost `synchronized` block.
pub data Target : Type 0 where
  Behind : Target
  BehindLabel : List ℕ → Target
  Next : Target
  NextLabel : List ℕ → Target
  Out : Target
  OutOf : List ℕ → Target
  Unlocked : Target

abbrev pub same_target : Target → Target → Bool
same_target Behind Behind = true
same_target (BehindLabel x) (BehindLabel y) = bytes_eq x y
same_target Next Next = true
same_target (NextLabel x) (NextLabel y) = bytes_eq x y
same_target Out Out = true
same_target (OutOf x) (OutOf y) = bytes_eq x y
same_target Unlocked Unlocked = true
same_target _ _ = false

abbrev pub KotlinUse : Type 0
KotlinUse = Use Variable Position

abbrev pub KotlinAct : Type 0
KotlinAct = Act KotlinUse Target

abbrev pub KotlinTest : Type 0
KotlinTest = Test KotlinUse Target

-- a statement begins
abbrev pub reached : Position → KotlinAct
reached at = Does (Reaches at)

-- ---- one variable

abbrev pub same_variable : Variable → Variable → Bool
same_variable (Local m) (Local n) = m == n
same_variable (OfThis x) (OfThis y) = bytes_eq x y
same_variable (OfClass c x) (OfClass d y) = bytes_eq c d && bytes_eq x y
same_variable (Distant x) (Distant y) = bytes_eq x y
same_variable _ _ = false

-- ---- the locals in scope at a place, the nearest first

abbrev pub Names : Type 0
Names = List (List ℕ)

-- the nearest of a name
abbrev pub local : List ℕ → Names → Option Variable
local x [] = None
local x (y ∷ more) = if bytes_eq x y then Some (Local (length more)) else local x more

abbrev pub entered : List KName → Names → Names
entered [] names = names
entered (x ∷ more) names = entered more (x.name ∷ names)

-- the variable of the local that is declared next
abbrev pub next : Names → Variable
next names = Local (length names)

-- a declaration: the name and where it stands, whether it is a `val`, whether it has a value
pub record Declaration : Type 0 where
  pub name : List ℕ
  pub at : Position
  pub is_val : Bool
  pub has_value : Bool

-- a local without a value, with what is done from its declaration on to the end of its block
pub record Blank : Type 0 where
  pub declared : Declaration
  pub variable : Variable
  pub does : KotlinAct
