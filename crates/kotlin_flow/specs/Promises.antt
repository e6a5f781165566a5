-- What is said of the runs of a text in which nothing is at fault.
use Rattle.std.specs.Prelude.{◌≡◌, ◌≤◌, Bool, true, false}
use Rattle.flow.specs.Runs.{Events, End, Normal, Runs, FindsAssigned, times, NoneLater}
use Rattle.kotlin_flow.specs.Variables.{Variable, same_variable, Target, KotlinUse, KotlinAct, Blank}

-- no run reads the variable before it is assigned
abbrev pub ReadsAssigned : (Variable → Bool) → KotlinAct → Type 0
ReadsAssigned is x = (es : Events KotlinUse) (e : End Target) → Runs x es e → FindsAssigned is false es

-- no run assigns the variable twice, nor makes a lambda that assigns it
abbrev pub AssignsOnce : (Variable → Bool) → KotlinAct → Type 0
AssignsOnce is x = (es : Events KotlinUse) (e : End Target) → Runs x es e → (times is es ≤ 1) × NoneLater is es

-- no run assigns the variable
abbrev pub AssignsNever : (Variable → Bool) → KotlinAct → Type 0
AssignsNever is x = (es : Events KotlinUse) (e : End Target) → Runs x es e → times is es ≡ 0

-- each run that ends has assigned the variable
abbrev pub IsAssigned : (Variable → Bool) → KotlinAct → Type 0
IsAssigned is x = (es : Events KotlinUse) → Runs x es Normal → 1 ≤ times is es

-- no run ends but by a jump or an exception
abbrev pub NeverEnds : KotlinAct → Type 0
NeverEnds x = (es : Events KotlinUse) → Runs x es Normal → ⊥

-- a local without a value is read behind an assignment, and a `val` is assigned once
pub record Kept (b : Blank) : Type 0 where
  pub reads : ReadsAssigned (same_variable b.variable) b.does
  pub once : b.declared.is_val ≡ true → AssignsOnce (same_variable b.variable) b.does
