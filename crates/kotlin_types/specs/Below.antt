-- Subtyping as a relation, and what tables of classes keep to.
use Rattle.std.specs.Prelude.{◌≡◌, ◌≢◌, ◌⊎◌, ◌<◌, ◌≤◌, ℕ, true, List, [], ◌∷◌}
use Rattle.kotlin_types.specs.declared.kinds.KHead.{KHead}
use Rattle.kotlin_types.specs.declared.kinds.KHead.TheVariants as head
use Rattle.kotlin_types.specs.declared.kinds.KKind.{KKind}
use Rattle.kotlin_types.specs.declared.classes.KClasses.{KClasses}
use Rattle.kotlin_types.specs.Types.{arguments_of, head_of, is_within, nullability_of}
use Rattle.kotlin_types.specs.Supertypes.{direct, takes_null}

abbrev pub IsIn : {A : Type 0} → A → List A → Type 0
IsIn x [] = ⊥
IsIn x (y ∷ ys) = (x ≡ y) ⊎ IsIn x ys

-- two types that are one but for the `?`, of which the second takes at least as much
pub record Widens (a b : KKind) : Type 0 where
  pub heads : head_of a ≡ head_of b
  pub arguments : arguments_of a ≡ arguments_of b
  pub nulls : is_within (nullability_of a) (nullability_of b) ≡ true

pub data Below (classes : KClasses) : KKind → KKind → Type 0 where
  nothing : (a b : KKind) → head_of a ≡ head.Nothing → takes_null (nullability_of a) (nullability_of b) ≡ true → Below classes a b
  wider : (a b : KKind) → Widens a b → Below classes a b
  up : (a s b : KKind) → IsIn s (direct classes a) → Below classes s b → Below classes a b

-- each head is higher than those of its direct supertypes, and none is higher than a walk is long, as on a table without cycles
abbrev pub HasHeights : KClasses → (KHead → ℕ) → Type 0
HasHeights classes height = ((x s : KKind) → IsIn s (direct classes x) → height (head_of s) < height (head_of x)) × ((h : KHead) → height h ≤ classes.steps)

-- nothing stands below `Nothing`
abbrev pub HasValues : KClasses → Type 0
HasValues classes = (x s : KKind) → IsIn s (direct classes x) → head_of s ≢ head.Nothing
