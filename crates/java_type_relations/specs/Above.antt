-- Supertypes (JLS 4.10.2): those that are declared, with the arguments in the place of the parameters, the bound of a type
-- parameter, and those above these.
use Rattle.std.specs.Prelude.{◌≡◌, ◌⊎◌, ◌<◌, ℕ, zero, suc, true, List, [], ◌∷◌, ◌++◌, Some}
use Rattle.java_typed.specs.declared.types.ClassRef.{ClassRef}
use Rattle.java_typed.specs.declared.types.TType.{TType}
use Rattle.java_typed.specs.declared.types.TType.TheVariants as t
use Rattle.java_typed.specs.declared.types.ClassRef.TheVariants as class
use Rattle.java_type_relations.specs.declared.heads.Head.{Head}
use Rattle.java_type_relations.specs.declared.heads.Heads.{Heads}
use Rattle.java_type_relations.specs.declared.supers.Sought.{Sought}
use Rattle.java_type_relations.specs.declared.supers.Sought.TheVariants as sought
use Rattle.java_type_relations.specs.Types.{put}
use Rattle.java_type_relations.specs.Heads.{bound_in, supers_in}
use Rattle.java_type_relations.specs.Supers.{is_alike}

abbrev pub IsIn : {A : Type 0} → A → List A → Type 0
IsIn x [] = ⊥
IsIn x (y ∷ ys) = (x ≡ y) ⊎ IsIn x ys

-- the second is a direct supertype of the first
pub data Direct (heads : Heads) : TType → TType → Type 0 where
  of_class : (c : ClassRef) (args : List TType) (s : TType) → IsIn s (supers_in heads c) → Direct heads (t.Class c args) (put c args s)
  of_parameter : (c : ClassRef) (n : ℕ) (bound : TType) → bound_in heads c n ≡ Some bound → Direct heads (t.Variable c n) bound

-- the second is the first or stands above it
pub data Above (heads : Heads) : TType → TType → Type 0 where
  itself : (x : TType) → Above heads x x
  up : (x y z : TType) → Above heads x y → Direct heads y z → Above heads x z

-- the second is reached from the first by so many steps
pub data Climbs (heads : Heads) (x : TType) : ℕ → TType → Type 0 where
  here : Climbs heads x zero x
  on : (n : ℕ) (y z : TType) → Climbs heads x n y → Direct heads y z → Climbs heads x (suc n) z

-- ---- what tables of classes keep to

-- no way up takes as many steps as a walk may take
abbrev pub IsBounded : Heads → Type 0
IsBounded heads = (x y : TType) (n : ℕ) → Climbs heads x n y → n < heads.steps

-- a class stands below classes, and not below type parameters (JLS 8.1.4, 8.1.5)
abbrev pub HasClassesAbove : Heads → Type 0
HasClassesAbove heads = (c : ClassRef) (s : TType) → IsIn s (supers_in heads c) → (d : ClassRef) × (inner : List TType) × (s ≡ t.Class d inner)

-- of each class one parameterization at most stands above a type (JLS 8.1.5)
abbrev pub HasOneOfEach : Heads → Type 0
HasOneOfEach heads = (x y z : TType) → Above heads x y → Above heads x z → is_alike y z ≡ true → y ≡ z

-- each type is higher than its direct supertypes, and all are lower than a walk may be long, as on a table without cycles (JLS 8.1.4)
abbrev pub HasHeights : Heads → (TType → ℕ) → Type 0
HasHeights heads height = ((x y : TType) → Direct heads x y → height y < height x) × ((x : TType) → height x < heads.steps)

-- no class and no type parameter stands above itself (JLS 8.1.4, 4.4)
abbrev pub IsAcyclic : Heads → Type 0
IsAcyclic heads = (x y : TType) (n : ℕ) → Climbs heads x (suc n) y → is_alike x y ≡ true → ⊥

abbrev pub parameters_from : ClassRef → ℕ → List TType → List Sought
parameters_from c n [] = []
parameters_from c n (bound ∷ bounds) = sought.Variable c n ∷ parameters_from c (suc n) bounds

abbrev pub nodes_from : (ℕ → ClassRef) → ℕ → List Head → List Sought
nodes_from numbered n [] = []
nodes_from numbered n (head ∷ heads) = sought.Class (numbered n) ∷ (parameters_from (numbered n) 0 head.bounds ++ nodes_from numbered (suc n) heads)

-- the classes and the type parameters of a table
abbrev pub nodes : Heads → List Sought
nodes heads = nodes_from class.Library 0 heads.library ++ nodes_from class.Project 0 heads.project
