-- What members do: initializers, constructors and functions (Kotlin, "Class declaration"; own rules where the text says so).
use Rattle.std.specs.Prelude.{ℕ, Bool, true, false, List, [], ◌∷◌, map, Option, Some, None}
use Rattle.kotlin_tree.specs.declared.types.KName.{KName}
use Rattle.kotlin_tree.specs.declared.expressions.KExpr.{KExpr}
use Rattle.kotlin_tree.specs.declared.statements.KBlock.{KBlock}
use Rattle.kotlin_tree.specs.declared.members.KParam.{KParam}
use Rattle.kotlin_tree.specs.declared.members.KParams.{KParams}
use Rattle.kotlin_tree.specs.declared.members.KCalled.{KCalled}
use Rattle.kotlin_tree.specs.declared.members.KCalled.TheVariants as called
use Rattle.kotlin_tree.specs.declared.members.KDelegation.{KDelegation}
use Rattle.kotlin_tree.specs.declared.members.KMember.{KMember, roll-KMember, fold-KMember}
use Rattle.kotlin_tree.specs.declared.members.KMember.TheOpen.{KMember-F}
use Rattle.flow.specs.Acts.{Skip, Does, Then, Block}
use Rattle.flow.specs.Analyses.{Assigns}
use Rattle.kotlin_flow.specs.Variables.{Variable, Out, KotlinAct, Names, Declaration, entered}
use Rattle.kotlin_flow.specs.Expressions.{done}
use Rattle.kotlin_flow.specs.Statements.{all_given, declaration}
use Rattle.kotlin_flow.specs.Texts.{said, body_does, values_do}

-- a member without the comments before it
abbrev pub bare_by : KMember-F (KMember-F KMember) → KMember-F KMember
bare_by (KMember-F.Commented comments member) = member
bare_by (KMember-F.Property modifiers declared value setter) = KMember-F.Property modifiers declared value setter
bare_by (KMember-F.Init at body) = KMember-F.Init at body
bare_by (KMember-F.Function modifiers at x params result body) = KMember-F.Function modifiers at x params result body
bare_by (KMember-F.Constructor modifiers at params first body) = KMember-F.Constructor modifiers at params first body
bare_by (KMember-F.Companion at members) = KMember-F.Companion at (map roll-KMember members)

unfoldable pub bare : KMember → KMember-F KMember
bare = fold-KMember (KMember-F KMember) bare_by

abbrev pub Bare : Type 0
Bare = KMember-F KMember

abbrev pub names_of : KParams → List KName
names_of x = map (λ (p : KParam). p.name) x.items

-- no local is in scope
abbrev pub no_names : Names
no_names = []

-- ---- initializers, which run in the order of the text, of an object or of a companion; a property of it by its name

module _ (own : List ℕ → Variable) where
  -- the value, and then the property has it
  abbrev pub part_does : Bare → KotlinAct
  part_does (KMember-F.Property modifiers declared (Some value) setter) = Then (done (said value.tree) no_names) (Does (Assigns (own declared.name.name) declared.name.at))
  part_does (KMember-F.Init at body) = body_does [] body.statements no_names
  part_does _ = Skip

  abbrev pub initializers : List Bare → KotlinAct
  initializers [] = Skip
  initializers (x ∷ more) = Then (part_does x) (initializers more)

-- ---- constructors

pub record Constructor : Type 0 where
  pub params : List KName
  pub first : Option KDelegation
  pub body : KBlock

abbrev pub constructors : List Bare → List Constructor
constructors [] = []
constructors (KMember-F.Constructor modifiers at params first body ∷ more) = record { params = names_of params; first = first; body = body } ∷ constructors more
constructors (_ ∷ more) = constructors more

abbrev pub calls_this : Option KDelegation → Bool
calls_this None = false
calls_this (Some d) = by d.called
  where
    by : KCalled → Bool
    by called.This = true
    by called.Super = false

abbrev pub arguments : Option KDelegation → List KExpr
arguments None = []
arguments (Some d) = d.arguments

-- its parameters, the arguments of the constructor that is called first, and its body, which `return` ends; `behind` runs behind
-- the arguments
abbrev pub constructor_with : KotlinAct → Constructor → KotlinAct
constructor_with behind k =
    Then (all_given k.params no_names) (Then (values_do (arguments k.first) (entered k.params no_names)) (Then behind (Block Out (body_does [] k.body.statements (entered k.params no_names)))))

-- the initializers run behind the arguments, unless another constructor of the class is called first
abbrev pub constructor_does : KotlinAct → Constructor → KotlinAct
constructor_does initializers k = by (calls_this k.first)
  where
    by : Bool → KotlinAct
    by true = constructor_with Skip k
    by false = constructor_with initializers k

-- ---- properties without a value

abbrev pub blank_properties : List Bare → List Declaration
blank_properties [] = []
blank_properties (KMember-F.Property modifiers declared None setter ∷ more) = declaration declared false ∷ blank_properties more
blank_properties (_ ∷ more) = blank_properties more

-- ---- functions

abbrev pub function_does : KParams → KBlock → KotlinAct
function_does params body = body_does (names_of params) body.statements no_names

-- what functions do, one beside the other
abbrev pub functions : List Bare → List KotlinAct
functions [] = []
functions (KMember-F.Function modifiers at x params result (Some body) ∷ more) = function_does params body ∷ functions more
functions (_ ∷ more) = functions more

-- the members of companions
abbrev pub companions : List Bare → List (List KMember)
companions [] = []
companions (KMember-F.Companion at members ∷ more) = members ∷ companions more
companions (_ ∷ more) = companions more
