-- Which files of this form are well typed Java.
use Rattle.std.specs.Prelude.{◌≡◌, true, false, List, [], ◌∷◌, Option, Some, None, option_map, filter_map}
use Rattle.java_typed.specs.declared.exprs.TExpr.{TExpr, every-TExpr}
use Rattle.java_typed.specs.declared.exprs.TExpr.TheOpen.{TExpr-F}
use Rattle.java_typed.specs.declared.units.TUnit.{TUnit}
use Rattle.meanings.specs.Taken.{Statement, Declares, Prints, Untaken, MainMethod, MainClass, class_in}
use Rattle.meanings.specs.Values.{Name, same_name, is_among, Differ}

-- a use of a local stands after its declaration (JLS 6.3); these are the names of the locals declared before, all `int`
abbrev pub known_by : List Name → TExpr-F TExpr → Type 0
known_by locals (TExpr-F.Local name at k) = is_among locals name ≡ true
known_by locals _ = Unit {0}

-- each name of an expression is a local declared before (JLS 6.3)
unfoldable pub Knows : List Name → TExpr → Type 0
Knows locals = every-TExpr (known_by locals)

-- a local has another name than the parameter and each local before it (JLS 6.4), and its initializer uses only those before it (JLS 16)
abbrev pub AreTyped : Name → List Name → List Statement → Type 0
AreTyped parameter locals [] = Unit {0}
AreTyped parameter locals (Declares name value ∷ more) =
    (same_name parameter name ≡ false) × (is_among locals name ≡ false) × Knows locals value × AreTyped parameter (name ∷ locals) more
AreTyped parameter locals (Prints value ∷ more) = Knows locals value × AreTyped parameter locals more
AreTyped parameter locals (Untaken ∷ more) = ⊥

-- a `main`, where there is one, whose statements are so
abbrev pub MainIsTyped : Option MainMethod → Type 0
MainIsTyped None = Unit {0}
MainIsTyped (Some main) = AreTyped main.parameter [] main.body

-- a class, where there is one, whose `main` is well typed
abbrev pub ClassIsTyped : Option MainClass → Type 0
ClassIsTyped None = Unit {0}
ClassIsTyped (Some class) = MainIsTyped class.main

-- a file whose class is well typed
abbrev pub IsTypedFile : TUnit → Type 0
IsTypedFile file = ClassIsTyped (class_in file)

-- each file's class is well typed
abbrev pub AllAreTyped : List TUnit → Type 0
AllAreTyped [] = Unit {0}
AllAreTyped (file ∷ files) = IsTypedFile file × AllAreTyped files

-- the simple names of the classes of files
abbrev pub class_names : List TUnit → List Name
class_names files = filter_map (λ file. option_map (λ (class : MainClass). class.name) (class_in file)) files

-- the classes of the files are well typed, and no two of them have one simple name (own rule)
pub record JTyped (files : List TUnit) : Type 0 where
  pub classes : AllAreTyped files
  pub names : Differ (class_names files)
