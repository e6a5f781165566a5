-- What a simple name of a class means in a file.
use Rattle.std.specs.Prelude.{◌≡◌, ℕ, Bool, true, false, nat_eq, if◌then◌else◌, List, [], ◌∷◌, Option, Some, None}
use Rattle.std.specs.Str.{bytes_eq}
use Rattle.std.specs.Option.{option_or}
use Rattle.java_classes.specs.declared.rows.ClassRow.{ClassRow}
use Rattle.java_type_names.specs.declared.classes.Meant.{Meant}
use Rattle.java_type_names.specs.declared.classes.Meant.TheVariants as m
use Rattle.java_type_names.specs.declared.scopes.Single.{Single}
use Rattle.java_type_names.specs.declared.scopes.FileScope.{FileScope}
use Rattle.java_type_names.specs.declared.scopes.Found.{Found}
use Rattle.java_type_names.specs.declared.scopes.Found.TheVariants as f
use Rattle.java_type_names.specs.Classes.{seen_at}

abbrev pub is_same : Meant → Meant → Bool
is_same (m.Library x) (m.Library y) = nat_eq x y
is_same (m.Project x) (m.Project y) = nat_eq x y
is_same _ _ = false

-- one more class that the name may mean
abbrev pub met : Found → Option Meant → Found
met found None = found
met f.Nothing (Some class) = f.One class
met (f.One first) (Some class) = if is_same first class then f.One first else f.Several
met f.Several (Some class) = f.Several

module _ (rows : List ClassRow) (from name : List ℕ) where
  abbrev pub demanded_from : Found → List (List ℕ) → Found
  demanded_from found [] = found
  demanded_from found (home ∷ homes) = demanded_from (met found (seen_at rows from home name)) homes

  -- the classes of several packages (JLS 7.5.2)
  abbrev pub demanded : List (List ℕ) → Found
  demanded homes = demanded_from f.Nothing homes

-- the class that is imported by the name (JLS 7.5.1)
abbrev pub single : List ℕ → List Single → Option Meant
single name [] = None
single name (x ∷ xs) = if bytes_eq x.name name then Some x.class else single name xs

abbrev pub nearest : Option Meant → Found → Found
nearest (Some class) demanded = f.One class
nearest None demanded = demanded

-- What is imported by its name shadows the classes of the package, and these shadow what is imported on demand
-- (JLS 6.4.1).
abbrev pub simple_class : List ClassRow → FileScope → List ℕ → Found
simple_class rows scope name =
    nearest (option_or (single name scope.singles) (seen_at rows scope.home scope.home name)) (demanded rows scope.home name scope.demands)

-- ---- in words

-- a package has no class of the name, or this one
abbrev pub Agrees : Meant → Option Meant → Type 0
Agrees class None = Unit {0}
Agrees class (Some other) = is_same class other ≡ true

abbrev pub AllAgree : List ClassRow → List ℕ → List ℕ → Meant → List (List ℕ) → Type 0
AllAgree rows from name class [] = Unit {0}
AllAgree rows from name class (home ∷ homes) = Agrees class (seen_at rows from home name) × AllAgree rows from name class homes

abbrev pub OfPackage : Option Meant → Meant → Type 0 → Type 0
OfPackage (Some found) class demanded = found ≡ class
OfPackage None class demanded = demanded

-- the class that the file imports by the name; where it imports none, that of its package; where there is none, the only
-- one of the packages that it imports on demand
abbrev pub IsOnly : List ClassRow → FileScope → List ℕ → Meant → Type 0
IsOnly rows scope name class =
    OfPackage (single name scope.singles) class (OfPackage (seen_at rows scope.home scope.home name) class (AllAgree rows scope.home name class scope.demands))
