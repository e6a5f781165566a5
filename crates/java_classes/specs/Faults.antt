-- The faults of the names of classes: declared twice (2), reserved (5), in a file of another name (6).
use Rattle.std.specs.Prelude.{ℕ, Bool, false, ◌&&◌, ◌||◌, not, if◌then◌else◌, is_some, List, [], ◌∷◌, ◌++◌, codes}
use Rattle.std.specs.Str.{bytes_eq}
use Rattle.std.specs.List.{list_any}
use Rattle.java_tree.specs.declared.tokens.Position.{Position}
use Rattle.kotlin_words.specs.Words.{reserved_names, contains_word}
use Rattle.java_lib.specs.Library.{classes}
use Rattle.java_lib.specs.Classes.{class_simple}
use Rattle.java_classes.specs.declared.rows.ClassRow.{ClassRow}
use Rattle.java_classes.specs.declared.faults.NameFault.{NameFault}
use Rattle.java_classes.specs.Classes.{is_package}

abbrev pub fault_if : Bool → ℕ → Position → ℕ → List NameFault
fault_if is unit at number = if is then record { unit = unit; at = at; number = number } ∷ [] else []

-- a name that a class or a type parameter may not have (own rule): it is the root of Java's packages, or has a meaning
-- of its own in Kotlin or in the library
abbrev pub is_reserved : List ℕ → Bool
is_reserved name = bytes_eq name (codes "java") || contains_word reserved_names name || is_some (class_simple name classes)

-- a package has the qualified name of the class (JLS 7.1); the unnamed package holds none
abbrev pub is_also_package : List (List ℕ) → List ℕ → List ℕ → Bool
is_also_package packages [] name = false
is_also_package packages (first ∷ rest) name = is_package packages (((first ∷ rest) ++ codes ".") ++ name)

abbrev pub faults_of : List (List ℕ) → Bool → ClassRow → List NameFault
faults_of packages is_first x =
    fault_if (not is_first || is_also_package packages x.home x.name) x.unit x.at 2
    ++ (fault_if (is_reserved x.name) x.unit x.at 5 ++ fault_if (x.is_public && not x.has_file) x.unit x.at 6)

-- no earlier class has the name
abbrev pub is_first : List (List ℕ) → List ℕ → Bool
is_first seen name = not (list_any (bytes_eq name) seen)

-- behind the classes whose names were seen
abbrev pub faults_from : List (List ℕ) → List (List ℕ) → List ClassRow → List NameFault
faults_from packages seen [] = []
faults_from packages seen (x ∷ xs) = faults_of packages (is_first seen x.name) x ++ faults_from packages (if is_first seen x.name then seen ++ x.name ∷ [] else seen) xs

-- no two classes of a project have one simple name (own rule for classes of two packages, else JLS 7.6)
abbrev pub class_faults : List (List ℕ) → List ClassRow → List NameFault
class_faults packages rows = faults_from packages [] rows
