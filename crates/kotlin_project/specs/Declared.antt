-- The classes that files declare, by their places, and what names them (Kotlin specification, "Packages and imports", "Linked
-- scopes": explicit imports first, then the package, then what every file imports).
use Rattle.std.specs.Prelude.{ℕ, zero, suc, List, [], ◌∷◌, ◌++◌, map, find, Option, Some, None}
use Rattle.std.specs.List.{filter}
use Rattle.kotlin_tree.specs.declared.types.KName.{KName}
use Rattle.kotlin_tree.specs.declared.files.KClass.{KClass}
use Rattle.kotlin_tree.specs.declared.files.KFile.{KFile}
use Rattle.kotlin_tree.specs.declared.files.KImport.{KImport}
use Rattle.kotlin_tree.specs.declared.files.KPackage.{KPackage}
use Rattle.kotlin_tree.specs.declared.files.KTypeParam.{KTypeParam}
use Rattle.kotlin_tree.specs.declared.files.KTypeParams.{KTypeParams}
use Rattle.kotlin_types.specs.declared.kinds.KClassRef.{KClassRef}
use Rattle.kotlin_types.specs.declared.kinds.KClassRef.TheVariants as class
use Rattle.kotlin_typing.specs.declared.tables.KClassName.{KClassName}
use Rattle.kotlin_typing.specs.declared.tables.KTypeVariable.{KTypeVariable}
use Rattle.kotlin_typing.specs.Written.{Path, path_of, same_path}
use Rattle.kotlin_typing.specs.Typing.{last_of}

-- a class in its file
pub record Declared : Type 0 where
  pub file : KFile
  pub class : KClass

abbrev pub in_file : KFile → KClass → Declared
in_file f c = record { file = f; class = c }

abbrev pub declared : List KFile → List Declared
declared [] = []
declared (f ∷ fs) = map (in_file f) f.classes ++ declared fs

-- a class with its number, which is its place among all classes
pub record Numbered : Type 0 where
  pub number : ℕ
  pub is : Declared

abbrev pub numbered_from : ℕ → List Declared → List Numbered
numbered_from n [] = []
numbered_from n (d ∷ ds) = record { number = n; is = d } ∷ numbered_from (suc n) ds

abbrev pub numbered : List KFile → List Numbered
numbered files = numbered_from zero (declared files)

abbrev pub ref : Numbered → KClassRef
ref n = class.Project n.number

-- ---- names

abbrev pub package_by : Option KPackage → Path
package_by None = []
package_by (Some p) = path_of p.name

abbrev pub package_of : KFile → Path
package_of f = package_by f.«package»

abbrev pub simple_name : Declared → List ℕ
simple_name d = d.class.name.name

abbrev pub full_name : Declared → Path
full_name d = package_of d.file ++ simple_name d ∷ []

abbrev pub called : List Numbered → Path → Option Numbered
called all path = find (λ (n : Numbered). same_path (full_name n.is) path) all

abbrev pub row : Path → KClassRef → KClassName
row path c = record { path = path; class = c }

abbrev pub full_rows : List Numbered → List KClassName
full_rows all = map (λ (n : Numbered). row (full_name n.is) (ref n)) all

-- what stands in the package is named without it
abbrev pub package_rows : List Numbered → Path → List KClassName
package_rows all name = map (λ (n : Numbered). row (simple_name n.is ∷ []) (ref n)) (filter (λ (n : Numbered). same_path (package_of n.is.file) name) all)

abbrev pub import_path : KImport → Path
import_path x = path_of x.name

abbrev pub imported : List KClassName → Path → Option KClassName
imported known path = find (λ (x : KClassName). same_path x.path path) known

abbrev pub import_row : Path → Option KClassName → List KClassName
import_row path None = []
import_row path (Some x) = row (last_of [] path ∷ []) x.class ∷ []

abbrev pub import_rows : List KClassName → List KImport → List KClassName
import_rows known [] = []
import_rows known (x ∷ xs) = import_row (import_path x) (imported known (import_path x)) ++ import_rows known xs

-- the names of classes in a file, nearer ones first; `library` names those of the library
abbrev pub names_in : List KClassName → List Numbered → KFile → List KClassName
names_in library all file = import_rows (full_rows all ++ library) file.imports ++ (package_rows all (package_of file) ++ (library ++ full_rows all))

-- ---- type parameters

abbrev pub params_by : Option KTypeParams → List KTypeParam
params_by None = []
params_by (Some x) = x.items

abbrev pub params_of : KClass → List KTypeParam
params_of x = params_by x.params

abbrev pub variables_from : KClassRef → ℕ → List KTypeParam → List KTypeVariable
variables_from c n [] = []
variables_from c n (x ∷ xs) = record { name = x.name.name; class = c; place = n } ∷ variables_from c (suc n) xs
