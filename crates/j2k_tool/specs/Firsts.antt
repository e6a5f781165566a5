-- The first file that has a fault, among files that stand in an order.
use Rattle.std.specs.Prelude.{ℕ, List, [], ◌∷◌, ◌⊎◌}
use Rattle.j2k_base.specs.declared.places.Fault.{Fault}
use Rattle.j2k_base.specs.declared.series.SourceFile.{SourceFile}
use Rattle.j2k_tool.specs.Paths.{class_name, with_name}

-- Here `faults earlier file fault` says that a file has the fault, behind files of classes of these names.

-- it has none
abbrev pub HasNone : (List (List ℕ) → SourceFile → Fault → Type 0) → List (List ℕ) → SourceFile → Type 0
HasNone faults earlier file = (fault : Fault) → faults earlier file fault → ⊥

-- none of the files has one
abbrev pub NoneIn : (List (List ℕ) → SourceFile → Fault → Type 0) → List (List ℕ) → List SourceFile → Type 0
NoneIn faults earlier [] = Unit {0}
NoneIn faults earlier (file ∷ files) = HasNone faults earlier file × NoneIn faults (with_name earlier (class_name file.path)) files

-- it is the fault of the first of the files that has one
abbrev pub FirstIn : (List (List ℕ) → SourceFile → Fault → Type 0) → List (List ℕ) → List SourceFile → Fault → Type 0
FirstIn faults earlier [] fault = ⊥
FirstIn faults earlier (file ∷ files) fault =
    faults earlier file fault
    ⊎ (HasNone faults earlier file × FirstIn faults (with_name earlier (class_name file.path)) files fault)
