-- What one file of a project is that spells a unit.
use Rattle.std.specs.Prelude.{◌≡◌, ℕ, List}
use Rattle.j2k_base.specs.declared.places.Fault.{Fault}
use Rattle.j2k_base.specs.declared.series.SourceFile.{SourceFile}
use Rattle.java_tree.specs.declared.tokens.Position.{Position}
use Rattle.java_unit_grammar.specs.declared.units.JUnit.{JUnit}
use Rattle.java_project.specs.Files.{HasUnit}
use Rattle.java_taken.specs.Judged.{Judged}
use Rattle.java_taken.specs.Units.{unit}
use Rattle.j2k_tool.specs.declared.files.TakenFile.{TakenFile}
use Rattle.j2k_tool.specs.declared.files.Found.{Found}
use Rattle.j2k_tool.specs.declared.files.Found.TheVariants as found
use Rattle.j2k_faults.specs.Faults.{not_built}

-- Each of these relates a file, behind files of classes of these names, to a fault.

module _ (classes : List (List ℕ)) where
  -- among classes of these names it holds a form that isn't taken yet
  pub record HasOpenForm (earlier : List (List ℕ)) (file : SourceFile) (fault : Fault) : Type 0 where
    pub spelled : JUnit
    pub has : HasUnit file spelled
    pub at : Position
    pub opened : unit classes earlier spelled ≡ Judged.Open at
    pub is : fault ≡ not_built file.path at

  -- it is taken
  pub record IsTaken (earlier : List (List ℕ)) (file : SourceFile) (taken : TakenFile) : Type 0 where
    pub path : taken.path ≡ file.path
    pub spelled : JUnit
    pub has : HasUnit file spelled
    pub typed : unit classes earlier spelled ≡ Judged.Typed taken.typed

  -- what is found of a file
  abbrev pub IsFound : List (List ℕ) → SourceFile → Found → Type 0
  IsFound earlier file (found.Open fault) = HasOpenForm earlier file fault
  IsFound earlier file (found.Taken taken) = IsTaken earlier file taken
