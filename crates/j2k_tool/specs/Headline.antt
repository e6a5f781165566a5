-- The headline: what stands after a conversion.
use Rattle.std.specs.Prelude.{◌≡◌, ℕ, ◌++◌, List, [], ◌∷◌, length, Option, Some}
use Rattle.std.specs.List.{flat_map}
use Rattle.j2k_io.specs.Disks.{Files, in_folder, with_files}
use Rattle.meanings.specs.declared.kotlin.KFile.{KFile}
use Rattle.meanings.specs.KSpells.{KSpells}
use Rattle.meanings.specs.Taken.{AllTaken}
use Rattle.meanings.specs.SameSteps.{SameSteps, EntriesAreEntered}
use Rattle.meanings.specs.Static.{KTyped}
use Rattle.j2k_tool.specs.declared.files.TakenFile.{TakenFile}
use Rattle.j2k_tool.specs.Texts.{report_name}
use Rattle.j2k_tool.specs.Paths.{kotlin_path}
use Rattle.j2k_tool.specs.Projects.{IsProject, trees_of}
use Rattle.j2k_tool.specs.Report.{Choices, ReportText}
use Rattle.j2k_tool.specs.Words.{words_mean}

-- The Kotlin file of a Java file: its place, and that it spells one Kotlin file.
pub record IsWritten (dst : List ℕ) (java : TakenFile) (kotlin : KFile) (file : List ℕ × List ℕ) : Type 0 where
  pub place : file.0 ≡ in_folder dst (kotlin_path java.path)
  pub spelled : KSpells kotlin file.1
  pub one_kotlin : (other : KFile) → KSpells other file.1 → other ≡ kotlin

-- one file for each
abbrev pub AreWritten : List ℕ → List TakenFile → List KFile → List (List ℕ × List ℕ) → Type 0
AreWritten dst [] [] [] = Unit {0}
AreWritten dst (taken ∷ java) (made ∷ kotlin) (file ∷ files) = IsWritten dst taken made file × AreWritten dst java kotlin files
AreWritten dst java kotlin files = ⊥

-- The words convert one folder to another. The files under the first spell Java units, one each, whose typed trees are of the forms that
-- are taken. A Kotlin file for each, in the same folder, and a report were written under the second, and nothing else changed. Each Kotlin
-- file spells one Kotlin file tree. Together these are well typed, and, for every entry point, fitting input, schedule and bound, they make
-- exactly the steps of the Java files under the recorded names.
pub record Headline (words : List (List ℕ)) (files : Files) (new : Option Files) : Type 0 where
  pub src : List ℕ
  pub dst : List ℕ
  pub means : words_mean words ≡ Some (src, dst)
  pub java : List TakenFile
  pub project : IsProject src files java
  pub one_java : (other : List TakenFile) → IsProject src files other → other ≡ java
  pub taken : AllTaken (trees_of java)
  pub kotlin : List KFile
  pub written : List (List ℕ × List ℕ)
  pub made : new ≡ with_files (Some files) (written ++ (in_folder dst report_name, ReportText (length java) (flat_map Choices java)) ∷ [])
  pub spelled : AreWritten dst java kotlin written
  pub typed : KTyped kotlin
  pub steps : SameSteps (trees_of java) project.sources.entries kotlin
  pub entered : EntriesAreEntered (trees_of java) project.sources.entries kotlin
