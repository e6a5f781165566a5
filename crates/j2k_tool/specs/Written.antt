-- The files of a conversion.
use Rattle.std.specs.Prelude.{ℕ, ◌+◌, List, [], ◌∷◌, ◌++◌, length, map, IsFalse, if◌then◌else◌}
use Rattle.std.specs.List.{count_by, flat_map}
use Rattle.std.specs.FinMap as finite
use Rattle.j2k_io.specs.Disks.{Files, in_folder}
use Rattle.meanings.specs.Convert.{file_of}
use Rattle.meanings.specs.KText.{KText}
use Rattle.j2k_tool.specs.declared.files.TakenFile.{TakenFile}
use Rattle.j2k_tool.specs.declared.writing.MadeFile.{MadeFile}
use Rattle.j2k_tool.specs.declared.writing.Conversion.{Conversion}
use Rattle.j2k_tool.specs.Texts.{report_name}
use Rattle.j2k_tool.specs.Paths.{kotlin_path}
use Rattle.j2k_tool.specs.Report.{Choices, ReportText, has_class}

-- the path and the bytes of a file in a folder
abbrev pub placed : List ℕ → MadeFile → List ℕ × List ℕ
placed dst file = (in_folder dst file.path, file.text)

-- the Kotlin file of a Java file, in the same folder
abbrev pub kotlin_file : TakenFile → MadeFile
kotlin_file taken = record { path = kotlin_path taken.path; text = KText (file_of taken.typed) }

abbrev pub report_file : List TakenFile → MadeFile
report_file taken = record { path = report_name; text = ReportText (length taken) (flat_map Choices taken) }

-- the Kotlin files, and then the report
abbrev pub files_of : List ℕ → List TakenFile → List (List ℕ × List ℕ)
files_of dst taken = map (placed dst) (map kotlin_file taken ++ report_file taken ∷ [])

-- ---- what the code holds

-- the conversion of files that are taken
abbrev pub conversion_of : List TakenFile → Conversion
conversion_of taken = record { files = map kotlin_file taken; choices = flat_map Choices taken; classes = count_by has_class taken }

-- with one more file
abbrev pub with_taken : Conversion → TakenFile → Conversion
with_taken conversion taken = record {
  files = conversion.files ++ kotlin_file taken ∷ [];
  choices = conversion.choices ++ Choices taken;
  classes = conversion.classes + (if has_class taken then 1 else 0);
}

-- its Kotlin files, and then the report
abbrev pub made_by : Conversion → List MadeFile
made_by conversion = conversion.files ++ record { path = report_name; text = ReportText (length conversion.files) conversion.choices } ∷ []

abbrev pub placed_files : List ℕ → Conversion → List (List ℕ × List ℕ)
placed_files dst conversion = map (placed dst) (made_by conversion)

-- ---- files that may be made

-- each of the files may be made after those before it
abbrev pub AreFree : Files → List (List ℕ × List ℕ) → Type 0
AreFree held [] = Unit {0}
AreFree held (file ∷ files) = IsFalse (finite.contains_key held file.0) × AreFree (finite.insert held file.0 file.1) files
