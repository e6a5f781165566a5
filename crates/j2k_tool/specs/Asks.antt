-- What the words of a command line and the files of a disk ask for, and when it was done.
use Rattle.std.specs.Prelude.{◌≡◌, ◌⊎◌, ℕ, ◌++◌, List, [], ◌∷◌, length, map, Option, Some, None, codes}
use Rattle.std.specs.Fmt.{decimal}
use Rattle.std.specs.List.{count_by, flat_map}
use Rattle.j2k_base.specs.declared.places.Fault.{Fault}
use Rattle.j2k_base.specs.declared.series.SourceFile.{SourceFile}
use Rattle.j2k_io.specs.Disks.{Files, listing, with_files, IsCut}
use Rattle.j2k_io.specs.Sinks.{appended, IsPartOf}
use Rattle.j2k_sources.specs.declared.limits.Excess.{Excess}
use Rattle.j2k_sources.specs.declared.loading.Sources.{Sources}
use Rattle.j2k_sources.specs.declared.loading.Loaded.{Loaded}
use Rattle.j2k_sources.specs.declared.loading.Loaded.TheVariants as loaded
use Rattle.j2k_sources.specs.Sources.{IsLoaded, Differ}
use Rattle.j2k_tool.specs.declared.files.TakenFile.{TakenFile}
use Rattle.j2k_tool.specs.declared.writing.Conversion.{Conversion}
use Rattle.j2k_tool.specs.declared.status.Status.{Status}
use Rattle.j2k_tool.specs.declared.status.Status.TheVariants.{Done, Refused, Usage, ReadFault, WriteFault, NoMemory, NotEmpty, TooLarge, OutFault}
use Rattle.j2k_faults.specs.Faults.{fault_line, line_end}
use Rattle.j2k_tool.specs.Texts.{usage_text, read_fault_text, write_fault_text, no_memory_text, not_empty_text}
use Rattle.j2k_tool.specs.Paths.{kotlin_path}
use Rattle.j2k_tool.specs.Projects.{paths_of, Takes, IsFirstFault}
use Rattle.j2k_tool.specs.Report.{Choices, has_class}
use Rattle.j2k_tool.specs.Words.{words_mean}
use Rattle.j2k_tool.specs.Written.{files_of}

-- a status, the text that is printed, and the files that are made, each a path and its bytes
pub record Answer : Type 0 where
  pub status : Status
  pub text : List ℕ
  pub files : List (List ℕ × List ℕ)

abbrev pub usage : Answer
usage = record { status = Usage; text = usage_text; files = [] }

abbrev pub not_empty : List ℕ → Answer
not_empty dst = record { status = NotEmpty; text = not_empty_text dst; files = [] }

abbrev pub refused : Fault → Answer
refused fault = record { status = Refused; text = fault_line fault; files = [] }

-- `j2k: too large: WHAT LIMIT`
abbrev pub too_large_text : Excess → List ℕ
too_large_text excess = codes "j2k: too large: " ++ excess.what ++ codes " " ++ decimal excess.limit ++ line_end

abbrev pub too_large : Excess → Answer
too_large excess = record { status = TooLarge; text = too_large_text excess; files = [] }

-- `converted: files N, classes C, choices M`
abbrev pub done_text : ℕ → ℕ → ℕ → List ℕ
done_text files classes choices =
    codes "converted: files " ++ decimal files ++ codes ", classes " ++ decimal classes ++ codes ", choices " ++ decimal choices ++ line_end

-- the files, the classes that stand in them, and the choices
abbrev pub converted_text : List TakenFile → List ℕ
converted_text taken = done_text (length taken) (count_by has_class taken) (length (flat_map Choices taken))

-- the same of a conversion
abbrev pub conversion_text : Conversion → List ℕ
conversion_text conversion = done_text (length conversion.files) conversion.classes (length conversion.choices)

abbrev pub converted : List ℕ → List TakenFile → Answer
converted dst taken = record { status = Done; text = converted_text taken; files = files_of dst taken }

-- sources ask for this
abbrev pub ConvertsSources : List ℕ → Sources → Answer → Type 0
ConvertsSources dst sources answer =
    ((taken : List TakenFile) × Takes sources taken × (answer ≡ converted dst taken))
    ⊎ ((fault : Fault) × IsFirstFault sources fault × (answer ≡ refused fault))

-- so does what was loaded of a folder
abbrev pub ConvertsLoaded : List ℕ → Loaded → Answer → Type 0
ConvertsLoaded dst (loaded.Whole sources) answer = ConvertsSources dst sources answer
ConvertsLoaded dst (loaded.TooLarge excess) answer = answer ≡ too_large excess
ConvertsLoaded dst (loaded.Refused fault) answer = answer ≡ refused fault

-- the paths of the Kotlin files of sources differ
abbrev pub KotlinDiffer : List SourceFile → Type 0
KotlinDiffer files = Differ (map kotlin_path (paths_of files))

abbrev pub PathsDiffer : Loaded → Type 0
PathsDiffer (loaded.Whole sources) = KotlinDiffer sources.files
PathsDiffer (loaded.TooLarge excess) = Unit {0}
PathsDiffer (loaded.Refused fault) = Unit {0}

-- what stands in the folder of a project asks for this
abbrev pub Converts : List ℕ → List ℕ → Files → Answer → Type 0
Converts src dst files answer = (what : Loaded) × IsLoaded src files what × ConvertsLoaded dst what answer

-- `convert` asks for this, with what is listed in the target folder
abbrev pub AsksOver : List (List ℕ) → List ℕ → List ℕ → Files → Answer → Type 0
AsksOver [] src dst files answer = Converts src dst files answer
AsksOver (path ∷ paths) src dst files answer = answer ≡ not_empty dst

abbrev pub AsksOf : Option (List ℕ × List ℕ) → Files → Answer → Type 0
AsksOf None files answer = answer ≡ usage
AsksOf (Some folders) files answer = AsksOver (listing folders.1 files) folders.0 folders.1 files answer

-- the words and the files ask for this answer
unfoldable pub Asks : List (List ℕ) → Files → Answer → Type 0
Asks words files answer = AsksOf (words_mean words) files answer

-- a status that answers what was asked for
abbrev pub IsAnswer : Status → Type 0
IsAnswer Done = Unit {0}
IsAnswer Refused = Unit {0}
IsAnswer Usage = Unit {0}
IsAnswer NotEmpty = Unit {0}
IsAnswer ReadFault = ⊥
IsAnswer WriteFault = ⊥
IsAnswer NoMemory = ⊥
IsAnswer TooLarge = Unit {0}
IsAnswer OutFault = ⊥

-- It was answered: what was asked for has this status and this text, and its files were made.
pub record Answered (asks : Answer → Type 0) (status : Status) (text : List ℕ) (old new : Option Files) : Type 0 where
  pub answer : Answer
  pub asked : asks answer
  pub status_is : answer.status ≡ status
  pub text_is : answer.text ≡ text
  pub made : new ≡ with_files old answer.files

-- It was answered, and the sink was given the text.
pub record Told (asks : Answer → Type 0) (status : Status) (old new : Option Files) (given given_now : Option (List ℕ)) : Type 0 where
  pub text : List ℕ
  pub answered : Answered asks status text old new
  pub whole : given_now ≡ appended given text

-- The sink failed while it was given the text of what was answered.
pub record Untold (asks : Answer → Type 0) (old new : Option Files) (given given_now : Option (List ℕ)) : Type 0 where
  pub status : Status
  pub text : List ℕ
  pub answered : Answered asks status text old new
  pub part : IsPartOf given text given_now

-- It was stopped: nothing was written, or a part of what was asked for.
abbrev pub Stopped : (Answer → Type 0) → Option Files → Option Files → Type 0
Stopped asks old new = (new ≡ old) ⊎ ((answer : Answer) × asks answer × IsCut old answer.files new)

-- This status was answered, unless memory ran out or one of these faults came.
abbrev pub IsUnless : Status → Status → Type 0 → Type 0 → Type 0 → Type 0
IsUnless wanted status read write out =
    (status ≡ wanted) ⊎ (status ≡ NoMemory) ⊎ ((status ≡ ReadFault) × read) ⊎ ((status ≡ WriteFault) × write) ⊎ ((status ≡ OutFault) × out)

-- the sink was given the text, or a part of it where it failed
abbrev pub IsGiven : Option (List ℕ) → List ℕ → Option (List ℕ) → Type 0 → Type 0
IsGiven given text given_now failed = (given_now ≡ appended given text) ⊎ (failed × IsPartOf given text given_now)

-- A text of which a run may print a part where memory ran out: the one that says so, or the one that it came to put, of a fault that
-- came or of what was answered.
abbrev pub MayTell : (Answer → Type 0) → Option Files → Option Files → Type 0 → Type 0 → List ℕ → Type 0
MayTell asks old new read write text =
    (text ≡ no_memory_text) ⊎ (read × (text ≡ read_fault_text)) ⊎ (write × (text ≡ write_fault_text)) ⊎ ((status : Status) × Answered asks status text old new)

-- a status after which the files are as before
abbrev pub KeepsFiles : Status → Type 0
KeepsFiles Done = ⊥
KeepsFiles Refused = Unit {0}
KeepsFiles Usage = Unit {0}
KeepsFiles NotEmpty = Unit {0}
KeepsFiles ReadFault = Unit {0}
KeepsFiles WriteFault = ⊥
KeepsFiles NoMemory = ⊥
KeepsFiles TooLarge = Unit {0}
KeepsFiles OutFault = ⊥
