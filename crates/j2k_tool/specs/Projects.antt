-- The project that stands in a folder, or its first fault.
use Rattle.std.specs.Prelude.{◌≡◌, ◌≢◌, ◌⊎◌, ℕ, List, [], ◌∷◌, Bool, map, Option, Some, None, if◌then◌else◌}
use Rattle.std.specs.Ordering.{nat_cmp, is_lt}
use Rattle.std.specs.Cmp.Lexicographic.{slice_cmp}
use Rattle.j2k_base.specs.declared.places.Fault.{Fault}
use Rattle.j2k_base.specs.declared.series.SourceFile.{SourceFile}
use Rattle.java_tree.specs.declared.tokens.Position.{Position}
use Rattle.j2k_io.specs.Disks.{Files}
use Rattle.j2k_settings.specs.Settings.{settings_file}
use Rattle.j2k_sources.specs.declared.loading.Sources.{Sources}
use Rattle.j2k_sources.specs.Sources.{HasSources}
use Rattle.java_names.specs.Binding as names
use Rattle.java_names.specs.Binding.{IsBound}
use Rattle.java_project.specs.Files as text
use Rattle.java_project.specs.Files.{IsSpelled}
use Rattle.java_typed.specs.declared.units.TUnit.{TUnit}
use Rattle.java_unit_grammar.specs.declared.units.JUnit.{JUnit}
use Rattle.j2k_tool.specs.declared.files.TakenFile.{TakenFile}
use Rattle.j2k_tool.specs.declared.files.Found.{Found}
use Rattle.j2k_tool.specs.declared.files.Found.TheVariants as found
use Rattle.j2k_tool.specs.declared.writing.Conversion.{Conversion}
use Rattle.j2k_tool.specs.declared.project.Forms.{Forms}
use Rattle.j2k_tool.specs.declared.project.Project.{Project}
use Rattle.j2k_tool.specs.declared.project.Project.TheVariants.{Taken, Refused}
use Rattle.j2k_faults.specs.Faults.{not_built}
use Rattle.j2k_tool.specs.Firsts.{FirstIn, NoneIn}
use Rattle.j2k_tool.specs.Paths.{class_name, with_name, names_of}
use Rattle.j2k_tool.specs.Written.{conversion_of, with_taken}
use Rattle.j2k_tool.specs.Sources.{HasOpenForm, IsTaken}

abbrev pub paths_of : List SourceFile → List (List ℕ)
paths_of files = map (λ file. file.path) files

-- the files of a project are taken, behind files of classes of these names
abbrev pub AreTaken : List (List ℕ) → List (List ℕ) → List SourceFile → List TakenFile → Type 0
AreTaken classes earlier [] [] = Unit {0}
AreTaken classes earlier (file ∷ files) (taken ∷ more) = IsTaken classes earlier file taken × AreTaken classes (with_name earlier (class_name file.path)) files more
AreTaken classes earlier [] (taken ∷ more) = ⊥
AreTaken classes earlier (file ∷ files) [] = ⊥

-- ---- faults

-- the start of a file
abbrev pub start : Position
start = record { offset = 0; line = 1; column = 1 }

-- Entries aren't taken yet: where the settings name one they are an open form.
abbrev pub entries_fault : Fault
entries_fault = not_built settings_file start

-- in the order of the bytes
abbrev pub precedes : List ℕ → List ℕ → Bool
precedes a b = is_lt (slice_cmp nat_cmp a b)

-- the fault of the first of two files
abbrev pub least : Fault → Fault → Fault
least a b = if precedes a.place.path b.place.path then a else b

-- The first open form of a project, where the settings take part by their path.
abbrev pub IsFirstOpen : Sources → Fault → Type 0
IsFirstOpen sources fault =
    ((sources.entries ≡ []) × FirstIn (HasOpenForm (names_of sources.files)) [] sources.files fault)
    ⊎ ((sources.entries ≢ []) × NoneIn (HasOpenForm (names_of sources.files)) [] sources.files × (fault ≡ entries_fault))
    ⊎ ((sources.entries ≢ []) × ((first : Fault) × FirstIn (HasOpenForm (names_of sources.files)) [] sources.files first × (fault ≡ least entries_fault first)))

-- The files spell units, whose names have no fault (JLS 6).
pub record HasNames (sources : Sources) : Type 0 where
  pub units : List JUnit
  pub spelled : IsSpelled sources.files units
  pub bound : IsBound units sources.entries

-- The files spell units, and the fault is the first of their names.
pub record HasNameFault (sources : Sources) (fault : Fault) : Type 0 where
  pub units : List JUnit
  pub spelled : IsSpelled sources.files units
  pub refused : names.IsRefused units sources.entries fault

-- The first fault of a project is one of the text of its files; where all spell units, one of their names; and else an open form.
abbrev pub IsFirstFault : Sources → Fault → Type 0
IsFirstFault sources fault = text.IsRefused sources.files fault ⊎ HasNameFault sources fault ⊎ (HasNames sources × IsFirstOpen sources fault)

-- ---- projects

-- sources without entries, whose names have no fault, and whose files are taken
pub record Takes (sources : Sources) (taken : List TakenFile) : Type 0 where
  pub entries : sources.entries ≡ []
  pub names : HasNames sources
  pub files : AreTaken (names_of sources.files) [] sources.files taken

-- The files under a folder, within the limits, are taken.
pub record IsProject (src : List ℕ) (files : Files) (taken : List TakenFile) : Type 0 where
  pub sources : Sources
  pub has : HasSources src files sources.entries sources.files
  pub takes : Takes sources taken

-- the typed trees of files
abbrev pub trees_of : List TakenFile → List TUnit
trees_of taken = map (λ file. file.typed) taken

-- what sources are
abbrev pub IsJudged : Sources → Project → Type 0
IsJudged sources (Taken conversion) = (taken : List TakenFile) × Takes sources taken × (conversion ≡ conversion_of taken)
IsJudged sources (Refused fault) = IsFirstFault sources fault

-- ---- file after file

-- a fault, or none
abbrev pub IsFirst : (List (List ℕ) → SourceFile → Fault → Type 0) → List (List ℕ) → List SourceFile → Option Fault → Type 0
IsFirst faults earlier files None = NoneIn faults earlier files
IsFirst faults earlier files (Some fault) = FirstIn faults earlier files fault

-- the first open form among files of a project whose classes have these names, and where there is none what the files become
pub record AreForms (classes : List (List ℕ)) (files : List SourceFile) (forms : Forms) : Type 0 where
  pub form : IsFirst (HasOpenForm classes) [] files forms.form
  pub taken : forms.form ≡ None → (taken : List TakenFile) × AreTaken classes [] files taken × (forms.conversion ≡ conversion_of taken)

-- the open form that is found
abbrev pub open_form : Found → Option Fault
open_form (found.Open fault) = Some fault
open_form (found.Taken taken) = None

abbrev pub with_found : Conversion → Found → Conversion
with_found conversion (found.Open fault) = conversion
with_found conversion (found.Taken taken) = with_taken conversion taken

-- the first of two that there is
abbrev pub earliest : Option Fault → Option Fault → Option Fault
earliest None b = b
earliest (Some a) b = Some a

abbrev pub added : Forms → Found → Forms
added forms found = record { form = earliest forms.form (open_form found); conversion = with_found forms.conversion found }
