-- The files of a project under a folder, and the limits on them.
use Rattle.std.specs.Prelude.{◌≡◌, ◌≤◌, ◌⊎◌, ℕ, ◌+◌, nat_lt, List, [], ◌∷◌, length, map, filter, nat_eq, Bool, true, false, IsTrue, ◌&&◌, Option, Some, None, if◌then◌else◌, unwrap_or, codes}
use Rattle.std.specs.List.{All, ends_with, list_any}
use Rattle.std.specs.Str.{bytes_eq}
use Rattle.std.specs.FinMap as finite
use Rattle.j2k_base.specs.Lists.{Lists}
use Rattle.j2k_base.specs.declared.series.SourceFile.{SourceFile}
use Rattle.j2k_io.specs.Disks.{Files, in_folder, listing}
use Rattle.j2k_settings.specs.Settings.{Sets, bad_settings, settings_file}
use Rattle.j2k_sources.specs.declared.limits.Excess.{Excess}
use Rattle.j2k_sources.specs.declared.loading.Loaded.{Loaded}
use Rattle.j2k_sources.specs.declared.loading.Loaded.TheVariants as loaded
use Rattle.j2k_sources.specs.declared.loading.SettingsRead.{SettingsRead}
use Rattle.j2k_sources.specs.declared.loading.SettingsRead.TheVariants as settings_read
use Rattle.j2k_sources.specs.declared.loading.FilesRead.{FilesRead}
use Rattle.j2k_sources.specs.declared.loading.FilesRead.TheVariants as files_read
use Rattle.j2k_sources.specs.declared.loading.FileRead.{FileRead}
use Rattle.j2k_sources.specs.declared.loading.FileRead.TheVariants as file_read

-- the end of a Java file's name
abbrev pub java_end : List ℕ
java_end = codes ".java"

abbrev pub is_java : List ℕ → Bool
is_java path = ends_with nat_eq path java_end

-- the Java files under a folder, in the order of their paths
abbrev pub java_paths : List ℕ → Files → List (List ℕ)
java_paths src files = filter is_java (listing src files)

-- the bytes of a file in a folder; none where it isn't there
abbrev pub bytes_at : List ℕ → Files → List ℕ → List ℕ
bytes_at src files path = unwrap_or (finite.get files (in_folder src path)) []

abbrev pub source_at : List ℕ → Files → List ℕ → SourceFile
source_at src files path = record { path = path; bytes = bytes_at src files path }

-- no path stands in the list twice
abbrev pub Differ : List (List ℕ) → Type 0
Differ [] = Unit {0}
Differ (path ∷ paths) = (Lists paths path → ⊥) × Differ paths

-- ---- settings

abbrev pub has_settings : List ℕ → Files → Bool
has_settings src files = list_any (bytes_eq settings_file) (listing src files)

-- a folder without the file has no entries
abbrev pub SetsWhere : Bool → List ℕ → List (List ℕ) → Type 0
SetsWhere true bytes entries = Sets bytes entries
SetsWhere false bytes entries = entries ≡ []

-- the settings under a folder name these entries
abbrev pub HasEntries : List ℕ → Files → List (List ℕ) → Type 0
HasEntries src files entries = SetsWhere (has_settings src files) (bytes_at src files settings_file) entries

-- ---- limits

-- the Java files of a project
abbrev pub most_files : ℕ
most_files = 2000

-- the bytes of a Java file, of all of them, and of the settings
abbrev pub most_file_bytes : ℕ
most_file_bytes = 1048576

abbrev pub most_bytes : ℕ
most_bytes = 16777216

abbrev pub most_settings_bytes : ℕ
most_settings_bytes = 65536

abbrev pub of_limit : List ℕ → ℕ → Option Excess
of_limit what limit = Some (record { what = what; limit = limit })

-- the first of two that there is
abbrev pub or_else : Option Excess → Option Excess → Option Excess
or_else None b = b
or_else (Some a) b = Some a

-- there are too many Java files
abbrev pub number_excess : List ℕ → Files → Option Excess
number_excess src files = if nat_lt most_files (length (java_paths src files)) then of_limit (codes "files") most_files else None

-- the file of the settings is too long
abbrev pub settings_excess : List ℕ → Files → Option Excess
settings_excess src files =
    if has_settings src files && nat_lt most_settings_bytes (length (bytes_at src files settings_file)) then of_limit settings_file most_settings_bytes else None

-- a Java file is too long, or with it all are, after so many bytes of others
abbrev pub file_excess : List ℕ → Files → ℕ → List ℕ → Option Excess
file_excess src files sum path =
    if nat_lt most_file_bytes (length (bytes_at src files path)) then of_limit path most_file_bytes
    else (if nat_lt most_bytes (sum + length (bytes_at src files path)) then of_limit (codes "total") most_bytes else None)

-- the first of these files of which that holds
abbrev pub files_excess : List ℕ → Files → ℕ → List (List ℕ) → Option Excess
files_excess src files sum [] = None
files_excess src files sum (path ∷ paths) = or_else (file_excess src files sum path) (files_excess src files (sum + length (bytes_at src files path)) paths)

-- before the Java files are read
abbrev pub early_excess : List ℕ → Files → Option Excess
early_excess src files = or_else (number_excess src files) (settings_excess src files)

-- as they are read
abbrev pub late_excess : List ℕ → Files → Option Excess
late_excess src files = files_excess src files 0 (java_paths src files)

-- ---- what stands in a folder

-- A limit is exceeded: that on the number of files first, then that on the settings. Where the settings are no settings the files aren't read.
abbrev pub Exceeds : List ℕ → Files → Excess → Type 0
Exceeds src files excess =
    (early_excess src files ≡ Some excess)
    ⊎ ((early_excess src files ≡ None) × ((entries : List (List ℕ)) × HasEntries src files entries) × (late_excess src files ≡ Some excess))

-- the settings aren't too long, and are no settings
abbrev pub HasBadSettings : List ℕ → Files → Type 0
HasBadSettings src files = (early_excess src files ≡ None) × ((entries : List (List ℕ)) → HasEntries src files entries → ⊥)

-- no limit is exceeded; these are the entries and the Java files
pub record HasSources (src : List ℕ) (files : Files) (entries : List (List ℕ)) (sources : List SourceFile) : Type 0 where
  pub early : early_excess src files ≡ None
  pub settings : HasEntries src files entries
  pub late : late_excess src files ≡ None
  pub java : sources ≡ map (source_at src files) (java_paths src files)

abbrev pub IsLoaded : List ℕ → Files → Loaded → Type 0
IsLoaded src files (loaded.Whole sources) = HasSources src files sources.entries sources.files
IsLoaded src files (loaded.TooLarge excess) = Exceeds src files excess
IsLoaded src files (loaded.Refused fault) = (fault ≡ bad_settings) × HasBadSettings src files

-- ---- the parts of the reading

abbrev pub IsSettings : List ℕ → Files → SettingsRead → Type 0
IsSettings src files (settings_read.Entries entries) = HasEntries src files entries × (settings_excess src files ≡ None)
IsSettings src files (settings_read.TooLarge excess) = settings_excess src files ≡ Some excess
IsSettings src files (settings_read.Refused fault) = (fault ≡ bad_settings) × ((entries : List (List ℕ)) → HasEntries src files entries → ⊥) × (settings_excess src files ≡ None)

-- each path names a file
abbrev pub AreListed : List ℕ → Files → List (List ℕ) → Type 0
AreListed src files [] = Unit {0}
AreListed src files (path ∷ paths) = IsTrue (finite.contains_key files (in_folder src path)) × AreListed src files paths

abbrev pub IsFiles : List ℕ → Files → List (List ℕ) → FilesRead → Type 0
IsFiles src files java (files_read.Whole sources) = (sources ≡ map (source_at src files) java) × (files_excess src files 0 java ≡ None)
IsFiles src files java (files_read.TooLarge excess) = files_excess src files 0 java ≡ Some excess

abbrev pub IsFile : List ℕ → Files → ℕ → List ℕ → FileRead → Type 0
IsFile src files sum path (file_read.Whole source) = (source ≡ source_at src files path) × (file_excess src files sum path ≡ None)
IsFile src files sum path (file_read.TooLarge excess) = file_excess src files sum path ≡ Some excess

-- with this file all aren't too long
abbrev pub IsWithinTotal : ℕ → FileRead → Type 0
IsWithinTotal sum (file_read.Whole source) = sum + length source.bytes ≤ most_bytes
IsWithinTotal sum (file_read.TooLarge excess) = Unit {0}

-- each file is of no more bytes than all may have
abbrev pub AreSmall : List SourceFile → Type 0
AreSmall files = All (λ file. length file.bytes ≤ most_bytes) files

abbrev pub AreSmallFiles : FilesRead → Type 0
AreSmallFiles (files_read.Whole sources) = AreSmall sources
AreSmallFiles (files_read.TooLarge excess) = Unit {0}

abbrev pub IsSmall : Loaded → Type 0
IsSmall (loaded.Whole sources) = AreSmall sources.files
IsSmall (loaded.TooLarge excess) = Unit {0}
IsSmall (loaded.Refused fault) = Unit {0}
