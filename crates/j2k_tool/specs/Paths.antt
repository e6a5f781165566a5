-- The paths of a project's files, and the names of their classes.
use Rattle.std.specs.Prelude.{ℕ, ◌-◌, List, [], ◌∷◌, ◌++◌, length, take, if◌then◌else◌}
use Rattle.std.specs.List.{list_any, slice_split}
use Rattle.std.specs.Str.{bytes_eq}
use Rattle.j2k_base.specs.declared.series.SourceFile.{SourceFile}
use Rattle.j2k_sources.specs.Sources.{is_java, java_end}
use Rattle.j2k_tool.specs.Texts.{kotlin_end}
use Rattle.j2k_tool.specs.Words.{is_slash}

-- the last of some parts, or another where there is none
abbrev pub last_or : List ℕ → List (List ℕ) → List ℕ
last_or other [] = other
last_or other (part ∷ parts) = last_or part parts

-- what stands behind the last slash of a path
abbrev pub last_part : List ℕ → List ℕ
last_part path = last_or path (slice_split is_slash path)

-- a path without its end `.java`
abbrev pub base_of : List ℕ → List ℕ
base_of path = if is_java path then take (length path - length java_end) path else path

-- the simple name of a public class of the file of a path (JLS 7.6)
abbrev pub class_name : List ℕ → List ℕ
class_name path = base_of (last_part path)

-- the path of the Kotlin file of a Java file: `.kt` in place of `.java`
abbrev pub kotlin_path : List ℕ → List ℕ
kotlin_path path = base_of path ++ kotlin_end

-- different names, with one more
abbrev pub with_name : List (List ℕ) → List ℕ → List (List ℕ)
with_name names name = if list_any (bytes_eq name) names then names else names ++ name ∷ []

-- with those of the classes of files
abbrev pub with_names : List (List ℕ) → List SourceFile → List (List ℕ)
with_names names [] = names
with_names names (file ∷ files) = with_names (with_name names (class_name file.path)) files

abbrev pub names_of : List SourceFile → List (List ℕ)
names_of files = with_names [] files
