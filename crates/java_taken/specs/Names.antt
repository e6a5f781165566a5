-- Which names are taken.
use Rattle.std.specs.Prelude.{ℕ, Bool, ◌&&◌, ◌||◌, not, List, length, is_some, ◌==◌, codes}
use Rattle.std.specs.List.{list_all, list_any}
use Rattle.std.specs.Str.{bytes_eq}
use Rattle.java_keywords.specs.Words.{word_kind}
use Rattle.kotlin_words.specs.Words.{reserved_names, contains_word}
use Rattle.java_lib.specs.Library.{classes}
use Rattle.java_lib.specs.Classes.{class_simple}
use Rattle.meanings.specs.KSpells.{may_stand}

-- not empty, of bytes that may stand in backticks: so is each identifier, which has letters, digits and `_` alone (JLS 3.8, without `$`)
abbrev pub is_identifier : List ℕ → Bool
is_identifier bytes = not (length bytes == 0) && list_all may_stand bytes

-- a word that names no class of a project: one of Java, the root of Java's packages, a name with a meaning of its own in Kotlin, or a
-- class of the library
unfoldable pub is_reserved : List ℕ → Bool
is_reserved word =
    is_some (word_kind word)
    || bytes_eq word (codes "java")
    || contains_word reserved_names word
    || is_some (class_simple word classes)

-- a name that a class may have
abbrev pub is_free : List ℕ → Bool
is_free name = is_identifier name && not (is_reserved name)

-- a name that would hide the root of Java's packages or a class of the library (JLS 6.4.2)
unfoldable pub hides : List ℕ → Bool
hides name = bytes_eq name (codes "java") || is_some (class_simple name classes)

-- a name that a parameter or a local may have
abbrev pub is_variable : List ℕ → Bool
is_variable name = is_identifier name && not (hides name)

-- the name is one of these
abbrev pub contains_name : List (List ℕ) → List ℕ → Bool
contains_name names name = list_any (bytes_eq name) names
