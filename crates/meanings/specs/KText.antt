-- The canonical text of a Kotlin file.
use Rattle.std.specs.Prelude.{ℕ, Bool, not, ◌&&◌, ◌||◌, ◌==◌, if◌then◌else◌, List, [], ◌∷◌, ◌++◌, length, slice_index, Option, Some, None, codes}
use Rattle.std.specs.Char.{is_ascii_alphabetic, is_ascii_alphanumeric}
use Rattle.std.specs.Fmt.{decimal}
use Rattle.std.specs.List.{flat_map, list_all}
use Rattle.kotlin_words.specs.Words.{hard_keywords, contains_word}
use Rattle.meanings.specs.declared.operators.Operator.{Operator}
use Rattle.meanings.specs.declared.operators.Operator.TheVariants.{Plus, Minus, Times}
use Rattle.meanings.specs.declared.kotlin.KExpr.{KExpr, fold-KExpr}
use Rattle.meanings.specs.declared.kotlin.KExpr.TheOpen.{KExpr-F}
use Rattle.meanings.specs.declared.kotlin.KStmt.{KStmt}
use Rattle.meanings.specs.declared.kotlin.KStmt.TheVariants.{Val, Print}
use Rattle.meanings.specs.declared.kotlin.KMain.{KMain}
use Rattle.meanings.specs.declared.kotlin.KClass.{KClass}
use Rattle.meanings.specs.declared.kotlin.KFile.{KFile}
use Rattle.meanings.specs.Values.{Name}

-- ---- names

-- an ASCII letter or `_`
abbrev pub begins_word : ℕ → Bool
begins_word byte = is_ascii_alphabetic byte || (byte == 95)

-- an ASCII letter, a digit or `_`
abbrev pub is_word_byte : ℕ → Bool
is_word_byte byte = is_ascii_alphanumeric byte || (byte == 95)

abbrev pub is_underscore : ℕ → Bool
is_underscore byte = byte == 95

-- an identifier of ASCII (Kotlin, "Identifiers")
abbrev pub is_word : Name → Bool
is_word name = not (length name == 0) && begins_word (slice_index name 0) && list_all is_word_byte name

-- the other words that the profile keeps for itself (own rule)
abbrev pub other_keywords : List (List ℕ)
other_keywords = codes "catch" ∷ codes "finally" ∷ codes "synchronized" ∷ []

-- a word that a name isn't without backticks (Kotlin, "Hard keywords")
abbrev pub is_keyword : Name → Bool
is_keyword name = contains_word hard_keywords name || contains_word other_keywords name

-- an identifier of ASCII that doesn't consist of `_` alone and is no keyword
unfoldable pub is_bare : Name → Bool
is_bare name = is_word name && not (list_all is_underscore name) && not (is_keyword name)

-- a name, in backticks where it can't stand bare (Kotlin, "Identifiers")
unfoldable pub name_text : Name → List ℕ
name_text name = if is_bare name then name else codes "`" ++ name ++ codes "`"

-- ---- expressions

-- an operator, with its blanks
abbrev pub operator_text : Operator → List ℕ
operator_text Plus = codes " + "
operator_text Minus = codes " - "
operator_text Times = codes " * "

-- one form, by the texts of its parts
abbrev pub expression_by : KExpr-F (List ℕ) → List ℕ
expression_by (KExpr-F.Local name) = name_text name
expression_by (KExpr-F.Number n) = decimal n
expression_by (KExpr-F.Paren inner) = codes "(" ++ inner ++ codes ")"
expression_by (KExpr-F.Binary a operator b) = a ++ operator_text operator ++ b

-- an expression (own layout: a blank on each side of an operator)
unfoldable pub expression_text : KExpr → List ℕ
expression_text = fold-KExpr (List ℕ) expression_by

-- ---- statements and files

-- a property declaration or a call (own layout: one statement a line)
abbrev pub statement_text : KStmt → List ℕ
statement_text (Val name value) = codes "            val " ++ name_text name ++ codes ": Int = " ++ expression_text value ++ codes "\n"
statement_text (Print value) = codes "            println(" ++ expression_text value ++ codes ")\n"

-- `main` in the companion, where there is one
abbrev pub main_text : Option KMain → List ℕ
main_text None = []
main_text (Some main) = codes "    companion object {\n        @JvmStatic fun main(" ++ name_text main.parameter ++ codes ": Array<String>) {\n" ++ flat_map statement_text main.body ++ codes "        }\n    }\n"

-- a class declaration (own layout: four blanks a level)
abbrev pub class_text : KClass → List ℕ
class_text class = codes "class " ++ name_text class.name ++ codes " {\n" ++ main_text class.main ++ codes "}\n"

-- a further part of a qualified name
abbrev pub part_text : Name → List ℕ
part_text name = codes "." ++ name_text name

-- a package header, by the first part of its name and the others
abbrev pub package_text : Name → List Name → List ℕ
package_text first parts = codes "package " ++ name_text first ++ flat_map part_text parts ++ codes "\n"

-- a file's package and class (own layout: an empty line between them)
abbrev pub file_text : List Name → Option KClass → List ℕ
file_text [] None = []
file_text [] (Some class) = class_text class
file_text (first ∷ parts) None = package_text first parts
file_text (first ∷ parts) (Some class) = package_text first parts ++ codes "\n" ++ class_text class

-- the bytes of a file (own layout)
unfoldable pub KText : KFile → List ℕ
KText file = file_text file.package file.class
