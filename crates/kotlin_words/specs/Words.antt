-- Words that a Kotlin text keeps for itself.
use Rattle.std.specs.Prelude.{ℕ, Bool, List, [], ◌∷◌, codes, bytes_eq}
use Rattle.std.specs.List.{list_any}
use Rattle.j2k_base.specs.declared.tables.Row.{Row}

-- what a row says
abbrev pub word_of : Row (Unit {0}) → List ℕ
word_of row = row.key.now

-- the words that are no name without backticks (Kotlin, "Hard keywords")
unfoldable pub hard_keywords : List (List ℕ)
hard_keywords =
    codes "as" ∷ codes "break" ∷ codes "class" ∷ codes "continue" ∷ codes "do" ∷ codes "else" ∷ codes "false" ∷ codes "for" ∷ codes "fun" ∷
    codes "if" ∷ codes "in" ∷ codes "interface" ∷ codes "is" ∷ codes "null" ∷ codes "object" ∷ codes "package" ∷ codes "return" ∷ codes "super" ∷
    codes "this" ∷ codes "throw" ∷ codes "true" ∷ codes "try" ∷ codes "typealias" ∷ codes "typeof" ∷ codes "val" ∷ codes "var" ∷ codes "when" ∷
    codes "while" ∷ []

-- the names that Kotlin text uses in a meaning of its own, beside those of the library's classes (own rule)
unfoldable pub reserved_names : List (List ℕ)
reserved_names =
    codes "Any" ∷ codes "Array" ∷ codes "Boolean" ∷ codes "BooleanArray" ∷ codes "Byte" ∷ codes "ByteArray" ∷ codes "Char" ∷ codes "CharArray" ∷
    codes "Companion" ∷ codes "Int" ∷ codes "IntArray" ∷ codes "Long" ∷ codes "LongArray" ∷ codes "MutableList" ∷ codes "MutableMap" ∷
    codes "Nothing" ∷ codes "Short" ∷ codes "ShortArray" ∷ codes "String" ∷ codes "Unit" ∷ codes "arrayOf" ∷ codes "arrayOfNulls" ∷
    codes "booleanArrayOf" ∷ codes "byteArrayOf" ∷ codes "charArrayOf" ∷ codes "equals" ∷ codes "hashCode" ∷ codes "intArrayOf" ∷
    codes "longArrayOf" ∷ codes "print" ∷ codes "println" ∷ codes "run" ∷ codes "shortArrayOf" ∷ codes "toString" ∷ []

-- the word is one of the words
abbrev pub contains_word : List (List ℕ) → List ℕ → Bool
contains_word words word = list_any (bytes_eq word) words
