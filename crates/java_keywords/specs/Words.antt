-- The words of Java that are no identifiers (JLS 3.8, 3.9, 3.10.3, 3.10.7).
use Rattle.std.specs.Prelude.{ℕ, Bool, List, [], ◌∷◌, Option, codes, take, find, bytes_eq}
use Rattle.std.specs.Option.{option_map}
use Rattle.j2k_base.specs.declared.tables.Row.{Row}
use Rattle.java_tree.specs.declared.tokens.Keyword.TheVariants as keywords
use Rattle.java_keywords.specs.declared.words.WordKind.{WordKind}
use Rattle.java_keywords.specs.declared.words.WordKind.TheVariants.{Keyword, Outside}

-- a word beside what it is
abbrev pub Word : Type 0
Word = List ℕ × WordKind

-- what a row says
abbrev pub word_of : Row WordKind → Word
word_of row = (row.key.now, row.value)

-- the keywords and the literals that are words; outside the profile are nine (own rule)
unfoldable pub words : List Word
words =
    (codes "_", Outside)
    ∷ (codes "abstract", Keyword keywords.Abstract)
    ∷ (codes "assert", Outside)
    ∷ (codes "boolean", Keyword keywords.Boolean)
    ∷ (codes "break", Keyword keywords.Break)
    ∷ (codes "byte", Keyword keywords.Byte)
    ∷ (codes "case", Keyword keywords.Case)
    ∷ (codes "catch", Keyword keywords.Catch)
    ∷ (codes "char", Keyword keywords.Char)
    ∷ (codes "class", Keyword keywords.Class)
    ∷ (codes "const", Outside)
    ∷ (codes "continue", Keyword keywords.Continue)
    ∷ (codes "default", Keyword keywords.Default)
    ∷ (codes "do", Keyword keywords.Do)
    ∷ (codes "double", Outside)
    ∷ (codes "else", Keyword keywords.Else)
    ∷ (codes "enum", Keyword keywords.Enum)
    ∷ (codes "extends", Keyword keywords.Extends)
    ∷ (codes "false", Keyword keywords.False)
    ∷ (codes "final", Keyword keywords.Final)
    ∷ (codes "finally", Keyword keywords.Finally)
    ∷ (codes "float", Outside)
    ∷ (codes "for", Keyword keywords.For)
    ∷ (codes "goto", Outside)
    ∷ (codes "if", Keyword keywords.If)
    ∷ (codes "implements", Keyword keywords.Implements)
    ∷ (codes "import", Keyword keywords.Import)
    ∷ (codes "instanceof", Keyword keywords.Instanceof)
    ∷ (codes "int", Keyword keywords.Int)
    ∷ (codes "interface", Keyword keywords.Interface)
    ∷ (codes "long", Keyword keywords.Long)
    ∷ (codes "native", Outside)
    ∷ (codes "new", Keyword keywords.New)
    ∷ (codes "null", Keyword keywords.Null)
    ∷ (codes "package", Keyword keywords.Package)
    ∷ (codes "private", Keyword keywords.Private)
    ∷ (codes "protected", Keyword keywords.Protected)
    ∷ (codes "public", Keyword keywords.Public)
    ∷ (codes "return", Keyword keywords.Return)
    ∷ (codes "short", Keyword keywords.Short)
    ∷ (codes "static", Keyword keywords.Static)
    ∷ (codes "strictfp", Outside)
    ∷ (codes "super", Keyword keywords.Super)
    ∷ (codes "switch", Keyword keywords.Switch)
    ∷ (codes "synchronized", Keyword keywords.Synchronized)
    ∷ (codes "this", Keyword keywords.This)
    ∷ (codes "throw", Keyword keywords.Throw)
    ∷ (codes "throws", Keyword keywords.Throws)
    ∷ (codes "transient", Outside)
    ∷ (codes "true", Keyword keywords.True)
    ∷ (codes "try", Keyword keywords.Try)
    ∷ (codes "void", Keyword keywords.Void)
    ∷ (codes "volatile", Keyword keywords.Volatile)
    ∷ (codes "while", Keyword keywords.While)
    ∷ []

-- the word's first letter is this one
abbrev pub begins : ℕ → Word → Bool
begins first word = bytes_eq (take 1 word.0) (first ∷ [])

-- what stands beside a word among these
abbrev pub beside : List ℕ → List Word → Option WordKind
beside word rows = option_map (λ row. row.1) (find (λ row. bytes_eq row.0 word) rows)

-- What a word is; none where it is an identifier.
abbrev pub word_kind : List ℕ → Option WordKind
word_kind word = beside word words
