-- The words of Kotlin that mean something of their own (Kotlin, "Hard keywords", "Soft keywords").
use Rattle.std.specs.Prelude.{ℕ, Bool, List, [], ◌∷◌, Option, Some, None, codes, take, find, bytes_eq}
use Rattle.std.specs.Option.{option_map}
use Rattle.j2k_base.specs.declared.tables.Row.{Row}
use Rattle.kotlin_tree.specs.declared.tokens.Keyword.TheVariants as hard
use Rattle.kotlin_tree.specs.declared.tokens.Word.TheVariants as soft
use Rattle.kotlin_keywords.specs.declared.words.WordKind.{WordKind}
use Rattle.kotlin_keywords.specs.declared.words.WordKind.TheVariants.{Keyword, Word}

-- a word beside what it is
abbrev pub Entry : Type 0
Entry = List ℕ × WordKind

-- what a row says
abbrev pub word_of : Row WordKind → Entry
word_of row = (row.key.now, row.value)

-- the words that are no names (Kotlin, "Hard keywords")
unfoldable pub keywords : List Entry
keywords =
    (codes "as", Keyword hard.As)
    ∷ (codes "break", Keyword hard.Break)
    ∷ (codes "class", Keyword hard.Class)
    ∷ (codes "continue", Keyword hard.Continue)
    ∷ (codes "do", Keyword hard.Do)
    ∷ (codes "else", Keyword hard.Else)
    ∷ (codes "false", Keyword hard.False)
    ∷ (codes "for", Keyword hard.For)
    ∷ (codes "fun", Keyword hard.Fun)
    ∷ (codes "if", Keyword hard.If)
    ∷ (codes "in", Keyword hard.In)
    ∷ (codes "interface", Keyword hard.Interface)
    ∷ (codes "is", Keyword hard.Is)
    ∷ (codes "null", Keyword hard.Null)
    ∷ (codes "object", Keyword hard.Object)
    ∷ (codes "package", Keyword hard.Package)
    ∷ (codes "return", Keyword hard.Return)
    ∷ (codes "super", Keyword hard.Super)
    ∷ (codes "this", Keyword hard.This)
    ∷ (codes "throw", Keyword hard.Throw)
    ∷ (codes "true", Keyword hard.True)
    ∷ (codes "try", Keyword hard.Try)
    ∷ (codes "typealias", Keyword hard.Typealias)
    ∷ (codes "typeof", Keyword hard.Typeof)
    ∷ (codes "val", Keyword hard.Val)
    ∷ (codes "var", Keyword hard.Var)
    ∷ (codes "when", Keyword hard.When)
    ∷ (codes "while", Keyword hard.While)
    ∷ []

-- the words that mean something of their own at some places and are names elsewhere (own rule)
unfoldable pub soft_words : List Entry
soft_words =
    (codes "JvmField", Word soft.JvmField)
    ∷ (codes "JvmStatic", Word soft.JvmStatic)
    ∷ (codes "Synchronized", Word soft.SynchronizedMethod)
    ∷ (codes "Volatile", Word soft.Volatile)
    ∷ (codes "abstract", Word soft.Abstract)
    ∷ (codes "and", Word soft.And)
    ∷ (codes "catch", Word soft.Catch)
    ∷ (codes "companion", Word soft.Companion)
    ∷ (codes "const", Word soft.Const)
    ∷ (codes "constructor", Word soft.Constructor)
    ∷ (codes "finally", Word soft.Finally)
    ∷ (codes "import", Word soft.Import)
    ∷ (codes "init", Word soft.Init)
    ∷ (codes "java", Word soft.Java)
    ∷ (codes "open", Word soft.Open)
    ∷ (codes "or", Word soft.Or)
    ∷ (codes "override", Word soft.Override)
    ∷ (codes "private", Word soft.Private)
    ∷ (codes "run", Word soft.Run)
    ∷ (codes "set", Word soft.Set)
    ∷ (codes "shl", Word soft.Shl)
    ∷ (codes "shr", Word soft.Shr)
    ∷ (codes "synchronized", Word soft.SynchronizedBlock)
    ∷ (codes "until", Word soft.Until)
    ∷ (codes "ushr", Word soft.Ushr)
    ∷ (codes "xor", Word soft.Xor)
    ∷ []

-- the word's first letter is this one
abbrev pub begins : ℕ → Entry → Bool
begins first word = bytes_eq (take 1 word.0) (first ∷ [])

-- what stands beside a word among these
abbrev pub beside : List ℕ → List Entry → Option WordKind
beside word rows = option_map (λ row. row.1) (find (λ row. bytes_eq row.0 word) rows)

-- the first of the two that is there
abbrev pub or_else : Option WordKind → Option WordKind → Option WordKind
or_else None other = other
or_else (Some kind) other = Some kind

-- What a word is that isn't a name alone; none where it is only a name.
abbrev pub word_kind : List ℕ → Option WordKind
word_kind word = or_else (beside word keywords) (beside word soft_words)
