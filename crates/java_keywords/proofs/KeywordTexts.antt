-- A keyword is a word with the keyword's spelling, and no other.
use Rattle.std.proofs.Common.{◌≡◌, ℕ, Bool, true, false, List, [], ◌∷◌, Option, Some, cond, bytes_eq, find, refl, sym, ◌∙◌, ap}
use Rattle.std.specs.List.{AllByRecursion}
use Rattle.std.specs.Option.{option_map}
use Rattle.std.proofs.lemmas.Slice.Eq.{bytes_eq-Decides}
use Rattle.java_tree.specs.declared.tokens.Keyword.{Keyword as keyword}
use Rattle.java_tree.specs.declared.tokens.Keyword.TheVariants as keywords
use Rattle.java_tree.specs.Spellings.{keyword_text}
use Rattle.java_keywords.specs.declared.words.WordKind.TheVariants.{Keyword, Outside}
use Rattle.java_keywords.specs.Words.{Word, words, beside, word_kind}

pub found : (k : keyword) → word_kind (keyword_text k) ≡ Some (Keyword k)
unfolding words
found keywords.Abstract = refl
found keywords.Boolean = refl
found keywords.Break = refl
found keywords.Byte = refl
found keywords.Case = refl
found keywords.Catch = refl
found keywords.Char = refl
found keywords.Class = refl
found keywords.Continue = refl
found keywords.Default = refl
found keywords.Do = refl
found keywords.Else = refl
found keywords.Enum = refl
found keywords.Extends = refl
found keywords.False = refl
found keywords.Final = refl
found keywords.Finally = refl
found keywords.For = refl
found keywords.If = refl
found keywords.Implements = refl
found keywords.Import = refl
found keywords.Instanceof = refl
found keywords.Int = refl
found keywords.Interface = refl
found keywords.Long = refl
found keywords.New = refl
found keywords.Null = refl
found keywords.Package = refl
found keywords.Private = refl
found keywords.Protected = refl
found keywords.Public = refl
found keywords.Return = refl
found keywords.Short = refl
found keywords.Static = refl
found keywords.Super = refl
found keywords.Switch = refl
found keywords.Synchronized = refl
found keywords.This = refl
found keywords.Throw = refl
found keywords.Throws = refl
found keywords.True = refl
found keywords.Try = refl
found keywords.Void = refl
found keywords.Volatile = refl
found keywords.While = refl

abbrev IsText : Word → Type 0
IsText (text, Keyword k) = text ≡ keyword_text k
IsText (text, Outside) = Unit {0}

-- each keyword stands beside its spelling
texts : AllByRecursion IsText words
unfolding words
texts = (tt, (refl, (tt, (refl, (refl, (refl, (refl, (refl, (refl, (refl, (tt, (refl, (refl, (refl, (tt, (refl, (refl, (refl, (refl, (refl, (refl, (tt, (refl, (tt, (refl, (refl, (refl, (refl, (refl, (refl, (refl, (tt, (refl, (refl, (refl, (refl, (refl, (refl, (refl, (refl, (refl, (tt, (refl, (refl, (refl, (refl, (refl, (refl, (tt, (refl, (refl, (refl, (refl, (refl, tt))))))))))))))))))))))))))))))))))))))))))))))))))))))

same : (row : Word) (x : Option Word) (word : List ℕ) (k : keyword) (b : Bool) → bytes_eq row.0 word ≡ b → IsText row → (option_map (λ (r : Word). r.1) x ≡ Some (Keyword k) → word ≡ keyword_text k) → option_map (λ (r : Word). r.1) (cond b (Some row) x) ≡ Some (Keyword k) → word ≡ keyword_text k
same (text, Keyword j) x word k true h t later e = let one : j ≡ k = cc in sym ((bytes_eq-Decides text word).0 h) ∙ t ∙ ap keyword_text one
same (text, Outside) x word k true h t later e = cc
same row x word k false h t later e = later e

in_table : (rows : List Word) (word : List ℕ) (k : keyword) → AllByRecursion IsText rows → beside word rows ≡ Some (Keyword k) → word ≡ keyword_text k
in_table [] word k t e = cc
in_table (row ∷ rows) word k t e = same row (find (λ (r : Word). bytes_eq r.0 word) rows) word k (bytes_eq row.0 word) refl t.0 (in_table rows word k t.1) e

pub only : (word : List ℕ) (k : keyword) → word_kind word ≡ Some (Keyword k) → word ≡ keyword_text k
only word k e = in_table words word k texts e
