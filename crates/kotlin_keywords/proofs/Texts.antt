-- A word is what its spelling says, and no other.
use Rattle.std.proofs.Common.{◌≡◌, ℕ, Bool, true, false, List, [], ◌∷◌, Option, Some, None, cond, bytes_eq, find, refl, sym, ◌∙◌, ap}
use Rattle.std.specs.List.{AllByRecursion}
use Rattle.std.specs.Option.{option_map}
use Rattle.std.proofs.lemmas.Slice.Eq.{bytes_eq-Decides}
use Rattle.kotlin_tree.specs.declared.tokens.Keyword.{Keyword as keyword}
use Rattle.kotlin_tree.specs.declared.tokens.Keyword.TheVariants as hard
use Rattle.kotlin_tree.specs.declared.tokens.Word.{Word as soft_word}
use Rattle.kotlin_tree.specs.declared.tokens.Word.TheVariants as soft
use Rattle.kotlin_tree.specs.Spellings.{keyword_text, word_text}
use Rattle.kotlin_keywords.specs.declared.words.WordKind.{WordKind}
use Rattle.kotlin_keywords.specs.declared.words.WordKind.TheVariants.{Keyword, Word}
use Rattle.kotlin_keywords.specs.Words.{Entry, keywords, soft_words, beside, or_else, word_kind}

pub keyword_found : (k : keyword) → word_kind (keyword_text k) ≡ Some (Keyword k)
unfolding keywords
keyword_found hard.As = refl
keyword_found hard.Break = refl
keyword_found hard.Class = refl
keyword_found hard.Continue = refl
keyword_found hard.Do = refl
keyword_found hard.Else = refl
keyword_found hard.False = refl
keyword_found hard.For = refl
keyword_found hard.Fun = refl
keyword_found hard.If = refl
keyword_found hard.In = refl
keyword_found hard.Interface = refl
keyword_found hard.Is = refl
keyword_found hard.Null = refl
keyword_found hard.Object = refl
keyword_found hard.Package = refl
keyword_found hard.Return = refl
keyword_found hard.Super = refl
keyword_found hard.This = refl
keyword_found hard.Throw = refl
keyword_found hard.True = refl
keyword_found hard.Try = refl
keyword_found hard.Typealias = refl
keyword_found hard.Typeof = refl
keyword_found hard.Val = refl
keyword_found hard.Var = refl
keyword_found hard.When = refl
keyword_found hard.While = refl

pub word_found : (w : soft_word) → word_kind (word_text w) ≡ Some (Word w)
unfolding keywords soft_words
word_found soft.Abstract = refl
word_found soft.And = refl
word_found soft.Catch = refl
word_found soft.Companion = refl
word_found soft.Const = refl
word_found soft.Constructor = refl
word_found soft.Finally = refl
word_found soft.Import = refl
word_found soft.Init = refl
word_found soft.Java = refl
word_found soft.JvmField = refl
word_found soft.JvmStatic = refl
word_found soft.Open = refl
word_found soft.Or = refl
word_found soft.Override = refl
word_found soft.Private = refl
word_found soft.Run = refl
word_found soft.Set = refl
word_found soft.Shl = refl
word_found soft.Shr = refl
word_found soft.SynchronizedBlock = refl
word_found soft.SynchronizedMethod = refl
word_found soft.Until = refl
word_found soft.Ushr = refl
word_found soft.Volatile = refl
word_found soft.Xor = refl

-- how a word is spelled
abbrev pub text_of : WordKind → List ℕ
text_of (Keyword k) = keyword_text k
text_of (Word w) = word_text w

abbrev IsText : Entry → Type 0
IsText row = row.0 ≡ text_of row.1

-- each stands beside its spelling
keyword_texts : AllByRecursion IsText keywords
unfolding keywords
keyword_texts = (refl, (refl, (refl, (refl, (refl, (refl, (refl, (refl, (refl, (refl, (refl, (refl, (refl, (refl, (refl, (refl, (refl, (refl, (refl, (refl, (refl, (refl, (refl, (refl, (refl, (refl, (refl, (refl, tt))))))))))))))))))))))))))))

soft_texts : AllByRecursion IsText soft_words
unfolding soft_words
soft_texts = (refl, (refl, (refl, (refl, (refl, (refl, (refl, (refl, (refl, (refl, (refl, (refl, (refl, (refl, (refl, (refl, (refl, (refl, (refl, (refl, (refl, (refl, (refl, (refl, (refl, (refl, tt))))))))))))))))))))))))))

same : (row : Entry) (x : Option Entry) (text : List ℕ) (kind : WordKind) (b : Bool) → bytes_eq row.0 text ≡ b → IsText row → (option_map (λ (r : Entry). r.1) x ≡ Some kind → text ≡ text_of kind) →
    option_map (λ (r : Entry). r.1) (cond b (Some row) x) ≡ Some kind → text ≡ text_of kind
same row x text kind true h t later e =
    let one : row.1 ≡ kind = cc in sym ((bytes_eq-Decides row.0 text).0 h) ∙ (t ∙ ap text_of one)
same row x text kind false h t later e = later e

in_table : (rows : List Entry) (text : List ℕ) (kind : WordKind) → AllByRecursion IsText rows → beside text rows ≡ Some kind → text ≡ text_of kind
in_table [] text kind t e = cc
in_table (row ∷ rows) text kind t e = same row (find (λ (r : Entry). bytes_eq r.0 text) rows) text kind (bytes_eq row.0 text) refl t.0 (in_table rows text kind t.1) e

either : (x y : Option WordKind) (text : List ℕ) (kind : WordKind) → (x ≡ Some kind → text ≡ text_of kind) → (y ≡ Some kind → text ≡ text_of kind) → or_else x y ≡ Some kind → text ≡ text_of kind
either None y text kind h k e = k e
either (Some z) y text kind h k e = h e

pub only : (text : List ℕ) (kind : WordKind) → word_kind text ≡ Some kind → text ≡ text_of kind
only text kind e =
    either (beside text keywords) (beside text soft_words) text kind (in_table keywords text kind keyword_texts) (in_table soft_words text kind soft_texts) e
