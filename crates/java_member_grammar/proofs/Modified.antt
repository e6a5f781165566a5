-- Modifiers that come first: what is read is spelled so, and what is spelled so is read.
use Rattle.std.proofs.Common.{◌≡◌, ℕ, Bool, true, false, if◌then◌else◌, ◌++◌, List, [], ◌∷◌, Option, Some, None, refl, ap, sym, ◌∙◌, append_assoc}
use Rattle.std.specs.Prelude.{codes}
use Rattle.std.specs.Str.{bytes_eq}
use Rattle.std.proofs.lemmas.Slice.Eq.{bytes_eq-Decides}
use Rattle.java_tree.specs.declared.tokens.Position.{Position}
use Rattle.java_tree.specs.declared.tokens.Mark.TheVariants as m
use Rattle.java_tree.specs.declared.tokens.Keyword.{Keyword}
use Rattle.java_tree.specs.declared.tokens.Keyword.TheVariants as w
use Rattle.java_tree.specs.Seen.{Token, Tokens}
use Rattle.java_expr_grammar.specs.Reading.{maybe, is_some}
use Rattle.java_expr_grammar.proofs.LawsToCite.{some_same}
use Rattle.java_member_grammar.specs.declared.modifiers.ModifierKind.{ModifierKind}
use Rattle.java_member_grammar.specs.declared.modifiers.ModifierKind.TheVariants as modifier
use Rattle.java_member_grammar.specs.declared.modifiers.JModifier.{JModifier}
use Rattle.java_member_grammar.specs.Heads.{modifier_tokens, modifiers_tokens}
use Rattle.java_member_grammar.specs.Reading.{modifier_by, modifiers}

abbrev one : ModifierKind → Position → JModifier
one kind at = record { kind = kind; at = at }

-- ---- what is read is spelled so

word_only : (word : Keyword) (kind : ModifierKind) (at : Position) → modifier_by word ≡ Some kind → modifier_tokens (one kind at) ≡ Token.Word word at ∷ []
word_only w.Public kind at e = ap (λ (k : ModifierKind). modifier_tokens (one k at)) (sym (some_same e))
word_only w.Protected kind at e = ap (λ (k : ModifierKind). modifier_tokens (one k at)) (sym (some_same e))
word_only w.Private kind at e = ap (λ (k : ModifierKind). modifier_tokens (one k at)) (sym (some_same e))
word_only w.Abstract kind at e = ap (λ (k : ModifierKind). modifier_tokens (one k at)) (sym (some_same e))
word_only w.Static kind at e = ap (λ (k : ModifierKind). modifier_tokens (one k at)) (sym (some_same e))
word_only w.Final kind at e = ap (λ (k : ModifierKind). modifier_tokens (one k at)) (sym (some_same e))
word_only w.Synchronized kind at e = ap (λ (k : ModifierKind). modifier_tokens (one k at)) (sym (some_same e))
word_only w.Volatile kind at e = ap (λ (k : ModifierKind). modifier_tokens (one k at)) (sym (some_same e))
word_only w.Default kind at e = ap (λ (k : ModifierKind). modifier_tokens (one k at)) (sym (some_same e))
word_only _ kind at e = absurd (cc e)

abbrev Texts : Tokens → List JModifier × Tokens → Type 0
Texts ts y = ts ≡ modifiers_tokens y.0 ++ y.1

word_text : (word : Keyword) (at : Position) (rest : Tokens) (y : List JModifier × Tokens) (found : Option ModifierKind) → modifier_by word ≡ found → Texts rest y
    → Texts (Token.Word word at ∷ rest) (maybe found ([], Token.Word word at ∷ rest) (λ k. (one k at ∷ y.0, y.1)))
word_text word at rest y None h i = refl
word_text word at rest y (Some k) h i = ap (λ r. Token.Word word at ∷ r) i ∙ ap (λ r. (r ++ modifiers_tokens y.0) ++ y.1) (sym (word_only word k at h))

override_text : (at : Position) (n : List ℕ) (p : Position) (rest : Tokens) (y : List JModifier × Tokens) (is : Bool) → bytes_eq n (codes "Override") ≡ is → Texts rest y
    → Texts (Token.Sign m.At at ∷ Token.Id n p ∷ rest) (if is then (one (modifier.Override p) at ∷ y.0, y.1) else ([], Token.Sign m.At at ∷ Token.Id n p ∷ rest))
override_text at n p rest y true h i =
    ap (λ (n : List ℕ). Token.Sign m.At at ∷ Token.Id n p ∷ rest) ((bytes_eq-Decides n (codes "Override")).0 h)
    ∙ ap (λ r. Token.Sign m.At at ∷ Token.Id (codes "Override") p ∷ r) i
override_text at n p rest y false h i = refl

pub modifiers_text : (ts : Tokens) → ts ≡ modifiers_tokens (modifiers ts).0 ++ (modifiers ts).1
unfolding modifiers
modifiers_text (Token.Word word at ∷ rest) = word_text word at rest (modifiers rest) (modifier_by word) refl (modifiers_text rest)
modifiers_text (Token.Sign m.At at ∷ Token.Id n p ∷ rest) = override_text at n p rest (modifiers rest) (bytes_eq n (codes "Override")) refl (modifiers_text rest)
modifiers_text _ = refl

-- ---- what is spelled so is read, where no modifier follows

abbrev pub begins_modifier : Tokens → Bool
begins_modifier (Token.Word word at ∷ rest) = is_some (modifier_by word)
begins_modifier (Token.Sign m.At at ∷ rest) = true
begins_modifier _ = false

none_of : {A : Type 0} (o : Option A) → is_some o ≡ false → o ≡ None
none_of None h = refl
none_of (Some x) h = absurd (cc h)

none_first : (ts : Tokens) → begins_modifier ts ≡ false → modifiers ts ≡ ([], ts)
unfolding modifiers
none_first (Token.Word word at ∷ rest) h = rw (none_of (modifier_by word) h) refl
none_first (Token.Sign m.At at ∷ Token.Id n p ∷ rest) h = absurd (cc h)
none_first _ h = refl

one_again : (kind : ModifierKind) (at : Position) (us : Tokens) (y : List JModifier × Tokens) → modifiers us ≡ y → modifiers (modifier_tokens (one kind at) ++ us) ≡ (one kind at ∷ y.0, y.1)
unfolding modifiers
one_again modifier.Public at us y h = ap (λ (y : List JModifier × Tokens). (one modifier.Public at ∷ y.0, y.1)) h
one_again modifier.Protected at us y h = ap (λ (y : List JModifier × Tokens). (one modifier.Protected at ∷ y.0, y.1)) h
one_again modifier.Private at us y h = ap (λ (y : List JModifier × Tokens). (one modifier.Private at ∷ y.0, y.1)) h
one_again modifier.Abstract at us y h = ap (λ (y : List JModifier × Tokens). (one modifier.Abstract at ∷ y.0, y.1)) h
one_again modifier.Static at us y h = ap (λ (y : List JModifier × Tokens). (one modifier.Static at ∷ y.0, y.1)) h
one_again modifier.Final at us y h = ap (λ (y : List JModifier × Tokens). (one modifier.Final at ∷ y.0, y.1)) h
one_again modifier.Synchronized at us y h = ap (λ (y : List JModifier × Tokens). (one modifier.Synchronized at ∷ y.0, y.1)) h
one_again modifier.Volatile at us y h = ap (λ (y : List JModifier × Tokens). (one modifier.Volatile at ∷ y.0, y.1)) h
one_again modifier.Default at us y h = ap (λ (y : List JModifier × Tokens). (one modifier.Default at ∷ y.0, y.1)) h
one_again (modifier.Override p) at us y h = ap (λ (y : List JModifier × Tokens). (one (modifier.Override p) at ∷ y.0, y.1)) h

pub modifiers_again : (xs : List JModifier) (rest : Tokens) → begins_modifier rest ≡ false → modifiers (modifiers_tokens xs ++ rest) ≡ (xs, rest)
modifiers_again [] rest h = none_first rest h
modifiers_again (x ∷ xs) rest h =
    ap modifiers (append_assoc (modifier_tokens x) (modifiers_tokens xs) rest)
    ∙ one_again x.kind x.at (modifiers_tokens xs ++ rest) (xs, rest) (modifiers_again xs rest h)
