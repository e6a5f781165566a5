-- Tokens with those of their bodies, and what was written.
use Rattle.std.proofs.Common.{◌≡◌, ℕ, List, [], ◌∷◌, ◌++◌, take, drop, ap, sym, refl, ◌∙◌, append_assoc}
use Rattle.std.proofs.lemmas.List.{take-map, drop-map}
use Rattle.java_tree.specs.declared.tokens.Position.{Position}
use Rattle.java_tree.specs.declared.tokens.Keyword.{Keyword}
use Rattle.java_tree.specs.declared.tokens.Keyword.TheVariants as w
use Rattle.java_tree.specs.declared.tokens.TokenKind.{TokenKind}
use Rattle.java_tree.specs.declared.tokens.TokenKind.TheVariants as k
use Rattle.java_tree.specs.declared.tokens.JToken.{JToken}
use Rattle.java_tree.specs.Seen.{Token, Tokens, expanded, token_tokens, token_seen, kind_seen, word_seen, seen}
use Rattle.java_expr_printer.specs.declared.written.Written.{Written}
use Rattle.java_expr_printer.specs.Shown.{shown, written_shown}

pub expanded_none : (file : Tokens) → expanded file [] ≡ []
unfolding expanded
expanded_none file = refl

pub expanded_more : (file : Tokens) (x : Token) (ts : Tokens) → expanded file (x ∷ ts) ≡ token_tokens file x ++ expanded file ts
unfolding expanded
expanded_more file x ts = refl

pub expanded_joins : (file a b : Tokens) → expanded file (a ++ b) ≡ expanded file a ++ expanded file b
unfolding expanded
expanded_joins file [] b = refl
expanded_joins file (x ∷ a) b = ap (λ z. token_tokens file x ++ z) (expanded_joins file a b) ∙ sym (append_assoc (token_tokens file x) (expanded file a) (expanded file b))

-- ---- a token of a file is no body

word_plain : (file : Tokens) (word : Keyword) (at : Position) → token_tokens file (word_seen word at) ≡ word_seen word at ∷ []
word_plain file w.Abstract at = refl
word_plain file w.Boolean at = refl
word_plain file w.Break at = refl
word_plain file w.Byte at = refl
word_plain file w.Case at = refl
word_plain file w.Catch at = refl
word_plain file w.Char at = refl
word_plain file w.Class at = refl
word_plain file w.Continue at = refl
word_plain file w.Default at = refl
word_plain file w.Do at = refl
word_plain file w.Else at = refl
word_plain file w.Enum at = refl
word_plain file w.Extends at = refl
word_plain file w.False at = refl
word_plain file w.Final at = refl
word_plain file w.Finally at = refl
word_plain file w.For at = refl
word_plain file w.If at = refl
word_plain file w.Implements at = refl
word_plain file w.Import at = refl
word_plain file w.Instanceof at = refl
word_plain file w.Int at = refl
word_plain file w.Interface at = refl
word_plain file w.Long at = refl
word_plain file w.New at = refl
word_plain file w.Null at = refl
word_plain file w.Package at = refl
word_plain file w.Private at = refl
word_plain file w.Protected at = refl
word_plain file w.Public at = refl
word_plain file w.Return at = refl
word_plain file w.Short at = refl
word_plain file w.Static at = refl
word_plain file w.Super at = refl
word_plain file w.Switch at = refl
word_plain file w.Synchronized at = refl
word_plain file w.This at = refl
word_plain file w.Throw at = refl
word_plain file w.Throws at = refl
word_plain file w.True at = refl
word_plain file w.Try at = refl
word_plain file w.Void at = refl
word_plain file w.Volatile at = refl
word_plain file w.While at = refl

pub kind_plain : (file : Tokens) (kind : TokenKind) (at : Position) → token_tokens file (kind_seen kind at) ≡ kind_seen kind at ∷ []
kind_plain file (k.Mark mark) at = refl
kind_plain file (k.Keyword word) at = word_plain file word at
kind_plain file (k.Name name) at = refl
kind_plain file (k.Integer n) at = refl
kind_plain file k.LeastInteger at = refl
kind_plain file (k.Long n) at = refl
kind_plain file k.LeastLong at = refl
kind_plain file (k.Character n) at = refl
kind_plain file (k.Text units) at = refl

pub seen_plain : (file : Tokens) (xs : List JToken) → expanded file (seen xs) ≡ seen xs
unfolding expanded seen
seen_plain file [] = refl
seen_plain file (x ∷ xs) = ap (λ z. z ++ expanded file (seen xs)) (kind_plain file x.kind x.position) ∙ ap (λ z. token_seen x ∷ z) (seen_plain file xs)

-- ---- copies

pub seen_part : (n from : ℕ) (file : List JToken) → seen (take n (drop from file)) ≡ take n (drop from (seen file))
unfolding seen
seen_part n from file = simp (take-map, drop-map)

pub seen_first : (x : JToken) (xs : List JToken) → seen (x ∷ xs) ≡ token_seen x ∷ seen xs
unfolding seen
seen_first x xs = refl

-- ---- what was written

pub shown_none : shown [] ≡ []
unfolding shown
shown_none = refl

pub shown_first : (x : Written) (xs : List Written) → shown (x ∷ xs) ≡ written_shown x ∷ shown xs
unfolding shown
shown_first x xs = refl

pub shown_more : (xs : List Written) (x : Written) → shown (xs ++ x ∷ []) ≡ shown xs ++ written_shown x ∷ []
unfolding shown
shown_more [] x = refl
shown_more (y ∷ xs) x = ap (λ r. written_shown y ∷ r) (shown_more xs x)

pub ruleset expansions = (expanded_none, expanded_more, kind_plain, seen_part, seen_first)

pub ruleset written_texts = (shown_none, shown_first, shown_more)
