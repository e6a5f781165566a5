-- Tokens and lists of them, a piece at a time.
use Rattle.std.proofs.Common.{◌≡◌, ◌≢◌, ◌+◌, ◌≤◌, ℕ, suc, Bool, true, false, List, [], ◌∷◌, ◌++◌, length, map, take, drop, Option, Some, None, refl, ap, sym, ◌∙◌, arith, append_assoc, append-nil}
use Rattle.std.proofs.lemmas.List.{take-map, drop-map}
use Rattle.java_tree.specs.declared.tokens.Mark.TheVariants as m
use Rattle.java_tree.specs.declared.tokens.Position.{Position}
use Rattle.java_tree.specs.declared.tokens.Keyword.{Keyword}
use Rattle.java_tree.specs.declared.tokens.Keyword.TheVariants as w
use Rattle.java_tree.specs.declared.tokens.TokenKind.{TokenKind}
use Rattle.java_tree.specs.declared.tokens.TokenKind.TheVariants as k
use Rattle.java_tree.specs.declared.tokens.JToken.{JToken}
use Rattle.java_tree.specs.Seen.{Token, Tokens, word_seen, kind_seen, token_seen, seen}
use Rattle.java_expr_grammar.specs.Reading.{maybe}
use Rattle.java_expr_grammar.proofs.LawsToCite.{length_seen, seen_none}
use Rattle.java_token_cursor.specs.declared.piece.Piece.{Piece}
use Rattle.java_token_cursor.specs.Shown.{shown, piece_shown}
use Rattle.java_token_cursor.proofs.LawsToCite.{shown_none, shown_more}
use Rattle.java_type_parser.proofs.LawsToCite.{length_shown}
use Rattle.java_unit_grammar.specs.Cutting as c
use Rattle.java_unit_grammar.specs.Reading as u
use Rattle.java_unit_grammar.specs.Standing.{spans}
use Rattle.java_body_cuts.specs.Cuts.{opener}
use Rattle.java_body_cuts.specs.Looks.{after_name, curly_count, line_count, semicolon_count, span_of}
use Rattle.java_body_cuts.specs.declared.stops.Opener.TheVariants as o

-- ---- words

pub word_weight : (word : Keyword) (at : Position) (stop : c.Stop) → c.token_weight (word_seen word at) stop ≡ c.Weight.Other
word_weight w.True at stop = refl
word_weight w.False at stop = refl
word_weight w.Null at stop = refl
word_weight _ at stop = refl

pub word_opener : (word : Keyword) (at : Position) → opener (word_seen word at) ≡ o.Other
word_opener w.True at = refl
word_opener w.False at = refl
word_opener w.Null at = refl
word_opener _ at = refl

word_raw : (word : Keyword) (at : Position) → c.is_raw (word_seen word at) ≡ true
word_raw w.True at = refl
word_raw w.False at = refl
word_raw w.Null at = refl
word_raw _ at = refl

kind_raw : (kind : TokenKind) (at : Position) → c.is_raw (kind_seen kind at) ≡ true
kind_raw (k.Keyword word) at = word_raw word at
kind_raw _ at = refl

pub token_raw : (x : JToken) → c.is_raw (token_seen x) ≡ true
token_raw x = kind_raw x.kind x.position

word_span : (word : Keyword) (at : Position) → span_of (word_seen word at) ≡ []
word_span w.True at = refl
word_span w.False at = refl
word_span w.Null at = refl
word_span _ at = refl

kind_span : (kind : TokenKind) (at : Position) → span_of (kind_seen kind at) ≡ []
kind_span (k.Keyword word) at = word_span word at
kind_span _ at = refl

pub token_span : (x : JToken) → span_of (token_seen x) ≡ []
token_span x = kind_span x.kind x.position

-- ---- lists

pub span_more : (x : Token) (ts : Tokens) → spans (x ∷ ts) ≡ span_of x ++ spans ts
span_more (Token.ArrowBody at body) ts = refl
span_more (Token.CloseBody at body) ts = refl
span_more (_) ts = refl

pub span_none : spans [] ≡ []
span_none = refl

pub take_shown : (n : ℕ) (xs : List Piece) → shown (take n xs) ≡ take n (shown xs)
unfolding shown
take_shown n xs = sym (take-map piece_shown n xs)

pub drop_shown : (n : ℕ) (xs : List Piece) → shown (drop n xs) ≡ drop n (shown xs)
unfolding shown
drop_shown n xs = sym (drop-map piece_shown n xs)

-- ---- looks ahead

pub type_at : (at : Position) (ts : Tokens) → u.goes_type (Token.Sign m.At at ∷ ts) ≡ maybe (after_name ts) false u.goes_type
type_at at [] = refl
type_at at (Token.Id n p ∷ ts) = refl
type_at at (_ ∷ ts) = refl

abbrev pub parts : ℕ → Tokens → Tokens × Tokens
parts n ts = (take n ts, drop n ts)

abbrev led : Token → Tokens × Tokens → Tokens × Tokens
led x p = (x ∷ p.0, p.1)

more_counts : (x : Token) (n : ℕ) (ts : Tokens) (p : Tokens × Tokens) → p ≡ parts n ts → led x p ≡ parts (n + 1) (x ∷ ts)
more_counts x n ts p e =
    let f : suc n ≡ n + 1 = omega arith in
    ap (led x) e ∙ ap (λ k. parts k (x ∷ ts)) f

pub curly_split : (ts : Tokens) → u.before_curly ts ≡ parts (curly_count ts) ts
unfolding curly_count
curly_split [] = refl
curly_split (Token.Sign m.OpenCurly at ∷ ts) = refl
curly_split (x ∷ ts) = more_counts x (curly_count ts) ts (u.before_curly ts) (curly_split ts)

pub line_split : (ts : Tokens) → u.line ts ≡ parts (line_count ts) ts
unfolding line_count
line_split [] = refl
line_split (Token.Sign m.Semicolon at ∷ ts) = refl
line_split (x ∷ ts) = more_counts x (line_count ts) ts (u.line ts) (line_split ts)

pub end_split : (ts : Tokens) → u.constants_end ts ≡ parts (semicolon_count ts) ts
end_split [] = refl
end_split (Token.Sign m.Semicolon at ∷ ts) = refl
end_split (_ ∷ ts) = refl

pub curly_within : (ts : Tokens) → curly_count ts ≤ length ts
unfolding curly_count
curly_within [] = omega arith
curly_within (Token.Sign m.OpenCurly at ∷ ts) = omega arith
curly_within (x ∷ ts) = let e = curly_within ts in omega (arith, e)

pub line_within : (ts : Tokens) → line_count ts ≤ length ts
unfolding line_count
line_within [] = omega arith
line_within (Token.Sign m.Semicolon at ∷ ts) = omega arith
line_within (x ∷ ts) = let e = line_within ts in omega (arith, e)

pub ruleset words = (word_weight, word_opener, token_raw, token_span, append-nil)

pub ruleset listed = (seen_none, shown_none, shown_more, append_assoc, append-nil)

pub ruleset spanned = (span_more, span_none, append_assoc, append-nil, length_shown)

pub ruleset splits = (take_shown, drop_shown)

pub ruleset types = (type_at, length_shown)

pub ruleset counts = (curly_within, line_within, length_shown)

pub ruleset before_is = (curly_split)

pub ruleset line_is = (line_split)

pub ruleset end_is = (end_split)
