-- The text of a head with what ends it.
use Rattle.std.proofs.Common.{◌≡◌, List, [], ◌∷◌, ◌++◌, take, Some, None, refl, ap, append-nil}
use Rattle.java_tree.specs.declared.tokens.Position.{Position}
use Rattle.java_tree.specs.declared.tokens.Mark.TheVariants as m
use Rattle.java_tree.specs.Seen.{Token, Tokens}
use Rattle.java_expr_grammar.specs.Reading.{colon}
use Rattle.java_expr_grammar.proofs.LawsToCite.{some_same}
use Rattle.java_statement_grammar.specs.Reading.{semicolon}
use Rattle.java_token_cursor.specs.declared.piece.Piece.{Piece}
use Rattle.java_token_cursor.specs.Shown.{shown, piece_shown}
use Rattle.java_unit_grammar.specs.Reading.{constants_end}

pub shown_nil : shown [] ≡ []
unfolding shown
shown_nil = refl

pub shown_cons : (x : Piece) (xs : List Piece) → shown (x ∷ xs) ≡ piece_shown x ∷ shown xs
unfolding shown
shown_cons x xs = refl

pub shown_append : (xs ys : List Piece) → shown (xs ++ ys) ≡ shown xs ++ shown ys
unfolding shown
shown_append [] ys = refl
shown_append (x ∷ xs) ys = ap (λ (l : Tokens). piece_shown x ∷ l) (shown_append xs ys)

pub colon_first : (ts us : Tokens) (at : Position) → colon ts ≡ Some (at, us) → take 1 ts ≡ Token.Sign m.Colon at ∷ []
colon_first (Token.Sign m.Colon c ∷ ts) us at e = let same : (c, ts) ≡ (at, us) = some_same e in ap (λ (p : Position × Tokens). Token.Sign m.Colon p.0 ∷ []) same
colon_first _ us at e = absurd (cc e)

pub end_some : (ts us : Tokens) (at : Position) → semicolon ts ≡ Some (at, us) → constants_end ts ≡ (take 1 ts, us)
end_some (Token.Sign m.Semicolon c ∷ ts) us at e = let same : (c, ts) ≡ (at, us) = some_same e in ap (λ (p : Position × Tokens). (Token.Sign m.Semicolon c ∷ [], p.1)) same
end_some _ us at e = absurd (cc e)

pub end_none : (ts : Tokens) → semicolon ts ≡ None → constants_end ts ≡ ([], ts)
end_none [] e = refl
end_none (Token.Sign m.Semicolon c ∷ ts) e = absurd (cc e)
end_none (_ ∷ ts) e = refl

pub none_behind : (xs : Tokens) → xs ++ [] ≡ xs
none_behind xs = append-nil xs

pub ruleset texts = (shown_nil, shown_cons, shown_append, none_behind)

pub ruleset labels = (colon_first)

pub ruleset ends = (end_some, end_none, none_behind)
