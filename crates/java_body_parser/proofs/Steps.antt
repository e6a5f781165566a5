-- Statements that begin with a name.
use Rattle.std.proofs.Common.{◌≡◌, ℕ, List, [], ◌∷◌, refl}
use Rattle.java_tree.specs.declared.tokens.Position.{Position}
use Rattle.java_tree.specs.declared.tokens.Mark.TheVariants as m
use Rattle.java_tree.specs.Seen.{Token, Tokens}
use Rattle.java_expr_grammar.specs.Reading.{maybe, colon}
use Rattle.java_unit_grammar.specs.Standing.{Role}
use Rattle.java_unit_grammar.specs.Reading.{Readers, statement_step, simple, labeled}

pub named_is : (R : Readers) (d : ℕ) (place : Role) (n : List ℕ) (at : Position) (ts : Tokens)
    → statement_step R d place (Token.Id n at ∷ ts) ≡ maybe (colon ts) (simple R d place (Token.Id n at ∷ ts)) (λ c. labeled R d n at c.0 c.1)
named_is R d place n at [] = refl
named_is R d place n at (Token.Sign m.Colon c ∷ ts) = refl
named_is R d place n at (_ ∷ ts) = refl

pub ruleset names = (named_is)
