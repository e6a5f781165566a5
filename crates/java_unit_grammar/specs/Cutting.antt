-- Cutting a head off what follows it, a piece at a time.
use Rattle.std.specs.Prelude.{ℕ, zero, suc, ◌-◌, Bool, true, false, List, [], ◌∷◌, length, take, drop, Option, Some, None}
use Rattle.java_tree.specs.declared.tokens.Mark.{Mark}
use Rattle.java_tree.specs.declared.tokens.Mark.TheVariants as m
use Rattle.java_tree.specs.declared.exprs.Span.{Span}
use Rattle.java_tree.specs.Seen.{Token, Tokens, body}
use Rattle.java_expr_grammar.specs.Reading.{◌>>=◌, maybe}

-- what ends a head: a `;`, the `)` that pairs with the `(` before it, the `:` that no `?` takes, or the end of the constants of
-- an enum, which is a `;` or the `}` of the body
pub data Stop : Type 0 where
  Semicolon : Stop
  Close : Stop
  Colon : Stop
  Constants : Stop

pub data Weight : Type 0 where
  Opens : Weight
  Closes : Weight
  Other : Weight

abbrev pub weight : Mark → Stop → Weight
weight m.OpenRound Stop.Close = Weight.Opens
weight m.CloseRound Stop.Close = Weight.Closes
weight m.Question Stop.Colon = Weight.Opens
weight m.Colon Stop.Colon = Weight.Closes
weight m.OpenCurly Stop.Constants = Weight.Opens
weight m.CloseCurly Stop.Constants = Weight.Closes
weight m.Semicolon Stop.Semicolon = Weight.Closes
weight m.Semicolon Stop.Constants = Weight.Closes
weight _ stop = Weight.Other

abbrev pub token_weight : Token → Stop → Weight
token_weight (Token.Sign mark at) stop = weight mark stop
token_weight (Token.CloseBody at span) stop = weight m.CloseRound stop
token_weight _ stop = Weight.Other

-- how many are open behind it, where n are before; None where it ends the head
abbrev pub turn : Weight → ℕ → Option ℕ
turn Weight.Opens n = Some (suc n)
turn Weight.Closes zero = None
turn Weight.Closes (suc n) = Some n
turn Weight.Other n = Some n

-- a token of a file, in which no body counts with the token before it
abbrev pub is_raw : Token → Bool
is_raw (Token.ArrowBody at span) = false
is_raw (Token.CloseBody at span) = false
is_raw _ = true

-- the body that counts with a token
abbrev pub behind : Token → ℕ → Tokens → Option (Span × Tokens)
behind (Token.Sign m.Arrow at) end ts = body end ts
behind (Token.Sign m.CloseRound at) end ts = body end ts
behind _ end ts = None

abbrev pub with_span : Token → Span → Token
with_span (Token.Sign m.Arrow at) span = Token.ArrowBody at span
with_span (Token.Sign m.CloseRound at) span = Token.CloseBody at span
with_span x span = x

-- the head with its bodies as spans, the tokens of each body, and what follows
pub record Cut : Type 0 where
  pub text : Tokens
  pub bodies : List Tokens
  pub rest : Tokens

abbrev pub cut_step : Token → Tokens → Option (Span × Tokens) → (Tokens → Option Cut) → Option Cut
cut_step x ts None go = go ts >>= λ c. Some (record { text = x ∷ c.text; bodies = c.bodies; rest = c.rest })
cut_step x ts (Some b) go =
    go b.1 >>= λ c. Some (record { text = with_span x b.0 ∷ c.text; bodies = take (b.0.to - b.0.from) (drop 1 ts) ∷ c.bodies; rest = c.rest })

abbrev pub cut_raw : Bool → Option Cut → Option Cut
cut_raw true x = x
cut_raw false x = None

-- in at most as many steps as the first number says
unfoldable pub cut_by : Stop → ℕ → ℕ → ℕ → Tokens → Option Cut
cut_by stop zero end n ts = None
cut_by stop (suc f) end n [] = None
cut_by stop (suc f) end n (x ∷ ts) =
    maybe (turn (token_weight x stop) n) (Some (record { text = []; bodies = []; rest = x ∷ ts }))
    (λ k. cut_raw (is_raw x) (cut_step x ts (behind x end ts) (cut_by stop f end k)))

abbrev pub cut : Stop → Tokens → Option Cut
cut stop ts = cut_by stop (length ts) (length ts) 0 ts
