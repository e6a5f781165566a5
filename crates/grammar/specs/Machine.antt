-- The machine that reads: each form in the way that the first kind chooses.
use Rattle.std.specs.Prelude.{ℕ, zero, suc, ◌++◌, List, [], ◌∷◌, Option, Some, None}
use Rattle.grammar.specs.declared.symbols.Symbol.{Symbol}
use Rattle.grammar.specs.declared.symbols.Symbol.TheVariants as y
use Rattle.grammar.specs.Grammar.{Grammar}

-- How the way of a form is chosen: by the kind of what stands ahead.
pub record Choice (Token Kind Form Way : Type 0) : Type 0 where
  pub kind : List Token → Kind
  pub choose : Form → Kind → Way

infixl 20 ◌>>=◌
abbrev pub ◌>>=◌ : {A B : Type 0} → Option A → (A → Option B) → Option B
None >>= f = None
(Some x) >>= f = f x

module _ {Token Kind Term Form Way Act Built : Type 0} (g : Grammar Token Term Form Way Act Built) (c : Choice Token Kind Form Way) where
  -- What is built in the end, where the tokens are read so; the number bounds the steps.
  unfoldable pub run : ℕ → List (Symbol Term Form Act) → Built → List Token → Option Built
  run zero s b ts = None
  run (suc d) [] b [] = Some b
  run (suc d) [] b (t ∷ ts) = None
  run (suc d) (y.Term t ∷ s) b ts = g.takes t b ts >>= λ x. run d s x.0 x.1
  run (suc d) (y.Act a ∷ s) b ts = g.acts a b >>= λ e. run d s e ts
  run (suc d) (y.Form n ∷ s) b ts = run d (g.written (c.choose n (c.kind ts)) ++ s) b ts
