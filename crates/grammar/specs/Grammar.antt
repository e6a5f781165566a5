-- A grammar as data: how each form may be written, what a terminal takes, and what is built.
use Rattle.std.specs.Prelude.{◌≡◌, ℕ, zero, suc, ◌++◌, List, [], ◌∷◌, Option}
use Rattle.grammar.specs.declared.symbols.Symbol.{Symbol}
use Rattle.grammar.specs.declared.symbols.Symbol.TheVariants as y

pub record Grammar (Token Term Form Way Act Built : Type 0) : Type 0 where
  -- the form that a way writes
  pub owner : Way → Form
  -- how it is written
  pub written : Way → List (Symbol Term Form Act)
  -- what a terminal builds and leaves of the tokens, where it takes some
  pub takes : Term → Built → List Token → Option (Built × List Token)
  -- what an action builds, where it may
  pub acts : Act → Built → Option Built

module _ {Token Term Form Way Act Built : Type 0} (g : Grammar Token Term Form Way Act Built) where
  -- The symbols are written as these tokens, all of them, and what was built before becomes what is built in the end. Each form
  -- is written in any of its ways. The number bounds the steps.
  unfoldable pub Derives : ℕ → List (Symbol Term Form Act) → Built → List Token → Built → Type 0
  Derives zero s old ts new = ⊥
  Derives (suc d) [] old ts new = (old ≡ new) × (ts ≡ [])
  Derives (suc d) (y.Term t ∷ s) old ts new = (x : Built × List Token) × (g.takes t old ts ≡ Option.Some x) × Derives d s x.0 x.1 new
  Derives (suc d) (y.Act a ∷ s) old ts new = (b : Built) × (g.acts a old ≡ Option.Some b) × Derives d s b ts new
  Derives (suc d) (y.Form n ∷ s) old ts new = (w : Way) × (g.owner w ≡ n) × Derives d (g.written w ++ s) old ts new
