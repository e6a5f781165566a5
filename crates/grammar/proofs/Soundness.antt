-- What is read is derived.
use Rattle.std.proofs.Common.{◌≡◌, ℕ, zero, suc, ◌++◌, List, [], ◌∷◌, Option, Some, None, refl}
use Rattle.grammar.specs.declared.symbols.Symbol.{Symbol}
use Rattle.grammar.specs.declared.symbols.Symbol.TheVariants as y
use Rattle.grammar.specs.Grammar.{Grammar, Derives}
use Rattle.grammar.specs.Machine.{Choice, run, ◌>>=◌}

pub bind_some : {A B : Type 0} (o : Option A) (f : A → Option B) (z : B) → (o >>= f) ≡ Some z → (x : A) × (o ≡ Some x) × (f x ≡ Some z)
bind_some None f z h = absurd (cc h)
bind_some (Some x) f z h = (x, refl, h)

pub some_same : {A : Type 0} {x z : A} → Option.Some x ≡ Some z → x ≡ z
some_same h = cc h

module _ {Token Kind Term Form Way Act Built : Type 0} (g : Grammar Token Term Form Way Act Built) (c : Choice Token Kind Form Way)
    (owned : (n : Form) (k : Kind) → g.owner (c.choose n k) ≡ n) where
  pub sound : (d : ℕ) (s : List (Symbol Term Form Act)) (b : Built) (ts : List Token) (e : Built) → run g c d s b ts ≡ Some e → Derives g d s b ts e
  unfolding run Derives
  sound zero s b ts e h = absurd (cc h)
  sound (suc d) [] b [] e h = (some_same h, refl)
  sound (suc d) [] b (t ∷ ts) e h = absurd (cc h)
  sound (suc d) (y.Term t ∷ s) b ts e h = let a = bind_some (g.takes t b ts) _ _ h in (a.0, a.1, sound d s a.0.0 a.0.1 e a.2)
  sound (suc d) (y.Act a ∷ s) b ts e h = let u = bind_some (g.acts a b) _ _ h in (u.0, u.1, sound d s u.0 ts e u.2)
  sound (suc d) (y.Form n ∷ s) b ts e h = (c.choose n (c.kind ts), owned n (c.kind ts), sound d (g.written (c.choose n (c.kind ts)) ++ s) b ts e h)
