-- How many steps are enough.
use Rattle.std.proofs.Common.{◌≡◌, ◌≤◌, ◌+◌, ◌*◌, ℕ, zero, suc, ◌++◌, List, [], ◌∷◌, subst, arith}
use Rattle.grammar.specs.declared.symbols.Symbol.{Symbol}
use Rattle.grammar.specs.declared.symbols.Symbol.TheVariants as y
use Rattle.grammar.specs.Grammar.{Grammar, Derives}
use Rattle.grammar.specs.Machine.{Choice}
use Rattle.grammar.specs.Certificate.{Certificate, IsDecided, weight_of, terms, paid}

terms_append : {Term Form Act : Type 0} (s z : List (Symbol Term Form Act)) → terms (s ++ z) ≡ terms s + terms z
terms_append [] z = omega arith
terms_append (y.Term t ∷ s) z = rw (terms_append s z) (omega arith)
terms_append (y.Act a ∷ s) z = terms_append s z
terms_append (y.Form n ∷ s) z = terms_append s z

module _ {Token Kind Term Form Way Act Built : Type 0} (g : Grammar Token Term Form Way Act Built) (c : Choice Token Kind Form Way)
    (r : Certificate Token Kind Term Form) (h : IsDecided g c r) where
  abbrev Symbols : Type 0
  Symbols = List (Symbol Term Form Act)

  weight_append : (s z : Symbols) → weight_of r (s ++ z) ≡ weight_of r s + weight_of r z
  weight_append [] z = omega arith
  weight_append (y.Term t ∷ s) z = rw (weight_append s z) (omega arith)
  weight_append (y.Act a ∷ s) z = rw (weight_append s z) (omega arith)
  weight_append (y.Form n ∷ s) z = rw (weight_append s z) (omega arith)

  needs : (d : ℕ) (s : Symbols) (b : Built) (ts : List Token) (e : Built) → Derives g d s b ts e → terms s ≤ r.size ts
  unfolding Derives
  needs zero s b ts e i = absurd i
  needs (suc d) [] b ts e i = omega arith
  needs (suc d) (y.Term t ∷ s) b ts e i = omega (arith, needs d s i.0.0 i.0.1 e i.2, h.shorter t b ts i.0 i.1)
  needs (suc d) (y.Act a ∷ s) b ts e i = needs d s i.0 ts e i.2
  needs (suc d) (y.Form n ∷ s) b ts e i = omega (arith, needs d (g.written i.0 ++ s) b ts e i.2, terms_append (g.written i.0) s)

  -- What is derived in any number of steps is derived in as many as the symbols weigh and the tokens pay for.
  pub enough : (d n : ℕ) (s : Symbols) (b : Built) (ts : List Token) (e : Built) → weight_of r s + paid * r.size ts + 1 ≤ n + paid * terms s → Derives g d s b ts e → Derives g n s b ts e
  unfolding Derives
  enough zero n s b ts e l i = absurd i
  enough (suc d) zero s b ts e l i = absurd (omega (arith, l, needs (suc d) s b ts e i))
  enough (suc d) (suc n) [] b ts e l i = i
  enough (suc d) (suc n) (y.Term t ∷ s) b ts e l i = (i.0, i.1, enough d n s i.0.0 i.0.1 e (omega (arith, l, h.shorter t b ts i.0 i.1)) i.2)
  enough (suc d) (suc n) (y.Act a ∷ s) b ts e l i = (i.0, i.1, enough d n s i.0 ts e (omega (arith, l)) i.2)
  enough (suc d) (suc n) (y.Form f ∷ s) b ts e l i =
      let w : 1 + weight_of r (g.written i.0) ≤ r.weight f + paid * terms (g.written i.0) = subst (λ m. 1 + weight_of r (g.written i.0) ≤ r.weight m + paid * terms (g.written i.0)) i.1 (h.heavy i.0) in
      (i.0, i.1, enough d n (g.written i.0 ++ s) b ts e (omega (arith, l, w, weight_append (g.written i.0) s, terms_append (g.written i.0) s)) i.2)
