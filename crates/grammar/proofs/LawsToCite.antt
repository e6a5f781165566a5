-- The laws of a grammar whose forms one kind ahead decides.
use Rattle.std.proofs.Common.{◌≡◌, ◌≤◌, ◌+◌, ◌*◌, ℕ, List, Some, sym, ◌∙◌, arith}
use Rattle.grammar.specs.declared.symbols.Symbol.{Symbol}
use Rattle.grammar.specs.Grammar.{Grammar, Derives}
use Rattle.grammar.specs.Machine.{Choice, run}
use Rattle.grammar.specs.Certificate.{Certificate, IsDecided, weight_of, terms, paid}
pub use Rattle.grammar.proofs.Soundness.{sound, bind_some, some_same}
pub use Rattle.grammar.proofs.Completeness.{complete, Good, May, starts}
pub use Rattle.grammar.proofs.Bound.{enough}

module _ {Token Kind Term Form Way Act Built : Type 0} (g : Grammar Token Term Form Way Act Built) (c : Choice Token Kind Form Way)
    (r : Certificate Token Kind Term Form) (h : IsDecided g c r) where
  -- As many steps as this read all that is derived.
  pub read : (n d : ℕ) (s : List (Symbol Term Form Act)) (b : Built) (ts : List Token) (e : Built) → Good g c r h s
      → weight_of r s + paid * r.size ts + 1 ≤ n + paid * terms s → Derives g d s b ts e → run g c n s b ts ≡ Some e
  read n d s b ts e q l i = complete g c r h n s b ts e q (enough g c r h d n s b ts e l i)

  -- Tokens are read in one way at most: what is built of them is one thing.
  pub one_reading : (d m : ℕ) (s : List (Symbol Term Form Act)) (b : Built) (ts : List Token) (e f : Built) → Good g c r h s
      → Derives g d s b ts e → Derives g m s b ts f → e ≡ f
  one_reading d m s b ts e f q i j =
      let n = weight_of r s + paid * r.size ts + 1 in
      some_same (sym (read n d s b ts e q (omega arith) i) ∙ read n m s b ts f q (omega arith) j)
