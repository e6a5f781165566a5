-- At most one run of a file is the first at fault.
use Rattle.std.proofs.Common.{◌≡◌, ℕ}
use Rattle.java_tree.specs.Seen.{Tokens}
use Rattle.java_fault_grammar.specs.Walk.{IsFault, IsSpelled}
use Rattle.java_fault_grammar.proofs.Once.{fault_once, fault_none}
use Rattle.java_fault_grammar.proofs.Completeness.{form_one}

pub one : (ts : Tokens) (i j : ℕ) → IsFault ts i → IsFault ts j → i ≡ j
one = fault_once form_one

pub none : (ts : Tokens) (i : ℕ) → IsFault ts i → IsSpelled ts → ⊥
none = fault_none form_one
