-- A project is bound, or refused with one fault.
use Rattle.std.proofs.Common.{◌≡◌, ℕ, List, [], Some, sym, subst, ◌∙◌}
use Rattle.j2k_base.specs.declared.places.Fault.{Fault}
use Rattle.judged.specs.Notes.{IsAmong}
use Rattle.java_unit_grammar.specs.declared.units.JUnit.{JUnit}
use Rattle.java_names.specs.Binding.{IsBound, IsRefused}

pub one_refusal : (units : List JUnit) (entries : List (List ℕ)) (a b : Fault) → IsRefused units entries a → IsRefused units entries b → a ≡ b
one_refusal units entries a b x y = let same : Some a ≡ Some b = sym x.told ∙ y.told in cc

pub not_both : (units : List JUnit) (entries : List (List ℕ)) (fault : Fault) → IsBound units entries → IsRefused units entries fault → ⊥
not_both units entries fault bound refused = subst (λ faults. IsAmong fault faults) bound.none refused.first.among
