-- Worked rows: which of some faults is told first.
use Rattle.std.proofs.Common.{◌≡◌, ℕ, List, [], ◌∷◌, ◌++◌, Some, refl}
use Rattle.java_tree.specs.declared.tokens.Position.{Position}
use Rattle.j2k_base.specs.declared.places.Fault.{Fault}
use Rattle.java_flow.specs.Units.{FlowCode, NotAssigned, Unreachable}
use Rattle.java_profile.specs.Faults.{Rule, P2, P13, P5, fault}
use Rattle.java_project_faults.specs.Order.{first_of, in_order}
use Rattle.java_project_faults.specs.Project.{flow_fault, rule_fault}

-- `a`, `b`
abbrev a : List ℕ
a = 97 ∷ []

abbrev b : List ℕ
b = 98 ∷ []

abbrev at : ℕ → Position
at n = record { offset = n; line = 1; column = n }

abbrev flows : List ℕ → FlowCode → ℕ → Fault
flows path code n = flow_fault path (record { code = code; at = at n })

abbrev breaks : List ℕ → Rule → ℕ → Fault
breaks path rule n = rule_fault path (fault rule (at n))

record Order : Type 0 where
  -- of one phase: the file, then the place, then the number of the rule
  by_file : in_order (breaks b P2 1 ∷ breaks a P5 9 ∷ []) ≡ breaks a P5 9 ∷ breaks b P2 1 ∷ []
  by_place : in_order (breaks a P2 7 ∷ breaks a P5 3 ∷ []) ≡ breaks a P5 3 ∷ breaks a P2 7 ∷ []
  by_number : in_order (breaks a P13 3 ∷ breaks a P2 3 ∷ []) ≡ breaks a P2 3 ∷ breaks a P13 3 ∷ []
  in_place : in_order (flows a NotAssigned 3 ∷ flows a Unreachable 3 ∷ []) ≡ flows a NotAssigned 3 ∷ flows a Unreachable 3 ∷ []
  -- a fault of the flow in a later file
  by_phase : in_order (breaks a P2 1 ∷ flows b Unreachable 9 ∷ []) ≡ flows b Unreachable 9 ∷ breaks a P2 1 ∷ []
  first : first_of (in_order (flows b Unreachable 9 ∷ []) ++ in_order (breaks a P2 1 ∷ [])) ≡ Some (flows b Unreachable 9)
  twice : in_order (breaks a P2 1 ∷ breaks a P2 1 ∷ []) ≡ breaks a P2 1 ∷ breaks a P2 1 ∷ []

order : Order
order = record { by_file = refl; by_place = refl; by_number = refl; in_place = refl; by_phase = refl; first = refl; twice = refl }
