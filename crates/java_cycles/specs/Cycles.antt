-- Classes that depend on themselves.
use Rattle.std.specs.Prelude.{◌≡◌, ◌⊎◌, ℕ, ◌+◌, suc, zero, Bool, not, nat_eq, length, List, [], ◌∷◌, ◌++◌, map, Option, Some, None, slice_get}
use Rattle.std.specs.List.{filter, list_any}
use Rattle.java_cycles.specs.declared.edges.Edge.{Edge}

-- the class of the one number names the other as a supertype (JLS 8.1.4, 9.1.3)
abbrev pub HasEdge : ℕ → ℕ → List Edge → Type 0
HasEdge a b [] = ⊥
HasEdge a b (e ∷ es) = ((e.from ≡ a) × (e.to ≡ b)) ⊎ HasEdge a b es

-- a class depends on another: it names it, or depends on one that names it
pub data Depends (edges : List Edge) (a : ℕ) : ℕ → Type 0 where
  Straight : {b : ℕ} → HasEdge a b edges → Depends edges a b
  Through : {b c : ℕ} → Depends edges a b → HasEdge b c edges → Depends edges a c

-- ---- the classes on which one depends, found by going over them in a row: each edge is taken once

abbrev pub is_from : ℕ → Edge → Bool
is_from a e = nat_eq e.from a

abbrev pub ends_of : ℕ → List Edge → List ℕ
ends_of a edges = map (λ e. e.to) (filter (is_from a) edges)

abbrev pub others : ℕ → List Edge → List Edge
others a edges = filter (λ e. not (is_from a e)) edges

abbrev pub behind : List ℕ → (ℕ → List ℕ) → Option ℕ → List ℕ
behind found next None = found
behind found next (Some a) = next a

-- the first so many of the classes that are found have been gone over, and the edges are left
abbrev pub found_from : ℕ → ℕ → List Edge → List ℕ → List ℕ
found_from zero done edges found = found
found_from (suc steps) done edges found =
    behind found (λ a. found_from steps (done + 1) (others a edges) (found ++ ends_of a edges)) (slice_get found done)

-- each class on which one depends
abbrev pub below : List Edge → ℕ → List ℕ
below edges a = found_from (length edges) 0 (others a edges) (ends_of a edges)

abbrev pub is_cyclic : List Edge → ℕ → Bool
is_cyclic edges a = list_any (nat_eq a) (below edges a)
