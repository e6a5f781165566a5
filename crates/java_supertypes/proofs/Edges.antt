-- An edge leads to what stands above.
use Rattle.std.proofs.Common.{◌≡◌, ◌⊎◌, inl, inr, ℕ, zero, suc, ◌+◌, List, [], ◌∷◌, ◌++◌, Option, Some, None, refl, ap, sym, subst, ◌∙◌, arith}
use Rattle.std.specs.Prelude.{slice_get}
use Rattle.std.proofs.lemmas.Option.{slice_get_past}
use Rattle.java_cycles.specs.declared.edges.Edge.{Edge}
use Rattle.java_cycles.specs.Cycles.{HasEdge}
use Rattle.java_type_names.specs.declared.classes.Meant.{Meant}
use Rattle.java_type_names.specs.declared.classes.Meant.TheVariants as m
use Rattle.java_supertypes.specs.declared.heads.Heading.{Heading}
use Rattle.java_supertypes.specs.Edges.{IsIn, StandsAbove}
use Rattle.java_supertypes.specs.Supertypes.{edge_to, edges_to, edges_from, class_edges}

plus_zero : (n : ℕ) → n ≡ n + 0
plus_zero n = omega arith

some_is : (x y : Heading) → Some x ≡ Some y → x ≡ y
some_is x y e = cc

none_there : (i : ℕ) (x : Heading) → slice_get {X = Heading} [] i ≡ Some x → ⊥
none_there i x get = let e : slice_get {X = Heading} [] i ≡ None = slice_get_past {X = Heading} [] i (omega arith) in cc

edge_left : (a b : ℕ) (xs ys : List Edge) → HasEdge a b xs → HasEdge a b (xs ++ ys)
edge_left a b [] ys h = absurd h
edge_left a b (x ∷ xs) ys (inl e) = inl e
edge_left a b (x ∷ xs) ys (inr h) = inr (edge_left a b xs ys h)

edge_right : (a b : ℕ) (xs ys : List Edge) → HasEdge a b ys → HasEdge a b (xs ++ ys)
edge_right a b [] ys h = h
edge_right a b (x ∷ xs) ys h = inr (edge_right a b xs ys h)

edge_split : (a b : ℕ) (xs ys : List Edge) → HasEdge a b (xs ++ ys) → HasEdge a b xs ⊎ HasEdge a b ys
edge_split a b [] ys h = inr h
edge_split a b (x ∷ xs) ys (inl e) = inl (inl e)
edge_split a b (x ∷ xs) ys (inr h) = elim (edge_split a b xs ys h) [ inl i ↦ inl (inr i) | inr i ↦ inr i ]

edge_is : (n a b : ℕ) (x : Meant) → HasEdge a b (edge_to n x) → (n ≡ a) × (m.Project b ≡ x)
edge_is n a b (m.Project to) (inl e) = (e.0, ap m.Project (sym e.1))
edge_is n a b (m.Project to) (inr z) = absurd z
edge_is n a b (m.Library row) h = absurd h

edges_are : (n a b : ℕ) (xs : List Meant) → HasEdge a b (edges_to n xs) → (n ≡ a) × IsIn (m.Project b) xs
edges_are n a b [] h = absurd h
edges_are n a b (x ∷ xs) h =
    elim (edge_split a b (edge_to n x) (edges_to n xs) h) [
      | inl i ↦ (let r : (n ≡ a) × (m.Project b ≡ x) = edge_is n a b x i in (r.0, inl r.1))
      | inr i ↦ (let r : (n ≡ a) × IsIn (m.Project b) xs = edges_are n a b xs i in (r.0, inr r.1))
    ]

are_edges : (n b : ℕ) (xs : List Meant) → IsIn (m.Project b) xs → HasEdge n b (edges_to n xs)
are_edges n b [] h = absurd h
are_edges n b (x ∷ xs) (inl e) = edge_left n b (edge_to n x) (edges_to n xs) (subst (λ z. HasEdge n b (edge_to n z)) e (inl (refl, refl)))
are_edges n b (x ∷ xs) (inr h) = edge_right n b (edge_to n x) (edges_to n xs) (are_edges n b xs h)

from_is : (n a b : ℕ) (xs : List Heading) → HasEdge a b (edges_from n xs) → (i : ℕ) × ((a ≡ n + i) × StandsAbove xs i b)
from_is n a b [] h = absurd h
from_is n a b (x ∷ xs) h =
    elim (edge_split a b (edges_to n x.above) (edges_from (n + 1) xs) h) [
      | inl e ↦ (let r : (n ≡ a) × IsIn (m.Project b) x.above = edges_are n a b x.above e in (zero, (sym r.0 ∙ plus_zero n, (x, (refl, r.1)))))
      | inr e ↦ (let r : (i : ℕ) × ((a ≡ (n + 1) + i) × StandsAbove xs i b) = from_is (n + 1) a b xs e in
          let s : a ≡ (n + 1) + r.0 = r.1.0 in
          (suc r.0, (omega (arith, s), r.1.1)))
    ]

is_from : (n i b : ℕ) (xs : List Heading) → StandsAbove xs i b → HasEdge (n + i) b (edges_from n xs)
is_from n i b [] (x, (get, up)) = absurd (none_there i x get)
is_from n zero b (x ∷ xs) (y, (get, up)) =
    let e : x ≡ y = some_is x y get in
    edge_left (n + 0) b (edges_to n x.above) (edges_from (n + 1) xs)
    (subst (λ z. HasEdge z b (edges_to n x.above)) (plus_zero n) (are_edges n b x.above (subst (λ (z : Heading). IsIn (m.Project b) z.above) (sym e) up)))
is_from n (suc i) b (x ∷ xs) (y, (get, up)) =
    let e : (n + 1) + i ≡ n + suc i = omega arith in
    edge_right (n + suc i) b (edges_to n x.above) (edges_from (n + 1) xs)
    (subst (λ z. HasEdge z b (edges_from (n + 1) xs)) e (is_from (n + 1) i b xs (y, (get, up))))

pub to_above : (xs : List Heading) (a b : ℕ) → HasEdge a b (class_edges xs) → StandsAbove xs a b
to_above xs a b h =
    let r : (i : ℕ) × ((a ≡ 0 + i) × StandsAbove xs i b) = from_is 0 a b xs h in
    let s : a ≡ 0 + r.0 = r.1.0 in
    let e : r.0 ≡ a = omega (arith, s) in
    subst (λ z. StandsAbove xs z b) e r.1.1

pub from_above : (xs : List Heading) (a b : ℕ) → StandsAbove xs a b → HasEdge a b (class_edges xs)
from_above xs a b h =
    let e : 0 + a ≡ a = omega arith in
    subst (λ z. HasEdge z b (class_edges xs)) e (is_from 0 a b xs h)
