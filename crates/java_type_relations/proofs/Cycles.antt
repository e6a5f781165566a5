-- On a table without cycles no way up has more steps than there are classes and type parameters.
use Rattle.std.proofs.Common.{◌≡◌, ◌⊎◌, ◌<◌, ◌≤◌, ◌+◌, ℕ, zero, suc, true, List, [], ◌∷◌, ◌++◌, length, Option, Some, None, inl, inr, refl, sym, ap, subst, ◌∙◌, arith}
use Rattle.std.specs.Prelude.{slice_get}
use Rattle.std.proofs.lemmas.Option.{slice_get_past}
use Rattle.java_typed.specs.declared.types.ClassRef.{ClassRef}
use Rattle.java_typed.specs.declared.types.ClassRef.TheVariants as class
use Rattle.java_typed.specs.declared.types.TType.{TType}
use Rattle.java_type_relations.specs.declared.heads.Head.{Head}
use Rattle.java_type_relations.specs.declared.heads.Heads.{Heads}
use Rattle.java_type_relations.specs.declared.supers.Sought.{Sought}
use Rattle.java_type_relations.specs.declared.supers.Sought.TheVariants as sought
use Rattle.java_type_relations.specs.Heads.{bound_by, head_of, supers_by}
use Rattle.java_type_relations.specs.Supers.{is_sought}
use Rattle.java_type_relations.specs.Above.{Climbs, Direct, IsAcyclic, IsBounded, IsIn, here, nodes, nodes_from, of_class, of_parameter, on, parameters_from}
use Rattle.java_type_relations.proofs.Nodes.{class_is_node, sought_alike, variable_is_node}

-- ---- lists within lists

in_left : (s : Sought) (xs ys : List Sought) → IsIn s xs → IsIn s (xs ++ ys)
in_left s [] ys i = absurd i
in_left s (x ∷ xs) ys (inl e) = inl e
in_left s (x ∷ xs) ys (inr i) = inr (in_left s xs ys i)

in_right : (s : Sought) (xs ys : List Sought) → IsIn s ys → IsIn s (xs ++ ys)
in_right s [] ys i = i
in_right s (x ∷ xs) ys i = inr (in_right s xs ys i)

abbrev AreWithin : List Sought → List Sought → Type 0
AreWithin xs ys = (s : Sought) → IsIn s xs → IsIn s ys

abbrev Differ : List Sought → Type 0
Differ [] = Unit {0}
Differ (x ∷ xs) = (IsIn x xs → ⊥) × Differ xs

-- the list without one of its items, in which all others still are
abbrev Without : Sought → List Sought → Type 0
Without x ys = (zs : List Sought) × (length ys ≡ suc (length zs)) × ((s : Sought) → IsIn s ys → (s ≡ x) ⊎ IsIn s zs)

without : (x : Sought) (ys : List Sought) → IsIn x ys → Without x ys
without x [] i = absurd i
without x (y ∷ ys) (inl e) = (ys, refl, λ s j. elim j [ inl h ↦ inl (h ∙ sym e) | inr h ↦ inr h ])
without x (y ∷ ys) (inr i) =
    let one : Without x ys = without x ys i in
    (y ∷ one.0, ap suc one.1, λ s j. elim j [ inl h ↦ inr (inl h) | inr h ↦ elim (one.2 s h) [ inl k ↦ inl k | inr k ↦ inr (inr k) ] ])

no_longer : (xs ys : List Sought) → Differ xs → AreWithin xs ys → length xs ≤ length ys
no_longer [] ys d w = omega arith
no_longer (x ∷ xs) ys d w =
    let one : Without x ys = without x ys (w x (inl refl)) in
    let rest : AreWithin xs one.0 = λ s i. elim (one.2 s (w s (inr i))) [ inl e ↦ absurd (d.0 (subst (λ v. IsIn v xs) e i)) | inr j ↦ j ] in
    let before : length xs ≤ length one.0 = no_longer xs one.0 d.1 rest in
    let size : length ys ≡ suc (length one.0) = one.1 in
    omega arith

-- ---- what has a direct supertype has a row

parameter_in : (c : ClassRef) (k p m : ℕ) (bounds : List TType) (b : TType) → slice_get bounds p ≡ Some b → k + p ≡ m → IsIn (sought.Variable c m) (parameters_from c k bounds)
parameter_in c k p m [] b h e = let none : slice_get {X = TType} [] p ≡ None = slice_get_past {X = TType} [] p (omega arith) in absurd (cc)
parameter_in c k zero m (x ∷ xs) b h e = let is : m ≡ k = omega arith in inl (ap (sought.Variable c) is)
parameter_in c k (suc p) m (x ∷ xs) b h e = inr (parameter_in c (suc k) p m xs b h (omega arith))

class_in : (numbered : ℕ → ClassRef) (k n m : ℕ) (rows : List Head) (row : Head) → slice_get rows n ≡ Some row → k + n ≡ m → IsIn (sought.Class (numbered m)) (nodes_from numbered k rows)
class_in numbered k n m [] row h e = let none : slice_get {X = Head} [] n ≡ None = slice_get_past {X = Head} [] n (omega arith) in absurd (cc)
class_in numbered k zero m (x ∷ xs) row h e = let is : m ≡ k = omega arith in inl (ap (λ v. sought.Class (numbered v)) is)
class_in numbered k (suc n) m (x ∷ xs) row h e =
    inr (in_right (sought.Class (numbered m)) (parameters_from (numbered k) 0 x.bounds) (nodes_from numbered (suc k) xs) (class_in numbered (suc k) n m xs row h (omega arith)))

variable_in : (numbered : ℕ → ClassRef) (k n m p : ℕ) (rows : List Head) (row : Head) (b : TType) → slice_get rows n ≡ Some row → slice_get row.bounds p ≡ Some b → k + n ≡ m →
    IsIn (sought.Variable (numbered m) p) (nodes_from numbered k rows)
variable_in numbered k n m p [] row b h g e = let none : slice_get {X = Head} [] n ≡ None = slice_get_past {X = Head} [] n (omega arith) in absurd (cc)
variable_in numbered k zero m p (x ∷ xs) row b h g e =
    let is : k ≡ m = omega arith in
    let same : Some x ≡ Some row = h in
    let row_is : x ≡ row = cc in
    let got : slice_get x.bounds p ≡ Some b = subst (λ (r : Head). slice_get r.bounds p ≡ Some b) (sym row_is) g in
    let found : IsIn (sought.Variable (numbered k) p) (parameters_from (numbered k) 0 x.bounds) = parameter_in (numbered k) 0 p p x.bounds b got (omega arith) in
    inr (in_left (sought.Variable (numbered m) p) (parameters_from (numbered k) 0 x.bounds) (nodes_from numbered (suc k) xs)
    (subst (λ v. IsIn (sought.Variable (numbered v) p) (parameters_from (numbered k) 0 x.bounds)) is found))
variable_in numbered k (suc n) m p (x ∷ xs) row b h g e =
    inr (in_right (sought.Variable (numbered m) p) (parameters_from (numbered k) 0 x.bounds) (nodes_from numbered (suc k) xs) (variable_in numbered (suc k) n m p xs row b h g (omega arith)))

module _ (heads : Heads) where
  class_listed : (c : ClassRef) (row : Head) → head_of heads c ≡ Some row → IsIn (sought.Class c) (nodes heads)
  class_listed (class.Library n) row h = in_left _ _ (nodes_from class.Project 0 heads.project) (class_in class.Library 0 n n heads.library row h (omega arith))
  class_listed (class.Project n) row h = in_right _ (nodes_from class.Library 0 heads.library) _ (class_in class.Project 0 n n heads.project row h (omega arith))

  variable_listed : (c : ClassRef) (p : ℕ) (row : Head) (b : TType) → head_of heads c ≡ Some row → slice_get row.bounds p ≡ Some b → IsIn (sought.Variable c p) (nodes heads)
  variable_listed (class.Library n) p row b h g = in_left _ _ (nodes_from class.Project 0 heads.project) (variable_in class.Library 0 n n p heads.library row b h g (omega arith))
  variable_listed (class.Project n) p row b h g = in_right _ (nodes_from class.Library 0 heads.library) _ (variable_in class.Project 0 n n p heads.project row b h g (omega arith))

  row_above : (c : ClassRef) (s : TType) (o : Option Head) → head_of heads c ≡ o → IsIn s (supers_by o) → IsIn (sought.Class c) (nodes heads)
  row_above c s None h i = absurd i
  row_above c s (Some row) h i = class_listed c row h

  row_bound : (c : ClassRef) (p : ℕ) (b : TType) (o : Option Head) → head_of heads c ≡ o → bound_by p o ≡ Some b → IsIn (sought.Variable c p) (nodes heads)
  row_bound c p b None h e = absurd (cc)
  row_bound c p b (Some row) h e = variable_listed c p row b h e

  abbrev Listed : TType → Type 0
  Listed y = (s : Sought) × (is_sought s y ≡ true) × IsIn s (nodes heads)

  listed : (y z : TType) → Direct heads y z → Listed y
  listed _ _ (of_class c args s i) = (sought.Class c, class_is_node c args, row_above c s (head_of heads c) refl i)
  listed _ _ (of_parameter c n b e) = (sought.Variable c n, variable_is_node c n, row_bound c n b (head_of heads c) refl e)

  -- ---- the nodes that are passed on a way up

  abbrev ArePassed : List Sought → TType → Type 0
  ArePassed passed y = (s : Sought) → IsIn s passed → (z : TType) × (k : ℕ) × Climbs heads z (suc k) y × (is_sought s z ≡ true)

  abbrev Way : ℕ → TType → Type 0
  Way n y = (passed : List Sought) × (length passed ≡ n) × Differ passed × AreWithin passed (nodes heads) × ArePassed passed y

  way : IsAcyclic heads → (x y : TType) (n : ℕ) → Climbs heads x n y → Way n y
  way acyclic x _ _ here = ([], refl, tt, λ s i. absurd i, λ s i. absurd i)
  way acyclic x _ _ (on n y z c d) =
      let before : Way n y = way acyclic x y n c in
      let node : Listed y = listed y z d in
      let new : IsIn node.0 before.0 → ⊥ = λ i. (let met : (w : TType) × (k : ℕ) × Climbs heads w (suc k) y × (is_sought node.0 w ≡ true) = before.4 node.0 i in
      acyclic met.0 y met.1 met.2 (sought_alike node.0 met.0 y met.3 node.1)) in (
        node.0 ∷ before.0,
        ap suc before.1,
        (new, before.2),
        λ s i. elim i [ inl e ↦ subst (λ v. IsIn v (nodes heads)) (sym e) node.2 | inr j ↦ before.3 s j ],
        λ s i. elim i [
          | inl e ↦ (y, zero, on zero y z here d, subst (λ v. is_sought v y ≡ true) (sym e) node.1)
          | inr j ↦ (let met : (w : TType) × (k : ℕ) × Climbs heads w (suc k) y × (is_sought s w ≡ true) = before.4 s j in (met.0, suc met.1, on (suc met.1) y z met.2 d, met.3))
        ],
      )

pub acyclic_bounded : (heads : Heads) → IsAcyclic heads → length (nodes heads) < heads.steps → IsBounded heads
acyclic_bounded heads acyclic enough x y n c =
    let one : Way heads n y = way heads acyclic x y n c in
    let most : length one.0 ≤ length (nodes heads) = no_longer one.0 (nodes heads) one.2 one.3 in
    let size : length one.0 ≡ n = one.1 in
    omega arith
