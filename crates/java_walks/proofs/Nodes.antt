-- Every node of an expression is seen, and nothing else: what all that is told of it satisfies, each node's own tellings satisfy.
use Rattle.std.proofs.Common.{◌≡◌, List, [], ◌∷◌, ◌++◌, map, refl, ap, sym, subst, ◌∙◌}
use Rattle.std.specs.List.{AllByRecursion, flat_map}
use Rattle.java_typed.specs.declared.exprs.TExpr.{TExpr, roll-TExpr, out-roll-TExpr, map-TExpr, fold-roll-TExpr, ind-TExpr, every-TExpr, every_here-TExpr, every_held-TExpr, every_made-TExpr}
use Rattle.java_typed.specs.declared.exprs.TExpr.TheOpen.{TExpr-F}
use Rattle.java_walks.specs.Parts.{Told, parts, collected, told_by}
use Rattle.java_walks.specs.Nodes.{own_told}

-- ---- lists

module _ {A : Type 0} (P : A → Type 0) where
  pub all_left : (xs ys : List A) → AllByRecursion P (xs ++ ys) → AllByRecursion P xs
  all_left [] ys h = tt
  all_left (x ∷ xs) ys h = (h.0, all_left xs ys h.1)

  pub all_right : (xs ys : List A) → AllByRecursion P (xs ++ ys) → AllByRecursion P ys
  all_right [] ys h = h
  all_right (x ∷ xs) ys h = all_right xs ys h.1

  pub all_both : (xs ys : List A) → AllByRecursion P xs → AllByRecursion P ys → AllByRecursion P (xs ++ ys)
  all_both [] ys h k = k
  all_both (x ∷ xs) ys h k = (h.0, all_both xs ys h.1 k)

module _ {T A : Type 0} (P : A → Type 0) (f : T → List A) where
  pub from_flat : (xs : List T) → AllByRecursion P (flat_map f xs) → AllByRecursion (λ x. AllByRecursion P (f x)) xs
  from_flat [] h = tt
  from_flat (x ∷ xs) h = (all_left P (f x) (flat_map f xs) h, from_flat xs (all_right P (f x) (flat_map f xs) h))

  pub to_flat : (xs : List T) → AllByRecursion (λ x. AllByRecursion P (f x)) xs → AllByRecursion P (flat_map f xs)
  to_flat [] h = tt
  to_flat (x ∷ xs) h = all_both P (f x) (flat_map f xs) h.0 (to_flat xs h.1)

module _ {T B : Type 0} (E : B → Type 0) (f : T → B) where
  pub from_map : (xs : List T) → AllByRecursion E (map f xs) → AllByRecursion (λ x. E (f x)) xs
  from_map [] h = tt
  from_map (x ∷ xs) h = (h.0, from_map xs h.1)

  pub to_map : (xs : List T) → AllByRecursion (λ x. E (f x)) xs → AllByRecursion E (map f xs)
  to_map [] h = tt
  to_map (x ∷ xs) h = (h.0, to_map xs h.1)

module _ {T : Type 0} (E G : T → Type 0) where
  -- by a step for each
  pub all_by : (xs : List T) → AllByRecursion (λ x. E x → G x) xs → AllByRecursion E xs → AllByRecursion G xs
  all_by [] s h = tt
  all_by (x ∷ xs) s h = (s.0 h.0, all_by xs s.1 h.1)

-- ---- values beside a proof of each

module _ {T : Type 0} (E : T → Type 0) where
  abbrev pub Held : Type 0
  Held = (x : T) × E x

  pub proofs_of : (ys : List Held) → AllByRecursion E (map (λ e. e.0) ys)
  proofs_of [] = tt
  proofs_of (y ∷ ys) = (y.1, proofs_of ys)

  pub held_list : (xs : List T) → AllByRecursion E xs → (ys : List Held) × (map (λ e. e.0) ys ≡ xs)
  held_list [] h = ([], refl)
  held_list (x ∷ xs) h = let l = held_list xs h.1 in ((x, h.0) ∷ l.0, ap (λ (z : List T). x ∷ z) l.1)

  -- the parts are all that a form holds
  held : (x : TExpr-F T) → AllByRecursion E (parts x) → (y : TExpr-F Held) × (map-TExpr Held T (λ e. e.0) y ≡ x)
  held (TExpr-F.Literal v at) h = (TExpr-F.Literal v at, refl)
  held (TExpr-F.Null at) h = (TExpr-F.Null at, refl)
  held (TExpr-F.Constant v inner) h = (TExpr-F.Constant v (inner, h.0), refl)
  held (TExpr-F.This at is_written kind) h = (TExpr-F.This at is_written kind, refl)
  held (TExpr-F.Paren at inner) h = (TExpr-F.Paren at (inner, h.0), refl)
  held (TExpr-F.Local name at kind) h = (TExpr-F.Local name at kind, refl)
  held (TExpr-F.Static first m at kind) h = (TExpr-F.Static first m at kind, refl)
  held (TExpr-F.Field object m at kind) h = (TExpr-F.Field (object, h.0) m at kind, refl)
  held (TExpr-F.Length array at) h = (TExpr-F.Length (array, h.0) at, refl)
  held (TExpr-F.Element array index kind) h = (TExpr-F.Element (array, h.0) (index, h.1.0) kind, refl)
  held (TExpr-F.StaticCall first m at arguments r) h = let l = held_list arguments h in (TExpr-F.StaticCall first m at l.0 r, ap (λ (z : List T). TExpr-F.StaticCall first m at z r) l.1)
  held (TExpr-F.VirtualCall object m at arguments r) h = let l = held_list arguments h.1 in (TExpr-F.VirtualCall (object, h.0) m at l.0 r, ap (λ (z : List T). TExpr-F.VirtualCall object m at z r) l.1)
  held (TExpr-F.ExactCall object is_super m at arguments r) h = let l = held_list arguments h.1 in (TExpr-F.ExactCall (object, h.0) is_super m at l.0 r, ap (λ (z : List T). TExpr-F.ExactCall object is_super m at z r) l.1)
  held (TExpr-F.Through object m) h = (TExpr-F.Through (object, h.0) (m, h.1.0), refl)
  held (TExpr-F.Step is_prefix o at target kind) h = (TExpr-F.Step is_prefix o at (target, h.0) kind, refl)
  held (TExpr-F.Unary o at inner) h = (TExpr-F.Unary o at (inner, h.0), refl)
  held (TExpr-F.Binary left o at right) h = (TExpr-F.Binary (left, h.0) o at (right, h.1.0), refl)
  held (TExpr-F.Concat left at right) h = (TExpr-F.Concat (left, h.0) at (right, h.1.0), refl)
  held (TExpr-F.Same left is_equal at right) h = (TExpr-F.Same (left, h.0) is_equal at (right, h.1.0), refl)
  held (TExpr-F.Instanceof inner at kind) h = (TExpr-F.Instanceof (inner, h.0) at kind, refl)
  held (TExpr-F.Cast at kind inner) h = (TExpr-F.Cast at kind (inner, h.0), refl)
  held (TExpr-F.Convert c inner) h = (TExpr-F.Convert c (inner, h.0), refl)
  held (TExpr-F.Conditional test one other kind) h = (TExpr-F.Conditional (test, h.0) (one, h.1.0) (other, h.1.1.0) kind, refl)
  held (TExpr-F.Assign target at v) h = (TExpr-F.Assign (target, h.0) at (v, h.1.0), refl)
  held (TExpr-F.Compound target o kind at v) h = (TExpr-F.Compound (target, h.0) o kind at (v, h.1.0), refl)
  held (TExpr-F.Append target at v) h = (TExpr-F.Append (target, h.0) at (v, h.1.0), refl)
  held (TExpr-F.Lambda l inner) h = (TExpr-F.Lambda l (inner, h.0), refl)
  held (TExpr-F.LambdaBlock l number) h = (TExpr-F.LambdaBlock l number, refl)
  held (TExpr-F.New at kind m arguments body) h = let l = held_list arguments h in (TExpr-F.New at kind m l.0 body, ap (λ (z : List T). TExpr-F.New at kind m z body) l.1)
  held (TExpr-F.NewArray at kind size) h = (TExpr-F.NewArray at kind (size, h.0), refl)
  held (TExpr-F.NewFilled at kind elements) h = let l = held_list elements h in (TExpr-F.NewFilled at kind l.0, ap (λ (z : List T). TExpr-F.NewFilled at kind z) l.1)

module _ {A B : Type 0} (f : A → B) where
  parts_map : (x : TExpr-F A) → parts (map-TExpr A B f x) ≡ map f (parts x)
  parts_map (TExpr-F.Literal v at) = refl
  parts_map (TExpr-F.Null at) = refl
  parts_map (TExpr-F.Constant v inner) = refl
  parts_map (TExpr-F.This at is_written kind) = refl
  parts_map (TExpr-F.Paren at inner) = refl
  parts_map (TExpr-F.Local name at kind) = refl
  parts_map (TExpr-F.Static first m at kind) = refl
  parts_map (TExpr-F.Field object m at kind) = refl
  parts_map (TExpr-F.Length array at) = refl
  parts_map (TExpr-F.Element array index kind) = refl
  parts_map (TExpr-F.StaticCall first m at arguments r) = refl
  parts_map (TExpr-F.VirtualCall object m at arguments r) = refl
  parts_map (TExpr-F.ExactCall object is_super m at arguments r) = refl
  parts_map (TExpr-F.Through object m) = refl
  parts_map (TExpr-F.Step is_prefix o at target kind) = refl
  parts_map (TExpr-F.Unary o at inner) = refl
  parts_map (TExpr-F.Binary left o at right) = refl
  parts_map (TExpr-F.Concat left at right) = refl
  parts_map (TExpr-F.Same left is_equal at right) = refl
  parts_map (TExpr-F.Instanceof inner at kind) = refl
  parts_map (TExpr-F.Cast at kind inner) = refl
  parts_map (TExpr-F.Convert c inner) = refl
  parts_map (TExpr-F.Conditional test one other kind) = refl
  parts_map (TExpr-F.Assign target at v) = refl
  parts_map (TExpr-F.Compound target o kind at v) = refl
  parts_map (TExpr-F.Append target at v) = refl
  parts_map (TExpr-F.Lambda l inner) = refl
  parts_map (TExpr-F.LambdaBlock l number) = refl
  parts_map (TExpr-F.New at kind m arguments body) = refl
  parts_map (TExpr-F.NewArray at kind size) = refl
  parts_map (TExpr-F.NewFilled at kind elements) = refl

-- ---- expressions

module _ {I A : Type 0} (known : TExpr-F I → I) (own : TExpr-F I → List A) (P : A → Type 0) where
  abbrev told : TExpr → List A
  told x = (collected known own x).told

  abbrev AllTold : TExpr → Type 0
  AllTold x = AllByRecursion P (told x)

  -- all that a node tells itself
  abbrev Own : TExpr-F TExpr → Type 0
  Own x = AllByRecursion P (own_told known own x)

  told_at : (x : TExpr-F TExpr) → told (roll-TExpr x) ≡ own_told known own x ++ flat_map (λ y. y.told) (map (collected known own) (parts x))
  unfolding collected
  told_at x = ap (λ (z : Told I A). z.told) (fold-roll-TExpr (Told I A) (told_by known own) x) ∙ ap (λ (l : List (Told I A)). own_told known own x ++ flat_map (λ y. y.told) l) (parts_map (collected known own) x)

  module _ (x : TExpr-F TExpr) where
    abbrev Rest : Type 0
    Rest = AllByRecursion P (flat_map (λ y. y.told) (map (collected known own) (parts x)))

    apart : AllTold (roll-TExpr x) → Own x × AllByRecursion AllTold (parts x)
    apart h =
        let k : AllByRecursion P (own_told known own x ++ flat_map (λ y. y.told) (map (collected known own) (parts x))) = subst (AllByRecursion P) (told_at x) h in
        (all_left P (own_told known own x) _ k, from_map (λ y. AllByRecursion P y.told) (collected known own) (parts x) (from_flat P (λ y. y.told) _ (all_right P (own_told known own x) _ k)))

    together : Own x → AllByRecursion AllTold (parts x) → AllTold (roll-TExpr x)
    together h k = subst (AllByRecursion P) (sym (told_at x)) (all_both P (own_told known own x) _ h (to_flat P (λ y. y.told) _ (to_map (λ y. AllByRecursion P y.told) (collected known own) (parts x) k)))

  -- the proofs that stand beside the parts
  beside : (E : TExpr → Type 0) (y : TExpr-F (Held E)) (x : TExpr-F TExpr) → map-TExpr (Held E) TExpr (λ e. e.0) y ≡ x → AllByRecursion E (parts x)
  beside E y x is = subst (λ (z : TExpr-F TExpr). AllByRecursion E (parts z)) is (subst (AllByRecursion E) (sym (parts_map (λ (e : Held E). e.0) y)) (proofs_of E (parts y)))

  pub each_node : (x : TExpr) → AllTold x → every-TExpr Own x
  each_node = ind-TExpr (λ x. AllTold x → every-TExpr Own x) (λ x y is h.
      let k = apart x h in
      let l = held (every-TExpr Own) x (all_by AllTold (every-TExpr Own) (parts x) (beside (λ z. AllTold z → every-TExpr Own z) y x is) k.1) in
      every_made-TExpr Own x l.0 l.1 k.0)

  pub each_told : (x : TExpr) → every-TExpr Own x → AllTold x
  each_told = ind-TExpr (λ x. every-TExpr Own x → AllTold x) (λ x y is h.
      let l = every_held-TExpr Own (roll-TExpr x) h in
      together x (subst Own (out-roll-TExpr x) (every_here-TExpr Own (roll-TExpr x) h))
      (all_by (every-TExpr Own) AllTold (parts x) (beside (λ z. every-TExpr Own z → AllTold z) y x is) (beside (every-TExpr Own) l.0 x (l.1 ∙ out-roll-TExpr x))))
