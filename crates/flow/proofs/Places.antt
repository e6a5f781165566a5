-- Each place that stands in a text is either among those where control can't come or among those where it can.
use Rattle.std.proofs.Common.{arith, ◌≡◌, ◌≤◌, ◌+◌, ℕ, Bool, true, false, not, ◌&&◌, ◌||◌, List, [], ◌∷◌, ◌++◌, refl, ap, ◌∙◌, subst, if◌then◌else◌}
use Rattle.flow.specs.Acts.{Act, Test, Groups, Skip, Does, Asks, Jumps, Throws, Then, If, Forever, Block, Switch, Try, Finally, Later, Constant, Value, And, Or, Not, Choose, Done, Group}
use Rattle.flow.specs.Flows.{Flow, Sides}
use Rattle.flow.specs.Standing.{stands, test_stands, groups_stand, one_if, hits}
use Rattle.flow.specs.Analyses.{Use, Reads, Assigns, Reaches, takes, jumps, flow, sides, groups, unreachable, reachable}

both_same : (a b c d : Bool) → a ≡ c → b ≡ d → (a && b) ≡ (c && d)
both_same a b c d h k = ap (λ z. z && b) h ∙ ap (λ z. c && z) k

or_same : (a b c d : Bool) → a ≡ c → b ≡ d → (a || b) ≡ (c || d)
or_same a b c d h k = ap (λ z. z || b) h ∙ ap (λ z. c || z) k

module _ {V P : Type 0} (here : P → Bool) where
  hits_append : (xs ys : List (Use V P)) → hits here (xs ++ ys) ≡ hits here xs + hits here ys
  hits_append [] ys = omega arith
  hits_append (x ∷ xs) ys = let h : hits here (xs ++ ys) ≡ hits here xs + hits here ys = hits_append xs ys in omega arith

  abbrev size : List (Use V P) → ℕ
  size [] = 0
  size (e ∷ more) = 1 + size more

  size_append : (xs ys : List (Use V P)) → size (xs ++ ys) ≡ size xs + size ys
  size_append [] ys = omega arith
  size_append (x ∷ xs) ys = let h : size (xs ++ ys) ≡ size xs + size ys = size_append xs ys in omega arith

  record Parted (S F G : List (Use V P)) : Type 0 where
    is : hits here S ≡ hits here F + size G

  no_size : (xs : List (Use V P)) → size xs ≤ 0 → xs ≡ []
  no_size [] h = refl
  no_size (x ∷ xs) h = absurd (omega arith)

  none_parted : Parted [] [] []
  none_parted = record { is = omega arith }

  parted : (S R F H G K : List (Use V P)) → Parted S F G → Parted R H K → Parted (S ++ R) (F ++ H) (G ++ K)
  parted S R F H G K h k = let u : hits here S ≡ hits here F + size G = h.is in let v : hits here R ≡ hits here H + size K = k.is in
      record { is = rw (hits_append S R, hits_append F H, size_append G K) (omega arith) }

  -- control can't come to a place, and it can
  comes_not : (e : Use V P) (b : Bool) → one_if b + 0 ≡ (one_if b + 0) + size (if (b && false) then e ∷ [] else [])
  comes_not e true = omega arith
  comes_not e false = omega arith

  comes : (e : Use V P) (b : Bool) → one_if b + 0 ≡ 0 + size (if (b && true) then e ∷ [] else [])
  comes e true = omega arith
  comes e false = omega arith

  module _ {T : Type 0} (same : T → T → Bool) where
    record Same (S : List (Use V P)) (f g : Flow (Use V P) T) : Type 0 where
      end : f.end ≡ g.end
      at : (t : T) → f.at t ≡ g.at t
      parts : Parted S f.faults g.faults

    record SameSides (S : List (Use V P)) (f g : Sides (Use V P) T) : Type 0 where
      yes : f.yes ≡ g.yes
      no : f.no ≡ g.no
      at : (t : T) → f.at t ≡ g.at t
      parts : Parted S f.faults g.faults

    -- one place, where control can't come and where it can
    place_parted : (e : Use V P) (a : Bool) → Same (e ∷ []) (flow same unreachable (Does e) a) (flow same (reachable here) (Does e) a)
    place_parted (Reads v p) a = record { end = refl; at = λ t. refl; parts = record { is = omega arith } }
    place_parted (Assigns v p) a = record { end = refl; at = λ t. refl; parts = record { is = omega arith } }
    place_parted (Reaches p) true = record { end = refl; at = λ t. refl; parts = record { is = comes_not (Reaches p) (here p) } }
    place_parted (Reaches p) false = record { end = refl; at = λ t. refl; parts = record { is = comes (Reaches p) (here p) } }

    mutual
      parts_of : (x : Act (Use V P) T) (a b : Bool) → a ≡ b → Same (stands x) (flow same unreachable x a) (flow same (reachable here) x b)
      parts_of Skip a b h = record { end = h; at = λ t. refl; parts = none_parted }
      parts_of (Does e) a b h = subst (λ z. Same (e ∷ []) (flow same unreachable (Does e) a) (flow same (reachable here) (Does e) z)) h (place_parted e a)
      parts_of (Asks c) a b h = let s = parts_of_test c false a b h in record { end = both_same _ _ _ _ s.yes s.no; at = s.at; parts = s.parts }
      parts_of (Jumps t) a b h = record { end = refl; at = λ m. ap (λ z. not (same t m) || z) h; parts = none_parted }
      parts_of Throws a b h = record { end = refl; at = λ t. refl; parts = none_parted }
      parts_of (Then x y) a b h =
          let f = parts_of x a b h in
          let g = parts_of y (flow same unreachable x a).end (flow same (reachable here) x b).end f.end in
          record { end = g.end; at = λ t. both_same _ _ _ _ (f.at t) (g.at t); parts = parted _ _ _ _ _ _ f.parts g.parts }
      parts_of (If l c x y) a b h =
          let s = parts_of_test c (l || false) a b h in
          let f = parts_of x (sides same unreachable c (l || false) a).yes (sides same (reachable here) c (l || false) b).yes s.yes in
          let g = parts_of y (sides same unreachable c (l || false) a).no (sides same (reachable here) c (l || false) b).no s.no in
          record { end = both_same _ _ _ _ f.end g.end; at = λ t. both_same _ _ _ _ (s.at t) (both_same _ _ _ _ (f.at t) (g.at t)); parts = parted _ _ _ _ _ _ s.parts (parted _ _ _ _ _ _ f.parts g.parts) }
      parts_of (Forever x) a b h =
          let f = parts_of x a b h in
          let g = parts_of x (a && (not (takes unreachable x) || (flow same unreachable x a).end)) (b && (not (takes unreachable x) || (flow same (reachable here) x b).end))
          (both_same _ _ _ _ h (ap (λ z. not (takes unreachable x) || z) f.end)) in
          record { end = refl; at = g.at; parts = g.parts }
      parts_of (Block t x) a b h = let f = parts_of x a b h in record { end = both_same _ _ _ _ f.end (f.at t); at = λ m. ap (λ z. same t m || z) (f.at m); parts = f.parts }
      parts_of (Switch true gs) a b h = parts_of_groups gs a b true true h refl
      parts_of (Switch false gs) a b h = let f = parts_of_groups gs a b true true h refl in record { end = both_same _ _ _ _ f.end h; at = f.at; parts = f.parts }
      parts_of (Try x y) a b h =
          let f = parts_of x a b h in
          let g = parts_of y (a && not (takes unreachable x)) (b && not (takes unreachable x)) (ap (λ z. z && not (takes unreachable x)) h) in
          record { end = both_same _ _ _ _ f.end g.end; at = λ t. both_same _ _ _ _ (f.at t) (g.at t); parts = parted _ _ _ _ _ _ f.parts g.parts }
      parts_of (Finally x y) a b h =
          let f = parts_of x a b h in
          let g = parts_of y (a && not (takes unreachable x)) (b && not (takes unreachable x)) (ap (λ z. z && not (takes unreachable x)) h) in
          record { end = or_same _ _ _ _ f.end g.end; at = λ t. both_same _ _ _ _ (ap (λ z. not (jumps same x t) || z) (or_same _ _ _ _ (f.at t) g.end)) (g.at t); parts = parted _ _ _ _ _ _ f.parts g.parts }
      parts_of (Later x) a b h = let f = parts_of x a b h in record { end = h; at = λ t. refl; parts = f.parts }

      parts_of_test : (c : Test (Use V P) T) (l a b : Bool) → a ≡ b → SameSides (test_stands c) (sides same unreachable c l a) (sides same (reachable here) c l b)
      parts_of_test (Constant true) true a b h = record { yes = h; no = refl; at = λ t. refl; parts = none_parted }
      parts_of_test (Constant false) true a b h = record { yes = refl; no = h; at = λ t. refl; parts = none_parted }
      parts_of_test (Constant true) false a b h = record { yes = h; no = h; at = λ t. refl; parts = none_parted }
      parts_of_test (Constant false) false a b h = record { yes = h; no = h; at = λ t. refl; parts = none_parted }
      parts_of_test (Value x) l a b h = let f = parts_of x a b h in record { yes = f.end; no = f.end; at = f.at; parts = f.parts }
      parts_of_test (And c d) l a b h =
          let s = parts_of_test c false a b h in
          let r = parts_of_test d false (sides same unreachable c false a).yes (sides same (reachable here) c false b).yes s.yes in
          record { yes = r.yes; no = both_same _ _ _ _ s.no r.no; at = λ t. both_same _ _ _ _ (s.at t) (r.at t); parts = parted _ _ _ _ _ _ s.parts r.parts }
      parts_of_test (Or c d) l a b h =
          let s = parts_of_test c false a b h in
          let r = parts_of_test d false (sides same unreachable c false a).no (sides same (reachable here) c false b).no s.no in
          record { yes = both_same _ _ _ _ s.yes r.yes; no = r.no; at = λ t. both_same _ _ _ _ (s.at t) (r.at t); parts = parted _ _ _ _ _ _ s.parts r.parts }
      parts_of_test (Not c) l a b h = let s = parts_of_test c false a b h in record { yes = s.no; no = s.yes; at = s.at; parts = s.parts }
      parts_of_test (Choose c d e) l a b h =
          let s = parts_of_test c false a b h in
          let r = parts_of_test d false (sides same unreachable c false a).yes (sides same (reachable here) c false b).yes s.yes in
          let u = parts_of_test e false (sides same unreachable c false a).no (sides same (reachable here) c false b).no s.no in
          record { yes = both_same _ _ _ _ r.yes u.yes; no = both_same _ _ _ _ r.no u.no; at = λ t. both_same _ _ _ _ (s.at t) (both_same _ _ _ _ (r.at t) (u.at t)); parts = parted _ _ _ _ _ _ s.parts (parted _ _ _ _ _ _ r.parts u.parts) }

      parts_of_groups : (gs : Groups (Use V P) T) (a b c d : Bool) → a ≡ b → c ≡ d → Same (groups_stand gs) (groups same unreachable gs a c) (groups same (reachable here) gs b d)
      parts_of_groups Done a b c d h k = record { end = k; at = λ t. refl; parts = none_parted }
      parts_of_groups (Group x more) a b c d h k =
          let f = parts_of x (a && c) (b && d) (both_same _ _ _ _ h k) in
          let g = parts_of_groups more a b (flow same unreachable x (a && c)).end (flow same (reachable here) x (b && d)).end h f.end in
          record { end = g.end; at = λ t. both_same _ _ _ _ (f.at t) (g.at t); parts = parted _ _ _ _ _ _ f.parts g.parts }

    -- a place that stands once, and is among those where control can't come, isn't among those where it can
    pub not_reachable : (x : Act (Use V P) T) (a : Bool) → hits here (stands x) ≤ 1 → 1 ≤ hits here (flow same unreachable x a).faults → (flow same (reachable here) x a).faults ≡ []
    not_reachable x a once listed = let h : hits here (stands x) ≡ hits here (flow same unreachable x a).faults + size (flow same (reachable here) x a).faults = (parts_of x a a refl).parts.is in no_size _ (omega arith)
