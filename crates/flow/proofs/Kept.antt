-- A text in which nothing takes the state away keeps it, at its end and at each jump.
use Rattle.std.proofs.Common.{◌≡◌, Bool, true, false, not, ◌&&◌, ◌||◌, refl, sym, subst}
use Rattle.flow.specs.Acts.{Act, Test, Groups, Skip, Does, Asks, Jumps, Throws, Then, If, Forever, Block, Switch, Try, Finally, Later, Constant, Value, And, Or, Not, Choose, Done, Group}
use Rattle.flow.specs.Flows.{Flow, Sides}
use Rattle.flow.specs.Analyses.{Analysis, Use, takes, test_takes, groups_take, jumps, flow, sides, groups, kept, assignment, unassignment}
use Rattle.flow.proofs.States.{or_right, none_left, none_right, IsSound}
use Rattle.flow.proofs.Laws.{assignment_sound, unassignment_sound}

both_true : (a b : Bool) → a ≡ true → b ≡ true → (a && b) ≡ true
both_true true b h m = m
both_true false b h m = h

none_both : (a b : Bool) → a ≡ false → b ≡ false → (a || b) ≡ false
none_both true b h m = h
none_both false b h m = m

start_true : (a tk z : Bool) → a ≡ true → tk ≡ false → (a && (not tk || z)) ≡ true
start_true a false z h q = both_true a true h refl
start_true a true z h q = cc

kept_true : (a tk : Bool) → a ≡ true → tk ≡ false → (a && not tk) ≡ true
kept_true a false h q = both_true a true h refl
kept_true a true h q = cc

module _ {E T : Type 0} where
  pub record IsFull (f : Flow E T) : Type 0 where
    pub end : f.end ≡ true
    pub at : (t : T) → f.at t ≡ true

  record AreFull (s : Sides E T) : Type 0 where
    yes : s.yes ≡ true
    no : s.no ≡ true
    at : (t : T) → s.at t ≡ true

module _ {E T : Type 0} (same : T → T → Bool) (k : Analysis E) (K : IsSound k) (J : k.joined true true ≡ true) where
  joins_true : (p q : Bool) → p ≡ true → q ≡ true → k.joined p q ≡ true
  joins_true p q h m = subst (λ z. k.joined z q ≡ true) (sym h) (subst (λ z. k.joined true z ≡ true) (sym m) J)

  mutual
    pub undisturbed : (x : Act E T) → takes k x ≡ false → (a : Bool) → a ≡ true → IsFull (flow same k x a)
    undisturbed Skip q a h = record { end = h; at = λ t. refl }
    undisturbed (Does e) q a h = record { end = K.stays e a q h; at = λ t. refl }
    undisturbed (Asks c) q a h = let s = test_undisturbed c q k.counts a h in record { end = both_true _ _ s.yes s.no; at = s.at }
    undisturbed (Jumps t) q a h = record { end = refl; at = λ m. or_right (not (same t m)) a h }
    undisturbed Throws q a h = record { end = refl; at = λ t. refl }
    undisturbed (Then x y) q a h =
        let f = undisturbed x (none_left _ _ q) a h in
        let g = undisturbed y (none_right _ _ q) (flow same k x a).end f.end in
        record { end = g.end; at = λ t. both_true _ _ (f.at t) (g.at t) }
    undisturbed (If l c x y) q a h =
        let s = test_undisturbed c (none_left _ _ q) (l || k.counts) a h in
        let f = undisturbed x (none_left _ _ (none_right _ _ q)) (sides same k c (l || k.counts) a).yes s.yes in
        let g = undisturbed y (none_right _ _ (none_right _ _ q)) (sides same k c (l || k.counts) a).no s.no in
        record { end = both_true _ _ f.end g.end; at = λ t. both_true _ _ (s.at t) (both_true _ _ (f.at t) (g.at t)) }
    undisturbed (Forever x) q a h =
        let f = undisturbed x q (a && (not (takes k x) || (flow same k x a).end)) (start_true a (takes k x) (flow same k x a).end h q) in
        record { end = refl; at = f.at }
    undisturbed (Block t x) q a h = let f = undisturbed x q a h in record { end = both_true _ _ f.end (f.at t); at = λ m. or_right (same t m) _ (f.at m) }
    undisturbed (Switch true gs) q a h = groups_undisturbed gs q a true h refl
    undisturbed (Switch false gs) q a h = let f = groups_undisturbed gs q a true h refl in record { end = both_true _ _ f.end h; at = f.at }
    undisturbed (Try x y) q a h =
        let f = undisturbed x (none_left _ _ q) a h in
        let g = undisturbed y (none_right _ _ q) (kept same k x a) (kept_true a (takes k x) h (none_left _ _ q)) in
        record { end = both_true _ _ f.end g.end; at = λ t. both_true _ _ (f.at t) (g.at t) }
    undisturbed (Finally x y) q a h =
        let f = undisturbed x (none_left _ _ q) a h in
        let g = undisturbed y (none_right _ _ q) (kept same k x a) (kept_true a (takes k x) h (none_left _ _ q)) in
        record { end = joins_true _ _ f.end g.end; at = λ t. both_true _ _ (or_right (not (jumps same x t)) _ (joins_true _ _ (f.at t) g.end)) (g.at t) }
    undisturbed (Later x) q a h = record { end = h; at = λ t. refl }

    test_undisturbed : (c : Test E T) → test_takes k c ≡ false → (l a : Bool) → a ≡ true → AreFull (sides same k c l a)
    test_undisturbed (Constant true) q true a h = record { yes = h; no = refl; at = λ t. refl }
    test_undisturbed (Constant false) q true a h = record { yes = refl; no = h; at = λ t. refl }
    test_undisturbed (Constant true) q false a h = record { yes = h; no = h; at = λ t. refl }
    test_undisturbed (Constant false) q false a h = record { yes = h; no = h; at = λ t. refl }
    test_undisturbed (Value x) q l a h = let f = undisturbed x q a h in record { yes = f.end; no = f.end; at = f.at }
    test_undisturbed (And c d) q l a h =
        let s = test_undisturbed c (none_left _ _ q) k.counts a h in
        let r = test_undisturbed d (none_right _ _ q) k.counts (sides same k c k.counts a).yes s.yes in
        record { yes = r.yes; no = both_true _ _ s.no r.no; at = λ t. both_true _ _ (s.at t) (r.at t) }
    test_undisturbed (Or c d) q l a h =
        let s = test_undisturbed c (none_left _ _ q) k.counts a h in
        let r = test_undisturbed d (none_right _ _ q) k.counts (sides same k c k.counts a).no s.no in
        record { yes = both_true _ _ s.yes r.yes; no = r.no; at = λ t. both_true _ _ (s.at t) (r.at t) }
    test_undisturbed (Not c) q l a h = let s = test_undisturbed c q k.counts a h in record { yes = s.no; no = s.yes; at = s.at }
    test_undisturbed (Choose c d e) q l a h =
        let s = test_undisturbed c (none_left _ _ q) k.counts a h in
        let r = test_undisturbed d (none_left _ _ (none_right _ _ q)) k.counts (sides same k c k.counts a).yes s.yes in
        let u = test_undisturbed e (none_right _ _ (none_right _ _ q)) k.counts (sides same k c k.counts a).no s.no in
        record { yes = both_true _ _ r.yes u.yes; no = both_true _ _ r.no u.no; at = λ t. both_true _ _ (s.at t) (both_true _ _ (r.at t) (u.at t)) }

    groups_undisturbed : (gs : Groups E T) → groups_take k gs ≡ false → (a c : Bool) → a ≡ true → c ≡ true → IsFull (groups same k gs a c)
    groups_undisturbed Done q a c h m = record { end = m; at = λ t. refl }
    groups_undisturbed (Group x more) q a c h m =
        let f = undisturbed x (none_left _ _ q) (a && c) (both_true a c h m) in
        let g = groups_undisturbed more (none_right _ _ q) a (flow same k x (a && c)).end h f.end in
        record { end = g.end; at = λ t. both_true _ _ (f.at t) (g.at t) }

-- an analysis of which no event takes the state away
module _ {E T : Type 0} (k : Analysis E) (never : (e : E) → k.takes e ≡ false) where
  mutual
    pub takes_nothing : (x : Act E T) → takes k x ≡ false
    takes_nothing Skip = refl
    takes_nothing (Does e) = never e
    takes_nothing (Asks c) = test_takes_nothing c
    takes_nothing (Jumps t) = refl
    takes_nothing Throws = refl
    takes_nothing (Then x y) = none_both _ _ (takes_nothing x) (takes_nothing y)
    takes_nothing (If l c x y) = none_both _ _ (test_takes_nothing c) (none_both _ _ (takes_nothing x) (takes_nothing y))
    takes_nothing (Forever x) = takes_nothing x
    takes_nothing (Block t x) = takes_nothing x
    takes_nothing (Switch d gs) = groups_take_nothing gs
    takes_nothing (Try x y) = none_both _ _ (takes_nothing x) (takes_nothing y)
    takes_nothing (Finally x y) = none_both _ _ (takes_nothing x) (takes_nothing y)
    takes_nothing (Later x) = refl

    test_takes_nothing : (c : Test E T) → test_takes k c ≡ false
    test_takes_nothing (Constant b) = refl
    test_takes_nothing (Value x) = takes_nothing x
    test_takes_nothing (And c d) = none_both _ _ (test_takes_nothing c) (test_takes_nothing d)
    test_takes_nothing (Or c d) = none_both _ _ (test_takes_nothing c) (test_takes_nothing d)
    test_takes_nothing (Not c) = test_takes_nothing c
    test_takes_nothing (Choose c d e) = none_both _ _ (test_takes_nothing c) (none_both _ _ (test_takes_nothing d) (test_takes_nothing e))

    groups_take_nothing : (gs : Groups E T) → groups_take k gs ≡ false
    groups_take_nothing Done = refl
    groups_take_nothing (Group x more) = none_both _ _ (takes_nothing x) (groups_take_nothing more)

module _ {V P T : Type 0} (same : T → T → Bool) (is : V → Bool) (x : Act (Use V P) T) where
  -- what is assigned stays so
  pub assigned_stays_so : IsFull (flow same (assignment {P = P} is) x true)
  assigned_stays_so = undisturbed same (assignment is) (assignment_sound is) refl x (takes_nothing (assignment is) (λ e. refl) x) true refl

  -- what is nowhere assigned stays unassigned
  pub unassigned_stays_so : takes (unassignment {P = P} is) x ≡ false → IsFull (flow same (unassignment is) x true)
  unassigned_stays_so q = undisturbed same (unassignment is) (unassignment_sound is) refl x q true refl
