-- What a flow says of a state holds in every run, and each event of a run finds a state that is allowed where none is at fault.
use Rattle.std.proofs.Common.{◌≡◌, Bool, true, false, not, ◌&&◌, ◌||◌, [], ◌++◌, sym, subst}
use Rattle.flow.specs.Acts.{Act, Test, Groups, Done, Group}
use Rattle.flow.specs.Flows.{Flow, Sides}
use Rattle.flow.specs.Analyses.{Analysis, takes, jumps, test_jumps, groups_jump, flow, sides, groups, kept, repeated}
use Rattle.flow.specs.Runs.{Events, append, Jumped, End, Outcome, Runs, Tests, Falls, Enters}
use Rattle.flow.proofs.States.{Below, and_left, and_right, or_left, or_right, nil_left, nil_right, not_told, start_twice, comes_back, kept_below, behinds, behinds_append, IsSound, Finds, found_append, TellsApart, Leaves, jumped, threw, wider, Ends, ended, left, at_end, at_exit, ends_wider, TestEnds, is_true, is_false, out, at_true, at_false, at_out, tests_wider}
use Rattle.flow.proofs.Quiet.{quiet}

jump_here : (s a b : Bool) → s ≡ true → Below a b → Below (not s || a) b
jump_here true a b e h n = h n
jump_here false a b e h n = cc

passed_jump : (c j : Bool) → c ≡ false → j ≡ true → (not c && j) ≡ true
passed_jump false j e h = h
passed_jump true j e h = cc

passed_at : (c a : Bool) → c ≡ false → (c || a) ≡ true → a ≡ true
passed_at false a e h = h
passed_at true a e h = cc

jumped_through : (j m : Bool) → j ≡ true → (not j || m) ≡ true → m ≡ true
jumped_through true m e h = h
jumped_through false m e h = cc

module _ {E T : Type 0} (same : T → T → Bool) (S : TellsApart same) (k : Analysis E) (K : IsSound k) (Ok : E → Bool → Type 0)
    (allowed : (e : E) (a b : Bool) → k.is_fault e a ≡ false → Below a b → Ok e b) where
  abbrev Good : (T → Bool) → Flow E T → Bool → Events E → End T → Type 0
  Good J f b es e = Ends J f (behinds k b es) e × (f.faults ≡ [] → Finds k Ok b es)

  abbrev TestGood : (T → Bool) → Sides E T → Bool → Events E → Outcome T → Type 0
  TestGood J s b es o = TestEnds J s (behinds k b es) o × (s.faults ≡ [] → Finds k Ok b es)

  chained : {J : T → Bool} {f : Flow E T} {e : End T} (b : Bool) (es fs : Events E) → Ends J f (behinds k (behinds k b es) fs) e → Ends J f (behinds k b (append es fs)) e
  chained {J} {f} {e} b es fs h = subst (λ z. Ends J f z e) (sym (behinds_append k b es fs)) h

  test_chained : {J : T → Bool} {s : Sides E T} {o : Outcome T} (b : Bool) (es fs : Events E) → TestEnds J s (behinds k (behinds k b es) fs) o → TestEnds J s (behinds k b (append es fs)) o
  test_chained {J} {s} {o} b es fs h = subst (λ z. TestEnds J s z o) (sym (behinds_append k b es fs)) h

  -- a jump that ends a block, and one that passes it
  here : {J f : T → Bool} {b : Bool} {t : T} → Leaves J f b (Jumped t) → Below (f t) b
  here (jumped t m h) = h

  passes : {J f : T → Bool} {b : Bool} {s : T} (t : T) → Leaves J f b (Jumped s) → same t s ≡ false → Leaves (λ m. not (same t m) && J m) (λ m. same t m || f m) b (Jumped s)
  passes t (jumped s m h) ne = jumped s (passed_jump (same t s) _ ne m) (λ n. h (passed_at (same t s) _ ne n))

  -- the next group begins behind the one before
  abbrev Begins : Groups E T → Bool → Bool → Bool → Type 0
  Begins Done a c b = Below c b
  Begins (Group x more) a c b = Below (a && c) b

  begins : (gs : Groups E T) (a c b : Bool) → Below c b → Begins gs a c b
  begins Done a c b h = h
  begins (Group x more) a c b h = λ n. h (and_right a c n)

  -- an end of the first of a `finally`, behind the second
  finish : (x : Act E T) {J : T → Bool} {f : Flow E T} (g : Flow E T) {e : End T} (b : Bool) (fs : Events E) → ((t : T) → Below (jumps same x t) (J t)) →
      Ends (jumps same x) f b e → Below g.end (behinds k b fs) →
      Ends J (record { end = k.joined f.end g.end; at = λ t. (not (jumps same x t) || k.joined (f.at t) g.end) && g.at t; faults = f.faults ++ g.faults }) (behinds k b fs) e
  finish x {f = f} g b fs u (ended h) m = ended (K.joins f.end g.end b fs h m)
  finish x {f = f} g b fs u (left (jumped t i h)) m =
      left (jumped t (u t i) (λ n. K.joins (f.at t) g.end b fs h m (jumped_through (jumps same x t) _ i (and_left _ _ n))))
  finish x g b fs u (left threw) m = left threw

  mutual
    pub sound : {x : Act E T} {es : Events E} {e : End T} → Runs x es e → (a b : Bool) → Below a b → Good (jumps same x) (flow same k x a) b es e
    sound Runs.skip a b h = (ended h, λ n. tt)
    sound (Runs.does e) a b h = (ended (K.grows e a b h), λ n. (allowed e a b (not_told (k.is_fault e a) e n) h, tt))
    sound (Runs.asks c es true p) a b h = let i = test_sound p k.counts a b h in (ended (λ n. at_true i.0 (and_left _ _ n)), i.1)
    sound (Runs.asks c es false p) a b h = let i = test_sound p k.counts a b h in (ended (λ n. at_false i.0 (and_right _ _ n)), i.1)
    sound (Runs.asks_ends c es j p) a b h = let i = test_sound p k.counts a b h in (left (at_out i.0), i.1)
    sound (Runs.jumps t) a b h = (left (jumped t (S.self t) (jump_here (same t t) a b (S.self t) h)), λ n. tt)
    sound (Runs.then_ x y es fs e p q) a b h =
        let i = sound p a b h in
        let j = sound q (flow same k x a).end (behinds k b es) (at_end i.0) in (
          chained b es fs (ends_wider (λ n. n) (λ t n. or_right _ _ n) (λ t n. and_right _ _ n) j.0),
          λ n. found_append k Ok b es fs (i.1 (nil_left _ _ n)) (j.1 (nil_right _ _ n)),
        )
    sound (Runs.then_ends x y es j p) a b h =
        let i = sound p a b h in
        (left (wider (λ t n. or_left _ _ n) (λ t n. and_left _ _ n) (at_exit i.0)), λ n. i.1 (nil_left _ _ n))
    sound (Runs.if_true l c x y es fs e p q) a b h =
        let i = test_sound p (l || k.counts) a b h in
        let j = sound q (sides same k c (l || k.counts) a).yes (behinds k b es) (at_true i.0) in (
          chained b es fs (ends_wider (λ n. and_left _ _ n) (λ t n. or_right _ _ (or_left _ _ n)) (λ t n. and_left _ _ (and_right _ _ n)) j.0),
          λ n. found_append k Ok b es fs (i.1 (nil_left _ _ n)) (j.1 (nil_left _ _ (nil_right _ _ n))),
        )
    sound (Runs.if_false l c x y es fs e p q) a b h =
        let i = test_sound p (l || k.counts) a b h in
        let j = sound q (sides same k c (l || k.counts) a).no (behinds k b es) (at_false i.0) in (
          chained b es fs (ends_wider (λ n. and_right _ _ n) (λ t n. or_right _ _ (or_right _ _ n)) (λ t n. and_right _ _ (and_right _ _ n)) j.0),
          λ n. found_append k Ok b es fs (i.1 (nil_left _ _ n)) (j.1 (nil_right _ _ (nil_right _ _ n))),
        )
    sound (Runs.if_ends l c x y es j p) a b h =
        let i = test_sound p (l || k.counts) a b h in
        (left (wider (λ t n. or_left _ _ n) (λ t n. and_left _ _ n) (at_out i.0)), λ n. i.1 (nil_left _ _ n))
    sound (Runs.again x es fs e p q) a b h =
        let f : Bool → Bool = λ z. (flow same k x z).end in
        let s : Bool = a && (not (takes k x) || f a) in
        let i = sound p s b (λ n. h (and_left _ _ n)) in
        let back : Below s (behinds k b es) = comes_back a (takes k x) f b (behinds k b es) h (λ t. quiet k K p t b) (at_end i.0) in
        let j = subst (λ z. Good (jumps same x) (repeated same k (flow same k x z)) (behinds k b es) fs e) (start_twice a (takes k x) f) (sound q s (behinds k b es) back) in
        (chained b es fs j.0, λ n. found_append k Ok b es fs (i.1 n) (j.1 n))
    sound (Runs.forever_ends x es j p) a b h =
        let i = sound p (a && (not (takes k x) || (flow same k x a).end)) b (λ n. h (and_left _ _ n)) in
        (left (at_exit i.0), i.1)
    sound (Runs.block t x es p) a b h = let i = sound p a b h in (ended (λ n. at_end i.0 (and_left _ _ n)), i.1)
    sound (Runs.block_left t x es p) a b h = let i = sound p a b h in (ended (λ n. here (at_exit i.0) (and_right _ _ n)), i.1)
    sound (Runs.block_passed t x es s p ne) a b h = let i = sound p a b h in (left (passes t (at_exit i.0) (S.apart t s ne)), i.1)
    sound (Runs.block_throws t x es p) a b h = let i = sound p a b h in (left threw, i.1)
    sound (Runs.switch true gs es e p) a b h = enters_sound p a true b h
    sound (Runs.switch false gs es e p) a b h = let i = enters_sound p a true b h in (ends_wider (λ n. and_left _ _ n) (λ t n. n) (λ t n. n) i.0, i.1)
    sound (Runs.no_group gs) a b h = (ended (λ n. h (and_right _ _ n)), λ n. tt)
    sound (Runs.tried x y es e p) a b h =
        let i = sound p a b h in
        (ends_wider (λ n. and_left _ _ n) (λ t n. or_left _ _ n) (λ t n. and_left _ _ n) i.0, λ n. i.1 (nil_left _ _ n))
    sound (Runs.caught x y es fs e p q) a b h =
        let i = sound p a b h in
        let j = sound q (kept same k x a) (behinds k b es) (kept_below a (takes k x) b (behinds k b es) h (λ t. quiet k K p t b)) in (
          chained b es fs (ends_wider (λ n. and_right _ _ n) (λ t n. or_right _ _ n) (λ t n. and_right _ _ n) j.0),
          λ n. found_append k Ok b es fs (i.1 (nil_left _ _ n)) (j.1 (nil_right _ _ n)),
        )
    sound (Runs.finished x y es fs e p q) a b h =
        let i = sound p a b h in
        let j = sound q (kept same k x a) (behinds k b es) (kept_below a (takes k x) b (behinds k b es) h (λ t. quiet k K p t b)) in (
          chained b es fs (finish x (flow same k y (kept same k x a)) (behinds k b es) fs (λ t n. or_left _ _ n) i.0 (at_end j.0)),
          λ n. found_append k Ok b es fs (i.1 (nil_left _ _ n)) (j.1 (nil_right _ _ n)),
        )
    sound (Runs.finally_ends x y es fs e l p q) a b h =
        let i = sound p a b h in
        let j = sound q (kept same k x a) (behinds k b es) (kept_below a (takes k x) b (behinds k b es) h (λ t. quiet k K p t b)) in (
          chained b es fs (left (wider (λ t n. or_right _ _ n) (λ t n. and_right _ _ n) (at_exit j.0))),
          λ n. found_append k Ok b es fs (i.1 (nil_left _ _ n)) (j.1 (nil_right _ _ n)),
        )
    sound (Runs.later x) a b h = (ended h, λ n. tt)
    sound (Runs.later_runs x es gs e p q) a b h =
        let i = sound p (k.later a) (k.later b) (K.delays a b h) in
        let j = sound q a b h in
        (j.0, λ n. (i.1 n, j.1 n))
    sound (Runs.throws x) a b h = (left threw, λ n. tt)
    sound (Runs.throws_behind x es e p) a b h = let i = sound p a b h in (left threw, i.1)

    test_sound : {c : Test E T} {es : Events E} {o : Outcome T} → Tests c es o → (l a b : Bool) → Below a b → TestGood (test_jumps same c) (sides same k c l a) b es o
    test_sound (Tests.constant true) true a b h = (is_true h, λ n. tt)
    test_sound (Tests.constant true) false a b h = (is_true h, λ n. tt)
    test_sound (Tests.constant false) true a b h = (is_false h, λ n. tt)
    test_sound (Tests.constant false) false a b h = (is_false h, λ n. tt)
    test_sound (Tests.value x es true p) l a b h = let i = sound p a b h in (is_true (at_end i.0), i.1)
    test_sound (Tests.value x es false p) l a b h = let i = sound p a b h in (is_false (at_end i.0), i.1)
    test_sound (Tests.value_ends x es j p) l a b h = let i = sound p a b h in (out (at_exit i.0), i.1)
    test_sound (Tests.and_true c d es fs o p q) l a b h =
        let i = test_sound p k.counts a b h in
        let j = test_sound q k.counts (sides same k c k.counts a).yes (behinds k b es) (at_true i.0) in (
          test_chained b es fs (tests_wider (λ n. n) (λ n. and_right _ _ n) (λ t n. or_right _ _ n) (λ t n. and_right _ _ n) j.0),
          λ n. found_append k Ok b es fs (i.1 (nil_left _ _ n)) (j.1 (nil_right _ _ n)),
        )
    test_sound (Tests.and_false c d es p) l a b h = let i = test_sound p k.counts a b h in (is_false (λ n. at_false i.0 (and_left _ _ n)), λ n. i.1 (nil_left _ _ n))
    test_sound (Tests.and_ends c d es j p) l a b h =
        let i = test_sound p k.counts a b h in
        (out (wider (λ t n. or_left _ _ n) (λ t n. and_left _ _ n) (at_out i.0)), λ n. i.1 (nil_left _ _ n))
    test_sound (Tests.or_false c d es fs o p q) l a b h =
        let i = test_sound p k.counts a b h in
        let j = test_sound q k.counts (sides same k c k.counts a).no (behinds k b es) (at_false i.0) in (
          test_chained b es fs (tests_wider (λ n. and_right _ _ n) (λ n. n) (λ t n. or_right _ _ n) (λ t n. and_right _ _ n) j.0),
          λ n. found_append k Ok b es fs (i.1 (nil_left _ _ n)) (j.1 (nil_right _ _ n)),
        )
    test_sound (Tests.or_true c d es p) l a b h = let i = test_sound p k.counts a b h in (is_true (λ n. at_true i.0 (and_left _ _ n)), λ n. i.1 (nil_left _ _ n))
    test_sound (Tests.or_ends c d es j p) l a b h =
        let i = test_sound p k.counts a b h in
        (out (wider (λ t n. or_left _ _ n) (λ t n. and_left _ _ n) (at_out i.0)), λ n. i.1 (nil_left _ _ n))
    test_sound (Tests.not_true c es p) l a b h = let i = test_sound p k.counts a b h in (is_false (at_true i.0), i.1)
    test_sound (Tests.not_false c es p) l a b h = let i = test_sound p k.counts a b h in (is_true (at_false i.0), i.1)
    test_sound (Tests.not_ends c es j p) l a b h = let i = test_sound p k.counts a b h in (out (at_out i.0), i.1)
    test_sound (Tests.choose_true c d f es fs o p q) l a b h =
        let i = test_sound p k.counts a b h in
        let j = test_sound q k.counts (sides same k c k.counts a).yes (behinds k b es) (at_true i.0) in (
          test_chained b es fs (tests_wider (λ n. and_left _ _ n) (λ n. and_left _ _ n) (λ t n. or_right _ _ (or_left _ _ n)) (λ t n. and_left _ _ (and_right _ _ n)) j.0),
          λ n. found_append k Ok b es fs (i.1 (nil_left _ _ n)) (j.1 (nil_left _ _ (nil_right _ _ n))),
        )
    test_sound (Tests.choose_false c d f es fs o p q) l a b h =
        let i = test_sound p k.counts a b h in
        let j = test_sound q k.counts (sides same k c k.counts a).no (behinds k b es) (at_false i.0) in (
          test_chained b es fs (tests_wider (λ n. and_right _ _ n) (λ n. and_right _ _ n) (λ t n. or_right _ _ (or_right _ _ n)) (λ t n. and_right _ _ (and_right _ _ n)) j.0),
          λ n. found_append k Ok b es fs (i.1 (nil_left _ _ n)) (j.1 (nil_right _ _ (nil_right _ _ n))),
        )
    test_sound (Tests.choose_ends c d f es j p) l a b h =
        let i = test_sound p k.counts a b h in
        (out (wider (λ t n. or_left _ _ n) (λ t n. and_left _ _ n) (at_out i.0)), λ n. i.1 (nil_left _ _ n))

    falls_sound : {gs : Groups E T} {es : Events E} {e : End T} → Falls gs es e → (a c b : Bool) → Begins gs a c b → Good (groups_jump same gs) (groups same k gs a c) b es e
    falls_sound Falls.done a c b h = (ended h, λ n. tt)
    falls_sound (Falls.falls x more es fs e p q) a c b h =
        let i = sound p (a && c) b h in
        let j = falls_sound q a (flow same k x (a && c)).end (behinds k b es) (begins more a _ _ (at_end i.0)) in (
          chained b es fs (ends_wider (λ n. n) (λ t n. or_right _ _ n) (λ t n. and_right _ _ n) j.0),
          λ n. found_append k Ok b es fs (i.1 (nil_left _ _ n)) (j.1 (nil_right _ _ n)),
        )
    falls_sound (Falls.leaves x more es j p) a c b h =
        let i = sound p (a && c) b h in
        (left (wider (λ t n. or_left _ _ n) (λ t n. and_left _ _ n) (at_exit i.0)), λ n. i.1 (nil_left _ _ n))

    enters_sound : {gs : Groups E T} {es : Events E} {e : End T} → Enters gs es e → (a c b : Bool) → Below a b → Good (groups_jump same gs) (groups same k gs a c) b es e
    enters_sound (Enters.first x more es e p) a c b h = falls_sound p a c b (λ n. h (and_left _ _ n))
    enters_sound (Enters.further x more es e p) a c b h =
        let j = enters_sound p a (flow same k x (a && c)).end b h in
        (ends_wider (λ n. n) (λ t n. or_right _ _ n) (λ t n. and_right _ _ n) j.0, λ n. j.1 (nil_right _ _ n))
