-- A run of a text in which nothing takes the state away leaves it as it was.
use Rattle.std.proofs.Common.{◌≡◌, Bool, true, false, sym, subst}
use Rattle.flow.specs.Acts.{Act, Test, Groups}
use Rattle.flow.specs.Analyses.{Analysis, takes, test_takes, groups_take}
use Rattle.flow.specs.Runs.{Events, append, End, Outcome, Runs, Tests, Falls, Enters}
use Rattle.flow.proofs.States.{Below, none_left, none_right, behinds, behinds_append, IsSound}

module _ {E : Type 0} (k : Analysis E) where
  abbrev Stays : Events E → Type 0
  Stays es = (b : Bool) → Below b (behinds k b es)

  chained : (es fs : Events E) → Stays es → Stays fs → Stays (append es fs)
  chained es fs u v b n = subst (λ z. z ≡ true) (sym (behinds_append k b es fs)) (v (behinds k b es) (u b n))

module _ {E T : Type 0} (k : Analysis E) (K : IsSound k) where
  mutual
    pub quiet : {x : Act E T} {es : Events E} {e : End T} → Runs x es e → takes k x ≡ false → Stays k es
    quiet Runs.skip q = λ b n. n
    quiet (Runs.does e) q = λ b n. K.stays e b q n
    quiet (Runs.asks c es v p) q = test_quiet p q
    quiet (Runs.asks_ends c es j p) q = test_quiet p q
    quiet (Runs.jumps t) q = λ b n. n
    quiet (Runs.then_ x y es fs e p r) q = chained k es fs (quiet p (none_left _ _ q)) (quiet r (none_right _ _ q))
    quiet (Runs.then_ends x y es j p) q = quiet p (none_left _ _ q)
    quiet (Runs.if_true l c x y es fs e p r) q = chained k es fs (test_quiet p (none_left _ _ q)) (quiet r (none_left _ _ (none_right _ _ q)))
    quiet (Runs.if_false l c x y es fs e p r) q = chained k es fs (test_quiet p (none_left _ _ q)) (quiet r (none_right _ _ (none_right _ _ q)))
    quiet (Runs.if_ends l c x y es j p) q = test_quiet p (none_left _ _ q)
    quiet (Runs.again x es fs e p r) q = chained k es fs (quiet p q) (quiet r q)
    quiet (Runs.forever_ends x es j p) q = quiet p q
    quiet (Runs.block t x es p) q = quiet p q
    quiet (Runs.block_left t x es p) q = quiet p q
    quiet (Runs.block_passed t x es s p ne) q = quiet p q
    quiet (Runs.block_throws t x es p) q = quiet p q
    quiet (Runs.switch d gs es e p) q = enters_quiet p q
    quiet (Runs.no_group gs) q = λ b n. n
    quiet (Runs.tried x y es e p) q = quiet p (none_left _ _ q)
    quiet (Runs.caught x y es fs e p r) q = chained k es fs (quiet p (none_left _ _ q)) (quiet r (none_right _ _ q))
    quiet (Runs.finished x y es fs e p r) q = chained k es fs (quiet p (none_left _ _ q)) (quiet r (none_right _ _ q))
    quiet (Runs.finally_ends x y es fs e j p r) q = chained k es fs (quiet p (none_left _ _ q)) (quiet r (none_right _ _ q))
    quiet (Runs.later x) q = λ b n. n
    quiet (Runs.later_runs x es gs e p r) q = quiet r q
    quiet (Runs.throws x) q = λ b n. n
    quiet (Runs.throws_behind x es e p) q = quiet p q

    test_quiet : {c : Test E T} {es : Events E} {o : Outcome T} → Tests c es o → test_takes k c ≡ false → Stays k es
    test_quiet (Tests.constant v) q = λ b n. n
    test_quiet (Tests.value x es v p) q = quiet p q
    test_quiet (Tests.value_ends x es j p) q = quiet p q
    test_quiet (Tests.and_true c d es fs o p r) q = chained k es fs (test_quiet p (none_left _ _ q)) (test_quiet r (none_right _ _ q))
    test_quiet (Tests.and_false c d es p) q = test_quiet p (none_left _ _ q)
    test_quiet (Tests.and_ends c d es j p) q = test_quiet p (none_left _ _ q)
    test_quiet (Tests.or_false c d es fs o p r) q = chained k es fs (test_quiet p (none_left _ _ q)) (test_quiet r (none_right _ _ q))
    test_quiet (Tests.or_true c d es p) q = test_quiet p (none_left _ _ q)
    test_quiet (Tests.or_ends c d es j p) q = test_quiet p (none_left _ _ q)
    test_quiet (Tests.not_true c es p) q = test_quiet p q
    test_quiet (Tests.not_false c es p) q = test_quiet p q
    test_quiet (Tests.not_ends c es j p) q = test_quiet p q
    test_quiet (Tests.choose_true c d f es fs o p r) q = chained k es fs (test_quiet p (none_left _ _ q)) (test_quiet r (none_left _ _ (none_right _ _ q)))
    test_quiet (Tests.choose_false c d f es fs o p r) q = chained k es fs (test_quiet p (none_left _ _ q)) (test_quiet r (none_right _ _ (none_right _ _ q)))
    test_quiet (Tests.choose_ends c d f es j p) q = test_quiet p (none_left _ _ q)

    falls_quiet : {gs : Groups E T} {es : Events E} {e : End T} → Falls gs es e → groups_take k gs ≡ false → Stays k es
    falls_quiet Falls.done q = λ b n. n
    falls_quiet (Falls.falls x more es fs e p r) q = chained k es fs (quiet p (none_left _ _ q)) (falls_quiet r (none_right _ _ q))
    falls_quiet (Falls.leaves x more es j p) q = quiet p (none_left _ _ q)

    enters_quiet : {gs : Groups E T} {es : Events E} {e : End T} → Enters gs es e → groups_take k gs ≡ false → Stays k es
    enters_quiet (Enters.first x more es e p) q = falls_quiet p q
    enters_quiet (Enters.further x more es e p) q = enters_quiet p (none_right _ _ q)
