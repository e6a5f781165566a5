-- The steps of the loop over the classes that are found.
use Rattle.std.proofs.Common.{◌≡◌, ℕ, suc, ◌+◌, ◌-◌, ◌<◌, ◌≤◌, List, ◌++◌, Some, None, ap, sym, ◌∙◌, arith}
use Rattle.std.specs.Prelude.{slice_get}
use Rattle.java_cycles.specs.declared.edges.Edge.{Edge}
use Rattle.java_cycles.specs.Cycles.{ends_of, others, behind, found_from}

module _ (n done : ℕ) (left : List Edge) (found whole : List ℕ) (was : found_from (n - done) done left found ≡ whole) where
  opened : done < n → behind found (λ b. found_from (n - (done + 1)) (done + 1) (others b left) (found ++ ends_of b left)) (slice_get found done) ≡ whole
  opened less =
      let e : n - done ≡ suc (n - (done + 1)) = omega arith in
      sym (ap (λ k. found_from k done left found) e) ∙ was

  pub goes_on : (b : ℕ) (left' : List Edge) (found' : List ℕ) → done < n → slice_get found done ≡ Some b →
      left' ≡ others b left → found' ≡ found ++ ends_of b left → found_from (n - (done + 1)) (done + 1) left' found' ≡ whole
  goes_on b left' found' less get el ef =
      ap (λ l. found_from (n - (done + 1)) (done + 1) l found') el
      ∙ ap (λ f. found_from (n - (done + 1)) (done + 1) (others b left) f) ef
      ∙ sym (ap (behind found (λ b. found_from (n - (done + 1)) (done + 1) (others b left) (found ++ ends_of b left))) get) ∙ opened less

  pub stops : done < n → slice_get found done ≡ None → found ≡ whole
  stops less get = sym (ap (behind found (λ b. found_from (n - (done + 1)) (done + 1) (others b left) (found ++ ends_of b left))) get) ∙ opened less

  pub ends : n ≤ done → found ≡ whole
  ends all =
      let e : n - done ≡ 0 = omega arith in
      sym (ap (λ k. found_from k done left found) e) ∙ was
