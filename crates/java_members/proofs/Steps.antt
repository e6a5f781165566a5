-- The steps of the loop over the levels.
use Rattle.std.proofs.Common.{◌≡◌, ℕ, zero, suc, ◌+◌, ◌-◌, ◌<◌, ◌≤◌, List, [], ◌++◌, refl, ap, sym, ◌∙◌, arith, append_assoc, append-nil}
use Rattle.java_members.specs.declared.classes.Class.{Class}
use Rattle.java_members.specs.declared.classes.Sort.{Sort}
use Rattle.java_members.specs.declared.walks.Reached.{Reached}
use Rattle.java_members.specs.Members.{next, levels}

module _ (table : List Class) (sort : Sort) (name : List ℕ) where
  none : (n : ℕ) → levels table sort name n [] ≡ []
  none zero = refl
  none (suc n) = none n

  module _ (n done : ℕ) (level out whole : List Reached) (was : out ++ levels table sort name (n - done) level ≡ whole) where
    pub goes_on : (out' level' : List Reached) → done < n → out' ≡ out ++ level → level' ≡ next table sort name level →
        out' ++ levels table sort name (n - (done + 1)) level' ≡ whole
    goes_on out' level' less eo el =
        let e : n - done ≡ suc (n - (done + 1)) = omega arith in
        ap (λ o. o ++ levels table sort name (n - (done + 1)) level') eo
        ∙ ap (λ l. (out ++ level) ++ levels table sort name (n - (done + 1)) l) el
        ∙ append_assoc out level (levels table sort name (n - (done + 1)) (next table sort name level))
        ∙ sym (ap (λ k. out ++ levels table sort name k level) e) ∙ was

    pub stops : level ≡ [] → out ≡ whole
    stops e = sym (append-nil out) ∙ sym (ap (λ l. out ++ l) (none (n - done))) ∙ sym (ap (λ l. out ++ levels table sort name (n - done) l) e) ∙ was

    pub ends : n ≤ done → out ≡ whole
    ends all =
        let e : n - done ≡ 0 = omega arith in
        sym (append-nil out) ∙ sym (ap (λ k. out ++ levels table sort name k level) e) ∙ was
