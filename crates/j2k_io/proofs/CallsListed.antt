-- Where no call is listed, none fails.
use Rattle.std.proofs.Common.{◌≡◌, ◌≢◌, ℕ, Bool, true, false, cond, nat_lt, List, [], Some, None, refl, ◌∙◌, ap}
use Rattle.j2k_io.specs.declared.calls.Fail.{Fail}
use Rattle.j2k_io.specs.Calls.{last_call, next_keep}

same : {A : Type 0} (b : Bool) (x : A) → cond b x x ≡ x
same true x = refl
same false x = refl

next_keep-nil : (calls : ℕ) → next_keep [] calls ≡ None
unfolding next_keep
next_keep-nil calls = same (nat_lt calls last_call) None

pub none_fails : (failing : List Fail) (calls keep : ℕ) → failing ≡ [] → Some keep ≢ next_keep failing calls
none_fails failing calls keep e h =
    let none : next_keep failing calls ≡ None = ap (λ (l : List Fail). next_keep l calls) e ∙ next_keep-nil calls in
    cc
