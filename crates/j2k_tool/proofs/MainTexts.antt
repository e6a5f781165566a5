-- The text of a `main`, part after part.
use Rattle.std.proofs.Common.{◌≡◌, ◌++◌, ℕ, List, Result, Ok, Err, OnOk, append_assoc, ◌∙◌, ap}

joined : (old a p b f e : List ℕ) → old ++ a ++ p ++ b ++ f ++ e ≡ old ++ (a ++ p ++ b ++ f ++ e)
joined old a p b f e =
    ap (λ (z : List ℕ). z ++ b ++ f ++ e) (append_assoc old a p)
    ∙ ap (λ (z : List ℕ). z ++ f ++ e) (append_assoc old (a ++ p) b)
    ∙ ap (λ (z : List ℕ). z ++ e) (append_assoc old (a ++ p ++ b) f)
    ∙ append_assoc old (a ++ p ++ b ++ f) e

pub put : {A E : Type 0} (result : Result A E) (old a p b f e head body new : List ℕ) → head ≡ old ++ a ++ p ++ b → body ≡ head ++ f → OnOk result (new ≡ body ++ e)
    → OnOk result (new ≡ old ++ (a ++ p ++ b ++ f ++ e))
put (Err error) old a p b f e head body new h g is = tt
put (Ok x) old a p b f e head body new h g is = is ∙ ap (λ (z : List ℕ). z ++ e) (g ∙ ap (λ (z : List ℕ). z ++ f) h) ∙ joined old a p b f e
