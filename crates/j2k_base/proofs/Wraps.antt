-- Numbers cut to a width.
use Rattle.std.proofs.Common.{◌≡◌, ◌^◌, ℤ, pos, to_z, of_z, FitsSigned, ◌∙◌, ap}
use Rattle.std.specs.Int.{Width, int_wrap, int_rem_euclid, w128}
use Rattle.std.specs.Int.RustNames.{unsigned_abs}
use Rattle.std.proofs.lemmas.Int.{to_z-of_z}
use mir.Val.{bits}

pub wrapped : (w : Width) (x r s : ℤ) → FitsSigned w128 x → FitsSigned w128 r → FitsSigned w s → r ≡ int_rem_euclid (to_z w128 (of_z w128 x)) (pos (2 ^ bits w)) → s ≡ to_z w (unsigned_abs (to_z w128 (of_z w128 r))) → to_z w (of_z w s) ≡ int_wrap w x
unfolding int_wrap
wrapped w x r s fx fr fs hr hs =
    to_z-of_z w s fs
    ∙ hs
    ∙ ap (λ (v : ℤ). to_z w (unsigned_abs v)) (to_z-of_z w128 r fr ∙ hr ∙ ap (λ (v : ℤ). int_rem_euclid v (pos (2 ^ bits w))) (to_z-of_z w128 x fx))
