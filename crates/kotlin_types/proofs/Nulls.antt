-- What types say of null.
use Rattle.std.proofs.Common.{◌≡◌, true, refl, sym, ap, ◌∙◌}
use Rattle.kotlin_types.specs.declared.kinds.Nullability.{Nullability}
use Rattle.kotlin_types.specs.declared.kinds.Nullability.TheVariants as null
use Rattle.kotlin_types.specs.Types.{is_within, lifted}
use Rattle.kotlin_types.specs.Supertypes.{takes_null}

pub within_itself : (n : Nullability) → is_within n n ≡ true
within_itself null.Never = refl
within_itself null.Parameter = refl
within_itself null.Also = refl

pub within_trans : (a b c : Nullability) → is_within a b ≡ true → is_within b c ≡ true → is_within a c ≡ true
within_trans null.Never b c h g = refl
within_trans null.Parameter null.Never c h g = cc
within_trans null.Parameter null.Parameter c h g = g
within_trans null.Parameter null.Also null.Also h g = refl
within_trans null.Parameter null.Also null.Never h g = cc
within_trans null.Parameter null.Also null.Parameter h g = cc
within_trans null.Also null.Also c h g = g
within_trans null.Also null.Never c h g = cc
within_trans null.Also null.Parameter c h g = cc

pub within_both : (a b : Nullability) → is_within a b ≡ true → is_within b a ≡ true → a ≡ b
within_both null.Never null.Never h g = refl
within_both null.Parameter null.Parameter h g = refl
within_both null.Also null.Also h g = refl
within_both a b h g = cc

-- what takes as much as `?` is `?`
pub also_within : (b : Nullability) → is_within null.Also b ≡ true → b ≡ null.Also
also_within null.Also h = refl
also_within null.Never h = cc
also_within null.Parameter h = cc

pub within_also : (a : Nullability) → is_within a null.Also ≡ true
within_also null.Never = refl
within_also null.Parameter = refl
within_also null.Also = refl

-- more of null outside gives more inside
pub lifts : (n m k : Nullability) → is_within n m ≡ true → is_within (lifted n k) (lifted m k) ≡ true
lifts null.Never m k h = refl
lifts null.Parameter null.Parameter k h = within_itself k
lifts null.Parameter null.Also k h = within_also k
lifts null.Also null.Also k h = refl
lifts null.Parameter null.Never k h = cc
lifts null.Also null.Never k h = cc
lifts null.Also null.Parameter k h = cc

pub takes_on : (a b c : Nullability) → takes_null a b ≡ true → (b ≡ null.Also → c ≡ null.Also) → takes_null a c ≡ true
takes_on null.Never b c h i = refl
takes_on null.Parameter b c h i = refl
takes_on null.Also b c h i = ap (is_within null.Also) (i (also_within b h))

pub takes_also : (a b : Nullability) → a ≡ null.Also → takes_null a b ≡ true → b ≡ null.Also
takes_also a b e h = also_within b (sym (ap (λ z. takes_null z b) e) ∙ h)
