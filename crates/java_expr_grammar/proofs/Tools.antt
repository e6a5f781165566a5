-- What an answer `Some` says of the steps before it.
use Rattle.std.proofs.Common.{◌≡◌, ◌≤◌, ◌<◌, ℕ, Bool, true, false, ◌&&◌, cond, Option, Some, None, ◌⊎◌, inl, inr, refl, nat_le, nat_lt, arith}
use Rattle.std.proofs.lemmas.Bool.Decides.{nat_tests}
use Rattle.java_expr_grammar.specs.Reading.{◌>>=◌, maybe}

pub bind_some : {A B : Type 0} (o : Option A) (f : A → Option B) (y : B) → (o >>= f) ≡ Some y → (x : A) × (o ≡ Some x) × (f x ≡ Some y)
bind_some None f y e = absurd (cc e)
bind_some (Some x) f y e = (x, refl, e)

pub guard_some : {B : Type 0} (b : Bool) (o : Option B) (y : B) → cond b o None ≡ Some y → (b ≡ true) × (o ≡ Some y)
guard_some true o y e = (refl, e)
guard_some false o y e = absurd (cc e)

pub cond_is : {B : Type 0} (b : Bool) (x y z : B) → cond b x y ≡ z → ((b ≡ true) × (x ≡ z)) ⊎ ((b ≡ false) × (y ≡ z))
cond_is true x y z e = inl (refl, e)
cond_is false x y z e = inr (refl, e)

pub maybe_is : {A B : Type 0} (o : Option A) (b : B) (f : A → B) (z : B) → maybe o b f ≡ z → ((o ≡ None) × (b ≡ z)) ⊎ ((x : A) × (o ≡ Some x) × (f x ≡ z))
maybe_is None b f z e = inl (refl, e)
maybe_is (Some x) b f z e = inr (x, refl, e)

pub some_same : {A : Type 0} {x y : A} → Option.Some x ≡ Some y → x ≡ y
some_same e = cc e

pub le_true : (a b : ℕ) → nat_le a b ≡ true → a ≤ b
le_true a b h = grind (arith, nat_tests)

pub le_false : (a b : ℕ) → nat_le a b ≡ false → b < a
le_false a b h = grind (arith, nat_tests)

pub true_le : (a b : ℕ) → a ≤ b → nat_le a b ≡ true
true_le a b h = grind (arith, nat_tests)

pub lt_true : (a b : ℕ) → nat_lt a b ≡ true → a < b
lt_true a b h = grind (arith, nat_tests)

pub lt_false : (a b : ℕ) → nat_lt a b ≡ false → b ≤ a
lt_false a b h = grind (arith, nat_tests)

pub true_lt : (a b : ℕ) → a < b → nat_lt a b ≡ true
true_lt a b h = grind (arith, nat_tests)

pub false_lt : (a b : ℕ) → b ≤ a → nat_lt a b ≡ false
false_lt a b h = grind (arith, nat_tests)

pub both_true : (a b : Bool) → (a && b) ≡ true → (a ≡ true) × (b ≡ true)
both_true true true h = (refl, refl)
both_true true false h = absurd (cc h)
both_true false b h = absurd (cc h)
