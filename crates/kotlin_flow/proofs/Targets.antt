-- Two targets of jumps are told apart.
use Rattle.std.proofs.Common.{◌≡◌, ℕ, Bool, true, false, List, refl, ap}
use Rattle.std.specs.Str.{bytes_eq}
use Rattle.std.proofs.lemmas.Slice.Eq.{bytes_eq-Decides}
use Rattle.flow.proofs.LawsToCite.{TellsApart}
use Rattle.kotlin_flow.specs.Variables.{Target, Behind, BehindLabel, Next, NextLabel, Out, OutOf, Unlocked, same_target}

names_differ : (x y : List ℕ) → (x ≡ y → ⊥) → bytes_eq x y ≡ false
names_differ x y ne = by (bytes_eq x y) refl
  where
    by : (b : Bool) → bytes_eq x y ≡ b → bytes_eq x y ≡ false
    by true e = absurd (ne ((bytes_eq-Decides x y).0 e))
    by false e = e

self : (t : Target) → same_target t t ≡ true
self Behind = refl
self (BehindLabel x) = (bytes_eq-Decides x x).1 refl
self Next = refl
self (NextLabel x) = (bytes_eq-Decides x x).1 refl
self Out = refl
self (OutOf x) = (bytes_eq-Decides x x).1 refl
self Unlocked = refl

apart : (s t : Target) → (s ≡ t → ⊥) → same_target s t ≡ false
apart Behind Behind ne = absurd (ne refl)
apart (BehindLabel x) (BehindLabel y) ne = names_differ x y (λ e. ne (ap BehindLabel e))
apart Next Next ne = absurd (ne refl)
apart (NextLabel x) (NextLabel y) ne = names_differ x y (λ e. ne (ap NextLabel e))
apart Out Out ne = absurd (ne refl)
apart (OutOf x) (OutOf y) ne = names_differ x y (λ e. ne (ap OutOf e))
apart Unlocked Unlocked ne = absurd (ne refl)
apart _ _ ne = refl

pub tells_apart : TellsApart same_target
tells_apart = record { self = self; apart = apart }
