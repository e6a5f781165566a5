-- The methods and constructors that stand behind one of the same erasure.
use Rattle.std.proofs.Common.{◌≡◌, ◌⊎◌, inl, inr, ℕ, Bool, true, false, ◌||◌, List, [], ◌∷◌, ◌++◌, refl, ap, sym, subst, append_assoc, append-nil}
use Rattle.std.specs.List.{list_any}
use Rattle.java_classes.specs.declared.faults.NameFault.{NameFault}
use Rattle.java_classes.specs.Faults.{fault_if}
use Rattle.java_signatures.specs.declared.signatures.Signature.{Signature}
use Rattle.java_signatures.specs.Same.{IsIn, HaveSameErasure, IsSecond, second_at}
use Rattle.java_signatures.specs.Signatures.{same_signature, faults_from}
use Rattle.java_signatures.proofs.Same.{false_true, signature_decides}

-- ---- lists

in_left : (x : NameFault) (xs ys : List NameFault) → IsIn x xs → IsIn x (xs ++ ys)
in_left x [] ys h = absurd h
in_left x (y ∷ xs) ys (inl e) = inl e
in_left x (y ∷ xs) ys (inr h) = inr (in_left x xs ys h)

in_right : (x : NameFault) (xs ys : List NameFault) → IsIn x ys → IsIn x (xs ++ ys)
in_right x [] ys h = h
in_right x (y ∷ xs) ys h = inr (in_right x xs ys h)

in_split : (x : NameFault) (xs ys : List NameFault) → IsIn x (xs ++ ys) → IsIn x xs ⊎ IsIn x ys
in_split x [] ys h = inr h
in_split x (y ∷ xs) ys (inl e) = inl (inl e)
in_split x (y ∷ xs) ys (inr h) = elim (in_split x xs ys h) [ inl a ↦ inl (inr a) | inr b ↦ inr b ]

in_if : (is : Bool) (unit : ℕ) (x : Signature) (f : NameFault) → IsIn f (fault_if is unit x.at 2) → (is ≡ true) × (f ≡ second_at unit x)
in_if true unit x f (inl e) = (refl, e)
in_if true unit x f (inr z) = absurd z
in_if false unit x f h = absurd h

-- ---- one of the same erasure

any_is : (x : Signature) (ys : List Signature) → list_any (same_signature x) ys ≡ true → (y : Signature) × (IsIn y ys × HaveSameErasure x y)
any_is x [] h = absurd (false_true h)
any_is x (y ∷ ys) h =
    (elim (same_signature x y) as (λ b. same_signature x y ≡ b → (z : Signature) × (IsIn z (y ∷ ys) × HaveSameErasure x z)) [
      | true ↦ λ e. (y, (inl refl, (signature_decides x y).0 e))
      | false ↦ λ e. (let r : (z : Signature) × (IsIn z ys × HaveSameErasure x z) = any_is x ys (rw e at h) in (r.0, (inr r.1.0, r.1.1)))
    ]) refl

either_true : (a b : Bool) → b ≡ true → (a || b) ≡ true
either_true true b h = refl
either_true false b h = h

is_any : (x : Signature) (ys : List Signature) (y : Signature) → IsIn y ys → HaveSameErasure x y → list_any (same_signature x) ys ≡ true
is_any x [] y i s = absurd i
is_any x (z ∷ zs) y (inl e) s =
    let t : same_signature x z ≡ true = (signature_decides x z).1 (subst (λ (w : Signature). HaveSameErasure x w) e s) in
    rw t refl
is_any x (z ∷ zs) y (inr i) s = either_true (same_signature x z) (list_any (same_signature x) zs) (is_any x zs y i s)

-- ---- faults

-- one among xs stands behind one of the same erasure, which is among them or among those that were seen before
abbrev Twice : ℕ → List Signature → List Signature → NameFault → Type 0
Twice unit seen xs f =
    (before : List Signature)
    × ((after : List Signature)
    × ((x : Signature) × ((xs ≡ before ++ x ∷ after) × ((y : Signature) × (IsIn y (seen ++ before) × (HaveSameErasure x y × (f ≡ second_at unit x)))))))

here : (unit : ℕ) (seen : List Signature) (x : Signature) (xs : List Signature) (f : NameFault) →
    IsIn f (fault_if (list_any (same_signature x) seen) unit x.at 2) → Twice unit seen (x ∷ xs) f
here unit seen x xs f h =
    let r : (list_any (same_signature x) seen ≡ true) × (f ≡ second_at unit x) = in_if (list_any (same_signature x) seen) unit x f h in
    let s : (y : Signature) × (IsIn y seen × HaveSameErasure x y) = any_is x seen r.0 in
    ([], (xs, (x, (refl, (s.0, (subst (λ (l : List Signature). IsIn s.0 l) (sym (append-nil seen)) s.1.0, (s.1.1, r.1)))))))

later : (unit : ℕ) (seen : List Signature) (x : Signature) (xs : List Signature) (f : NameFault) → Twice unit (seen ++ x ∷ []) xs f → Twice unit seen (x ∷ xs) f
later unit seen x xs f (before, (after, (z, (e, (y, (i, (s, g))))))) =
    (x ∷ before, (after, (z, (ap (λ (l : List Signature). x ∷ l) e, (y, (subst (λ (l : List Signature). IsIn y l) (append_assoc seen (x ∷ []) before) i, (s, g)))))))

sound : (unit : ℕ) (seen xs : List Signature) (f : NameFault) → IsIn f (faults_from unit seen xs) → Twice unit seen xs f
sound unit seen [] f h = absurd h
sound unit seen (x ∷ xs) f h =
    elim (in_split f (fault_if (list_any (same_signature x) seen) unit x.at 2) (faults_from unit (seen ++ x ∷ []) xs) h) [
      | inl i ↦ here unit seen x xs f i
      | inr i ↦ later unit seen x xs f (sound unit (seen ++ x ∷ []) xs f i)
    ]

complete : (unit : ℕ) (seen before after : List Signature) (x y : Signature) → IsIn y (seen ++ before) → HaveSameErasure x y →
    IsIn (second_at unit x) (faults_from unit seen (before ++ x ∷ after))
complete unit seen [] after x y i s =
    let t : list_any (same_signature x) seen ≡ true = is_any x seen y (subst (λ (l : List Signature). IsIn y l) (append-nil seen) i) s in
    in_left (second_at unit x) (fault_if (list_any (same_signature x) seen) unit x.at 2) (faults_from unit (seen ++ x ∷ []) after) (rw t (inl refl))
complete unit seen (b ∷ bs) after x y i s =
    in_right (second_at unit x) (fault_if (list_any (same_signature b) seen) unit b.at 2) (faults_from unit (seen ++ b ∷ []) (bs ++ x ∷ after))
    (complete unit (seen ++ b ∷ []) bs after x y (subst (λ (l : List Signature). IsIn y l) (sym (append_assoc seen (b ∷ []) bs)) i) s)

named : (unit : ℕ) (xs : List Signature) (f : NameFault) → Twice unit [] xs f → (x : Signature) × (IsSecond xs x × (f ≡ second_at unit x))
named unit xs f (before, (after, (x, (e, (y, (i, (s, g))))))) = (x, ((before, (after, (e, (y, (i, s))))), g))

pub to_second : (unit : ℕ) (xs : List Signature) (f : NameFault) → IsIn f (faults_from unit [] xs) → (x : Signature) × (IsSecond xs x × (f ≡ second_at unit x))
to_second unit xs f h = named unit xs f (sound unit [] xs f h)

pub from_second : (unit : ℕ) (xs : List Signature) (f : NameFault) → ((x : Signature) × (IsSecond xs x × (f ≡ second_at unit x))) → IsIn f (faults_from unit [] xs)
from_second unit xs f (x, ((before, (after, (e, (y, (i, s))))), g)) =
    subst (λ (z : NameFault). IsIn z (faults_from unit [] xs)) (sym g)
    (subst (λ (l : List Signature). IsIn (second_at unit x) (faults_from unit [] l)) (sym e) (complete unit [] before after x y i s))
