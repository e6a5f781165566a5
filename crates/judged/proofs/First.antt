-- The first fault, found one note after the other.
use Rattle.std.proofs.Common.{◌≡◌, ◌≢◌, ◌⊎◌, ◌↔◌, ℕ, Bor, IsNone, IfSome, Bool, true, false, List, [], ◌∷◌, Option, Some, None, if◌then◌else◌, cond, ◌==◌, inl, inr, refl, sym, ap, subst, ◌∙◌}
use Rattle.std.specs.Ordering.{nat_cmp, ordering_then, ordering_reverse, is_lt, is_gt}
use Rattle.std.specs.Option.{option_copied}
use Rattle.std.specs.Cmp.{IsTotalOrder}
use Rattle.std.specs.Cmp.Lexicographic.{slice_cmp}
use Rattle.std.specs.FinMap.{nat_cmp-IsAntisymmetric, slice_cmp-IsAntisymmetric}
use Rattle.std.proofs.lemmas.Cmp.{nat_cmp_total, nat_list_cmp_total, on_total, then_total, upto, tied_itself}
use Rattle.std.specs.declared.cmp.Ordering.{Ordering}
use Rattle.std.specs.declared.cmp.Ordering.TheVariants.{Less, Equal, Greater}
use Rattle.j2k_base.specs.declared.places.Phase.{Phase}
use Rattle.j2k_base.specs.declared.places.Phase.TheVariants.{Settings, L, S, N, T, F, P, U, KL, KS, K}
use Rattle.j2k_base.specs.declared.places.Fault.{Fault}
use Rattle.judged.specs.declared.notes.Note.{Note}
use Rattle.judged.specs.declared.notes.Note.TheVariants as note
use Rattle.judged.specs.Notes.{AreSame, IsAmong, IsFirst, NoneBefore, fault_cmp, faults_in, first_fault, first_from, rank}

-- ---- the order is total

fault_total : IsTotalOrder fault_cmp
fault_total =
    then_total (on_total (λ f. rank f.phase) nat_cmp_total)
    (then_total (on_total (λ f. f.place.path) nat_list_cmp_total)
    (then_total (on_total (λ f. f.place.offset) nat_cmp_total) (on_total (λ f. f.number) nat_cmp_total)))

-- a comes no later than b
abbrev Le : Fault → Fault → Type 0
Le a b = is_gt (fault_cmp a b) ≡ false

le_same : (a : Fault) → Le a a
le_same a = ap is_gt (tied_itself fault_total a)

le_less_by : (o : Ordering) → is_lt o ≡ true → is_gt o ≡ false
le_less_by Less e = refl
le_less_by Equal e = cc
le_less_by Greater e = cc

le_back_by : (o : Ordering) → is_lt o ≡ false → is_gt (ordering_reverse o) ≡ false
le_back_by Less e = cc
le_back_by Equal e = refl
le_back_by Greater e = refl

le_back : (a b : Fault) → is_lt (fault_cmp b a) ≡ false → Le a b
le_back a b e = ap is_gt (fault_total.antisymm a b) ∙ le_back_by (fault_cmp b a) e

not_before_by : (o : Ordering) → is_gt (ordering_reverse o) ≡ false → o ≢ Less
not_before_by Less e = λ h. cc
not_before_by Equal e = λ h. cc
not_before_by Greater e = λ h. cc

not_before : (a b : Fault) → Le a b → fault_cmp b a ≢ Less
not_before a b e = not_before_by (fault_cmp b a) (sym (ap is_gt (fault_total.antisymm a b)) ∙ e)

-- ---- the first

abbrev AllLe : Fault → List Fault → Type 0
AllLe f [] = Unit {0}
AllLe f (x ∷ xs) = Le f x × AllLe f xs

-- g is the first of f and others
record Found (f : Fault) (others : List Fault) (g : Fault) : Type 0 where
  among : IsAmong g (f ∷ others)
  le : Le g f
  below : AllLe g others

abbrev Answers : {A : Type 0} → Fault → List (Note A) → Option Fault → Type 0
Answers f notes r = (g : Fault) × (r ≡ Some g) × Found f (faults_in notes) g

among_later : (f x g : Fault) (xs : List Fault) → IsAmong g (x ∷ xs) → IsAmong g (f ∷ x ∷ xs)
among_later f x g xs h = inr h

among_kept_by : (f x g : Fault) (xs : List Fault) → (g ≡ f) ⊎ IsAmong g xs → IsAmong g (f ∷ x ∷ xs)
among_kept_by f x g xs (inl e) = inl e
among_kept_by f x g xs (inr h) = inr (inr h)

first_step : {A : Type 0} (f x : Fault) (notes : List (Note A)) (b : Bool) → is_lt (fault_cmp x f) ≡ b →
    ((h : Fault) → Answers h notes (first_from (Some h) notes)) →
    (g : Fault) × (first_from (if b then Some x else Some f) notes ≡ Some g) × Found f (x ∷ faults_in notes) g
first_step f x notes true e go =
    let r = go x in (
      r.0,
      r.1,
      record {
        among = among_later f x r.0 (faults_in notes) r.2.among;
        le = upto fault_total r.0 x f r.2.le (le_less_by (fault_cmp x f) e);
        below = (r.2.le, r.2.below);
      },
    )
first_step f x notes false e go =
    let r = go f in (
      r.0,
      r.1,
      record {
        among = among_kept_by f x r.0 (faults_in notes) r.2.among;
        le = r.2.le;
        below = (upto fault_total r.0 f x r.2.le (le_back f x e), r.2.below);
      },
    )

first_some : {A : Type 0} (f : Fault) (notes : List (Note A)) → Answers f notes (first_from (Some f) notes)
first_some f [] = (f, refl, record { among = inl refl; le = le_same f; below = tt })
first_some f (note.Pending later ∷ notes) = first_some f notes
first_some f (note.Fault x ∷ notes) = first_step f x notes (is_lt (fault_cmp x f)) refl (λ h. first_some h notes)

none_before : (f : Fault) (xs : List Fault) → AllLe f xs → NoneBefore f xs
none_before f [] h = tt
none_before f (x ∷ xs) h = (not_before f x h.0, none_before f xs h.1)

first_of_some : {A : Type 0} (x : Fault) (notes : List (Note A)) (g : Fault) → Found x (faults_in notes) g → IsFirst (note.Fault x ∷ notes) g
first_of_some x notes g h = record { among = h.among; first = (not_before g x h.le, none_before g (faults_in notes) h.below) }

-- either no note is a fault, or a first one is found
abbrev pub Outcome : {A : Type 0} → List (Note A) → Option Fault → Type 0
Outcome notes r = ((r ≡ None) × (faults_in notes ≡ [])) ⊎ ((g : Fault) × (r ≡ Some g) × (faults_in notes ≢ []) × IsFirst notes g)

outcome_later : {A : Type 0} (later : A) (notes : List (Note A)) (r : Option Fault) → Outcome notes r → Outcome (note.Pending later ∷ notes) r
outcome_later later notes r (inl h) = inl h
outcome_later later notes r (inr h) = inr (h.0, h.1, h.2, record { among = h.3.among; first = h.3.first })

pub outcome : {A : Type 0} (notes : List (Note A)) → Outcome notes (first_fault notes)
outcome [] = inl (refl, refl)
outcome (note.Pending later ∷ notes) = outcome_later later notes _ (outcome notes)
outcome (note.Fault x ∷ notes) = let r = first_some x notes in inr (r.0, r.1, λ h. cc, first_of_some x notes r.0 r.2)

-- ---- what the calls promise

first_seen : {A : Type 0} (notes : List (Note A)) (r : Option (Bor Fault)) → Outcome notes (option_copied r) → IfSome r (λ f. IsFirst notes f.now)
first_seen notes None h = tt
first_seen notes (Some f) (inl h) = cc
first_seen notes (Some f) (inr h) = let same : h.0 ≡ f.now = cc in subst (λ g. IsFirst notes g) same h.3

pub first_is : {A : Type 0} (notes : List (Note A)) (r : Option (Bor Fault)) → option_copied r ≡ first_fault notes → IfSome r (λ f. IsFirst notes f.now)
first_is notes r e = first_seen notes r (subst (λ o. Outcome notes o) (sym e) (outcome notes))

none_seen : {A : Type 0} (notes : List (Note A)) (r : Option (Bor Fault)) → Outcome notes (option_copied r) → IsNone r ↔ (faults_in notes ≡ [])
none_seen notes None (inl h) = (λ e. h.1, λ e. refl)
none_seen notes None (inr h) = cc
none_seen notes (Some f) (inl h) = cc
none_seen notes (Some f) (inr h) = (λ e. cc, λ e. absurd (h.2 e))

pub none_is : {A : Type 0} (notes : List (Note A)) (r : Option (Bor Fault)) → option_copied r ≡ first_fault notes → IsNone r ↔ (faults_in notes ≡ [])
none_is notes r e = none_seen notes r (subst (λ o. Outcome notes o) (sym e) (outcome notes))

first_by : {A : Type 0} (notes : List (Note A)) (r : Option Fault) → Outcome notes r → (faults_in notes ≢ []) → (f : Fault) × IsFirst notes f
first_by notes r (inl h) e = absurd (e h.1)
first_by notes r (inr h) e = (h.0, h.3)

pub has_first : {A : Type 0} (notes : List (Note A)) → (faults_in notes ≢ []) → (f : Fault) × IsFirst notes f
has_first notes e = first_by notes (first_fault notes) (outcome notes) e

-- ---- two first faults are of one code at one place

before_by : (f g : Fault) (xs : List Fault) → IsAmong f xs → NoneBefore g xs → fault_cmp f g ≢ Less
before_by f g [] a h = absurd a
before_by f g (x ∷ xs) (inl e) h = subst (λ y. fault_cmp y g ≢ Less) (sym e) h.0
before_by f g (x ∷ xs) (inr a) h = before_by f g xs a h.1

level_by : (o : Ordering) → (o ≢ Less) → (ordering_reverse o ≢ Less) → o ≡ Equal
level_by Less h k = absurd (h refl)
level_by Equal h k = refl
level_by Greater h k = absurd (k refl)

then_first : (o p : Ordering) → ordering_then o p ≡ Equal → o ≡ Equal
then_first Less p e = cc
then_first Equal p e = refl
then_first Greater p e = cc

then_second : (o p : Ordering) → ordering_then o p ≡ Equal → p ≡ Equal
then_second Less p e = cc
then_second Equal p e = e
then_second Greater p e = cc

phase_at : ℕ → Phase
phase_at n =
    cond (n == 0) Settings (cond (n == 1) L (cond (n == 2) S (cond (n == 3) N (cond (n == 4) T (cond (n == 5) F
    (cond (n == 6) P (cond (n == 7) U (cond (n == 8) KL (cond (n == 9) KS K)))))))))

at_rank : (p : Phase) → phase_at (rank p) ≡ p
unfolding phase_at
at_rank Settings = refl
at_rank L = refl
at_rank S = refl
at_rank N = refl
at_rank T = refl
at_rank F = refl
at_rank P = refl
at_rank U = refl
at_rank KL = refl
at_rank KS = refl
at_rank K = refl

one_phase : (p q : Phase) → rank p ≡ rank q → p ≡ q
one_phase p q e = sym (at_rank p) ∙ ap phase_at e ∙ at_rank q

same_by : (a b : Fault) → fault_cmp a b ≡ Equal → AreSame a b
same_by a b e =
    let paths = then_second (nat_cmp (rank a.phase) (rank b.phase)) _ e in
    let offsets = then_second (slice_cmp nat_cmp a.place.path b.place.path) _ paths in
    record {
      phase = one_phase a.phase b.phase (nat_cmp-IsAntisymmetric (rank a.phase) (rank b.phase) (then_first (nat_cmp (rank a.phase) (rank b.phase)) _ e));
      number = nat_cmp-IsAntisymmetric a.number b.number (then_second (nat_cmp a.place.offset b.place.offset) _ offsets);
      path = slice_cmp-IsAntisymmetric nat_cmp-IsAntisymmetric a.place.path b.place.path (then_first (slice_cmp nat_cmp a.place.path b.place.path) _ paths);
      offset = nat_cmp-IsAntisymmetric a.place.offset b.place.offset (then_first (nat_cmp a.place.offset b.place.offset) _ offsets);
    }

pub one_first : {A : Type 0} (notes : List (Note A)) (a b : Fault) → IsFirst notes a → IsFirst notes b → AreSame a b
one_first notes a b h k =
    let ab = before_by a b (faults_in notes) h.among k.first in
    let ba : ordering_reverse (fault_cmp a b) ≢ Less = subst (λ o. o ≢ Less) (fault_total.antisymm b a) (before_by b a (faults_in notes) k.among h.first) in
    same_by a b (level_by (fault_cmp a b) ab ba)
