-- A block whose jumps are coded assigns what it assigned, where it doesn't assign the variable.
use Rattle.std.proofs.Common.{◌≡◌, Bool, true, false, not, ◌&&◌, ◌||◌, List, [], ◌∷◌, ◌++◌, refl, sym, ap, ◌∙◌}
use Rattle.flow.specs.Flows.{Part, after, seq}
use Rattle.flow.specs.Forms.{is_in, all_at, coded, dispatch}
use Rattle.flow.proofs.Chains.{made, flow_same, and_true, and_false, append_nil}

one_test : (b i : Bool) → ((((not b || false) && true) && not i)) ≡ not (b || i)
one_test true i = refl
one_test false i = refl

last_test : (b : Bool) → ((not b || false) && true) ≡ not (b || false)
last_test true = refl
last_test false = refl

plain_jump : (b : Bool) → (not b || false) ≡ not (b || false)
plain_jump true = refl
plain_jump false = refl

or_true : (b : Bool) → (not b || true) ≡ true
or_true true = refl
or_true false = refl

passed : (i j : Bool) → (i ≡ true → j ≡ false) → ((i || j) && not i) ≡ j
passed true j h = sym (h refl)
passed false j h = and_true j

either_true : (i j : Bool) → j ≡ true → (i || j) ≡ true
either_true true j h = refl
either_true false j h = h

all_true : {T : Type 0} (ts : List T) (f : T → Bool) → ((m : T) → f m ≡ true) → all_at ts f ≡ true
all_true [] f h = refl
all_true (t ∷ ts) f h = ap (λ b. b && all_at ts f) (h t) ∙ all_true ts f h

module _ (E : Type 0) {T : Type 0} (same : T → T → Bool) where
  abbrev tests : Bool → List T → Part E T
  tests = dispatch same

  tests_at : (ends : Bool) (t : T) (more : List T) (m : T) → (tests ends (t ∷ more) false).at m ≡ not (is_in same m (t ∷ more))
  tests_at true t [] m = last_test (same t m)
  tests_at false t [] m = plain_jump (same t m)
  tests_at true t (s ∷ more) m = ap (λ b. (((not (same t m) || false) && true) && b)) (tests_at true s more m) ∙ one_test (same t m) (is_in same m (s ∷ more))
  tests_at false t (s ∷ more) m = ap (λ b. (((not (same t m) || false) && true) && b)) (tests_at false s more m) ∙ one_test (same t m) (is_in same m (s ∷ more))

  tests_end : (ends : Bool) (t : T) (more : List T) → (tests ends (t ∷ more) false).end ≡ not ends
  tests_end true t [] = refl
  tests_end false t [] = refl
  tests_end true t (s ∷ more) = tests_end true s more
  tests_end false t (s ∷ more) = tests_end false s more

  tests_true : (ends : Bool) (t : T) (more : List T) (m : T) → (tests ends (t ∷ more) true).at m ≡ true
  tests_true true t [] m = ap (λ b. b && true) (or_true (same t m))
  tests_true false t [] m = or_true (same t m)
  tests_true true t (s ∷ more) m = ap (λ b. (b && true) && (tests true (s ∷ more) true).at m) (or_true (same t m)) ∙ tests_true true s more m
  tests_true false t (s ∷ more) m = ap (λ b. (b && true) && (tests false (s ∷ more) true).at m) (or_true (same t m)) ∙ tests_true false s more m

  end_of_tests : (ends : Bool) (t : T) (more : List T) → (tests ends (t ∷ more) true).end ≡ true
  end_of_tests true t [] = refl
  end_of_tests false t [] = refl
  end_of_tests true t (s ∷ more) = end_of_tests true s more
  end_of_tests false t (s ∷ more) = end_of_tests false s more

  tests_fine : (ends : Bool) (t : T) (more : List T) (a : Bool) → (tests ends (t ∷ more) a).faults ≡ []
  tests_fine true t [] a = refl
  tests_fine false t [] a = refl
  tests_fine true t (s ∷ more) a = tests_fine true s more (true && a)
  tests_fine false t (s ∷ more) a = tests_fine false s more (true && a)

module _ {E T : Type 0} (same : T → T → Bool) where
  -- What a text does that doesn't assign the variable, where no jump and no end counts as assigned by constants alone.
  pub record Still (ends : Bool) (t : T) (more : List T) (x : Part E T) : Type 0 where
    pub end_true : (x true).end ≡ true
    pub at_true : (m : T) → (x true).at m ≡ true
    pub first : (x false).at t ≡ false
    pub reached : (m : T) → is_in same m (t ∷ more) ≡ true → (x false).at m ≡ false
    pub end_false : (x false).end ≡ not ends

  module _ (ends : Bool) (t : T) (more : List T) (x : Part E T) (h : Still ends t more x) where
    start_false : (coded same (t ∷ more) x false).end ≡ false
    start_false = ap (λ b. (x false).end && (b && all_at more (x false).at)) h.first ∙ and_false (x false).end

    start_true : (coded same (t ∷ more) x true).end ≡ true
    start_true = ap (λ b. b && all_at (t ∷ more) (x true).at) h.end_true ∙ all_true (t ∷ more) (x true).at h.at_true

    pub coded_same : (a : Bool) → seq (coded same (t ∷ more) x) (dispatch same ends (t ∷ more)) a ≡ made (x a).end (x a).at (x a).faults
    coded_same false =
        ap (λ b. after (coded same (t ∷ more) x false) (dispatch same ends (t ∷ more) b)) start_false ∙
        flow_same (dispatch same ends (t ∷ more) false).end (λ m. (is_in same m (t ∷ more) || (x false).at m) && (dispatch same ends (t ∷ more) false).at m) ((x false).faults ++ (dispatch same ends (t ∷ more) false).faults)
        (x false).at (x false).faults (x false).end
        (tests_end E same ends t more ∙ sym h.end_false)
        (λ m. ap (λ b. (is_in same m (t ∷ more) || (x false).at m) && b) (tests_at E same ends t more m) ∙ passed (is_in same m (t ∷ more)) ((x false).at m) (h.reached m))
        (ap (λ l. (x false).faults ++ l) (tests_fine E same ends t more false) ∙ append_nil (x false).faults)
    coded_same true =
        ap (λ b. after (coded same (t ∷ more) x true) (dispatch same ends (t ∷ more) b)) start_true ∙
        flow_same (dispatch same ends (t ∷ more) true).end (λ m. (is_in same m (t ∷ more) || (x true).at m) && (dispatch same ends (t ∷ more) true).at m) ((x true).faults ++ (dispatch same ends (t ∷ more) true).faults)
        (x true).at (x true).faults (x true).end
        (end_of_tests E same ends t more ∙ sym h.end_true)
        (λ m. ap (λ b. (is_in same m (t ∷ more) || (x true).at m) && b) (tests_true E same ends t more m) ∙ and_true (is_in same m (t ∷ more) || (x true).at m) ∙ either_true (is_in same m (t ∷ more)) ((x true).at m) (h.at_true m) ∙ sym (h.at_true m))
        (ap (λ l. (x true).faults ++ l) (tests_fine E same ends t more true) ∙ append_nil (x true).faults)
