-- Lists by place.
use Rattle.std.proofs.Common.{◌≡◌, ℕ, zero, suc, ◌<◌, List, [], ◌∷◌, ◌++◌, length, replicate, Some, slice_get, slice_set, slice_index_or, refl, ap, arith}

module _ {A : Type 0} where
  pub length_snoc : (xs : List A) (x : A) → length (xs ++ x ∷ []) ≡ suc (length xs)
  length_snoc [] x = refl
  length_snoc (y ∷ xs) x = ap suc (length_snoc xs x)

  pub get_snoc : (xs : List A) (x : A) (k : ℕ) (y : A) → slice_get xs k ≡ Some y → slice_get (xs ++ x ∷ []) k ≡ Some y
  get_snoc [] x k y e = cc
  get_snoc (z ∷ xs) x zero y e = e
  get_snoc (z ∷ xs) x (suc k) y e = get_snoc xs x k y e

  pub get_within : (xs : List A) (k : ℕ) (y : A) → slice_get xs k ≡ Some y → k < length xs
  get_within [] k y e = cc
  get_within (z ∷ xs) zero y e = omega arith
  get_within (z ∷ xs) (suc k) y e = let h : k < length xs = get_within xs k y e in omega arith

  pub get_last : (xs : List A) (x : A) → slice_get (xs ++ x ∷ []) (length xs) ≡ Some x
  get_last [] x = refl
  get_last (y ∷ xs) x = get_last xs x

  pub data SnocAt (xs : List A) (x : A) (k : ℕ) (y : A) : Type 0 where
    before : slice_get xs k ≡ Some y → SnocAt xs x k y
    last : k ≡ length xs → x ≡ y → SnocAt xs x k y

  snoc_next : (z : A) (xs : List A) (x : A) (k : ℕ) (y : A) → SnocAt xs x k y → SnocAt (z ∷ xs) x (suc k) y
  snoc_next z xs x k y (before e) = before e
  snoc_next z xs x k y (last e h) = last (ap suc e) h

  pub snoc_at : (xs : List A) (x : A) (k : ℕ) (y : A) → slice_get (xs ++ x ∷ []) k ≡ Some y → SnocAt xs x k y
  snoc_at [] x zero y e = last refl (cc)
  snoc_at [] x (suc k) y e = cc
  snoc_at (z ∷ xs) x zero y e = before e
  snoc_at (z ∷ xs) x (suc k) y e = snoc_next z xs x k y (snoc_at xs x k y e)

  pub read_snoc : (xs : List A) (x : A) (k : ℕ) (d : A) → k < length xs → slice_index_or (xs ++ x ∷ []) k d ≡ slice_index_or xs k d
  read_snoc [] x k d h = absurd (omega arith)
  read_snoc (y ∷ xs) x zero d h = refl
  read_snoc (y ∷ xs) x (suc k) d h = read_snoc xs x k d (omega arith)

  pub read_last : (xs : List A) (x : A) (d : A) → slice_index_or (xs ++ x ∷ []) (length xs) d ≡ x
  read_last [] x d = refl
  read_last (y ∷ xs) x d = read_last xs x d

  pub length_set : (xs : List A) (k : ℕ) (x : A) → length (slice_set xs k x) ≡ length xs
  length_set [] k x = refl
  length_set (y ∷ xs) zero x = refl
  length_set (y ∷ xs) (suc k) x = ap suc (length_set xs k x)

  pub read_set : (xs : List A) (k : ℕ) (x d : A) → k < length xs → slice_index_or (slice_set xs k x) k d ≡ x
  read_set [] k x d h = absurd (omega arith)
  read_set (y ∷ xs) zero x d h = refl
  read_set (y ∷ xs) (suc k) x d h = read_set xs k x d (omega arith)

  -- another place, or this one
  pub data SetAt (xs : List A) (k : ℕ) (x : A) (j : ℕ) (d : A) : Type 0 where
    here : j ≡ k → slice_index_or (slice_set xs k x) j d ≡ x → SetAt xs k x j d
    other : slice_index_or (slice_set xs k x) j d ≡ slice_index_or xs j d → SetAt xs k x j d

  set_next : (y : A) (xs : List A) (k : ℕ) (x : A) (j : ℕ) (d : A) → SetAt xs k x j d → SetAt (y ∷ xs) (suc k) x (suc j) d
  set_next y xs k x j d (here e h) = here (ap suc e) h
  set_next y xs k x j d (other h) = other h

  pub set_at : (xs : List A) (k : ℕ) (x : A) (j : ℕ) (d : A) → SetAt xs k x j d
  set_at [] k x j d = other refl
  set_at (y ∷ xs) zero x zero d = here refl refl
  set_at (y ∷ xs) zero x (suc j) d = other refl
  set_at (y ∷ xs) (suc k) x zero d = other refl
  set_at (y ∷ xs) (suc k) x (suc j) d = set_next y xs k x j d (set_at xs k x j d)

  pub read_replicate : (n : ℕ) (x : A) (j : ℕ) (d : A) → j < n → slice_index_or (replicate n x) j d ≡ x
  read_replicate zero x j d h = absurd (omega arith)
  read_replicate (suc n) x zero d h = refl
  read_replicate (suc n) x (suc j) d h = read_replicate n x j d (omega arith)

  pub length_replicate : (n : ℕ) (x : A) → length (replicate n x) ≡ n
  length_replicate zero x = refl
  length_replicate (suc n) x = ap suc (length_replicate n x)
