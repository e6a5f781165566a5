-- The same signature stands before a number, looked up by its name.
use Rattle.std.proofs.Common.{◌≡◌, ◌≤◌, ◌<◌, ◌+◌, ◌-◌, ℕ, zero, suc, Bool, true, false, ◌&&◌, ◌||◌, cond, List, [], ◌∷◌, ◌++◌, length, take, Some, refl, ap, sym, subst, ◌∙◌, arith, append_assoc, append-nil}
use Rattle.std.specs.Prelude.{nat_lt, slice_get}
use Rattle.std.specs.List.{list_any}
use Rattle.std.specs.Str.{bytes_eq}
use Rattle.std.proofs.lemmas.Bool.Decides.{nat_tests}
use Rattle.java_tables.specs.Names.{numbers_of}
use Rattle.java_signatures.specs.declared.signatures.Signature.{Signature}
use Rattle.java_signatures.specs.Numbers.{is_earlier, is_same_by, numbered}
use Rattle.java_signatures.specs.Signatures.{agree, same_pieces, same_signature}

-- the signature behind some others
get_behind : (before : List Signature) (y : Signature) (after : List Signature) → slice_get (before ++ y ∷ after) (length before) ≡ Some y
get_behind [] y after = refl
get_behind (z ∷ zs) y after = get_behind zs y after

length_more : (xs : List Signature) (y : Signature) → length (xs ++ y ∷ []) ≡ length xs + 1
length_more [] y = refl
length_more (z ∷ zs) y = let e : length (zs ++ y ∷ []) ≡ length zs + 1 = length_more zs y in omega arith

and_false : (a : Bool) → (a && false) ≡ false
and_false true = refl
and_false false = refl

not_below : (k n : ℕ) → n ≤ k → nat_lt k n ≡ false
not_below k n h = grind (arith, nat_tests)

is_below : (k n : ℕ) → k < n → nat_lt k n ≡ true
is_below k n h = grind (arith, nat_tests)

module _ (x : Signature) (number : ℕ) where
  behind_step : (xs : List Signature) (y : Signature) (after : List Signature) (k : ℕ) (b : Bool) → number ≤ k → bytes_eq x.name y.name ≡ b →
      list_any (is_earlier xs number x) (numbers_of x.name (numbered (k + 1) after)) ≡ false → list_any (is_earlier xs number x) (numbers_of x.name (numbered k (y ∷ after))) ≡ false
  behind_step xs y after k true h e rest = rw (e, not_below k number h) rest
  behind_step xs y after k false h e rest = rw e rest

  -- nothing stands before the number that stands behind it
  none_behind : (xs after : List Signature) (k : ℕ) → number ≤ k → list_any (is_earlier xs number x) (numbers_of x.name (numbered k after)) ≡ false
  none_behind xs [] k h = refl
  none_behind xs (y ∷ after) k h = behind_step xs y after k (bytes_eq x.name y.name) h refl (none_behind xs after (k + 1) (omega (arith, h)))

  step : (before : List Signature) (y : Signature) (after : List Signature) (left : ℕ) (b : Bool) → bytes_eq x.name y.name ≡ b → length before + suc left ≡ number →
      list_any (is_earlier (before ++ y ∷ after) number x) (numbers_of x.name (numbered (length before + 1) after)) ≡ list_any (same_signature x) (take left after) →
      list_any (is_earlier (before ++ y ∷ after) number x) (numbers_of x.name (numbered (length before) (y ∷ after))) ≡ list_any (same_signature x) (take (suc left) (y ∷ after))
  step before y after left true e n more =
      let below : nat_lt (length before) number ≡ true = is_below (length before) number (omega (arith, n)) in
      rw (e, below, get_behind before y after)
      (ap (λ b. same_signature x y || b) more
      ∙ ap (λ b. (agree x.is_constructor y.is_constructor && (b && same_pieces x.kinds y.kinds)) || list_any (same_signature x) (take left after)) e)
  step before y after left false e n more = rw (e, and_false (agree x.is_constructor y.is_constructor)) more

  from : (before after : List Signature) (left : ℕ) → length before + left ≡ number →
      list_any (is_earlier (before ++ after) number x) (numbers_of x.name (numbered (length before) after)) ≡ list_any (same_signature x) (take left after)
  from before [] zero n = refl
  from before [] (suc left) n = refl
  from before (y ∷ after) zero n = none_behind (before ++ y ∷ after) (y ∷ after) (length before) (omega (arith, n))
  from before (y ∷ after) (suc left) n =
      let long : length (before ++ y ∷ []) ≡ length before + 1 = length_more before y in
      let same : (before ++ y ∷ []) ++ after ≡ before ++ y ∷ after = append_assoc before (y ∷ []) after in
      let more : list_any (is_earlier ((before ++ y ∷ []) ++ after) number x) (numbers_of x.name (numbered (length (before ++ y ∷ [])) after)) ≡ list_any (same_signature x) (take left after) =
      from (before ++ y ∷ []) after left (omega (arith, n, long)) in
      step before y after left (bytes_eq x.name y.name) refl n
      (subst (λ l. list_any (is_earlier l number x) (numbers_of x.name (numbered (length before + 1) after)) ≡ list_any (same_signature x) (take left after)) same
      (subst (λ k. list_any (is_earlier ((before ++ y ∷ []) ++ after) number x) (numbers_of x.name (numbered k after)) ≡ list_any (same_signature x) (take left after)) long more))

-- among the numbers of its name is one before the number of the same signature exactly where one stands before it
pub earlier_of_name : (x : Signature) (number : ℕ) (xs : List Signature) → list_any (is_earlier xs number x) (numbers_of x.name (numbered 0 xs)) ≡ list_any (same_signature x) (take number xs)
earlier_of_name x number xs = from x number [] xs number (omega arith)
