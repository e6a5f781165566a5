-- The classes of the numbers of a name are those of the name.
use Rattle.std.proofs.Common.{◌≡◌, ℕ, ◌+◌, Bool, true, false, List, [], ◌∷◌, ◌++◌, length, Some, refl, sym, subst, ◌&&◌, arith, append_assoc}
use Rattle.std.specs.Prelude.{slice_get, not}
use Rattle.std.specs.List.{list_any}
use Rattle.std.specs.Str.{bytes_eq}
use Rattle.std.proofs.lemmas.Slice.Eq.{bytes_eq-Decides}
use Rattle.java_tables.specs.Names.{numbers_of}
use Rattle.java_classes.specs.declared.rows.ClassRow.{ClassRow}
use Rattle.java_classes.specs.Numbers.{is_nil, numbered, picked}
use Rattle.java_classes.specs.Tables.{first, first_from, has_name}

same_test : (a b : Bool) → (a ≡ true → b ≡ true) → (b ≡ true → a ≡ true) → a ≡ b
same_test true b to back = sym (to refl)
same_test false true to back = back refl
same_test false false to back = refl

same_names : (a b : List ℕ) → bytes_eq a b ≡ bytes_eq b a
same_names a b = same_test (bytes_eq a b) (bytes_eq b a) (λ e. (bytes_eq-Decides b a).1 (sym ((bytes_eq-Decides a b).0 e))) (λ e. (bytes_eq-Decides a b).1 (sym ((bytes_eq-Decides b a).0 e)))

-- the class behind some others
get_behind : (before : List ClassRow) (x : ClassRow) (after : List ClassRow) → slice_get (before ++ x ∷ after) (length before) ≡ Some x
get_behind [] x after = refl
get_behind (y ∷ ys) x after = get_behind ys x after

length_more : (xs : List ClassRow) (x : ClassRow) → length (xs ++ x ∷ []) ≡ length xs + 1
length_more [] x = refl
length_more (y ∷ ys) x = let e : length (ys ++ x ∷ []) ≡ length ys + 1 = length_more ys x in omega arith

module _ (test : ClassRow → Bool) (name : List ℕ) where
  abbrev wanted : ClassRow → Bool
  wanted row = test row && has_name name row

  step : (before : List ClassRow) (x : ClassRow) (after : List ClassRow) (b t : Bool) → bytes_eq name x.name ≡ b → bytes_eq x.name name ≡ b → test x ≡ t →
      picked test (before ++ x ∷ after) (numbers_of name (numbered (length before + 1) after)) ≡ first_from wanted (length before + 1) after →
      picked test (before ++ x ∷ after) (numbers_of name (numbered (length before) (x ∷ after))) ≡ first_from wanted (length before) (x ∷ after)
  step before x after true true e f is more = rw (e, f, get_behind before x after, is) refl
  step before x after true false e f is more = rw (e, f, get_behind before x after, is) more
  step before x after false true e f is more = rw (e, f, is) more
  step before x after false false e f is more = rw (e, f, is) more

  from : (before after : List ClassRow) → picked test (before ++ after) (numbers_of name (numbered (length before) after)) ≡ first_from wanted (length before) after
  from before [] = refl
  from before (x ∷ after) =
      let long : length (before ++ x ∷ []) ≡ length before + 1 = length_more before x in
      let same : (before ++ x ∷ []) ++ after ≡ before ++ x ∷ after = append_assoc before (x ∷ []) after in
      let more : picked test ((before ++ x ∷ []) ++ after) (numbers_of name (numbered (length (before ++ x ∷ [])) after)) ≡ first_from wanted (length (before ++ x ∷ [])) after =
      from (before ++ x ∷ []) after in
      step before x after (bytes_eq name x.name) (test x) refl (same_names x.name name) refl
      (subst (λ l. picked test l (numbers_of name (numbered (length before + 1) after)) ≡ first_from wanted (length before + 1) after) same
      (subst (λ k. picked test ((before ++ x ∷ []) ++ after) (numbers_of name (numbered k after)) ≡ first_from wanted k after) long more))

  -- the first of the numbers of a name whose class passes is the first class of the name that passes
  pub first_of_name : (rows : List ClassRow) → picked test rows (numbers_of name (numbered 0 rows)) ≡ first wanted rows
  first_of_name rows = from [] rows

none_step : (name : List ℕ) (x : ClassRow) (xs : List ClassRow) (k : ℕ) (b : Bool) → bytes_eq name x.name ≡ b → bytes_eq x.name name ≡ b →
    not (is_nil (numbers_of name (numbered (k + 1) xs))) ≡ list_any (has_name name) xs →
    not (is_nil (numbers_of name (numbered k (x ∷ xs)))) ≡ list_any (has_name name) (x ∷ xs)
none_step name x xs k true e f more = rw (e, f) refl
none_step name x xs k false e f more = rw (e, f) more

pub any_of_name : (name : List ℕ) (xs : List ClassRow) (k : ℕ) → not (is_nil (numbers_of name (numbered k xs))) ≡ list_any (has_name name) xs
any_of_name name [] k = refl
any_of_name name (x ∷ xs) k = none_step name x xs k (bytes_eq name x.name) refl (same_names x.name name) (any_of_name name xs (k + 1))
