-- The first class of a name, by its number.
use Rattle.std.proofs.Common.{◌≡◌, ℕ, ◌+◌, Bool, true, false, ◌&&◌, List, [], ◌∷◌, ◌++◌, length, cond, Option, Some, None, refl, sym, subst, ◌∙◌, arith, append_assoc}
use Rattle.std.specs.Prelude.{slice_get}
use Rattle.java_classes.specs.declared.rows.ClassRow.{ClassRow}
use Rattle.java_classes.specs.Tables.{first, first_from, is_in_file, is_in_package}
use Rattle.java_type_names.specs.declared.classes.Meant.{Meant}
use Rattle.java_type_names.specs.declared.classes.Meant.TheVariants as m
use Rattle.java_type_names.specs.Classes.{project_class, project_from, seen, seen_first, seen_row}
use Rattle.java_type_names.specs.Imports.{of_project, own_class, own_from}

-- the class behind some others
get_behind : (before : List ClassRow) (x : ClassRow) (after : List ClassRow) → slice_get (before ++ x ∷ after) (length before) ≡ Some x
get_behind [] x after = refl
get_behind (y ∷ ys) x after = get_behind ys x after

length_more : (xs : List ClassRow) (x : ClassRow) → length (xs ++ x ∷ []) ≡ length xs + 1
length_more [] x = refl
length_more (y ∷ ys) x = let e : length (ys ++ x ∷ []) ≡ length ys + 1 = length_more ys x in omega arith

module _ (from home name : List ℕ) where
  seen_step : (before : List ClassRow) (x : ClassRow) (after : List ClassRow) (b : Bool) → is_in_package home name x ≡ b →
      seen_first (before ++ x ∷ after) from (first_from (is_in_package home name) (length before + 1) after) ≡ project_from from home name (length before + 1) after →
      seen_first (before ++ x ∷ after) from (first_from (is_in_package home name) (length before) (x ∷ after)) ≡ project_from from home name (length before) (x ∷ after)
  seen_step before x after true e more = rw (e, get_behind before x after) refl
  seen_step before x after false e more = rw e more

  seen_from : (before after : List ClassRow) →
      seen_first (before ++ after) from (first_from (is_in_package home name) (length before) after) ≡ project_from from home name (length before) after
  seen_from before [] = refl
  seen_from before (x ∷ after) =
      let long : length (before ++ x ∷ []) ≡ length before + 1 = length_more before x in
      let same : (before ++ x ∷ []) ++ after ≡ before ++ x ∷ after = append_assoc before (x ∷ []) after in
      let more : seen_first ((before ++ x ∷ []) ++ after) from (first_from (is_in_package home name) (length (before ++ x ∷ [])) after) ≡ project_from from home name (length (before ++ x ∷ [])) after =
      seen_from (before ++ x ∷ []) after in
      seen_step before x after (is_in_package home name x) refl
      (subst (λ l. seen_first l from (first_from (is_in_package home name) (length before + 1) after) ≡ project_from from home name (length before + 1) after) same
      (subst (λ k. seen_first ((before ++ x ∷ []) ++ after) from (first_from (is_in_package home name) k after) ≡ project_from from home name k after) long more))

  pub project_is : (rows : List ClassRow) → seen_first rows from (first (is_in_package home name) rows) ≡ project_class rows from home name
  project_is rows = seen_from [] rows

module _ (unit : ℕ) (name : List ℕ) where
  own_step : (number : ℕ) (x : ClassRow) (xs : List ClassRow) (b : Bool) → is_in_file unit name x ≡ b →
      of_project (first_from (is_in_file unit name) (number + 1) xs) ≡ own_from unit name (number + 1) xs →
      of_project (first_from (is_in_file unit name) number (x ∷ xs)) ≡ own_from unit name number (x ∷ xs)
  own_step number x xs true e more = rw e refl
  own_step number x xs false e more = rw e more

  own_is_from : (number : ℕ) (xs : List ClassRow) → of_project (first_from (is_in_file unit name) number xs) ≡ own_from unit name number xs
  own_is_from number [] = refl
  own_is_from number (x ∷ xs) = own_step number x xs (is_in_file unit name x) refl (own_is_from (number + 1) xs)

  pub own_is : (rows : List ClassRow) → of_project (first (is_in_file unit name) rows) ≡ own_class rows unit name
  own_is rows = own_is_from 0 rows
