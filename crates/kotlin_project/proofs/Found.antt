-- What is declared is found, and what is found is declared.
use Rattle.std.proofs.Common.{◌≡◌, ◌⊎◌, inl, inr, ℕ, zero, suc, Bool, true, false, List, [], ◌∷◌, ◌++◌, map, Option, Some, None, refl, sym, ap, subst, ◌∙◌, arith}
use Rattle.std.specs.Prelude.{◌&&◌, ◌||◌, ◌+◌, bytes_eq, find, slice_get, if◌then◌else◌}
use Rattle.std.specs.List.{list_any, flat_map}
use Rattle.std.specs.Option.{option_map}
use Rattle.std.proofs.lemmas.Option.{slice_get-map}
use Rattle.std.proofs.lemmas.Slice.Eq.{bytes_eq-Decides}
use Rattle.kotlin_tree.specs.declared.files.KFile.{KFile}
use Rattle.kotlin_types.specs.Supertypes.{class_head}
use Rattle.kotlin_typing.specs.Written.{Path, same_path}
use Rattle.kotlin_typing.proofs.LawsToCite.{find_tells, some_same}
use Rattle.kotlin_project.specs.Declared.{Declared, Numbered, called, declared, full_name, numbered, numbered_from, ref}
use Rattle.kotlin_project.specs.Members.{Function}
use Rattle.kotlin_project.specs.Tables.{Library, classes, functions, functions_in, head_at}
use Rattle.kotlin_project.specs.Twice.{IsIn}

-- ---- lists

pub among_more : {A : Type 0} (x : A) (xs ys : List A) → IsIn x xs → IsIn x (xs ++ ys)
among_more x [] ys h = absurd h
among_more x (y ∷ xs) ys (inl h) = inl h
among_more x (y ∷ xs) ys (inr h) = inr (among_more x xs ys h)

among_behind : {A : Type 0} (x : A) (xs ys : List A) → IsIn x ys → IsIn x (xs ++ ys)
among_behind x [] ys h = h
among_behind x (y ∷ xs) ys h = inr (among_behind x xs ys h)

among_joined : {A B : Type 0} (f : A → List B) (a : A) (b : B) (xs : List A) → IsIn a xs → IsIn b (f a) → IsIn b (flat_map f xs)
among_joined f a b [] h i = absurd h
among_joined f a b (x ∷ xs) (inl h) i = among_more b (f x) (flat_map f xs) (subst (λ z. IsIn b (f z)) h i)
among_joined f a b (x ∷ xs) (inr h) i = among_behind b (f x) (flat_map f xs) (among_joined f a b xs h i)

some_by : {A : Type 0} (p : A → Bool) (x a : A) (xs : List A) (b : Bool) → p x ≡ b → p a ≡ true → (a ≡ x) ⊎ IsIn a xs → (IsIn a xs → (m : A) × (find p xs ≡ Some m)) →
    (m : A) × ((if b then Some x else find p xs) ≡ Some m)
some_by p x a xs true e i h rest = (x, refl)
some_by p x a xs false e i (inl h) rest = cc
some_by p x a xs false e i (inr h) rest = rest h

some_found : {A : Type 0} (p : A → Bool) (xs : List A) (a : A) → IsIn a xs → p a ≡ true → (m : A) × (find p xs ≡ Some m)
some_found p [] a h i = absurd h
some_found p (x ∷ xs) a h i = some_by p x a xs (p x) refl i h (λ j. some_found p xs a j i)

found_by : {A : Type 0} (p : A → Bool) (x m : A) (xs : List A) (b : Bool) → (if b then Some x else find p xs) ≡ Some m → (find p xs ≡ Some m → IsIn m xs) → (m ≡ x) ⊎ IsIn m xs
found_by p x m xs true h rest = inl (sym (some_same x m h))
found_by p x m xs false h rest = inr (rest h)

found_among : {A : Type 0} (p : A → Bool) (xs : List A) (m : A) → find p xs ≡ Some m → IsIn m xs
found_among p [] m h = cc
found_among p (x ∷ xs) m h = found_by p x m xs (p x) h (found_among p xs m)

-- ---- names

bytes_itself : (x : List ℕ) → bytes_eq x x ≡ true
bytes_itself x = (bytes_eq-Decides x x).1 refl

and_holds : (a b : Bool) → a ≡ true → b ≡ true → (a && b) ≡ true
and_holds true b h g = g
and_holds false b h g = cc

pub same_path_itself : (x : Path) → same_path x x ≡ true
same_path_itself [] = refl
same_path_itself (x ∷ xs) = and_holds (bytes_eq x x) (same_path xs xs) (bytes_itself x) (same_path_itself xs)

pub declared_found : (files : List KFile) (n : Numbered) → IsIn n (numbered files) → (m : Numbered) × (called (numbered files) (full_name n.is) ≡ Some m)
declared_found files n h = some_found (λ (m : Numbered). same_path (full_name m.is) (full_name n.is)) (numbered files) n h (same_path_itself (full_name n.is))

pub found_told : (files : List KFile) (path : Path) (m : Numbered) → called (numbered files) path ≡ Some m → IsIn m (numbered files) × (same_path (full_name m.is) path ≡ true)
found_told files path m h = (
  found_among (λ (m : Numbered). same_path (full_name m.is) path) (numbered files) m h,
  find_tells (λ (m : Numbered). same_path (full_name m.is) path) (numbered files) m h,
)

-- ---- by numbers

at_number : (k : ℕ) (ds : List Declared) (n : Numbered) → IsIn n (numbered_from k ds) → (i : ℕ) × (n.number ≡ k + i) × (slice_get (numbered_from k ds) i ≡ Some n)
at_number k [] n h = absurd h
at_number k (d ∷ ds) n (inl h) = (zero, ap (λ (m : Numbered). m.number) h ∙ plus_zero k, ap Some (sym h))
  where
    plus_zero : (k : ℕ) → k ≡ k + zero
    plus_zero k = omega arith
at_number k (d ∷ ds) n (inr h) = behind (at_number (suc k) ds n h)
  where
    further : (i : ℕ) → suc k + i ≡ k + suc i
    further i = omega arith

    behind : ((i : ℕ) × (n.number ≡ suc k + i) × (slice_get (numbered_from (suc k) ds) i ≡ Some n)) →
        (i : ℕ) × (n.number ≡ k + i) × (slice_get (record { number = k; is = d } ∷ numbered_from (suc k) ds) i ≡ Some n)
    behind f = (suc f.0, f.1 ∙ further f.0, f.2)

by_number : (files : List KFile) (n : Numbered) → IsIn n (numbered files) → slice_get (numbered files) n.number ≡ Some n
by_number files n h =
    let f = at_number zero (declared files) n h in
    subst (λ i. slice_get (numbered files) i ≡ Some n) (sym (f.1 ∙ zero_plus f.0)) f.2
  where
    zero_plus : (i : ℕ) → zero + i ≡ i
    zero_plus i = omega arith

pub head_found : (library : Library) (files : List KFile) (n : Numbered) → IsIn n (numbered files) → class_head (classes library files) (ref n) ≡ Some (head_at library files n)
head_found library files n h = slice_get-map (head_at library files) (numbered files) n.number ∙ ap (option_map (head_at library files)) (by_number files n h)

pub function_found : (library : Library) (files : List KFile) (n : Numbered) (f : Function) → IsIn n (numbered files) → IsIn f (functions_in library files n) → IsIn f (functions library files)
function_found library files n f h i = among_more f (flat_map (functions_in library files) (numbered files)) library.functions (among_joined (functions_in library files) n f (numbered files) h i)
