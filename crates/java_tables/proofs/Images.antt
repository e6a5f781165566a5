-- Names in a map of Strings.
use Rattle.std.proofs.Common.{◌≡◌, ℕ, zero, suc, Bool, true, false, List, [], ◌∷◌, ◌++◌, map, take, Some, None, cond, refl, ap}
use Rattle.indexmap.specs.IndexMap.{insert_entry}
use Rattle.std.specs.Option.{option_or}
use Rattle.std.specs.Map.{lookup}
use Rattle.std.specs.Str.{bytes_eq}
use Rattle.java_tables.specs.Names.{declared}

abbrev pub row_of : {K V : Type 0} → (K → List ℕ) → K × V → List ℕ × V
row_of f e = (f e.0, e.1)

pub lookup_image : {K V : Type 0} (f : K → List ℕ) (name : List ℕ) (es : List (K × V)) → lookup (λ k. bytes_eq name (f k)) es ≡ declared name (map (row_of f) es)
lookup_image f name [] = refl
lookup_image f name (e ∷ es) = ap (cond (bytes_eq name (f e.0)) (Some e.1)) (lookup_image f name es)

pub map_take : {A B : Type 0} (f : A → B) (n : ℕ) (xs : List A) → map f (take n xs) ≡ take n (map f xs)
map_take f zero xs = refl
map_take f (suc n) [] = refl
map_take f (suc n) (x ∷ xs) = ap (λ ys. f x ∷ ys) (map_take f n xs)

insert_step : {K V : Type 0} (f : K → List ℕ) (eq : K → K → Bool) (same : (a b : K) → eq a b ≡ bytes_eq (f a) (f b)) (k : K) (v : V) (e : K × V) (es : List (K × V)) (b : Bool) →
    bytes_eq (f k) (f e.0) ≡ b → cond b (Some e.1) (declared (f k) (map (row_of f) es)) ≡ None →
    (declared (f k) (map (row_of f) es) ≡ None → map (row_of f) (insert_entry eq es k v) ≡ map (row_of f) es ++ (f k, v) ∷ []) →
    map (row_of f) (insert_entry eq (e ∷ es) k v) ≡ map (row_of f) (e ∷ es) ++ (f k, v) ∷ []
insert_step f eq same k v e es true is h go = cc
insert_step f eq same k v e es false is h go = rw (same k e.0, is) (ap (λ ys. row_of f e ∷ ys) (go h))

pub insert_image : {K V : Type 0} (f : K → List ℕ) (eq : K → K → Bool) (same : (a b : K) → eq a b ≡ bytes_eq (f a) (f b)) (k : K) (v : V) (es : List (K × V)) →
    declared (f k) (map (row_of f) es) ≡ None → map (row_of f) (insert_entry eq es k v) ≡ map (row_of f) es ++ (f k, v) ∷ []
insert_image f eq same k v [] h = refl
insert_image f eq same k v (e ∷ es) h = insert_step f eq same k v e es (bytes_eq (f k) (f e.0)) refl h (λ g. insert_image f eq same k v es g)

append_step : {V : Type 0} (name : List ℕ) (x : List ℕ × V) (xs ys : List (List ℕ × V)) (b : Bool) →
    declared name (xs ++ ys) ≡ option_or (declared name xs) (declared name ys) →
    cond b (Some x.1) (declared name (xs ++ ys)) ≡ option_or (cond b (Some x.1) (declared name xs)) (declared name ys)
append_step name x xs ys true h = refl
append_step name x xs ys false h = h

-- a name in two lists of rows, of which the first comes first
pub declared-append : {V : Type 0} (name : List ℕ) (xs ys : List (List ℕ × V)) → declared name (xs ++ ys) ≡ option_or (declared name xs) (declared name ys)
declared-append name [] ys = refl
declared-append name (x ∷ xs) ys = append_step name x xs ys (bytes_eq name x.0) (declared-append name xs ys)

-- rows with one more at their end
abbrev pub added_row : {V : Type 0} → List (List ℕ × V) → List ℕ → V → List (List ℕ × V)
added_row rows name v = rows ++ (name, v) ∷ []
