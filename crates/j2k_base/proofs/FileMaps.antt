-- Lists of entries in the order of their keys, and the maps that they make.
use Rattle.std.proofs.Common.{◌≡◌, ℕ, zero, suc, ◌<◌, ◌≤◌, Bool, true, false, ◌&&◌, cond, T, List, [], ◌∷◌, length, get_or, set, Some, None, Result, Ok, Err, refl, sym, ◌∙◌, ap, subst, arith, add-one}
use Rattle.std.specs.List as lists
use Rattle.std.specs.List.Sorted.{IsSortedBy, IsBinarySearchResult}
use Rattle.std.specs.Result.{MatchResult}
use Rattle.std.specs.Cmp.{IsTotalOrder}
use Rattle.std.specs.Ordering.{is_lt, is_eq, ordering_reverse}
use Rattle.std.specs.declared.cmp.Ordering.{Ordering}
use Rattle.std.specs.declared.cmp.Ordering.TheVariants.{Less, Equal, Greater}
use Rattle.std.specs.FinMap as finite
use Rattle.std.specs.Ordering.{nat_cmp}
use Rattle.std.specs.Cmp.Lexicographic.{slice_cmp}
use Rattle.std.proofs.lemmas.Cmp.{nat_list_cmp_total}
use Rattle.std.specs.FinMap.{empty_of_len, len-entries, get-entries, entries-from_sorted, entries-insert, entries_sorted, same_entries_map}
use Rattle.std.specs.FinMap.Entries.{by_order, below_all}
use Rattle.std.proofs.lemmas.List.Sorted.{searchable_from_sorted}
use Rattle.j2k_base.specs.FileMaps.{Files, IsThere, IsFree}

both_parts : (a b : Bool) → T (a && b) → T a × T b
both_parts true b h = (tt, h)
both_parts false b h = absurd h

less : (r : Ordering) → T (is_lt r) → r ≡ Less
less Less h = refl
less Equal h = absurd h
less Greater h = absurd h

module _ {K : Type 0} (R : K → K → Ordering) (o : IsTotalOrder R) where
  turned : (x y : K) (r : Ordering) → R x y ≡ r → R y x ≡ ordering_reverse r
  turned x y r h = o.antisymm y x ∙ ap ordering_reverse h

module _ {K X : Type 0} (R : K → K → Ordering) (o : IsTotalOrder R) where
  -- a key below each of some entries is below the one at a place
  below_at : (x : K) (es : List (K × X)) (at : ℕ) (d : K × X) → T (below_all R x es) → at < length es → R x (get_or es at d).0 ≡ Less
  below_at x [] at d h lt = absurd (omega arith)
  below_at x (e ∷ es) zero d h lt = less (R x e.0) (both_parts _ _ h).0
  below_at x (e ∷ es) (suc at) d h lt = below_at x es at d (both_parts _ _ h).1 (omega arith)

  -- what is below the first entry isn't found among the later ones
  not_found : (x y : K) (es : List (K × X)) → R x y ≡ Less → T (below_all R y es) → finite.find R x es ≡ None
  not_found x y [] p h = refl
  not_found x y (e ∷ es) p h =
      let parts = both_parts _ _ h in
      ap (λ r. cond (is_eq r) (Some e.1) (finite.find R x es)) (o.trans x y e.0 p (less _ parts.0)) ∙ not_found x y es p parts.1

  pub find_there : (x : K) (es : List (K × X)) (at : ℕ) (d : K × X) → IsThere R x es at → finite.find R x es ≡ Some (get_or es at d).1
  find_there x [] at d h = absurd h
  find_there x (e ∷ es) zero d h = ap (λ r. cond (is_eq r) (Some e.1) (finite.find R x es)) h
  find_there x (e ∷ es) (suc at) d h = ap (λ r. cond (is_eq r) (Some e.1) (finite.find R x es)) h.0 ∙ find_there x es at d h.1

  pub find_free : (x : K) (es : List (K × X)) (at : ℕ) → T (finite.is_sorted R es) → IsFree R x es at → finite.find R x es ≡ None
  find_free x [] at s h = refl
  find_free x (e ∷ es) zero s h = ap (λ r. cond (is_eq r) (Some e.1) (finite.find R x es)) h ∙ not_found x e.0 es h (both_parts _ _ s).0
  find_free x (e ∷ es) (suc at) s h = ap (λ r. cond (is_eq r) (Some e.1) (finite.find R x es)) h.0 ∙ find_free x es at (both_parts _ _ s).1 h.1

  put_there : (x : K) (v : X) (es : List (K × X)) (at : ℕ) (d : K × X) → IsThere R x es at → finite.put R x v es ≡ set es at ((get_or es at d).0, v)
  put_there x v [] at d h = absurd h
  put_there x v (e ∷ es) zero d h = ap (λ r. by_order r ((x, v) ∷ e ∷ es) ((e.0, v) ∷ es) (e ∷ finite.put R x v es)) h
  put_there x v (e ∷ es) (suc at) d h =
      ap (λ r. by_order r ((x, v) ∷ e ∷ es) ((e.0, v) ∷ es) (e ∷ finite.put R x v es)) h.0 ∙ ap (λ (r : List (K × X)). e ∷ r) (put_there x v es at d h.1)

  put_free : (x : K) (v : X) (es : List (K × X)) (at : ℕ) → IsFree R x es at → finite.put R x v es ≡ lists.insert es at (x, v)
  put_free x v [] zero h = refl
  put_free x v [] (suc at) h = absurd h
  put_free x v (e ∷ es) zero h = ap (λ r. by_order r ((x, v) ∷ e ∷ es) ((e.0, v) ∷ es) (e ∷ finite.put R x v es)) h
  put_free x v (e ∷ es) (suc at) h =
      ap (λ r. by_order r ((x, v) ∷ e ∷ es) ((e.0, v) ∷ es) (e ∷ finite.put R x v es)) h.0 ∙ ap (λ (r : List (K × X)). e ∷ r) (put_free x v es at h.1)

  there_at : (x : K) (es : List (K × X)) (at : ℕ) → T (finite.is_sorted R es) → at < length es → ((d : K × X) → R (get_or es at d).0 x ≡ Equal) → IsThere R x es at
  there_at x [] at s lt h = absurd (omega arith)
  there_at x (e ∷ es) zero s lt h = turned R o e.0 x Equal (h e)
  there_at x (e ∷ es) (suc at) s lt h =
      let within : at < length es = omega arith in
      let parts = both_parts _ _ s in
      let there : K = (get_or es at e).0 in
      (sym (o.congr there x e.0 (h e)) ∙ turned R o e.0 there Less (below_at e.0 es at e parts.0 within), there_at x es at parts.1 within h)

  free_at : (x : K) (es : List (K × X)) (at : ℕ) → at ≤ length es → ((k : ℕ) (d : K × X) → 0 ≤ k → k < at → R (get_or es k d).0 x ≡ Less) → ((k : ℕ) (d : K × X) → at ≤ k → k < length es → R (get_or es k d).0 x ≡ Greater) → IsFree R x es at
  free_at x [] zero le before after = tt
  free_at x [] (suc at) le before after = absurd (omega arith)
  free_at x (e ∷ es) zero le before after = turned R o e.0 x Greater (after 0 e (omega arith) (omega arith))
  free_at x (e ∷ es) (suc at) le before after =
      (turned R o e.0 x Less (before 0 e (omega arith) (omega arith)), free_at x es at (omega arith) (λ k d a b. before (suc k) d (omega arith) (omega arith)) (λ k d a b. after (suc k) d (omega arith) (omega arith)))

  rising : (es : List (K × X)) → T (finite.is_sorted R es) → (k : ℕ) (d : K × X) → suc k < length es → R (get_or es k d).0 (get_or es (suc k) d).0 ≡ Less
  rising [] s k d lt = absurd (omega arith)
  rising (e ∷ es) s zero d lt = below_at e.0 es 0 d (both_parts _ _ s).0 (omega arith)
  rising (e ∷ es) s (suc k) d lt = rising es (both_parts _ _ s).1 k d (omega arith)

  sorted_by : (es : List (K × X)) → T (finite.is_sorted R es) → IsSortedBy (λ a b. is_lt (R a.0 b.0)) es
  sorted_by es s k d low high = rw add-one (ap is_lt (turned R o (get_or es k d).0 (get_or es (suc k) d).0 Less (rising es s k d (omega arith))))

  -- what a binary search by the keys answers
  pub searched_keys : (x : K) (es : List (K × X)) (r : Result ℕ ℕ) → T (finite.is_sorted R es) → MatchResult r (λ at. at < length es) (λ at. at ≤ length es) → IsBinarySearchResult (λ e. R e.0 x) es r → MatchResult r (IsThere R x es) (IsFree R x es)
  searched_keys x es (Ok at) s bound h = there_at x es at s bound h
  searched_keys x es (Err at) s bound h =
      let halves = h (searchable_from_sorted o (λ (e : K × X). e.0) es x (sorted_by es s)) in
      free_at x es at bound halves.0 halves.1

  -- entries in order with one more, or with another value, are the map with it
  put_is : (es new : List (K × X)) (x : K) (v : X) → T (finite.is_sorted R es) → new ≡ finite.put R x v es → T (finite.is_sorted R new) × (finite.from_sorted {R = R} new ≡ finite.insert (finite.from_sorted {R = R} es) x v)
  put_is es new x v s h =
      let entries_are : finite.entries (finite.insert (finite.from_sorted {R = R} es) x v) ≡ new =
      entries-insert o (finite.from_sorted {R = R} es) x v ∙ ap (finite.put R x v) (entries-from_sorted R es s) ∙ sym h in
      let sorted : T (finite.is_sorted R new) = subst (λ (l : List (K × X)). T (finite.is_sorted R l)) entries_are (entries_sorted (finite.insert (finite.from_sorted {R = R} es) x v)) in
      (sorted, same_entries_map _ _ (entries-from_sorted R new sorted ∙ sym entries_are))

  pub set_is : (es : List (K × X)) (at : ℕ) (d : K × X) (x : K) (v : X) → T (finite.is_sorted R es) → IsThere R x es at → T (finite.is_sorted R (set es at ((get_or es at d).0, v))) × (finite.from_sorted {R = R} (set es at ((get_or es at d).0, v)) ≡ finite.insert (finite.from_sorted {R = R} es) x v)
  set_is es at d x v s h = put_is es _ x v s (sym (put_there x v es at d h))

  pub insert_is : (es : List (K × X)) (at : ℕ) (x : K) (v : X) → T (finite.is_sorted R es) → IsFree R x es at → T (finite.is_sorted R (lists.insert es at (x, v))) × (finite.from_sorted {R = R} (lists.insert es at (x, v)) ≡ finite.insert (finite.from_sorted {R = R} es) x v)
  insert_is es at x v s h = put_is es _ x v s (sym (put_free x v es at h))

abbrev Entries : Type 0
Entries = List (List ℕ × List ℕ)

pub from_sorted_none : (es : Entries) → es ≡ [] → finite.from_sorted {R = slice_cmp nat_cmp} es ≡ finite.empty
from_sorted_none es e = ap (finite.from_sorted {R = slice_cmp nat_cmp}) e ∙ empty_of_len (finite.from_sorted {R = slice_cmp nat_cmp} []) (len-entries _ ∙ ap length (entries-from_sorted (slice_cmp nat_cmp) [] tt))

pub entries_are : (es : Entries) (files : Files) → T (finite.is_sorted (slice_cmp nat_cmp) es) → finite.from_sorted es ≡ files → es ≡ finite.entries files
entries_are es files s e = sym (entries-from_sorted (slice_cmp nat_cmp) es s) ∙ ap finite.entries e

pub len_is : (es : Entries) (files : Files) → T (finite.is_sorted (slice_cmp nat_cmp) es) → finite.from_sorted es ≡ files → length es ≡ finite.len files
len_is es files s e = ap length (entries_are es files s e) ∙ sym (len-entries files)

get_is : (es : Entries) (files : Files) (path : List ℕ) → T (finite.is_sorted (slice_cmp nat_cmp) es) → finite.from_sorted es ≡ files → finite.get files path ≡ finite.find (slice_cmp nat_cmp) path es
get_is es files path s e = get-entries files path ∙ ap (finite.find (slice_cmp nat_cmp) path) (sym (entries_are es files s e))

pub get_there : (es found : Entries) (files : Files) (path sought : List ℕ) (at : ℕ) (entry : List ℕ × List ℕ) → T (finite.is_sorted (slice_cmp nat_cmp) es) → finite.from_sorted es ≡ files → found ≡ es → sought ≡ path → IsThere (slice_cmp nat_cmp) sought found at → entry ≡ get_or es at entry → Some entry.1 ≡ finite.get files path
get_there es found files path sought at entry s e same_entries same_path there item =
    let here : IsThere (slice_cmp nat_cmp) path es at = subst (λ (l : Entries). IsThere (slice_cmp nat_cmp) path l at) same_entries (subst (λ (p : List ℕ). IsThere (slice_cmp nat_cmp) p found at) same_path there) in
    ap (λ (x : List ℕ × List ℕ). Some x.1) item ∙ sym (get_is es files path s e ∙ find_there (slice_cmp nat_cmp) nat_list_cmp_total path es at entry here)

pub get_free : (es found : Entries) (files : Files) (path sought : List ℕ) (at : ℕ) → T (finite.is_sorted (slice_cmp nat_cmp) es) → finite.from_sorted es ≡ files → found ≡ es → sought ≡ path → IsFree (slice_cmp nat_cmp) sought found at → None ≡ finite.get files path
get_free es found files path sought at s e same_entries same_path free =
    let here : IsFree (slice_cmp nat_cmp) path es at = subst (λ (l : Entries). IsFree (slice_cmp nat_cmp) path l at) same_entries (subst (λ (p : List ℕ). IsFree (slice_cmp nat_cmp) p found at) same_path free) in
    sym (get_is es files path s e ∙ find_free (slice_cmp nat_cmp) nat_list_cmp_total path es at s here)

pub replaced : (es found : Entries) (files : Files) (path sought bytes : List ℕ) (at : ℕ) (entry : List ℕ × List ℕ) → T (finite.is_sorted (slice_cmp nat_cmp) es) → finite.from_sorted es ≡ files → found ≡ es → sought ≡ path → IsThere (slice_cmp nat_cmp) sought found at → entry ≡ get_or es at entry → T (finite.is_sorted (slice_cmp nat_cmp) (set es at (entry.0, bytes))) × (finite.from_sorted (set es at (entry.0, bytes)) ≡ finite.insert files path bytes)
replaced es found files path sought bytes at entry s e same_entries same_path there item =
    let here : IsThere (slice_cmp nat_cmp) path es at = subst (λ (l : Entries). IsThere (slice_cmp nat_cmp) path l at) same_entries (subst (λ (p : List ℕ). IsThere (slice_cmp nat_cmp) p found at) same_path there) in
    let with : set es at (entry.0, bytes) ≡ set es at ((get_or es at entry).0, bytes) = ap (λ (x : List ℕ × List ℕ). set es at (x.0, bytes)) item in
    let both = set_is (slice_cmp nat_cmp) nat_list_cmp_total es at entry path bytes s here in
    (subst (λ (l : Entries). T (finite.is_sorted (slice_cmp nat_cmp) l)) (sym with) both.0, ap finite.from_sorted with ∙ both.1 ∙ ap (λ (f : Files). finite.insert f path bytes) e)

pub inserted : (es found new : Entries) (files : Files) (path sought bytes : List ℕ) (at : ℕ) → T (finite.is_sorted (slice_cmp nat_cmp) es) → finite.from_sorted es ≡ files → found ≡ es → sought ≡ path → IsFree (slice_cmp nat_cmp) sought found at → new ≡ lists.insert es at (path, bytes) → T (finite.is_sorted (slice_cmp nat_cmp) new) × (finite.from_sorted new ≡ finite.insert files path bytes)
inserted es found new files path sought bytes at s e same_entries same_path free is =
    let here : IsFree (slice_cmp nat_cmp) path es at = subst (λ (l : Entries). IsFree (slice_cmp nat_cmp) path l at) same_entries (subst (λ (p : List ℕ). IsFree (slice_cmp nat_cmp) p found at) same_path free) in
    let both = insert_is (slice_cmp nat_cmp) nat_list_cmp_total es at path bytes s here in
    (subst (λ (l : Entries). T (finite.is_sorted (slice_cmp nat_cmp) l)) (sym is) both.0, ap finite.from_sorted is ∙ both.1 ∙ ap (λ (f : Files). finite.insert f path bytes) e)
