-- The paths of a listing differ.
use Rattle.std.proofs.Common.{◌≡◌, inl, inr, ℕ, Bool, true, false, cond, T, List, [], ◌∷◌, map, filter, Option, Some, None, refl, sym, ◌∙◌, ap, subst}
use Rattle.std.specs.Prelude.{◌&&◌}
use Rattle.std.specs.List.{filter_map, cons_option}
use Rattle.std.specs.Ordering.{nat_cmp, is_lt}
use Rattle.std.specs.Cmp.Lexicographic.{slice_cmp}
use Rattle.std.specs.FinMap as finite
use Rattle.std.specs.FinMap.{entries_sorted}
use Rattle.std.specs.FinMap.Entries.{is_sorted, below_all}
use Rattle.std.specs.declared.cmp.Ordering.{Ordering}
use Rattle.std.proofs.lemmas.Cmp.{nat_list_cmp_total, tied_itself}
use Rattle.j2k_base.specs.Lists.{Lists}
use Rattle.j2k_io.specs.Disks.{Files, in_folder, below, listing}
use Rattle.j2k_io.proofs.LawsToCite.{below_is}
use Rattle.j2k_sources.specs.Sources.{is_java, java_paths, source_at, Differ}
use Rattle.j2k_base.specs.declared.series.SourceFile.{SourceFile}

abbrev Entries : Type 0
Entries = List (List ℕ × List ℕ)

both : (a b : Bool) → T (a && b) → T a × T b
both true b p = (tt, p)
both false b p = absurd p

-- no path is below itself
not_itself : (path : List ℕ) → T (is_lt (slice_cmp nat_cmp path path)) → ⊥
not_itself path h = subst (λ (o : Ordering). T (is_lt o)) (tied_itself nat_list_cmp_total path) h

above : (path : List ℕ) (es : Entries) → T (below_all (slice_cmp nat_cmp) path es) → Lists (map (λ e. e.0) es) path → ⊥
above path [] h lists = lists
above path (e ∷ es) h (inl same) = not_itself path (subst (λ (p : List ℕ). T (is_lt (slice_cmp nat_cmp path p))) same (both _ _ h).0)
above path (e ∷ es) h (inr there) = above path es (both _ _ h).1 there

keys_differ : (es : Entries) → T (is_sorted (slice_cmp nat_cmp) es) → Differ (map (λ e. e.0) es)
keys_differ [] h = tt
keys_differ (e ∷ es) h = (above e.0 es (both _ _ h).0, keys_differ es (both _ _ h).1)

-- what is listed below a folder is a key
listed_key : (folder rest : List ℕ) (keys : List (List ℕ)) → Lists (filter_map (below folder) keys) rest → Lists keys (in_folder folder rest)
listed_key folder rest [] lists = lists
listed_key folder rest (key ∷ keys) lists = by_cases (listed_key folder rest keys) (below folder key) refl lists
  where
    by_cases : (Lists (filter_map (below folder) keys) rest → Lists keys (in_folder folder rest)) → (found : Option (List ℕ)) → below folder key ≡ found → Lists (cons_option found (filter_map (below folder) keys)) rest → Lists (key ∷ keys) (in_folder folder rest)
    by_cases others None is there = inr (others there)
    by_cases others (Some first) is (inl same) = inl (below_is folder key rest (is ∙ ap Some same))
    by_cases others (Some first) is (inr there) = inr (others there)

listed_differ : (folder : List ℕ) (keys : List (List ℕ)) → Differ keys → Differ (filter_map (below folder) keys)
listed_differ folder [] differ = tt
listed_differ folder (key ∷ keys) differ = by_cases (listed_differ folder keys differ.1) (below folder key) refl
  where
    by_cases : Differ (filter_map (below folder) keys) → (found : Option (List ℕ)) → below folder key ≡ found → Differ (cons_option found (filter_map (below folder) keys))
    by_cases others None is = others
    by_cases others (Some first) is = (λ lists. differ.0 (subst (Lists keys) (sym (below_is folder key first is)) (listed_key folder first keys lists)), others)

pub listing_differ : (folder : List ℕ) (files : Files) → Differ (listing folder files)
listing_differ folder files = listed_differ folder (finite.keys files) (keys_differ (finite.entries files) (entries_sorted files))

filtered : (path : List ℕ) (paths : List (List ℕ)) → Lists (filter is_java paths) path → Lists paths path
filtered path [] lists = lists
filtered path (first ∷ paths) lists = by_test (filtered path paths) (is_java first) lists
  where
    by_test : (Lists (filter is_java paths) path → Lists paths path) → (b : Bool) → Lists (cond b (first ∷ filter is_java paths) (filter is_java paths)) path → Lists (first ∷ paths) path
    by_test others true (inl same) = inl same
    by_test others true (inr there) = inr (others there)
    by_test others false there = inr (others there)

java_differ : (paths : List (List ℕ)) → Differ paths → Differ (filter is_java paths)
java_differ [] differ = tt
java_differ (first ∷ paths) differ = by_test (is_java first) (java_differ paths differ.1)
  where
    by_test : (b : Bool) → Differ (filter is_java paths) → Differ (cond b (first ∷ filter is_java paths) (filter is_java paths))
    by_test true others = (λ lists. differ.0 (filtered first paths lists), others)
    by_test false others = others

source_paths : (src : List ℕ) (files : Files) (paths : List (List ℕ)) → map (λ (source : SourceFile). source.path) (map (source_at src files) paths) ≡ paths
source_paths src files [] = refl
source_paths src files (path ∷ paths) = ap (λ (ps : List (List ℕ)). path ∷ ps) (source_paths src files paths)

-- the paths of a project's Java files differ
pub sources_differ : (src : List ℕ) (files : Files) (sources : List SourceFile) → sources ≡ map (source_at src files) (java_paths src files) → Differ (map (λ source. source.path) sources)
sources_differ src files sources is =
    subst Differ (sym (ap (map (λ (source : SourceFile). source.path)) is ∙ source_paths src files (java_paths src files))) (java_differ (listing src files) (listing_differ src files))
