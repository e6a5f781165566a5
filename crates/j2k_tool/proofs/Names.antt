-- The paths of Kotlin files, and the names of classes.
use Rattle.std.proofs.Common.{◌≡◌, inl, inr, ◌<◌, ◌≤◌, ◌-◌, ◌+◌, ℕ, Bool, true, false, cond, List, [], ◌∷◌, ◌++◌, length, map, filter, take, refl, sym, ◌∙◌, ap, subst, arith}
use Rattle.std.specs.Prelude.{not}
use Rattle.std.specs.List.{All, slice_split, position_or_len, before_first, after_first}
use Rattle.std.proofs.lemmas.Bool.{cases_lt}
use Rattle.std.proofs.lemmas.List.Elements.{All-from_get_or}
use Rattle.std.proofs.lemmas.List.Splits.{slice_split_first, slice_split_none}
use Rattle.std.proofs.lemmas.List.Sums.{fails_before_first, prefix_len-le-length}
use Rattle.std.proofs.lemmas.List.{append_cancel_right, length-drop}
use Rattle.std.proofs.lemmas.Slice.Eq.{ends_is}
use Rattle.std.proofs.lemmas.Bool.Decides.{Decides-eqb}
use Rattle.j2k_base.specs.Lists.{Lists}
use Rattle.j2k_base.specs.declared.series.SourceFile.{SourceFile}
use Rattle.j2k_io.specs.Disks.{Files, listing}
use Rattle.j2k_sources.specs.Sources.{is_java, java_paths, source_at, Differ, java_end}
use Rattle.j2k_sources.proofs.LawsToCite.{sources_differ}
use Rattle.j2k_tool.specs.Texts.{kotlin_end}
use Rattle.j2k_tool.specs.Asks.{KotlinDiffer}
use Rattle.j2k_tool.specs.Paths.{base_of, kotlin_path, last_or, last_part}
use Rattle.j2k_tool.specs.Projects.{paths_of}
use Rattle.j2k_tool.specs.Words.{is_slash}

-- a path of a Java file is its base and `.java`
pub base_is : (path : List ℕ) → is_java path ≡ true → path ≡ base_of path ++ java_end
base_is path java =
    (ends_is Decides-eqb path java_end (is_java path) refl).0 java
    ∙ ap (λ (b : List ℕ). b ++ java_end) (sym (ap (λ b. cond b (take (length path - length java_end) path) path) java))

same_kotlin : (a b : List ℕ) → is_java a ≡ true → is_java b ≡ true → kotlin_path a ≡ kotlin_path b → a ≡ b
same_kotlin a b p q e =
    base_is a p ∙ ap (λ (x : List ℕ). x ++ java_end) (append_cancel_right (base_of a) (base_of b) kotlin_end e) ∙ sym (base_is b q)

abbrev AreJava : List (List ℕ) → Type 0
AreJava [] = Unit {0}
AreJava (path ∷ paths) = (is_java path ≡ true) × AreJava paths

are_java : (paths : List (List ℕ)) → AreJava (filter is_java paths)
are_java [] = tt
are_java (path ∷ paths) = by_test (is_java path) refl (are_java paths)
  where
    by_test : (b : Bool) → is_java path ≡ b → AreJava (filter is_java paths) → AreJava (cond b (path ∷ filter is_java paths) (filter is_java paths))
    by_test true is rest = (is, rest)
    by_test false is rest = rest

listed_java : (path : List ℕ) (paths : List (List ℕ)) → is_java path ≡ true → AreJava paths → Lists (map kotlin_path paths) (kotlin_path path) → Lists paths path
listed_java path [] java are lists = lists
listed_java path (first ∷ paths) java are (inl same) = inl (same_kotlin first path are.0 java same)
listed_java path (first ∷ paths) java are (inr there) = inr (listed_java path paths java are.1 there)

all_differ : (paths : List (List ℕ)) → AreJava paths → Differ paths → Differ (map kotlin_path paths)
all_differ [] are differ = tt
all_differ (path ∷ paths) are differ = (λ lists. differ.0 (listed_java path paths are.0 are.1 lists), all_differ paths are.1 differ.1)

source_paths : (src : List ℕ) (files : Files) (paths : List (List ℕ)) → paths_of (map (source_at src files) paths) ≡ paths
source_paths src files [] = refl
source_paths src files (path ∷ paths) = ap (λ (ps : List (List ℕ)). path ∷ ps) (source_paths src files paths)

-- the Kotlin files of a project's Java files stand in different places
pub kotlin_differ : (src : List ℕ) (files : Files) (sources : List SourceFile) → sources ≡ map (source_at src files) (java_paths src files) → KotlinDiffer sources
kotlin_differ src files sources is =
    let same : paths_of sources ≡ java_paths src files = ap paths_of is ∙ source_paths src files (java_paths src files) in
    all_differ (paths_of sources) (subst AreJava (sym same) (are_java (listing src files))) (sources_differ src files sources is)

-- ---- the last part of a path

none_pass : (p : ℕ → Bool) (xs : List ℕ) → position_or_len p xs ≡ length xs → All (λ x. p x ≡ false) xs
none_pass p xs e = All-from_get_or (λ x. p x ≡ false) xs 0 (λ i h. fails_before_first p xs i 0 (omega (arith, h, e)))

one_part : (xs : List ℕ) → position_or_len is_slash xs ≡ length xs → slice_split is_slash xs ≡ xs ∷ []
one_part xs e = slice_split_none is_slash xs (none_pass is_slash xs e)

some_part : (xs : List ℕ) → (part : List ℕ) × (parts : List (List ℕ)) × (slice_split is_slash xs ≡ part ∷ parts)
some_part xs = elim (cases_lt (position_or_len is_slash xs) (length xs)) [
  | inl less ↦ (before_first is_slash xs, slice_split is_slash (after_first is_slash xs), slice_split_first is_slash xs 0 less)
  | inr ge ↦ (xs, [], one_part xs (let le : position_or_len is_slash xs ≤ length xs = prefix_len-le-length (λ x. not (is_slash x)) xs in omega (arith, ge, le)))
]

-- a path without a slash is its last part
pub last_whole : (path : List ℕ) → position_or_len is_slash path ≡ length path → path ≡ last_part path
last_whole path e = sym (ap (last_or path) (one_part path e))

-- and else that is the last part of what stands behind the first slash
pub last_later : (path more : List ℕ) → position_or_len is_slash path < length path → more ≡ after_first is_slash path → last_part more ≡ last_part path
last_later path more h is =
    let first = slice_split_first is_slash path 0 h in
    let later = some_part (after_first is_slash path) in
    ap last_part is
    ∙ ap (last_or (after_first is_slash path)) later.2
    ∙ sym (ap (last_or path) first ∙ ap (last_or (before_first is_slash path)) later.2)

pub shorter : (path more : List ℕ) → position_or_len is_slash path < length path → more ≡ after_first is_slash path → length more < length path
shorter path more h is =
    let long = length-drop (position_or_len is_slash path + 1) path in
    omega (arith, h, ap length is, long)
