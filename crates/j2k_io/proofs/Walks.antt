-- Walks over the entries of a map of files.
use Rattle.std.proofs.Common.{◌≡◌, ◌≢◌, ℕ, zero, suc, ◌+◌, ◌<◌, ◌==◌, if◌then◌else◌, true, false, append-nil, List, [], ◌∷◌, ◌++◌, length, get_or, take, map, Option, Some, None, Bor, refl, sym, ◌∙◌, ap, arith, add-one}
use Rattle.std.specs.Prelude.{option_and_then, MatchOption}
use Rattle.std.specs.Option.{option_copied, option_to_list}
use Rattle.std.specs.List.{filter_map, cons_option}
use Rattle.std.specs.Str.Pattern.{FindsTextPrefix, StripsPrefix}
use Rattle.j2k_base.specs.Lists.{stripped}
use Rattle.j2k_base.proofs.LawsToCite.{stripped_is, stripped_of}
use Rattle.j2k_io.specs.Disks.{unless_empty, below}

-- where a front is absent, nothing is stripped
pub stripped_absent : (front list : List ℕ) → ((rest : List ℕ) → list ≢ front ++ rest) → None ≡ stripped front list
stripped_absent front list absent = by_cases (stripped front list) refl
  where
    by_cases : (found : Option (List ℕ)) → stripped front list ≡ found → None ≡ found
    by_cases None is = refl
    by_cases (Some rest) is = absurd (absent rest (stripped_is front list rest is))

-- what `strip_prefix` answers at a text
pub strip_text : (front list : List ℕ) (r : Option (Bor (List ℕ))) → MatchOption r (FindsTextPrefix front list None) (λ x. StripsPrefix (FindsTextPrefix front) list x.now) → option_copied r ≡ stripped front list
strip_text front list None h = stripped_absent front list h
strip_text front list (Some x) h =
    let whole : list ≡ front ++ x.now = h.1.1 ∙ ap (λ (t : List ℕ). front ++ t) (sym h.2) in
    sym (ap (stripped front) whole ∙ stripped_of front x.now)

-- what it answers at a byte
pub strip_byte : (byte : ℕ) (list : List ℕ) (r : Option (Bor (List ℕ))) → MatchOption r ((rest : List ℕ) → list ≢ byte ∷ rest) (λ x. list ≡ byte ∷ x.now) → option_copied r ≡ stripped (byte ∷ []) list
strip_byte byte list None h = stripped_absent (byte ∷ []) list h
strip_byte byte list (Some x) h = sym (ap (stripped (byte ∷ [])) h ∙ stripped_of (byte ∷ []) x.now)

-- to strip a front in two parts
pub stripped_twice : (front next list : List ℕ) → stripped (front ++ next) list ≡ option_and_then (stripped next) (stripped front list)
stripped_twice [] next list = refl
stripped_twice (b ∷ front) next [] = refl
stripped_twice (b ∷ front) next (x ∷ list) =
    elim (b == x) as (λ t. (if t then stripped (front ++ next) list else None) ≡ option_and_then (stripped next) (if t then stripped front list else None)) [
      | true ↦ stripped_twice front next list
      | false ↦ refl
    ]

-- one entry more of a listing
pub listed_more : (folder : List ℕ) (es : List (List ℕ × List ℕ)) (i : ℕ) (d : List ℕ × List ℕ) → i < length es → filter_map (below folder) (map (λ e. e.0) (take (i + 1) es)) ≡ filter_map (below folder) (map (λ e. e.0) (take i es)) ++ option_to_list (below folder (get_or es i d).0)
listed_more folder es i d lt = rw add-one (by_place es i lt)
  where
    front : (found : Option (List ℕ)) (paths : List (List ℕ)) → cons_option found paths ≡ option_to_list found ++ paths
    front None paths = refl
    front (Some path) paths = refl

    step : (found last : Option (List ℕ)) (paths more : List (List ℕ)) → more ≡ paths ++ option_to_list last → cons_option found more ≡ cons_option found paths ++ option_to_list last
    step None last paths more e = e
    step (Some path) last paths more e = ap (λ (l : List (List ℕ)). path ∷ l) e

    by_place : (es : List (List ℕ × List ℕ)) (i : ℕ) → i < length es → filter_map (below folder) (map (λ e. e.0) (take (suc i) es)) ≡ filter_map (below folder) (map (λ e. e.0) (take i es)) ++ option_to_list (below folder (get_or es i d).0)
    by_place [] i lt = absurd (omega arith)
    by_place (e ∷ es) zero lt = front (below folder e.0) [] ∙ append-nil _
    by_place (e ∷ es) (suc i) lt = step (below folder e.0) (below folder (get_or es i d).0) _ _ (by_place es i (omega arith))

pub listed_step : (folder : List ℕ) (es : List (List ℕ × List ℕ)) (i : ℕ) (entry : List ℕ × List ℕ) (paths new : List (List ℕ)) → i < length es → entry ≡ get_or es i entry → paths ≡ filter_map (below folder) (map (λ e. e.0) (take i es)) → new ≡ paths ++ option_to_list (below folder entry.0) → new ≡ filter_map (below folder) (map (λ e. e.0) (take (i + 1) es))
listed_step folder es i entry paths new lt item before more =
    more
    ∙ ap (λ (l : List (List ℕ)). l ++ option_to_list (below folder entry.0)) before
    ∙ ap (λ (e : List ℕ × List ℕ). filter_map (below folder) (map (λ e. e.0) (take i es)) ++ option_to_list (below folder e.0)) item
    ∙ sym (listed_more folder es i entry lt)

-- what lies below a folder, by its parts
pub below_parts : (folder path : List ℕ) (found : Option (List ℕ)) → found ≡ stripped folder path → option_and_then (λ after. option_and_then unless_empty (stripped (47 ∷ []) after)) found ≡ below folder path
below_parts folder path found e =
    ap (option_and_then (λ after. option_and_then unless_empty (stripped (47 ∷ []) after))) e ∙ joined (stripped folder path) ∙ ap (option_and_then unless_empty) (sym (stripped_twice folder (47 ∷ []) path))
  where
    joined : (found : Option (List ℕ)) → option_and_then (λ after. option_and_then unless_empty (stripped (47 ∷ []) after)) found ≡ option_and_then unless_empty (option_and_then (stripped (47 ∷ [])) found)
    joined None = refl
    joined (Some after) = refl
