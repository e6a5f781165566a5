-- Files that are written one after another.
use Rattle.std.proofs.Common.{◌≡◌, ◌≢◌, ◌<◌, ◌+◌, inl, inr, ℕ, cond, List, [], ◌∷◌, ◌++◌, length, get_or, take, drop, map, Option, Some, None, Result, Ok, Err, IfSome, refl, sym, ◌∙◌, ap, subst, arith, length-append}
use Rattle.std.specs.Prelude.{IsFalse, is_some, OnErr}
use Rattle.std.specs.List.{flat_map}
use Rattle.std.specs.FinMap as finite
use Rattle.std.specs.FinMap.{get-insert}
use Rattle.std.proofs.lemmas.Cmp.{nat_list_cmp_total}
use Rattle.std.proofs.lemmas.List.{length-map, take_more, drop_more, take-append-drop, map-append, append_cancel_left, get_or-append_right}
use Rattle.j2k_base.specs.Lists.{Lists}
use Rattle.j2k_io.specs.Disks.{Files, in_folder, listing, with_file, with_files, IsCut}
use Rattle.j2k_io.proofs.LawsToCite.{unlisted_is_absent, apart}
use Rattle.j2k_sources.specs.Sources.{Differ}
use Rattle.j2k_tool.specs.declared.files.TakenFile.{TakenFile}
use Rattle.j2k_tool.specs.declared.writing.MadeFile.{MadeFile}
use Rattle.j2k_tool.specs.declared.writing.Conversion.{Conversion}
use Rattle.j2k_tool.specs.Texts.{kotlin_end, report_name}
use Rattle.j2k_tool.specs.Paths.{base_of, kotlin_path}
use Rattle.j2k_tool.specs.Report.{Choices, ReportText}
use Rattle.j2k_tool.specs.Written.{placed, kotlin_file, report_file, files_of, conversion_of, placed_files, AreFree}

abbrev Made : Type 0
Made = List (List ℕ × List ℕ)

-- ---- each file may be made

-- none of the files is held
abbrev AreAbsent : Files → Made → Type 0
AreAbsent held [] = Unit {0}
AreAbsent held (file ∷ files) = IsFalse (finite.contains_key held file.0) × AreAbsent held files

still_absent : (held : Files) (path bytes other : List ℕ) → other ≢ path → IsFalse (finite.contains_key held other) → IsFalse (finite.contains_key (finite.insert held path bytes) other)
still_absent held path bytes other ne absent =
    ap is_some (get-insert nat_list_cmp_total held path bytes other) ∙ ap (λ b. is_some (cond b (Some bytes) (finite.get held other))) (apart other path ne) ∙ absent

all_still_absent : (held : Files) (path bytes : List ℕ) (files : Made) → (Lists (map (λ file. file.0) files) path → ⊥) → AreAbsent held files → AreAbsent (finite.insert held path bytes) files
all_still_absent held path bytes [] differ absent = tt
all_still_absent held path bytes (file ∷ files) differ absent =
    (still_absent held path bytes file.0 (λ same. differ (inl same)) absent.0, all_still_absent held path bytes files (λ lists. differ (inr lists)) absent.1)

free : (held : Files) (files : Made) → AreAbsent held files → Differ (map (λ file. file.0) files) → AreFree held files
free held [] absent differ = tt
free held (file ∷ files) absent differ = (absent.0, free (finite.insert held file.0 file.1) files (all_still_absent held file.0 file.1 files differ.0 absent.1) differ.1)

absent_made : (held : Files) (dst : List ℕ) → listing dst held ≡ [] → (taken : List TakenFile) (report : MadeFile) → 0 < length report.path → AreAbsent held (map (placed dst) (map kotlin_file taken ++ report ∷ []))
absent_made held dst none [] report h = (unlisted_is_absent dst report.path held h none, tt)
absent_made held dst none (file ∷ taken) report h =
    let long : 0 < length (kotlin_path file.path) = omega (arith, length-append (base_of file.path) kotlin_end) in
    (unlisted_is_absent dst (kotlin_path file.path) held long none, absent_made held dst none taken report h)

-- ---- their paths differ

-- a report's name is no Kotlin file's
two_names : (base : List ℕ) → report_name ≢ base ++ kotlin_end
two_names base e =
    let long : length base ≡ 11 = omega (arith, ap length e, length-append base kotlin_end) in
    let byte = ap (λ (l : List ℕ). get_or l 12 0) e ∙ get_or-append_right base kotlin_end 11 12 0 long (omega arith) in
    omega (arith, byte)

same_place : (dst path other : List ℕ) → in_folder dst path ≡ in_folder dst other → path ≡ other
same_place dst path other e = let tails : 47 ∷ path ≡ 47 ∷ other = append_cancel_left dst (47 ∷ path) (47 ∷ other) e in cc

abbrev pub kotlin_paths : List TakenFile → List (List ℕ)
kotlin_paths taken = map (λ file. kotlin_path file.path) taken

listed_path : (dst path text : List ℕ) (taken : List TakenFile) → Lists (map (λ file. file.0) (map (placed dst) (map kotlin_file taken ++ record { path = report_name; text = text } ∷ []))) (in_folder dst (kotlin_path path)) → Lists (kotlin_paths taken) (kotlin_path path)
listed_path dst path text [] (inl same) = absurd (two_names (base_of path) (same_place dst report_name (kotlin_path path) same))
listed_path dst path text [] (inr there) = there
listed_path dst path text (file ∷ taken) (inl same) = inl (same_place dst (kotlin_path file.path) (kotlin_path path) same)
listed_path dst path text (file ∷ taken) (inr there) = inr (listed_path dst path text taken there)

made_differ : (dst text : List ℕ) (taken : List TakenFile) → Differ (kotlin_paths taken) → Differ (map (λ file. file.0) (map (placed dst) (map kotlin_file taken ++ record { path = report_name; text = text } ∷ [])))
made_differ dst text [] differ = (λ lists. lists, tt)
made_differ dst text (file ∷ taken) differ = (λ lists. differ.0 (listed_path dst file.path text taken lists), made_differ dst text taken differ.1)

abbrev report : ℕ → List TakenFile → MadeFile
report n taken = record { path = report_name; text = ReportText n (flat_map Choices taken) }

-- what a conversion makes is what is asked for
pub made_are : (dst : List ℕ) (taken : List TakenFile) → placed_files dst (conversion_of taken) ≡ files_of dst taken
made_are dst taken = ap (λ (n : ℕ). map (placed dst) (map kotlin_file taken ++ report n taken ∷ [])) (length-map taken kotlin_file)

-- the files of a conversion may be made in an empty folder
free_in : (held : Files) (dst : List ℕ) (taken : List TakenFile) → listing dst held ≡ [] → Differ (kotlin_paths taken) → AreFree held (files_of dst taken)
free_in held dst taken none differ =
    let long : 0 < length report_name = omega arith in
    free held (files_of dst taken) (absent_made held dst none taken (report_file taken) long) (made_differ dst (report_file taken).text taken differ)

pub files_free : (held : Option Files) (dst : List ℕ) (taken : List TakenFile) (conversion : Conversion) → conversion ≡ conversion_of taken → IfSome held (λ files. (listing dst files ≡ []) × Differ (kotlin_paths taken))
    → IfSome held (λ files. AreFree files (placed_files dst conversion))
files_free None dst taken conversion is h = tt
files_free (Some held) dst taken conversion is h =
    subst (AreFree held) (sym (ap (placed_files dst) is ∙ made_are dst taken)) (free_in held dst taken h.0 h.1)

-- ---- one file after another

with_more : (held : Option Files) (files : Made) (file : List ℕ × List ℕ) → with_files held (files ++ file ∷ []) ≡ with_file (with_files held files) file.0 file.1
with_more held [] file = refl
with_more held (first ∷ files) file = with_more (with_file held first.0 first.1) files file

-- a cut of the files that are left is one of all
cut_later : (held new : Option Files) (before after : Made) → IsCut (with_files held before) after new → IsCut held (before ++ after) new
cut_later held new [] after cut = cut
cut_later held new (first ∷ before) after cut = inr (inr (cut_later (with_file held first.0 first.1) new before after cut))

cut_first : (held new : Option Files) (file : List ℕ × List ℕ) (more : Made) → IsCut held (file ∷ []) new → IsCut held (file ∷ more) new
cut_first held new file more (inl same) = inl same
cut_first held new file more (inr (inl part)) = inr (inl part)
cut_first held new file [] (inr (inr whole)) = inr (inr whole)
cut_first held new file (next ∷ more) (inr (inr whole)) = inr (inr (inl whole))

module _ (held : Option Files) (dst : List ℕ) (files : List MadeFile) (i : ℕ) (file : MadeFile) (h : i < length files) (is : file ≡ get_or files i file) where
  before_is : map (placed dst) (take (i + 1) files) ≡ map (placed dst) (take i files) ++ placed dst file ∷ []
  before_is = ap (map (placed dst)) (take_more files i file h) ∙ map-append (placed dst) (take i files) (get_or files i file ∷ []) ∙ ap (λ (f : MadeFile). map (placed dst) (take i files) ++ placed dst f ∷ []) (sym is)

  rest_is : map (placed dst) (drop i files) ≡ placed dst file ∷ map (placed dst) (drop (i + 1) files)
  rest_is = ap (map (placed dst)) (drop_more files i file h ∙ ap (λ (f : MadeFile). f ∷ drop (i + 1) files) (sym is))

  whole_is : map (placed dst) files ≡ map (placed dst) (take i files) ++ placed dst file ∷ map (placed dst) (drop (i + 1) files)
  whole_is = ap (map (placed dst)) (sym (take-append-drop i files)) ∙ map-append (placed dst) (take i files) (drop i files) ∙ ap (λ (m : Made). map (placed dst) (take i files) ++ m) rest_is

  pub more_free : (now after : Option Files) → after ≡ with_file now (in_folder dst file.path) file.text → IfSome now (λ fs. AreFree fs (map (placed dst) (drop i files))) → IfSome after (λ fs. AreFree fs (map (placed dst) (drop (i + 1) files)))
  more_free None after written is_free = subst (λ a. IfSome a (λ fs. AreFree fs (map (placed dst) (drop (i + 1) files)))) (sym written) tt
  more_free (Some fs) after written is_free = subst (λ a. IfSome a (λ fs. AreFree fs (map (placed dst) (drop (i + 1) files)))) (sym written) (subst (AreFree fs) rest_is is_free).1

  pub more_written : (now after : Option Files) → after ≡ with_file now (in_folder dst file.path) file.text → now ≡ with_files held (map (placed dst) (take i files)) → after ≡ with_files held (map (placed dst) (take (i + 1) files))
  more_written now after written before =
      written ∙ ap (λ n. with_file n (in_folder dst file.path) file.text) before ∙ sym (with_more held (map (placed dst) (take i files)) (placed dst file)) ∙ ap (with_files held) (sym before_is)

  pub here_cut : (now new : Option Files) → IsCut now ((in_folder dst file.path, file.text) ∷ []) new → now ≡ with_files held (map (placed dst) (take i files)) → IsCut held (map (placed dst) files) new
  here_cut now new cut before =
      subst (λ (m : Made). IsCut held m new) (sym whole_is)
      (cut_later held new (map (placed dst) (take i files)) (placed dst file ∷ map (placed dst) (drop (i + 1) files))
      (cut_first (with_files held (map (placed dst) (take i files))) new (placed dst file) (map (placed dst) (drop (i + 1) files)) (subst (λ n. IsCut n (placed dst file ∷ []) new) before cut)))

pub on_err : {T E : Type 0} (P : Type 0) (result : Result T E) → P → OnErr result P
on_err P (Ok x) p = tt
on_err P (Err e) p = p

-- nothing was written
pub nothing_cut : (held : Option Files) (files : Made) → IsCut held files held
nothing_cut held [] = refl
nothing_cut held (file ∷ files) = inl refl
