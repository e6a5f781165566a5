-- How an outcome of the steps is an outcome of what was asked for.
use Rattle.std.proofs.Common.{◌≡◌, ◌⊎◌, inl, inr, ◌≤◌, ◌<◌, ℕ, List, [], ◌∷◌, ◌++◌, length, Option, Some, None, Result, Ok, Err, IfOk, IfSome, refl, sym, ◌∙◌, ap, subst, arith}
use Rattle.std.specs.Prelude.{OnOk, OnErr, map}
use Rattle.std.specs.List.{count_by, flat_map}
use Rattle.std.proofs.lemmas.List.{take_all, length-map}
use Rattle.j2k_base.specs.declared.places.Fault.{Fault}
use Rattle.j2k_base.specs.declared.series.SourceFile.{SourceFile}
use Rattle.j2k_io.specs.Disks.{Files, listing, with_file, with_files, IsCut}
use Rattle.j2k_io.specs.Sinks.{appended, IsPartOf}
use Rattle.j2k_sources.specs.declared.halt.Halt.{Halt}
use Rattle.j2k_sources.specs.declared.limits.Excess.{Excess}
use Rattle.j2k_sources.specs.declared.loading.Sources.{Sources}
use Rattle.j2k_sources.specs.declared.loading.Loaded.{Loaded}
use Rattle.j2k_sources.specs.declared.loading.Loaded.TheVariants as loaded
use Rattle.j2k_sources.specs.Sources.{IsLoaded, Exceeds, Differ}
use Rattle.j2k_tool.specs.declared.files.TakenFile.{TakenFile}
use Rattle.j2k_tool.specs.declared.project.Project.TheVariants.{Taken}
use Rattle.j2k_tool.specs.declared.writing.Conversion.{Conversion}
use Rattle.j2k_tool.specs.Texts.{usage_text, not_empty_text}
use Rattle.j2k_tool.specs.Asks.{Answer, done_text, conversion_text, usage, not_empty, refused, converted, converted_text, too_large, too_large_text, ConvertsSources, ConvertsLoaded, KotlinDiffer, PathsDiffer, IsAnswer, AsksOver, AsksOf, Asks, Answered, Stopped}
use Rattle.j2k_faults.specs.Faults.{fault_line}
use Rattle.j2k_tool.specs.Messages.{message_text}
use Rattle.j2k_tool.specs.Paths.{class_name, kotlin_path, with_name, names_of}
use Rattle.j2k_tool.specs.Projects.{paths_of, AreTaken, IsFirstFault, Takes, IsJudged}
use Rattle.j2k_tool.specs.Report.{Choices, has_class}
use Rattle.j2k_tool.specs.Words.{words_mean}
use Rattle.j2k_tool.specs.Written.{files_of, kotlin_file, conversion_of, placed_files, AreFree}
use Rattle.j2k_tool.proofs.Names.{kotlin_differ}
use Rattle.j2k_tool.proofs.Writes.{files_free, made_are}
use Rattle.j2k_tool.specs.declared.status.Status.{Status}
use Rattle.j2k_tool.specs.declared.status.Status.TheVariants.{Done, Refused, Usage, NotEmpty, TooLarge, WriteFault, NoMemory}
use Rattle.j2k_tool.specs.declared.answers.Answer as code

pub usage_answered : (held new : Option Files) (words : List (List ℕ)) (text : List ℕ) → words_mean words ≡ None → text ≡ usage_text → new ≡ held
    → IfSome held (λ files. Answered (Asks words files) Usage text (Some files) new)
unfolding Asks
usage_answered None new words text none is same = tt
usage_answered (Some files) new words text none is same = record {
  answer = usage;
  asked = subst (λ mean. AsksOf mean files usage) (sym none) refl;
  status_is = refl;
  text_is = sym is;
  made = same;
}

-- a list with an item isn't empty
first_of : (listed : List (List ℕ)) → 0 < length listed → (first : List ℕ) × (rest : List (List ℕ)) × (listed ≡ first ∷ rest)
first_of [] h = absurd (omega arith)
first_of (first ∷ rest) h = (first, rest, refl)

pub not_empty_answered : (held new : Option Files) (src dst : List ℕ) (there : List (List ℕ)) (text : List ℕ) → IfSome held (λ files. there ≡ listing dst files) → 0 < length there
    → text ≡ not_empty_text dst → new ≡ held → IfSome held (λ files. Answered (AsksOf (Some (src, dst)) files) NotEmpty text (Some files) new)
not_empty_answered None new src dst there text listed h is same = tt
not_empty_answered (Some files) new src dst there text listed h is same =
    let one = first_of there h in
    record {
      answer = not_empty dst;
      asked = subst (λ (l : List (List ℕ)). AsksOver l src dst files (not_empty dst)) (sym one.2 ∙ listed) refl;
      status_is = refl;
      text_is = sym is;
      made = same;
    }

none_of : (listed : List (List ℕ)) → length listed ≤ 0 → listed ≡ []
none_of [] h = refl
none_of (first ∷ rest) h = absurd (omega arith)

-- ---- what was loaded

-- the paths of what is taken are those of the files
taken_paths : (classes earlier : List (List ℕ)) (files : List SourceFile) (taken : List TakenFile) → AreTaken classes earlier files taken → map kotlin_path (paths_of files) ≡ map (λ file. kotlin_path file.path) taken
taken_paths classes earlier [] [] are = refl
taken_paths classes earlier [] (t ∷ taken) are = absurd are
taken_paths classes earlier (file ∷ files) [] are = absurd are
taken_paths classes earlier (file ∷ files) (t ∷ taken) are =
    ap (λ (p : List ℕ). kotlin_path p ∷ map kotlin_path (paths_of files)) (sym are.0.path)
    ∙ ap (λ (ps : List (List ℕ)). kotlin_path t.path ∷ ps) (taken_paths classes (with_name earlier (class_name file.path)) files taken are.1)

pub taken_differ : (held : Option Files) (dst : List ℕ) (sources : Sources) (taken : List TakenFile) → IfSome held (λ files. (listing dst files ≡ []) × KotlinDiffer sources.files) → Takes sources taken
    → IfSome held (λ files. (listing dst files ≡ []) × Differ (map (λ file. kotlin_path file.path) taken))
taken_differ None dst sources taken h takes = tt
taken_differ (Some files) dst sources taken h takes = (h.0, subst Differ (taken_paths (names_of sources.files) [] sources.files taken takes.files) h.1)

what_differs : (src : List ℕ) (files : Files) (what : Loaded) → IsLoaded src files what → PathsDiffer what
what_differs src files (loaded.Whole sources) is = kotlin_differ src files sources.files is.java
what_differs src files (loaded.TooLarge excess) is = tt
what_differs src files (loaded.Refused fault) is = tt

pub loaded_differ : (held mid : Option Files) (src dst : List ℕ) (there : List (List ℕ)) (what : Loaded) → mid ≡ held → IfSome held (λ files. there ≡ listing dst files) → length there ≤ 0 → IfSome held (λ files. IsLoaded src files what)
    → IfSome mid (λ files. (listing dst files ≡ []) × PathsDiffer what)
loaded_differ None mid src dst there what same listed h is = subst (λ m. IfSome m (λ files. (listing dst files ≡ []) × PathsDiffer what)) (sym same) tt
loaded_differ (Some files) mid src dst there what same listed h is =
    subst (λ m. IfSome m (λ files. (listing dst files ≡ []) × PathsDiffer what)) (sym same) (sym listed ∙ none_of there h, what_differs src files what is)

-- ---- sources

-- a conversion prints what is asked for
text_is : (taken : List TakenFile) → conversion_text (conversion_of taken) ≡ converted_text taken
text_is taken = ap (λ (n : ℕ). done_text n (count_by has_class taken) (length (flat_map Choices taken))) (length-map taken kotlin_file)

module _ (dst : List ℕ) (sources : Sources) (conversion : Conversion) (judged : IsJudged sources (Taken conversion)) where
  pub conversion_free : (held : Option Files) → IfSome held (λ files. (listing dst files ≡ []) × KotlinDiffer sources.files) → IfSome held (λ files. AreFree files (placed_files dst conversion))
  conversion_free held h = files_free held dst judged.0 conversion judged.2 (taken_differ held dst sources judged.0 h judged.1)

  files_are : placed_files dst conversion ≡ files_of dst judged.0
  files_are = ap (placed_files dst) judged.2 ∙ made_are dst judged.0

  pub converted_answered : (old new : Option Files) (result : Result code.Answer Halt) → IfOk result (λ a. (a.status ≡ Done) × (message_text a.message ≡ conversion_text conversion))
      → OnOk result (new ≡ with_files old (placed_files dst conversion)) → IfOk result (λ a. Answered (ConvertsSources dst sources) a.status (message_text a.message) old new)
  converted_answered old new (Err e) says made = tt
  converted_answered old new (Ok a) says made = record {
    answer = converted dst judged.0;
    asked = inl (judged.0, judged.1, refl);
    status_is = sym says.0;
    text_is = sym (says.1 ∙ ap conversion_text judged.2 ∙ text_is judged.0);
    made = made ∙ ap (with_files old) files_are;
  }

  pub converted_stopped : (old new : Option Files) (result : Result code.Answer Halt) → OnErr result (IsCut old (placed_files dst conversion) new) → OnErr result (Stopped (ConvertsSources dst sources) old new)
  converted_stopped old new (Ok a) cut = tt
  converted_stopped old new (Err e) cut = inr (converted dst judged.0, inl (judged.0, judged.1, refl), subst (λ fs. IsCut old fs new) files_are cut)

pub refused_answered : (dst : List ℕ) (sources : Sources) (fault : Fault) (status : Status) (text : List ℕ) (old new : Option Files) → IsFirstFault sources fault → status ≡ Refused → text ≡ fault_line fault → new ≡ old
    → Answered (ConvertsSources dst sources) status text old new
refused_answered dst sources fault status text old new is status_is text_is same = record {
  answer = refused fault;
  asked = inr (fault, is, refl);
  status_is = sym status_is;
  text_is = sym text_is;
  made = same;
}

-- ---- what was answered

-- a limit that is said to be exceeded is
of_what : (src dst : List ℕ) (files : Files) (what : Loaded) (answer : Answer) → IsLoaded src files what → ConvertsLoaded dst what answer → answer.status ≡ TooLarge → (excess : Excess) × Exceeds src files excess
of_what src dst files (loaded.Whole sources) answer is (inl p) large = let other : answer.status ≡ Done = ap (λ (a : Answer). a.status) p.2 in cc
of_what src dst files (loaded.Whole sources) answer is (inr p) large = let other : answer.status ≡ Refused = ap (λ (a : Answer). a.status) p.2 in cc
of_what src dst files (loaded.TooLarge excess) answer is p large = (excess, is)
of_what src dst files (loaded.Refused fault) answer is p large = let other : answer.status ≡ Refused = ap (λ (a : Answer). a.status) p in cc

abbrev pub IsLarge : List (List ℕ) → Files → Type 0
IsLarge words files = (src : List ℕ) × (dst : List ℕ) × (words_mean words ≡ Some (src, dst)) × (excess : Excess) × Exceeds src files excess

of_over : (there : List (List ℕ)) (src dst : List ℕ) (files : Files) (answer : Answer) → AsksOver there src dst files answer → answer.status ≡ TooLarge → (excess : Excess) × Exceeds src files excess
of_over [] src dst files answer asks large = of_what src dst files asks.0 answer asks.1 asks.2 large
of_over (path ∷ paths) src dst files answer asks large = let other : answer.status ≡ NotEmpty = ap (λ (a : Answer). a.status) asks in cc

of_words : (mean : Option (List ℕ × List ℕ)) (files : Files) (answer : Answer) → AsksOf mean files answer → answer.status ≡ TooLarge → (src : List ℕ) × (dst : List ℕ) × (mean ≡ Some (src, dst)) × (excess : Excess) × Exceeds src files excess
of_words None files answer asks large = let other : answer.status ≡ Usage = ap (λ (a : Answer). a.status) asks in cc
of_words (Some folders) files answer asks large = let found = of_over (listing folders.1 files) folders.0 folders.1 files answer asks large in (folders.0, folders.1, refl, found.0, found.1)

large : (words : List (List ℕ)) (files : Files) (answer : Answer) → Asks words files answer → answer.status ≡ TooLarge → IsLarge words files
unfolding Asks
large words files answer asks is = of_words (words_mean words) files answer asks is

pub answered_large : (held new : Option Files) (words : List (List ℕ)) (status : Status) (text : List ℕ) → IfSome held (λ files. Answered (Asks words files) status text (Some files) new) → status ≡ TooLarge → IfSome held (IsLarge words)
answered_large None new words status text answered is = tt
answered_large (Some files) new words status text answered is = large words files answered.answer answered.asked (answered.status_is ∙ is)

-- all of the files are a prefix of them
pub whole_is_cut : (old new : Option Files) (files : List (List ℕ × List ℕ)) → new ≡ with_files old files → IsCut old files new
whole_is_cut old new [] e = e
whole_is_cut old new (file ∷ files) e = inr (inr (whole_is_cut (with_file old file.0 file.1) new files e))

-- what was answered may also be stopped while it is printed
pub answered_stopped : (held new : Option Files) (words : List (List ℕ)) (status : Status) (text : List ℕ) → IfSome held (λ files. Answered (Asks words files) status text (Some files) new)
    → IfSome held (λ files. Stopped (Asks words files) (Some files) new)
answered_stopped None new words status text answered = tt
answered_stopped (Some files) new words status text answered = inr (answered.answer, answered.asked, whole_is_cut (Some files) new answered.answer.files answered.made)

-- an answer stops nothing
pub answer_not_stopped : (status : Status) → IsAnswer status → (status ≡ WriteFault) ⊎ (status ≡ NoMemory) → ⊥
answer_not_stopped status is (inl fault) = subst IsAnswer fault is
answer_not_stopped status is (inr memory) = subst IsAnswer memory is

-- all of a text is a part of it
pub whole_is_part : (old new : Option (List ℕ)) (text : List ℕ) → new ≡ appended old text → IsPartOf old text new
whole_is_part old new text e = (length text, e ∙ ap (appended old) (sym (take_all (length text) text (omega arith))))

-- ---- what was loaded, where no sources were

pub excess_answered : (dst : List ℕ) (what : Loaded) (excess : Excess) (status : Status) (text : List ℕ) (old new : Option Files) → what ≡ loaded.TooLarge excess → status ≡ TooLarge → text ≡ too_large_text excess → new ≡ old
    → Answered (ConvertsLoaded dst what) status text old new
excess_answered dst what excess status text old new is status_is text_is same = record {
  answer = too_large excess;
  asked = subst (λ (w : Loaded). ConvertsLoaded dst w (too_large excess)) (sym is) refl;
  status_is = sym status_is;
  text_is = sym text_is;
  made = same;
}

pub fault_answered : (dst : List ℕ) (what : Loaded) (fault : Fault) (status : Status) (text : List ℕ) (old new : Option Files) → what ≡ loaded.Refused fault → status ≡ Refused → text ≡ fault_line fault → new ≡ old
    → Answered (ConvertsLoaded dst what) status text old new
fault_answered dst what fault status text old new is status_is text_is same = record {
  answer = refused fault;
  asked = subst (λ (w : Loaded). ConvertsLoaded dst w (refused fault)) (sym is) refl;
  status_is = sym status_is;
  text_is = sym text_is;
  made = same;
}
