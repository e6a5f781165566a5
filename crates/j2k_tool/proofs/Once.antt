-- What is asked for is one answer.
use Rattle.std.proofs.Common.{◌≡◌, inl, inr, ℕ, List, [], ◌∷◌, Option, Some, None, IfSome, refl, sym, ◌∙◌, ap, subst}
use Rattle.j2k_base.specs.declared.places.Fault.{Fault}
use Rattle.j2k_base.specs.declared.series.SourceFile.{SourceFile}
use Rattle.j2k_io.specs.Disks.{Files, listing}
use Rattle.j2k_sources.proofs.LawsToCite.{loaded_once}
use Rattle.j2k_sources.specs.declared.limits.Excess.{Excess}
use Rattle.j2k_sources.specs.declared.loading.Sources.{Sources}
use Rattle.j2k_sources.specs.declared.loading.Loaded.{Loaded}
use Rattle.j2k_sources.specs.declared.loading.Loaded.TheVariants as loaded
use Rattle.j2k_sources.specs.Sources.{IsLoaded, Exceeds}
use Rattle.java_names.specs.Binding as names
use Rattle.java_names.proofs.LawsToCite.{not_both, one_refusal}
use Rattle.java_project.proofs.LawsToCite.{apart as text_apart, refused_once, spelled_once}
use Rattle.java_unit_grammar.specs.declared.units.JUnit.{JUnit}
use Rattle.j2k_tool.specs.declared.status.Status.{Status}
use Rattle.j2k_tool.specs.declared.status.Status.TheVariants.{Done, ReadFault, WriteFault, NoMemory, TooLarge, OutFault}
use Rattle.j2k_tool.specs.Asks.{Answer, converted, refused, too_large, ConvertsSources, ConvertsLoaded, Converts, AsksOver, AsksOf, Asks, Answered, IsUnless}
use Rattle.j2k_tool.specs.declared.files.TakenFile.{TakenFile}
use Rattle.j2k_tool.specs.Firsts.{FirstIn}
use Rattle.j2k_tool.specs.Paths.{class_name, with_name, names_of}
use Rattle.j2k_tool.specs.Projects.{AreTaken, entries_fault, least, HasNameFault, HasNames, IsFirstOpen, IsFirstFault, Takes, IsProject}
use Rattle.j2k_tool.specs.Sources.{HasOpenForm}
use Rattle.j2k_tool.specs.Words.{words_mean}
use Rattle.j2k_tool.proofs.Uniqueness.{form_once, form_apart, taken_once as file_once}
use Rattle.j2k_tool.proofs.Firsts.{none_first, first_once}

-- ---- files are taken in one way, or have one first fault

taken_once : (classes earlier : List (List ℕ)) (files : List SourceFile) (ts us : List TakenFile) → AreTaken classes earlier files ts → AreTaken classes earlier files us → ts ≡ us
taken_once classes earlier [] [] [] p q = refl
taken_once classes earlier [] (t ∷ ts) us p q = absurd p
taken_once classes earlier [] [] (u ∷ us) p q = absurd q
taken_once classes earlier (file ∷ files) [] us p q = absurd p
taken_once classes earlier (file ∷ files) (t ∷ ts) [] p q = absurd q
taken_once classes earlier (file ∷ files) (t ∷ ts) (u ∷ us) p q =
    ap (λ (x : TakenFile). x ∷ ts) (file_once classes earlier file t u p.0 q.0)
    ∙ ap (λ (xs : List TakenFile). u ∷ xs) (taken_once classes (with_name earlier (class_name file.path)) files ts us p.1 q.1)

taken_no_form : (classes earlier : List (List ℕ)) (files : List SourceFile) (ts : List TakenFile) (f : Fault) → AreTaken classes earlier files ts → FirstIn (HasOpenForm classes) earlier files f → ⊥
taken_no_form classes earlier [] ts f p q = q
taken_no_form classes earlier (file ∷ files) [] f p q = p
taken_no_form classes earlier (file ∷ files) (t ∷ ts) f p (inl q) = form_apart classes earlier file t f p.0 q
taken_no_form classes earlier (file ∷ files) (t ∷ ts) f p (inr q) = taken_no_form classes (with_name earlier (class_name file.path)) files ts f p.1 q.1

module _ (sources : Sources) where
  abbrev Forms : List (List ℕ) → SourceFile → Fault → Type 0
  Forms = HasOpenForm (names_of sources.files)

  form_once_in : (f g : Fault) → FirstIn Forms [] sources.files f → FirstIn Forms [] sources.files g → f ≡ g
  form_once_in f g p q = first_once Forms (λ earlier file. form_once (names_of sources.files) earlier file) [] sources.files f g p q

  open_once : (f g : Fault) → IsFirstOpen sources f → IsFirstOpen sources g → f ≡ g
  open_once f g (inl p) (inl q) = form_once_in f g p.1 q.1
  open_once f g (inl p) (inr (inl q)) = absurd (q.0 p.0)
  open_once f g (inl p) (inr (inr q)) = absurd (q.0 p.0)
  open_once f g (inr (inl p)) (inl q) = absurd (p.0 q.0)
  open_once f g (inr (inl p)) (inr (inl q)) = p.2 ∙ sym q.2
  open_once f g (inr (inl p)) (inr (inr q)) = absurd (none_first Forms [] sources.files q.1.0 p.1 q.1.1)
  open_once f g (inr (inr p)) (inl q) = absurd (p.0 q.0)
  open_once f g (inr (inr p)) (inr (inl q)) = absurd (none_first Forms [] sources.files p.1.0 q.1 p.1.1)
  open_once f g (inr (inr p)) (inr (inr q)) = p.1.2 ∙ ap (least entries_fault) (form_once_in p.1.0 q.1.0 p.1.1 q.1.1) ∙ sym q.1.2

  -- the names of the units have one fault at most, and where they have one they aren't free of faults
  name_fault_once : (f g : Fault) → HasNameFault sources f → HasNameFault sources g → f ≡ g
  name_fault_once f g p q =
      one_refusal p.units sources.entries f g p.refused
      (subst (λ (us : List JUnit). names.IsRefused us sources.entries g) (spelled_once sources.files q.units p.units q.spelled p.spelled) q.refused)

  no_name_fault : (f : Fault) → HasNames sources → HasNameFault sources f → ⊥
  no_name_fault f p q =
      not_both p.units sources.entries f p.bound
      (subst (λ (us : List JUnit). names.IsRefused us sources.entries f) (spelled_once sources.files q.units p.units q.spelled p.spelled) q.refused)

  pub fault_once : (f g : Fault) → IsFirstFault sources f → IsFirstFault sources g → f ≡ g
  fault_once f g (inl p) (inl q) = refused_once sources.files f g p q
  fault_once f g (inl p) (inr (inl q)) = absurd (text_apart sources.files q.units f q.spelled p)
  fault_once f g (inl p) (inr (inr q)) = absurd (text_apart sources.files q.0.units f q.0.spelled p)
  fault_once f g (inr (inl p)) (inl q) = absurd (text_apart sources.files p.units g p.spelled q)
  fault_once f g (inr (inl p)) (inr (inl q)) = name_fault_once f g p q
  fault_once f g (inr (inl p)) (inr (inr q)) = absurd (no_name_fault f q.0 p)
  fault_once f g (inr (inr p)) (inl q) = absurd (text_apart sources.files p.0.units g p.0.spelled q)
  fault_once f g (inr (inr p)) (inr (inl q)) = absurd (no_name_fault g p.0 q)
  fault_once f g (inr (inr p)) (inr (inr q)) = open_once f g p.1 q.1

  taken_no_open : (ts : List TakenFile) (f : Fault) → Takes sources ts → IsFirstOpen sources f → ⊥
  taken_no_open ts f p (inl q) = taken_no_form (names_of sources.files) [] sources.files ts f p.files q.1
  taken_no_open ts f p (inr (inl q)) = q.0 p.entries
  taken_no_open ts f p (inr (inr q)) = q.0 p.entries

  taken_no_fault : (ts : List TakenFile) (f : Fault) → Takes sources ts → IsFirstFault sources f → ⊥
  taken_no_fault ts f p (inl q) = text_apart sources.files p.names.units f p.names.spelled q
  taken_no_fault ts f p (inr (inl q)) = no_name_fault f p.names q
  taken_no_fault ts f p (inr (inr q)) = taken_no_open ts f p q.1

-- ---- and so ask for one answer

sources_once : (dst : List ℕ) (sources : Sources) (a b : Answer) → ConvertsSources dst sources a → ConvertsSources dst sources b → a ≡ b
sources_once dst sources a b (inl p) (inl q) = p.2 ∙ ap (converted dst) (taken_once (names_of sources.files) [] sources.files p.0 q.0 p.1.files q.1.files) ∙ sym q.2
sources_once dst sources a b (inl p) (inr q) = absurd (taken_no_fault sources p.0 q.0 p.1 q.1)
sources_once dst sources a b (inr p) (inl q) = absurd (taken_no_fault sources q.0 p.0 q.1 p.1)
sources_once dst sources a b (inr p) (inr q) = p.2 ∙ ap (λ (f : Fault). refused f) (fault_once sources p.0 q.0 p.1 q.1) ∙ sym q.2

what_once : (dst : List ℕ) (what : Loaded) (a b : Answer) → ConvertsLoaded dst what a → ConvertsLoaded dst what b → a ≡ b
what_once dst (loaded.Whole sources) a b p q = sources_once dst sources a b p q
what_once dst (loaded.TooLarge excess) a b p q = p ∙ sym q
what_once dst (loaded.Refused fault) a b p q = p ∙ sym q

converts_once : (src dst : List ℕ) (files : Files) (a b : Answer) → Converts src dst files a → Converts src dst files b → a ≡ b
converts_once src dst files a b p q = what_once dst q.0 a b (subst (λ (w : Loaded). ConvertsLoaded dst w a) (loaded_once src files p.0 q.0 p.1 q.1) p.2) q.2

-- a folder holds one project
pub project_once : (src : List ℕ) (files : Files) (ts us : List TakenFile) → IsProject src files ts → IsProject src files us → ts ≡ us
project_once src files ts us p q =
    let same = loaded_once src files (loaded.Whole p.sources) (loaded.Whole q.sources) p.has q.has in
    let sources : p.sources ≡ q.sources = cc in
    taken_once (names_of q.sources.files) [] q.sources.files ts us (subst (λ (s : Sources). AreTaken (names_of s.files) [] s.files ts) sources p.takes.files) q.takes.files

over_once : (there : List (List ℕ)) (src dst : List ℕ) (files : Files) (a b : Answer) → AsksOver there src dst files a → AsksOver there src dst files b → a ≡ b
over_once [] src dst files a b p q = converts_once src dst files a b p q
over_once (path ∷ paths) src dst files a b p q = p ∙ sym q

of_once : (mean : Option (List ℕ × List ℕ)) (files : Files) (a b : Answer) → AsksOf mean files a → AsksOf mean files b → a ≡ b
of_once None files a b p q = p ∙ sym q
of_once (Some folders) files a b p q = over_once (listing folders.1 files) folders.0 folders.1 files a b p q

pub asks_once : (words : List (List ℕ)) (files : Files) (a b : Answer) → Asks words files a → Asks words files b → a ≡ b
unfolding Asks
asks_once words files a b p q = of_once (words_mean words) files a b p q

module _ (held : Option Files) (words : List (List ℕ)) (read write out : Type 0) where
  -- what is asked for is answered by this status, but for memory and faults
  abbrev pub IsComplete : Status → Type 0
  IsComplete status = IfSome held (λ files. (asked : Answer) → Asks words files asked → IsUnless asked.status status read write out)

  -- a project in a folder of its own is converted, but for memory and faults
  abbrev pub Converted : Status → Type 0
  Converted status = IfSome held (λ files. (src dst : List ℕ) (taken : List TakenFile) → words_mean words ≡ Some (src, dst) → listing dst files ≡ [] → IsProject src files taken → IsUnless Done status read write out)

  -- and so are limits that are exceeded
  abbrev pub Bounded : Status → Type 0
  Bounded status = IfSome held (λ files. (src dst : List ℕ) (excess : Excess) → words_mean words ≡ Some (src, dst) → listing dst files ≡ [] → Exceeds src files excess → IsUnless TooLarge status read write out)

-- what stands in a folder asks for its answer
asks_loaded : (words : List (List ℕ)) (files : Files) (src dst : List ℕ) (what : Loaded) (answer : Answer) → words_mean words ≡ Some (src, dst) → listing dst files ≡ [] → IsLoaded src files what → ConvertsLoaded dst what answer → Asks words files answer
unfolding Asks
asks_loaded words files src dst what answer means none is converts =
    subst (λ m. AsksOf m files answer) (sym means) (subst (λ (l : List (List ℕ)). AsksOver l src dst files answer) (sym none) (what, is, converts))

-- and so a complete run gives it
pub complete_converts : (held : Option Files) (words : List (List ℕ)) (read write out : Type 0) (status : Status) → IsComplete held words read write out status → Converted held words read write out status
complete_converts None words read write out status complete = tt
complete_converts (Some files) words read write out status complete = λ src dst taken means none project.
    complete (converted dst taken) (asks_loaded words files src dst (loaded.Whole project.sources) (converted dst taken) means none project.has (inl (taken, project.takes, refl)))

pub complete_exceeds : (held : Option Files) (words : List (List ℕ)) (read write out : Type 0) (status : Status) → IsComplete held words read write out status → Bounded held words read write out status
complete_exceeds None words read write out status complete = tt
complete_exceeds (Some files) words read write out status complete = λ src dst excess means none exceeds.
    complete (too_large excess) (asks_loaded words files src dst (loaded.TooLarge excess) (too_large excess) means none exceeds refl)

-- an answer that was given is complete
pub answered_complete : (held new : Option Files) (words : List (List ℕ)) (read write out : Type 0) (status : Status) (text : List ℕ) → IfSome held (λ files. Answered (Asks words files) status text (Some files) new)
    → IsComplete held words read write out status
answered_complete None new words read write out status text answered = tt
answered_complete (Some files) new words read write out status text answered = λ asked asks.
    inl (sym answered.status_is ∙ ap (λ (a : Answer). a.status) (asks_once words files answered.answer asked answered.asked asks))

-- and so is a fault with its cause, and want of memory
pub memory_complete : (held : Option Files) (words : List (List ℕ)) (read write out : Type 0) → IsComplete held words read write out NoMemory
memory_complete None words read write out = tt
memory_complete (Some files) words read write out = λ asked asks. inr (inl refl)

pub read_complete : (held : Option Files) (words : List (List ℕ)) (read write out : Type 0) → read → IsComplete held words read write out ReadFault
read_complete None words read write out cause = tt
read_complete (Some files) words read write out cause = λ asked asks. inr (inr (inl (refl, cause)))

pub write_complete : (held : Option Files) (words : List (List ℕ)) (read write out : Type 0) → write → IsComplete held words read write out WriteFault
write_complete None words read write out cause = tt
write_complete (Some files) words read write out cause = λ asked asks. inr (inr (inr (inl (refl, cause))))

pub out_complete : (held : Option Files) (words : List (List ℕ)) (read write out : Type 0) → out → IsComplete held words read write out OutFault
out_complete None words read write out cause = tt
out_complete (Some files) words read write out cause = λ asked asks. inr (inr (inr (inr (refl, cause))))
