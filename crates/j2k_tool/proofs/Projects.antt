-- What the files of a project are, file after file, and what sources are.
use Rattle.std.proofs.Common.{◌≡◌, ◌<◌, ◌≤◌, ◌+◌, ◌-◌, ◌^◌, inl, inr, ℕ, zero, suc, Bool, true, false, not, cond, List, [], ◌∷◌, ◌++◌, length, get_or, take, Option, Some, None, refl, sym, ◌∙◌, ap, subst, arith, map}
use Rattle.std.specs.List.{list_any, count_by, flat_map}
use Rattle.std.specs.Str.{bytes_eq}
use Rattle.std.proofs.lemmas.List.{take_more, take_all, map-append, append-nil}
use Rattle.std.proofs.lemmas.List.Concat.{flat_map-cons}
use Rattle.std.proofs.lemmas.List.Sums.{sum_by-append, sum_by-cons}
use Rattle.std.proofs.lemmas.Grind.{flat_map-append}
use Rattle.std.proofs.lemmas.List.Elements.{All-cons, All-head, All-nil, All-tail}
use Rattle.java_project.specs.Files.{AreShort, AreUnits, HasUnit}
use Rattle.java_unit_grammar.specs.declared.units.JUnit.{JUnit}
use Rattle.j2k_base.specs.declared.choices.Choice.{Choice}
use Rattle.j2k_base.specs.declared.places.Fault.{Fault}
use Rattle.j2k_base.specs.declared.series.SourceFile.{SourceFile}
use Rattle.j2k_sources.specs.declared.loading.Sources.{Sources}
use Rattle.j2k_sources.specs.Sources.{AreSmall, most_bytes}
use Rattle.j2k_tool.specs.declared.files.TakenFile.{TakenFile}
use Rattle.j2k_tool.specs.declared.files.Found.{Found}
use Rattle.j2k_tool.specs.declared.files.Found.TheVariants as found
use Rattle.j2k_tool.specs.declared.writing.MadeFile.{MadeFile}
use Rattle.j2k_tool.specs.declared.writing.Conversion.{Conversion}
use Rattle.j2k_tool.specs.declared.project.Forms.{Forms}
use Rattle.j2k_tool.specs.Paths.{class_name, with_name, with_names, names_of}
use Rattle.j2k_tool.specs.Projects.{AreTaken, IsFirst, AreForms, open_form, earliest, added, with_found, IsFirstOpen, entries_fault, least}
use Rattle.j2k_tool.specs.Sources.{HasOpenForm, IsTaken, IsFound}
use Rattle.j2k_tool.specs.Report.{Choices, has_class}
use Rattle.j2k_tool.specs.Written.{kotlin_file, conversion_of, with_taken}
use Rattle.j2k_tool.proofs.Uniqueness.{found_form}
use Rattle.j2k_tool.proofs.Firsts.{one_more}

pub names_more : (names : List (List ℕ)) (files : List SourceFile) (file : SourceFile) → with_names names (files ++ file ∷ []) ≡ with_name (with_names names files) (class_name file.path)
names_more names [] file = refl
names_more names (x ∷ files) file = names_more (with_name names (class_name x.path)) files file

-- no fault is the first of two
left_none : (a b : Option Fault) → earliest a b ≡ None → a ≡ None
left_none None b e = refl
left_none (Some f) b e = e

right_none : (a b : Option Fault) → earliest a b ≡ None → b ≡ None
right_none None b e = e
right_none (Some f) b e = cc

-- ---- what taken files become

abbrev made : List MadeFile → List Choice → ℕ → Conversion
made files choices classes = record { files = files; choices = choices; classes = classes }

choices_more : (ts : List TakenFile) (t : TakenFile) → flat_map Choices ts ++ Choices t ≡ flat_map Choices (ts ++ t ∷ [])
choices_more ts t = sym (flat_map-append Choices ts (t ∷ []) ∙ ap (λ (x : List Choice). flat_map Choices ts ++ x) (flat_map-cons Choices t [] ∙ append-nil (Choices t)))

count_more : (ts : List TakenFile) (t : TakenFile) → count_by has_class ts + cond (has_class t) 1 0 ≡ count_by has_class (ts ++ t ∷ [])
count_more ts t =
    let all : count_by has_class (ts ++ t ∷ []) ≡ count_by has_class ts + count_by has_class (t ∷ []) = sum_by-append (λ (x : TakenFile). cond (has_class x) 1 0) ts (t ∷ []) in
    let one : count_by has_class (t ∷ []) ≡ cond (has_class t) 1 0 + 0 = sum_by-cons (λ (x : TakenFile). cond (has_class x) 1 0) t [] in
    omega (arith, all, one)

conversion_more : (ts : List TakenFile) (t : TakenFile) → with_taken (conversion_of ts) t ≡ conversion_of (ts ++ t ∷ [])
conversion_more ts t =
    ap (λ (x : List MadeFile). made x (flat_map Choices ts ++ Choices t) (count_by has_class ts + cond (has_class t) 1 0)) (sym (map-append kotlin_file ts (t ∷ [])))
    ∙ ap (λ (x : List Choice). made (map kotlin_file (ts ++ t ∷ [])) x (count_by has_class ts + cond (has_class t) 1 0)) (choices_more ts t)
    ∙ ap (λ (x : ℕ). made (map kotlin_file (ts ++ t ∷ [])) (flat_map Choices (ts ++ t ∷ [])) x) (count_more ts t)

one_at_most : (b : Bool) → cond b 1 0 ≤ 1
one_at_most true = omega arith
one_at_most false = omega arith

found_few : (c : Conversion) (x : Found) (n : ℕ) → c.classes ≤ n → (with_found c x).classes ≤ n + 1
found_few c (found.Open f) n few = omega (arith, few)
found_few c (found.Taken t) n few = let one = one_at_most (has_class t) in omega (arith, few, one)

pub added_few : (forms after : Forms) (x : Found) (n : ℕ) → after ≡ added forms x → forms.conversion.classes ≤ n → after.conversion.classes ≤ n + 1
added_few forms after x n now few = subst (λ (f : Forms). f.conversion.classes ≤ n + 1) (sym now) (found_few forms.conversion x n few)

-- files are taken, and become this
abbrev Become : List (List ℕ) → List SourceFile → Conversion → Type 0
Become classes files conversion = (taken : List TakenFile) × AreTaken classes [] files taken × (conversion ≡ conversion_of taken)

module _ (classes : List (List ℕ)) where
  one_more_taken : (earlier : List (List ℕ)) (files : List SourceFile) (file : SourceFile) (all : List TakenFile) (taken : TakenFile) → AreTaken classes earlier files all
      → IsTaken classes (with_names earlier files) file taken → AreTaken classes earlier (files ++ file ∷ []) (all ++ taken ∷ [])
  one_more_taken earlier [] file [] taken are is = (is, tt)
  one_more_taken earlier [] file (t ∷ all) taken are is = absurd are
  one_more_taken earlier (x ∷ files) file [] taken are is = absurd are
  one_more_taken earlier (x ∷ files) file (t ∷ all) taken are is = (are.0, one_more_taken (with_name earlier (class_name x.path)) files file all taken are.1 is)

  more_taken : (files : List SourceFile) (file : SourceFile) (forms : Forms) (x : Found) → AreForms classes files forms → IsFound classes (with_names [] files) file x
      → (added forms x).form ≡ None → Become classes (files ++ file ∷ []) (added forms x).conversion
  more_taken files file forms (found.Open f) are is none = let e : Some f ≡ None = right_none forms.form (Some f) none in cc
  more_taken files file forms (found.Taken t) are is none =
      let before = are.taken (left_none forms.form None none) in
      (before.0 ++ t ∷ [], one_more_taken [] files file before.0 t before.1 is, ap (λ (c : Conversion). with_taken c t) before.2 ∙ conversion_more before.0 t)

  pub more_forms : (files : List SourceFile) (file : SourceFile) (forms : Forms) (x : Found) → AreForms classes files forms → IsFound classes (with_names [] files) file x
      → AreForms classes (files ++ file ∷ []) (added forms x)
  more_forms files file forms x are is = record {
    form = one_more (HasOpenForm classes) [] files file forms.form (open_form x) are.form (found_form classes (with_names [] files) file x is);
    taken = more_taken files file forms x are is;
  }

  pub no_forms : (conversion : Conversion) → conversion ≡ conversion_of [] → AreForms classes [] (record { form = None; conversion = conversion })
  no_forms conversion none = record { form = tt; taken = λ a. ([], tt, none) }

-- a name that was declared
pub declared : (added : Bool) (names after : List (List ℕ)) (name : List ℕ) → added ≡ not (list_any (bytes_eq name) names) → after ≡ cond added (names ++ name ∷ []) names → after ≡ with_name names name
declared added names after name is now = by_test (list_any (bytes_eq name) names) added is now
  where
    by_test : (b a : Bool) → a ≡ not b → after ≡ cond a (names ++ name ∷ []) names → after ≡ cond b names (names ++ name ∷ [])
    by_test true false is now = now
    by_test false true is now = now
    by_test true true is now = cc
    by_test false false is now = cc

-- ---- one file after another

module _ (files : List SourceFile) (i : ℕ) (file : SourceFile) (h : i < length files) (is : file ≡ get_or files i file) where
  taken_is : take (i + 1) files ≡ take i files ++ file ∷ []
  taken_is = take_more files i file h ∙ ap (λ (f : SourceFile). take i files ++ f ∷ []) (sym is)

  pub names_step : (names after : List (List ℕ)) → names ≡ with_names [] (take i files) → after ≡ with_name names (class_name file.path) → after ≡ with_names [] (take (i + 1) files)
  names_step names after before now =
      now ∙ ap (λ (n : List (List ℕ)). with_name n (class_name file.path)) before ∙ sym (names_more [] (take i files) file) ∙ ap (with_names []) (sym taken_is)

  pub forms_step : (classes earlier : List (List ℕ)) (forms after : Forms) (x : Found) → earlier ≡ with_names [] (take i files) → AreForms classes (take i files) forms
      → IsFound classes earlier file x → after ≡ added forms x → AreForms classes (take (i + 1) files) after
  forms_step classes earlier forms after x names are found now =
      subst (AreForms classes (take (i + 1) files)) (sym now)
      (subst (λ (fs : List SourceFile). AreForms classes fs (added forms x)) (sym taken_is)
      (more_forms classes (take i files) file forms x are (subst (λ (n : List (List ℕ)). IsFound classes n file x) names found)))

-- ---- the units of files

pub units_long : (files : List SourceFile) (units : List JUnit) → AreUnits files units → length units ≡ length files
units_long [] [] are = refl
units_long [] (u ∷ units) are = absurd are
units_long (file ∷ files) [] are = absurd are
units_long (file ∷ files) (u ∷ units) are = ap suc (units_long files units are.1)

pub unit_here : (files : List SourceFile) (units : List JUnit) (i : ℕ) (file : SourceFile) (u : JUnit) → AreUnits files units → i < length files
    → file ≡ get_or files i file → u ≡ get_or units i u → HasUnit file u
unit_here [] units i file u are h is same = absurd (omega (arith, h))
unit_here (x ∷ files) [] i file u are h is same = absurd are
unit_here (x ∷ files) (v ∷ units) zero file u are h is same = subst (λ (f : SourceFile). HasUnit f u) (sym is) (subst (HasUnit x) (sym same) are.0)
unit_here (x ∷ files) (v ∷ units) (suc i) file u are h is same = unit_here files units i file u are.1 (omega (arith, h)) is same

-- files within the limit are short
pub small_files : (files : List SourceFile) → AreSmall files → AreShort files
small_files [] small = All-nil (λ (f : SourceFile). length f.bytes < 2 ^ 32 - 1)
small_files (file ∷ files) small =
    let here : length file.bytes ≤ most_bytes = All-head (λ (f : SourceFile). length f.bytes ≤ most_bytes) file files small in
    All-cons (λ (f : SourceFile). length f.bytes < 2 ^ 32 - 1) file files (omega (arith, here)) (small_files files (All-tail (λ (f : SourceFile). length f.bytes ≤ most_bytes) file files small))

pub all_names : (files : List SourceFile) (i : ℕ) (names : List (List ℕ)) → length files ≤ i → names ≡ with_names [] (take i files) → names ≡ names_of files
all_names files i names h are = are ∙ ap (with_names []) (take_all i files h)

pub all_forms : (files : List SourceFile) (i : ℕ) (classes : List (List ℕ)) (forms : Forms) → length files ≤ i → classes ≡ names_of files → AreForms classes (take i files) forms → AreForms (names_of files) files forms
all_forms files i classes forms h same are =
    subst (λ (c : List (List ℕ)). AreForms c files forms) same (subst (λ (fs : List SourceFile). AreForms classes fs forms) (take_all i files h) are)

-- ---- with the settings

pub some_open : (sources : Sources) (fault : Fault) → sources.entries ≡ [] → IsFirst (HasOpenForm (names_of sources.files)) [] sources.files (Some fault) → IsFirstOpen sources fault
some_open sources fault none first = inl (none, first)

pub entries_open : (sources : Sources) (entries : Fault) → 0 < length sources.entries → IsFirst (HasOpenForm (names_of sources.files)) [] sources.files None → entries ≡ entries_fault → IsFirstOpen sources entries
entries_open sources entries some none is = inr (inl ((λ e. absurd (omega (arith, some, ap length e))), none, is))

pub least_open : (sources : Sources) (entries first fault : Fault) → 0 < length sources.entries → IsFirst (HasOpenForm (names_of sources.files)) [] sources.files (Some first) → entries ≡ entries_fault
    → fault ≡ least entries first → IsFirstOpen sources fault
least_open sources entries first fault some is entries_is fault_is =
    inr (inr ((λ e. absurd (omega (arith, some, ap length e))), (first, is, fault_is ∙ ap (λ (x : Fault). least x first) entries_is)))
