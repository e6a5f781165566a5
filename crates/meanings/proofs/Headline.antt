-- The headline's theorem: the Kotlin of a project makes the steps of the project, in every run.
use Rattle.std.proofs.Common.{◌≡◌, ℕ, Bool, true, false, ◌&&◌, ◌==◌, List, [], ◌∷◌, Option, Some, None, if◌then◌else◌, refl, sym, ◌∙◌, ap, subst, inl, inr}
use Rattle.std.specs.Prelude.{option_map, filter_map, codes}
use Rattle.std.specs.List.{cons_option}
use Rattle.meanings.specs.declared.kotlin.KMain.{KMain}
use Rattle.meanings.specs.declared.kotlin.KClass.{KClass}
use Rattle.java_typed.specs.declared.units.TUnit.{TUnit}
use Rattle.meanings.specs.Taken.{MainMethod, MainClass, class_in, classes_in as java_classes_in, AllTaken}
use Rattle.meanings.specs.Convert.{main_of, class_of, classes_of, files_of}
use Rattle.meanings.specs.Values.{Name, same_name, Site, same_site, Value, Answer}
use Rattle.meanings.specs.Program.{Body, main_site, main_entry, Start}
use Rattle.meanings.specs.World.{World}
use Rattle.meanings.specs.Runs.{Thread, run, NeverTorn}
use Rattle.meanings.specs.Java.{java_main, java_method, entry_class as java_entry_class, java_program, JavaThread}
use Rattle.meanings.specs.Kotlin.{entry_class as kotlin_entry_class, classes_in as kotlin_classes_in, kotlin_program, KotlinThread}
use Rattle.meanings.specs.Entries.{Takes, Strings, Entry, Input, count_of, AllStrings, Fits, passed, first_world, first_threads, run_of}
use Rattle.meanings.specs.SameSteps.{SameSteps, Entries, AreMains, AreConfigured}
use Rattle.meanings.proofs.RunLaws.{AllStarts}
use Rattle.meanings.proofs.Starts.{starts_same}
use Rattle.meanings.proofs.KotlinSafe.{kotlin_never_torn}
use Rattle.meanings.proofs.SameText.{AllGiven, stands, IsGiven, CalmTurn, thread_same, thread_calm}
use Rattle.meanings.proofs.SameValues.{same_site_self}
use Rattle.meanings.proofs.Units.{ClassesTaken, all_classes_taken}

-- ---- runs from starts at bodies that are there

kotlin_calm : (classes : List MainClass) → ClassesTaken classes → (start : Start) → IsGiven classes start → (answers : List Answer) (n : ℕ) → CalmTurn (KotlinThread (classes_of classes) start answers n)
kotlin_calm classes taken start given answers n = rw (thread_same classes taken start given answers n) (thread_calm classes taken start given answers n)

run_of_project : (classes : List MainClass) → ClassesTaken classes → (n : ℕ) (w : World) (ts : List Thread) → AllStarts (IsGiven classes) ts → (schedule : List ℕ) → run (KotlinThread (classes_of classes)) n w ts schedule ≡ run (JavaThread classes) n w ts schedule
run_of_project classes taken n = starts_same (IsGiven classes) (KotlinThread (classes_of classes)) (kotlin_calm classes taken) n (JavaThread classes) (λ start given answers. thread_same classes taken start given answers n)

-- ---- the first thread

stands_first : (b c : Bool) → c ≡ true → (if b then true else c) ≡ true
stands_first true c h = refl
stands_first false c h = h

-- where the entry point is found a body stands
found_first : (class : Name) (main : Option MainMethod) (rest : List Body) (names : List Name) (name method : Name) (count : ℕ) (site : Site) →
    (main_entry names name method count ≡ Some site → stands rest site ≡ true) →
    main_entry (cons_option (option_map (λ (m : MainMethod). class) main) names) name method count ≡ Some site → stands (cons_option (option_map (java_main class) main) rest) site ≡ true
found_first class None rest names name method count site h e = h e
found_first class (Some main) rest names name method count site h e = go (same_name name class && same_name method (codes "main") && (count == 1)) e
  where
    go : (b : Bool) → (if b then Some (main_site class) else main_entry names name method count) ≡ Some site → (if same_site (main_site class) site then true else stands rest site) ≡ true
    go true e = let same : main_site class ≡ site = cc in subst (λ (x : Site). (if same_site (main_site class) x then true else stands rest x) ≡ true) same (rw (same_site_self (main_site class)) refl)
    go false e = stands_first (same_site (main_site class) site) (stands rest site) (h e)

pub found_stands : (classes : List MainClass) (name method : Name) (count : ℕ) (site : Site) → main_entry (filter_map java_entry_class classes) name method count ≡ Some site → stands (filter_map java_method classes) site ≡ true
found_stands [] name method count site e = cc
found_stands (class ∷ classes) name method count site e = found_first class.name class.main _ _ name method count site (found_stands classes name method count site) e

first_given : (classes : List MainClass) (vs : List Value) → AllGiven vs → (o : Option Site) → ((site : Site) → o ≡ Some site → stands (filter_map java_method classes) site ≡ true) → AllStarts (IsGiven classes) (first_threads o vs)
first_given classes vs given None h = tt
first_given classes vs given (Some site) h = ((h site refl, given), tt)

-- the classes of the files, and those of them that have a `main`, are the same
class_kept : (class : Option MainClass) (classes : List MainClass) → cons_option (option_map class_of class) (classes_of classes) ≡ classes_of (cons_option class classes)
class_kept None classes = refl
class_kept (Some class) classes = refl

pub classes_kept : (files : List TUnit) → kotlin_classes_in (files_of files) ≡ classes_of (java_classes_in files)
classes_kept [] = refl
classes_kept (file ∷ files) =
    ap (cons_option (option_map class_of (class_in file))) (classes_kept files) ∙ class_kept (class_in file) (java_classes_in files)

name_kept : (class : Name) (main : Option MainMethod) → option_map (λ (main : KMain). class) (option_map main_of main) ≡ option_map (λ (main : MainMethod). class) main
name_kept class None = refl
name_kept class (Some main) = refl

names_kept : (classes : List MainClass) → filter_map kotlin_entry_class (classes_of classes) ≡ filter_map java_entry_class classes
names_kept [] = refl
names_kept (class ∷ classes) =
    ap (λ (name : Option Name). cons_option name (filter_map kotlin_entry_class (classes_of classes))) (name_kept class.name class.main)
    ∙ ap (cons_option (java_entry_class class)) (names_kept classes)

-- so an entry point is at the same place
pub sites_kept : (classes : List MainClass) (class method : Name) (count : ℕ) →
    main_entry (filter_map kotlin_entry_class (classes_of classes)) class method count ≡ main_entry (filter_map java_entry_class classes) class method count
sites_kept classes class method count = ap (λ (names : List Name). main_entry names class method count) (names_kept classes)

-- what a `main` is given is an array
abbrev IsMain : Entry → Type 0
IsMain entry = entry.takes ≡ Strings

main_given : (takes : Takes) (vs : List Value) → takes ≡ Strings → AllGiven (passed takes vs)
main_given takes vs is = rw is (refl, tt)

mains_are_main : (names : List Name) (entry : Entry) → AreMains names entry → IsMain entry
mains_are_main [] entry h = absurd h
mains_are_main (class ∷ names) entry (inl is) = ap (λ (e : Entry). e.takes) is
mains_are_main (class ∷ names) entry (inr h) = mains_are_main names entry h

none_configured : (java : List TUnit) (texts : List Name) (entry : Entry) → AreConfigured java texts entry → IsMain entry
none_configured java [] entry h = absurd h
none_configured java (text ∷ texts) entry (inl h) = absurd h
none_configured java (text ∷ texts) entry (inr h) = none_configured java texts entry h

entries_are_main : (java : List TUnit) (configured : List Name) (entry : Entry) → Entries java configured entry → IsMain entry
entries_are_main java configured entry (inl h) = mains_are_main _ entry h
entries_are_main java configured entry (inr h) = none_configured java configured entry h

module _ (classes : List MainClass) (taken : ClassesTaken classes) (entry : Entry) (main : IsMain entry) (input : Input) (schedule : List ℕ) (n : ℕ) where
  -- the first thread starts well
  begins : AllStarts (IsGiven classes) (first_threads (main_entry (filter_map java_entry_class classes) entry.class entry.method (count_of entry.takes)) (passed entry.takes input.arguments))
  begins = first_given classes _ (main_given entry.takes input.arguments main) _ (found_stands classes entry.class entry.method (count_of entry.takes))

  threads_kept : first_threads (main_entry (filter_map kotlin_entry_class (classes_of classes)) entry.class entry.method (count_of entry.takes)) (passed entry.takes input.arguments)
      ≡ first_threads (main_entry (filter_map java_entry_class classes) entry.class entry.method (count_of entry.takes)) (passed entry.takes input.arguments)
  threads_kept = ap (λ (o : Option Site). first_threads o (passed entry.takes input.arguments)) (sites_kept classes entry.class entry.method (count_of entry.takes))

  -- the runs of classes and of their Kotlin
  classes_same : run_of (kotlin_program (classes_of classes)) entry input schedule n ≡ run_of (java_program classes) entry input schedule n
  classes_same =
      ap (λ (ts : List Thread). run (KotlinThread (classes_of classes)) n (first_world (java_program classes) entry.takes input) ts schedule) threads_kept
      ∙ run_of_project classes taken n (first_world (java_program classes) entry.takes input) _ begins schedule

  classes_never_torn : AllStrings input.arguments → NeverTorn (run_of (kotlin_program (classes_of classes)) entry input schedule n)
  classes_never_torn strings =
      subst (λ (ts : List Thread). NeverTorn (run (KotlinThread (classes_of classes)) n (first_world (kotlin_program (classes_of classes)) entry.takes input) ts schedule)) (sym threads_kept)
      (subst (λ (takes : Takes). NeverTorn (run (KotlinThread (classes_of classes)) n (first_world (kotlin_program (classes_of classes)) takes input) (first_threads (main_entry (filter_map java_entry_class classes) entry.class entry.method (count_of takes)) (passed takes input.arguments)) schedule)) (sym main)
      (kotlin_never_torn classes input strings taken entry.class entry.method 1 n schedule))

-- the arguments of a `main` are Strings
fits_main : (takes : Takes) (vs : List Value) → takes ≡ Strings → Fits takes vs → AllStrings vs
fits_main takes vs is fits = subst (λ (takes : Takes). Fits takes vs) is fits

-- the headline's theorem, for every project whose units are taken
pub same_steps : (units : List TUnit) (configured : List Name) → AllTaken units → SameSteps units configured (files_of units)
same_steps units configured all = record {
  same = λ entry is input fits schedule n.
      ap (λ (classes : List KClass). run_of (kotlin_program classes) entry input schedule n) (classes_kept units) ∙ classes_same (java_classes_in units) (all_classes_taken units all) entry (entries_are_main units configured entry is) input schedule n;
  never_torn = λ entry is input fits schedule n.
      subst (λ (classes : List KClass). NeverTorn (run_of (kotlin_program classes) entry input schedule n)) (sym (classes_kept units))
      (classes_never_torn (java_classes_in units) (all_classes_taken units all) entry (entries_are_main units configured entry is) input schedule n (fits_main entry.takes input.arguments (entries_are_main units configured entry is) fits));
}
