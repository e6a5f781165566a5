-- Each entry point is found in both programs, and its thread begins with its text.
use Rattle.std.proofs.Common.{◌≡◌, inl, inr, ℕ, suc, ◌+◌, Bool, true, false, ◌&&◌, List, [], ◌∷◌, length, Option, Some, None, if◌then◌else◌, refl, sym, ◌∙◌, ap, subst, arith}
use Rattle.std.specs.Prelude.{option_map, filter_map, codes}
use Rattle.std.specs.List.{cons_option}
use Rattle.meanings.specs.declared.kotlin.KClass.{KClass}
use Rattle.java_typed.specs.declared.units.TUnit.{TUnit}
use Rattle.meanings.specs.Taken.{MainMethod, MainClass, classes_in as java_classes_in}
use Rattle.meanings.specs.Convert.{main_of, classes_of, files_of}
use Rattle.meanings.specs.Values.{Name, same_name, Site, same_site, Value}
use Rattle.meanings.specs.Outcome.{Meaning, ◌>>◌, pay, assign_all}
use Rattle.meanings.specs.Machine.{Bodies, returned}
use Rattle.meanings.specs.Program.{Program, Body, main_site, main_entry, place, bodies, enter, turn, thread, thread_at, Enters}
use Rattle.meanings.specs.Java.{java_main, java_method, entry_class, java_program}
use Rattle.meanings.specs.Kotlin.{kotlin_main, kotlin_method, kotlin_program}
use Rattle.meanings.specs.Entries.{Strings, Entry, count_of, site_of}
use Rattle.meanings.specs.SameSteps.{AreMains, AreConfigured, renamed, entered, IsOneOf, IsEntered, EntriesAreEntered}
use Rattle.meanings.proofs.Headline.{classes_kept, sites_kept}
use Rattle.meanings.proofs.SameValues.{same_name_true, same_name_self, same_site_self}

-- the text of a body, by one of n
abbrev text_in : Program → Bodies → Body → List Value → Meaning (Unit {0})
text_in program b body vs = pay >> (assign_all body.parameters vs >> body.text (place program b body.site.class))

-- the first class of a name that has a `main`
record Found (classes : List MainClass) (name : Name) : Type 0 where
  class : MainClass
  main : MainMethod
  one : IsOneOf class classes
  named : class.name ≡ name
  its : class.main ≡ Some main
  entry : main_entry (filter_map entry_class classes) name (codes "main") 1 ≡ Some (main_site class.name)
  java : (program : Program) (b : Bodies) (vs : List Value) → enter program b (filter_map java_method classes) (main_site class.name) vs ≡ text_in program b (java_main class.name main) vs
  kotlin : (program : Program) (b : Bodies) (vs : List Value) → enter program b (filter_map kotlin_method (classes_of classes)) (main_site class.name) vs ≡ text_in program b (kotlin_main class.name (main_of main)) vs

both_true : (b c : Bool) → b ≡ true → c ≡ true → (b && c) ≡ true
both_true true true h g = refl
both_true true false h g = cc
both_true false c h g = cc

if_true : {A : Type 0} (b : Bool) (x y : A) → b ≡ true → (if b then x else y) ≡ x
if_true true x y h = refl
if_true false x y h = cc

if_false : {A : Type 0} (b : Bool) (x y : A) → b ≡ false → (if b then x else y) ≡ y
if_false true x y h = cc
if_false false x y h = refl

and_false : (b c : Bool) → b ≡ false → (b && c) ≡ false
and_false true c h = cc
and_false false c h = refl

-- places of different names differ
site_false : (c d : Name) → same_name c d ≡ false → same_site (main_site c) (main_site d) ≡ false
site_false c d h = rw h refl

entry_first : (own : Name) (names : List Name) (name : Name) → same_name name own ≡ true → main_entry (own ∷ names) name (codes "main") 1 ≡ Some (main_site own)
entry_first own names name same = if_true ((same_name name own && true) && true) (Some (main_site own)) (main_entry names name (codes "main") 1) (both_true (same_name name own && true) true (both_true (same_name name own) true same refl) refl)

entry_later : (own : Name) (names : List Name) (name : Name) → same_name name own ≡ false → main_entry (own ∷ names) name (codes "main") 1 ≡ main_entry names name (codes "main") 1
entry_later own names name differs = if_false ((same_name name own && true) && true) (Some (main_site own)) (main_entry names name (codes "main") 1) (and_false (same_name name own && true) true (and_false (same_name name own) true differs))

-- the class itself
found_here : (class : MainClass) (main : MainMethod) (classes : List MainClass) (name : Name) → class.main ≡ Some main → same_name name class.name ≡ true → Found (class ∷ classes) name
found_here class main classes name its same =
    let named : class.name ≡ name = sym (same_name_true name class.name same) in
    record {
      class = class;
      main = main;
      one = inl refl;
      named = named;
      its = its;
      entry = ap (λ (m : Option MainMethod). main_entry (cons_option (option_map (λ (m : MainMethod). class.name) m) (filter_map entry_class classes)) name (codes "main") 1) its ∙ entry_first class.name (filter_map entry_class classes) name same;
      java = λ program b vs. ap (λ (m : Option MainMethod). enter program b (cons_option (option_map (java_main class.name) m) (filter_map java_method classes)) (main_site class.name) vs) its ∙ if_true _ _ _ (same_site_self (main_site class.name));
      kotlin = λ program b vs. ap (λ (m : Option MainMethod). enter program b (cons_option (option_map (kotlin_main class.name) (option_map main_of m)) (filter_map kotlin_method (classes_of classes))) (main_site class.name) vs) its ∙ if_true _ _ _ (same_site_self (main_site class.name));
    }

-- behind a class without a `main`, or of another name
found_later : (class : MainClass) (o : Option MainMethod) (classes : List MainClass) (name : Name) → class.main ≡ o → ((main : MainMethod) → o ≡ Some main → same_name name class.name ≡ false) → Found classes name → Found (class ∷ classes) name
found_later class None classes name its other f = record {
  class = f.class;
  main = f.main;
  one = inr f.one;
  named = f.named;
  its = f.its;
  entry = ap (λ (m : Option MainMethod). main_entry (cons_option (option_map (λ (m : MainMethod). class.name) m) (filter_map entry_class classes)) name (codes "main") 1) its ∙ f.entry;
  java = λ program b vs. ap (λ (m : Option MainMethod). enter program b (cons_option (option_map (java_main class.name) m) (filter_map java_method classes)) (main_site f.class.name) vs) its ∙ f.java program b vs;
  kotlin = λ program b vs. ap (λ (m : Option MainMethod). enter program b (cons_option (option_map (kotlin_main class.name) (option_map main_of m)) (filter_map kotlin_method (classes_of classes))) (main_site f.class.name) vs) its ∙ f.kotlin program b vs;
}
found_later class (Some main) classes name its other f =
    let differs : same_name name class.name ≡ false = other main refl in
    let apart : same_site (main_site class.name) (main_site f.class.name) ≡ false = site_false class.name f.class.name (not_same differs) in
    record {
      class = f.class;
      main = f.main;
      one = inr f.one;
      named = f.named;
      its = f.its;
      entry = ap (λ (m : Option MainMethod). main_entry (cons_option (option_map (λ (m : MainMethod). class.name) m) (filter_map entry_class classes)) name (codes "main") 1) its ∙ entry_later class.name (filter_map entry_class classes) name differs ∙ f.entry;
      java = λ program b vs. ap (λ (m : Option MainMethod). enter program b (cons_option (option_map (java_main class.name) m) (filter_map java_method classes)) (main_site f.class.name) vs) its ∙ if_false _ _ _ apart ∙ f.java program b vs;
      kotlin = λ program b vs. ap (λ (m : Option MainMethod). enter program b (cons_option (option_map (kotlin_main class.name) (option_map main_of m)) (filter_map kotlin_method (classes_of classes))) (main_site f.class.name) vs) its ∙ if_false _ _ _ apart ∙ f.kotlin program b vs;
    }
  where
    not_same : same_name name class.name ≡ false → same_name class.name f.class.name ≡ false
    not_same differs = go (same_name class.name f.class.name) refl
      where
        go : (b : Bool) → same_name class.name f.class.name ≡ b → b ≡ false
        go true e =
            let same : class.name ≡ name = same_name_true class.name f.class.name e ∙ f.named in
            let bad : true ≡ false = sym (same_name_self name) ∙ subst (λ x. same_name name x ≡ false) same differs in bad
        go false e = refl

-- by the `main` of the first class
found_in : (class : MainClass) (o : Option MainMethod) (classes : List MainClass) (entry : Entry) → class.main ≡ o → (AreMains (filter_map entry_class classes) entry → Found classes entry.class) →
    AreMains (cons_option (option_map (λ (m : MainMethod). class.name) o) (filter_map entry_class classes)) entry → Found (class ∷ classes) entry.class
found_in class None classes entry its later are = found_later class None classes entry.class its (λ main e. cc) (later are)
found_in class (Some main) classes entry its later are = go (same_name entry.class class.name) refl are
  where
    go : (b : Bool) → same_name entry.class class.name ≡ b → AreMains (class.name ∷ filter_map entry_class classes) entry → Found (class ∷ classes) entry.class
    go true e h = found_here class main classes entry.class its e
    go false e (inl is) =
        let same : entry.class ≡ class.name = ap (λ (x : Entry). x.class) is in
        let bad : true ≡ false = sym (same_name_self class.name) ∙ subst (λ x. same_name x class.name ≡ false) same e in absurd (cc bad)
    go false e (inr h) = found_later class (Some main) classes entry.class its (λ other is. e) (later h)

found : (classes : List MainClass) (entry : Entry) → AreMains (filter_map entry_class classes) entry → Found classes entry.class
found [] entry h = absurd h
found (class ∷ classes) entry h = found_in class class.main classes entry refl (found classes entry) h

-- what it is called and takes
record IsMainOf (entry : Entry) : Type 0 where
  method : entry.method ≡ codes "main"
  takes : entry.takes ≡ Strings

main_of_mains : (names : List Name) (entry : Entry) → AreMains names entry → IsMainOf entry
main_of_mains [] entry h = absurd h
main_of_mains (class ∷ names) entry (inl is) = record { method = ap (λ (x : Entry). x.method) is; takes = ap (λ (x : Entry). x.takes) is }
main_of_mains (class ∷ names) entry (inr h) = main_of_mains names entry h

none_is_configured : {P : Type 0} (java : List TUnit) (texts : List Name) (entry : Entry) → AreConfigured java texts entry → P
none_is_configured java [] entry h = absurd h
none_is_configured java (text ∷ texts) entry (inl h) = absurd h
none_is_configured java (text ∷ texts) entry (inr h) = none_is_configured java texts entry h

one_deeper : (n k : ℕ) → suc n + k ≡ suc (n + k)
one_deeper n k = omega arith

module _ (files : List TUnit) where
  abbrev classes : List MainClass
  classes = java_classes_in files

  in_java : (entry : Entry) → IsMainOf entry → (site : Site) → main_entry (filter_map entry_class classes) entry.class (codes "main") 1 ≡ Some site → site_of (java_program classes) entry ≡ Some site
  in_java entry is site e =
      ap (λ (method : Name). main_entry (filter_map entry_class classes) entry.class method (count_of entry.takes)) is.method
      ∙ ap (λ (takes : _). main_entry (filter_map entry_class classes) entry.class (codes "main") (count_of takes)) is.takes ∙ e

  entered_main : (entry : Entry) → AreMains (filter_map entry_class classes) entry → IsEntered files (files_of files) entry
  entered_main entry h =
      let f : Found classes entry.class = found classes entry h in
      let there : site_of (java_program classes) entry ≡ Some (main_site f.class.name) = in_java entry (main_of_mains (filter_map entry_class classes) entry h) (main_site f.class.name) f.entry in
      record {
        class = f.class;
        main = f.main;
        one = f.one;
        named = f.named;
        its = f.its;
        in_java = there;
        in_kotlin = ap (λ (ks : List KClass). site_of (kotlin_program ks) (renamed files entry)) (classes_kept files) ∙ sites_kept classes entry.class entry.method (count_of entry.takes) ∙ there;
        java_begins = λ vs answers n.
            ap (λ (d : ℕ). thread_at (java_program classes) d (Enters (main_site f.class.name) vs) answers (suc n)) (one_deeper n (length answers))
            ∙ ap (λ (m : Meaning (Unit {0})). turn (returned [] (m (record { locals = []; answers = answers; n = suc n })))) (f.java (java_program classes) (bodies (java_program classes) (n + length answers)) vs);
        kotlin_begins = λ vs answers n.
            subst (λ (ks : List KClass). thread (kotlin_program ks) (Enters (main_site f.class.name) vs) answers (suc n) ≡ entered (kotlin_program ks) (kotlin_main f.class.name (main_of f.main)) vs answers n) (sym (classes_kept files))
            (ap (λ (d : ℕ). thread_at (kotlin_program (classes_of classes)) d (Enters (main_site f.class.name) vs) answers (suc n)) (one_deeper n (length answers))
            ∙ ap (λ (m : Meaning (Unit {0})). turn (returned [] (m (record { locals = []; answers = answers; n = suc n })))) (f.kotlin (kotlin_program (classes_of classes)) (bodies (kotlin_program (classes_of classes)) (n + length answers)) vs));
      }

pub entries_are_entered : (files : List TUnit) (configured : List Name) → EntriesAreEntered files configured (files_of files)
entries_are_entered files configured entry (inl h) = entered_main files entry h
entries_are_entered files configured entry (inr h) = none_is_configured files configured entry h
