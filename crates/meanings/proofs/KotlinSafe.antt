-- The Kotlin of these forms is a typed program, so it never asks Torn.
use Rattle.std.proofs.Common.{◌≡◌, ℕ, zero, suc, ◌<◌, Bool, true, false, ◌&&◌, ◌==◌, List, [], ◌∷◌, ◌++◌, length, map, Option, Some, None, slice_get, slice_index_or, arith, refl, sym, ◌∙◌, ap, subst, if◌then◌else◌}
use Rattle.std.specs.Prelude.{option_map, filter_map, codes}
use Rattle.std.specs.List.{cons_option}
use Rattle.meanings.specs.Convert.{statement_of, main_of, classes_of}
use Rattle.meanings.specs.Values.{Name, same_name, Simple, Field, Site, same_site, Objects, Value, Null, Integer, Boolean, Units, Class, Companion, Object, Array, Lambda, Print as PrintStep, Answer, text_of}
use Rattle.meanings.specs.Outcome.{Locals, get, State, Outcome, Jump, Exits, Returns, Throws, then_do, ◌>>◌}
use Rattle.meanings.specs.Machine.{Place}
use Rattle.meanings.specs.Program.{Program, Body, main_site, main_entry, place}
use Rattle.meanings.specs.World.{World}
use Rattle.meanings.specs.Runs.{run, NeverTorn}
use Rattle.meanings.specs.Entries.{Strings, Input, AllStrings, passed, first_world, first_threads}
use Rattle.java_typed.specs.declared.exprs.TExpr.{TExpr}
use Rattle.meanings.specs.Taken.{is_taken, Statement, Declares, Prints, Untaken, are_taken, MainMethod, MainClass}
use Rattle.meanings.specs.Java.{entry_class}
use Rattle.meanings.specs.Static.{KType, IntType, StringType, ArrayType, Nullable, Static, extended, main_static}
use Rattle.meanings.specs.Kotlin.{kotlin_stmts, kotlin_main, kotlin_method, kotlin_program, KotlinThread}
use Rattle.meanings.specs.Tables.{Signature, Table, find, Made, AnInstance, AnArrayFor, Known, is_stored, fields_at, Later, Ok, ArrayOk, Has, Holds, Moved}
use Rattle.meanings.specs.Safety.{with_made, Sound, FreeIn, Ends, Leaves, Unset, TypedMethod, AllMethods, TypedProgram, AllEnter}
use Rattle.meanings.proofs.KnownLaws.{has_later}
use Rattle.meanings.proofs.SafeLaws.{same_safe, bind_sound, pure_sound, weaken}
use Rattle.meanings.proofs.SafeSteps.{as_it_was, Thrown, Answers, OfValue, free_lasting, done_sound, reply_is}
use Rattle.meanings.proofs.SameValues.{same_site_self}
use Rattle.meanings.proofs.FormDepth.{kotlin_at_every_depth}
use Rattle.meanings.proofs.Layers.{both_are}
use Rattle.meanings.proofs.Units.{MainTaken, ClassesTaken}
use Rattle.meanings.proofs.Schedules.{never_torn_where_typed}
use Rattle.meanings.proofs.SameText.{is_plain, LocalsGiven, more_given, value, value_given, kotlin_expr_is, prints, print_line_is}

-- ---- the table: each `main` takes an array of Strings, and nothing else is declared

abbrev no_value : KType
no_value = Nullable IntType

abbrev main_signature : Name → MainMethod → Signature
main_signature class main = record { site = main_site class; parameters = (main.parameter, ArrayType StringType) ∷ []; result = no_value }

abbrev signature : MainClass → Option Signature
signature class = option_map (main_signature class.name) class.main

abbrev pub table : List MainClass → Table
table classes = record {
  methods = filter_map signature classes;
  constructors = [];
  field_type = λ f. no_value;
  required = λ f. false;
  needs = λ class f. false;
  static_type = λ f. no_value;
  static_required = λ f. false;
  needs_static = λ class f. false;
  calm = λ class. true;
  below = λ class above. false;
  defaults = [];
}

-- ---- a printed text changes nothing that is known

output_moved : (t : Table) (K : Known) (units : List ℕ) → Ok t K → Moved t K (with_made K as_it_was (record K.world { output = K.world.output ++ units }))
output_moved t K units ok =
    let le : Later K (with_made K as_it_was (record K.world { output = K.world.output ++ units })) = record { shapes = λ k x h. h; fields = λ j g h. h; statics = λ g h. h } in
    record {
      later = le;
      ok = record {
        size = ok.size;
        defaults = ok.defaults;
        fields = λ j g def h. has_later t le _ (t.field_type g) (ok.fields j g def h);
        statics = λ g def h. has_later t le _ (t.static_type g) (ok.statics g def h);
        arrays = λ j type size h. record { count = (ok.arrays j type size h).count; each = λ x l. has_later t le _ type ((ok.arrays j type size h).each x l) };
        ready = ok.ready;
      };
    }

module _ (t : Table) (i : ℕ) where
  abbrev Free : Known → Type 0
  Free K = FreeIn t i K.world.classes

  abbrev Nothing : Known → Value → Type 0
  Nothing K v = Unit {0}

  print_says : (units : List ℕ) (K : Known) → Answers t i (PrintStep units) as_it_was K (OfValue t i Free (free_lasting t i) Nothing)
  print_says units K = record {
    fine = (λ e. cc, λ v e. cc);
    moved = λ K' le ok w a r. subst (λ (w : World). Moved t K' (with_made K' as_it_was w)) (reply_is t i r).0 (output_moved t K' units ok);
    classes = λ K' le ok w a r. ap (λ (w : World). w.classes) (sym (reply_is t i r).0);
    says = λ K' le ok w a r. subst (λ (a : Answer). OfValue t i Free (free_lasting t i) Nothing (with_made K' as_it_was w) a) (reply_is t i r).1 tt;
  }

  thrown_leaves : (K : Known) (j : Jump) (l : Locals) → Thrown t i Free K j l → Leaves t i no_value K j l
  thrown_leaves K (Throws v) l h = h
  thrown_leaves K (Returns v) l h = absurd h
  thrown_leaves K (Exits e) l h = absurd h

  prints_sound : (v : Value) (K : Known) (l : Locals) (n : ℕ) → Free K → Sound t i (λ K' u l'. (l' ≡ l) × Free K') (Leaves t i no_value) K (prints v) l n
  unfolding prints
  prints_sound v K l n free =
      weaken t i (done_sound t i Free (free_lasting t i) {R = Nothing} l n (PrintStep (text_of v ++ 10 ∷ [])) as_it_was (print_says (text_of v ++ 10 ∷ []) K) free)
      (λ K' u l' le q. (q.0, q.1)) (λ K' j l' le q. thrown_leaves K' j l' q)

  -- ---- texts

  local_is : (p : Place) (name : Name) (e : TExpr) → is_taken e ≡ true → (more : List Statement) (static : Static) (s : State) → LocalsGiven s.locals →
      kotlin_stmts (map statement_of (Declares name e ∷ more)) static p s ≡ kotlin_stmts (map statement_of more) (extended static (statement_of (Declares name e))) p (record s { locals = (name, value s.locals e) ∷ s.locals })
  local_is p name e taken more static s h = rw (kotlin_expr_is p e taken static s h) refl

  print_is : (p : Place) (e : TExpr) → is_taken e ≡ true → (more : List Statement) (static : Static) (s : State) → LocalsGiven s.locals →
      kotlin_stmts (map statement_of (Prints e ∷ more)) static p s ≡ (prints (value s.locals e) >> kotlin_stmts (map statement_of more) (extended static (statement_of (Prints e))) p) s
  print_is p e taken more static s h =
      rw (kotlin_expr_is p e taken static s h)
      (ap (λ (o : Outcome (Unit {0})). then_do o (λ a. kotlin_stmts (map statement_of more) (extended static (statement_of (Prints e))) p)) (print_line_is p (value s.locals e) s (value_given s.locals h e taken)))

  text_sound : (p : Place) (body : List Statement) → are_taken body ≡ true → (static : Static) (K : Known) (l : Locals) (n : ℕ) → Free K → LocalsGiven l → Sound t i (Ends t i no_value) (Leaves t i no_value) K (kotlin_stmts (map statement_of body) static p) l n
  text_sound p [] taken static K l n free h = pure_sound t i (free, (IntType, refl))
  text_sound p (Declares name e ∷ more) taken static K l n free h =
      let parts = both_are (is_taken e) (are_taken more) taken in
      let rest : Sound t i (Ends t i no_value) (Leaves t i no_value) K (kotlin_stmts (map statement_of more) (extended static (statement_of (Declares name e))) p) ((name, value l e) ∷ l) n =
      text_sound p more parts.1 (extended static (statement_of (Declares name e))) K ((name, value l e) ∷ l) n free (more_given name (value l e) l (value_given l h e parts.0) h) in
      record { by = same_safe t i (λ xs. sym (local_is p name e parts.0 more static (record { locals = l; answers = xs; n = n }) h)) rest.by }
  text_sound p (Prints e ∷ more) taken static K l n free h =
      let parts = both_are (is_taken e) (are_taken more) taken in
      let both : Sound t i (Ends t i no_value) (Leaves t i no_value) K (prints (value l e) >> kotlin_stmts (map statement_of more) (extended static (statement_of (Prints e))) p) l n =
      bind_sound t i (prints_sound (value l e) K l n free) (λ K' u l' n' le q.
      subst (λ (l' : Locals). Sound t i (Ends t i no_value) (Leaves t i no_value) K' (kotlin_stmts (map statement_of more) (extended static (statement_of (Prints e))) p) l' n') (sym q.0)
      (text_sound p more parts.1 (extended static (statement_of (Prints e))) K' l n' q.1 h)) in
      record { by = same_safe t i (λ xs. sym (print_is p e parts.0 more static (record { locals = l; answers = xs; n = n }) h)) both.by }
  text_sound p (Untaken ∷ more) taken static K l n free h = absurd (cc taken)

-- ---- the program

plain_array : (t : Table) (K : Known) (v : Value) → Has t K v (ArrayType StringType) → is_plain v ≡ true
plain_array t K v h = rw h.is refl

parameter_given : (t : Table) (K : Known) (l : Locals) (parameter : Name) → Holds t K l ((parameter, ArrayType StringType) ∷ []) → Unset l ((parameter, ArrayType StringType) ∷ []) → LocalsGiven l
parameter_given t K l parameter holds unset name = go (same_name parameter name) refl
  where
    go : (b : Bool) → same_name parameter name ≡ b → is_plain (get l name) ≡ true
    go true e = plain_array t K (get l name) (holds name (ArrayType StringType) (ap (λ (b : Bool). if b then Some (ArrayType StringType) else None) e))
    go false e = ap is_plain (unset name (ap (λ (b : Bool). if b then Some (ArrayType StringType) else None) e))

module _ (classes : List MainClass) where
  abbrev kotlin : Program
  kotlin = kotlin_program (classes_of classes)

  typed_main : (class : Name) (main : MainMethod) → are_taken main.body ≡ true → TypedMethod (table classes) kotlin (main_signature class main) (kotlin_main class (main_of main))
  typed_main class main taken = record {
    site = refl;
    parameters = refl;
    different = (λ y e. refl, tt);
    text = λ i b ok K l n free settled holds unset.
        text_sound (table classes) i (place kotlin b (Simple class)) main.body taken (main_static class main.parameter) K l n free (parameter_given (table classes) K l main.parameter holds unset);
  }

  typed_first : (class : Name) (main : Option MainMethod) → MainTaken main → (ms : List Signature) (bs : List Body) → AllMethods (table classes) kotlin ms bs →
      AllMethods (table classes) kotlin (cons_option (option_map (main_signature class) main) ms) (cons_option (option_map (kotlin_main class) (option_map main_of main)) bs)
  typed_first class None taken ms bs h = h
  typed_first class (Some main) taken ms bs h = (typed_main class main taken, h)

  typed_all : (list : List MainClass) → ClassesTaken list → AllMethods (table classes) kotlin (filter_map signature list) (filter_map kotlin_method (classes_of list))
  typed_all [] taken = tt
  typed_all (class ∷ list) taken = typed_first class.name class.main taken.0 _ _ (typed_all list taken.1)

  pub typed_kotlin : ClassesTaken classes → TypedProgram (table classes) kotlin
  typed_kotlin taken = record { methods = typed_all classes taken; constructors = tt; initializers = λ class f need. cc; calm = λ class f need. refl; idle = λ class f need. cc }

-- ---- the first world

string_at : (t : Table) (K : Known) (vs : List Value) → AllStrings vs → (j : ℕ) → j < length vs → Has t K (slice_index_or vs j Null) StringType
string_at t K [] h j le = absurd (omega (arith, le))
string_at t K (Units units ∷ vs) h zero le = record { units = units; is = refl }
string_at t K (Null ∷ vs) h zero le = cc
string_at t K (Integer kind z ∷ vs) h zero le = cc
string_at t K (Boolean b ∷ vs) h zero le = cc
string_at t K (Class name ∷ vs) h zero le = cc
string_at t K (Companion name ∷ vs) h zero le = cc
string_at t K (Object class k captured ∷ vs) h zero le = cc
string_at t K (Array elements size k ∷ vs) h zero le = cc
string_at t K (Lambda site k captured ∷ vs) h zero le = cc
string_at t K (v ∷ vs) h (suc j) le = string_at t K vs h.1 j (omega (arith, le))

module _ (classes : List MainClass) (input : Input) (strings : AllStrings input.arguments) where
  abbrev pub first_known : Known
  first_known = record { shapes = AnArrayFor StringType (length input.arguments) ∷ []; world = first_world (kotlin_program (classes_of classes)) Strings input }

  none_stored : (k : ℕ) (f : Field) → is_stored (fields_at first_known k) f ≡ false
  none_stored zero f = refl
  none_stored (suc k) f = refl

  first_array : (k : ℕ) (type : KType) (size : ℕ) → slice_get first_known.shapes k ≡ Some (AnArrayFor type size) → ArrayOk (table classes) first_known k type size
  first_array zero type size e =
      let same : AnArrayFor StringType (length input.arguments) ≡ AnArrayFor type size = cc in
      let types : StringType ≡ type = ap (λ (m : Made). type_of_made m) same in
      let sizes : length input.arguments ≡ size = ap (λ (m : Made). size_of_made m) same in
      record {
        count = sizes;
        each = λ j le. subst (λ (x : KType). Has (table classes) first_known (slice_index_or input.arguments j Null) x) types (string_at (table classes) first_known input.arguments strings j (omega (arith, le, sizes)));
      }
    where
      type_of_made : Made → KType
      type_of_made (AnArrayFor type size) = type
      type_of_made (AnInstance class) = no_value

      size_of_made : Made → ℕ
      size_of_made (AnArrayFor type size) = size
      size_of_made (AnInstance class) = 0
  first_array (suc k) type size e = cc

  pub first_ok : Ok (table classes) first_known
  first_ok = record {
    size = refl;
    defaults = refl;
    fields = λ k f other h. let no : false ≡ true = sym (none_stored k f) ∙ h in cc;
    statics = λ f other h. cc;
    arrays = first_array;
    ready = λ class h. cc;
  }

-- ---- the entry point is in the table

record Listed (ms : List Signature) (site : Site) : Type 0 where
  class : Name
  main : MainMethod
  is : find ms site ≡ Some (main_signature class main)

listed_by : (class : Name) (main : MainMethod) (ms : List Signature) (site : Site) (b : Bool) → same_site (main_site class) site ≡ b → (b ≡ false → Listed ms site) → Listed (main_signature class main ∷ ms) site
listed_by class main ms site true e h = record { class = class; main = main; is = ap (λ (b : Bool). if b then Some (main_signature class main) else find ms site) e }
listed_by class main ms site false e h =
    let later : Listed ms site = h refl in
    record { class = later.class; main = later.main; is = ap (λ (b : Bool). if b then Some (main_signature class main) else find ms site) e ∙ later.is }

listed_first : (class : Name) (main : Option MainMethod) (ms : List Signature) (names : List Name) (name method : Name) (count : ℕ) (site : Site) →
    (main_entry names name method count ≡ Some site → Listed ms site) →
    main_entry (cons_option (option_map (λ (m : MainMethod). class) main) names) name method count ≡ Some site → Listed (cons_option (option_map (main_signature class) main) ms) site
listed_first class None ms names name method count site h e = h e
listed_first class (Some main) ms names name method count site h e = go (same_name name class && same_name method (codes "main") && (count == 1)) e
  where
    go : (b : Bool) → (if b then Some (main_site class) else main_entry names name method count) ≡ Some site → Listed (main_signature class main ∷ ms) site
    go true e =
        let same : main_site class ≡ site = cc in
        let here : same_site (main_site class) site ≡ true = subst (λ (x : Site). same_site (main_site class) x ≡ true) same (same_site_self (main_site class)) in
        listed_by class main ms site true here (λ no. cc)
    go false e = listed_by class main ms site (same_site (main_site class) site) refl (λ no. h e)

listed : (classes : List MainClass) (name method : Name) (count : ℕ) (site : Site) → main_entry (filter_map entry_class classes) name method count ≡ Some site → Listed (filter_map signature classes) site
listed [] name method count site e = cc
listed (class ∷ classes) name method count site e = listed_first class.name class.main _ _ name method count site (listed classes name method count site) e

module _ (classes : List MainClass) (input : Input) (strings : AllStrings input.arguments) where
  first_enters : (o : Option Site) → ((site : Site) → o ≡ Some site → Listed (filter_map signature classes) site) → AllEnter (table classes) (first_known classes input strings) (first_threads o (passed Strings input.arguments))
  first_enters None h = tt
  first_enters (Some site) h =
      let in_table : Listed (filter_map signature classes) site = h site refl in (
        (
          main_signature in_table.class in_table.main,
          in_table.is,
          (record { elements = Objects (codes "String"); size = length input.arguments; number = 0; is = refl; shape = refl }, tt),
        ),
        refl,
        tt,
      )

  -- no run from an entry point asks Torn
  pub kotlin_never_torn : ClassesTaken classes → (class method : Name) (count n : ℕ) (schedule : List ℕ) →
      NeverTorn (run (KotlinThread (classes_of classes)) n (first_world (kotlin_program (classes_of classes)) Strings input) (first_threads (main_entry (filter_map entry_class classes) class method count) (passed Strings input.arguments)) schedule)
  kotlin_never_torn taken class method count n schedule =
      (never_torn_where_typed (table classes) (kotlin_program (classes_of classes)) (typed_kotlin classes taken) (first_known classes input strings) (first_ok classes input strings) refl _
      (first_enters (main_entry (filter_map entry_class classes) class method count) (listed classes class method count))).whole (kotlin_at_every_depth (classes_of classes)) n schedule
