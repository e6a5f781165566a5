-- The headline: the Kotlin makes the Java's steps.
use Rattle.std.specs.Prelude.{◌≡◌, ◌⊎◌, ℕ, suc, ◌+◌, List, [], ◌∷◌, length, Some, filter_map, codes}
use Rattle.java_typed.specs.declared.units.TUnit.{TUnit}
use Rattle.meanings.specs.declared.kotlin.KFile.{KFile}
use Rattle.meanings.specs.Values.{Name, Value, Answer}
use Rattle.meanings.specs.Outcome.{◌>>◌, assign_all}
use Rattle.meanings.specs.Machine.{apart}
use Rattle.meanings.specs.Program.{Program, Body, main_site, place, bodies, Enters, Turn, turn}
use Rattle.meanings.specs.Taken.{MainMethod, MainClass, classes_in as java_classes_in}
use Rattle.meanings.specs.Convert.{main_of}
use Rattle.meanings.specs.Entries.{Strings, Entry, Input, count_of, Fits, site_of, run_of}
use Rattle.meanings.specs.Runs.{Item, NeverTorn}
use Rattle.meanings.specs.Java.{entry_class, java_main, JavaThread, java_program}
use Rattle.meanings.specs.Kotlin.{classes_in as kotlin_classes_in, kotlin_main, kotlin_program, KotlinThread}

-- each class of these names has the entry point `main`
abbrev pub AreMains : List Name → Entry → Type 0
AreMains [] entry = ⊥
AreMains (class ∷ names) entry = (entry ≡ record { class = class; method = codes "main"; takes = Strings }) ⊎ AreMains names entry

-- What a configured text names: a method that is static, isn't private and takes values of primitive types and Strings alone (own
-- rule). The classes of this form have none, since their `main` takes an array.
abbrev pub IsNamed : List TUnit → Name → Entry → Type 0
IsNamed java text entry = ⊥

-- the entry points that are configured
abbrev pub AreConfigured : List TUnit → List Name → Entry → Type 0
AreConfigured java [] entry = ⊥
AreConfigured java (text ∷ texts) entry = IsNamed java text entry ⊎ AreConfigured java texts entry

-- The entry points of a project: each class's `public static void main(String[])` (JLS 12.1.4), and those that are configured. A class
-- without `main` has none.
abbrev pub Entries : List TUnit → List Name → Entry → Type 0
Entries java configured entry = AreMains (filter_map entry_class (java_classes_in java)) entry ⊎ AreConfigured java configured entry

-- The recorded names: the name in Kotlin of a method, by its class, its name and its number of parameters. A class and a field keep
-- theirs, and in this form a method does (own rule).
abbrev pub Renames : List TUnit → Name → Name → ℕ → Name
Renames java class method count = method

-- an entry point under the recorded names
abbrev pub renamed : List TUnit → Entry → Entry
renamed java entry = record entry { method = Renames java entry.class entry.method (count_of entry.takes) }

-- what the Java project does
abbrev pub JavaRun : List TUnit → Entry → Input → List ℕ → ℕ → List Item
JavaRun java = run_of (java_program (java_classes_in java))

-- what the Kotlin project does
abbrev pub KotlinRun : List KFile → Entry → Input → List ℕ → ℕ → List Item
KotlinRun kotlin = run_of (kotlin_program (kotlin_classes_in kotlin))

-- For every entry point, fitting input, schedule and bound the Kotlin makes exactly the Java's steps under the recorded names, and
-- Torn never comes.
pub record SameSteps (java : List TUnit) (configured : List Name) (kotlin : List KFile) : Type 0 where
  pub same : (entry : Entry) → Entries java configured entry → (input : Input) → Fits entry.takes input.arguments → (schedule : List ℕ) (n : ℕ) →
      KotlinRun kotlin (renamed java entry) input schedule n ≡ JavaRun java entry input schedule n
  pub never_torn : (entry : Entry) → Entries java configured entry → (input : Input) → Fits entry.takes input.arguments → (schedule : List ℕ) (n : ℕ) →
      NeverTorn (KotlinRun kotlin (renamed java entry) input schedule n)

-- ---- entry points are found

-- a thread that has entered a body goes on with its text; the entry took one of n
abbrev pub entered : Program → Body → List Value → List Answer → ℕ → Turn
entered program body vs answers n =
    turn (apart (assign_all body.parameters vs >> body.text (place program (bodies program (n + length answers)) body.site.class)) (record { locals = []; answers = answers; n = n }))

-- it is one of these classes
abbrev pub IsOneOf : MainClass → List MainClass → Type 0
IsOneOf class [] = ⊥
IsOneOf class (first ∷ classes) = (class ≡ first) ⊎ IsOneOf class classes

-- An entry point is the `main` of a class of the project, which both programs have at one place; there the Java thread begins with its text,
-- and the Kotlin thread with the text of its Kotlin.
pub record IsEntered (java : List TUnit) (kotlin : List KFile) (entry : Entry) : Type 0 where
  pub class : MainClass
  pub main : MainMethod
  pub one : IsOneOf class (java_classes_in java)
  pub named : class.name ≡ entry.class
  pub its : class.main ≡ Some main
  pub in_java : site_of (java_program (java_classes_in java)) entry ≡ Some (main_site class.name)
  pub in_kotlin : site_of (kotlin_program (kotlin_classes_in kotlin)) (renamed java entry) ≡ Some (main_site class.name)
  pub java_begins : (vs : List Value) (answers : List Answer) (n : ℕ) → JavaThread (java_classes_in java) (Enters (main_site class.name) vs) answers (suc n) ≡ entered (java_program (java_classes_in java)) (java_main class.name main) vs answers n
  pub kotlin_begins : (vs : List Value) (answers : List Answer) (n : ℕ) → KotlinThread (kotlin_classes_in kotlin) (Enters (main_site class.name) vs) answers (suc n) ≡ entered (kotlin_program (kotlin_classes_in kotlin)) (kotlin_main class.name (main_of main)) vs answers n

-- so is each
abbrev pub EntriesAreEntered : List TUnit → List Name → List KFile → Type 0
EntriesAreEntered java configured kotlin = (entry : Entry) → Entries java configured entry → IsEntered java kotlin entry
