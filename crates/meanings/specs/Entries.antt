-- Entry points, inputs, and how a run of a program begins.
use Rattle.std.specs.Prelude.{◌≡◌, ℕ, Bool, true, false, List, [], ◌∷◌, length, Option, Some, None, codes}
use Rattle.meanings.specs.Values.{Name, Site, Elements, Integers, Booleans, Objects, Arrays, Value, Null, Boolean, Units, Array, is_true}
use Rattle.meanings.specs.Machine.{cast_to}
use Rattle.meanings.specs.Library.{Content}
use Rattle.meanings.specs.Program.{Program, Enters, thread}
use Rattle.meanings.specs.World.{World}
use Rattle.meanings.specs.Runs.{Thread, Item, run}

-- what an entry point takes: the `String[]` of a `main` (JLS 12.1.4), or values of primitive types and Strings (own rule)
pub data Takes : Type 0 where
  Strings : Takes
  Values : List Elements → Takes

-- an entry point, by its class, its method and what that takes
pub record Entry : Type 0 where
  pub class : Name
  pub method : Name
  pub takes : Takes

-- the arguments of an entry point, and the bytes of the standard input
pub record Input : Type 0 where
  pub arguments : List Value
  pub bytes : List ℕ

-- ---- what fits an entry point

-- how many parameters it has
abbrev pub count_of : Takes → ℕ
count_of Strings = 1
count_of (Values types) = length types

-- a String that isn't null
abbrev pub is_string : Value → Bool
is_string (Units units) = true
is_string _ = false

-- a String or null
abbrev pub may_be_string : Value → Bool
may_be_string Null = true
may_be_string v = is_string v

-- a value is one of a parameter's type: a number in its range, a truth value, a String or null
abbrev pub Suits : Elements → Value → Type 0
Suits (Integers kind) v = cast_to kind v ≡ v
Suits Booleans v = Boolean (is_true v) ≡ v
Suits (Objects name) v = may_be_string v ≡ true
Suits (Arrays inner) v = ⊥

-- each value is one of the type at its place
abbrev pub AllSuit : List Elements → List Value → Type 0
AllSuit [] [] = Unit {0}
AllSuit (type ∷ types) (v ∷ vs) = Suits type v × AllSuit types vs
AllSuit _ _ = ⊥

-- Strings, none of them null
abbrev pub AllStrings : List Value → Type 0
AllStrings [] = Unit {0}
AllStrings (v ∷ vs) = (is_string v ≡ true) × AllStrings vs

-- The arguments fit: those of a `main` are Strings that aren't null; a String argument of another entry point may be null (own rule).
abbrev pub Fits : Takes → List Value → Type 0
Fits Strings vs = AllStrings vs
Fits (Values types) vs = AllSuit types vs

-- ---- how a run begins

-- the Strings of a `main` stand in an array (JLS 12.1.4), the first object on the heap
abbrev pub passed : Takes → List Value → List Value
passed Strings vs = Array (Objects (codes "String")) (length vs) 0 ∷ []
passed (Values types) vs = vs

-- the heap before the first step
abbrev pub first_heap : Takes → List Value → List Content
first_heap Strings vs = record { fields = []; elements = vs } ∷ []
first_heap (Values types) vs = []

-- nothing was done yet, and the one thread has the number 0 (own rule)
abbrev pub first_world : Program → Takes → Input → World
first_world program takes input = record {
  heap = first_heap takes input.arguments;
  statics = [];
  defaults = program.defaults;
  classes = [];
  monitors = [];
  threads = record { object = Null; ended = false } ∷ [];
  input = input.bytes;
  output = [];
}

-- the thread that enters the method, where the program has one of this name and number of parameters (JLS 12.1.4)
abbrev pub first_threads : Option Site → List Value → List Thread
first_threads None vs = []
first_threads (Some site) vs = record { start = Enters site vs; had = [] } ∷ []

-- where the method of an entry point stands in a program
abbrev pub site_of : Program → Entry → Option Site
site_of program entry = program.entry entry.class entry.method (count_of entry.takes)

-- a run of a program, under a schedule of thread numbers, with the bound n
abbrev pub run_of : Program → Entry → Input → List ℕ → ℕ → List Item
run_of program entry input schedule n =
    run (thread program) n (first_world program entry.takes input) (first_threads (site_of program entry) (passed entry.takes input.arguments)) schedule
