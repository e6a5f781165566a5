-- What holds of every program, world and run.
use Rattle.std.specs.Prelude.{◌≡◌, ◌↔◌, ℕ, zero, suc, ◌+◌, ◌≤◌, Bool, true, false, List, [], ◌∷◌, ◌++◌, length, Some, slice_get, if◌then◌else◌, ◌==◌}
use Rattle.java_typed.specs.declared.units.TUnit.{TUnit}
use Rattle.meanings.specs.Taken.{is_taken_unit, AllTaken}
use Rattle.meanings.specs.Values.{ClassName, same_class, Field, Value, same_value, Step, Touch, InitEnd, Alloc, Put, PutStatic, PutElem, Enter, Exit, Print, ReadByte, Lib, Raise, Start as StartStep, End, Answer}
use Rattle.meanings.specs.Convert.{file_of, files_of}
use Rattle.meanings.specs.JTyped.{JTyped}
use Rattle.meanings.specs.JNamed.{JNamed}
use Rattle.meanings.specs.KSpells.{KSpells}
use Rattle.meanings.specs.KText.{KText}
use Rattle.meanings.specs.Static.{KTyped}
use Rattle.meanings.specs.Program.{Program, Start, thread, thread_at}
use Rattle.meanings.specs.World.{World, IsReady, IsFailed, state_of, hold_of, answer}
use Rattle.meanings.specs.Runs.{Item, Stepped, Blocked, WasBusy, HadEnded, Missing, Thread, Behavior, turn_of, run, world_after}

-- a value is the same as itself alone
abbrev pub SameIsEqual : Type 0
SameIsEqual = (v w : Value) → (same_value v w ≡ true) ↔ (v ≡ w)

-- ---- typing

-- the Kotlin of well typed units that are taken is well typed
abbrev pub TypesAreKept : Type 0
TypesAreKept = (units : List TUnit) → AllTaken units → JTyped units → KTyped (files_of units)

-- the canonical text of the Kotlin of a unit that is taken spells it
abbrev pub SpellingIsKept : Type 0
SpellingIsKept = (unit : TUnit) → is_taken_unit unit ≡ true → JNamed unit → KSpells (file_of unit) (KText (file_of unit))

-- ---- threads

-- each depth from n + length answers on gives the same thread
abbrev pub SameAtEveryDepth : Program → Type 0
SameAtEveryDepth program = (start : Start) (answers : List Answer) (n d : ℕ) → n + length answers ≤ d → thread_at program d start answers n ≡ thread program start answers n

-- ---- runs

-- what holds of the world and the threads is kept by each turn
pub record IsKept (next : Behavior) (n : ℕ) (Holds : World → List Thread → Type 0) : Type 0 where
  pub kept : (w : World) (ts : List Thread) (i : ℕ) → Holds w ts → Holds (turn_of next n w ts i (slice_get ts i)).world (turn_of next n w ts i (slice_get ts i)).threads

-- the threads do the same next, in each world where it holds
pub record SameThreads (next next' : Behavior) (n : ℕ) (Holds : World → List Thread → Type 0) : Type 0 where
  pub same : (w : World) (ts : List Thread) → Holds w ts → (i : ℕ) (t : Thread) → slice_get ts i ≡ Some t → next t.start t.had n ≡ next' t.start t.had n

-- equal threads, under an invariant that each turn keeps, give equal runs for every schedule
abbrev pub EqualRuns : (World → List Thread → Type 0) → Type 0
EqualRuns Holds = (next next' : Behavior) (n : ℕ) → IsKept next n Holds → SameThreads next next' n Holds →
    (w : World) (ts : List Thread) → Holds w ts → (schedule : List ℕ) → run next n w ts schedule ≡ run next' n w ts schedule

-- What relates two worlds and the threads: where it holds, a turn records the same in both and leaves the same threads, and it holds again.
-- Two worlds need not be equal: a field that is stored before each read may have another default in each language.
pub record MatchingTurns (next next' : Behavior) (n : ℕ) (Relates : World → World → List Thread → Type 0) : Type 0 where
  pub item : (w w' : World) (ts : List Thread) (i : ℕ) → Relates w w' ts → (turn_of next n w ts i (slice_get ts i)).item ≡ (turn_of next' n w' ts i (slice_get ts i)).item
  pub threads : (w w' : World) (ts : List Thread) (i : ℕ) → Relates w w' ts → (turn_of next n w ts i (slice_get ts i)).threads ≡ (turn_of next' n w' ts i (slice_get ts i)).threads
  pub kept : (w w' : World) (ts : List Thread) (i : ℕ) → Relates w w' ts → Relates (turn_of next n w ts i (slice_get ts i)).world (turn_of next' n w' ts i (slice_get ts i)).world (turn_of next n w ts i (slice_get ts i)).threads

-- matching turns give equal runs, also from worlds that aren't equal
abbrev pub MatchingRuns : (World → World → List Thread → Type 0) → Type 0
MatchingRuns Relates = (next next' : Behavior) (n : ℕ) → MatchingTurns next next' n Relates →
    (w w' : World) (ts : List Thread) → Relates w w' ts → (schedule : List ℕ) → run next n w ts schedule ≡ run next' n w' ts schedule

-- the item is a step with its answer
abbrev pub is_step : Item → Bool
is_step (Stepped i p a) = true
is_step (Blocked i p) = false
is_step (WasBusy i) = false
is_step (HadEnded i) = false
is_step (Missing i) = false

-- a turn that is no step, as a blocked one, changes nothing
abbrev pub OnlyStepsChange : Type 0
OnlyStepsChange = (next : Behavior) (n : ℕ) (w : World) (ts : List Thread) (i : ℕ) → is_step (turn_of next n w ts i (slice_get ts i)).item ≡ false →
    ((turn_of next n w ts i (slice_get ts i)).world ≡ w) × ((turn_of next n w ts i (slice_get ts i)).threads ≡ ts)

-- the world and the run number the same threads: this is kept by each turn
abbrev pub ThreadsAgree : Type 0
ThreadsAgree = (next : Behavior) (n : ℕ) (w : World) (ts : List Thread) (i : ℕ) → length w.threads ≡ length ts →
    length (turn_of next n w ts i (slice_get ts i)).world.threads ≡ length (turn_of next n w ts i (slice_get ts i)).threads

-- ---- answers

-- a step has one answer at most
abbrev pub OneAnswer : Type 0
OneAnswer = (w : World) (thread : ℕ) (p : Step) (r r' : World × Answer) → answer w thread p ≡ Some r → answer w thread p ≡ Some r' → r ≡ r'

-- what a step prints
abbrev pub printed : Step → List ℕ
printed (Print units) = units
printed _ = []

-- the input without its first byte
abbrev pub rest_of : List ℕ → List ℕ
rest_of [] = []
rest_of (b ∷ input) = input

-- the input that a step leaves
abbrev pub left : Step → List ℕ → List ℕ
left ReadByte input = rest_of input
left _ input = input

-- the statics that a step leaves
abbrev pub statics_after : Step → List (Field × Value) → List (Field × Value)
statics_after (PutStatic field v) statics = (field, v) ∷ statics
statics_after _ statics = statics

-- the steps that make or store into an object
abbrev pub changes_heap : Step → Bool
changes_heap (Alloc shape) = true
changes_heap (Put v field new) = true
changes_heap (PutElem v k new) = true
changes_heap (Lib row vs) = true
changes_heap (Raise class) = true
changes_heap (StartStep v) = true
changes_heap _ = false

-- the steps that start or end a thread
abbrev pub changes_threads : Step → Bool
changes_threads (StartStep v) = true
changes_threads (End ending) = true
changes_threads _ = false

-- whether the step is about this class's initialization
abbrev pub names_class : Step → ClassName → Bool
names_class (Touch other) class = same_class other class
names_class (InitEnd other well) class = same_class other class
names_class _ class = false

-- how often the monitor of a value is entered
abbrev pub count_of : World → Value → ℕ
count_of w v = (hold_of w.monitors v).count

-- the entries of this monitor that the step makes
abbrev pub entries : Step → Value → ℕ
entries (Enter other) v = if same_value other v then 1 else 0
entries _ v = 0

-- an exit counts where the thread owns the monitor
abbrev pub owned : ℕ → ℕ → ℕ → ℕ
owned thread owner zero = 0
owned thread owner (suc k) = if owner == thread then 1 else 0

-- the exits of this monitor that the step makes: those of its owner
abbrev pub exits : World → ℕ → Step → Value → ℕ
exits w thread (Exit other) v = if same_value other v then owned thread (hold_of w.monitors other).owner (hold_of w.monitors other).count else 0
exits w thread _ v = 0

-- The world after a step changed in nothing but what the step says: the output grew by what was printed, a class that is ready or failed stays so,
-- and the count of each monitor is what it was with the entry and without the exit.
pub record Answered (w : World) (thread : ℕ) (p : Step) (after : World) : Type 0 where
  pub output : after.output ≡ w.output ++ printed p
  pub input : after.input ≡ left p w.input
  pub statics : after.statics ≡ statics_after p w.statics
  pub defaults : after.defaults ≡ w.defaults
  pub heap : changes_heap p ≡ false → after.heap ≡ w.heap
  pub threads : changes_threads p ≡ false → after.threads ≡ w.threads
  pub classes : (class : ClassName) → names_class p class ≡ false → state_of after.classes class ≡ state_of w.classes class
  pub ready : (class : ClassName) → state_of w.classes class ≡ IsReady → state_of after.classes class ≡ IsReady
  pub failed : (class : ClassName) → state_of w.classes class ≡ IsFailed → state_of after.classes class ≡ IsFailed
  pub monitors : (v : Value) → count_of after v + exits w thread p v ≡ count_of w v + entries p v

-- this holds of each answer
abbrev pub ChangesOnlyWhatItSays : Type 0
ChangesOnlyWhatItSays = (w : World) (thread : ℕ) (p : Step) (after : World) (a : Answer) → answer w thread p ≡ Some (after, a) → Answered w thread p after

-- ---- whole runs

-- what the steps of a run printed
abbrev pub all_printed : List Item → List ℕ
all_printed [] = []
all_printed (Stepped i p a ∷ items) = printed p ++ all_printed items
all_printed (Blocked i p ∷ items) = all_printed items
all_printed (WasBusy i ∷ items) = all_printed items
all_printed (HadEnded i ∷ items) = all_printed items
all_printed (Missing i ∷ items) = all_printed items

-- a run has one item a turn; the output after it is what its steps printed, in order; and a class that is ready stays so
pub record Grows (next : Behavior) (n : ℕ) (w : World) (ts : List Thread) (schedule : List ℕ) : Type 0 where
  pub items : length (run next n w ts schedule) ≡ length schedule
  pub output : (world_after next n w ts schedule).output ≡ w.output ++ all_printed (run next n w ts schedule)
  pub ready : (class : ClassName) → state_of w.classes class ≡ IsReady → state_of (world_after next n w ts schedule).classes class ≡ IsReady

-- this holds of each run
abbrev pub RunsGrow : Type 0
RunsGrow = (next : Behavior) (n : ℕ) (w : World) (ts : List Thread) (schedule : List ℕ) → Grows next n w ts schedule
