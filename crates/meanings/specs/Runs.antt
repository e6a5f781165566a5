-- Runs of many threads under a schedule, over any behaviour.
use Rattle.std.specs.Prelude.{◌≡◌, ℕ, List, [], ◌∷◌, ◌++◌, Option, Some, None, slice_get, slice_set, slice_index_or}
use Rattle.meanings.specs.Values.{Value, Null, Step, Touch, InitEnd, Alloc, Built, Get, Put, GetStatic, PutStatic, GetElem, PutElem, Enter, Exit, Print, ReadByte, Lib, Raise, Join, End, Torn, Answer, Ready, Run, Mine, Failed, Done, Given, Raised}
use Rattle.meanings.specs.Values as v
use Rattle.meanings.specs.Program.{Start, Runs, Turn, Next, IsBusy, Ended}
use Rattle.meanings.specs.World.{World, content_of, Reply, answer}

-- What a turn of a run records (own rule): the thread with its step and the answer, or that it was blocked at the step,
-- had used up n, or had ended, or that there is no such thread.
pub data Item : Type 0 where
  Stepped : ℕ → Step → Answer → Item
  Blocked : ℕ → Step → Item
  WasBusy : ℕ → Item
  HadEnded : ℕ → Item
  Missing : ℕ → Item

-- a thread: how it started, and the answers that it has had
pub record Thread : Type 0 where
  pub start : Start
  pub had : List Answer

-- what the threads of a program do next, by how they started, their answers and n
abbrev pub Behavior : Type 0
Behavior = Start → List Answer → ℕ → Turn

-- one turn: what is recorded, the world and the threads
pub record After : Type 0 where
  pub item : Item
  pub world : World
  pub threads : List Thread

-- a started thread runs the Runnable that its object holds
abbrev pub runnable_of : World → Value → Value
runnable_of w object = slice_index_or (content_of w object).elements 0 Null

-- a new thread where the start was done
abbrev pub begun : World → Value → Answer → List Thread → List Thread
begun w object Done ts = ts ++ record { start = Runs (runnable_of w object); had = [] } ∷ []
begun w object _ ts = ts

-- a Start that was done adds a thread, under the next number
abbrev pub with_new : World → Step → Answer → List Thread → List Thread
with_new w (v.Start object) a ts = begun w object a ts
with_new w _ a ts = ts

-- a step with its answer goes to the thread's answers; a blocked one changes nothing
abbrev pub replied : World → List Thread → ℕ → Thread → Step → Reply → After
replied w ts i t p None = record { item = Blocked i p; world = w; threads = ts }
replied w ts i t p (Some (w', a)) =
    record { item = Stepped i p a; world = w'; threads = with_new w p a (slice_set ts i (record t { had = t.had ++ a ∷ [] })) }

-- a step is asked of the world; Busy and ended change nothing
abbrev pub turned : World → List Thread → ℕ → Thread → Turn → After
turned w ts i t (Next p) = replied w ts i t p (answer w i p)
turned w ts i t IsBusy = record { item = WasBusy i; world = w; threads = ts }
turned w ts i t Ended = record { item = HadEnded i; world = w; threads = ts }

-- the turn of the thread with this number, where there is one
abbrev pub turn_of : Behavior → ℕ → World → List Thread → ℕ → Option Thread → After
turn_of next n w ts i None = record { item = Missing i; world = w; threads = ts }
turn_of next n w ts i (Some t) = turned w ts i t (next t.start t.had n)

-- The items of a run, one for each turn of the schedule. Runs are interleavings of whole steps (own rule).
abbrev pub run : Behavior → ℕ → World → List Thread → List ℕ → List Item
run next n w ts [] = []
run next n w ts (i ∷ schedule) =
    let after = turn_of next n w ts i (slice_get ts i) in after.item ∷ run next n after.world after.threads schedule

-- the world after a run
abbrev pub world_after : Behavior → ℕ → World → List Thread → List ℕ → World
world_after next n w ts [] = w
world_after next n w ts (i ∷ schedule) =
    let after = turn_of next n w ts i (slice_get ts i) in world_after next n after.world after.threads schedule

-- the item is a Torn
abbrev pub IsTorn : Item → Type 0
IsTorn (Stepped i p a) = p ≡ Torn
IsTorn (Blocked i p) = p ≡ Torn
IsTorn (WasBusy i) = ⊥
IsTorn (HadEnded i) = ⊥
IsTorn (Missing i) = ⊥

-- no turn of the run asks Torn
abbrev pub NeverTorn : List Item → Type 0
NeverTorn [] = Unit {0}
NeverTorn (item ∷ items) = (IsTorn item → ⊥) × NeverTorn items
