-- The world that threads share, and its answers. It knows nothing of a language.
use Rattle.std.specs.Prelude.{ℕ, zero, suc, pos, negsuc, Bool, true, false, List, [], ◌∷◌, ◌++◌, length, replicate, Option, Some, None, slice_get, slice_set, slice_index_or, if◌then◌else◌, ◌==◌, codes}
use Rattle.meanings.specs.Values.{Name, ClassName, Simple, same_class, Field, same_field, Int, Elements, Integers, Booleans, Objects, Arrays, Value, Null, Integer, Boolean, Units, Object, Array, Lambda, NoMore, same_value, Shape, AnObject, AnArray, AnArrayOf, ALambda, Step, Touch, InitEnd, Alloc, Built, Get, Put, GetStatic, PutStatic, GetElem, PutElem, Enter, Exit, Print, ReadByte, Lib, Raise, Start, Join, End, Torn, Answer, Ready, Run, Mine, Failed, Done, Given, Raised}
use Rattle.meanings.specs.Library.{Content, Row, library}

-- the state of a class (JLS 12.4.2); a running initialization has the number of its thread
pub data ClassState : Type 0 where
  Untouched : ClassState
  Running : ℕ → ClassState
  IsReady : ClassState
  IsFailed : ClassState

-- a monitor's owner and how often that entered it (JLS 17.1); count 0 is a free monitor
pub record Hold : Type 0 where
  pub owner : ℕ
  pub count : ℕ

-- a thread: its object, null for the entry's, and whether it ended
pub record Status : Type 0 where
  pub object : Value
  pub ended : Bool

-- In each list of pairs the newest comes first. A field that was never stored gives its default (JLS 4.12.5).
pub record World : Type 0 where
  pub heap : List Content
  pub statics : List (Field × Value)
  pub defaults : List (Field × Value)
  pub classes : List (ClassName × ClassState)
  pub monitors : List (Value × Hold)
  -- the thread with the number k stands at k
  pub threads : List Status
  pub input : List ℕ
  pub output : List ℕ

-- the new world and the answer, or none where the thread is blocked
abbrev pub Reply : Type 0
Reply = Option (World × Answer)

-- ---- classes

-- the newest state of a class
abbrev pub state_of : List (ClassName × ClassState) → ClassName → ClassState
state_of [] class = Untouched
state_of (e ∷ more) class = if same_class e.0 class then e.1 else state_of more class

-- one thread runs the initialization, itself passes, others wait (JLS 12.4.2, steps 1 to 5)
abbrev pub touch_answer : World → ℕ → ClassName → ClassState → Reply
touch_answer w thread class Untouched = Some (record w { classes = (class, Running thread) ∷ w.classes }, Run)
touch_answer w thread class (Running owner) = if owner == thread then Some (w, Mine) else None
touch_answer w thread class IsReady = Some (w, Ready)
touch_answer w thread class IsFailed = Some (w, Failed)

-- only the thread that runs an initialization ends it (JLS 12.4.2, steps 10 and 12)
abbrev pub ended_class : List (ClassName × ClassState) → ℕ → ClassName → Bool → ClassState → List (ClassName × ClassState)
ended_class classes thread class well (Running owner) = if owner == thread then (class, if well then IsReady else IsFailed) ∷ classes else classes
ended_class classes thread class well Untouched = classes
ended_class classes thread class well IsReady = classes
ended_class classes thread class well IsFailed = classes

-- ---- the heap

-- an object in which nothing was stored
abbrev pub no_content : Content
no_content = record { fields = []; elements = [] }

-- the number of a reference
abbrev pub number_of : Value → Option ℕ
number_of (Object class k captured) = Some k
number_of (Array elements size k) = Some k
number_of (Lambda site k captured) = Some k
number_of _ = None

-- what stands on the heap at a number; elsewhere nothing
abbrev pub content_at : List Content → Option ℕ → Content
content_at heap None = no_content
content_at heap (Some k) = slice_index_or heap k no_content

-- the heap with another content at a number
abbrev pub with_content : List Content → Option ℕ → Content → List Content
with_content heap None content = heap
with_content heap (Some k) content = slice_set heap k content

-- what the object of a reference holds
abbrev pub content_of : World → Value → Content
content_of w v = content_at w.heap (number_of v)

-- the world with other fields in an object
abbrev pub with_fields : World → Value → List (Field × Value) → World
with_fields w v fields = record w { heap = with_content w.heap (number_of v) (record (content_of w v) { fields = fields }) }

-- the world with other elements in an object
abbrev pub with_elements : World → Value → List Value → World
with_elements w v elements = record w { heap = with_content w.heap (number_of v) (record (content_of w v) { elements = elements }) }

-- what was stored last, else the default, else null
abbrev pub stored : List (Field × Value) → Field → Value → Value
stored [] field other = other
stored (e ∷ more) field other = if same_field e.0 field then e.1 else stored more field other

-- a field gives what was stored last, or its default (JLS 4.12.5)
abbrev pub stored_or_default : World → List (Field × Value) → Field → Value
stored_or_default w fields field = stored fields field (stored w.defaults field Null)

-- the default of an array's elements (JLS 4.12.5, 15.10.1)
abbrev pub default_element : Elements → Value
default_element (Integers kind) = Integer kind (pos 0)
default_element Booleans = Boolean false
default_element (Objects class) = Null
default_element (Arrays elements) = Null

-- what a new object holds (JLS 12.5, 15.10.1, 10.6)
abbrev pub content_in : Shape → Content
content_in (AnObject class captured) = no_content
content_in (AnArray elements size) = record { fields = []; elements = replicate size (default_element elements) }
content_in (AnArrayOf elements vs) = record { fields = []; elements = vs }
content_in (ALambda site captured) = no_content

-- the reference to a new object with this number
abbrev pub reference : Shape → ℕ → Value
reference (AnObject class captured) k = Object class k captured
reference (AnArray elements size) k = Array elements size k
reference (AnArrayOf elements vs) k = Array elements (length vs) k
reference (ALambda site captured) k = Lambda site k captured

-- an exception of a class of the machine's own, with this number
abbrev pub exception : Name → ℕ → Value
exception class k = Object (Simple class) k NoMore

-- the world with one more object, under the next number
abbrev pub with_object : World → Content → World
with_object w content = record w { heap = w.heap ++ content ∷ [] }

-- an exception that the machine raises has the empty text as its message (own rule)
abbrev pub exception_content : Content
exception_content = record { fields = []; elements = Units [] ∷ [] }

-- ---- monitors

-- the newest hold of a monitor; at first it is free (JLS 17.1)
abbrev pub hold_of : List (Value × Hold) → Value → Hold
hold_of [] v = record { owner = 0; count = 0 }
hold_of (e ∷ more) v = if same_value e.0 v then e.1 else hold_of more v

-- the world with another hold of a monitor
abbrev pub with_hold : World → Value → ℕ → ℕ → World
with_hold w v thread count = record w { monitors = (v, record { owner = thread; count = count }) ∷ w.monitors }

-- blocked while another thread owns it; the owner counts (JLS 17.1)
abbrev pub enter_answer : World → ℕ → Value → ℕ → ℕ → Reply
enter_answer w thread v owner zero = Some (with_hold w v thread 1, Done)
enter_answer w thread v owner (suc k) = if owner == thread then Some (with_hold w v thread (suc (suc k)), Done) else None

-- a thread that doesn't own it changes nothing
abbrev pub exited : World → ℕ → Value → ℕ → ℕ → World
exited w thread v owner zero = w
exited w thread v owner (suc k) = if owner == thread then with_hold w v thread k else w

-- ---- threads

-- a thread with this object was started
abbrev pub was_started : List Status → Value → Bool
was_started [] v = false
was_started (t ∷ threads) v = if same_value t.object v then true else was_started threads v

-- a thread with this object was started and has not ended (JLS 17.4.4)
abbrev pub is_running : List Status → Value → Bool
is_running [] v = false
is_running (t ∷ threads) v = if same_value t.object v then (if t.ended then is_running threads v else true) else is_running threads v

-- the thread with this number has ended
abbrev pub ended_thread : List Status → ℕ → List Status
ended_thread [] k = []
ended_thread (t ∷ threads) zero = record t { ended = true } ∷ threads
ended_thread (t ∷ threads) (suc k) = t ∷ ended_thread threads k

-- the new thread has the next number; a thread starts once
abbrev pub start_answer : World → Value → Bool → Reply
start_answer w v true = Some (with_object w exception_content, Raised (exception (codes "IllegalThreadStateException") (length w.heap)))
start_answer w v false = Some (record w { threads = w.threads ++ record { object = v; ended = false } ∷ [] }, Done)

-- ---- input, and the library

-- the next byte, or -1 at the end (java.io.InputStream.read)
abbrev pub read_answer : World → List ℕ → Reply
read_answer w [] = Some (w, Given (Integer Int (negsuc 0)))
read_answer w (b ∷ input) = Some (record w { input = input }, Given (Integer Int (pos b)))

-- a row that isn't there answers nothing
abbrev pub library_answer : World → List Value → Option Row → Reply
library_answer w vs None = None
library_answer w vs (Some row) = Some (record w { heap = (row w.heap vs).0 }, (row w.heap vs).1)

-- ---- the answer to a step of the thread with this number

-- one clause a step (own rule: the steps and answers of the profile)
abbrev pub answer : World → ℕ → Step → Reply
answer w thread (Touch class) = touch_answer w thread class (state_of w.classes class)
answer w thread (InitEnd class well) = Some (record w { classes = ended_class w.classes thread class well (state_of w.classes class) }, Done)
answer w thread (Alloc shape) = Some (with_object w (content_in shape), Given (reference shape (length w.heap)))
answer w thread (Built v) = Some (w, Done)
answer w thread (Get v field) = Some (w, Given (stored_or_default w (content_of w v).fields field))
answer w thread (Put v field new) = Some (with_fields w v ((field, new) ∷ (content_of w v).fields), Done)
answer w thread (GetStatic field) = Some (w, Given (stored_or_default w w.statics field))
answer w thread (PutStatic field new) = Some (record w { statics = (field, new) ∷ w.statics }, Done)
answer w thread (GetElem v k) = Some (w, Given (slice_index_or (content_of w v).elements k Null))
answer w thread (PutElem v k new) = Some (with_elements w v (slice_set (content_of w v).elements k new), Done)
answer w thread (Enter v) = enter_answer w thread v (hold_of w.monitors v).owner (hold_of w.monitors v).count
answer w thread (Exit v) = Some (exited w thread v (hold_of w.monitors v).owner (hold_of w.monitors v).count, Done)
answer w thread (Print units) = Some (record w { output = w.output ++ units }, Done)
answer w thread ReadByte = read_answer w w.input
answer w thread (Lib row vs) = library_answer w vs (slice_get library row)
answer w thread (Raise class) = Some (with_object w exception_content, Given (exception class (length w.heap)))
answer w thread (Start v) = start_answer w v (was_started w.threads v)
answer w thread (Join v) = if is_running w.threads v then None else Some (w, Done)
answer w thread (End ending) = Some (record w { threads = ended_thread w.threads thread }, Done)
answer w thread Torn = Some (w, Done)
