-- Runs in which each thread started well: its steps start no other thread.
use Rattle.std.proofs.Common.{◌≡◌, ℕ, zero, suc, true, List, [], ◌∷◌, Option, Some, None, slice_get, slice_set, refl, subst}
use Rattle.meanings.specs.Values.{Step, Touch, InitEnd, Alloc, Built, Get, Put, GetStatic, PutStatic, GetElem, PutElem, Enter, Exit, Print, ReadByte, Lib, Raise, Start as StartStep, Join, End, Torn, Answer}
use Rattle.meanings.specs.Program.{Turn, Next, IsBusy, Ended, Start}
use Rattle.meanings.specs.World.{World, Reply, answer}
use Rattle.meanings.specs.Runs.{Thread, Behavior, with_new, replied, turned, turn_of, run}
use Rattle.meanings.specs.Laws.{IsKept}
use Rattle.meanings.proofs.SameText.{is_calm, CalmTurn}
use Rattle.meanings.proofs.RunLaws.{AllStarts, run_same}

module _ (P : Start → Type 0) where
  start_at : (ts : List Thread) → AllStarts P ts → (i : ℕ) (t : Thread) → slice_get ts i ≡ Some t → P t.start
  start_at [] h i t e = cc
  start_at (u ∷ ts) h zero t e = let same : u ≡ t = cc in subst (λ (x : Thread). P x.start) same h.0
  start_at (u ∷ ts) h (suc i) t e = start_at ts h.1 i t e

  set_starts : (ts : List Thread) → AllStarts P ts → (i : ℕ) (t : Thread) → P t.start → AllStarts P (slice_set ts i t)
  set_starts [] h i t g = tt
  set_starts (u ∷ ts) h zero t g = (g, h.1)
  set_starts (u ∷ ts) h (suc i) t g = (h.0, set_starts ts h.1 i t g)

  with_new_starts : (w : World) (p : Step) (a : Answer) (ts : List Thread) → is_calm p ≡ true → AllStarts P ts → AllStarts P (with_new w p a ts)
  with_new_starts w (StartStep object) a ts calm h = cc
  with_new_starts w (Touch class) a ts calm h = h
  with_new_starts w (InitEnd class well) a ts calm h = h
  with_new_starts w (Alloc shape) a ts calm h = h
  with_new_starts w (Built v) a ts calm h = h
  with_new_starts w (Get v field) a ts calm h = h
  with_new_starts w (Put v field new) a ts calm h = h
  with_new_starts w (GetStatic field) a ts calm h = h
  with_new_starts w (PutStatic field new) a ts calm h = h
  with_new_starts w (GetElem v k) a ts calm h = h
  with_new_starts w (PutElem v k new) a ts calm h = h
  with_new_starts w (Enter v) a ts calm h = h
  with_new_starts w (Exit v) a ts calm h = h
  with_new_starts w (Print units) a ts calm h = h
  with_new_starts w ReadByte a ts calm h = h
  with_new_starts w (Lib row vs) a ts calm h = h
  with_new_starts w (Raise class) a ts calm h = h
  with_new_starts w (Join v) a ts calm h = h
  with_new_starts w (End ending) a ts calm h = h
  with_new_starts w Torn a ts calm h = h

  replied_starts : (w : World) (ts : List Thread) (i : ℕ) (t : Thread) (p : Step) (r : Reply) → is_calm p ≡ true → AllStarts P ts → P t.start → AllStarts P (replied w ts i t p r).threads
  replied_starts w ts i t p None calm h g = h
  replied_starts w ts i t p (Some reply) calm h g = with_new_starts w p reply.1 _ calm (set_starts ts h i _ g)

  turned_starts : (w : World) (ts : List Thread) (i : ℕ) (t : Thread) (r : Turn) → CalmTurn r → AllStarts P ts → P t.start → AllStarts P (turned w ts i t r).threads
  turned_starts w ts i t (Next p) calm h g = replied_starts w ts i t p (answer w i p) calm h g
  turned_starts w ts i t IsBusy calm h g = h
  turned_starts w ts i t Ended calm h g = h

  module _ (next : Behavior) (calm : (start : Start) → P start → (answers : List Answer) (n : ℕ) → CalmTurn (next start answers n)) (n : ℕ) where
    turn_starts : (w : World) (ts : List Thread) (i : ℕ) (o : Option Thread) → slice_get ts i ≡ o → AllStarts P ts → AllStarts P (turn_of next n w ts i o).threads
    turn_starts w ts i None is h = h
    turn_starts w ts i (Some t) is h = turned_starts w ts i t (next t.start t.had n) (calm t.start (start_at ts h i t is) t.had n) h (start_at ts h i t is)

    starts_kept : IsKept next n (λ w ts. AllStarts P ts)
    starts_kept = record { kept = λ w ts i h. turn_starts w ts i (slice_get ts i) refl h }

    -- another behaviour that does the same from such starts has the same runs
    pub starts_same : (other : Behavior) → ((start : Start) → P start → (answers : List Answer) → next start answers n ≡ other start answers n) →
        (w : World) (ts : List Thread) → AllStarts P ts → (schedule : List ℕ) → run next n w ts schedule ≡ run other n w ts schedule
    starts_same other same = run_same next other n (λ w ts. AllStarts P ts) (λ w ts h i t is. same t.start (start_at ts h i t is) t.had) starts_kept
