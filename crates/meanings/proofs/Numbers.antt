-- The world and a run number the same threads.
use Rattle.std.proofs.Common.{◌≡◌, ℕ, zero, suc, Bool, true, false, List, [], ◌∷◌, ◌++◌, length, Option, Some, None, slice_get, slice_set, refl, sym, ap, ◌∙◌}
use Rattle.meanings.specs.Values.{Value, Step, Touch, InitEnd, Alloc, Built, Get, Put, GetStatic, PutStatic, GetElem, PutElem, Enter, Exit, Print, ReadByte, Lib, Raise, Start, Join, End, Torn, Answer}
use Rattle.meanings.specs.Program.{Turn, Next, IsBusy, Ended}
use Rattle.meanings.specs.World.{World, Status, Reply, answer, was_started, start_answer, ended_thread}
use Rattle.meanings.specs.Runs.{Thread, Behavior, After, with_new, replied, turned, turn_of}
use Rattle.meanings.specs.Laws.{changes_threads, Answered, ThreadsAgree}
use Rattle.meanings.proofs.Answers.{answer_says}

length_set : (ts : List Thread) (i : ℕ) (t : Thread) → length (slice_set ts i t) ≡ length ts
length_set [] i t = refl
length_set (u ∷ ts) zero t = refl
length_set (u ∷ ts) (suc i) t = ap suc (length_set ts i t)

length_ended : (threads : List Status) (k : ℕ) → length (ended_thread threads k) ≡ length threads
length_ended [] k = refl
length_ended (t ∷ threads) zero = refl
length_ended (t ∷ threads) (suc k) = ap suc (length_ended threads k)

length_snoc : {A : Type 0} (xs : List A) (x : A) → length (xs ++ x ∷ []) ≡ suc (length xs)
length_snoc [] x = refl
length_snoc (y ∷ xs) x = ap suc (length_snoc xs x)

abbrev Agree : After → Type 0
Agree after = length after.world.threads ≡ length after.threads

module _ (w : World) (ts : List Thread) (i : ℕ) (t : Thread) (h : length w.threads ≡ length ts) where
  -- a step that starts and ends no thread
  quiet_agrees : (p : Step) (r : Reply) → changes_threads p ≡ false → ((a : Answer) (list : List Thread) → with_new w p a list ≡ list) → answer w i p ≡ r → Agree (replied w ts i t p r)
  quiet_agrees p None quiet none e = h
  quiet_agrees p (Some reply) quiet none e =
      let says : Answered w i p reply.0 = answer_says w i p reply.0 reply.1 e in
      ap length (says.threads quiet) ∙ h ∙ sym (ap length (none reply.1 (slice_set ts i _)) ∙ length_set ts i _)

  start_agrees : (v : Value) (b : Bool) → Agree (replied w ts i t (Start v) (start_answer w v b))
  start_agrees v true = h ∙ sym (length_set ts i _)
  start_agrees v false = length_snoc w.threads _ ∙ ap suc (h ∙ sym (length_set ts i _)) ∙ sym (length_snoc (slice_set ts i _) _)

  step_agrees : (p : Step) → Agree (replied w ts i t p (answer w i p))
  step_agrees (Start v) = start_agrees v (was_started w.threads v)
  step_agrees (End ending) = length_ended w.threads i ∙ h ∙ sym (length_set ts i _)
  step_agrees (Touch class) = quiet_agrees (Touch class) _ refl (λ a list. refl) refl
  step_agrees (InitEnd class well) = quiet_agrees (InitEnd class well) _ refl (λ a list. refl) refl
  step_agrees (Alloc shape) = quiet_agrees (Alloc shape) _ refl (λ a list. refl) refl
  step_agrees (Built v) = quiet_agrees (Built v) _ refl (λ a list. refl) refl
  step_agrees (Get v field) = quiet_agrees (Get v field) _ refl (λ a list. refl) refl
  step_agrees (Put v field new) = quiet_agrees (Put v field new) _ refl (λ a list. refl) refl
  step_agrees (GetStatic field) = quiet_agrees (GetStatic field) _ refl (λ a list. refl) refl
  step_agrees (PutStatic field new) = quiet_agrees (PutStatic field new) _ refl (λ a list. refl) refl
  step_agrees (GetElem v k) = quiet_agrees (GetElem v k) _ refl (λ a list. refl) refl
  step_agrees (PutElem v k new) = quiet_agrees (PutElem v k new) _ refl (λ a list. refl) refl
  step_agrees (Enter v) = quiet_agrees (Enter v) _ refl (λ a list. refl) refl
  step_agrees (Exit v) = quiet_agrees (Exit v) _ refl (λ a list. refl) refl
  step_agrees (Print units) = quiet_agrees (Print units) _ refl (λ a list. refl) refl
  step_agrees ReadByte = quiet_agrees ReadByte _ refl (λ a list. refl) refl
  step_agrees (Lib row vs) = quiet_agrees (Lib row vs) _ refl (λ a list. refl) refl
  step_agrees (Raise class) = quiet_agrees (Raise class) _ refl (λ a list. refl) refl
  step_agrees (Join v) = quiet_agrees (Join v) _ refl (λ a list. refl) refl
  step_agrees Torn = quiet_agrees Torn _ refl (λ a list. refl) refl

  turned_agrees : (r : Turn) → Agree (turned w ts i t r)
  turned_agrees (Next p) = step_agrees p
  turned_agrees IsBusy = h
  turned_agrees Ended = h

turn_agrees : (next : Behavior) (n : ℕ) (w : World) (ts : List Thread) (i : ℕ) (o : Option Thread) → length w.threads ≡ length ts → Agree (turn_of next n w ts i o)
turn_agrees next n w ts i None h = h
turn_agrees next n w ts i (Some t) h = turned_agrees w ts i t h (next t.start t.had n)

pub threads_agree : ThreadsAgree
threads_agree next n w ts i = turn_agrees next n w ts i (slice_get ts i)
