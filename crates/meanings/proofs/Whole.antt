-- Laws of whole runs.
use Rattle.std.proofs.Common.{◌≡◌, ℕ, suc, List, [], ◌∷◌, ◌++◌, Option, Some, None, slice_get, refl, sym, ap, ◌∙◌, append_assoc}
use Rattle.std.proofs.lemmas.List.{append-nil}
use Rattle.meanings.specs.Values.{ClassName, Step}
use Rattle.meanings.specs.Program.{Turn, Next, IsBusy, Ended}
use Rattle.meanings.specs.World.{World, Reply, IsReady, state_of, answer}
use Rattle.meanings.specs.Runs.{Item, Stepped, Blocked, WasBusy, HadEnded, Missing, Thread, Behavior, After, replied, turned, turn_of, run}
use Rattle.meanings.specs.Laws.{EqualRuns, MatchingRuns, printed, Answered, all_printed, Grows, RunsGrow}
use Rattle.meanings.proofs.RunLaws.{run_same, run_matching}
use Rattle.meanings.proofs.Answers.{answer_says}

module _ (Holds : World → List Thread → Type 0) where
  pub equal_runs : EqualRuns Holds
  equal_runs next next' n keeps same w ts h schedule = run_same next next' n Holds same.same keeps w ts h schedule

module _ (Relates : World → World → List Thread → Type 0) where
  pub matching_runs : MatchingRuns Relates
  matching_runs next next' n m = run_matching next next' n Relates m

-- ---- the output grows

abbrev item_printed : Item → List ℕ
item_printed (Stepped i p a) = printed p
item_printed (Blocked i p) = []
item_printed (WasBusy i) = []
item_printed (HadEnded i) = []
item_printed (Missing i) = []

all_printed_is : (item : Item) (items : List Item) → all_printed (item ∷ items) ≡ item_printed item ++ all_printed items
all_printed_is (Stepped i p a) items = refl
all_printed_is (Blocked i p) items = refl
all_printed_is (WasBusy i) items = refl
all_printed_is (HadEnded i) items = refl
all_printed_is (Missing i) items = refl

record TurnGrows (w : World) (after : After) : Type 0 where
  output : after.world.output ≡ w.output ++ item_printed after.item
  ready : (class : ClassName) → state_of w.classes class ≡ IsReady → state_of after.world.classes class ≡ IsReady

replied_grows : (w : World) (ts : List Thread) (i : ℕ) (t : Thread) (p : Step) (r : Reply) → answer w i p ≡ r → TurnGrows w (replied w ts i t p r)
replied_grows w ts i t p None e = record { output = sym (append-nil w.output); ready = λ class h. h }
replied_grows w ts i t p (Some reply) e =
    let says : Answered w i p reply.0 = answer_says w i p reply.0 reply.1 e in
    record { output = says.output; ready = says.ready }

turned_grows : (w : World) (ts : List Thread) (i : ℕ) (t : Thread) (r : Turn) → TurnGrows w (turned w ts i t r)
turned_grows w ts i t (Next p) = replied_grows w ts i t p (answer w i p) refl
turned_grows w ts i t IsBusy = record { output = sym (append-nil w.output); ready = λ class h. h }
turned_grows w ts i t Ended = record { output = sym (append-nil w.output); ready = λ class h. h }

turn_grows : (next : Behavior) (n : ℕ) (w : World) (ts : List Thread) (i : ℕ) (o : Option Thread) → TurnGrows w (turn_of next n w ts i o)
turn_grows next n w ts i None = record { output = sym (append-nil w.output); ready = λ class h. h }
turn_grows next n w ts i (Some t) = turned_grows w ts i t (next t.start t.had n)

pub runs_grow : RunsGrow
runs_grow next n w ts [] = record { items = refl; output = sym (append-nil w.output); ready = λ class h. h }
runs_grow next n w ts (i ∷ schedule) =
    let turn : TurnGrows w (turn_of next n w ts i (slice_get ts i)) = turn_grows next n w ts i (slice_get ts i) in
    let rest : Grows next n (turn_of next n w ts i (slice_get ts i)).world (turn_of next n w ts i (slice_get ts i)).threads schedule = runs_grow next n (turn_of next n w ts i (slice_get ts i)).world (turn_of next n w ts i (slice_get ts i)).threads schedule in
    record {
      items = ap suc rest.items;
      output = rest.output ∙ ap (λ (units : List ℕ). units ++ all_printed (run next n (turn_of next n w ts i (slice_get ts i)).world (turn_of next n w ts i (slice_get ts i)).threads schedule)) turn.output
          ∙ append_assoc w.output (item_printed (turn_of next n w ts i (slice_get ts i)).item) (all_printed (run next n (turn_of next n w ts i (slice_get ts i)).world (turn_of next n w ts i (slice_get ts i)).threads schedule))
          ∙ ap (λ (units : List ℕ). w.output ++ units) (sym (all_printed_is (turn_of next n w ts i (slice_get ts i)).item (run next n (turn_of next n w ts i (slice_get ts i)).world (turn_of next n w ts i (slice_get ts i)).threads schedule)));
      ready = λ class h. rest.ready class (turn.ready class h);
    }
