-- Equal threads give equal runs, under an invariant that each turn keeps.
use Rattle.std.proofs.Common.{◌≡◌, ◌≢◌, ℕ, List, [], ◌∷◌, Option, Some, None, slice_get, refl, ap, ◌∙◌}
use Rattle.meanings.specs.Laws.{IsKept, MatchingTurns}
use Rattle.meanings.specs.Values.{Step, Torn}
use Rattle.meanings.specs.Program.{Start, Turn, Next, IsBusy, Ended}
use Rattle.meanings.specs.World.{World, Reply, answer}
use Rattle.meanings.specs.Runs.{Item, Thread, Behavior, After, replied, turned, turn_of, run, IsTorn, NeverTorn}

module _ (next next' : Behavior) (n : ℕ) (Holds : World → List Thread → Type 0)
    (same : (w : World) (ts : List Thread) → Holds w ts → (i : ℕ) (t : Thread) → slice_get ts i ≡ Some t → next t.start t.had n ≡ next' t.start t.had n) where
  turn_of_same : (w : World) (ts : List Thread) → Holds w ts → (i : ℕ) (o : Option Thread) → slice_get ts i ≡ o → turn_of next n w ts i o ≡ turn_of next' n w ts i o
  turn_of_same w ts h i None is = refl
  turn_of_same w ts h i (Some t) is = ap (turned w ts i t) (same w ts h i t is)

  pub run_same : IsKept next n Holds → (w : World) (ts : List Thread) → Holds w ts → (schedule : List ℕ) → run next n w ts schedule ≡ run next' n w ts schedule
  run_same keeps w ts h [] = refl
  run_same keeps w ts h (i ∷ schedule) =
      ap (λ items. (turn_of next n w ts i (slice_get ts i)).item ∷ items) (run_same keeps (turn_of next n w ts i (slice_get ts i)).world (turn_of next n w ts i (slice_get ts i)).threads (keeps.kept w ts i h) schedule)
      ∙ ap (λ (a : After). a.item ∷ run next' n a.world a.threads schedule) (turn_of_same w ts h i (slice_get ts i) refl)

-- ---- two worlds

pub run_matching : (next next' : Behavior) (n : ℕ) (Holds : World → World → List Thread → Type 0) → MatchingTurns next next' n Holds →
    (w w' : World) (ts : List Thread) → Holds w w' ts → (schedule : List ℕ) → run next n w ts schedule ≡ run next' n w' ts schedule
run_matching next next' n Holds m w w' ts h [] = refl
run_matching next next' n Holds m w w' ts h (i ∷ schedule) =
    let k : After = turn_of next n w ts i (slice_get ts i) in
    let j : After = turn_of next' n w' ts i (slice_get ts i) in
    ap (λ items. k.item ∷ items) (run_matching next next' n Holds m k.world j.world k.threads (m.kept w w' ts i h) schedule)
    ∙ ap (λ (ts' : List Thread). k.item ∷ run next' n j.world ts' schedule) (m.threads w w' ts i h)
    ∙ ap (λ (item : Item). item ∷ run next' n j.world j.threads schedule) (m.item w w' ts i h)

-- ---- Torn

module _ (next : Behavior) (n : ℕ) (Holds : World → List Thread → Type 0)
    (calm : (w : World) (ts : List Thread) → Holds w ts → (i : ℕ) (t : Thread) → slice_get ts i ≡ Some t → next t.start t.had n ≢ Next Torn) where
  replied_not_torn : (w : World) (ts : List Thread) (i : ℕ) (t : Thread) (p : Step) (r : Reply) → p ≢ Torn → IsTorn (replied w ts i t p r).item → ⊥
  replied_not_torn w ts i t p None h torn = h torn
  replied_not_torn w ts i t p (Some reply) h torn = h torn

  turned_not_torn : (w : World) (ts : List Thread) (i : ℕ) (t : Thread) (r : Turn) → r ≢ Next Torn → IsTorn (turned w ts i t r).item → ⊥
  turned_not_torn w ts i t (Next p) h torn = replied_not_torn w ts i t p (answer w i p) (λ e. h (ap Next e)) torn
  turned_not_torn w ts i t IsBusy h torn = torn
  turned_not_torn w ts i t Ended h torn = torn

  turn_not_torn : (w : World) (ts : List Thread) → Holds w ts → (i : ℕ) (o : Option Thread) → slice_get ts i ≡ o → IsTorn (turn_of next n w ts i o).item → ⊥
  turn_not_torn w ts h i None is torn = torn
  turn_not_torn w ts h i (Some t) is torn = turned_not_torn w ts i t (next t.start t.had n) (calm w ts h i t is) torn

  pub run_never_torn : IsKept next n Holds → (w : World) (ts : List Thread) → Holds w ts → (schedule : List ℕ) → NeverTorn (run next n w ts schedule)
  run_never_torn keeps w ts h [] = tt
  run_never_torn keeps w ts h (i ∷ schedule) =
      (turn_not_torn w ts h i (slice_get ts i) refl, run_never_torn keeps (turn_of next n w ts i (slice_get ts i)).world (turn_of next n w ts i (slice_get ts i)).threads (keeps.kept w ts i h) schedule)

-- ---- an invariant on how each thread started

abbrev pub AllStarts : (Start → Type 0) → List Thread → Type 0
AllStarts P [] = Unit {0}
AllStarts P (t ∷ ts) = P t.start × AllStarts P ts
