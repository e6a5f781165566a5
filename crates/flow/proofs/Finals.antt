-- What is read behind a run was assigned in it.
use Rattle.std.proofs.Common.{arith, ◌≡◌, ◌≤◌, ◌+◌, ℕ, Bool, true, false, ◌||◌, [], refl}
use Rattle.flow.specs.Acts.{Act, Does, Then}
use Rattle.flow.specs.Analyses.{Use, Reads, Assigns, Reaches, flow, assignment, unassignment}
use Rattle.flow.specs.Standing.{one_if}
use Rattle.flow.specs.Runs.{Events, Nothing, Did, Made, append, Normal, Runs, FindsAssigned, times}
use Rattle.flow.proofs.States.{TellsApart, behinds, at_end}
use Rattle.flow.proofs.Sound.{sound}
use Rattle.flow.proofs.Laws.{reads_are_assigned, assigned_once, assignment_sound}

not_both : (b : Bool) → b ≡ true → b ≡ false → ⊥
not_both true h k = cc
not_both false h k = cc

exactly : (n : ℕ) → n ≤ 1 → 1 ≤ n → n ≡ 1
exactly n h k = omega arith

-- an assignment of another variable, and one of this
further : (i b : Bool) (n : ℕ) → (i ≡ false → 1 ≤ n) → 1 ≤ one_if i + n
further true b n h = omega arith
further false b n h = let k : 1 ≤ n = h refl in omega arith

none_or : (i b : Bool) → i ≡ false → b ≡ false → (i || b) ≡ false
none_or false b h k = k
none_or true b h k = cc

module _ {V P : Type 0} (is : V → Bool) where
  assigned_behind_runs : (es : Events (Use V P)) (b : Bool) → behinds (assignment is) b es ≡ true → b ≡ false → 1 ≤ times is es
  assigned_behind_runs Nothing b h none = absurd (not_both b h none)
  assigned_behind_runs (Did (Reads w p) es) b h none = assigned_behind_runs es b h none
  assigned_behind_runs (Did (Assigns w p) es) b h none = further (is w) b (times is es) (λ other. assigned_behind_runs es (is w || b) h (none_or (is w) b other none))
  assigned_behind_runs (Did (Reaches p) es) b h none = assigned_behind_runs es b h none
  assigned_behind_runs (Made gs es) b h none = assigned_behind_runs es b h none

  -- where it is assigned at the end of a text, each run that ends has assigned it
  pub assigned_at_the_end : {T : Type 0} (same : T → T → Bool) → TellsApart same → (x : Act (Use V P) T) (es : Events (Use V P)) → Runs x es Normal → (flow same (assignment is) x false).end ≡ true → 1 ≤ times is es
  assigned_at_the_end same S x es p n = assigned_behind_runs es false (at_end (sound same S (assignment is) (assignment_sound is) (λ e b. Unit {0}) (λ e a b q h. tt) p false false (λ h. h)).0 n) refl

module _ {V P : Type 0} (is : V → Bool) (v : V) (at : P) (it : is v ≡ true) where
  was_assigned : (es : Events (Use V P)) (b : Bool) → FindsAssigned is b (append es (Did (Reads v at) Nothing)) → b ≡ false → 1 ≤ times is es
  was_assigned Nothing b h none = absurd (not_both b (h.0 it) none)
  was_assigned (Did (Reads w p) es) b h none = was_assigned es b h.1 none
  was_assigned (Did (Assigns w p) es) b h none = further (is w) b (times is es) (λ other. was_assigned es (is w || b) h (none_or (is w) b other none))
  was_assigned (Did (Reaches p) es) b h none = was_assigned es b h none
  was_assigned (Made gs es) b h none = was_assigned es b h.1 none

  -- where a read behind a text isn't at fault, nor an assignment in it, each run that ends has assigned the variable exactly once
  pub assigned_exactly_once : {T : Type 0} (same : T → T → Bool) → TellsApart same → (x : Act (Use V P) T) (es : Events (Use V P)) → Runs x es Normal →
      (flow same (assignment is) (Then x (Does (Reads v at))) false).faults ≡ [] → (flow same (unassignment is) x true).faults ≡ [] → times is es ≡ 1
  assigned_exactly_once same S x es p reads assigns =
      exactly (times is es) (assigned_once is same S x es Normal p assigns)
      (was_assigned es false (reads_are_assigned is same S (Then x (Does (Reads v at))) (append es (Did (Reads v at) Nothing)) Normal (Runs.then_ x (Does (Reads v at)) es (Did (Reads v at) Nothing) Normal p (Runs.does (Reads v at))) false reads) refl)
