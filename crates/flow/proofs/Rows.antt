-- Small texts that the analyses tell exactly.
use Rattle.std.proofs.Common.{◌≡◌, ℕ, Bool, true, false, ◌==◌, [], ◌∷◌, refl}
use Rattle.flow.specs.Acts.{Act, Skip, Does, Jumps, Then, If, Forever, Block, Finally, Constant}
use Rattle.flow.specs.Analyses.{Use, Reads, Assigns, flow, assignment, unassignment, unreachable}

-- variables, places and targets are numbers
abbrev Numbered : Type 0
Numbered = Act (Use ℕ ℕ) ℕ

same : ℕ → ℕ → Bool
same m n = m == n

abbrev it : ℕ → Bool
it n = true

-- `while (true) { }`
abbrev loops : Numbered
loops = Block 0 (Forever (If true (Constant true) Skip (Jumps 0)))

-- nothing comes behind it
behind_a_loop : (flow same unreachable loops false).end ≡ true
unfolding same
behind_a_loop = refl

-- nor is a read behind it at fault
read_behind_a_loop : (flow same (assignment {P = ℕ} it) (Then loops (Does (Reads 1 2))) false).faults ≡ []
unfolding same
read_behind_a_loop = refl

-- what `finally` assigns is assigned where a jump goes through it
assigned_on_the_way : (flow same (assignment {P = ℕ} it) (Then (Block 0 (Finally (Jumps 0) (Does (Assigns 1 2)))) (Does (Reads 1 3))) false).faults ≡ []
unfolding same
assigned_on_the_way = refl

-- and no longer unassigned
taken_on_the_way : (flow same (unassignment {P = ℕ} it) (Then (Block 0 (Finally (Jumps 0) (Does (Assigns 1 2)))) (Does (Assigns 1 3))) true).faults ≡ Assigns 1 3 ∷ []
unfolding same
taken_on_the_way = refl
