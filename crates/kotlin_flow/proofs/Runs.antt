-- The laws of flows at Kotlin's texts.
use Rattle.std.proofs.Common.{◌≡◌, ◌≤◌, Bool, true, false, not, ◌&&◌, List, [], ◌∷◌, map, refl, ap, ◌∙◌, subst, sym}
use Rattle.kotlin_tree.specs.declared.places.Position.{Position}
use Rattle.kotlin_tree.specs.declared.places.Brackets.{Brackets}
use Rattle.kotlin_tree.specs.declared.expressions.KExpr.{KExpr}
use Rattle.kotlin_tree.specs.declared.expressions.KExpr.TheVariants as e
use Rattle.kotlin_tree.specs.declared.expressions.KHeadAt.{KHeadAt}
use Rattle.kotlin_tree.specs.declared.statements.KStmt.{KStmt}
use Rattle.kotlin_tree.specs.declared.statements.KStmt.TheVariants as s
use Rattle.flow.specs.Acts as a
use Rattle.flow.specs.Acts.{Act, Does, Asks, Then, Block}
use Rattle.flow.specs.Analyses.{Reaches, flow, unreachable}
use Rattle.flow.specs.Standing.{hits, stands}
use Rattle.flow.specs.Runs.{Events, Nothing, Did, append, Exit, Jumped, Threw, End, Normal, By, Runs, Tests, FindsAssigned, ReachesNone}
use Rattle.flow.proofs.LawsToCite.{unreachable_is_not_reached, not_reachable, ends_where_it_can}
use Rattle.flow.proofs.LawsToCite as l
use Rattle.kotlin_flow.specs.Variables.{Variable, Target, Unlocked, same_target, KotlinUse, KotlinAct, Names, reached}
use Rattle.kotlin_flow.specs.Expressions.{Said, done}
use Rattle.kotlin_flow.specs.Statements.{Line, block}
use Rattle.kotlin_flow.specs.Texts.{said, line}
use Rattle.kotlin_flow.specs.Faults.{unassigned_reads, assigned_again, assigned_at_end, unreachable_statements, can_end}
use Rattle.kotlin_flow.specs.Promises.{AssignsOnce, AssignsNever, IsAssigned, NeverEnds}
use Rattle.kotlin_flow.proofs.Targets.{tells_apart}
use Rattle.kotlin_flow.proofs.Forms.{said_Run, line_Expression, line_Synchronized}

pub reads_assigned : (x : KotlinAct) (is : Variable → Bool) (a : Bool) (es : Events KotlinUse) (e : End Target) → Runs x es e → unassigned_reads is a x ≡ [] → FindsAssigned is a es
unfolding unassigned_reads
reads_assigned x is a es e p n = l.reads_are_assigned is same_target tells_apart x es e p a n

pub once : (x : KotlinAct) (is : Variable → Bool) → assigned_again is true x ≡ [] → AssignsOnce is x
unfolding assigned_again
once x is n es e p = (l.assigned_once is same_target tells_apart x es e p n, l.assigned_no_later is same_target tells_apart x es e p n)

pub never : (x : KotlinAct) (is : Variable → Bool) → assigned_again is false x ≡ [] → AssignsNever is x
unfolding assigned_again
never x is n es e p = l.never_assigned is same_target tells_apart x es e p n

pub at_the_end : (x : KotlinAct) (is : Variable → Bool) → assigned_at_end is x ≡ true → IsAssigned is x
unfolding assigned_at_end
at_the_end x is n es p = l.assigned_at_the_end is same_target tells_apart x es p n

pub not_reached : (x : KotlinAct) (here : Position → Bool) (es : Events KotlinUse) (e : End Target) → Runs x es e → hits here (stands x) ≤ 1 → 1 ≤ hits here (unreachable_statements x) → ReachesNone here es
unfolding unreachable_statements
not_reached x here es e p once listed = unreachable_is_not_reached here same_target tells_apart x es e p (not_reachable here same_target x false once listed)

true_end : (b : Bool) → not b ≡ false → b ≡ true
true_end true h = refl
true_end false h = cc

pub no_end : (x : KotlinAct) → can_end x ≡ false → NeverEnds x
unfolding can_end
no_end x n es p = ends_where_it_can same_target tells_apart (λ q a. a) x es (true_end _ n) p

-- ---- what stands behind

module _ {E T : Type 0} where
  first_only : {x y : Act E T} {es : Events E} {e : End T} → ((es : Events E) → Runs x es Normal → ⊥) → Runs (Then x y) es e → Runs x es e
  first_only none (Runs.then_ x y es fs e p q) = absurd (none es p)
  first_only none (Runs.then_ends x y es j p) = p
  first_only {x = x} none (Runs.throws z) = Runs.throws x
  first_only {x = x} none (Runs.throws_behind z es e p) = Runs.throws_behind x es e (first_only none p)

pub nothing_follows : (x : KStmt) (more : List KStmt) (names : Names) (es : Events KotlinUse) (e : End Target) → can_end ((line x).does names) ≡ false → Runs (block (map line (x ∷ more)) names) es e → Runs ((line x).does names) es e
nothing_follows x more names es e n p = first_only (no_end _ n) p

-- ---- `run`

abbrev run_does : Position → KotlinAct → KotlinAct
run_does at x = Then (reached at) (Asks (a.Value x))

run_is : (at : Position) (curly : Brackets) (xs : List KStmt) (names : Names) → (line (s.Expression (e.Run at curly xs))).does names ≡ run_does at (block (map line xs) names)
run_is at curly xs names = ap (λ (z : Line). z.does names) (line_Expression (e.Run at curly xs)) ∙ ap (λ (z : Said). Then (reached z.first) (done z names)) (said_Run at curly xs)

both : (b : Bool) → not (b && b) ≡ not b
both true = refl
both false = refl

same_end : (at : Position) (x : KotlinAct) → can_end (run_does at x) ≡ can_end x
unfolding can_end
same_end at x = both (flow same_target unreachable x false).end

pub run_ends : (at : Position) (curly : Brackets) (xs : List KStmt) (names : Names) → can_end ((line (s.Expression (e.Run at curly xs))).does names) ≡ can_end (block (map line xs) names)
run_ends at curly xs names = ap can_end (run_is at curly xs names) ∙ same_end at (block (map line xs) names)

pub run_exits : (at : Position) (curly : Brackets) (xs : List KStmt) (names : Names) (es : Events KotlinUse) (j : Exit Target) → Runs (block (map line xs) names) es (By j) → Runs ((line (s.Expression (e.Run at curly xs))).does names) (Did (Reaches at) es) (By j)
run_exits at curly xs names es j p = subst (λ z. Runs z (Did (Reaches at) es) (By j)) (sym (run_is at curly xs names))
    (Runs.then_ (reached at) (Asks (a.Value (block (map line xs) names))) (Did (Reaches at) Nothing) es (By j) (Runs.does (Reaches at)) (Runs.asks_ends (a.Value (block (map line xs) names)) es j (Tests.value_ends (block (map line xs) names) es j p)))

-- ---- `synchronized`

abbrev lock_does : Position → KotlinAct → KotlinAct → KotlinAct
lock_does at lock x = Then (reached at) (Then lock (Block Unlocked x))

lock_is : (at : KHeadAt) (lock : KExpr) (curly : Brackets) (xs : List KStmt) (names : Names) → (line (s.Synchronized at lock curly xs)).does names ≡ lock_does at.word (done (said lock) names) (block (map line xs) names)
lock_is at lock curly xs names = ap (λ (z : Line). z.does names) (line_Synchronized at lock curly xs)

pub lock_ends : (at : KHeadAt) (lock : KExpr) (curly : Brackets) (xs : List KStmt) (names : Names) (es fs : Events KotlinUse) → Runs (done (said lock) names) es Normal → Runs (block (map line xs) names) fs (By (Jumped Unlocked)) → Runs ((line (s.Synchronized at lock curly xs)).does names) (Did (Reaches at.word) (append es fs)) Normal
lock_ends at lock curly xs names es fs p q = subst (λ z. Runs z (Did (Reaches at.word) (append es fs)) Normal) (sym (lock_is at lock curly xs names))
    (Runs.then_ (reached at.word) (Then (done (said lock) names) (Block Unlocked (block (map line xs) names))) (Did (Reaches at.word) Nothing) (append es fs) Normal (Runs.does (Reaches at.word))
    (Runs.then_ (done (said lock) names) (Block Unlocked (block (map line xs) names)) es fs Normal p (Runs.block_left Unlocked (block (map line xs) names) fs q)))

module _ {T : Type 0} where
  jump_of : Exit T → T → T
  jump_of (Jumped t) s = t
  jump_of Threw s = s

  exit_of : End T → T → T
  exit_of Normal s = s
  exit_of (By j) s = jump_of j s

module _ {E T : Type 0} where
  -- a jump leaves both by leaving one of them
  then_jumps : {x y : Act E T} {es : Events E} {e : End T} (t : T) → ((fs : Events E) → Runs x fs (By (Jumped t)) → ⊥) → ((fs : Events E) → Runs y fs (By (Jumped t)) → ⊥) → Runs (Then x y) es e → e ≡ By (Jumped t) → ⊥
  then_jumps t h k (Runs.then_ x y es fs e p q) is = k fs (subst (λ z. Runs y fs z) is q)
  then_jumps t h k (Runs.then_ends x y es j p) is = h es (subst (λ z. Runs x es z) is p)
  then_jumps t h k (Runs.throws z) is = cc
  then_jumps t h k (Runs.throws_behind z es e p) is = cc

  does_not_jump : {f : E} {es : Events E} {e : End T} (t : T) → Runs (Does f) es e → e ≡ By (Jumped t) → ⊥
  does_not_jump t (Runs.does f) is = cc
  does_not_jump t (Runs.throws z) is = cc
  does_not_jump t (Runs.throws_behind z es e p) is = cc

  block_ends_it : {t : T} {x : Act E T} {es : Events E} {e : End T} → Runs (Block t x) es e → e ≡ By (Jumped t) → ⊥
  unfolding exit_of jump_of
  block_ends_it (Runs.block t x es p) is = cc
  block_ends_it (Runs.block_left t x es p) is = cc
  block_ends_it (Runs.block_passed t x es s p ne) is = ne (sym (ap (λ z. exit_of z t) is))
  block_ends_it (Runs.block_throws t x es p) is = cc
  block_ends_it (Runs.throws z) is = cc
  block_ends_it (Runs.throws_behind z es e p) is = cc

pub lock_stays : (at : KHeadAt) (lock : KExpr) (curly : Brackets) (xs : List KStmt) (names : Names) → ((fs : Events KotlinUse) → Runs (done (said lock) names) fs (By (Jumped Unlocked)) → ⊥) → (es : Events KotlinUse) → Runs ((line (s.Synchronized at lock curly xs)).does names) es (By (Jumped Unlocked)) → ⊥
lock_stays at lock curly xs names none es p =
    then_jumps Unlocked (λ fs q. does_not_jump Unlocked q refl) (λ fs q. then_jumps Unlocked none (λ gs r. block_ends_it r refl) q refl)
    (subst (λ z. Runs z es (By (Jumped Unlocked))) (lock_is at lock curly xs names) p) refl
