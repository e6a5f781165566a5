-- The laws of flows at Java's texts.
use Rattle.std.proofs.Common.{◌≡◌, ◌≤◌, Bool, true, false, not, ◌&&◌, ◌==◌, [], refl}
use Rattle.java_tree.specs.declared.tokens.Position.{Position}
use Rattle.std.proofs.lemmas.Bool.{eq-eqb}
use Rattle.java_typed.specs.declared.types.ClassRef.{ClassRef}
use Rattle.java_typed.specs.declared.types.ClassRef.TheVariants as class
use Rattle.java_typed.specs.declared.members.MemberRef.{MemberRef}
use Rattle.flow.specs.Acts.{Does, Then}
use Rattle.flow.specs.Analyses.{Reads}
use Rattle.flow.specs.Standing.{hits, stands}
use Rattle.flow.specs.Runs.{Events, End, FindsAssigned, NoneLater, Normal, ReachesNone, Runs, times}
use Rattle.flow.proofs.LawsToCite.{unreachable_is_not_reached, not_reachable, ends_where_it_can}
use Rattle.flow.proofs.LawsToCite as l
use Rattle.java_flow.specs.Variables.{JavaAct, JavaUse, Target, Variable, Simple, same_target, same_class, same_member, is_field}
use Rattle.java_flow.specs.Faults.{assigned_again, can_end, unassigned_reads, unreachable_statements}
use Rattle.java_flow.proofs.Targets.{tells_apart}

pub reads_assigned : (x : JavaAct) (is : Variable → Bool) (a : Bool) (es : Events JavaUse) (e : End Target) → Runs x es e → unassigned_reads is a x ≡ [] → FindsAssigned is a es
unfolding unassigned_reads
reads_assigned x is a es e p n = l.reads_are_assigned is same_target tells_apart x es e p a n

pub once : (x : JavaAct) (is : Variable → Bool) (es : Events JavaUse) (e : End Target) → Runs x es e → assigned_again is true x ≡ [] → times is es ≤ 1
unfolding assigned_again
once x is es e p n = l.assigned_once is same_target tells_apart x es e p n

pub none_later : (x : JavaAct) (is : Variable → Bool) (es : Events JavaUse) (e : End Target) → Runs x es e → assigned_again is true x ≡ [] → NoneLater is es
unfolding assigned_again
none_later x is es e p n = l.assigned_no_later is same_target tells_apart x es e p n

pub not_reached : (x : JavaAct) (here : Position → Bool) (es : Events JavaUse) (e : End Target) → Runs x es e → hits here (stands x) ≤ 1 → 1 ≤ hits here (unreachable_statements x) → ReachesNone here es
unfolding unreachable_statements
not_reached x here es e p once listed = unreachable_is_not_reached here same_target tells_apart x es e p (not_reachable here same_target x false once listed)

true_end : (b : Bool) → not b ≡ false → b ≡ true
true_end true h = refl
true_end false h = cc

pub no_end : (x : JavaAct) (es : Events JavaUse) → can_end x ≡ false → Runs x es Normal → ⊥
unfolding can_end
no_end x es n p = ends_where_it_can same_target tells_apart (λ q a. a) x es (true_end _ n) p

same_class_self : (class : ClassRef) → same_class class class ≡ true
same_class_self (class.Library n) = eq-eqb n n refl
same_class_self (class.Project n) = eq-eqb n n refl

both_hold : (a b : Bool) → a ≡ true → b ≡ true → (a && b) ≡ true
both_hold true b h k = k
both_hold false b h k = h

same_member_self : (m : MemberRef) → same_member m m ≡ true
same_member_self m = both_hold (same_class m.class m.class) (m.place == m.place) (same_class_self m.class) (eq-eqb m.place m.place refl)

pub exactly_once : (x : JavaAct) (member : MemberRef) (at : Position) (es : Events JavaUse) → Runs x es Normal → unassigned_reads (is_field member) false (Then x (Does (Reads (Simple member) at))) ≡ [] → assigned_again (is_field member) true x ≡ [] → times (is_field member) es ≡ 1
unfolding unassigned_reads assigned_again
exactly_once x member at es p n m = l.assigned_exactly_once (is_field member) (Simple member) at (same_member_self member) same_target tells_apart x es p n m
