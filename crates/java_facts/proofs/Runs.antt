-- The laws of facts at Java's classes.
use Rattle.std.proofs.Common.{◌≡◌, ℕ, Bool, true, false, not, ◌==◌, List, [], refl, ap}
use Rattle.std.proofs.lemmas.Bool.{eq-eqb, ne_eqb}
use Rattle.java_typed.specs.declared.types.ClassRef.{ClassRef}
use Rattle.java_typed.specs.declared.types.ClassRef.TheVariants as class
use Rattle.java_typed.specs.declared.members.MemberRef.{MemberRef}
use Rattle.java_typed.specs.declared.units.TUnit.{TUnit}
use Rattle.java_flow.specs.Variables.{JavaAct, same_class}
use Rattle.facts.specs.Classes.{TellsApart, in_java, own_keeps}
use Rattle.facts.specs.Classes as f
use Rattle.facts.specs.Runs.{Event, Construction, Initialization, Hidden, OnlyStatics}
use Rattle.facts.proofs.LawsToCite as l
use Rattle.java_facts.specs.Project.{all_facts, most, same_place, is_closed, is_calm, is_idle, touches, initializers_do, NoneUnset, touches_laid, is_closed_laid}
use Rattle.java_facts.proofs.Forms.{and_left}

-- ---- classes are told apart

same_class_self : (c : ClassRef) → same_class c c ≡ true
same_class_self (class.Library n) = eq-eqb n n refl
same_class_self (class.Project n) = eq-eqb n n refl

eqb_apart : (m n : ℕ) → (m ≡ n → ⊥) → (m == n) ≡ false
eqb_apart m n ne = ne_eqb m n ne

same_class_apart : (c d : ClassRef) → (c ≡ d → ⊥) → same_class c d ≡ false
same_class_apart (class.Library m) (class.Library n) ne = eqb_apart m n (λ h. ne (ap class.Library h))
same_class_apart (class.Library m) (class.Project n) ne = refl
same_class_apart (class.Project m) (class.Library n) ne = refl
same_class_apart (class.Project m) (class.Project n) ne = eqb_apart m n (λ h. ne (ap class.Project h))

tells_apart : TellsApart same_class
tells_apart = record { self = same_class_self; apart = same_class_apart }

module _ (accessor : MemberRef → Bool) (inner : ℕ → ℕ → JavaAct) (units : List TUnit) where
  pub closed_hides : (c : ClassRef) (es : List (Event ClassRef ℕ)) (shown : Bool) → is_closed accessor inner units c ≡ true → Construction same_class (all_facts accessor inner units) c false es shown → Hidden es
  closed_hides c es shown = λ h run. l.closed_hidden same_class (all_facts accessor inner units) (in_java same_class (same_place accessor inner units)).keeps (λ x k. and_left _ (not x.calls_accessor) k) (most accessor inner units) c shown es h run

  pub calm_runs_nothing_else : (c : ClassRef) (es : List (Event ClassRef ℕ)) → is_calm accessor inner units c ≡ true → Initialization same_class (all_facts accessor inner units) (initializers_do accessor inner units) c es → OnlyStatics es
  calm_runs_nothing_else c es h run = l.java_calm same_class tells_apart (same_place accessor inner units) (all_facts accessor inner units) (f.statics_lead same_class (same_place accessor inner units) (in_java same_class (same_place accessor inner units)) (all_facts accessor inner units) (most accessor inner units)) (most accessor inner units) c es h run

  pub idle_is_silent : (c : ClassRef) (es : List (Event ClassRef ℕ)) → is_idle accessor inner units c ≡ true → Initialization same_class (all_facts accessor inner units) (initializers_do accessor inner units) c es → es ≡ []
  idle_is_silent c es h run = l.idle_does_nothing same_class (all_facts accessor inner units) (initializers_do accessor inner units) (most accessor inner units) c es h run

  pub touches_same : NoneUnset accessor inner units → (here c : ClassRef) → touches_laid accessor inner units here c ≡ touches accessor inner units here c
  touches_same none here c = l.touches_laid same_class (same_place accessor inner units) tells_apart (all_facts accessor inner units) (most accessor inner units) none here c

  pub closed_same : (c : ClassRef) → is_closed accessor inner units c ≡ true → is_closed_laid accessor inner units c ≡ true
  closed_same c = l.closed_laid same_class (same_place accessor inner units) tells_apart (all_facts accessor inner units) (most accessor inner units) c
