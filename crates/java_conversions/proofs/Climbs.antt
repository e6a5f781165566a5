-- One step up.
use Rattle.std.proofs.Common.{◌≡◌, ℕ, zero, suc, ◌-◌, ◌<◌, List, Some, sym, ap, ◌∙◌, arith}
use Rattle.java_typed.specs.declared.types.ClassRef.{ClassRef}
use Rattle.java_typed.specs.declared.types.TType.{TType}
use Rattle.java_typed.specs.declared.types.TType.TheVariants as t
use Rattle.java_type_relations.specs.declared.heads.Heads.{Heads}
use Rattle.java_type_relations.specs.declared.supers.Sought.{Sought}
use Rattle.java_type_relations.specs.declared.supers.Step.TheVariants as steps
use Rattle.java_type_relations.specs.Heads.{bound_in}
use Rattle.java_type_relations.specs.Supers.{climbed, onward, step}
use Rattle.java_type_relations.specs.Casts.{next_upper, upper, upper_by}
use Rattle.java_type_relations.proofs.LawsToCite.{out_variable}

pub climb_on : (heads : Heads) (s : Sought) (n : ℕ) (level next : List TType) → 0 < n → step heads s level ≡ steps.Next next →
    climbed heads s (n - 1) next ≡ climbed heads s n level
climb_on heads s zero level next h e = absurd (omega arith)
climb_on heads s (suc n) level next h e =
    let one : suc n - 1 ≡ n = omega arith in
    ap (λ k. climbed heads s k next) one ∙ sym (ap (onward (climbed heads s n)) e)

pub upper_on : (heads : Heads) (n : ℕ) (c : ClassRef) (m : ℕ) (x : TType) → 0 < n → bound_in heads c m ≡ Some x →
    upper heads (n - 1) x ≡ upper heads n (t.Variable c m)
upper_on heads zero c m x h e = absurd (omega arith)
upper_on heads (suc n) c m x h e =
    let one : suc n - 1 ≡ n = omega arith in
    ap (λ k. upper heads k x) one
    ∙ sym (ap (next_upper (upper heads n) (t.Variable c m)) e)
    ∙ sym (ap (upper_by heads (upper heads n) (t.Variable c m)) (out_variable c m))
