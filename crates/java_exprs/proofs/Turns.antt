-- The loop over suffixes, a turn at a time.
use Rattle.std.proofs.Common.{◌≡◌, ℕ, suc, Bool, true, false, ◌&&◌, cond, Some, None, refl, ap, ◌∙◌, nat_lt, nat_le}
use Rattle.std.proofs.lemmas.Bool.Decides.{nat_tests}
use Rattle.java_tree.specs.declared.exprs.JExpr.{JExpr}
use Rattle.java_expr_grammar.specs.declared.suffix.Suffix.{Suffix}
use Rattle.java_tree.specs.Seen.{Tokens}
use Rattle.java_tree.specs.Trees.{depth}
use Rattle.java_expr_grammar.specs.Reading.{Read, ◌>>=◌, maybe, suffix, strength, takes, finish, climb, grown, type_read, base_read, typed_read, read}
use Rattle.java_exprs.specs.Exprs.{turn}
use Rattle.java_expr_grammar.proofs.LawsToCite.{expr_parts as parts}

abbrev stepped : (JExpr × Tokens → Read JExpr) → (Bool × JExpr) × Tokens → Read JExpr
stepped go t = cond t.0.0 (go (t.0.1, t.1)) (Some (t.0.1, t.1))

by_tests : (go : JExpr × Tokens → Read JExpr) (a b : Bool) (left : JExpr) (ts : Tokens) (o : Read JExpr)
    → cond a (Some (left, ts)) (cond b (o >>= go) None) ≡ (cond a (Some ((false, left), ts)) (cond b (o >>= (λ x. Some ((true, x.0), x.1))) None) >>= stepped go)
by_tests go true b left ts o = refl
by_tests go false false left ts o = refl
by_tests go false true left ts None = refl
by_tests go false true left ts (Some x) = refl

by_suffix : (d least n : ℕ) (left : JExpr) (ts : Tokens) (o : Read Suffix)
    → maybe o (Some (left, ts)) (λ s. grown (type_read d) (base_read (suc d)) (typed_read d) (read d) d least left ts s (λ x. climb (type_read d) (base_read (suc d)) (typed_read d) (read d) d least n x.0 x.1))
    ≡ (maybe o (Some ((false, left), ts)) (λ s. cond (nat_lt (strength s.0) least) (Some ((false, left), ts))
    (cond (takes s.0 left && nat_le (depth left) d) (finish (type_read d) (base_read (suc d)) (typed_read d) (read d) s.0 left s.1 >>= (λ x. Some ((true, x.0), x.1))) None))
    >>= stepped (λ x. climb (type_read d) (base_read (suc d)) (typed_read d) (read d) d least n x.0 x.1))
unfolding grown
by_suffix d least n left ts None = refl
by_suffix d least n left ts (Some s) = by_tests (λ x. climb (type_read d) (base_read (suc d)) (typed_read d) (read d) d least n x.0 x.1) (nat_lt (strength s.0) least) (takes s.0 left && nat_le (depth left) d) left ts (finish (type_read d) (base_read (suc d)) (typed_read d) (read d) s.0 left s.1)

pub climb_turn : (d least n : ℕ) (left : JExpr) (ts : Tokens)
    → climb (type_read d) (base_read (suc d)) (typed_read d) (read d) d least (suc n) left ts ≡ (turn d least left ts >>= stepped (λ x. climb (type_read d) (base_read (suc d)) (typed_read d) (read d) d least n x.0 x.1))
unfolding climb turn
climb_turn d least n left ts = by_suffix d least n left ts (suffix ts)

pub climb_longer : (d least n : ℕ) (left x : JExpr) (ts rest : Tokens) → turn d least left ts ≡ Some ((true, x), rest)
    → climb (type_read d) (base_read (suc d)) (typed_read d) (read d) d least (suc n) left ts ≡ climb (type_read d) (base_read (suc d)) (typed_read d) (read d) d least n x rest
climb_longer d least n left x ts rest e = climb_turn d least n left ts ∙ ap (λ o. o >>= stepped (λ x. climb (type_read d) (base_read (suc d)) (typed_read d) (read d) d least n x.0 x.1)) e

pub climb_done : (d least n : ℕ) (left x : JExpr) (ts rest : Tokens) → turn d least left ts ≡ Some ((false, x), rest)
    → climb (type_read d) (base_read (suc d)) (typed_read d) (read d) d least (suc n) left ts ≡ Some (x, rest)
climb_done d least n left x ts rest e = climb_turn d least n left ts ∙ ap (λ o. o >>= stepped (λ x. climb (type_read d) (base_read (suc d)) (typed_read d) (read d) d least n x.0 x.1)) e

pub climb_stuck : (d least n : ℕ) (left : JExpr) (ts : Tokens) → turn d least left ts ≡ None
    → climb (type_read d) (base_read (suc d)) (typed_read d) (read d) d least (suc n) left ts ≡ None
climb_stuck d least n left ts e = climb_turn d least n left ts ∙ ap (λ o. o >>= stepped (λ x. climb (type_read d) (base_read (suc d)) (typed_read d) (read d) d least n x.0 x.1)) e

pub done_turn : (d least n : ℕ) (left x : JExpr) (b : Bool) (ts rest : Tokens) → turn d least left ts ≡ Some ((b, x), rest) → b ≡ false
    → climb (type_read d) (base_read (suc d)) (typed_read d) (read d) d least (suc n) left ts ≡ Some (x, rest)
done_turn d least n left x true ts rest e f = absurd (cc f)
done_turn d least n left x false ts rest e f = climb_done d least n left x ts rest e

pub longer_turn : (d least n : ℕ) (left x : JExpr) (b : Bool) (ts rest : Tokens) → turn d least left ts ≡ Some ((b, x), rest) → b ≡ true
    → climb (type_read d) (base_read (suc d)) (typed_read d) (read d) d least (suc n) left ts ≡ climb (type_read d) (base_read (suc d)) (typed_read d) (read d) d least n x rest
longer_turn d least n left x true ts rest e f = climb_longer d least n left x ts rest e
longer_turn d least n left x false ts rest e f = absurd (cc f)

pub ruleset tests = (parts, nat_tests)

pub ruleset turns = (climb_longer, climb_done, climb_stuck)
