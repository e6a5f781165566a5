-- Reading the whole of a list answers a tree exactly where one spells it.
use Rattle.std.proofs.Common.{◌≡◌, ◌++◌, [], ◌∷◌, Option, Some, None, ap, sym, ◌∙◌, arith}
use Rattle.std.proofs.lemmas.List.{append-nil}
use Rattle.java_tree.specs.declared.exprs.JExpr.{JExpr}
use Rattle.java_tree.specs.Seen.{Tokens}
use Rattle.java_tree.specs.Trees.{tokens, any_level, max_depth, JSpells}
use Rattle.java_expr_grammar.specs.Reading as r
use Rattle.java_expr_grammar.proofs.Soundness.{sound}
use Rattle.java_expr_grammar.proofs.Completeness.{again, bound_pos}

whole_only : (o : r.Read JExpr) (x : JExpr) → r.whole o ≡ Some x → o ≡ Some (x, [])
whole_only None x h = absurd (cc h)
whole_only (Some (y, [])) x h = let same : y ≡ x = cc in ap (λ (z : JExpr). Option.Some (z, [])) same
whole_only (Some (y, t ∷ ts)) x h = absurd (cc h)

pub is_spelled : (ts : Tokens) (x : JExpr) → r.whole (r.read max_depth any_level ts) ≡ Some x → JSpells x ts
is_spelled ts x h =
    let s = sound max_depth any_level ts (x, []) (whole_only (r.read max_depth any_level ts) x h) in
    record { stands = s.1; same = sym (s.0 ∙ append-nil (tokens x)) }

pub is_read : (ts : Tokens) (x : JExpr) → JSpells x ts → r.whole (r.read max_depth any_level ts) ≡ Some x
unfolding r.suffix
is_read ts x s =
    let read : r.read max_depth any_level (tokens x ++ []) ≡ Some (x, []) = again max_depth any_level x s.stands [] (omega arith) (omega (arith, bound_pos x)) in
    let same : tokens x ++ [] ≡ ts = append-nil (tokens x) ∙ s.same in
    ap (λ ts. r.whole (r.read max_depth any_level ts)) (sym same) ∙ ap r.whole read

pub one : (x y : JExpr) (ts : Tokens) → JSpells x ts → JSpells y ts → x ≡ y
one x y ts s t = let a = is_read ts x s in let b = is_read ts y t in cc
