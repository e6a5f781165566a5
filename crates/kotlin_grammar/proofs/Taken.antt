-- A terminal takes the kinds that it accepts, and something of the tokens.
use Rattle.std.proofs.Common.{◌≡◌, ◌≤◌, ◌+◌, ℕ, suc, Bool, true, false, List, [], ◌∷◌, Option, Some, None, refl, ap, sym, arith}
use Rattle.std.specs.Prelude.{if◌then◌else◌}
use Rattle.kotlin_tree.specs.declared.tokens.Gap.{Gap}
use Rattle.kotlin_tree.specs.declared.tokens.Gap.TheVariants as gap
use Rattle.kotlin_tree.specs.declared.tokens.KToken.{KToken}
use Rattle.kotlin_grammar.specs.declared.letters.Term.{Term}
use Rattle.kotlin_grammar.specs.declared.ahead.Letter.{Letter}
use Rattle.kotlin_grammar.specs.Table.{accepts, blank_after, is_end}
use Rattle.kotlin_grammar.specs.Ahead.{Letters, is_plain, without_line}
use Rattle.kotlin_grammar.specs.Taking.{kind, takes, size, relaxed, left, behind}

if_some : {A : Type 0} (b : Bool) (o : Option A) (x : A) → (if b then o else None) ≡ Some x → (b ≡ true) × (o ≡ Some x)
if_some true o x h = (refl, h)
if_some false o x h = absurd (cc h)

relaxed_weight : (g : Gap) (n : ℕ) → (if is_plain (without_line g) then 1 else 2) + n ≤ (if is_plain g then 1 else 2) + n
relaxed_weight gap.Plain n = omega arith
relaxed_weight gap.Line n = omega arith
relaxed_weight gap.Semicolon n = omega arith

relaxed_size : (ls : Letters) → size (relaxed ls) ≤ size ls
relaxed_size [] = omega arith
relaxed_size (l ∷ ls) = relaxed_weight l.token.gap (size ls)

blank_size : (b : Bool) (ls : Letters) → size (if b then relaxed ls else ls) ≤ size ls
blank_size true ls = relaxed_size ls
blank_size false ls = omega arith

weight_pos : (b : Bool) (n : ℕ) → suc n ≤ (if b then 1 else 2) + n
weight_pos true n = omega arith
weight_pos false n = omega arith

module _ {Built : Type 0} (push : Term → KToken → Built → Built) where
  pub accepted : (c : Term) (b : Built) (ls : Letters) (x : Built × Letters) → takes push c b ls ≡ Some x → accepts c (kind ls) ≡ true
  unfolding takes
  accepted c b [] x h = absurd (cc h)
  accepted c b (l ∷ ls) x h = (if_some (accepts c (kind (l ∷ ls))) _ x h).0

  abbrev out : Option (Built × Letters) → Letters
  out None = []
  out (Some y) = y.1

  smaller : (z p : Bool) (u b : Built) (l : Letter) (ls more : Letters) (x : Built × Letters) → is_plain l.token.gap ≡ p → size more ≤ size ls
      → (if z then (if p then None else Option.Some (b, behind gap.Plain l ∷ ls)) else Some (u, more)) ≡ Some x → size x.1 + 1 ≤ size (l ∷ ls)
  smaller true true u b l ls more x g i h = absurd (cc h)
  smaller true false u b l ls more x g i h = let same : behind gap.Plain l ∷ ls ≡ x.1 = ap out h in rw (sym same, g) (omega arith)
  smaller false p u b l ls more x g i h = let same : more ≡ x.1 = ap out h in rw (sym same) (omega (arith, weight_pos (is_plain l.token.gap) (size ls), i))

  pub shorter : (c : Term) (b : Built) (ls : Letters) (x : Built × Letters) → takes push c b ls ≡ Some x → size x.1 + 1 ≤ size ls
  unfolding takes
  shorter c b [] x h = absurd (cc h)
  shorter c b (l ∷ ls) x h =
      smaller (is_end c) (is_plain l.token.gap) (push c l.token b) b l ls (left c ls) x refl (blank_size (blank_after c) ls)
      (if_some (accepts c (kind (l ∷ ls))) _ x h).1
