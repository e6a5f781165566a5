-- What an expression is judged to be, by its form.
use Rattle.std.proofs.Common.{◌≡◌, ℕ, List, [], ◌∷◌, map, refl, ap, sym, ◌∙◌}
use Rattle.java_tree.specs.declared.exprs.JExpr.{JExpr, roll-JExpr, out-JExpr, map-JExpr, para-roll-JExpr, roll-out-JExpr}
use Rattle.java_tree.specs.declared.exprs.JExpr.TheOpen.{JExpr-F}
use Rattle.java_tree.specs.Seen.{Tokens}
use Rattle.java_tree.specs.Trees.{tokens, tokens_by}
use Rattle.java_expr_grammar.proofs.LawsToCite.{tokens_out}
use Rattle.java_typed.specs.declared.exprs.TExpr.{TExpr}
use Rattle.java_taken.specs.Judged.{Judged}
use Rattle.java_taken.specs.Places.{first_of, first_at}
use Rattle.java_taken.specs.Expressions.{form_of, form_tokens, expression_by, expression}

abbrev pub Part : Type 0
Part = JExpr × Judged TExpr

module _ (f : JExpr → Judged TExpr) where
  abbrev pub beside : JExpr → Part
  beside x = (x, f x)

  all_tokens : (xs : List JExpr) → map (λ (part : Part). tokens part.0) (map beside xs) ≡ map tokens xs
  all_tokens [] = refl
  all_tokens (x ∷ xs) = ap (λ ts. tokens x ∷ ts) (all_tokens xs)

  same_tokens : (x : JExpr-F JExpr) → form_tokens (map-JExpr JExpr Part beside x) ≡ tokens_by (map-JExpr JExpr Tokens tokens x)
  same_tokens (JExpr-F.Name n at) = refl
  same_tokens (JExpr-F.Literal literal at) = refl
  same_tokens (JExpr-F.This at) = refl
  same_tokens (JExpr-F.Paren lp inner rp) = refl
  same_tokens (JExpr-F.Call n at lp args commas rp) = ap (λ ts. tokens_by (JExpr-F.Call n at lp ts commas rp)) (all_tokens args)
  same_tokens (JExpr-F.SuperCall above dot n at lp args commas rp) = ap (λ ts. tokens_by (JExpr-F.SuperCall above dot n at lp ts commas rp)) (all_tokens args)
  same_tokens (JExpr-F.Field left dot n at) = refl
  same_tokens (JExpr-F.Method left dot n at lp args commas rp) = ap (λ ts. tokens_by (JExpr-F.Method (tokens left) dot n at lp ts commas rp)) (all_tokens args)
  same_tokens (JExpr-F.Element left lp index rp) = refl
  same_tokens (JExpr-F.Postfix left op at) = refl
  same_tokens (JExpr-F.Prefix op at inner) = refl
  same_tokens (JExpr-F.MinusLeast minus literal at) = refl
  same_tokens (JExpr-F.Cast lp to rp inner) = refl
  same_tokens (JExpr-F.Binary left op at right) = refl
  same_tokens (JExpr-F.Instanceof left at to) = refl
  same_tokens (JExpr-F.Conditional left question then_ colon else_) = refl
  same_tokens (JExpr-F.Assign left op at right) = refl
  same_tokens (JExpr-F.Lambda params arrow body) = refl
  same_tokens (JExpr-F.LambdaBlock params arrow body) = refl
  same_tokens (JExpr-F.New at made lp args commas rp body) = ap (λ ts. tokens_by (JExpr-F.New at made lp ts commas rp body)) (all_tokens args)
  same_tokens (JExpr-F.NewArray at of lb size rb more) = refl
  same_tokens (JExpr-F.NewFilled at of brackets lc inits commas more rc) = ap (λ ts. tokens_by (JExpr-F.NewFilled at of brackets lc ts commas more rc)) (all_tokens inits)
  same_tokens (JExpr-F.Braces lc inits commas more rc) = ap (λ ts. tokens_by (JExpr-F.Braces lc ts commas more rc)) (all_tokens inits)

module _ (names : List (List ℕ)) where
  at_roll : (x : JExpr-F JExpr) → expression names (roll-JExpr x) ≡ expression_by names (map-JExpr JExpr Part (beside (expression names)) x)
  unfolding expression
  at_roll x = para-roll-JExpr (Judged TExpr) (expression_by names) x

  first_place : (x : JExpr) → first_of (form_tokens (map-JExpr JExpr Part (beside (expression names)) (out-JExpr x))) ≡ first_at x
  unfolding first_at
  first_place x = ap first_of (same_tokens (expression names) (out-JExpr x) ∙ sym (tokens_out x))

  pub expression_out : (x : JExpr) → expression names x ≡ form_of names (first_at x) (map-JExpr JExpr Part (beside (expression names)) (out-JExpr x))
  expression_out x =
      ap (expression names) (sym (roll-out-JExpr x)) ∙ at_roll (out-JExpr x)
      ∙ ap (λ at. form_of names at (map-JExpr JExpr Part (beside (expression names)) (out-JExpr x))) (first_place x)
