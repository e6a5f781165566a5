-- What is told of an expression is what it tells itself, and what is told of its parts.
use Rattle.std.proofs.Common.{◌≡◌, List, ap, sym, ◌∙◌}
use Rattle.java_typed.specs.declared.exprs.TExpr.{TExpr, roll-TExpr, map-TExpr, fold-roll-TExpr}
use Rattle.java_typed.specs.declared.exprs.TExpr.TheOpen.{TExpr-F}
use Rattle.java_walks.specs.Parts.{Told, collected, told_by}

module _ {I A : Type 0} (known : TExpr-F I → I) (own : TExpr-F I → List A) where
  pub node : (x : TExpr-F TExpr) (y : TExpr) → roll-TExpr x ≡ y → collected known own y ≡ told_by known own (map-TExpr TExpr (Told I A) (collected known own) x)
  unfolding collected
  node x y rolls = ap (collected known own) (sym rolls) ∙ fold-roll-TExpr (Told I A) (told_by known own) x
