-- What one node tells itself, beside what its parts tell.
use Rattle.std.specs.Prelude.{ℕ, List, [], ◌++◌}
use Rattle.std.specs.List.{flat_map}
use Rattle.java_typed.specs.declared.types.TWritten.{TWritten}
use Rattle.java_typed.specs.declared.exprs.TExpr.{TExpr, map-TExpr}
use Rattle.java_typed.specs.declared.exprs.TExpr.TheOpen.{TExpr-F}
use Rattle.java_typed.specs.declared.statements.TBody.{TBody}
use Rattle.java_typed.specs.declared.statements.TBody.TheOpen.{TBody-F, TStatement-F, TCaseGroup-F, TCatch-F}
use Rattle.java_typed.specs.declared.statements.TStatement.{TStatement}
use Rattle.java_typed.specs.declared.statements.TCaseGroup.{TCaseGroup}
use Rattle.java_typed.specs.declared.statements.TCatch.{TCatch}
use Rattle.java_walks.specs.Parts.{Told, collected, infos}
use Rattle.java_walks.specs.Texts.{of_option, of_declarator, of_simple, of_start, of_label, of_lock}

-- an expression (JLS 15), by what is known of its parts
module _ {I A : Type 0} (known : TExpr-F I → I) (own : TExpr-F I → List A) where
  abbrev pub own_told : TExpr-F TExpr → List A
  own_told x = own (infos known own (map-TExpr TExpr (Told I A) (collected known own) x))

-- a statement (JLS 14): of the expressions and the written types that stand in it, and in no statement or body within it
module _ {A : Type 0} (of_value : TExpr → List A) (of_type : TWritten → List A) (of_inner : ℕ → List A) where
  abbrev pub own_body : TBody-F TBody TStatement TCaseGroup TCatch → List A
  own_body (TBody-F.Statements xs) = []
  own_body (TBody-F.Class number) = of_inner number

  abbrev pub own_group : TCaseGroup-F TBody TStatement TCaseGroup TCatch → List A
  own_group x = flat_map (of_label of_value of_type of_inner) x.labels

  abbrev pub own_catch : TCatch-F TBody TStatement TCaseGroup TCatch → List A
  own_catch x = of_declarator of_value of_type of_inner x.caught

  abbrev pub own_statement : TStatement-F TBody TStatement TCaseGroup TCatch → List A
  own_statement (TStatement-F.Simple at x bodies) = of_simple of_value of_type of_inner x
  own_statement (TStatement-F.Block at xs right) = []
  own_statement (TStatement-F.Labeled at own x) = []
  own_statement (TStatement-F.If at c bodies x) = of_value c
  own_statement (TStatement-F.IfElse at c bodies x y) = of_value c
  own_statement (TStatement-F.While at c bodies x) = of_value c
  own_statement (TStatement-F.Do at x c bodies) = of_value c
  own_statement (TStatement-F.For at start c updates bodies x) = of_start of_value of_type of_inner start ++ (of_option of_value of_type of_inner c ++ flat_map of_value updates)
  own_statement (TStatement-F.Each at variable xs bodies x) = of_declarator of_value of_type of_inner variable ++ of_value xs
  own_statement (TStatement-F.Switch at x bodies gs) = of_value x
  own_statement (TStatement-F.Synchronized at x bodies xs) = of_lock of_value of_type of_inner x
  own_statement (TStatement-F.Try at xs catches last lasts) = []
