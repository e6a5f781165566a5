-- What is still to be written of a unit.
use Rattle.std.specs.Prelude.{ℕ, ◌+◌, List, [], ◌∷◌, ◌++◌, map, drop, reverse}
use Rattle.java_tree.specs.Seen.{Tokens}
use Rattle.java_expr_printer.specs.declared.written.Written.{Written}
use Rattle.java_expr_printer.specs.Shown.{shown, written_shown}
use Rattle.java_unit_grammar.specs.declared.statements.JCase.{JCase, fold-JCase}
use Rattle.java_unit_grammar.specs.declared.statements.JCaseGroup.{JCaseGroup, fold-JCaseGroup}
use Rattle.java_unit_grammar.specs.declared.statements.JCatch.{JCatch, fold-JCatch}
use Rattle.java_unit_grammar.specs.Tokens.{joined, filled, body_tokens, statement_tokens, whole_member_tokens, body_by, member_by, statement_by, case_by, group_by, catch_by}
use Rattle.java_unit_printer.specs.declared.work.Work.{Work}
use Rattle.java_unit_printer.specs.declared.work.Work.TheVariants as w
use Rattle.java_unit_printer.specs.Weights.{total, text_weight, body_weight, case_weight, group_weight, catch_weight, statement_weight, member_weight}

unfoldable pub case_tokens : JCase → Tokens
case_tokens = fold-JCase Tokens Tokens Tokens Tokens Tokens Tokens body_by member_by statement_by case_by group_by catch_by

unfoldable pub group_tokens : JCaseGroup → Tokens
group_tokens = fold-JCaseGroup Tokens Tokens Tokens Tokens Tokens Tokens body_by member_by statement_by case_by group_by catch_by

unfoldable pub catch_tokens : JCatch → Tokens
catch_tokens = fold-JCatch Tokens Tokens Tokens Tokens Tokens Tokens body_by member_by statement_by case_by group_by catch_by

-- the tokens of a stack, whose last stands first
unfoldable pub laid : List Written → Tokens
laid text = shown (reverse text)

abbrev pub work_tokens : Work → Tokens
work_tokens (w.Token x) = written_shown x ∷ []
work_tokens (w.Text text bodies) = filled (laid text.items) (map body_tokens bodies.now)
work_tokens (w.Statement x) = statement_tokens x.now
work_tokens (w.Statements xs from) = joined (map statement_tokens (drop from xs.now))
work_tokens (w.Members xs) = joined (map whole_member_tokens xs.now)
work_tokens (w.Groups xs) = joined (map group_tokens xs.now)
work_tokens (w.Cases xs) = joined (map case_tokens xs.now)
work_tokens (w.Catches xs) = joined (map catch_tokens xs.now)

-- of a stack, whose last is written first
unfoldable pub todo : List Work → Tokens
todo [] = []
todo (x ∷ xs) = todo xs ++ work_tokens x

abbrev pub work_weight : Work → ℕ
work_weight (w.Token x) = 1
work_weight (w.Text text bodies) = text_weight (laid text.items) (map body_weight bodies.now)
work_weight (w.Statement x) = statement_weight x.now
work_weight (w.Statements xs from) = total (map statement_weight (drop from xs.now))
work_weight (w.Members xs) = total (map member_weight xs.now)
work_weight (w.Groups xs) = total (map group_weight xs.now)
work_weight (w.Cases xs) = total (map case_weight xs.now)
work_weight (w.Catches xs) = total (map catch_weight xs.now)

unfoldable pub weight : List Work → ℕ
weight [] = 0
weight (x ∷ xs) = work_weight x + weight xs
