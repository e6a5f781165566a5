-- Which reads, assignments and statements of a text are at fault, and whether it can end.
use Rattle.std.specs.Prelude.{Bool, false, not, List}
use Rattle.flow.specs.Analyses.{flow, assignment, unassignment, unreachable}
use Rattle.java_flow.specs.Variables.{Variable, same_target, JavaUse, JavaAct}

-- the reads that don't find the variable definitely assigned (JLS 16), where it is so before the text
unfoldable pub unassigned_reads : (Variable → Bool) → Bool → JavaAct → List JavaUse
unassigned_reads is assigned x = (flow same_target (assignment is) x assigned).faults

-- the assignments that don't find the variable definitely unassigned (JLS 16, 4.12.4), where it is so before the text
unfoldable pub assigned_again : (Variable → Bool) → Bool → JavaAct → List JavaUse
assigned_again is unassigned x = (flow same_target (unassignment is) x unassigned).faults

-- the statements where control can't come (JLS 14.21), from a start where it comes
unfoldable pub unreachable_statements : JavaAct → List JavaUse
unreachable_statements x = (flow same_target unreachable x false).faults

-- whether it can complete normally (JLS 14.21)
unfoldable pub can_end : JavaAct → Bool
can_end x = not (flow same_target unreachable x false).end
