-- Which reads and assignments of a text are at fault, and whether it can end.
use Rattle.std.specs.Prelude.{Bool, true, false, not, List, [], ◌∷◌, ◌++◌, map, if◌then◌else◌}
use Rattle.kotlin_tree.specs.declared.places.Position.{Position}
use Rattle.flow.specs.Analyses.{Reads, Assigns, Reaches, flow, assignment, unassignment, unreachable}
use Rattle.kotlin_flow.specs.Variables.{Variable, same_target, same_variable, KotlinUse, KotlinAct, Blank}

-- the reads that don't find the variable definitely assigned, where it is so before the text
unfoldable pub unassigned_reads : (Variable → Bool) → Bool → KotlinAct → List KotlinUse
unassigned_reads is assigned x = (flow same_target (assignment is) x assigned).faults

-- the assignments that don't find the variable definitely unassigned, where it is so before the text
unfoldable pub assigned_again : (Variable → Bool) → Bool → KotlinAct → List KotlinUse
assigned_again is unassigned x = (flow same_target (unassignment is) x unassigned).faults

-- the statements where control can't come, from a start where it comes
unfoldable pub unreachable_statements : KotlinAct → List KotlinUse
unreachable_statements x = (flow same_target unreachable x false).faults

-- whether control may come to its end
unfoldable pub can_end : KotlinAct → Bool
can_end x = not (flow same_target unreachable x false).end

-- whether the variable is definitely assigned at its end, where it isn't so before the text
unfoldable pub assigned_at_end : (Variable → Bool) → KotlinAct → Bool
assigned_at_end is x = (flow same_target (assignment is) x false).end

-- K10 to K12, as far as flow finds them
pub data FlowCode : Type 0 where
  AssignedAgain : FlowCode
  NotAssigned : FlowCode
  Missing : FlowCode

pub record FlowFault : Type 0 where
  pub code : FlowCode
  pub at : Position

-- the first token of what reads or assigns, or of a statement
abbrev pub place_of : KotlinUse → Position
place_of (Reads v at) = at
place_of (Assigns v at) = at
place_of (Reaches at) = at

abbrev pub told : FlowCode → List KotlinUse → List FlowFault
told code xs = map (λ x. record { code = code; at = place_of x }) xs

-- Of a local without a value: K11 where it is read and may not be assigned, and K10 where a `val` is assigned and may be already.
abbrev pub blank_faults : Blank → List FlowFault
blank_faults b =
    told NotAssigned (unassigned_reads (same_variable b.variable) false b.does)
    ++ (if b.declared.is_val then told AssignedAgain (assigned_again (same_variable b.variable) true b.does) else [])

abbrev pub blanks_faults : List Blank → List FlowFault
blanks_faults [] = []
blanks_faults (b ∷ more) = blank_faults b ++ blanks_faults more
