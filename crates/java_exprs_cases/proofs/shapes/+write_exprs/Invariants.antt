use Rattle.std.proofs.Common.{◌+◌, ◌*◌}
use Rattle.java_exprs_cases.proofs.shapes.+write_exprs.Given as goal

abbrev pub decreases-put_expr : goal.decreases-put_expr
decreases-put_expr l = 8 * l.room

abbrev pub decreases-put_exprs : goal.decreases-put_exprs
decreases-put_exprs l = 8 * l.room + 1

abbrev pub decreases-put_created_form : goal.decreases-put_created_form
decreases-put_created_form l = 8 * l.room + 2

abbrev pub decreases-put_call : goal.decreases-put_call
decreases-put_call l = 8 * l.room + 3

abbrev pub decreases-put_primary : goal.decreases-put_primary
decreases-put_primary l = 8 * l.room + 4

abbrev pub decreases-put_unary : goal.decreases-put_unary
decreases-put_unary l = 8 * l.room + 5

abbrev pub decreases-put_lambda : goal.decreases-put_lambda
decreases-put_lambda l = 8 * l.room + 6

abbrev pub decreases-put_operands : goal.decreases-put_operands
decreases-put_operands l = 8 * l.room + 7
