-- The rules of the reader at a depth of its parts.
use Rattle.std.specs.Prelude.{suc, ℕ, ◌+◌, List}
use Rattle.java_tree.specs.declared.tokens.Position.{Position}
use Rattle.java_tree.specs.declared.tokens.Mark.{Mark}
use Rattle.java_tree.specs.declared.tokens.Keyword.{Keyword}
use Rattle.java_tree.specs.declared.types.JBrackets.{JBrackets}
use Rattle.java_tree.specs.declared.types.JType.{JType}
use Rattle.java_tree.specs.declared.exprs.PrefixOp.{PrefixOp}
use Rattle.java_tree.specs.declared.exprs.JCreated.{JCreated}
use Rattle.java_tree.specs.declared.exprs.JParam.{JParam}
use Rattle.java_tree.specs.declared.exprs.JParams.{JParams}
use Rattle.java_tree.specs.declared.exprs.JExpr.{JExpr}
use Rattle.java_expr_grammar.specs.declared.suffix.Suffix.{Suffix}
use Rattle.std.specs.Prelude.{Option}
use Rattle.java_expr_grammar.specs.Reading.{Reader, Listed, type_read, base_read, typed_read, read}
use Rattle.java_expr_grammar.specs.Reading as r

abbrev pub cast_of : ℕ → Position → JType → Position → Reader JExpr
cast_of d lp to rp ts = r.cast_of (type_read d) (base_read (suc d)) (typed_read d) (read d) lp to rp ts

abbrev pub cast : ℕ → Position → Reader JExpr
cast d lp ts = r.cast (type_read d) (base_read (suc d)) (typed_read d) (read d) lp ts

abbrev pub paren : ℕ → Position → Reader JExpr
paren d lp ts = r.paren (type_read d) (base_read (suc d)) (typed_read d) (read d) lp ts

abbrev pub lambda_body : ℕ → JParams → Reader JExpr
lambda_body d params ts = r.lambda_body (type_read d) (base_read (suc d)) (typed_read d) (read d) params ts

abbrev pub lambda : ℕ → JParams → Reader JExpr
lambda d params ts = r.lambda (type_read d) (base_read (suc d)) (typed_read d) (read d) params ts

abbrev pub lambda_names : ℕ → Position → Reader JExpr
lambda_names d lp ts = r.lambda_names (type_read d) (base_read (suc d)) (typed_read d) (read d) lp ts

abbrev pub lambda_typed : ℕ → Position → Reader JExpr
lambda_typed d lp ts = r.lambda_typed (type_read d) (base_read (suc d)) (typed_read d) (read d) lp ts

abbrev pub lambda_of : ℕ → Position → Reader JExpr
lambda_of d lp ts = r.lambda_of (type_read d) (base_read (suc d)) (typed_read d) (read d) lp ts

abbrev pub group : ℕ → Position → Reader JExpr
group d lp ts = r.group (type_read d) (base_read (suc d)) (typed_read d) (read d) lp ts

abbrev pub args_from : ℕ → Reader (Listed JExpr)
args_from d ts = r.args_from (type_read d) (base_read (suc d)) (typed_read d) (read d) ts

abbrev pub call : ℕ → List ℕ → Position → Position → Reader JExpr
call d n at lp ts = r.call (type_read d) (base_read (suc d)) (typed_read d) (read d) n at lp ts

abbrev pub super_args : ℕ → Position → Position → JParam → Position → Reader JExpr
super_args d above dot n lp ts = r.super_args (type_read d) (base_read (suc d)) (typed_read d) (read d) above dot n lp ts

abbrev pub super_call : ℕ → Position → Reader JExpr
super_call d above ts = r.super_call (type_read d) (base_read (suc d)) (typed_read d) (read d) above ts

abbrev pub new_args : ℕ → Position → JCreated → Position → Reader JExpr
new_args d at made lp ts = r.new_args (type_read d) (base_read (suc d)) (typed_read d) (read d) at made lp ts

abbrev pub new_inferred : ℕ → Position → Reader JExpr
new_inferred d at ts = r.new_inferred (type_read d) (base_read (suc d)) (typed_read d) (read d) at ts

abbrev pub new_sized : ℕ → Position → JType → Position → Reader JExpr
new_sized d at of lb ts = r.new_sized (type_read d) (base_read (suc d)) (typed_read d) (read d) at of lb ts

abbrev pub inits : ℕ → Reader (Listed JExpr)
inits d ts = r.inits (type_read d) (base_read (suc d)) (typed_read d) (read d) ts

abbrev pub new_filled : ℕ → Position → JType → List JBrackets → Reader JExpr
new_filled d at of pairs ts = r.new_filled (type_read d) (base_read (suc d)) (typed_read d) (read d) at of pairs ts

abbrev pub new_array : ℕ → Position → JType → Position → Reader JExpr
new_array d at of lb ts = r.new_array (type_read d) (base_read (suc d)) (typed_read d) (read d) at of lb ts

abbrev pub new_of : ℕ → Position → JType → Reader JExpr
new_of d at of ts = r.new_of (type_read d) (base_read (suc d)) (typed_read d) (read d) at of ts

abbrev pub creation : ℕ → Position → Reader JExpr
creation d at ts = r.creation (type_read d) (base_read (suc d)) (typed_read d) (read d) at ts

abbrev pub braces : ℕ → Position → Reader JExpr
braces d lc ts = r.braces (type_read d) (base_read (suc d)) (typed_read d) (read d) lc ts

abbrev pub worded : ℕ → Keyword → Position → Reader JExpr
worded d word at ts = r.worded (type_read d) (base_read (suc d)) (typed_read d) (read d) word at ts

abbrev pub named : ℕ → List ℕ → Position → Reader JExpr
named d n at ts = r.named (type_read d) (base_read (suc d)) (typed_read d) (read d) n at ts

abbrev pub prefixed : ℕ → Option PrefixOp → Position → Reader JExpr
prefixed d op at ts = r.prefixed (type_read d) (base_read (suc d)) (typed_read d) (read d) op at ts

abbrev pub minus : ℕ → Position → Reader JExpr
minus d at ts = r.minus (type_read d) (base_read (suc d)) (typed_read d) (read d) at ts

abbrev pub marked : ℕ → Mark → Position → Reader JExpr
marked d mark at ts = r.marked (type_read d) (base_read (suc d)) (typed_read d) (read d) mark at ts

abbrev pub operand : ℕ → Reader JExpr
operand d ts = r.operand (type_read d) (base_read (suc d)) (typed_read d) (read d) ts

abbrev pub choice : ℕ → JExpr → Position → Reader JExpr
choice d left question ts = r.choice (type_read d) (base_read (suc d)) (typed_read d) (read d) left question ts

abbrev pub method : ℕ → JExpr → Position → JParam → Position → Reader JExpr
method d left dot n lp ts = r.method (type_read d) (base_read (suc d)) (typed_read d) (read d) left dot n lp ts

abbrev pub member : ℕ → JExpr → Position → JParam → Reader JExpr
member d left dot n ts = r.member (type_read d) (base_read (suc d)) (typed_read d) (read d) left dot n ts

abbrev pub element : ℕ → JExpr → Position → Reader JExpr
element d left lp ts = r.element (type_read d) (base_read (suc d)) (typed_read d) (read d) left lp ts

abbrev pub finish : ℕ → Suffix → JExpr → Reader JExpr
finish d suffix left ts = r.finish (type_read d) (base_read (suc d)) (typed_read d) (read d) suffix left ts

abbrev pub climb : ℕ → ℕ → JExpr → Reader JExpr
climb d least left ts = r.climb (type_read d) (base_read (suc d)) (typed_read d) (read d) d least (d + 1) left ts

abbrev pub level_read : ℕ → ℕ → Reader JExpr
level_read d least ts = r.level_read (type_read d) (base_read (suc d)) (typed_read d) (read d) d least ts
