-- What an expression is judged to be after the declarations of locals.
use Rattle.std.specs.Prelude.{ℕ, pos, Bool, true, false, ◌&&◌, if◌then◌else◌, nat_le, List, Option, Some, None}
use Rattle.java_tree.specs.declared.tokens.Position.{Position}
use Rattle.java_tree.specs.declared.exprs.BinaryOp.{BinaryOp}
use Rattle.java_tree.specs.declared.exprs.BinaryOp.TheVariants as op
use Rattle.java_tree.specs.declared.exprs.JLiteral.{JLiteral}
use Rattle.java_tree.specs.declared.exprs.JLiteral.TheVariants as literal
use Rattle.java_tree.specs.declared.exprs.JExpr.{JExpr, map-JExpr, para-JExpr}
use Rattle.java_tree.specs.declared.exprs.JExpr.TheOpen.{JExpr-F}
use Rattle.java_tree.specs.Seen.{Tokens}
use Rattle.java_tree.specs.Trees.{tokens, tokens_by}
use Rattle.j2k_base.specs.declared.constants.Const.TheVariants as const
use Rattle.j2k_base.specs.declared.constants.Kind.TheVariants as kind
use Rattle.j2k_base.specs.declared.constants.Op2.{Op2}
use Rattle.j2k_base.specs.declared.constants.Op2.TheVariants as op2
use Rattle.j2k_base.specs.declared.constants.Value.TheVariants as value
use Rattle.java_typed.specs.declared.types.TType.{TType}
use Rattle.java_typed.specs.declared.types.TType.TheVariants as ty
use Rattle.java_typed.specs.declared.exprs.TExpr.{TExpr, out-TExpr}
use Rattle.java_typed.specs.declared.exprs.TExpr.TheOpen.{TExpr-F}
use Rattle.java_typed.specs.declared.exprs.TExpr.TheVariants as t
use Rattle.java_taken.specs.Judged.{Judged, ◌>>=◌}
use Rattle.java_taken.specs.Names.{contains_name}
use Rattle.java_taken.specs.Places.{first_of}

-- an operator of the form (JLS 15.17.1, 15.18.2)
abbrev pub operator_of : BinaryOp → Option Op2
operator_of op.Add = Some op2.Add
operator_of op.Subtract = Some op2.Sub
operator_of op.Multiply = Some op2.Mul
operator_of _ = None

abbrev pub is_number_by : TExpr-F TExpr → Bool
is_number_by (TExpr-F.Literal v at) = true
is_number_by _ = false

-- A part that is taken and holds no name is one number.
unfoldable pub is_number : TExpr → Bool
is_number x = is_number_by (out-TExpr x)

abbrev pub int_type : TType
int_type = ty.Number kind.Int

-- ---- the forms, of which the first token stands at the position

-- the name of a local that is declared before (JLS 6.5.6.1)
abbrev pub local_of : List (List ℕ) → List ℕ → Position → Judged TExpr
local_of names name at = if contains_name names name then Judged.Typed (t.Local name at int_type) else Judged.Open at

-- the largest int (JLS 4.2.1)
abbrev pub max_int : ℕ
max_int = 2147483647

-- an int literal of at most the largest int (JLS 3.10.1)
abbrev pub number_of : JLiteral → Position → Judged TExpr
number_of (literal.Integer n) at = if nat_le n max_int then Judged.Typed (t.Literal (value.Number (const.Int (pos n))) at) else Judged.Open at
number_of _ at = Judged.Open at

-- parentheses around a name at least (JLS 15.8.5, 15.28)
abbrev pub paren_of : Position → TExpr → Judged TExpr
paren_of at x = if is_number x then Judged.Open at else Judged.Typed (t.Paren at x)

-- an operator with a name in its operands: without one it is a constant expression (JLS 15.28)
abbrev pub binary_of : Position → TExpr → Op2 → Position → TExpr → Judged TExpr
binary_of at x operator operator_at y = if is_number x && is_number y then Judged.Open at else Judged.Typed (t.Binary x operator operator_at y)

abbrev pub operands : Position → Judged TExpr → Option Op2 → Position → Judged TExpr → Judged TExpr
operands at left None operator_at right = Judged.Open at
operands at left (Some operator) operator_at right = left >>= λ x. right >>= λ y. binary_of at x operator operator_at y

-- one form, by its parts and what they are judged to be
abbrev pub form_of : List (List ℕ) → Position → JExpr-F (JExpr × Judged TExpr) → Judged TExpr
form_of names at (JExpr-F.Name name name_at) = local_of names name at
form_of names at (JExpr-F.Literal x literal_at) = number_of x at
form_of names at (JExpr-F.Paren lp inner rp) = inner.1 >>= paren_of at
form_of names at (JExpr-F.Binary left op op_at right) = operands at left.1 (operator_of op) op_at right.1
form_of names at _ = Judged.Open at

abbrev pub form_tokens : JExpr-F (JExpr × Judged TExpr) → Tokens
form_tokens x = tokens_by (map-JExpr (JExpr × Judged TExpr) Tokens (λ part. tokens part.0) x)

abbrev pub expression_by : List (List ℕ) → JExpr-F (JExpr × Judged TExpr) → Judged TExpr
expression_by names x = form_of names (first_of (form_tokens x)) x

-- where the names are those of the locals that are declared before it
unfoldable pub expression : List (List ℕ) → JExpr → Judged TExpr
expression names = para-JExpr (Judged TExpr) (expression_by names)
