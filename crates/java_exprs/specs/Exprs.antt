-- What a reader of expressions answers, and a function value that reads them to a depth.
use Rattle.std.specs.Prelude.{◌≡◌, ◌≤◌, ◌+◌, ℕ, max, List, map, Bool, true, false, ◌&&◌, nat_lt, nat_le, if◌then◌else◌, Option, Some, None, Result}
use Rattle.std.specs.Borrow.{Bor}
use Rattle.std.specs.declared.alloc.Global.{Global}
use Rattle.j2k_base.specs.declared.errors.NoMemory.{NoMemory}
use Rattle.java_tree.specs.declared.tokens.Position.{Position}
use Rattle.java_tree.specs.declared.exprs.JLiteral.{JLiteral}
use Rattle.java_tree.specs.declared.exprs.PrefixOp.TheVariants as prefix
use Rattle.java_tree.specs.declared.exprs.JExpr.{JExpr}
use Rattle.java_tree.specs.declared.exprs.JExpr.TheVariants as e
use Rattle.java_tree.specs.Seen.{Tokens}
use Rattle.java_tree.specs.Trees.{depth, deepest, else_level, params_depth, created_depth, is_least}
use Rattle.java_expr_grammar.specs.Reading.{Read, Reader, Listed, read, ◌>>=◌, maybe, comma, inner_comma, suffix, strength, takes}
use Rattle.java_token_cursor.specs.declared.piece.Piece.{Piece}
use Rattle.java_token_cursor.specs.Shown.{shown}
use Rattle.java_exprs.specs.declared.found.ExprFound.{ExprFound}
use Rattle.java_exprs.specs.declared.found.ExprsFound.{ExprsFound}
use Rattle.java_exprs.specs.declared.found.Params.{Params}
use Rattle.java_exprs.specs.declared.found.Made.{Made}
use Rattle.java_exprs.specs.declared.found.Grown.{Grown}
use Rattle.java_type_parser.specs.Gives.{Gives}
use Rattle.java_exprs.specs.Rules.{finish, prefixed}

abbrev pub expr_found : ExprFound × Bor (List Piece) → JExpr × Tokens
expr_found x = (x.0.tree, shown x.1.now)

abbrev pub IsExpr : ℕ → ExprFound → Type 0
IsExpr d x = (x.depth ≡ depth x.tree) × (x.depth ≤ d)

abbrev pub ExprFits : ℕ → ExprFound × Bor (List Piece) → Type 0
ExprFits d x = (x.0.depth ≡ depth x.0.tree) × (x.0.depth ≤ d)

-- What no suffix makes may be 2 deep where no parts may stand.
abbrev pub OperandFits : ℕ → ExprFound × Bor (List Piece) → Type 0
OperandFits d x = (x.0.depth ≡ depth x.0.tree) × (x.0.depth ≤ max (d + 1) 2)

abbrev pub exprs_found : ExprsFound × Bor (List Piece) → Listed JExpr × Tokens
exprs_found x = ((x.0.items, x.0.commas), shown x.1.now)

abbrev pub ExprsFit : ℕ → ExprsFound × Bor (List Piece) → Type 0
ExprsFit d x = (x.0.deepest ≡ deepest (map depth x.0.items)) × (x.0.deepest ≤ d)

abbrev pub IsExprs : ℕ → ExprsFound → Type 0
IsExprs d x = (x.deepest ≡ deepest (map depth x.items)) × (x.deepest ≤ d)

abbrev pub IsParams : ℕ → Params → Type 0
IsParams d x = (x.depth ≡ params_depth x.tree) × (x.depth ≤ max d 1)

abbrev pub IsMade : ℕ → Made → Type 0
IsMade d x = (x.depth ≡ created_depth x.tree) × (x.depth ≤ d)

pub record Nests (d : ℕ) (pre : Global → Bor (List Piece) → ℕ → ℕ → Type 0)
    (post : Global → Bor (List Piece) → ℕ → ℕ → Result (Option (ExprFound × Bor (List Piece))) NoMemory → Type 0) : Type 0 where
  pub callable : (alloc : Global) (ts : Bor (List Piece)) (least : ℕ) → pre alloc ts d least
  pub reads : (alloc : Global) (ts : Bor (List Piece)) (least : ℕ) (x : Result (Option (ExprFound × Bor (List Piece))) NoMemory) → post alloc ts d least x
      → Gives expr_found (ExprFits d) (read d least (shown ts.now)) x

-- the comma between arguments, and the one between values in braces
abbrev pub separator : Bool → Reader Position
separator false = comma
separator true = inner_comma

abbrev pub literal_read : JLiteral → Position → Reader JExpr
literal_read literal at ts = if is_least literal then None else Some (e.Literal literal at, ts)

-- a `-` before a literal, behind which `rest` stands
abbrev pub minus_read : ℕ → Position → JLiteral → Position → Tokens → Reader JExpr
minus_read d minus literal at rest ts = if is_least literal then Some (e.MinusLeast minus literal at, rest) else prefixed d (Some prefix.Minus) minus ts

-- behind the `:` of a conditional
abbrev pub else_read : (ℕ → Reader JExpr) → JExpr → Position → JExpr → Position → Reader JExpr
else_read sub left question middle at ts = sub else_level ts >>= λ x. Some (e.Conditional left question middle at x.0, x.1)

abbrev pub grown_found : Grown × Bor (List Piece) → (Bool × JExpr) × Tokens
grown_found x = ((x.0.is_longer, x.0.found.tree), shown x.1.now)

abbrev pub GrownFits : ℕ → Grown × Bor (List Piece) → Type 0
GrownFits d x = (x.0.found.depth ≡ depth x.0.found.tree) × (x.0.found.depth ≤ d)

-- one turn of `climb`: whether a suffix was taken, and what stands then
unfoldable pub turn : ℕ → ℕ → JExpr → Tokens → Read (Bool × JExpr)
turn d least left ts = maybe (suffix ts) (Some ((false, left), ts)) (λ s.
    if nat_lt (strength s.0) least then Some ((false, left), ts)
    else (if takes s.0 left && nat_le (depth left) d then finish d s.0 left s.1 >>= (λ x. Some ((true, x.0), x.1)) else None))
