-- What readers of parts of heads answer, seen as reading gives it.
use Rattle.std.specs.Prelude.{ℕ, Bool, true, false, List, [], ◌∷◌, Option, Some, None}
use Rattle.std.specs.Borrow.{Bor}
use Rattle.java_tree.specs.declared.tokens.Position.{Position}
use Rattle.java_tree.specs.Seen.{Tokens}
use Rattle.java_tree.specs.Trees.{init_level}
use Rattle.java_tree.specs.declared.exprs.JExpr.{JExpr}
use Rattle.java_expr_grammar.specs.Reading.{Reader, Listed, ◌>>=◌, read}
use Rattle.java_token_cursor.specs.declared.piece.Piece.{Piece}
use Rattle.java_token_cursor.specs.Shown.{shown}
use Rattle.java_statement_grammar.specs.declared.declarations.JValue.{JValue}
use Rattle.java_declaration_parser.specs.declared.found.ListFound.{ListFound}
use Rattle.java_declaration_parser.specs.declared.found.ArgsFound.{ArgsFound}

-- the one that has the property, or None where none has it
abbrev pub TheOne : {A : Type 0} → (A → Type 0) → Option A → Type 0
TheOne {A} P None = (x : A) → ¬ (P x)
TheOne P (Some x) = P x

abbrev pub same : {A : Type 0} → A → A
same x = x

abbrev pub found : {A : Type 0} → A × Bor (List Piece) → A × Tokens
found x = (x.0, shown x.1.now)

abbrev pub listed_found : {A : Type 0} → ListFound A × Bor (List Piece) → Listed A × Tokens
listed_found x = ((x.0.items, x.0.commas), shown x.1.now)

abbrev pub args_found : ArgsFound × Bor (List Piece) → (Listed JExpr × Position) × Tokens
args_found x = (((x.0.items, x.0.commas), x.0.close), shown x.1.now)

-- whether no token is left
abbrev pub is_end : Tokens → Bool
is_end [] = true
is_end (x ∷ rest) = false

-- behind a `=`
abbrev pub value_at : ℕ → Position → Reader (Option JValue)
value_at d at ts = read d init_level ts >>= λ x. Some (Some (record { at = at; tree = x.0 }), x.1)
