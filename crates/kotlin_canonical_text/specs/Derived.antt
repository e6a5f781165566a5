-- What is built where the tokens of a canonical text are derived.
use Rattle.std.specs.Prelude.{ℕ, List, [], ◌∷◌, map}
use Rattle.kotlin_tree.specs.declared.tokens.Gap.TheVariants as gap
use Rattle.kotlin_tree.specs.declared.types.KType.{KType}
use Rattle.kotlin_tree.specs.declared.expressions.KExpr.{KExpr}
use Rattle.kotlin_tree.specs.declared.statements.KStmt.{KStmt}
use Rattle.kotlin_tree.specs.UpToPlaces.{made_brackets}
use Rattle.kotlin_layout.specs.Roles.{Roles}
use Rattle.kotlin_layout.specs.Parens.{free_place}
use Rattle.kotlin_grammar.specs.declared.built.Built.{Built}
use Rattle.kotlin_grammar.specs.declared.letters.Form.{Form}
use Rattle.kotlin_grammar.specs.Ahead.{letters}
use Rattle.kotlin_grammar.specs.Parts.{empty, with_kind, with_expr, with_block}
use Rattle.kotlin_grammar.specs.Reading.{Makes}
use Rattle.kotlin_canonical_text.specs.Tokens.{tokens}
use Rattle.kotlin_canonical_text.specs.Canonical.{type_piece, operand, statement, tree_of, block_depth}

-- nothing but how deep a part is
abbrev pub deep : ℕ → Built
deep d = record empty { depths = d ∷ [] }

-- The tokens of the text are written in the form, which builds this of nothing.
abbrev pub Derives : Form → Roles → Built → Type 0
Derives n xs b = Makes n (letters (tokens gap.Plain xs)) b

-- the canonical tree of a type, of an expression where everything stands as it is, of a block
unfoldable pub type_built : KType → Built
type_built x = with_kind (type_piece x).tree (deep (type_piece x).depth)

unfoldable pub expression_built : KExpr → Built
expression_built x = with_expr ((operand x).tree free_place) (deep ((operand x).depth free_place))

unfoldable pub block_built : List KStmt → Built
block_built xs = with_block (record { curly = made_brackets; statements = map tree_of (map statement xs) }) (deep (block_depth (map statement xs)))
