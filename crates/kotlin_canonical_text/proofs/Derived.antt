-- The tokens of canonical texts are derived.
use Rattle.std.proofs.Common.{◌≡◌, true, List, [], ◌∷◌, ◌++◌, map, refl, ap, subst, ◌∙◌}
use Rattle.std.proofs.lemmas.List.{append-nil}
use Rattle.kotlin_tree.specs.declared.tokens.Gap.TheVariants as gap
use Rattle.kotlin_tree.specs.declared.types.KType.{KType}
use Rattle.kotlin_tree.specs.declared.expressions.KExpr.{KExpr}
use Rattle.kotlin_tree.specs.declared.statements.KStmt.{KStmt}
use Rattle.kotlin_layout.specs.Roles.{Roles, block}
use Rattle.kotlin_layout.specs.Parens.{free_place}
use Rattle.kotlin_layout.specs.Shown.{type_roles, expression_roles, statement_roles}
use Rattle.kotlin_grammar.specs.declared.letters.Form.{Form}
use Rattle.kotlin_grammar.specs.declared.letters.Form.TheVariants as f
use Rattle.kotlin_grammar.specs.declared.built.Built.{Built}
use Rattle.kotlin_grammar.specs.Ahead.{letters}
use Rattle.kotlin_grammar.specs.Parts.{empty}
use Rattle.kotlin_grammar.specs.Reading.{start}
use Rattle.kotlin_canonical_text.specs.Tokens.{tokens}
use Rattle.kotlin_canonical_text.specs.Canonical.{type_piece, operand, statement, roles_of, block_readable}
use Rattle.kotlin_canonical_text.specs.Derived.{Derives, type_built, expression_built, block_built}
use Rattle.kotlin_canonical_text.proofs.Names.{L}
use Rattle.kotlin_canonical_text.proofs.Steps.{Der, done}
use Rattle.kotlin_canonical_text.proofs.Types.{type_good, type_shown}
use Rattle.kotlin_canonical_text.proofs.Levels.{after_nothing}
use Rattle.kotlin_canonical_text.proofs.Blocks.{AllStand, block_read}
use Rattle.kotlin_canonical_text.proofs.Induction.{expression_good, statement_good}
use Rattle.kotlin_canonical_text.proofs.Shown.{expression_shown, statements_shown}

ended : (b : Built) → Der [] b (L gap.Plain []) b
unfolding letters tokens
ended b = done b

made : (n : Form) (xs ys : Roles) (b : Built) → xs ≡ ys → Der (start n) empty (L gap.Plain (xs ++ [])) b → Derives n ys b
made n xs ys b same h =
    let d = subst (λ z. Der (start n) empty (L gap.Plain z) b) (append-nil xs ∙ same) h in
    record { steps = d.steps; derives = d.derives }

pub type_derived : (x : KType) → (type_piece x).readable ≡ true → Derives f.Type (type_roles x) (type_built x)
unfolding type_built letters tokens empty
type_derived x readable = made f.Type (type_piece x).roles (type_roles x) (type_built x) (type_shown x) ((type_good x).reads readable [] empty [] (type_built x) (refl, refl) (ended (type_built x)))

pub expression_derived : (x : KExpr) → (operand x).readable free_place ≡ true → Derives f.Expr (expression_roles x free_place) (expression_built x)
unfolding expression_built letters tokens empty
expression_derived x readable = made f.Expr ((operand x).roles free_place) (expression_roles x free_place) (expression_built x) (ap (λ z. z free_place) (expression_shown x))
    ((expression_good x).whole free_place refl readable [] empty [] (expression_built x) (after_nothing free_place) (ended (expression_built x)))

pub all_stand : (xs : List KStmt) → AllStand (map statement xs)
unfolding AllStand
all_stand [] = tt
all_stand (x ∷ xs) = (statement_good x, all_stand xs)

pub block_derived : (xs : List KStmt) → block_readable (map statement xs) ≡ true → Derives f.Block (block (map statement_roles xs)) (block_built xs)
unfolding block_built empty
block_derived xs readable = made f.Block (block (map roles_of (map statement xs))) (block (map statement_roles xs)) (block_built xs) (ap block (statements_shown xs))
    (block_read (map statement xs) [] empty [] (block_built xs) (all_stand xs) readable (ended (block_built xs)))
