-- Forms without their places: how they are rolled, and that their text stays.
use Rattle.std.proofs.Common.{◌≡◌, ◌+◌, [], ◌∷◌, ◌++◌, map, refl, ap, sym, ◌∙◌}
use Rattle.std.specs.Prelude.{if◌then◌else◌, ◌||◌}
use Rattle.std.specs.Option.{option_map}
use Rattle.std.proofs.Math.Path.{fun_ext}
use Rattle.kotlin_tree.specs.declared.tokens.Mark.TheVariants as m
use Rattle.kotlin_tree.specs.declared.tokens.Keyword.TheVariants as k
use Rattle.kotlin_tree.specs.declared.tokens.Word.TheVariants as w
use Rattle.kotlin_tree.specs.declared.expressions.KPrefix.{KPrefix}
use Rattle.kotlin_tree.specs.declared.expressions.KExpr.{KExpr, roll-KExpr}
use Rattle.kotlin_tree.specs.declared.expressions.KExpr.TheOpen.{KExpr-F, KStmt-F, KChoice-F, KBranch-F, KCatch-F}
use Rattle.kotlin_tree.specs.declared.expressions.KExpr.TheVariants as e
use Rattle.kotlin_tree.specs.declared.expressions.KChoice.{KChoice}
use Rattle.kotlin_tree.specs.declared.statements.KStmt.{KStmt, map-KStmt, fold-roll-KStmt}
use Rattle.kotlin_tree.specs.declared.statements.KStmt.TheVariants as s
use Rattle.kotlin_tree.specs.declared.statements.KBranch.{KBranch}
use Rattle.kotlin_tree.specs.declared.statements.KCatch.{KCatch}
use Rattle.kotlin_tree.specs.UpToPlaces.{made, made_brackets, made_head, made_else, made_class, made_super, made_finally, unplaced_name, unplaced_qualified, unplaced_type, unplaced_arguments, unplaced_lambda_names, unplaced_declared, unplaced_label, unplaced_target, unplaced_expression_by, unplaced_statement_by}
use Rattle.kotlin_layout.specs.declared.glyphs.Glyph.TheVariants as g
use Rattle.kotlin_layout.specs.declared.parens.Place.{Place}
use Rattle.kotlin_layout.specs.declared.parens.Neighbor.{Neighbor}
use Rattle.kotlin_layout.specs.declared.parens.Neighbor.TheVariants as beside
use Rattle.kotlin_layout.specs.Parens.{needs_by, is_looser_by, mixes_by, clashes_by, joins_prefix_by, is_is_by, compares_less_by, postfix_level, infix_level, is_level, as_level, free_place, operand_place}
use Rattle.kotlin_layout.specs.Roles.{Roles, fixed, name, lines, closed, block}
use Rattle.kotlin_layout.specs.Shown.{Placed, assigns, bare_by, branch_by, branch_roles, catch_by, catch_roles, choice_by, choice_roles, class_of, expression_by, expression_roles, for_head, has_type, headed, in_round, lambda_names, statement_by, statement_roles, type_roles, arguments_roles}
use Rattle.kotlin_text_laws.specs.Uncommented.{uncommented_statement_by}
use Rattle.kotlin_text_laws.proofs.Parts.{qualified_same, type_same, arguments_same, declared_same, label_same, target_same, lambda_same}

module _ {A B C D E : Type 0} where
  abbrev pub expression_unplaced : KExpr-F A B C D E → KExpr-F A B C D E
  expression_unplaced (KExpr-F.Literal x at) = KExpr-F.Literal x made
  expression_unplaced (KExpr-F.Name x) = KExpr-F.Name (unplaced_name x)
  expression_unplaced (KExpr-F.This at) = KExpr-F.This made
  expression_unplaced (KExpr-F.Paren round inner) = KExpr-F.Paren made_brackets inner
  expression_unplaced (KExpr-F.Call x types round arguments commas) = KExpr-F.Call (unplaced_name x) (option_map unplaced_arguments types) made_brackets arguments []
  expression_unplaced (KExpr-F.SuperCall at x round arguments commas) = KExpr-F.SuperCall made_super (unplaced_name x) made_brackets arguments []
  expression_unplaced (KExpr-F.Field object dot x) = KExpr-F.Field object made (unplaced_name x)
  expression_unplaced (KExpr-F.Method object dot x types round arguments commas) = KExpr-F.Method object made (unplaced_name x) (option_map unplaced_arguments types) made_brackets arguments []
  expression_unplaced (KExpr-F.Element array square index) = KExpr-F.Element array made_brackets index
  expression_unplaced (KExpr-F.Postfix operand o at) = KExpr-F.Postfix operand o made
  expression_unplaced (KExpr-F.Prefix o at operand) = KExpr-F.Prefix o made operand
  expression_unplaced (KExpr-F.As value at kind) = KExpr-F.As value made (unplaced_type kind)
  expression_unplaced (KExpr-F.Is value at kind) = KExpr-F.Is value made (unplaced_type kind)
  expression_unplaced (KExpr-F.Binary left o at right) = KExpr-F.Binary left o made right
  expression_unplaced (KExpr-F.IfValue at condition value else_at other) = KExpr-F.IfValue made_head condition value made other
  expression_unplaced (KExpr-F.WhenValue at subject curly choices else_at other) = KExpr-F.WhenValue made_head subject made_brackets choices made_else other
  expression_unplaced (KExpr-F.Lambda face curly names statements) = KExpr-F.Lambda (unplaced_type face) made_brackets (unplaced_lambda_names names) statements
  expression_unplaced (KExpr-F.Run at curly statements) = KExpr-F.Run made made_brackets statements
  expression_unplaced (KExpr-F.Class x at) = KExpr-F.Class (unplaced_qualified x) made_class

  abbrev pub statement_unplaced : KStmt-F A B C D E → KStmt-F A B C D E
  statement_unplaced (KStmt-F.Commented comments statement) = KStmt-F.Commented comments statement
  statement_unplaced (KStmt-F.Declared x) = KStmt-F.Declared (unplaced_declared x)
  statement_unplaced (KStmt-F.Local x at value) = KStmt-F.Local (unplaced_declared x) made value
  statement_unplaced (KStmt-F.Expression x) = KStmt-F.Expression x
  statement_unplaced (KStmt-F.Assign target at value) = KStmt-F.Assign target made value
  statement_unplaced (KStmt-F.While label at condition curly statements) = KStmt-F.While (option_map unplaced_label label) made_head condition made_brackets statements
  statement_unplaced (KStmt-F.DoWhile label do_at curly statements at condition) = KStmt-F.DoWhile (option_map unplaced_label label) made made_brackets statements made_head condition
  statement_unplaced (KStmt-F.For label at x in_at values curly statements) = KStmt-F.For (option_map unplaced_label label) made_head (unplaced_name x) made values made_brackets statements
  statement_unplaced (KStmt-F.ForRange label at x in_at first until_at end curly statements) = KStmt-F.ForRange (option_map unplaced_label label) made_head (unplaced_name x) made first made end made_brackets statements
  statement_unplaced (KStmt-F.If at condition curly statements) = KStmt-F.If made_head condition made_brackets statements
  statement_unplaced (KStmt-F.IfElse at condition curly statements else_at other_curly others) = KStmt-F.IfElse made_head condition made_brackets statements made made_brackets others
  statement_unplaced (KStmt-F.IfElseIf at condition curly statements else_at other) = KStmt-F.IfElseIf made_head condition made_brackets statements made other
  statement_unplaced (KStmt-F.When at subject curly branches else_at other_curly others) = KStmt-F.When made_head subject made_brackets branches made_else made_brackets others
  statement_unplaced (KStmt-F.Break at target) = KStmt-F.Break made (option_map unplaced_target target)
  statement_unplaced (KStmt-F.Continue at target) = KStmt-F.Continue made (option_map unplaced_target target)
  statement_unplaced (KStmt-F.Return at target) = KStmt-F.Return made (option_map unplaced_target target)
  statement_unplaced (KStmt-F.Give at target value) = KStmt-F.Give made (option_map unplaced_target target) value
  statement_unplaced (KStmt-F.Throw at value) = KStmt-F.Throw made value
  statement_unplaced (KStmt-F.Try at curly statements catches) = KStmt-F.Try made made_brackets statements catches
  statement_unplaced (KStmt-F.TryFinally at curly statements catches last_at last) = KStmt-F.TryFinally made made_brackets statements catches made_finally last
  statement_unplaced (KStmt-F.Synchronized at lock curly statements) = KStmt-F.Synchronized made_head lock made_brackets statements

  abbrev pub choice_unplaced : KChoice-F A B C D E → KChoice-F A B C D E
  choice_unplaced x = record { labels = x.labels; commas = []; arrow = made; value = x.value }

  abbrev pub branch_unplaced : KBranch-F A B C D E → KBranch-F A B C D E
  branch_unplaced x = record { labels = x.labels; commas = []; arrow = made; curly = made_brackets; statements = x.statements }

  abbrev pub catch_unplaced : KCatch-F A B C D E → KCatch-F A B C D E
  catch_unplaced x = record { at = made_head; name = unplaced_name x.name; colon = made; kind = unplaced_type x.kind; curly = made_brackets; statements = x.statements }

pub expression_rolls : (x : KExpr-F KExpr KStmt KChoice KBranch KCatch) → unplaced_expression_by x ≡ roll-KExpr (expression_unplaced x)
expression_rolls (KExpr-F.Literal x at) = sym (e.rolls-Literal x made)
expression_rolls (KExpr-F.Name x) = sym (e.rolls-Name (unplaced_name x))
expression_rolls (KExpr-F.This at) = sym (e.rolls-This made)
expression_rolls (KExpr-F.Paren round inner) = sym (e.rolls-Paren made_brackets inner)
expression_rolls (KExpr-F.Call x types round arguments commas) = sym (e.rolls-Call (unplaced_name x) (option_map unplaced_arguments types) made_brackets arguments [])
expression_rolls (KExpr-F.SuperCall at x round arguments commas) = sym (e.rolls-SuperCall made_super (unplaced_name x) made_brackets arguments [])
expression_rolls (KExpr-F.Field object dot x) = sym (e.rolls-Field object made (unplaced_name x))
expression_rolls (KExpr-F.Method object dot x types round arguments commas) = sym (e.rolls-Method object made (unplaced_name x) (option_map unplaced_arguments types) made_brackets arguments [])
expression_rolls (KExpr-F.Element array square index) = sym (e.rolls-Element array made_brackets index)
expression_rolls (KExpr-F.Postfix operand o at) = sym (e.rolls-Postfix operand o made)
expression_rolls (KExpr-F.Prefix o at operand) = sym (e.rolls-Prefix o made operand)
expression_rolls (KExpr-F.As value at kind) = sym (e.rolls-As value made (unplaced_type kind))
expression_rolls (KExpr-F.Is value at kind) = sym (e.rolls-Is value made (unplaced_type kind))
expression_rolls (KExpr-F.Binary left o at right) = sym (e.rolls-Binary left o made right)
expression_rolls (KExpr-F.IfValue at condition value else_at other) = sym (e.rolls-IfValue made_head condition value made other)
expression_rolls (KExpr-F.WhenValue at subject curly choices else_at other) = sym (e.rolls-WhenValue made_head subject made_brackets choices made_else other)
expression_rolls (KExpr-F.Lambda face curly names statements) = sym (e.rolls-Lambda (unplaced_type face) made_brackets (unplaced_lambda_names names) statements)
expression_rolls (KExpr-F.Run at curly statements) = sym (e.rolls-Run made made_brackets statements)
expression_rolls (KExpr-F.Class x at) = sym (e.rolls-Class (unplaced_qualified x) made_class)

pub statement_rolls : (x : KStmt-F KExpr KStmt KChoice KBranch KCatch) → unplaced_statement_by x ≡ uncommented_statement_by (statement_unplaced x)
statement_rolls (KStmt-F.Commented comments statement) = refl
statement_rolls (KStmt-F.Declared x) = sym (s.rolls-Declared (unplaced_declared x))
statement_rolls (KStmt-F.Local x at value) = sym (s.rolls-Local (unplaced_declared x) made value)
statement_rolls (KStmt-F.Expression x) = sym (s.rolls-Expression x)
statement_rolls (KStmt-F.Assign target at value) = sym (s.rolls-Assign target made value)
statement_rolls (KStmt-F.While label at condition curly statements) = sym (s.rolls-While (option_map unplaced_label label) made_head condition made_brackets statements)
statement_rolls (KStmt-F.DoWhile label do_at curly statements at condition) = sym (s.rolls-DoWhile (option_map unplaced_label label) made made_brackets statements made_head condition)
statement_rolls (KStmt-F.For label at x in_at values curly statements) = sym (s.rolls-For (option_map unplaced_label label) made_head (unplaced_name x) made values made_brackets statements)
statement_rolls (KStmt-F.ForRange label at x in_at first until_at end curly statements) = sym (s.rolls-ForRange (option_map unplaced_label label) made_head (unplaced_name x) made first made end made_brackets statements)
statement_rolls (KStmt-F.If at condition curly statements) = sym (s.rolls-If made_head condition made_brackets statements)
statement_rolls (KStmt-F.IfElse at condition curly statements else_at other_curly others) = sym (s.rolls-IfElse made_head condition made_brackets statements made made_brackets others)
statement_rolls (KStmt-F.IfElseIf at condition curly statements else_at other) = sym (s.rolls-IfElseIf made_head condition made_brackets statements made other)
statement_rolls (KStmt-F.When at subject curly branches else_at other_curly others) = sym (s.rolls-When made_head subject made_brackets branches made_else made_brackets others)
statement_rolls (KStmt-F.Break at target) = sym (s.rolls-Break made (option_map unplaced_target target))
statement_rolls (KStmt-F.Continue at target) = sym (s.rolls-Continue made (option_map unplaced_target target))
statement_rolls (KStmt-F.Return at target) = sym (s.rolls-Return made (option_map unplaced_target target))
statement_rolls (KStmt-F.Give at target value) = sym (s.rolls-Give made (option_map unplaced_target target) value)
statement_rolls (KStmt-F.Throw at value) = sym (s.rolls-Throw made value)
statement_rolls (KStmt-F.Try at curly statements catches) = sym (s.rolls-Try made made_brackets statements catches)
statement_rolls (KStmt-F.TryFinally at curly statements catches last_at last) = sym (s.rolls-TryFinally made made_brackets statements catches made_finally last)
statement_rolls (KStmt-F.Synchronized at lock curly statements) = sym (s.rolls-Synchronized made_head lock made_brackets statements)

-- ---- parentheses

looser_same : (p : Place) (x : KExpr-F Placed Roles Roles Roles Roles) → is_looser_by p (expression_unplaced x) ≡ is_looser_by p x
looser_same p (KExpr-F.This at) = refl
looser_same p _ = refl

mixes_same : (p : Place) (x : KExpr-F Placed Roles Roles Roles Roles) → mixes_by p (expression_unplaced x) ≡ mixes_by p x
mixes_same p (KExpr-F.This at) = refl
mixes_same p _ = refl

joins_same : (o : KPrefix) (x : KExpr-F Placed Roles Roles Roles Roles) → joins_prefix_by o (expression_unplaced x) ≡ joins_prefix_by o x
joins_same o (KExpr-F.This at) = refl
joins_same o _ = refl

is_same : (x : KExpr-F Placed Roles Roles Roles Roles) → is_is_by (expression_unplaced x) ≡ is_is_by x
is_same (KExpr-F.This at) = refl
is_same _ = refl

less_same : (x : KExpr-F Placed Roles Roles Roles Roles) → compares_less_by (expression_unplaced x) ≡ compares_less_by x
less_same (KExpr-F.This at) = refl
less_same _ = refl

clashes_same : (n : Neighbor) (x : KExpr-F Placed Roles Roles Roles Roles) → clashes_by n (expression_unplaced x) ≡ clashes_by n x
clashes_same beside.Other x = refl
clashes_same (beside.Prefix first) x = joins_same first x
clashes_same beside.Less x = is_same x
clashes_same beside.Greater x = less_same x

needs_same : (p : Place) (x : KExpr-F Placed Roles Roles Roles Roles) → needs_by p (expression_unplaced x) ≡ needs_by p x
needs_same p x =
    ap (λ z. z || mixes_by p (expression_unplaced x) || clashes_by p.neighbor (expression_unplaced x)) (looser_same p x)
    ∙ ap (λ z. is_looser_by p x || z || clashes_by p.neighbor (expression_unplaced x)) (mixes_same p x)
    ∙ ap (λ z. is_looser_by p x || mixes_by p x || z) (clashes_same p.neighbor x)

-- ---- expressions

bare_same : (p : Place) (x : KExpr-F Placed Roles Roles Roles Roles) → bare_by p (expression_unplaced x) ≡ bare_by p x
bare_same p (KExpr-F.Literal x at) = refl
bare_same p (KExpr-F.Name x) = refl
bare_same p (KExpr-F.This at) = refl
bare_same p (KExpr-F.Paren round inner) = refl
bare_same p (KExpr-F.Call x types round arguments commas) = ap (λ z. name x.name ++ z ++ arguments_roles arguments) (arguments_same types)
bare_same p (KExpr-F.SuperCall at x round arguments commas) = refl
bare_same p (KExpr-F.Field object dot x) = refl
bare_same p (KExpr-F.Method object dot x types round arguments commas) = ap (λ z. object (operand_place postfix_level p) ++ fixed (g.Mark m.Dot ∷ []) ++ name x.name ++ z ++ arguments_roles arguments) (arguments_same types)
bare_same p (KExpr-F.Element array square index) = refl
bare_same p (KExpr-F.Postfix operand o at) = refl
bare_same p (KExpr-F.Prefix o at operand) = refl
bare_same p (KExpr-F.As value at kind) = ap (λ z. value (operand_place as_level p) ++ fixed (g.Blank ∷ g.Keyword k.As ∷ g.Blank ∷ []) ++ z) (type_same kind)
bare_same p (KExpr-F.Is value at kind) = ap (λ z. value (operand_place is_level p) ++ fixed (g.Blank ∷ g.Keyword k.Is ∷ g.Blank ∷ []) ++ z) (type_same kind)
bare_same p (KExpr-F.Binary left o at right) = refl
bare_same p (KExpr-F.IfValue at condition value else_at other) = refl
bare_same p (KExpr-F.WhenValue at subject curly choices else_at other) = refl
bare_same p (KExpr-F.Lambda face curly names statements) = ap (λ z. z ++ fixed (g.Blank ∷ g.Mark m.OpenCurly ∷ []) ++ lambda_names (map unplaced_name names.items) ++ fixed (g.Deeper ∷ []) ++ lines statements ++ fixed closed) (type_same face) ∙ ap (λ z. type_roles face ++ fixed (g.Blank ∷ g.Mark m.OpenCurly ∷ []) ++ z ++ fixed (g.Deeper ∷ []) ++ lines statements ++ fixed closed) (lambda_same names.items)
bare_same p (KExpr-F.Run at curly statements) = refl
bare_same p (KExpr-F.Class x at) = ap (λ z. z ++ fixed class_of) (qualified_same x)

pub expression_same : (x : KExpr-F Placed Roles Roles Roles Roles) → expression_by (expression_unplaced x) ≡ expression_by x
expression_same x = fun_ext (λ p.
    ap (λ z. if z then in_round (bare_by free_place (expression_unplaced x)) else bare_by p (expression_unplaced x)) (needs_same p x)
    ∙ ap (λ z. if needs_by p x then in_round z else bare_by p (expression_unplaced x)) (bare_same free_place x)
    ∙ ap (λ z. if needs_by p x then in_round (bare_by free_place x) else z) (bare_same p x))

-- ---- statements, without their comments

abbrev pub code_by : KStmt-F Placed Roles Roles Roles Roles → Roles
code_by (KStmt-F.Commented comments statement) = statement
code_by x = statement_by x

pub statement_same : (x : KStmt-F Placed Roles Roles Roles Roles) → code_by (statement_unplaced x) ≡ code_by x
statement_same (KStmt-F.Commented comments statement) = refl
statement_same (KStmt-F.Declared x) = declared_same x
statement_same (KStmt-F.Local x at value) = ap (λ z. z ++ fixed assigns ++ value free_place) (declared_same x)
statement_same (KStmt-F.Expression x) = refl
statement_same (KStmt-F.Assign target at value) = refl
statement_same (KStmt-F.While label at condition curly statements) = ap (λ z. z ++ headed (g.Keyword k.While) (condition free_place) ++ block statements) (label_same label)
statement_same (KStmt-F.DoWhile label do_at curly statements at condition) = ap (λ z. z ++ fixed (g.Keyword k.Do ∷ []) ++ block statements ++ fixed (g.Blank ∷ []) ++ headed (g.Keyword k.While) (condition free_place)) (label_same label)
statement_same (KStmt-F.For label at x in_at values curly statements) = ap (λ z. z ++ for_head x ++ values free_place ++ fixed (g.Mark m.CloseRound ∷ []) ++ block statements) (label_same label)
statement_same (KStmt-F.ForRange label at x in_at first until_at end curly statements) = ap (λ z. z ++ for_head x ++ first (operand_place infix_level free_place) ++ fixed (g.Blank ∷ g.Word w.Until ∷ g.Blank ∷ []) ++ end (operand_place (infix_level + 1) free_place) ++ fixed (g.Mark m.CloseRound ∷ []) ++ block statements) (label_same label)
statement_same (KStmt-F.If at condition curly statements) = refl
statement_same (KStmt-F.IfElse at condition curly statements else_at other_curly others) = refl
statement_same (KStmt-F.IfElseIf at condition curly statements else_at other) = refl
statement_same (KStmt-F.When at subject curly branches else_at other_curly others) = refl
statement_same (KStmt-F.Break at target) = ap (λ z. fixed (g.Keyword k.Break ∷ []) ++ z) (target_same target)
statement_same (KStmt-F.Continue at target) = ap (λ z. fixed (g.Keyword k.Continue ∷ []) ++ z) (target_same target)
statement_same (KStmt-F.Return at target) = ap (λ z. fixed (g.Keyword k.Return ∷ []) ++ z) (target_same target)
statement_same (KStmt-F.Give at target value) = ap (λ z. fixed (g.Keyword k.Return ∷ []) ++ z ++ fixed (g.Blank ∷ []) ++ value free_place) (target_same target)
statement_same (KStmt-F.Throw at value) = refl
statement_same (KStmt-F.Try at curly statements catches) = refl
statement_same (KStmt-F.TryFinally at curly statements catches last_at last) = refl
statement_same (KStmt-F.Synchronized at lock curly statements) = refl

pub catch_same : (x : KCatch-F Placed Roles Roles Roles Roles) → catch_by (catch_unplaced x) ≡ catch_by x
catch_same x = ap (λ z. fixed (g.Blank ∷ []) ++ headed (g.Word w.Catch) (name x.name.name ++ fixed has_type ++ z) ++ block x.statements) (type_same x.kind)

-- what is said of a form of an uncommented statement
pub code_rolled : (x : KStmt-F KExpr KStmt KChoice KBranch KCatch) → statement_roles (uncommented_statement_by x) ≡ code_by (map-KStmt KExpr KStmt KChoice KBranch KCatch Placed Roles Roles Roles Roles expression_roles statement_roles choice_roles branch_roles catch_roles x)
unfolding expression_roles statement_roles choice_roles branch_roles catch_roles
code_rolled (KStmt-F.Commented comments statement) = refl
code_rolled (KStmt-F.Declared x) = fold-roll-KStmt Placed Roles Roles Roles Roles expression_by statement_by choice_by branch_by catch_by (KStmt-F.Declared x)
code_rolled (KStmt-F.Local x at value) = fold-roll-KStmt Placed Roles Roles Roles Roles expression_by statement_by choice_by branch_by catch_by (KStmt-F.Local x at value)
code_rolled (KStmt-F.Expression x) = fold-roll-KStmt Placed Roles Roles Roles Roles expression_by statement_by choice_by branch_by catch_by (KStmt-F.Expression x)
code_rolled (KStmt-F.Assign target at value) = fold-roll-KStmt Placed Roles Roles Roles Roles expression_by statement_by choice_by branch_by catch_by (KStmt-F.Assign target at value)
code_rolled (KStmt-F.While label at condition curly statements) = fold-roll-KStmt Placed Roles Roles Roles Roles expression_by statement_by choice_by branch_by catch_by (KStmt-F.While label at condition curly statements)
code_rolled (KStmt-F.DoWhile label do_at curly statements at condition) = fold-roll-KStmt Placed Roles Roles Roles Roles expression_by statement_by choice_by branch_by catch_by (KStmt-F.DoWhile label do_at curly statements at condition)
code_rolled (KStmt-F.For label at x in_at values curly statements) = fold-roll-KStmt Placed Roles Roles Roles Roles expression_by statement_by choice_by branch_by catch_by (KStmt-F.For label at x in_at values curly statements)
code_rolled (KStmt-F.ForRange label at x in_at first until_at end curly statements) = fold-roll-KStmt Placed Roles Roles Roles Roles expression_by statement_by choice_by branch_by catch_by (KStmt-F.ForRange label at x in_at first until_at end curly statements)
code_rolled (KStmt-F.If at condition curly statements) = fold-roll-KStmt Placed Roles Roles Roles Roles expression_by statement_by choice_by branch_by catch_by (KStmt-F.If at condition curly statements)
code_rolled (KStmt-F.IfElse at condition curly statements else_at other_curly others) = fold-roll-KStmt Placed Roles Roles Roles Roles expression_by statement_by choice_by branch_by catch_by (KStmt-F.IfElse at condition curly statements else_at other_curly others)
code_rolled (KStmt-F.IfElseIf at condition curly statements else_at other) = fold-roll-KStmt Placed Roles Roles Roles Roles expression_by statement_by choice_by branch_by catch_by (KStmt-F.IfElseIf at condition curly statements else_at other)
code_rolled (KStmt-F.When at subject curly branches else_at other_curly others) = fold-roll-KStmt Placed Roles Roles Roles Roles expression_by statement_by choice_by branch_by catch_by (KStmt-F.When at subject curly branches else_at other_curly others)
code_rolled (KStmt-F.Break at target) = fold-roll-KStmt Placed Roles Roles Roles Roles expression_by statement_by choice_by branch_by catch_by (KStmt-F.Break at target)
code_rolled (KStmt-F.Continue at target) = fold-roll-KStmt Placed Roles Roles Roles Roles expression_by statement_by choice_by branch_by catch_by (KStmt-F.Continue at target)
code_rolled (KStmt-F.Return at target) = fold-roll-KStmt Placed Roles Roles Roles Roles expression_by statement_by choice_by branch_by catch_by (KStmt-F.Return at target)
code_rolled (KStmt-F.Give at target value) = fold-roll-KStmt Placed Roles Roles Roles Roles expression_by statement_by choice_by branch_by catch_by (KStmt-F.Give at target value)
code_rolled (KStmt-F.Throw at value) = fold-roll-KStmt Placed Roles Roles Roles Roles expression_by statement_by choice_by branch_by catch_by (KStmt-F.Throw at value)
code_rolled (KStmt-F.Try at curly statements catches) = fold-roll-KStmt Placed Roles Roles Roles Roles expression_by statement_by choice_by branch_by catch_by (KStmt-F.Try at curly statements catches)
code_rolled (KStmt-F.TryFinally at curly statements catches last_at last) = fold-roll-KStmt Placed Roles Roles Roles Roles expression_by statement_by choice_by branch_by catch_by (KStmt-F.TryFinally at curly statements catches last_at last)
code_rolled (KStmt-F.Synchronized at lock curly statements) = fold-roll-KStmt Placed Roles Roles Roles Roles expression_by statement_by choice_by branch_by catch_by (KStmt-F.Synchronized at lock curly statements)
