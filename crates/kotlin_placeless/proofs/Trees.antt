-- The trees of each form, at the place of what was made.
use Rattle.std.proofs.Common.{◌≡◌, Bool, List, map, Option, ap, sym, ◌∙◌}
use Rattle.std.specs.Option.{option_map}
use Rattle.kotlin_tree.specs.declared.places.Position.{Position}
use Rattle.kotlin_tree.specs.declared.places.Brackets.{Brackets}
use Rattle.kotlin_tree.specs.declared.types.KName.{KName}
use Rattle.kotlin_tree.specs.declared.types.KQualified.{KQualified}
use Rattle.kotlin_tree.specs.declared.types.KTypeArguments.{KTypeArguments}
use Rattle.kotlin_tree.specs.declared.expressions.KHeadAt.{KHeadAt}
use Rattle.kotlin_tree.specs.declared.expressions.KLambdaNames.{KLambdaNames}
use Rattle.kotlin_tree.specs.declared.statements.KDeclared.{KDeclared}
use Rattle.kotlin_tree.specs.declared.statements.KLabel.{KLabel}
use Rattle.kotlin_tree.specs.declared.statements.KTarget.{KTarget}
use Rattle.kotlin_tree.specs.declared.statements.KBlock.{KBlock}
use Rattle.kotlin_tree.specs.declared.members.KModifier.{KModifier}
use Rattle.kotlin_tree.specs.declared.members.KParams.{KParams}
use Rattle.kotlin_tree.specs.declared.members.KTyped.{KTyped}
use Rattle.kotlin_tree.specs.declared.members.KValue.{KValue}
use Rattle.kotlin_tree.specs.declared.members.KPrivateSet.{KPrivateSet}
use Rattle.kotlin_tree.specs.declared.members.KDelegation.{KDelegation}
use Rattle.kotlin_tree.specs.declared.expressions.KElseAt.{KElseAt}
use Rattle.kotlin_tree.specs.declared.expressions.KClassAt.{KClassAt}
use Rattle.kotlin_tree.specs.declared.expressions.KSuperAt.{KSuperAt}
use Rattle.kotlin_tree.specs.declared.statements.KFinallyAt.{KFinallyAt}
use Rattle.kotlin_tree.specs.declared.members.KCompanionAt.{KCompanionAt}
use Rattle.kotlin_tree.specs.declared.expressions.KLiteral.{KLiteral}
use Rattle.kotlin_tree.specs.declared.expressions.KPrefix.{KPrefix}
use Rattle.kotlin_tree.specs.declared.expressions.KPostfix.{KPostfix}
use Rattle.kotlin_tree.specs.declared.expressions.KBinary.{KBinary}
use Rattle.kotlin_tree.specs.declared.types.KType.{KType, roll-KType, map-KType, fold-roll-KType}
use Rattle.kotlin_tree.specs.declared.types.KType.TheOpen.{KType-F}
use Rattle.kotlin_tree.specs.declared.types.KType.TheVariants as ty
use Rattle.kotlin_tree.specs.declared.expressions.KExpr.{KExpr, roll-KExpr, map-KExpr, fold-roll-KExpr}
use Rattle.kotlin_tree.specs.declared.expressions.KExpr.TheOpen.{KExpr-F, KStmt-F, KChoice-F, KBranch-F, KCatch-F}
use Rattle.kotlin_tree.specs.declared.expressions.KExpr.TheFolds.{map-KStmt, map-KChoice, map-KBranch, map-KCatch, fold-roll-KStmt, fold-roll-KChoice, fold-roll-KBranch, fold-roll-KCatch}
use Rattle.kotlin_tree.specs.declared.expressions.KExpr.TheViews.{roll-KStmt}
use Rattle.kotlin_tree.specs.declared.expressions.KExpr.TheVariants as e
use Rattle.kotlin_tree.specs.declared.expressions.KChoice.{KChoice, roll-KChoice}
use Rattle.kotlin_tree.specs.declared.statements.KStmt.{KStmt}
use Rattle.kotlin_tree.specs.declared.statements.KStmt.TheVariants as s
use Rattle.kotlin_tree.specs.declared.statements.KBranch.{KBranch, roll-KBranch}
use Rattle.kotlin_tree.specs.declared.statements.KCatch.{KCatch, roll-KCatch}
use Rattle.kotlin_tree.specs.declared.members.KMember.{KMember, roll-KMember, map-KMember, fold-roll-KMember}
use Rattle.kotlin_tree.specs.declared.members.KMember.TheOpen.{KMember-F}
use Rattle.kotlin_tree.specs.declared.members.KMember.TheVariants as mb
use Rattle.kotlin_tree.specs.UpToPlaces.{made, made_brackets, made_head, made_else, made_class, made_super, made_finally, made_companion, unplaced_name, unplaced_qualified, unplaced_label, unplaced_target, unplaced_modifier}
use Rattle.kotlin_placeless.specs.Placeless.{at_made, all_made, type_by, placeless_type, placeless_arguments, placeless_names, placeless_declared, expression_by, statement_by, choice_by, branch_by, catch_by, placeless_expression, placeless_statement, placeless_choice, placeless_branch, placeless_catch, placeless_block, placeless_params, placeless_typed, placeless_value, placeless_setter, placeless_delegation, member_by, placeless_member}

pub type_rolled : (x : KType-F KType) → placeless_type (roll-KType x) ≡ type_by (map-KType KType KType placeless_type x)
unfolding placeless_type
type_rolled x = fold-roll-KType KType type_by x

pub expression_rolled : (x : KExpr-F KExpr KStmt KChoice KBranch KCatch) → placeless_expression (roll-KExpr x) ≡ expression_by (map-KExpr KExpr KStmt KChoice KBranch KCatch KExpr KStmt KChoice KBranch KCatch placeless_expression placeless_statement placeless_choice placeless_branch placeless_catch x)
unfolding placeless_expression placeless_statement placeless_choice placeless_branch placeless_catch
expression_rolled x = fold-roll-KExpr KExpr KStmt KChoice KBranch KCatch expression_by statement_by choice_by branch_by catch_by x

pub statement_rolled : (x : KStmt-F KExpr KStmt KChoice KBranch KCatch) → placeless_statement (roll-KStmt x) ≡ statement_by (map-KStmt KExpr KStmt KChoice KBranch KCatch KExpr KStmt KChoice KBranch KCatch placeless_expression placeless_statement placeless_choice placeless_branch placeless_catch x)
unfolding placeless_expression placeless_statement placeless_choice placeless_branch placeless_catch
statement_rolled x = fold-roll-KStmt KExpr KStmt KChoice KBranch KCatch expression_by statement_by choice_by branch_by catch_by x

pub choice_rolled : (x : KChoice-F KExpr KStmt KChoice KBranch KCatch) → placeless_choice (roll-KChoice x) ≡ choice_by (map-KChoice KExpr KStmt KChoice KBranch KCatch KExpr KStmt KChoice KBranch KCatch placeless_expression placeless_statement placeless_choice placeless_branch placeless_catch x)
unfolding placeless_expression placeless_statement placeless_choice placeless_branch placeless_catch
choice_rolled x = fold-roll-KChoice KExpr KStmt KChoice KBranch KCatch expression_by statement_by choice_by branch_by catch_by x

pub branch_rolled : (x : KBranch-F KExpr KStmt KChoice KBranch KCatch) → placeless_branch (roll-KBranch x) ≡ branch_by (map-KBranch KExpr KStmt KChoice KBranch KCatch KExpr KStmt KChoice KBranch KCatch placeless_expression placeless_statement placeless_choice placeless_branch placeless_catch x)
unfolding placeless_expression placeless_statement placeless_choice placeless_branch placeless_catch
branch_rolled x = fold-roll-KBranch KExpr KStmt KChoice KBranch KCatch expression_by statement_by choice_by branch_by catch_by x

pub catch_rolled : (x : KCatch-F KExpr KStmt KChoice KBranch KCatch) → placeless_catch (roll-KCatch x) ≡ catch_by (map-KCatch KExpr KStmt KChoice KBranch KCatch KExpr KStmt KChoice KBranch KCatch placeless_expression placeless_statement placeless_choice placeless_branch placeless_catch x)
unfolding placeless_expression placeless_statement placeless_choice placeless_branch placeless_catch
catch_rolled x = fold-roll-KCatch KExpr KStmt KChoice KBranch KCatch expression_by statement_by choice_by branch_by catch_by x

pub member_rolled : (x : KMember-F KMember) → placeless_member (roll-KMember x) ≡ member_by (map-KMember KMember KMember placeless_member x)
unfolding placeless_member
member_rolled x = fold-roll-KMember KMember member_by x

-- ---- each variant

pub expression_Literal : (x : KLiteral) (at : Position) → placeless_expression (e.Literal x at) ≡ e.Literal x made
expression_Literal x at = ap placeless_expression (sym (e.rolls-Literal x at)) ∙ expression_rolled (KExpr-F.Literal x at) ∙ e.rolls-Literal x made

pub expression_Name : (x : KName) → placeless_expression (e.Name x) ≡ e.Name (unplaced_name x)
expression_Name x = ap placeless_expression (sym (e.rolls-Name x)) ∙ expression_rolled (KExpr-F.Name x) ∙ e.rolls-Name (unplaced_name x)

pub expression_This : (at : Position) → placeless_expression (e.This at) ≡ e.This made
expression_This at = ap placeless_expression (sym (e.rolls-This at)) ∙ expression_rolled (KExpr-F.This at) ∙ e.rolls-This made

pub expression_Paren : (round : Brackets) (inner : KExpr) → placeless_expression (e.Paren round inner) ≡ e.Paren made_brackets (placeless_expression inner)
expression_Paren round inner = ap placeless_expression (sym (e.rolls-Paren round inner)) ∙ expression_rolled (KExpr-F.Paren round inner) ∙ e.rolls-Paren made_brackets (placeless_expression inner)

pub expression_Call : (x : KName) (types : Option KTypeArguments) (round : Brackets) (arguments : List KExpr) (commas : List Position) → placeless_expression (e.Call x types round arguments commas) ≡ e.Call (unplaced_name x) (option_map placeless_arguments types) made_brackets (map placeless_expression arguments) (all_made commas)
expression_Call x types round arguments commas = ap placeless_expression (sym (e.rolls-Call x types round arguments commas)) ∙ expression_rolled (KExpr-F.Call x types round arguments commas) ∙ e.rolls-Call (unplaced_name x) (option_map placeless_arguments types) made_brackets (map placeless_expression arguments) (all_made commas)

pub expression_SuperCall : (at : KSuperAt) (x : KName) (round : Brackets) (arguments : List KExpr) (commas : List Position) → placeless_expression (e.SuperCall at x round arguments commas) ≡ e.SuperCall made_super (unplaced_name x) made_brackets (map placeless_expression arguments) (all_made commas)
expression_SuperCall at x round arguments commas = ap placeless_expression (sym (e.rolls-SuperCall at x round arguments commas)) ∙ expression_rolled (KExpr-F.SuperCall at x round arguments commas) ∙ e.rolls-SuperCall made_super (unplaced_name x) made_brackets (map placeless_expression arguments) (all_made commas)

pub expression_Field : (object : KExpr) (dot : Position) (x : KName) → placeless_expression (e.Field object dot x) ≡ e.Field (placeless_expression object) made (unplaced_name x)
expression_Field object dot x = ap placeless_expression (sym (e.rolls-Field object dot x)) ∙ expression_rolled (KExpr-F.Field object dot x) ∙ e.rolls-Field (placeless_expression object) made (unplaced_name x)

pub expression_Method : (object : KExpr) (dot : Position) (x : KName) (types : Option KTypeArguments) (round : Brackets) (arguments : List KExpr) (commas : List Position) → placeless_expression (e.Method object dot x types round arguments commas) ≡ e.Method (placeless_expression object) made (unplaced_name x) (option_map placeless_arguments types) made_brackets (map placeless_expression arguments) (all_made commas)
expression_Method object dot x types round arguments commas = ap placeless_expression (sym (e.rolls-Method object dot x types round arguments commas)) ∙ expression_rolled (KExpr-F.Method object dot x types round arguments commas) ∙ e.rolls-Method (placeless_expression object) made (unplaced_name x) (option_map placeless_arguments types) made_brackets (map placeless_expression arguments) (all_made commas)

pub expression_Element : (array : KExpr) (square : Brackets) (index : KExpr) → placeless_expression (e.Element array square index) ≡ e.Element (placeless_expression array) made_brackets (placeless_expression index)
expression_Element array square index = ap placeless_expression (sym (e.rolls-Element array square index)) ∙ expression_rolled (KExpr-F.Element array square index) ∙ e.rolls-Element (placeless_expression array) made_brackets (placeless_expression index)

pub expression_Postfix : (operand : KExpr) (o : KPostfix) (at : Position) → placeless_expression (e.Postfix operand o at) ≡ e.Postfix (placeless_expression operand) o made
expression_Postfix operand o at = ap placeless_expression (sym (e.rolls-Postfix operand o at)) ∙ expression_rolled (KExpr-F.Postfix operand o at) ∙ e.rolls-Postfix (placeless_expression operand) o made

pub expression_Prefix : (o : KPrefix) (at : Position) (operand : KExpr) → placeless_expression (e.Prefix o at operand) ≡ e.Prefix o made (placeless_expression operand)
expression_Prefix o at operand = ap placeless_expression (sym (e.rolls-Prefix o at operand)) ∙ expression_rolled (KExpr-F.Prefix o at operand) ∙ e.rolls-Prefix o made (placeless_expression operand)

pub expression_As : (value : KExpr) (at : Position) (kind : KType) → placeless_expression (e.As value at kind) ≡ e.As (placeless_expression value) made (placeless_type kind)
expression_As value at kind = ap placeless_expression (sym (e.rolls-As value at kind)) ∙ expression_rolled (KExpr-F.As value at kind) ∙ e.rolls-As (placeless_expression value) made (placeless_type kind)

pub expression_Is : (value : KExpr) (at : Position) (kind : KType) → placeless_expression (e.Is value at kind) ≡ e.Is (placeless_expression value) made (placeless_type kind)
expression_Is value at kind = ap placeless_expression (sym (e.rolls-Is value at kind)) ∙ expression_rolled (KExpr-F.Is value at kind) ∙ e.rolls-Is (placeless_expression value) made (placeless_type kind)

pub expression_Binary : (left : KExpr) (o : KBinary) (at : Position) (right : KExpr) → placeless_expression (e.Binary left o at right) ≡ e.Binary (placeless_expression left) o made (placeless_expression right)
expression_Binary left o at right = ap placeless_expression (sym (e.rolls-Binary left o at right)) ∙ expression_rolled (KExpr-F.Binary left o at right) ∙ e.rolls-Binary (placeless_expression left) o made (placeless_expression right)

pub expression_IfValue : (at : KHeadAt) (condition : KExpr) (value : KExpr) (else_at : Position) (other : KExpr) → placeless_expression (e.IfValue at condition value else_at other) ≡ e.IfValue made_head (placeless_expression condition) (placeless_expression value) made (placeless_expression other)
expression_IfValue at condition value else_at other = ap placeless_expression (sym (e.rolls-IfValue at condition value else_at other)) ∙ expression_rolled (KExpr-F.IfValue at condition value else_at other) ∙ e.rolls-IfValue made_head (placeless_expression condition) (placeless_expression value) made (placeless_expression other)

pub expression_WhenValue : (at : KHeadAt) (subject : KExpr) (curly : Brackets) (choices : List KChoice) (else_at : KElseAt) (other : KExpr) → placeless_expression (e.WhenValue at subject curly choices else_at other) ≡ e.WhenValue made_head (placeless_expression subject) made_brackets (map placeless_choice choices) made_else (placeless_expression other)
expression_WhenValue at subject curly choices else_at other = ap placeless_expression (sym (e.rolls-WhenValue at subject curly choices else_at other)) ∙ expression_rolled (KExpr-F.WhenValue at subject curly choices else_at other) ∙ e.rolls-WhenValue made_head (placeless_expression subject) made_brackets (map placeless_choice choices) made_else (placeless_expression other)

pub expression_Lambda : (face : KType) (curly : Brackets) (names : KLambdaNames) (statements : List KStmt) → placeless_expression (e.Lambda face curly names statements) ≡ e.Lambda (placeless_type face) made_brackets (placeless_names names) (map placeless_statement statements)
expression_Lambda face curly names statements = ap placeless_expression (sym (e.rolls-Lambda face curly names statements)) ∙ expression_rolled (KExpr-F.Lambda face curly names statements) ∙ e.rolls-Lambda (placeless_type face) made_brackets (placeless_names names) (map placeless_statement statements)

pub expression_Run : (at : Position) (curly : Brackets) (statements : List KStmt) → placeless_expression (e.Run at curly statements) ≡ e.Run made made_brackets (map placeless_statement statements)
expression_Run at curly statements = ap placeless_expression (sym (e.rolls-Run at curly statements)) ∙ expression_rolled (KExpr-F.Run at curly statements) ∙ e.rolls-Run made made_brackets (map placeless_statement statements)

pub expression_Class : (x : KQualified) (at : KClassAt) → placeless_expression (e.Class x at) ≡ e.Class (unplaced_qualified x) made_class
expression_Class x at = ap placeless_expression (sym (e.rolls-Class x at)) ∙ expression_rolled (KExpr-F.Class x at) ∙ e.rolls-Class (unplaced_qualified x) made_class

pub statement_Declared : (x : KDeclared) → placeless_statement (s.Declared x) ≡ s.Declared (placeless_declared x)
statement_Declared x = ap placeless_statement (sym (s.rolls-Declared x)) ∙ statement_rolled (KStmt-F.Declared x) ∙ s.rolls-Declared (placeless_declared x)

pub statement_Local : (x : KDeclared) (at : Position) (value : KExpr) → placeless_statement (s.Local x at value) ≡ s.Local (placeless_declared x) made (placeless_expression value)
statement_Local x at value = ap placeless_statement (sym (s.rolls-Local x at value)) ∙ statement_rolled (KStmt-F.Local x at value) ∙ s.rolls-Local (placeless_declared x) made (placeless_expression value)

pub statement_Expression : (x : KExpr) → placeless_statement (s.Expression x) ≡ s.Expression (placeless_expression x)
statement_Expression x = ap placeless_statement (sym (s.rolls-Expression x)) ∙ statement_rolled (KStmt-F.Expression x) ∙ s.rolls-Expression (placeless_expression x)

pub statement_Assign : (target : KExpr) (at : Position) (value : KExpr) → placeless_statement (s.Assign target at value) ≡ s.Assign (placeless_expression target) made (placeless_expression value)
statement_Assign target at value = ap placeless_statement (sym (s.rolls-Assign target at value)) ∙ statement_rolled (KStmt-F.Assign target at value) ∙ s.rolls-Assign (placeless_expression target) made (placeless_expression value)

pub statement_While : (label : Option KLabel) (at : KHeadAt) (condition : KExpr) (curly : Brackets) (statements : List KStmt) → placeless_statement (s.While label at condition curly statements) ≡ s.While (option_map unplaced_label label) made_head (placeless_expression condition) made_brackets (map placeless_statement statements)
statement_While label at condition curly statements = ap placeless_statement (sym (s.rolls-While label at condition curly statements)) ∙ statement_rolled (KStmt-F.While label at condition curly statements) ∙ s.rolls-While (option_map unplaced_label label) made_head (placeless_expression condition) made_brackets (map placeless_statement statements)

pub statement_DoWhile : (label : Option KLabel) (do_at : Position) (curly : Brackets) (statements : List KStmt) (at : KHeadAt) (condition : KExpr) → placeless_statement (s.DoWhile label do_at curly statements at condition) ≡ s.DoWhile (option_map unplaced_label label) made made_brackets (map placeless_statement statements) made_head (placeless_expression condition)
statement_DoWhile label do_at curly statements at condition = ap placeless_statement (sym (s.rolls-DoWhile label do_at curly statements at condition)) ∙ statement_rolled (KStmt-F.DoWhile label do_at curly statements at condition) ∙ s.rolls-DoWhile (option_map unplaced_label label) made made_brackets (map placeless_statement statements) made_head (placeless_expression condition)

pub statement_For : (label : Option KLabel) (at : KHeadAt) (x : KName) (in_at : Position) (values : KExpr) (curly : Brackets) (statements : List KStmt) → placeless_statement (s.For label at x in_at values curly statements) ≡ s.For (option_map unplaced_label label) made_head (unplaced_name x) made (placeless_expression values) made_brackets (map placeless_statement statements)
statement_For label at x in_at values curly statements = ap placeless_statement (sym (s.rolls-For label at x in_at values curly statements)) ∙ statement_rolled (KStmt-F.For label at x in_at values curly statements) ∙ s.rolls-For (option_map unplaced_label label) made_head (unplaced_name x) made (placeless_expression values) made_brackets (map placeless_statement statements)

pub statement_ForRange : (label : Option KLabel) (at : KHeadAt) (x : KName) (in_at : Position) (first : KExpr) (until_at : Position) (end : KExpr) (curly : Brackets) (statements : List KStmt) → placeless_statement (s.ForRange label at x in_at first until_at end curly statements) ≡ s.ForRange (option_map unplaced_label label) made_head (unplaced_name x) made (placeless_expression first) made (placeless_expression end) made_brackets (map placeless_statement statements)
statement_ForRange label at x in_at first until_at end curly statements = ap placeless_statement (sym (s.rolls-ForRange label at x in_at first until_at end curly statements)) ∙ statement_rolled (KStmt-F.ForRange label at x in_at first until_at end curly statements) ∙ s.rolls-ForRange (option_map unplaced_label label) made_head (unplaced_name x) made (placeless_expression first) made (placeless_expression end) made_brackets (map placeless_statement statements)

pub statement_If : (at : KHeadAt) (condition : KExpr) (curly : Brackets) (statements : List KStmt) → placeless_statement (s.If at condition curly statements) ≡ s.If made_head (placeless_expression condition) made_brackets (map placeless_statement statements)
statement_If at condition curly statements = ap placeless_statement (sym (s.rolls-If at condition curly statements)) ∙ statement_rolled (KStmt-F.If at condition curly statements) ∙ s.rolls-If made_head (placeless_expression condition) made_brackets (map placeless_statement statements)

pub statement_IfElse : (at : KHeadAt) (condition : KExpr) (curly : Brackets) (statements : List KStmt) (else_at : Position) (other_curly : Brackets) (others : List KStmt) → placeless_statement (s.IfElse at condition curly statements else_at other_curly others) ≡ s.IfElse made_head (placeless_expression condition) made_brackets (map placeless_statement statements) made made_brackets (map placeless_statement others)
statement_IfElse at condition curly statements else_at other_curly others = ap placeless_statement (sym (s.rolls-IfElse at condition curly statements else_at other_curly others)) ∙ statement_rolled (KStmt-F.IfElse at condition curly statements else_at other_curly others) ∙ s.rolls-IfElse made_head (placeless_expression condition) made_brackets (map placeless_statement statements) made made_brackets (map placeless_statement others)

pub statement_IfElseIf : (at : KHeadAt) (condition : KExpr) (curly : Brackets) (statements : List KStmt) (else_at : Position) (other : KStmt) → placeless_statement (s.IfElseIf at condition curly statements else_at other) ≡ s.IfElseIf made_head (placeless_expression condition) made_brackets (map placeless_statement statements) made (placeless_statement other)
statement_IfElseIf at condition curly statements else_at other = ap placeless_statement (sym (s.rolls-IfElseIf at condition curly statements else_at other)) ∙ statement_rolled (KStmt-F.IfElseIf at condition curly statements else_at other) ∙ s.rolls-IfElseIf made_head (placeless_expression condition) made_brackets (map placeless_statement statements) made (placeless_statement other)

pub statement_When : (at : KHeadAt) (subject : KExpr) (curly : Brackets) (branches : List KBranch) (else_at : KElseAt) (other_curly : Brackets) (others : List KStmt) → placeless_statement (s.When at subject curly branches else_at other_curly others) ≡ s.When made_head (placeless_expression subject) made_brackets (map placeless_branch branches) made_else made_brackets (map placeless_statement others)
statement_When at subject curly branches else_at other_curly others = ap placeless_statement (sym (s.rolls-When at subject curly branches else_at other_curly others)) ∙ statement_rolled (KStmt-F.When at subject curly branches else_at other_curly others) ∙ s.rolls-When made_head (placeless_expression subject) made_brackets (map placeless_branch branches) made_else made_brackets (map placeless_statement others)

pub statement_Break : (at : Position) (target : Option KTarget) → placeless_statement (s.Break at target) ≡ s.Break made (option_map unplaced_target target)
statement_Break at target = ap placeless_statement (sym (s.rolls-Break at target)) ∙ statement_rolled (KStmt-F.Break at target) ∙ s.rolls-Break made (option_map unplaced_target target)

pub statement_Continue : (at : Position) (target : Option KTarget) → placeless_statement (s.Continue at target) ≡ s.Continue made (option_map unplaced_target target)
statement_Continue at target = ap placeless_statement (sym (s.rolls-Continue at target)) ∙ statement_rolled (KStmt-F.Continue at target) ∙ s.rolls-Continue made (option_map unplaced_target target)

pub statement_Return : (at : Position) (target : Option KTarget) → placeless_statement (s.Return at target) ≡ s.Return made (option_map unplaced_target target)
statement_Return at target = ap placeless_statement (sym (s.rolls-Return at target)) ∙ statement_rolled (KStmt-F.Return at target) ∙ s.rolls-Return made (option_map unplaced_target target)

pub statement_Give : (at : Position) (target : Option KTarget) (value : KExpr) → placeless_statement (s.Give at target value) ≡ s.Give made (option_map unplaced_target target) (placeless_expression value)
statement_Give at target value = ap placeless_statement (sym (s.rolls-Give at target value)) ∙ statement_rolled (KStmt-F.Give at target value) ∙ s.rolls-Give made (option_map unplaced_target target) (placeless_expression value)

pub statement_Throw : (at : Position) (value : KExpr) → placeless_statement (s.Throw at value) ≡ s.Throw made (placeless_expression value)
statement_Throw at value = ap placeless_statement (sym (s.rolls-Throw at value)) ∙ statement_rolled (KStmt-F.Throw at value) ∙ s.rolls-Throw made (placeless_expression value)

pub statement_Try : (at : Position) (curly : Brackets) (statements : List KStmt) (catches : List KCatch) → placeless_statement (s.Try at curly statements catches) ≡ s.Try made made_brackets (map placeless_statement statements) (map placeless_catch catches)
statement_Try at curly statements catches = ap placeless_statement (sym (s.rolls-Try at curly statements catches)) ∙ statement_rolled (KStmt-F.Try at curly statements catches) ∙ s.rolls-Try made made_brackets (map placeless_statement statements) (map placeless_catch catches)

pub statement_TryFinally : (at : Position) (curly : Brackets) (statements : List KStmt) (catches : List KCatch) (last_at : KFinallyAt) (last : List KStmt) → placeless_statement (s.TryFinally at curly statements catches last_at last) ≡ s.TryFinally made made_brackets (map placeless_statement statements) (map placeless_catch catches) made_finally (map placeless_statement last)
statement_TryFinally at curly statements catches last_at last = ap placeless_statement (sym (s.rolls-TryFinally at curly statements catches last_at last)) ∙ statement_rolled (KStmt-F.TryFinally at curly statements catches last_at last) ∙ s.rolls-TryFinally made made_brackets (map placeless_statement statements) (map placeless_catch catches) made_finally (map placeless_statement last)

pub statement_Synchronized : (at : KHeadAt) (lock : KExpr) (curly : Brackets) (statements : List KStmt) → placeless_statement (s.Synchronized at lock curly statements) ≡ s.Synchronized made_head (placeless_expression lock) made_brackets (map placeless_statement statements)
statement_Synchronized at lock curly statements = ap placeless_statement (sym (s.rolls-Synchronized at lock curly statements)) ∙ statement_rolled (KStmt-F.Synchronized at lock curly statements) ∙ s.rolls-Synchronized made_head (placeless_expression lock) made_brackets (map placeless_statement statements)

pub type_Plain : (x : KQualified) (question : Option Position) (variable : Bool) → placeless_type (ty.Plain x question variable) ≡ ty.Plain (unplaced_qualified x) (option_map at_made question) variable
type_Plain x question variable = ap placeless_type (sym (ty.rolls-Plain x question variable)) ∙ type_rolled (KType-F.Plain x question variable) ∙ ty.rolls-Plain (unplaced_qualified x) (option_map at_made question) variable

pub type_Applied : (x : KQualified) (angles : Brackets) (arguments : List KType) (commas : List Position) (question : Option Position) → placeless_type (ty.Applied x angles arguments commas question) ≡ ty.Applied (unplaced_qualified x) made_brackets (map placeless_type arguments) (all_made commas) (option_map at_made question)
type_Applied x angles arguments commas question = ap placeless_type (sym (ty.rolls-Applied x angles arguments commas question)) ∙ type_rolled (KType-F.Applied x angles arguments commas question) ∙ ty.rolls-Applied (unplaced_qualified x) made_brackets (map placeless_type arguments) (all_made commas) (option_map at_made question)

pub member_Property : (modifiers : List KModifier) (declared : KDeclared) (value : Option KValue) (setter : Option KPrivateSet) → placeless_member (mb.Property modifiers declared value setter) ≡ mb.Property (map unplaced_modifier modifiers) (placeless_declared declared) (option_map placeless_value value) (option_map placeless_setter setter)
member_Property modifiers declared value setter = ap placeless_member (sym (mb.rolls-Property modifiers declared value setter)) ∙ member_rolled (KMember-F.Property modifiers declared value setter) ∙ mb.rolls-Property (map unplaced_modifier modifiers) (placeless_declared declared) (option_map placeless_value value) (option_map placeless_setter setter)

pub member_Init : (at : Position) (body : KBlock) → placeless_member (mb.Init at body) ≡ mb.Init made (placeless_block body)
member_Init at body = ap placeless_member (sym (mb.rolls-Init at body)) ∙ member_rolled (KMember-F.Init at body) ∙ mb.rolls-Init made (placeless_block body)

pub member_Function : (modifiers : List KModifier) (at : Position) (x : KName) (params : KParams) (result : Option KTyped) (body : Option KBlock) → placeless_member (mb.Function modifiers at x params result body) ≡ mb.Function (map unplaced_modifier modifiers) made (unplaced_name x) (placeless_params params) (option_map placeless_typed result) (option_map placeless_block body)
member_Function modifiers at x params result body = ap placeless_member (sym (mb.rolls-Function modifiers at x params result body)) ∙ member_rolled (KMember-F.Function modifiers at x params result body) ∙ mb.rolls-Function (map unplaced_modifier modifiers) made (unplaced_name x) (placeless_params params) (option_map placeless_typed result) (option_map placeless_block body)

pub member_Constructor : (modifiers : List KModifier) (at : Position) (params : KParams) (first : Option KDelegation) (body : KBlock) → placeless_member (mb.Constructor modifiers at params first body) ≡ mb.Constructor (map unplaced_modifier modifiers) made (placeless_params params) (option_map placeless_delegation first) (placeless_block body)
member_Constructor modifiers at params first body = ap placeless_member (sym (mb.rolls-Constructor modifiers at params first body)) ∙ member_rolled (KMember-F.Constructor modifiers at params first body) ∙ mb.rolls-Constructor (map unplaced_modifier modifiers) made (placeless_params params) (option_map placeless_delegation first) (placeless_block body)

pub member_Companion : (at : KCompanionAt) (members : List KMember) → placeless_member (mb.Companion at members) ≡ mb.Companion made_companion (map placeless_member members)
member_Companion at members = ap placeless_member (sym (mb.rolls-Companion at members)) ∙ member_rolled (KMember-F.Companion at members) ∙ mb.rolls-Companion made_companion (map placeless_member members)
