-- The roles of each form.
use Rattle.std.proofs.Common.{◌≡◌, ℕ, zero, suc, ◌+◌, Bool, true, false, List, [], ◌∷◌, ◌++◌, map, Option, Some, None, refl, ap, sym, ◌∙◌}
use Rattle.std.specs.Prelude.{if◌then◌else◌, nat_eq, nat_lt, ◌||◌}
use Rattle.kotlin_tree.specs.declared.tokens.Mark.{Mark}
use Rattle.kotlin_tree.specs.declared.tokens.Mark.TheVariants as m
use Rattle.kotlin_tree.specs.declared.tokens.Keyword.TheVariants as k
use Rattle.kotlin_tree.specs.declared.tokens.Word.{Word}
use Rattle.kotlin_tree.specs.declared.tokens.Word.TheVariants as w
use Rattle.kotlin_tree.specs.declared.places.Brackets.{Brackets}
use Rattle.kotlin_tree.specs.declared.places.Position.{Position}
use Rattle.kotlin_tree.specs.declared.types.KName.{KName}
use Rattle.kotlin_tree.specs.declared.types.KDotted.{KDotted}
use Rattle.kotlin_tree.specs.declared.types.KQualified.{KQualified}
use Rattle.kotlin_tree.specs.declared.types.KTypeArguments.{KTypeArguments}
use Rattle.kotlin_tree.specs.declared.expressions.KBinary.{KBinary}
use Rattle.kotlin_tree.specs.declared.expressions.KBinary.TheVariants as op
use Rattle.kotlin_tree.specs.declared.expressions.KPrefix.{KPrefix}
use Rattle.kotlin_tree.specs.declared.expressions.KPrefix.TheVariants as prefix
use Rattle.kotlin_tree.specs.declared.expressions.KPostfix.{KPostfix}
use Rattle.kotlin_tree.specs.declared.expressions.KPostfix.TheVariants as postfix
use Rattle.kotlin_tree.specs.declared.expressions.KLambdaNames.{KLambdaNames}
use Rattle.kotlin_tree.specs.declared.statements.KVariability.{KVariability}
use Rattle.kotlin_tree.specs.declared.statements.KVariability.TheVariants as variability
use Rattle.kotlin_tree.specs.declared.statements.KDeclared.{KDeclared}
use Rattle.kotlin_tree.specs.declared.statements.KLabel.{KLabel}
use Rattle.kotlin_tree.specs.declared.statements.KTarget.{KTarget}
use Rattle.kotlin_tree.specs.declared.statements.KBlock.{KBlock}
use Rattle.kotlin_tree.specs.declared.members.KModifierKind.{KModifierKind}
use Rattle.kotlin_tree.specs.declared.members.KModifierKind.TheVariants as modifier
use Rattle.kotlin_tree.specs.declared.members.KModifier.{KModifier}
use Rattle.kotlin_tree.specs.declared.members.KParam.{KParam}
use Rattle.kotlin_tree.specs.declared.members.KParams.{KParams}
use Rattle.kotlin_tree.specs.declared.members.KTyped.{KTyped}
use Rattle.kotlin_tree.specs.declared.members.KValue.{KValue}
use Rattle.kotlin_tree.specs.declared.members.KPrivateSet.{KPrivateSet}
use Rattle.kotlin_tree.specs.declared.members.KCalled.{KCalled}
use Rattle.kotlin_tree.specs.declared.members.KCalled.TheVariants as called
use Rattle.kotlin_tree.specs.declared.members.KDelegation.{KDelegation}
use Rattle.kotlin_tree.specs.declared.files.KTypeParam.{KTypeParam}
use Rattle.kotlin_tree.specs.declared.files.KTypeParams.{KTypeParams}
use Rattle.kotlin_tree.specs.declared.files.KSuper.{KSuper}
use Rattle.kotlin_tree.specs.declared.files.KSupers.{KSupers}
use Rattle.kotlin_tree.specs.declared.files.KClassWord.{KClassWord}
use Rattle.kotlin_tree.specs.declared.files.KClassWord.TheVariants as class
use Rattle.kotlin_tree.specs.declared.files.KClass.{KClass}
use Rattle.kotlin_tree.specs.declared.files.KPackage.{KPackage}
use Rattle.kotlin_tree.specs.declared.files.KImport.{KImport}
use Rattle.kotlin_tree.specs.declared.files.KFile.{KFile}
use Rattle.kotlin_layout.specs.declared.glyphs.Glyph.{Glyph}
use Rattle.kotlin_layout.specs.declared.glyphs.Glyph.TheVariants as g
use Rattle.kotlin_layout.specs.declared.parens.Place.{Place}
use Rattle.kotlin_layout.specs.declared.parens.Neighbor.{Neighbor}
use Rattle.kotlin_layout.specs.declared.parens.Neighbor.TheVariants as beside
use Rattle.kotlin_layout.specs.Parens.{needs_by, is_looser_by, mixes_by, clashes_by, joins_prefix_by, is_is_by, compares_less_by, needs_parens, clashes, is_looser, is_as, is_is, outer_level, compares, compares_less, joins_prefix, postfix_level, infix_level, is_level, as_level, free_place, list_place, operand_place, left_place, right_place, prefix_place}
use Rattle.kotlin_layout.specs.Roles.{Role, Roles, Glyphs, fixed, name, listed, comma, next, joined, lines, opened, closed, block}
use Rattle.kotlin_tree.specs.declared.places.Brackets.{Brackets}
use Rattle.kotlin_tree.specs.declared.expressions.KLiteral.{KLiteral}
use Rattle.kotlin_tree.specs.declared.expressions.KHeadAt.{KHeadAt}
use Rattle.kotlin_tree.specs.declared.expressions.KElseAt.{KElseAt}
use Rattle.kotlin_tree.specs.declared.expressions.KClassAt.{KClassAt}
use Rattle.kotlin_tree.specs.declared.expressions.KSuperAt.{KSuperAt}
use Rattle.kotlin_tree.specs.declared.expressions.KExpr.{KExpr, out-KExpr, roll-KExpr, out-roll-KExpr, roll-out-KExpr, map-KExpr, fold-roll-KExpr, fold_out-KExpr}
use Rattle.kotlin_tree.specs.declared.expressions.KExpr.TheOpen.{KExpr-F, KStmt-F, KChoice-F, KBranch-F, KCatch-F}
use Rattle.kotlin_tree.specs.declared.expressions.KExpr.TheVariants as e
use Rattle.kotlin_tree.specs.declared.expressions.KChoice.{KChoice, out-KChoice, fold_out-KChoice}
use Rattle.kotlin_tree.specs.declared.statements.KFinallyAt.{KFinallyAt}
use Rattle.kotlin_tree.specs.declared.statements.KStmt.{KStmt, roll-KStmt, map-KStmt, fold-roll-KStmt}
use Rattle.kotlin_tree.specs.declared.statements.KStmt.TheVariants as s
use Rattle.kotlin_tree.specs.declared.statements.KBranch.{KBranch, out-KBranch, fold_out-KBranch}
use Rattle.kotlin_tree.specs.declared.statements.KCatch.{KCatch, out-KCatch, fold_out-KCatch}
use Rattle.kotlin_tree.specs.declared.members.KCompanionAt.{KCompanionAt}
use Rattle.kotlin_tree.specs.declared.members.KMember.{KMember, roll-KMember, map-KMember, fold-roll-KMember}
use Rattle.kotlin_tree.specs.declared.members.KMember.TheOpen.{KMember-F}
use Rattle.kotlin_tree.specs.declared.members.KMember.TheVariants as mb
use Rattle.kotlin_tree.specs.declared.types.KType.{KType, roll-KType, map-KType, fold-roll-KType}
use Rattle.kotlin_tree.specs.declared.types.KType.TheOpen.{KType-F}
use Rattle.kotlin_tree.specs.declared.types.KType.TheVariants as ty
use Rattle.kotlin_layout.specs.Shown.{Placed, above, annotation_glyphs, argument_roles, arguments_roles, assigns, at_place, bare_by, bare_roles, block_roles, body_roles, bound_roles, branch_by, branch_roles, called_word, catch_by, catch_roles, choice_by, choice_roles, class_of, class_part, class_roles, class_words, classes_part, comment_line, comment_roles, declared_roles, delegation_roles, dotted_roles, else_line, else_value, else_word, empty_line, expression_by, expression_roles, file_roles, for_head, has_type, headed, if_ranked, if_there, import_line, imports_part, in_angles, in_round, is_absent, is_headless, label_roles, labels, lambda_names, member_by, member_roles, modifier_glyphs, modifiers_roles, name_of, operator_glyph, package_line, package_part, param_roles, params_roles, postfix_mark, prefix_mark, qualified_roles, rank, ranked, result_roles, setter_roles, statement_by, statement_roles, super_call, super_roles, supers_roles, target_roles, type_arguments_roles, type_by, type_param_roles, type_params_roles, type_roles, value_roles, variability_word, word_glyphs}

bare_rolls : (p : Place) (x : KExpr-F KExpr KStmt KChoice KBranch KCatch) → bare_roles p (roll-KExpr x) ≡ bare_by p (map-KExpr KExpr KStmt KChoice KBranch KCatch Placed Roles Roles Roles Roles expression_roles statement_roles choice_roles branch_roles catch_roles x)
unfolding bare_roles
bare_rolls p x = ap (λ z. bare_by p (map-KExpr KExpr KStmt KChoice KBranch KCatch Placed Roles Roles Roles Roles expression_roles statement_roles choice_roles branch_roles catch_roles z)) (out-roll-KExpr x)

statement_rolls : (x : KStmt-F KExpr KStmt KChoice KBranch KCatch) → statement_roles (roll-KStmt x) ≡ statement_by (map-KStmt KExpr KStmt KChoice KBranch KCatch Placed Roles Roles Roles Roles expression_roles statement_roles choice_roles branch_roles catch_roles x)
unfolding expression_roles statement_roles choice_roles branch_roles catch_roles
statement_rolls x = fold-roll-KStmt Placed Roles Roles Roles Roles expression_by statement_by choice_by branch_by catch_by x

member_rolls : (x : KMember-F KMember) → member_roles (roll-KMember x) ≡ member_by (map-KMember KMember Roles member_roles x)
unfolding member_roles
member_rolls x = fold-roll-KMember Roles member_by x

type_rolls : (x : KType-F KType) → type_roles (roll-KType x) ≡ type_by (map-KType KType Roles type_roles x)
unfolding type_roles
type_rolls x = fold-roll-KType Roles type_by x

pub bare_Literal : (p : Place) (x : KLiteral) (at : Position) → bare_roles p (e.Literal x at) ≡ Role.Literal x ∷ []
bare_Literal p x at = ap (bare_roles p) (sym (e.rolls-Literal x at)) ∙ bare_rolls p (KExpr-F.Literal x at)

pub bare_Name : (p : Place) (x : KName) → bare_roles p (e.Name x) ≡ name x.name
bare_Name p x = ap (bare_roles p) (sym (e.rolls-Name x)) ∙ bare_rolls p (KExpr-F.Name x)

pub bare_This : (p : Place) (at : Position) → bare_roles p (e.This at) ≡ fixed (g.Keyword k.This ∷ [])
bare_This p at = ap (bare_roles p) (sym (e.rolls-This at)) ∙ bare_rolls p (KExpr-F.This at)

pub bare_Paren : (p : Place) (round : Brackets) (inner : KExpr) → bare_roles p (e.Paren round inner) ≡ in_round (expression_roles inner free_place)
bare_Paren p round inner = ap (bare_roles p) (sym (e.rolls-Paren round inner)) ∙ bare_rolls p (KExpr-F.Paren round inner)

pub bare_Call : (p : Place) (x : KName) (types : Option KTypeArguments) (round : Brackets) (arguments : List KExpr) (commas : List Position) → bare_roles p (e.Call x types round arguments commas) ≡ name x.name ++ type_arguments_roles types ++ arguments_roles (map expression_roles arguments)
bare_Call p x types round arguments commas = ap (bare_roles p) (sym (e.rolls-Call x types round arguments commas)) ∙ bare_rolls p (KExpr-F.Call x types round arguments commas)

pub bare_SuperCall : (p : Place) (at : KSuperAt) (x : KName) (round : Brackets) (arguments : List KExpr) (commas : List Position) → bare_roles p (e.SuperCall at x round arguments commas) ≡ fixed (g.Keyword k.Super ∷ g.Mark m.Dot ∷ []) ++ name x.name ++ arguments_roles (map expression_roles arguments)
bare_SuperCall p at x round arguments commas = ap (bare_roles p) (sym (e.rolls-SuperCall at x round arguments commas)) ∙ bare_rolls p (KExpr-F.SuperCall at x round arguments commas)

pub bare_Field : (p : Place) (object : KExpr) (dot : Position) (x : KName) → bare_roles p (e.Field object dot x) ≡ expression_roles object (operand_place postfix_level p) ++ fixed (g.Mark m.Dot ∷ []) ++ name x.name
bare_Field p object dot x = ap (bare_roles p) (sym (e.rolls-Field object dot x)) ∙ bare_rolls p (KExpr-F.Field object dot x)

pub bare_Method : (p : Place) (object : KExpr) (dot : Position) (x : KName) (types : Option KTypeArguments) (round : Brackets) (arguments : List KExpr) (commas : List Position) → bare_roles p (e.Method object dot x types round arguments commas) ≡ expression_roles object (operand_place postfix_level p) ++ fixed (g.Mark m.Dot ∷ []) ++ name x.name ++ type_arguments_roles types ++ arguments_roles (map expression_roles arguments)
bare_Method p object dot x types round arguments commas = ap (bare_roles p) (sym (e.rolls-Method object dot x types round arguments commas)) ∙ bare_rolls p (KExpr-F.Method object dot x types round arguments commas)

pub bare_Element : (p : Place) (array : KExpr) (square : Brackets) (index : KExpr) → bare_roles p (e.Element array square index) ≡ expression_roles array (operand_place postfix_level p) ++ fixed (g.Mark m.OpenSquare ∷ []) ++ expression_roles index free_place ++ fixed (g.Mark m.CloseSquare ∷ [])
bare_Element p array square index = ap (bare_roles p) (sym (e.rolls-Element array square index)) ∙ bare_rolls p (KExpr-F.Element array square index)

pub bare_Postfix : (p : Place) (operand : KExpr) (o : KPostfix) (at : Position) → bare_roles p (e.Postfix operand o at) ≡ expression_roles operand (operand_place postfix_level p) ++ fixed (g.Mark (postfix_mark o) ∷ [])
bare_Postfix p operand o at = ap (bare_roles p) (sym (e.rolls-Postfix operand o at)) ∙ bare_rolls p (KExpr-F.Postfix operand o at)

pub bare_Prefix : (p : Place) (o : KPrefix) (at : Position) (operand : KExpr) → bare_roles p (e.Prefix o at operand) ≡ fixed (g.Mark (prefix_mark o) ∷ []) ++ expression_roles operand (prefix_place o p)
bare_Prefix p o at operand = ap (bare_roles p) (sym (e.rolls-Prefix o at operand)) ∙ bare_rolls p (KExpr-F.Prefix o at operand)

pub bare_As : (p : Place) (value : KExpr) (at : Position) (kind : KType) → bare_roles p (e.As value at kind) ≡ expression_roles value (operand_place as_level p) ++ fixed (g.Blank ∷ g.Keyword k.As ∷ g.Blank ∷ []) ++ type_roles kind
bare_As p value at kind = ap (bare_roles p) (sym (e.rolls-As value at kind)) ∙ bare_rolls p (KExpr-F.As value at kind)

pub bare_Is : (p : Place) (value : KExpr) (at : Position) (kind : KType) → bare_roles p (e.Is value at kind) ≡ expression_roles value (operand_place is_level p) ++ fixed (g.Blank ∷ g.Keyword k.Is ∷ g.Blank ∷ []) ++ type_roles kind
bare_Is p value at kind = ap (bare_roles p) (sym (e.rolls-Is value at kind)) ∙ bare_rolls p (KExpr-F.Is value at kind)

pub bare_Binary : (p : Place) (left : KExpr) (o : KBinary) (at : Position) (right : KExpr) → bare_roles p (e.Binary left o at right) ≡ expression_roles left (left_place o p) ++ fixed (g.Blank ∷ operator_glyph o ∷ g.Blank ∷ []) ++ expression_roles right (right_place o p)
bare_Binary p left o at right = ap (bare_roles p) (sym (e.rolls-Binary left o at right)) ∙ bare_rolls p (KExpr-F.Binary left o at right)

pub bare_IfValue : (p : Place) (at : KHeadAt) (condition : KExpr) (value : KExpr) (else_at : Position) (other : KExpr) → bare_roles p (e.IfValue at condition value else_at other) ≡ headed (g.Keyword k.If) (expression_roles condition free_place) ++ fixed (g.Blank ∷ []) ++ expression_roles value (operand_place zero p) ++ fixed (g.Blank ∷ g.Keyword k.Else ∷ g.Blank ∷ []) ++ expression_roles other (operand_place zero p)
bare_IfValue p at condition value else_at other = ap (bare_roles p) (sym (e.rolls-IfValue at condition value else_at other)) ∙ bare_rolls p (KExpr-F.IfValue at condition value else_at other)

pub bare_WhenValue : (p : Place) (at : KHeadAt) (subject : KExpr) (curly : Brackets) (choices : List KChoice) (else_at : KElseAt) (other : KExpr) → bare_roles p (e.WhenValue at subject curly choices else_at other) ≡ headed (g.Keyword k.When) (expression_roles subject free_place) ++ fixed opened ++ lines (map choice_roles choices) ++ fixed else_value ++ expression_roles other free_place ++ fixed closed
bare_WhenValue p at subject curly choices else_at other = ap (bare_roles p) (sym (e.rolls-WhenValue at subject curly choices else_at other)) ∙ bare_rolls p (KExpr-F.WhenValue at subject curly choices else_at other)

pub bare_Lambda : (p : Place) (face : KType) (curly : Brackets) (names : KLambdaNames) (statements : List KStmt) → bare_roles p (e.Lambda face curly names statements) ≡ type_roles face ++ fixed (g.Blank ∷ g.Mark m.OpenCurly ∷ []) ++ lambda_names names.items ++ fixed (g.Deeper ∷ []) ++ lines (map statement_roles statements) ++ fixed closed
bare_Lambda p face curly names statements = ap (bare_roles p) (sym (e.rolls-Lambda face curly names statements)) ∙ bare_rolls p (KExpr-F.Lambda face curly names statements)

pub bare_Run : (p : Place) (at : Position) (curly : Brackets) (statements : List KStmt) → bare_roles p (e.Run at curly statements) ≡ fixed (g.Word w.Run ∷ g.Blank ∷ g.Mark m.OpenCurly ∷ g.Blank ∷ []) ++ listed next (map statement_roles statements) ++ fixed (g.Blank ∷ g.Mark m.CloseCurly ∷ [])
bare_Run p at curly statements = ap (bare_roles p) (sym (e.rolls-Run at curly statements)) ∙ bare_rolls p (KExpr-F.Run at curly statements)

pub bare_Class : (p : Place) (x : KQualified) (at : KClassAt) → bare_roles p (e.Class x at) ≡ qualified_roles x ++ fixed class_of
bare_Class p x at = ap (bare_roles p) (sym (e.rolls-Class x at)) ∙ bare_rolls p (KExpr-F.Class x at)

pub ruleset expressions = (bare_Literal, bare_Name, bare_This, bare_Paren, bare_Call, bare_SuperCall, bare_Field, bare_Method, bare_Element, bare_Postfix, bare_Prefix, bare_As, bare_Is, bare_Binary, bare_IfValue, bare_WhenValue, bare_Lambda, bare_Run, bare_Class)

pub roles_Commented : (comments : List (List ℕ)) (statement : KStmt) → statement_roles (s.Commented comments statement) ≡ comment_roles comments ++ statement_roles statement
roles_Commented comments statement = ap statement_roles (sym (s.rolls-Commented comments statement)) ∙ statement_rolls (KStmt-F.Commented comments statement)

pub roles_Declared : (x : KDeclared) → statement_roles (s.Declared x) ≡ declared_roles x
roles_Declared x = ap statement_roles (sym (s.rolls-Declared x)) ∙ statement_rolls (KStmt-F.Declared x)

pub roles_Local : (x : KDeclared) (at : Position) (value : KExpr) → statement_roles (s.Local x at value) ≡ declared_roles x ++ fixed assigns ++ expression_roles value free_place
roles_Local x at value = ap statement_roles (sym (s.rolls-Local x at value)) ∙ statement_rolls (KStmt-F.Local x at value)

pub roles_Expression : (x : KExpr) → statement_roles (s.Expression x) ≡ expression_roles x free_place
roles_Expression x = ap statement_roles (sym (s.rolls-Expression x)) ∙ statement_rolls (KStmt-F.Expression x)

pub roles_Assign : (target : KExpr) (at : Position) (value : KExpr) → statement_roles (s.Assign target at value) ≡ expression_roles target (operand_place postfix_level free_place) ++ fixed assigns ++ expression_roles value free_place
roles_Assign target at value = ap statement_roles (sym (s.rolls-Assign target at value)) ∙ statement_rolls (KStmt-F.Assign target at value)

pub roles_While : (label : Option KLabel) (at : KHeadAt) (condition : KExpr) (curly : Brackets) (statements : List KStmt) → statement_roles (s.While label at condition curly statements) ≡ label_roles label ++ headed (g.Keyword k.While) (expression_roles condition free_place) ++ block (map statement_roles statements)
roles_While label at condition curly statements = ap statement_roles (sym (s.rolls-While label at condition curly statements)) ∙ statement_rolls (KStmt-F.While label at condition curly statements)

pub roles_DoWhile : (label : Option KLabel) (do_at : Position) (curly : Brackets) (statements : List KStmt) (at : KHeadAt) (condition : KExpr) → statement_roles (s.DoWhile label do_at curly statements at condition) ≡ label_roles label ++ fixed (g.Keyword k.Do ∷ []) ++ block (map statement_roles statements) ++ fixed (g.Blank ∷ []) ++ headed (g.Keyword k.While) (expression_roles condition free_place)
roles_DoWhile label do_at curly statements at condition = ap statement_roles (sym (s.rolls-DoWhile label do_at curly statements at condition)) ∙ statement_rolls (KStmt-F.DoWhile label do_at curly statements at condition)

pub roles_For : (label : Option KLabel) (at : KHeadAt) (x : KName) (in_at : Position) (values : KExpr) (curly : Brackets) (statements : List KStmt) → statement_roles (s.For label at x in_at values curly statements) ≡ label_roles label ++ for_head x ++ expression_roles values free_place ++ fixed (g.Mark m.CloseRound ∷ []) ++ block (map statement_roles statements)
roles_For label at x in_at values curly statements = ap statement_roles (sym (s.rolls-For label at x in_at values curly statements)) ∙ statement_rolls (KStmt-F.For label at x in_at values curly statements)

pub roles_ForRange : (label : Option KLabel) (at : KHeadAt) (x : KName) (in_at : Position) (first : KExpr) (until_at : Position) (end : KExpr) (curly : Brackets) (statements : List KStmt) → statement_roles (s.ForRange label at x in_at first until_at end curly statements) ≡ label_roles label ++ for_head x ++ expression_roles first (operand_place infix_level free_place) ++ fixed (g.Blank ∷ g.Word w.Until ∷ g.Blank ∷ []) ++ expression_roles end (operand_place (infix_level + 1) free_place) ++ fixed (g.Mark m.CloseRound ∷ []) ++ block (map statement_roles statements)
roles_ForRange label at x in_at first until_at end curly statements = ap statement_roles (sym (s.rolls-ForRange label at x in_at first until_at end curly statements)) ∙ statement_rolls (KStmt-F.ForRange label at x in_at first until_at end curly statements)

pub roles_If : (at : KHeadAt) (condition : KExpr) (curly : Brackets) (statements : List KStmt) → statement_roles (s.If at condition curly statements) ≡ headed (g.Keyword k.If) (expression_roles condition free_place) ++ block (map statement_roles statements)
roles_If at condition curly statements = ap statement_roles (sym (s.rolls-If at condition curly statements)) ∙ statement_rolls (KStmt-F.If at condition curly statements)

pub roles_IfElse : (at : KHeadAt) (condition : KExpr) (curly : Brackets) (statements : List KStmt) (else_at : Position) (other_curly : Brackets) (others : List KStmt) → statement_roles (s.IfElse at condition curly statements else_at other_curly others) ≡ headed (g.Keyword k.If) (expression_roles condition free_place) ++ block (map statement_roles statements) ++ fixed else_word ++ block (map statement_roles others)
roles_IfElse at condition curly statements else_at other_curly others = ap statement_roles (sym (s.rolls-IfElse at condition curly statements else_at other_curly others)) ∙ statement_rolls (KStmt-F.IfElse at condition curly statements else_at other_curly others)

pub roles_IfElseIf : (at : KHeadAt) (condition : KExpr) (curly : Brackets) (statements : List KStmt) (else_at : Position) (other : KStmt) → statement_roles (s.IfElseIf at condition curly statements else_at other) ≡ headed (g.Keyword k.If) (expression_roles condition free_place) ++ block (map statement_roles statements) ++ fixed (g.Blank ∷ g.Keyword k.Else ∷ g.Blank ∷ []) ++ statement_roles other
roles_IfElseIf at condition curly statements else_at other = ap statement_roles (sym (s.rolls-IfElseIf at condition curly statements else_at other)) ∙ statement_rolls (KStmt-F.IfElseIf at condition curly statements else_at other)

pub roles_When : (at : KHeadAt) (subject : KExpr) (curly : Brackets) (branches : List KBranch) (else_at : KElseAt) (other_curly : Brackets) (others : List KStmt) → statement_roles (s.When at subject curly branches else_at other_curly others) ≡ headed (g.Keyword k.When) (expression_roles subject free_place) ++ fixed opened ++ lines (map branch_roles branches) ++ fixed else_line ++ block (map statement_roles others) ++ fixed closed
roles_When at subject curly branches else_at other_curly others = ap statement_roles (sym (s.rolls-When at subject curly branches else_at other_curly others)) ∙ statement_rolls (KStmt-F.When at subject curly branches else_at other_curly others)

pub roles_Break : (at : Position) (target : Option KTarget) → statement_roles (s.Break at target) ≡ fixed (g.Keyword k.Break ∷ []) ++ target_roles target
roles_Break at target = ap statement_roles (sym (s.rolls-Break at target)) ∙ statement_rolls (KStmt-F.Break at target)

pub roles_Continue : (at : Position) (target : Option KTarget) → statement_roles (s.Continue at target) ≡ fixed (g.Keyword k.Continue ∷ []) ++ target_roles target
roles_Continue at target = ap statement_roles (sym (s.rolls-Continue at target)) ∙ statement_rolls (KStmt-F.Continue at target)

pub roles_Return : (at : Position) (target : Option KTarget) → statement_roles (s.Return at target) ≡ fixed (g.Keyword k.Return ∷ []) ++ target_roles target
roles_Return at target = ap statement_roles (sym (s.rolls-Return at target)) ∙ statement_rolls (KStmt-F.Return at target)

pub roles_Give : (at : Position) (target : Option KTarget) (value : KExpr) → statement_roles (s.Give at target value) ≡ fixed (g.Keyword k.Return ∷ []) ++ target_roles target ++ fixed (g.Blank ∷ []) ++ expression_roles value free_place
roles_Give at target value = ap statement_roles (sym (s.rolls-Give at target value)) ∙ statement_rolls (KStmt-F.Give at target value)

pub roles_Throw : (at : Position) (value : KExpr) → statement_roles (s.Throw at value) ≡ fixed (g.Keyword k.Throw ∷ g.Blank ∷ []) ++ expression_roles value free_place
roles_Throw at value = ap statement_roles (sym (s.rolls-Throw at value)) ∙ statement_rolls (KStmt-F.Throw at value)

pub roles_Try : (at : Position) (curly : Brackets) (statements : List KStmt) (catches : List KCatch) → statement_roles (s.Try at curly statements catches) ≡ fixed (g.Keyword k.Try ∷ []) ++ block (map statement_roles statements) ++ joined (map catch_roles catches)
roles_Try at curly statements catches = ap statement_roles (sym (s.rolls-Try at curly statements catches)) ∙ statement_rolls (KStmt-F.Try at curly statements catches)

pub roles_TryFinally : (at : Position) (curly : Brackets) (statements : List KStmt) (catches : List KCatch) (last_at : KFinallyAt) (last : List KStmt) → statement_roles (s.TryFinally at curly statements catches last_at last) ≡ fixed (g.Keyword k.Try ∷ []) ++ block (map statement_roles statements) ++ joined (map catch_roles catches) ++ fixed (g.Blank ∷ g.Word w.Finally ∷ []) ++ block (map statement_roles last)
roles_TryFinally at curly statements catches last_at last = ap statement_roles (sym (s.rolls-TryFinally at curly statements catches last_at last)) ∙ statement_rolls (KStmt-F.TryFinally at curly statements catches last_at last)

pub roles_Synchronized : (at : KHeadAt) (lock : KExpr) (curly : Brackets) (statements : List KStmt) → statement_roles (s.Synchronized at lock curly statements) ≡ fixed (g.Word w.SynchronizedBlock ∷ []) ++ in_round (expression_roles lock free_place) ++ block (map statement_roles statements)
roles_Synchronized at lock curly statements = ap statement_roles (sym (s.rolls-Synchronized at lock curly statements)) ∙ statement_rolls (KStmt-F.Synchronized at lock curly statements)

pub ruleset statements = (roles_Commented, roles_Declared, roles_Local, roles_Expression, roles_Assign, roles_While, roles_DoWhile, roles_For, roles_ForRange, roles_If, roles_IfElse, roles_IfElseIf, roles_When, roles_Break, roles_Continue, roles_Return, roles_Give, roles_Throw, roles_Try, roles_TryFinally, roles_Synchronized)

pub member_Commented : (comments : List (List ℕ)) (member : KMember) → member_roles (mb.Commented comments member) ≡ comment_roles comments ++ member_roles member
member_Commented comments member = ap member_roles (sym (mb.rolls-Commented comments member)) ∙ member_rolls (KMember-F.Commented comments member)

pub member_Property : (modifiers : List KModifier) (declared : KDeclared) (value : Option KValue) (setter : Option KPrivateSet) → member_roles (mb.Property modifiers declared value setter) ≡ modifiers_roles modifiers ++ declared_roles declared ++ value_roles value ++ setter_roles setter
member_Property modifiers declared value setter = ap member_roles (sym (mb.rolls-Property modifiers declared value setter)) ∙ member_rolls (KMember-F.Property modifiers declared value setter)

pub member_Init : (at : Position) (body : KBlock) → member_roles (mb.Init at body) ≡ fixed (g.Word w.Init ∷ []) ++ block_roles body
member_Init at body = ap member_roles (sym (mb.rolls-Init at body)) ∙ member_rolls (KMember-F.Init at body)

pub member_Function : (modifiers : List KModifier) (at : Position) (x : KName) (params : KParams) (result : Option KTyped) (body : Option KBlock) → member_roles (mb.Function modifiers at x params result body) ≡ modifiers_roles modifiers ++ fixed (g.Keyword k.Fun ∷ g.Blank ∷ []) ++ name x.name ++ params_roles params ++ result_roles result ++ body_roles body
member_Function modifiers at x params result body = ap member_roles (sym (mb.rolls-Function modifiers at x params result body)) ∙ member_rolls (KMember-F.Function modifiers at x params result body)

pub member_Constructor : (modifiers : List KModifier) (at : Position) (params : KParams) (first : Option KDelegation) (body : KBlock) → member_roles (mb.Constructor modifiers at params first body) ≡ modifiers_roles modifiers ++ fixed (g.Word w.Constructor ∷ []) ++ params_roles params ++ delegation_roles first ++ block_roles body
member_Constructor modifiers at params first body = ap member_roles (sym (mb.rolls-Constructor modifiers at params first body)) ∙ member_rolls (KMember-F.Constructor modifiers at params first body)

pub member_Companion : (at : KCompanionAt) (members : List KMember) → member_roles (mb.Companion at members) ≡ fixed (g.Word w.Companion ∷ g.Blank ∷ g.Keyword k.Object ∷ []) ++ block (map member_roles members)
member_Companion at members = ap member_roles (sym (mb.rolls-Companion at members)) ∙ member_rolls (KMember-F.Companion at members)

pub ruleset members = (member_Commented, member_Property, member_Init, member_Function, member_Constructor, member_Companion)

pub type_Plain : (x : KQualified) (question : Option Position) (variable : Bool) → type_roles (ty.Plain x question variable) ≡ qualified_roles x ++ if_there question (g.Mark m.Question ∷ [])
type_Plain x question variable = ap type_roles (sym (ty.rolls-Plain x question variable)) ∙ type_rolls (KType-F.Plain x question variable)

pub type_Applied : (x : KQualified) (angles : Brackets) (arguments : List KType) (commas : List Position) (question : Option Position) → type_roles (ty.Applied x angles arguments commas question) ≡ qualified_roles x ++ in_angles (map type_roles arguments) ++ if_there question (g.Mark m.Question ∷ [])
type_Applied x angles arguments commas question = ap type_roles (sym (ty.rolls-Applied x angles arguments commas question)) ∙ type_rolls (KType-F.Applied x angles arguments commas question)

pub ruleset types = (type_Plain, type_Applied)

-- ---- parts

pub placed_map : (xs : List KExpr) → map (at_place list_place) (map expression_roles xs) ≡ map argument_roles xs
placed_map [] = refl
placed_map (x ∷ xs) = ap (λ z. argument_roles x ∷ z) (placed_map xs)

pub choice_is : (x : KChoice) → choice_roles x ≡ labels (map argument_roles (out-KChoice x).labels) ++ fixed (g.Blank ∷ []) ++ expression_roles (out-KChoice x).value free_place
unfolding expression_roles statement_roles choice_roles branch_roles catch_roles
choice_is x =
    fold_out-KChoice Placed Roles Roles Roles Roles expression_by statement_by choice_by branch_by catch_by x
    ∙ ap (λ z. labels z ++ fixed (g.Blank ∷ []) ++ expression_roles (out-KChoice x).value free_place) (placed_map (out-KChoice x).labels)

pub branch_is : (x : KBranch) → branch_roles x ≡ labels (map argument_roles (out-KBranch x).labels) ++ block (map statement_roles (out-KBranch x).statements)
unfolding expression_roles statement_roles choice_roles branch_roles catch_roles
branch_is x =
    fold_out-KBranch Placed Roles Roles Roles Roles expression_by statement_by choice_by branch_by catch_by x ∙ ap (λ z. labels z ++ block (map statement_roles (out-KBranch x).statements)) (placed_map (out-KBranch x).labels)

pub catch_is : (x : KCatch) → catch_roles x ≡ fixed (g.Blank ∷ []) ++ headed (g.Word w.Catch) (name (out-KCatch x).name.name ++ fixed has_type ++ type_roles (out-KCatch x).kind) ++ block (map statement_roles (out-KCatch x).statements)
unfolding expression_roles statement_roles choice_roles branch_roles catch_roles
catch_is x = fold_out-KCatch Placed Roles Roles Roles Roles expression_by statement_by choice_by branch_by catch_by x

-- ---- parentheses

looser_map : (p : Place) (x : KExpr-F KExpr KStmt KChoice KBranch KCatch) → is_looser_by p (map-KExpr KExpr KStmt KChoice KBranch KCatch Placed Roles Roles Roles Roles expression_roles statement_roles choice_roles branch_roles catch_roles x) ≡ is_looser_by p x
looser_map p (KExpr-F.This at) = refl
looser_map p _ = refl

mixes_map : (p : Place) (x : KExpr-F KExpr KStmt KChoice KBranch KCatch) → mixes_by p (map-KExpr KExpr KStmt KChoice KBranch KCatch Placed Roles Roles Roles Roles expression_roles statement_roles choice_roles branch_roles catch_roles x) ≡ mixes_by p x
mixes_map p (KExpr-F.This at) = refl
mixes_map p _ = refl

joins_map : (o : KPrefix) (x : KExpr-F KExpr KStmt KChoice KBranch KCatch) → joins_prefix_by o (map-KExpr KExpr KStmt KChoice KBranch KCatch Placed Roles Roles Roles Roles expression_roles statement_roles choice_roles branch_roles catch_roles x) ≡ joins_prefix_by o x
joins_map o (KExpr-F.This at) = refl
joins_map o _ = refl

is_map : (x : KExpr-F KExpr KStmt KChoice KBranch KCatch) → is_is_by (map-KExpr KExpr KStmt KChoice KBranch KCatch Placed Roles Roles Roles Roles expression_roles statement_roles choice_roles branch_roles catch_roles x) ≡ is_is_by x
is_map (KExpr-F.This at) = refl
is_map _ = refl

less_map : (x : KExpr-F KExpr KStmt KChoice KBranch KCatch) → compares_less_by (map-KExpr KExpr KStmt KChoice KBranch KCatch Placed Roles Roles Roles Roles expression_roles statement_roles choice_roles branch_roles catch_roles x) ≡ compares_less_by x
less_map (KExpr-F.This at) = refl
less_map _ = refl

clashes_map : (n : Neighbor) (x : KExpr-F KExpr KStmt KChoice KBranch KCatch) → clashes_by n (map-KExpr KExpr KStmt KChoice KBranch KCatch Placed Roles Roles Roles Roles expression_roles statement_roles choice_roles branch_roles catch_roles x) ≡ clashes_by n x
clashes_map beside.Other x = refl
clashes_map (beside.Prefix first) x = joins_map first x
clashes_map beside.Less x = is_map x
clashes_map beside.Greater x = less_map x

needs_map : (p : Place) (x : KExpr-F KExpr KStmt KChoice KBranch KCatch) → needs_by p (map-KExpr KExpr KStmt KChoice KBranch KCatch Placed Roles Roles Roles Roles expression_roles statement_roles choice_roles branch_roles catch_roles x) ≡ needs_by p x
needs_map p x =
    ap (λ z. z || mixes_by p (map-KExpr KExpr KStmt KChoice KBranch KCatch Placed Roles Roles Roles Roles expression_roles statement_roles choice_roles branch_roles catch_roles x) || clashes_by p.neighbor (map-KExpr KExpr KStmt KChoice KBranch KCatch Placed Roles Roles Roles Roles expression_roles statement_roles choice_roles branch_roles catch_roles x)) (looser_map p x)
    ∙ ap (λ z. is_looser_by p x || z || clashes_by p.neighbor (map-KExpr KExpr KStmt KChoice KBranch KCatch Placed Roles Roles Roles Roles expression_roles statement_roles choice_roles branch_roles catch_roles x)) (mixes_map p x)
    ∙ ap (λ z. is_looser_by p x || mixes_by p x || z) (clashes_map p.neighbor x)

clashes_is : (n : Neighbor) (x : KExpr) → clashes n x ≡ clashes_by n (out-KExpr x)
unfolding is_is compares_less joins_prefix
clashes_is beside.Other x = refl
clashes_is (beside.Prefix first) x = refl
clashes_is beside.Less x = refl
clashes_is beside.Greater x = refl

needs_is : (p : Place) (x : KExpr) → needs_parens p x ≡ needs_by p (out-KExpr x)
unfolding needs_parens is_looser is_as outer_level compares
needs_is p x = ap (λ z. is_looser_by p (out-KExpr x) || mixes_by p (out-KExpr x) || z) (clashes_is p.neighbor x)

pub expression_is : (x : KExpr) (p : Place) → expression_roles x p ≡ (if needs_parens p x then in_round (bare_roles free_place x) else bare_roles p x)
unfolding expression_roles statement_roles choice_roles branch_roles catch_roles bare_roles
expression_is x p =
    ap (λ (f : Placed). f p) (fold_out-KExpr Placed Roles Roles Roles Roles expression_by statement_by choice_by branch_by catch_by x)
    ∙ ap (λ z. if z then in_round (bare_by free_place (map-KExpr KExpr KStmt KChoice KBranch KCatch Placed Roles Roles Roles Roles expression_roles statement_roles choice_roles branch_roles catch_roles (out-KExpr x))) else bare_by p (map-KExpr KExpr KStmt KChoice KBranch KCatch Placed Roles Roles Roles Roles expression_roles statement_roles choice_roles branch_roles catch_roles (out-KExpr x))) (needs_map p (out-KExpr x) ∙ sym (needs_is p x))
