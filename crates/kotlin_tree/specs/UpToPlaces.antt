-- Trees without their places: trees are equal up to places where these are equal.
use Rattle.std.specs.Prelude.{◌≡◌, ℕ, Bool, true, false, List, [], ◌∷◌, map, Option, Some, None}
use Rattle.std.specs.Option.{option_map}
use Rattle.kotlin_tree.specs.declared.places.Position.{Position}
use Rattle.kotlin_tree.specs.declared.places.Brackets.{Brackets}
use Rattle.kotlin_tree.specs.declared.types.KName.{KName}
use Rattle.kotlin_tree.specs.declared.types.KDotted.{KDotted}
use Rattle.kotlin_tree.specs.declared.types.KQualified.{KQualified}
use Rattle.kotlin_tree.specs.declared.types.KTypeArguments.{KTypeArguments}
use Rattle.kotlin_tree.specs.declared.expressions.KBinary.{KBinary}
use Rattle.kotlin_tree.specs.declared.expressions.KPrefix.{KPrefix}
use Rattle.kotlin_tree.specs.declared.expressions.KPostfix.{KPostfix}
use Rattle.kotlin_tree.specs.declared.expressions.KLiteral.{KLiteral}
use Rattle.kotlin_tree.specs.declared.expressions.KHeadAt.{KHeadAt}
use Rattle.kotlin_tree.specs.declared.expressions.KElseAt.{KElseAt}
use Rattle.kotlin_tree.specs.declared.expressions.KClassAt.{KClassAt}
use Rattle.kotlin_tree.specs.declared.expressions.KSuperAt.{KSuperAt}
use Rattle.kotlin_tree.specs.declared.expressions.KLambdaNames.{KLambdaNames}
use Rattle.kotlin_tree.specs.declared.statements.KVariability.{KVariability}
use Rattle.kotlin_tree.specs.declared.statements.KDeclared.{KDeclared}
use Rattle.kotlin_tree.specs.declared.statements.KLabel.{KLabel}
use Rattle.kotlin_tree.specs.declared.statements.KTarget.{KTarget}
use Rattle.kotlin_tree.specs.declared.statements.KFinallyAt.{KFinallyAt}
use Rattle.kotlin_tree.specs.declared.statements.KBlock.{KBlock}
use Rattle.kotlin_tree.specs.declared.members.KModifierKind.{KModifierKind}
use Rattle.kotlin_tree.specs.declared.members.KModifier.{KModifier}
use Rattle.kotlin_tree.specs.declared.members.KParam.{KParam}
use Rattle.kotlin_tree.specs.declared.members.KParams.{KParams}
use Rattle.kotlin_tree.specs.declared.members.KTyped.{KTyped}
use Rattle.kotlin_tree.specs.declared.members.KValue.{KValue}
use Rattle.kotlin_tree.specs.declared.members.KPrivateSet.{KPrivateSet}
use Rattle.kotlin_tree.specs.declared.members.KCalled.{KCalled}
use Rattle.kotlin_tree.specs.declared.members.KDelegation.{KDelegation}
use Rattle.kotlin_tree.specs.declared.members.KCompanionAt.{KCompanionAt}
use Rattle.kotlin_tree.specs.declared.files.KTypeParam.{KTypeParam}
use Rattle.kotlin_tree.specs.declared.files.KTypeParams.{KTypeParams}
use Rattle.kotlin_tree.specs.declared.files.KSuper.{KSuper}
use Rattle.kotlin_tree.specs.declared.files.KSupers.{KSupers}
use Rattle.kotlin_tree.specs.declared.files.KClassWord.{KClassWord}
use Rattle.kotlin_tree.specs.declared.files.KClass.{KClass}
use Rattle.kotlin_tree.specs.declared.files.KPackage.{KPackage}
use Rattle.kotlin_tree.specs.declared.files.KImport.{KImport}
use Rattle.kotlin_tree.specs.declared.files.KFile.{KFile}
use Rattle.kotlin_tree.specs.declared.members.KModifierKind.TheVariants as modifier
use Rattle.kotlin_tree.specs.declared.files.KClassWord.TheVariants as word
use Rattle.kotlin_tree.specs.declared.types.KType.{KType, fold-KType}
use Rattle.kotlin_tree.specs.declared.types.KType.TheOpen.{KType-F}
use Rattle.kotlin_tree.specs.declared.types.KType.TheVariants as ty
use Rattle.kotlin_tree.specs.declared.expressions.KExpr.{KExpr, fold-KExpr}
use Rattle.kotlin_tree.specs.declared.expressions.KExpr.TheOpen.{KExpr-F, KStmt-F, KChoice-F, KBranch-F, KCatch-F}
use Rattle.kotlin_tree.specs.declared.expressions.KExpr.TheVariants as e
use Rattle.kotlin_tree.specs.declared.expressions.KChoice.{KChoice, roll-KChoice}
use Rattle.kotlin_tree.specs.declared.statements.KStmt.{KStmt, fold-KStmt}
use Rattle.kotlin_tree.specs.declared.statements.KStmt.TheVariants as s
use Rattle.kotlin_tree.specs.declared.statements.KBranch.{KBranch, roll-KBranch}
use Rattle.kotlin_tree.specs.declared.statements.KCatch.{KCatch, roll-KCatch}
use Rattle.kotlin_tree.specs.declared.members.KMember.{KMember, fold-KMember}
use Rattle.kotlin_tree.specs.declared.members.KMember.TheOpen.{KMember-F}
use Rattle.kotlin_tree.specs.declared.members.KMember.TheVariants as mb

-- ---- the place of what was made

abbrev pub made : Position
made = record { offset = 0; line = 1; column = 1 }

abbrev pub made_brackets : Brackets
made_brackets = record { opens = made; closes = made }

abbrev pub made_head : KHeadAt
made_head = record { word = made; round = made_brackets }

abbrev pub made_else : KElseAt
made_else = record { word = made; arrow = made }

abbrev pub made_class : KClassAt
made_class = record { colons = made; word = made; dot = made; java = made }

abbrev pub made_super : KSuperAt
made_super = record { word = made; dot = made }

abbrev pub made_finally : KFinallyAt
made_finally = record { word = made; curly = made_brackets }

abbrev pub made_companion : KCompanionAt
made_companion = record { companion = made; object = made; curly = made_brackets }

abbrev pub made_private_set : KPrivateSet
made_private_set = record { private = made; set = made }

-- ---- names and types: whether a type is a type variable is left out too

abbrev pub unplaced_name : KName → KName
unplaced_name x = record { name = x.name; at = made }

abbrev pub unplaced_dotted : KDotted → KDotted
unplaced_dotted x = record { dot = made; name = unplaced_name x.name }

abbrev pub unplaced_qualified : KQualified → KQualified
unplaced_qualified x = record { first = unplaced_name x.first; rest = map unplaced_dotted x.rest }

abbrev pub unplaced_type_by : KType-F KType → KType
unplaced_type_by (KType-F.Plain x question variable) = ty.Plain (unplaced_qualified x) (option_map (λ (x : Position). made) question) false
unplaced_type_by (KType-F.Applied x angles arguments commas question) = ty.Applied (unplaced_qualified x) made_brackets arguments [] (option_map (λ (x : Position). made) question)

unfoldable pub unplaced_type : KType → KType
unplaced_type = fold-KType KType unplaced_type_by

abbrev pub unplaced_arguments : KTypeArguments → KTypeArguments
unplaced_arguments x = record { angles = made_brackets; items = map unplaced_type x.items; commas = [] }

-- ---- expressions and statements: comments are left out too

abbrev pub unplaced_lambda_names : KLambdaNames → KLambdaNames
unplaced_lambda_names x = record { items = map unplaced_name x.items; commas = []; arrow = None }

abbrev pub unplaced_declared : KDeclared → KDeclared
unplaced_declared x = record { word = x.word; at = made; name = unplaced_name x.name; colon = made; kind = unplaced_type x.kind }

abbrev pub unplaced_label : KLabel → KLabel
unplaced_label x = record { name = unplaced_name x.name; at = made }

abbrev pub unplaced_target : KTarget → KTarget
unplaced_target x = record { at = made; name = unplaced_name x.name }

abbrev pub unplaced_expression_by : KExpr-F KExpr KStmt KChoice KBranch KCatch → KExpr
unplaced_expression_by (KExpr-F.Literal x at) = e.Literal x made
unplaced_expression_by (KExpr-F.Name x) = e.Name (unplaced_name x)
unplaced_expression_by (KExpr-F.This at) = e.This made
unplaced_expression_by (KExpr-F.Paren round inner) = e.Paren made_brackets inner
unplaced_expression_by (KExpr-F.Call x types round arguments commas) = e.Call (unplaced_name x) (option_map unplaced_arguments types) made_brackets arguments []
unplaced_expression_by (KExpr-F.SuperCall at x round arguments commas) = e.SuperCall made_super (unplaced_name x) made_brackets arguments []
unplaced_expression_by (KExpr-F.Field object dot x) = e.Field object made (unplaced_name x)
unplaced_expression_by (KExpr-F.Method object dot x types round arguments commas) = e.Method object made (unplaced_name x) (option_map unplaced_arguments types) made_brackets arguments []
unplaced_expression_by (KExpr-F.Element array square index) = e.Element array made_brackets index
unplaced_expression_by (KExpr-F.Postfix operand o at) = e.Postfix operand o made
unplaced_expression_by (KExpr-F.Prefix o at operand) = e.Prefix o made operand
unplaced_expression_by (KExpr-F.As value at kind) = e.As value made (unplaced_type kind)
unplaced_expression_by (KExpr-F.Is value at kind) = e.Is value made (unplaced_type kind)
unplaced_expression_by (KExpr-F.Binary left o at right) = e.Binary left o made right
unplaced_expression_by (KExpr-F.IfValue at condition value else_at other) = e.IfValue made_head condition value made other
unplaced_expression_by (KExpr-F.WhenValue at subject curly choices else_at other) = e.WhenValue made_head subject made_brackets choices made_else other
unplaced_expression_by (KExpr-F.Lambda face curly names statements) = e.Lambda (unplaced_type face) made_brackets (unplaced_lambda_names names) statements
unplaced_expression_by (KExpr-F.Run at curly statements) = e.Run made made_brackets statements
unplaced_expression_by (KExpr-F.Class x at) = e.Class (unplaced_qualified x) made_class

abbrev pub unplaced_statement_by : KStmt-F KExpr KStmt KChoice KBranch KCatch → KStmt
unplaced_statement_by (KStmt-F.Commented comments statement) = statement
unplaced_statement_by (KStmt-F.Declared x) = s.Declared (unplaced_declared x)
unplaced_statement_by (KStmt-F.Local x at value) = s.Local (unplaced_declared x) made value
unplaced_statement_by (KStmt-F.Expression x) = s.Expression x
unplaced_statement_by (KStmt-F.Assign target at value) = s.Assign target made value
unplaced_statement_by (KStmt-F.While label at condition curly statements) = s.While (option_map unplaced_label label) made_head condition made_brackets statements
unplaced_statement_by (KStmt-F.DoWhile label do_at curly statements at condition) = s.DoWhile (option_map unplaced_label label) made made_brackets statements made_head condition
unplaced_statement_by (KStmt-F.For label at x in_at values curly statements) = s.For (option_map unplaced_label label) made_head (unplaced_name x) made values made_brackets statements
unplaced_statement_by (KStmt-F.ForRange label at x in_at first until_at end curly statements) = s.ForRange (option_map unplaced_label label) made_head (unplaced_name x) made first made end made_brackets statements
unplaced_statement_by (KStmt-F.If at condition curly statements) = s.If made_head condition made_brackets statements
unplaced_statement_by (KStmt-F.IfElse at condition curly statements else_at other_curly others) = s.IfElse made_head condition made_brackets statements made made_brackets others
unplaced_statement_by (KStmt-F.IfElseIf at condition curly statements else_at other) = s.IfElseIf made_head condition made_brackets statements made other
unplaced_statement_by (KStmt-F.When at subject curly branches else_at other_curly others) = s.When made_head subject made_brackets branches made_else made_brackets others
unplaced_statement_by (KStmt-F.Break at target) = s.Break made (option_map unplaced_target target)
unplaced_statement_by (KStmt-F.Continue at target) = s.Continue made (option_map unplaced_target target)
unplaced_statement_by (KStmt-F.Return at target) = s.Return made (option_map unplaced_target target)
unplaced_statement_by (KStmt-F.Give at target value) = s.Give made (option_map unplaced_target target) value
unplaced_statement_by (KStmt-F.Throw at value) = s.Throw made value
unplaced_statement_by (KStmt-F.Try at curly statements catches) = s.Try made made_brackets statements catches
unplaced_statement_by (KStmt-F.TryFinally at curly statements catches last_at last) = s.TryFinally made made_brackets statements catches made_finally last
unplaced_statement_by (KStmt-F.Synchronized at lock curly statements) = s.Synchronized made_head lock made_brackets statements

abbrev pub unplaced_choice_by : KChoice-F KExpr KStmt KChoice KBranch KCatch → KChoice
unplaced_choice_by x = roll-KChoice (record { labels = x.labels; commas = []; arrow = made; value = x.value })

abbrev pub unplaced_branch_by : KBranch-F KExpr KStmt KChoice KBranch KCatch → KBranch
unplaced_branch_by x = roll-KBranch (record { labels = x.labels; commas = []; arrow = made; curly = made_brackets; statements = x.statements })

abbrev pub unplaced_catch_by : KCatch-F KExpr KStmt KChoice KBranch KCatch → KCatch
unplaced_catch_by x =
    roll-KCatch (record { at = made_head; name = unplaced_name x.name; colon = made; kind = unplaced_type x.kind; curly = made_brackets; statements = x.statements })

unfoldable pub unplaced_expression : KExpr → KExpr
unplaced_expression =
    fold-KExpr KExpr KStmt KChoice KBranch KCatch unplaced_expression_by unplaced_statement_by unplaced_choice_by unplaced_branch_by unplaced_catch_by

unfoldable pub unplaced_statement : KStmt → KStmt
unplaced_statement =
    fold-KStmt KExpr KStmt KChoice KBranch KCatch unplaced_expression_by unplaced_statement_by unplaced_choice_by unplaced_branch_by unplaced_catch_by

abbrev pub unplaced_block : KBlock → KBlock
unplaced_block x = record { curly = made_brackets; statements = map unplaced_statement x.statements }

-- ---- members

abbrev pub unplaced_modifier_kind : KModifierKind → KModifierKind
unplaced_modifier_kind (modifier.JvmStatic at) = modifier.JvmStatic made
unplaced_modifier_kind (modifier.JvmField at) = modifier.JvmField made
unplaced_modifier_kind (modifier.Synchronized at) = modifier.Synchronized made
unplaced_modifier_kind (modifier.Volatile at) = modifier.Volatile made
unplaced_modifier_kind kind = kind

abbrev pub unplaced_modifier : KModifier → KModifier
unplaced_modifier x = record { kind = unplaced_modifier_kind x.kind; at = made }

abbrev pub unplaced_param : KParam → KParam
unplaced_param x = record { name = unplaced_name x.name; colon = made; kind = unplaced_type x.kind }

abbrev pub unplaced_params : KParams → KParams
unplaced_params x = record { round = made_brackets; items = map unplaced_param x.items; commas = [] }

abbrev pub unplaced_typed : KTyped → KTyped
unplaced_typed x = record { colon = made; kind = unplaced_type x.kind }

abbrev pub unplaced_value : KValue → KValue
unplaced_value x = record { at = made; tree = unplaced_expression x.tree }

abbrev pub unplaced_delegation : KDelegation → KDelegation
unplaced_delegation x =
    record { colon = made; called = x.called; at = made; round = made_brackets; arguments = map unplaced_expression x.arguments; commas = [] }

abbrev pub unplaced_member_by : KMember-F KMember → KMember
unplaced_member_by (KMember-F.Commented comments member) = member
unplaced_member_by (KMember-F.Property modifiers declared value setter) = mb.Property (map unplaced_modifier modifiers) (unplaced_declared declared) (option_map unplaced_value value) (option_map (λ (x : KPrivateSet). made_private_set) setter)
unplaced_member_by (KMember-F.Init at body) = mb.Init made (unplaced_block body)
unplaced_member_by (KMember-F.Function modifiers at x params result body) = mb.Function (map unplaced_modifier modifiers) made (unplaced_name x) (unplaced_params params) (option_map unplaced_typed result) (option_map unplaced_block body)
unplaced_member_by (KMember-F.Constructor modifiers at params first body) = mb.Constructor (map unplaced_modifier modifiers) made (unplaced_params params) (option_map unplaced_delegation first) (unplaced_block body)
unplaced_member_by (KMember-F.Companion at members) = mb.Companion made_companion members

unfoldable pub unplaced_member : KMember → KMember
unplaced_member = fold-KMember KMember unplaced_member_by

-- ---- classes and files

abbrev pub unplaced_type_param : KTypeParam → KTypeParam
unplaced_type_param x = record { name = unplaced_name x.name; bound = option_map unplaced_typed x.bound }

abbrev pub unplaced_type_params : KTypeParams → KTypeParams
unplaced_type_params x = record { angles = made_brackets; items = map unplaced_type_param x.items; commas = [] }

abbrev pub unplaced_super : KSuper → KSuper
unplaced_super x = record { kind = unplaced_type x.kind; round = option_map (λ (y : Brackets). made_brackets) x.round }

abbrev pub unplaced_supers : KSupers → KSupers
unplaced_supers x = record { colon = made; items = map unplaced_super x.items; commas = [] }

abbrev pub unplaced_word : KClassWord → KClassWord
unplaced_word word.Class = word.Class
unplaced_word word.Interface = word.Interface
unplaced_word (word.FunClass at) = word.FunClass made
unplaced_word (word.FunInterface at) = word.FunInterface made

abbrev pub unplaced_class : KClass → KClass
unplaced_class x = record {
  comments = [];
  modifiers = map unplaced_modifier x.modifiers;
  word = unplaced_word x.word;
  at = made;
  name = unplaced_name x.name;
  params = option_map unplaced_type_params x.params;
  supers = option_map unplaced_supers x.supers;
  curly = made_brackets;
  members = map unplaced_member x.members;
}

abbrev pub unplaced_package : KPackage → KPackage
unplaced_package x = record { at = made; name = unplaced_qualified x.name }

abbrev pub unplaced_import : KImport → KImport
unplaced_import x = record { at = made; name = unplaced_qualified x.name }

unfoldable pub unplaced_file : KFile → KFile
unplaced_file x = record {
  path = x.path;
  «package» = option_map unplaced_package x.package;
  imports = map unplaced_import x.imports;
  classes = map unplaced_class x.classes;
}

-- The files are equal but for their places, comments and what is told of type variables.
abbrev pub SameUpToPlaces : KFile → KFile → Type 0
SameUpToPlaces x y = unplaced_file x ≡ unplaced_file y
