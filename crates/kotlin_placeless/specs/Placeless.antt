-- Trees and tokens with each of them at the place of what was made, and otherwise as they are.
use Rattle.std.specs.Prelude.{List, map}
use Rattle.std.specs.Option.{option_map}
use Rattle.kotlin_tree.specs.declared.places.Position.{Position}
use Rattle.kotlin_tree.specs.declared.places.Brackets.{Brackets}
use Rattle.kotlin_tree.specs.declared.types.KTypeArguments.{KTypeArguments}
use Rattle.kotlin_tree.specs.declared.expressions.KHeadAt.{KHeadAt}
use Rattle.kotlin_tree.specs.declared.expressions.KLambdaNames.{KLambdaNames}
use Rattle.kotlin_tree.specs.declared.statements.KDeclared.{KDeclared}
use Rattle.kotlin_tree.specs.declared.statements.KBlock.{KBlock}
use Rattle.kotlin_tree.specs.declared.members.KParam.{KParam}
use Rattle.kotlin_tree.specs.declared.members.KParams.{KParams}
use Rattle.kotlin_tree.specs.declared.members.KTyped.{KTyped}
use Rattle.kotlin_tree.specs.declared.members.KValue.{KValue}
use Rattle.kotlin_tree.specs.declared.members.KPrivateSet.{KPrivateSet}
use Rattle.kotlin_tree.specs.declared.members.KDelegation.{KDelegation}
use Rattle.kotlin_tree.specs.declared.files.KTypeParam.{KTypeParam}
use Rattle.kotlin_tree.specs.declared.files.KTypeParams.{KTypeParams}
use Rattle.kotlin_tree.specs.declared.files.KSuper.{KSuper}
use Rattle.kotlin_tree.specs.declared.files.KSupers.{KSupers}
use Rattle.kotlin_tree.specs.declared.files.KClass.{KClass}
use Rattle.kotlin_tree.specs.declared.files.KFile.{KFile}
use Rattle.kotlin_tree.specs.declared.tokens.KToken.{KToken}
use Rattle.kotlin_tree.specs.declared.types.KType.{KType, roll-KType, fold-KType}
use Rattle.kotlin_tree.specs.declared.types.KType.TheOpen.{KType-F}
use Rattle.kotlin_tree.specs.declared.expressions.KExpr.{KExpr, roll-KExpr, fold-KExpr}
use Rattle.kotlin_tree.specs.declared.expressions.KExpr.TheOpen.{KExpr-F, KStmt-F, KChoice-F, KBranch-F, KCatch-F}
use Rattle.kotlin_tree.specs.declared.expressions.KExpr.TheViews.{roll-KStmt}
use Rattle.kotlin_tree.specs.declared.expressions.KChoice.{KChoice, roll-KChoice, fold-KChoice}
use Rattle.kotlin_tree.specs.declared.statements.KStmt.{KStmt, fold-KStmt}
use Rattle.kotlin_tree.specs.declared.statements.KBranch.{KBranch, roll-KBranch, fold-KBranch}
use Rattle.kotlin_tree.specs.declared.statements.KCatch.{KCatch, roll-KCatch, fold-KCatch}
use Rattle.kotlin_tree.specs.declared.members.KMember.{KMember, roll-KMember, fold-KMember}
use Rattle.kotlin_tree.specs.declared.members.KMember.TheOpen.{KMember-F}
use Rattle.kotlin_tree.specs.UpToPlaces.{made, made_brackets, made_head, made_else, made_class, made_super, made_finally, made_companion, made_private_set, unplaced_name, unplaced_qualified, unplaced_label, unplaced_target, unplaced_modifier, unplaced_word, unplaced_package, unplaced_import}
use Rattle.kotlin_grammar.specs.declared.ahead.Letter.{Letter}
use Rattle.kotlin_grammar.specs.declared.built.ClassHead.{ClassHead}
use Rattle.kotlin_grammar.specs.declared.built.Built.{Built}
use Rattle.kotlin_grammar.specs.Reading.{Head}
use Rattle.kotlin_grammar.specs.Files.{Content}

abbrev pub at_made : Position → Position
at_made x = made

abbrev pub all_made : List Position → List Position
all_made xs = map at_made xs

abbrev pub brackets_made : Brackets → Brackets
brackets_made x = made_brackets

abbrev pub head_made : KHeadAt → KHeadAt
head_made x = made_head

-- ---- types

abbrev pub type_layer : KType-F KType → KType-F KType
type_layer (KType-F.Plain x question variable) = KType-F.Plain (unplaced_qualified x) (option_map at_made question) variable
type_layer (KType-F.Applied x angles arguments commas question) = KType-F.Applied (unplaced_qualified x) made_brackets arguments (all_made commas) (option_map at_made question)

abbrev pub type_by : KType-F KType → KType
type_by x = roll-KType (type_layer x)

unfoldable pub placeless_type : KType → KType
placeless_type = fold-KType KType type_by

abbrev pub placeless_arguments : KTypeArguments → KTypeArguments
placeless_arguments x = record { angles = made_brackets; items = map placeless_type x.items; commas = all_made x.commas }

-- ---- expressions and statements

abbrev pub placeless_names : KLambdaNames → KLambdaNames
placeless_names x = record { items = map unplaced_name x.items; commas = all_made x.commas; arrow = option_map at_made x.arrow }

abbrev pub placeless_declared : KDeclared → KDeclared
placeless_declared x = record { word = x.word; at = made; name = unplaced_name x.name; colon = made; kind = placeless_type x.kind }

abbrev pub expression_layer : KExpr-F KExpr KStmt KChoice KBranch KCatch → KExpr-F KExpr KStmt KChoice KBranch KCatch
expression_layer (KExpr-F.Literal x at) = KExpr-F.Literal x made
expression_layer (KExpr-F.Name x) = KExpr-F.Name (unplaced_name x)
expression_layer (KExpr-F.This at) = KExpr-F.This made
expression_layer (KExpr-F.Paren round inner) = KExpr-F.Paren made_brackets inner
expression_layer (KExpr-F.Call x types round arguments commas) = KExpr-F.Call (unplaced_name x) (option_map placeless_arguments types) made_brackets arguments (all_made commas)
expression_layer (KExpr-F.SuperCall at x round arguments commas) = KExpr-F.SuperCall made_super (unplaced_name x) made_brackets arguments (all_made commas)
expression_layer (KExpr-F.Field object dot x) = KExpr-F.Field object made (unplaced_name x)
expression_layer (KExpr-F.Method object dot x types round arguments commas) = KExpr-F.Method object made (unplaced_name x) (option_map placeless_arguments types) made_brackets arguments (all_made commas)
expression_layer (KExpr-F.Element array square index) = KExpr-F.Element array made_brackets index
expression_layer (KExpr-F.Postfix operand o at) = KExpr-F.Postfix operand o made
expression_layer (KExpr-F.Prefix o at operand) = KExpr-F.Prefix o made operand
expression_layer (KExpr-F.As value at kind) = KExpr-F.As value made (placeless_type kind)
expression_layer (KExpr-F.Is value at kind) = KExpr-F.Is value made (placeless_type kind)
expression_layer (KExpr-F.Binary left o at right) = KExpr-F.Binary left o made right
expression_layer (KExpr-F.IfValue at condition value else_at other) = KExpr-F.IfValue made_head condition value made other
expression_layer (KExpr-F.WhenValue at subject curly choices else_at other) = KExpr-F.WhenValue made_head subject made_brackets choices made_else other
expression_layer (KExpr-F.Lambda face curly names statements) = KExpr-F.Lambda (placeless_type face) made_brackets (placeless_names names) statements
expression_layer (KExpr-F.Run at curly statements) = KExpr-F.Run made made_brackets statements
expression_layer (KExpr-F.Class x at) = KExpr-F.Class (unplaced_qualified x) made_class

abbrev pub statement_layer : KStmt-F KExpr KStmt KChoice KBranch KCatch → KStmt-F KExpr KStmt KChoice KBranch KCatch
statement_layer (KStmt-F.Commented comments inner) = KStmt-F.Commented comments inner
statement_layer (KStmt-F.Declared x) = KStmt-F.Declared (placeless_declared x)
statement_layer (KStmt-F.Local x at value) = KStmt-F.Local (placeless_declared x) made value
statement_layer (KStmt-F.Expression x) = KStmt-F.Expression x
statement_layer (KStmt-F.Assign target at value) = KStmt-F.Assign target made value
statement_layer (KStmt-F.While label at condition curly statements) = KStmt-F.While (option_map unplaced_label label) made_head condition made_brackets statements
statement_layer (KStmt-F.DoWhile label do_at curly statements at condition) = KStmt-F.DoWhile (option_map unplaced_label label) made made_brackets statements made_head condition
statement_layer (KStmt-F.For label at x in_at values curly statements) = KStmt-F.For (option_map unplaced_label label) made_head (unplaced_name x) made values made_brackets statements
statement_layer (KStmt-F.ForRange label at x in_at first until_at end curly statements) = KStmt-F.ForRange (option_map unplaced_label label) made_head (unplaced_name x) made first made end made_brackets statements
statement_layer (KStmt-F.If at condition curly statements) = KStmt-F.If made_head condition made_brackets statements
statement_layer (KStmt-F.IfElse at condition curly statements else_at other_curly others) = KStmt-F.IfElse made_head condition made_brackets statements made made_brackets others
statement_layer (KStmt-F.IfElseIf at condition curly statements else_at other) = KStmt-F.IfElseIf made_head condition made_brackets statements made other
statement_layer (KStmt-F.When at subject curly branches else_at other_curly others) = KStmt-F.When made_head subject made_brackets branches made_else made_brackets others
statement_layer (KStmt-F.Break at target) = KStmt-F.Break made (option_map unplaced_target target)
statement_layer (KStmt-F.Continue at target) = KStmt-F.Continue made (option_map unplaced_target target)
statement_layer (KStmt-F.Return at target) = KStmt-F.Return made (option_map unplaced_target target)
statement_layer (KStmt-F.Give at target value) = KStmt-F.Give made (option_map unplaced_target target) value
statement_layer (KStmt-F.Throw at value) = KStmt-F.Throw made value
statement_layer (KStmt-F.Try at curly statements catches) = KStmt-F.Try made made_brackets statements catches
statement_layer (KStmt-F.TryFinally at curly statements catches last_at last) = KStmt-F.TryFinally made made_brackets statements catches made_finally last
statement_layer (KStmt-F.Synchronized at lock curly statements) = KStmt-F.Synchronized made_head lock made_brackets statements

abbrev pub expression_by : KExpr-F KExpr KStmt KChoice KBranch KCatch → KExpr
expression_by x = roll-KExpr (expression_layer x)

abbrev pub statement_by : KStmt-F KExpr KStmt KChoice KBranch KCatch → KStmt
statement_by x = roll-KStmt (statement_layer x)

abbrev pub choice_by : KChoice-F KExpr KStmt KChoice KBranch KCatch → KChoice
choice_by x = roll-KChoice (record { labels = x.labels; commas = all_made x.commas; arrow = made; value = x.value })

abbrev pub branch_by : KBranch-F KExpr KStmt KChoice KBranch KCatch → KBranch
branch_by x = roll-KBranch (record { labels = x.labels; commas = all_made x.commas; arrow = made; curly = made_brackets; statements = x.statements })

abbrev pub catch_by : KCatch-F KExpr KStmt KChoice KBranch KCatch → KCatch
catch_by x = roll-KCatch (record { at = made_head; name = unplaced_name x.name; colon = made; kind = placeless_type x.kind; curly = made_brackets; statements = x.statements })

unfoldable pub placeless_expression : KExpr → KExpr
placeless_expression = fold-KExpr KExpr KStmt KChoice KBranch KCatch expression_by statement_by choice_by branch_by catch_by

unfoldable pub placeless_statement : KStmt → KStmt
placeless_statement = fold-KStmt KExpr KStmt KChoice KBranch KCatch expression_by statement_by choice_by branch_by catch_by

unfoldable pub placeless_choice : KChoice → KChoice
placeless_choice = fold-KChoice KExpr KStmt KChoice KBranch KCatch expression_by statement_by choice_by branch_by catch_by

unfoldable pub placeless_branch : KBranch → KBranch
placeless_branch = fold-KBranch KExpr KStmt KChoice KBranch KCatch expression_by statement_by choice_by branch_by catch_by

unfoldable pub placeless_catch : KCatch → KCatch
placeless_catch = fold-KCatch KExpr KStmt KChoice KBranch KCatch expression_by statement_by choice_by branch_by catch_by

abbrev pub placeless_block : KBlock → KBlock
placeless_block x = record { curly = made_brackets; statements = map placeless_statement x.statements }

-- ---- members

abbrev pub placeless_param : KParam → KParam
placeless_param x = record { name = unplaced_name x.name; colon = made; kind = placeless_type x.kind }

abbrev pub placeless_params : KParams → KParams
placeless_params x = record { round = made_brackets; items = map placeless_param x.items; commas = all_made x.commas }

abbrev pub placeless_typed : KTyped → KTyped
placeless_typed x = record { colon = made; kind = placeless_type x.kind }

abbrev pub placeless_value : KValue → KValue
placeless_value x = record { at = made; tree = placeless_expression x.tree }

abbrev pub placeless_setter : KPrivateSet → KPrivateSet
placeless_setter x = made_private_set

abbrev pub placeless_delegation : KDelegation → KDelegation
placeless_delegation x = record { colon = made; called = x.called; at = made; round = made_brackets; arguments = map placeless_expression x.arguments; commas = all_made x.commas }

abbrev pub member_layer : KMember-F KMember → KMember-F KMember
member_layer (KMember-F.Commented comments inner) = KMember-F.Commented comments inner
member_layer (KMember-F.Property modifiers declared value setter) = KMember-F.Property (map unplaced_modifier modifiers) (placeless_declared declared) (option_map placeless_value value) (option_map placeless_setter setter)
member_layer (KMember-F.Init at body) = KMember-F.Init made (placeless_block body)
member_layer (KMember-F.Function modifiers at x params result body) = KMember-F.Function (map unplaced_modifier modifiers) made (unplaced_name x) (placeless_params params) (option_map placeless_typed result) (option_map placeless_block body)
member_layer (KMember-F.Constructor modifiers at params first body) = KMember-F.Constructor (map unplaced_modifier modifiers) made (placeless_params params) (option_map placeless_delegation first) (placeless_block body)
member_layer (KMember-F.Companion at members) = KMember-F.Companion made_companion members

abbrev pub member_by : KMember-F KMember → KMember
member_by x = roll-KMember (member_layer x)

unfoldable pub placeless_member : KMember → KMember
placeless_member = fold-KMember KMember member_by

-- ---- classes and files

abbrev pub placeless_type_param : KTypeParam → KTypeParam
placeless_type_param x = record { name = unplaced_name x.name; bound = option_map placeless_typed x.bound }

abbrev pub placeless_type_params : KTypeParams → KTypeParams
placeless_type_params x = record { angles = made_brackets; items = map placeless_type_param x.items; commas = all_made x.commas }

abbrev pub placeless_super : KSuper → KSuper
placeless_super x = record { kind = placeless_type x.kind; round = option_map brackets_made x.round }

abbrev pub placeless_supers : KSupers → KSupers
placeless_supers x = record { colon = made; items = map placeless_super x.items; commas = all_made x.commas }

abbrev pub placeless_class : KClass → KClass
placeless_class x = record {
  comments = x.comments;
  modifiers = map unplaced_modifier x.modifiers;
  word = unplaced_word x.word;
  at = made;
  name = unplaced_name x.name;
  params = option_map placeless_type_params x.params;
  supers = option_map placeless_supers x.supers;
  curly = made_brackets;
  members = map placeless_member x.members;
}

abbrev pub placeless_class_head : ClassHead → ClassHead
placeless_class_head x = record { word = unplaced_word x.word; at = made }

abbrev pub placeless_head : Head → Head
placeless_head x = record { package_line = option_map unplaced_package x.package_line; imports = map unplaced_import x.imports; first_class = option_map placeless_class x.first_class }

abbrev pub placeless_content : Content → Content
placeless_content x = record { head = placeless_head x.head; classes = map placeless_class x.classes }

-- a file, with each token of it at the place of what was made
unfoldable pub placeless_file : KFile → KFile
placeless_file x = record { path = x.path; «package» = option_map unplaced_package x.package; imports = map unplaced_import x.imports; classes = map placeless_class x.classes }

-- ---- tokens, and what is built of them

abbrev pub placeless_token : KToken → KToken
placeless_token t = record { kind = t.kind; gap = t.gap; position = made }

abbrev pub placeless_tokens : List KToken → List KToken
placeless_tokens ts = map placeless_token ts

abbrev pub placeless_letter : Letter → Letter
placeless_letter l = record { kind = l.kind; token = placeless_token l.token }

unfoldable pub placeless_built : Built → Built
placeless_built b = record { depths = b.depths; places = map at_made b.places; tokens = map placeless_token b.tokens; names = map unplaced_name b.names; comma_lists = map all_made b.comma_lists; qualifieds = map unplaced_qualified b.qualifieds; kinds = map placeless_type b.kinds; kind_lists = map (map placeless_type) b.kind_lists; argument_lists = map placeless_arguments b.argument_lists; exprs = map placeless_expression b.exprs; expr_lists = map (map placeless_expression) b.expr_lists; lambda_names = map placeless_names b.lambda_names; choices = map placeless_choice b.choices; choice_lists = map (map placeless_choice) b.choice_lists; branches = map placeless_branch b.branches; branch_lists = map (map placeless_branch) b.branch_lists; catches = map placeless_catch b.catches; catch_lists = map (map placeless_catch) b.catch_lists; blocks = map placeless_block b.blocks; statements = map placeless_statement b.statements; statement_lists = map (map placeless_statement) b.statement_lists; targets = map (option_map unplaced_target) b.targets; labels = map (option_map unplaced_label) b.labels; declared = map placeless_declared b.declared; values = map (option_map placeless_value) b.values; setters = map (option_map placeless_setter) b.setters; typed = map (option_map placeless_typed) b.typed; bodies = map (option_map placeless_block) b.bodies; param_lists = map (map placeless_param) b.param_lists; params = map placeless_params b.params; delegations = map (option_map placeless_delegation) b.delegations; modifier_lists = map (map unplaced_modifier) b.modifier_lists; members = map placeless_member b.members; member_lists = map (map placeless_member) b.member_lists; type_param_lists = map (map placeless_type_param) b.type_param_lists; type_params = map (option_map placeless_type_params) b.type_params; super_lists = map (map placeless_super) b.super_lists; supers = map (option_map placeless_supers) b.supers; class_words = map placeless_class_head b.class_words; packages = map (option_map unplaced_package) b.packages; import_lists = map (map unplaced_import) b.import_lists; classes = map placeless_class b.classes }
