-- The last part of each type, and one more.
use Rattle.std.specs.Prelude.{ℕ, Bool, true, false, if◌then◌else◌, List, [], ◌∷◌, Option, Some, None}
use Rattle.grammar.specs.Machine.{◌>>=◌}
use Rattle.kotlin_tree.specs.declared.places.Brackets.{Brackets}
use Rattle.kotlin_tree.specs.declared.statements.KBlock.{KBlock}
use Rattle.kotlin_tree.specs.declared.statements.KBranch.{KBranch}
use Rattle.kotlin_tree.specs.declared.statements.KCatch.{KCatch}
use Rattle.kotlin_tree.specs.declared.expressions.KChoice.{KChoice}
use Rattle.kotlin_tree.specs.declared.files.KClass.{KClass}
use Rattle.kotlin_tree.specs.declared.statements.KDeclared.{KDeclared}
use Rattle.kotlin_tree.specs.declared.members.KDelegation.{KDelegation}
use Rattle.kotlin_tree.specs.declared.expressions.KExpr.{KExpr}
use Rattle.kotlin_tree.specs.declared.expressions.KHeadAt.{KHeadAt}
use Rattle.kotlin_tree.specs.declared.files.KImport.{KImport}
use Rattle.kotlin_tree.specs.declared.statements.KLabel.{KLabel}
use Rattle.kotlin_tree.specs.declared.expressions.KLambdaNames.{KLambdaNames}
use Rattle.kotlin_tree.specs.declared.members.KMember.{KMember}
use Rattle.kotlin_tree.specs.declared.members.KModifier.{KModifier}
use Rattle.kotlin_tree.specs.declared.types.KName.{KName}
use Rattle.kotlin_tree.specs.declared.files.KPackage.{KPackage}
use Rattle.kotlin_tree.specs.declared.members.KParam.{KParam}
use Rattle.kotlin_tree.specs.declared.members.KParams.{KParams}
use Rattle.kotlin_tree.specs.declared.members.KPrivateSet.{KPrivateSet}
use Rattle.kotlin_tree.specs.declared.types.KQualified.{KQualified}
use Rattle.kotlin_tree.specs.declared.statements.KStmt.{KStmt}
use Rattle.kotlin_tree.specs.declared.files.KSuper.{KSuper}
use Rattle.kotlin_tree.specs.declared.files.KSupers.{KSupers}
use Rattle.kotlin_tree.specs.declared.statements.KTarget.{KTarget}
use Rattle.kotlin_tree.specs.declared.tokens.KToken.{KToken}
use Rattle.kotlin_tree.specs.declared.types.KType.{KType}
use Rattle.kotlin_tree.specs.declared.types.KTypeArguments.{KTypeArguments}
use Rattle.kotlin_tree.specs.declared.files.KTypeParam.{KTypeParam}
use Rattle.kotlin_tree.specs.declared.files.KTypeParams.{KTypeParams}
use Rattle.kotlin_tree.specs.declared.members.KTyped.{KTyped}
use Rattle.kotlin_tree.specs.declared.members.KValue.{KValue}
use Rattle.kotlin_tree.specs.declared.places.Position.{Position}
use Rattle.kotlin_grammar.specs.declared.built.Built.{Built}
use Rattle.kotlin_grammar.specs.declared.built.ClassHead.{ClassHead}

abbrev pub last : {A : Type 0} → List A → (List A → Built) → Option (A × Built)
last [] f = None
last (x ∷ xs) f = Some (x, f xs)

unfoldable pub last_place : Built → Option (Position × Built)
last_place b = last b.places (λ xs. record b { places = xs })

unfoldable pub with_place : Position → Built → Built
with_place x b = record b { places = x ∷ b.places }

unfoldable pub last_token : Built → Option (KToken × Built)
last_token b = last b.tokens (λ xs. record b { tokens = xs })

unfoldable pub with_token : KToken → Built → Built
with_token x b = record b { tokens = x ∷ b.tokens }

unfoldable pub last_name : Built → Option (KName × Built)
last_name b = last b.names (λ xs. record b { names = xs })

unfoldable pub with_name : KName → Built → Built
with_name x b = record b { names = x ∷ b.names }

unfoldable pub last_commas : Built → Option ((List Position) × Built)
last_commas b = last b.comma_lists (λ xs. record b { comma_lists = xs })

unfoldable pub with_commas : List Position → Built → Built
with_commas x b = record b { comma_lists = x ∷ b.comma_lists }

unfoldable pub last_qualified : Built → Option (KQualified × Built)
last_qualified b = last b.qualifieds (λ xs. record b { qualifieds = xs })

unfoldable pub with_qualified : KQualified → Built → Built
with_qualified x b = record b { qualifieds = x ∷ b.qualifieds }

unfoldable pub last_kind : Built → Option (KType × Built)
last_kind b = last b.kinds (λ xs. record b { kinds = xs })

unfoldable pub with_kind : KType → Built → Built
with_kind x b = record b { kinds = x ∷ b.kinds }

unfoldable pub last_kinds : Built → Option ((List KType) × Built)
last_kinds b = last b.kind_lists (λ xs. record b { kind_lists = xs })

unfoldable pub with_kinds : List KType → Built → Built
with_kinds x b = record b { kind_lists = x ∷ b.kind_lists }

unfoldable pub last_arguments : Built → Option (KTypeArguments × Built)
last_arguments b = last b.argument_lists (λ xs. record b { argument_lists = xs })

unfoldable pub with_arguments : KTypeArguments → Built → Built
with_arguments x b = record b { argument_lists = x ∷ b.argument_lists }

unfoldable pub last_expr : Built → Option (KExpr × Built)
last_expr b = last b.exprs (λ xs. record b { exprs = xs })

unfoldable pub with_expr : KExpr → Built → Built
with_expr x b = record b { exprs = x ∷ b.exprs }

unfoldable pub last_exprs : Built → Option ((List KExpr) × Built)
last_exprs b = last b.expr_lists (λ xs. record b { expr_lists = xs })

unfoldable pub with_exprs : List KExpr → Built → Built
with_exprs x b = record b { expr_lists = x ∷ b.expr_lists }

unfoldable pub last_lambda_names : Built → Option (KLambdaNames × Built)
last_lambda_names b = last b.lambda_names (λ xs. record b { lambda_names = xs })

unfoldable pub with_lambda_names : KLambdaNames → Built → Built
with_lambda_names x b = record b { lambda_names = x ∷ b.lambda_names }

unfoldable pub last_choice : Built → Option (KChoice × Built)
last_choice b = last b.choices (λ xs. record b { choices = xs })

unfoldable pub with_choice : KChoice → Built → Built
with_choice x b = record b { choices = x ∷ b.choices }

unfoldable pub last_choices : Built → Option ((List KChoice) × Built)
last_choices b = last b.choice_lists (λ xs. record b { choice_lists = xs })

unfoldable pub with_choices : List KChoice → Built → Built
with_choices x b = record b { choice_lists = x ∷ b.choice_lists }

unfoldable pub last_branch : Built → Option (KBranch × Built)
last_branch b = last b.branches (λ xs. record b { branches = xs })

unfoldable pub with_branch : KBranch → Built → Built
with_branch x b = record b { branches = x ∷ b.branches }

unfoldable pub last_branches : Built → Option ((List KBranch) × Built)
last_branches b = last b.branch_lists (λ xs. record b { branch_lists = xs })

unfoldable pub with_branches : List KBranch → Built → Built
with_branches x b = record b { branch_lists = x ∷ b.branch_lists }

unfoldable pub last_catch : Built → Option (KCatch × Built)
last_catch b = last b.catches (λ xs. record b { catches = xs })

unfoldable pub with_catch : KCatch → Built → Built
with_catch x b = record b { catches = x ∷ b.catches }

unfoldable pub last_catches : Built → Option ((List KCatch) × Built)
last_catches b = last b.catch_lists (λ xs. record b { catch_lists = xs })

unfoldable pub with_catches : List KCatch → Built → Built
with_catches x b = record b { catch_lists = x ∷ b.catch_lists }

unfoldable pub last_block : Built → Option (KBlock × Built)
last_block b = last b.blocks (λ xs. record b { blocks = xs })

unfoldable pub with_block : KBlock → Built → Built
with_block x b = record b { blocks = x ∷ b.blocks }

unfoldable pub last_statement : Built → Option (KStmt × Built)
last_statement b = last b.statements (λ xs. record b { statements = xs })

unfoldable pub with_statement : KStmt → Built → Built
with_statement x b = record b { statements = x ∷ b.statements }

unfoldable pub last_statements : Built → Option ((List KStmt) × Built)
last_statements b = last b.statement_lists (λ xs. record b { statement_lists = xs })

unfoldable pub with_statements : List KStmt → Built → Built
with_statements x b = record b { statement_lists = x ∷ b.statement_lists }

unfoldable pub last_target : Built → Option ((Option KTarget) × Built)
last_target b = last b.targets (λ xs. record b { targets = xs })

unfoldable pub with_target : Option KTarget → Built → Built
with_target x b = record b { targets = x ∷ b.targets }

unfoldable pub last_label : Built → Option ((Option KLabel) × Built)
last_label b = last b.labels (λ xs. record b { labels = xs })

unfoldable pub with_label : Option KLabel → Built → Built
with_label x b = record b { labels = x ∷ b.labels }

unfoldable pub last_declared : Built → Option (KDeclared × Built)
last_declared b = last b.declared (λ xs. record b { declared = xs })

unfoldable pub with_declared : KDeclared → Built → Built
with_declared x b = record b { declared = x ∷ b.declared }

unfoldable pub last_value : Built → Option ((Option KValue) × Built)
last_value b = last b.values (λ xs. record b { values = xs })

unfoldable pub with_value : Option KValue → Built → Built
with_value x b = record b { values = x ∷ b.values }

unfoldable pub last_setter : Built → Option ((Option KPrivateSet) × Built)
last_setter b = last b.setters (λ xs. record b { setters = xs })

unfoldable pub with_setter : Option KPrivateSet → Built → Built
with_setter x b = record b { setters = x ∷ b.setters }

unfoldable pub last_typed : Built → Option ((Option KTyped) × Built)
last_typed b = last b.typed (λ xs. record b { typed = xs })

unfoldable pub with_typed : Option KTyped → Built → Built
with_typed x b = record b { typed = x ∷ b.typed }

unfoldable pub last_body : Built → Option ((Option KBlock) × Built)
last_body b = last b.bodies (λ xs. record b { bodies = xs })

unfoldable pub with_body : Option KBlock → Built → Built
with_body x b = record b { bodies = x ∷ b.bodies }

unfoldable pub last_param_list : Built → Option ((List KParam) × Built)
last_param_list b = last b.param_lists (λ xs. record b { param_lists = xs })

unfoldable pub with_param_list : List KParam → Built → Built
with_param_list x b = record b { param_lists = x ∷ b.param_lists }

unfoldable pub last_params : Built → Option (KParams × Built)
last_params b = last b.params (λ xs. record b { params = xs })

unfoldable pub with_params : KParams → Built → Built
with_params x b = record b { params = x ∷ b.params }

unfoldable pub last_delegation : Built → Option ((Option KDelegation) × Built)
last_delegation b = last b.delegations (λ xs. record b { delegations = xs })

unfoldable pub with_delegation : Option KDelegation → Built → Built
with_delegation x b = record b { delegations = x ∷ b.delegations }

unfoldable pub last_modifiers : Built → Option ((List KModifier) × Built)
last_modifiers b = last b.modifier_lists (λ xs. record b { modifier_lists = xs })

unfoldable pub with_modifiers : List KModifier → Built → Built
with_modifiers x b = record b { modifier_lists = x ∷ b.modifier_lists }

unfoldable pub last_member : Built → Option (KMember × Built)
last_member b = last b.members (λ xs. record b { members = xs })

unfoldable pub with_member : KMember → Built → Built
with_member x b = record b { members = x ∷ b.members }

unfoldable pub last_members : Built → Option ((List KMember) × Built)
last_members b = last b.member_lists (λ xs. record b { member_lists = xs })

unfoldable pub with_members : List KMember → Built → Built
with_members x b = record b { member_lists = x ∷ b.member_lists }

unfoldable pub last_type_param_list : Built → Option ((List KTypeParam) × Built)
last_type_param_list b = last b.type_param_lists (λ xs. record b { type_param_lists = xs })

unfoldable pub with_type_param_list : List KTypeParam → Built → Built
with_type_param_list x b = record b { type_param_lists = x ∷ b.type_param_lists }

unfoldable pub last_type_params : Built → Option ((Option KTypeParams) × Built)
last_type_params b = last b.type_params (λ xs. record b { type_params = xs })

unfoldable pub with_type_params : Option KTypeParams → Built → Built
with_type_params x b = record b { type_params = x ∷ b.type_params }

unfoldable pub last_super_list : Built → Option ((List KSuper) × Built)
last_super_list b = last b.super_lists (λ xs. record b { super_lists = xs })

unfoldable pub with_super_list : List KSuper → Built → Built
with_super_list x b = record b { super_lists = x ∷ b.super_lists }

unfoldable pub last_supers : Built → Option ((Option KSupers) × Built)
last_supers b = last b.supers (λ xs. record b { supers = xs })

unfoldable pub with_supers : Option KSupers → Built → Built
with_supers x b = record b { supers = x ∷ b.supers }

unfoldable pub last_class_word : Built → Option (ClassHead × Built)
last_class_word b = last b.class_words (λ xs. record b { class_words = xs })

unfoldable pub with_class_word : ClassHead → Built → Built
with_class_word x b = record b { class_words = x ∷ b.class_words }

unfoldable pub last_package : Built → Option ((Option KPackage) × Built)
last_package b = last b.packages (λ xs. record b { packages = xs })

unfoldable pub with_package : Option KPackage → Built → Built
with_package x b = record b { packages = x ∷ b.packages }

unfoldable pub last_imports : Built → Option ((List KImport) × Built)
last_imports b = last b.import_lists (λ xs. record b { import_lists = xs })

unfoldable pub with_imports : List KImport → Built → Built
with_imports x b = record b { import_lists = x ∷ b.import_lists }

unfoldable pub last_class : Built → Option (KClass × Built)
last_class b = last b.classes (λ xs. record b { classes = xs })

unfoldable pub with_class : KClass → Built → Built
with_class x b = record b { classes = x ∷ b.classes }

-- an opening and a closing bracket
abbrev pub last_brackets : Built → Option (Brackets × Built)
last_brackets b = do
  closes ← last_place b
  opens ← last_place closes.1
  Some (record { opens = opens.0; closes = closes.0 }, opens.1)

-- a word, `(` and `)`
abbrev pub last_head : Built → Option (KHeadAt × Built)
last_head b = do
  round ← last_brackets b
  word ← last_place round.1
  Some (record { word = word.0; round = round.0 }, word.1)

-- nothing
unfoldable pub empty : Built
empty = record { depths = []; places = []; tokens = []; names = []; comma_lists = []; qualifieds = []; kinds = []; kind_lists = []; argument_lists = []; exprs = []; expr_lists = []; lambda_names = []; choices = []; choice_lists = []; branches = []; branch_lists = []; catches = []; catch_lists = []; blocks = []; statements = []; statement_lists = []; targets = []; labels = []; declared = []; values = []; setters = []; typed = []; bodies = []; param_lists = []; params = []; delegations = []; modifier_lists = []; members = []; member_lists = []; type_param_lists = []; type_params = []; super_lists = []; supers = []; class_words = []; packages = []; import_lists = []; classes = [] }
