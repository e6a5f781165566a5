-- What actions build of the parts of expressions and statements.
use Rattle.std.proofs.Common.{◌≡◌, ℕ, suc, true, false, List, [], ◌∷◌, ◌++◌, Option, Some, None, refl, ap, ◌∙◌}
use Rattle.std.specs.Prelude.{if◌then◌else◌, max}
use Rattle.grammar.specs.Machine.{◌>>=◌}
use Rattle.kotlin_tree.specs.declared.places.Position.{Position}
use Rattle.kotlin_tree.specs.declared.tokens.Gap.TheVariants as gap
use Rattle.kotlin_tree.specs.declared.tokens.TokenKind.{TokenKind}
use Rattle.kotlin_tree.specs.declared.types.KName.{KName}
use Rattle.kotlin_tree.specs.declared.types.KQualified.{KQualified}
use Rattle.kotlin_tree.specs.declared.types.KTypeArguments.{KTypeArguments}
use Rattle.kotlin_tree.specs.declared.types.KType.{KType}
use Rattle.kotlin_tree.specs.declared.types.KType.TheVariants as ty
use Rattle.kotlin_tree.specs.declared.expressions.KLiteral.{KLiteral}
use Rattle.kotlin_tree.specs.declared.expressions.KPrefix.{KPrefix}
use Rattle.kotlin_tree.specs.declared.expressions.KPostfix.{KPostfix}
use Rattle.kotlin_tree.specs.declared.expressions.KBinary.{KBinary}
use Rattle.kotlin_tree.specs.declared.expressions.KLambdaNames.{KLambdaNames}
use Rattle.kotlin_tree.specs.declared.expressions.KExpr.{KExpr}
use Rattle.kotlin_tree.specs.declared.expressions.KExpr.TheVariants as e
use Rattle.kotlin_tree.specs.declared.expressions.KChoice.{KChoice, roll-KChoice}
use Rattle.kotlin_tree.specs.declared.statements.KVariability.{KVariability}
use Rattle.kotlin_tree.specs.declared.statements.KDeclared.{KDeclared}
use Rattle.kotlin_tree.specs.declared.statements.KLabel.{KLabel}
use Rattle.kotlin_tree.specs.declared.statements.KTarget.{KTarget}
use Rattle.kotlin_tree.specs.declared.statements.KBlock.{KBlock}
use Rattle.kotlin_tree.specs.declared.statements.KStmt.{KStmt}
use Rattle.kotlin_tree.specs.declared.statements.KBranch.{KBranch, roll-KBranch}
use Rattle.kotlin_tree.specs.declared.statements.KCatch.{KCatch, roll-KCatch}
use Rattle.kotlin_tree.specs.UpToPlaces.{made, made_brackets, made_head, made_else, made_class, made_super}
use Rattle.kotlin_grammar.specs.declared.letters.Act.TheVariants as a
use Rattle.kotlin_grammar.specs.declared.built.Built.{Built}
use Rattle.kotlin_grammar.specs.Parts.{with_place, last_place, with_token, last_token, with_name, last_name, with_commas, last_commas, with_qualified, last_qualified, with_kind, last_kind, with_kinds, last_kinds, with_arguments, last_arguments, with_expr, last_expr, with_exprs, last_exprs, with_lambda_names, last_lambda_names, with_choice, last_choice, with_choices, last_choices, with_branch, last_branch, with_branches, last_branches, with_catch, last_catch, with_catches, last_catches, with_block, last_block, with_statement, last_statement, with_statements, last_statements, with_target, last_target, with_label, last_label, with_declared, last_declared, with_value, last_value, with_setter, last_setter, with_typed, last_typed, with_body, last_body, with_param_list, last_param_list, with_params, last_params, with_delegation, last_delegation, with_modifiers, last_modifiers, with_member, last_member, with_members, last_members, with_type_param_list, last_type_param_list, with_type_params, last_type_params, with_super_list, last_super_list, with_supers, last_supers, with_class_word, last_class_word, with_package, last_package, with_imports, last_imports, with_class, last_class}
use Rattle.kotlin_grammar.specs.Build.{build}
use Rattle.kotlin_grammar.specs.Meaning.{asked, literal_of, postfix_of, prefix_of, binary_of, chain, is_target, variability_of}
use Rattle.kotlin_grammar.specs.Depth.{acts, levels, deepest}
use Rattle.kotlin_canonical_text.specs.Tokens.{token}
use Rattle.kotlin_canonical_text.proofs.Names.{name_made}
use Rattle.kotlin_canonical_text.proofs.Steps.{Fits, makes_leaf, makes_one, makes_two, makes_three, makes_under, makes_over}

abbrev pub at_depth : ℕ → Built → Built
at_depth d b = record b { depths = d ∷ b.depths }

abbrev pub place : Built → Built
place b = with_place made b

abbrev pub tok : TokenKind → Built → Built
tok x b = with_token (token x gap.Plain) b

abbrev pub nm : List ℕ → Built → Built
nm n b = with_name (name_made n) b

abbrev pub commas : List Position → Built → Built
commas xs b = with_commas xs b

abbrev pub qual : KQualified → Built → Built
qual x b = with_qualified x b

abbrev pub lnames : KLambdaNames → Built → Built
lnames x b = with_lambda_names x b

abbrev pub label : Option KLabel → Built → Built
label x b = with_label x b

abbrev pub target : Option KTarget → Built → Built
target x b = with_target x b

abbrev pub expr : ℕ → KExpr → Built → Built
expr d x b = with_expr x (at_depth d b)

abbrev pub kind : ℕ → KType → Built → Built
kind d x b = with_kind x (at_depth d b)

abbrev pub block : ℕ → KBlock → Built → Built
block d x b = with_block x (at_depth d b)

abbrev pub stmt : ℕ → KStmt → Built → Built
stmt d x b = with_statement x (at_depth d b)

abbrev pub stmts : ℕ → List KStmt → Built → Built
stmts d x b = with_statements x (at_depth d b)

abbrev pub args : ℕ → KTypeArguments → Built → Built
args d x b = with_arguments x (at_depth d b)

abbrev pub choice : ℕ → KChoice → Built → Built
choice d x b = with_choice x (at_depth d b)

abbrev pub choices : ℕ → List KChoice → Built → Built
choices d x b = with_choices x (at_depth d b)

abbrev pub branch : ℕ → KBranch → Built → Built
branch d x b = with_branch x (at_depth d b)

abbrev pub branches : ℕ → List KBranch → Built → Built
branches d x b = with_branches x (at_depth d b)

abbrev pub catch : ℕ → KCatch → Built → Built
catch d x b = with_catch x (at_depth d b)

abbrev pub catches : ℕ → List KCatch → Built → Built
catches d x b = with_catches x (at_depth d b)

abbrev pub decl : ℕ → KDeclared → Built → Built
decl d x b = with_declared x (at_depth d b)

abbrev pub exprs : ℕ → List KExpr → List Position → Built → Built
exprs d xs cs b = with_commas cs (with_exprs xs (at_depth d b))

abbrev pub kinds : ℕ → List KType → List Position → Built → Built
kinds d xs cs b = with_commas cs (with_kinds xs (at_depth d b))

abbrev pub kinds_only : ℕ → List KType → Built → Built
kinds_only d xs b = with_kinds xs (at_depth d b)

abbrev pub exprs_only : ℕ → List KExpr → Built → Built
exprs_only d xs b = with_exprs xs (at_depth d b)

-- ---- trees of parts

abbrev pub dotted : KQualified → List ℕ → KQualified
dotted q n = record { first = q.first; rest = q.rest ++ record { dot = made; name = name_made n } ∷ [] }

abbrev pub names_by : List KName → List Position → Option Position → KLambdaNames
names_by ns cs arrow = record { items = ns; commas = cs; arrow = arrow }

abbrev pub choice_made : List KExpr → List Position → KExpr → KChoice
choice_made xs cs z = roll-KChoice (record { labels = xs; commas = cs; arrow = made; value = z })

abbrev pub branch_made : List KExpr → List Position → KBlock → KBranch
branch_made xs cs k = roll-KBranch (record { labels = xs; commas = cs; arrow = made; curly = k.curly; statements = k.statements })

abbrev pub catch_made : List ℕ → KType → KBlock → KCatch
catch_made n x k = roll-KCatch (record { at = made_head; name = name_made n; colon = made; kind = x; curly = k.curly; statements = k.statements })

-- ---- actions

pub acts_Qualified : (n : List ℕ) (b : Built) → acts a.Qualified (nm n b) ≡ Some (qual (record { first = name_made n; rest = [] }) b)
unfolding acts deepest levels build with_place last_place with_token last_token with_name last_name with_commas last_commas with_qualified last_qualified with_kind last_kind with_kinds last_kinds with_arguments last_arguments with_expr last_expr with_exprs last_exprs with_lambda_names last_lambda_names with_choice last_choice with_choices last_choices with_branch last_branch with_branches last_branches with_catch last_catch with_catches last_catches with_block last_block with_statement last_statement with_statements last_statements with_target last_target with_label last_label with_declared last_declared with_value last_value with_setter last_setter with_typed last_typed with_body last_body with_param_list last_param_list with_params last_params with_delegation last_delegation with_modifiers last_modifiers with_member last_member with_members last_members with_type_param_list last_type_param_list with_type_params last_type_params with_super_list last_super_list with_supers last_supers with_class_word last_class_word with_package last_package with_imports last_imports with_class last_class
acts_Qualified n b = refl

pub acts_AddDotted : (q : KQualified) (n : List ℕ) (b : Built) → acts a.AddDotted (nm n (place (qual q b))) ≡ Some (qual (dotted q n) b)
unfolding acts deepest levels build with_place last_place with_token last_token with_name last_name with_commas last_commas with_qualified last_qualified with_kind last_kind with_kinds last_kinds with_arguments last_arguments with_expr last_expr with_exprs last_exprs with_lambda_names last_lambda_names with_choice last_choice with_choices last_choices with_branch last_branch with_branches last_branches with_catch last_catch with_catches last_catches with_block last_block with_statement last_statement with_statements last_statements with_target last_target with_label last_label with_declared last_declared with_value last_value with_setter last_setter with_typed last_typed with_body last_body with_param_list last_param_list with_params last_params with_delegation last_delegation with_modifiers last_modifiers with_member last_member with_members last_members with_type_param_list last_type_param_list with_type_params last_type_params with_super_list last_super_list with_supers last_supers with_class_word last_class_word with_package last_package with_imports last_imports with_class last_class
acts_AddDotted q n b = refl

pub acts_PlainType : (q : KQualified) (b : Built) → acts a.PlainType (qual q b) ≡ Some (kind 1 (ty.Plain q None false) b)
unfolding build levels with_place last_place with_token last_token with_name last_name with_commas last_commas with_qualified last_qualified with_kind last_kind with_kinds last_kinds with_arguments last_arguments with_expr last_expr with_exprs last_exprs with_lambda_names last_lambda_names with_choice last_choice with_choices last_choices with_branch last_branch with_branches last_branches with_catch last_catch with_catches last_catches with_block last_block with_statement last_statement with_statements last_statements with_target last_target with_label last_label with_declared last_declared with_value last_value with_setter last_setter with_typed last_typed with_body last_body with_param_list last_param_list with_params last_params with_delegation last_delegation with_modifiers last_modifiers with_member last_member with_members last_members with_type_param_list last_type_param_list with_type_params last_type_params with_super_list last_super_list with_supers last_supers with_class_word last_class_word with_package last_package with_imports last_imports with_class last_class
acts_PlainType q b = makes_leaf a.PlainType (qual q b) refl

pub acts_AppliedType : (q : KQualified) (d : ℕ) (types : KTypeArguments) (b : Built) → Fits d → acts a.AppliedType (args d types (qual q b)) ≡ Some (kind (suc d) (ty.Applied q types.angles types.items types.commas None) b)
unfolding build levels with_place last_place with_token last_token with_name last_name with_commas last_commas with_qualified last_qualified with_kind last_kind with_kinds last_kinds with_arguments last_arguments with_expr last_expr with_exprs last_exprs with_lambda_names last_lambda_names with_choice last_choice with_choices last_choices with_branch last_branch with_branches last_branches with_catch last_catch with_catches last_catches with_block last_block with_statement last_statement with_statements last_statements with_target last_target with_label last_label with_declared last_declared with_value last_value with_setter last_setter with_typed last_typed with_body last_body with_param_list last_param_list with_params last_params with_delegation last_delegation with_modifiers last_modifiers with_member last_member with_members last_members with_type_param_list last_type_param_list with_type_params last_type_params with_super_list last_super_list with_supers last_supers with_class_word last_class_word with_package last_package with_imports last_imports with_class last_class
acts_AppliedType q d types b fits = makes_one a.AppliedType (args d types (qual q b)) d b.depths refl refl fits

pub acts_Ask : (d : ℕ) (x : KType) (b : Built) → acts a.Ask (place (kind d x b)) ≡ Some (kind d (asked made x) b)
unfolding acts deepest levels build with_place last_place with_token last_token with_name last_name with_commas last_commas with_qualified last_qualified with_kind last_kind with_kinds last_kinds with_arguments last_arguments with_expr last_expr with_exprs last_exprs with_lambda_names last_lambda_names with_choice last_choice with_choices last_choices with_branch last_branch with_branches last_branches with_catch last_catch with_catches last_catches with_block last_block with_statement last_statement with_statements last_statements with_target last_target with_label last_label with_declared last_declared with_value last_value with_setter last_setter with_typed last_typed with_body last_body with_param_list last_param_list with_params last_params with_delegation last_delegation with_modifiers last_modifiers with_member last_member with_members last_members with_type_param_list last_type_param_list with_type_params last_type_params with_super_list last_super_list with_supers last_supers with_class_word last_class_word with_package last_package with_imports last_imports with_class last_class
acts_Ask d x b = refl

pub acts_NoTypes : (b : Built) → acts a.NoTypes b ≡ Some (kinds 0 [] [] b)
unfolding acts deepest levels build with_place last_place with_token last_token with_name last_name with_commas last_commas with_qualified last_qualified with_kind last_kind with_kinds last_kinds with_arguments last_arguments with_expr last_expr with_exprs last_exprs with_lambda_names last_lambda_names with_choice last_choice with_choices last_choices with_branch last_branch with_branches last_branches with_catch last_catch with_catches last_catches with_block last_block with_statement last_statement with_statements last_statements with_target last_target with_label last_label with_declared last_declared with_value last_value with_setter last_setter with_typed last_typed with_body last_body with_param_list last_param_list with_params last_params with_delegation last_delegation with_modifiers last_modifiers with_member last_member with_members last_members with_type_param_list last_type_param_list with_type_params last_type_params with_super_list last_super_list with_supers last_supers with_class_word last_class_word with_package last_package with_imports last_imports with_class last_class
acts_NoTypes b = refl

pub acts_AddType : (d : ℕ) (xs : List KType) (cs : List Position) (g : ℕ) (x : KType) (b : Built) → acts a.AddType (kind g x (kinds d xs cs b)) ≡ Some (kinds (max g d) (xs ++ x ∷ []) cs b)
unfolding acts deepest levels build with_place last_place with_token last_token with_name last_name with_commas last_commas with_qualified last_qualified with_kind last_kind with_kinds last_kinds with_arguments last_arguments with_expr last_expr with_exprs last_exprs with_lambda_names last_lambda_names with_choice last_choice with_choices last_choices with_branch last_branch with_branches last_branches with_catch last_catch with_catches last_catches with_block last_block with_statement last_statement with_statements last_statements with_target last_target with_label last_label with_declared last_declared with_value last_value with_setter last_setter with_typed last_typed with_body last_body with_param_list last_param_list with_params last_params with_delegation last_delegation with_modifiers last_modifiers with_member last_member with_members last_members with_type_param_list last_type_param_list with_type_params last_type_params with_super_list last_super_list with_supers last_supers with_class_word last_class_word with_package last_package with_imports last_imports with_class last_class
acts_AddType d xs cs g x b = refl

pub acts_TypeArguments : (d : ℕ) (xs : List KType) (cs : List Position) (b : Built) → acts a.TypeArguments (place (kinds d xs cs (place b))) ≡ Some (args d (record { angles = made_brackets; items = xs; commas = cs }) b)
unfolding acts deepest levels build with_place last_place with_token last_token with_name last_name with_commas last_commas with_qualified last_qualified with_kind last_kind with_kinds last_kinds with_arguments last_arguments with_expr last_expr with_exprs last_exprs with_lambda_names last_lambda_names with_choice last_choice with_choices last_choices with_branch last_branch with_branches last_branches with_catch last_catch with_catches last_catches with_block last_block with_statement last_statement with_statements last_statements with_target last_target with_label last_label with_declared last_declared with_value last_value with_setter last_setter with_typed last_typed with_body last_body with_param_list last_param_list with_params last_params with_delegation last_delegation with_modifiers last_modifiers with_member last_member with_members last_members with_type_param_list last_type_param_list with_type_params last_type_params with_super_list last_super_list with_supers last_supers with_class_word last_class_word with_package last_package with_imports last_imports with_class last_class
acts_TypeArguments d xs cs b = refl

pub acts_AddComma : (cs : List Position) (b : Built) → acts a.AddComma (place (commas cs b)) ≡ Some (commas (cs ++ made ∷ []) b)
unfolding acts deepest levels build with_place last_place with_token last_token with_name last_name with_commas last_commas with_qualified last_qualified with_kind last_kind with_kinds last_kinds with_arguments last_arguments with_expr last_expr with_exprs last_exprs with_lambda_names last_lambda_names with_choice last_choice with_choices last_choices with_branch last_branch with_branches last_branches with_catch last_catch with_catches last_catches with_block last_block with_statement last_statement with_statements last_statements with_target last_target with_label last_label with_declared last_declared with_value last_value with_setter last_setter with_typed last_typed with_body last_body with_param_list last_param_list with_params last_params with_delegation last_delegation with_modifiers last_modifiers with_member last_member with_members last_members with_type_param_list last_type_param_list with_type_params last_type_params with_super_list last_super_list with_supers last_supers with_class_word last_class_word with_package last_package with_imports last_imports with_class last_class
acts_AddComma cs b = refl

pub acts_Literal : (t : TokenKind) (o : KLiteral) (b : Built) → literal_of t ≡ Some o → acts a.Literal (tok t b) ≡ Some (expr 1 (e.Literal o made) b)
unfolding build levels with_place last_place with_token last_token with_name last_name with_commas last_commas with_qualified last_qualified with_kind last_kind with_kinds last_kinds with_arguments last_arguments with_expr last_expr with_exprs last_exprs with_lambda_names last_lambda_names with_choice last_choice with_choices last_choices with_branch last_branch with_branches last_branches with_catch last_catch with_catches last_catches with_block last_block with_statement last_statement with_statements last_statements with_target last_target with_label last_label with_declared last_declared with_value last_value with_setter last_setter with_typed last_typed with_body last_body with_param_list last_param_list with_params last_params with_delegation last_delegation with_modifiers last_modifiers with_member last_member with_members last_members with_type_param_list last_type_param_list with_type_params last_type_params with_super_list last_super_list with_supers last_supers with_class_word last_class_word with_package last_package with_imports last_imports with_class last_class
acts_Literal t o b is = makes_leaf a.Literal (tok t b) refl ∙ ap (λ u. u >>= λ o. Some (expr 1 (e.Literal o made) b)) is

pub acts_This : (b : Built) → acts a.This (place b) ≡ Some (expr 1 (e.This made) b)
unfolding build levels with_place last_place with_token last_token with_name last_name with_commas last_commas with_qualified last_qualified with_kind last_kind with_kinds last_kinds with_arguments last_arguments with_expr last_expr with_exprs last_exprs with_lambda_names last_lambda_names with_choice last_choice with_choices last_choices with_branch last_branch with_branches last_branches with_catch last_catch with_catches last_catches with_block last_block with_statement last_statement with_statements last_statements with_target last_target with_label last_label with_declared last_declared with_value last_value with_setter last_setter with_typed last_typed with_body last_body with_param_list last_param_list with_params last_params with_delegation last_delegation with_modifiers last_modifiers with_member last_member with_members last_members with_type_param_list last_type_param_list with_type_params last_type_params with_super_list last_super_list with_supers last_supers with_class_word last_class_word with_package last_package with_imports last_imports with_class last_class
acts_This b = makes_leaf a.This (place b) refl

pub acts_Name : (n : List ℕ) (b : Built) → acts a.Name (nm n b) ≡ Some (expr 1 (e.Name (name_made n)) b)
unfolding build levels with_place last_place with_token last_token with_name last_name with_commas last_commas with_qualified last_qualified with_kind last_kind with_kinds last_kinds with_arguments last_arguments with_expr last_expr with_exprs last_exprs with_lambda_names last_lambda_names with_choice last_choice with_choices last_choices with_branch last_branch with_branches last_branches with_catch last_catch with_catches last_catches with_block last_block with_statement last_statement with_statements last_statements with_target last_target with_label last_label with_declared last_declared with_value last_value with_setter last_setter with_typed last_typed with_body last_body with_param_list last_param_list with_params last_params with_delegation last_delegation with_modifiers last_modifiers with_member last_member with_members last_members with_type_param_list last_type_param_list with_type_params last_type_params with_super_list last_super_list with_supers last_supers with_class_word last_class_word with_package last_package with_imports last_imports with_class last_class
acts_Name n b = makes_leaf a.Name (nm n b) refl

pub acts_Paren : (d : ℕ) (x : KExpr) (b : Built) → Fits d → acts a.Paren (place (expr d x (place b))) ≡ Some (expr (suc d) (e.Paren made_brackets x) b)
unfolding build levels with_place last_place with_token last_token with_name last_name with_commas last_commas with_qualified last_qualified with_kind last_kind with_kinds last_kinds with_arguments last_arguments with_expr last_expr with_exprs last_exprs with_lambda_names last_lambda_names with_choice last_choice with_choices last_choices with_branch last_branch with_branches last_branches with_catch last_catch with_catches last_catches with_block last_block with_statement last_statement with_statements last_statements with_target last_target with_label last_label with_declared last_declared with_value last_value with_setter last_setter with_typed last_typed with_body last_body with_param_list last_param_list with_params last_params with_delegation last_delegation with_modifiers last_modifiers with_member last_member with_members last_members with_type_param_list last_type_param_list with_type_params last_type_params with_super_list last_super_list with_supers last_supers with_class_word last_class_word with_package last_package with_imports last_imports with_class last_class
acts_Paren d x b fits = makes_one a.Paren (place (expr d x (place b))) d b.depths refl refl fits

pub acts_Call : (n : List ℕ) (d : ℕ) (xs : List KExpr) (cs : List Position) (b : Built) → Fits d → acts a.Call (place (exprs d xs cs (place (nm n b)))) ≡ Some (expr (suc d) (e.Call (name_made n) None made_brackets xs cs) b)
unfolding build levels with_place last_place with_token last_token with_name last_name with_commas last_commas with_qualified last_qualified with_kind last_kind with_kinds last_kinds with_arguments last_arguments with_expr last_expr with_exprs last_exprs with_lambda_names last_lambda_names with_choice last_choice with_choices last_choices with_branch last_branch with_branches last_branches with_catch last_catch with_catches last_catches with_block last_block with_statement last_statement with_statements last_statements with_target last_target with_label last_label with_declared last_declared with_value last_value with_setter last_setter with_typed last_typed with_body last_body with_param_list last_param_list with_params last_params with_delegation last_delegation with_modifiers last_modifiers with_member last_member with_members last_members with_type_param_list last_type_param_list with_type_params last_type_params with_super_list last_super_list with_supers last_supers with_class_word last_class_word with_package last_package with_imports last_imports with_class last_class
acts_Call n d xs cs b fits = makes_one a.Call (place (exprs d xs cs (place (nm n b)))) d b.depths refl refl fits

pub acts_GenericCall : (n : List ℕ) (d : ℕ) (types : KTypeArguments) (g : ℕ) (xs : List KExpr) (cs : List Position) (b : Built) → Fits (max g d) → acts a.GenericCall (place (exprs g xs cs (place (args d types (nm n b))))) ≡ Some (expr (suc (max g d)) (e.Call (name_made n) (Some types) made_brackets xs cs) b)
unfolding build levels with_place last_place with_token last_token with_name last_name with_commas last_commas with_qualified last_qualified with_kind last_kind with_kinds last_kinds with_arguments last_arguments with_expr last_expr with_exprs last_exprs with_lambda_names last_lambda_names with_choice last_choice with_choices last_choices with_branch last_branch with_branches last_branches with_catch last_catch with_catches last_catches with_block last_block with_statement last_statement with_statements last_statements with_target last_target with_label last_label with_declared last_declared with_value last_value with_setter last_setter with_typed last_typed with_body last_body with_param_list last_param_list with_params last_params with_delegation last_delegation with_modifiers last_modifiers with_member last_member with_members last_members with_type_param_list last_type_param_list with_type_params last_type_params with_super_list last_super_list with_supers last_supers with_class_word last_class_word with_package last_package with_imports last_imports with_class last_class
acts_GenericCall n d types g xs cs b fits = makes_two a.GenericCall (place (exprs g xs cs (place (args d types (nm n b))))) g d b.depths refl refl fits

pub acts_SuperCall : (n : List ℕ) (d : ℕ) (xs : List KExpr) (cs : List Position) (b : Built) → Fits d → acts a.SuperCall (place (exprs d xs cs (place (nm n (place (place b)))))) ≡ Some (expr (suc d) (e.SuperCall made_super (name_made n) made_brackets xs cs) b)
unfolding build levels with_place last_place with_token last_token with_name last_name with_commas last_commas with_qualified last_qualified with_kind last_kind with_kinds last_kinds with_arguments last_arguments with_expr last_expr with_exprs last_exprs with_lambda_names last_lambda_names with_choice last_choice with_choices last_choices with_branch last_branch with_branches last_branches with_catch last_catch with_catches last_catches with_block last_block with_statement last_statement with_statements last_statements with_target last_target with_label last_label with_declared last_declared with_value last_value with_setter last_setter with_typed last_typed with_body last_body with_param_list last_param_list with_params last_params with_delegation last_delegation with_modifiers last_modifiers with_member last_member with_members last_members with_type_param_list last_type_param_list with_type_params last_type_params with_super_list last_super_list with_supers last_supers with_class_word last_class_word with_package last_package with_imports last_imports with_class last_class
acts_SuperCall n d xs cs b fits = makes_one a.SuperCall (place (exprs d xs cs (place (nm n (place (place b)))))) d b.depths refl refl fits

pub acts_Field : (d : ℕ) (x : KExpr) (n : List ℕ) (b : Built) → Fits d → acts a.Field (nm n (place (expr d x b))) ≡ Some (expr (suc d) (e.Field x made (name_made n)) b)
unfolding build levels with_place last_place with_token last_token with_name last_name with_commas last_commas with_qualified last_qualified with_kind last_kind with_kinds last_kinds with_arguments last_arguments with_expr last_expr with_exprs last_exprs with_lambda_names last_lambda_names with_choice last_choice with_choices last_choices with_branch last_branch with_branches last_branches with_catch last_catch with_catches last_catches with_block last_block with_statement last_statement with_statements last_statements with_target last_target with_label last_label with_declared last_declared with_value last_value with_setter last_setter with_typed last_typed with_body last_body with_param_list last_param_list with_params last_params with_delegation last_delegation with_modifiers last_modifiers with_member last_member with_members last_members with_type_param_list last_type_param_list with_type_params last_type_params with_super_list last_super_list with_supers last_supers with_class_word last_class_word with_package last_package with_imports last_imports with_class last_class
acts_Field d x n b fits = makes_one a.Field (nm n (place (expr d x b))) d b.depths refl refl fits

pub acts_Method : (d : ℕ) (x : KExpr) (n : List ℕ) (g : ℕ) (xs : List KExpr) (cs : List Position) (b : Built) → Fits (max g d) → acts a.Method (place (exprs g xs cs (place (nm n (place (expr d x b)))))) ≡ Some (expr (suc (max g d)) (e.Method x made (name_made n) None made_brackets xs cs) b)
unfolding build levels with_place last_place with_token last_token with_name last_name with_commas last_commas with_qualified last_qualified with_kind last_kind with_kinds last_kinds with_arguments last_arguments with_expr last_expr with_exprs last_exprs with_lambda_names last_lambda_names with_choice last_choice with_choices last_choices with_branch last_branch with_branches last_branches with_catch last_catch with_catches last_catches with_block last_block with_statement last_statement with_statements last_statements with_target last_target with_label last_label with_declared last_declared with_value last_value with_setter last_setter with_typed last_typed with_body last_body with_param_list last_param_list with_params last_params with_delegation last_delegation with_modifiers last_modifiers with_member last_member with_members last_members with_type_param_list last_type_param_list with_type_params last_type_params with_super_list last_super_list with_supers last_supers with_class_word last_class_word with_package last_package with_imports last_imports with_class last_class
acts_Method d x n g xs cs b fits = makes_two a.Method (place (exprs g xs cs (place (nm n (place (expr d x b)))))) g d b.depths refl refl fits

pub acts_GenericMethod : (d : ℕ) (x : KExpr) (n : List ℕ) (g : ℕ) (types : KTypeArguments) (i : ℕ) (xs : List KExpr) (cs : List Position) (b : Built) → Fits (max (max i g) d) → acts a.GenericMethod (place (exprs i xs cs (place (args g types (nm n (place (expr d x b))))))) ≡ Some (expr (suc (max (max i g) d)) (e.Method x made (name_made n) (Some types) made_brackets xs cs) b)
unfolding build levels with_place last_place with_token last_token with_name last_name with_commas last_commas with_qualified last_qualified with_kind last_kind with_kinds last_kinds with_arguments last_arguments with_expr last_expr with_exprs last_exprs with_lambda_names last_lambda_names with_choice last_choice with_choices last_choices with_branch last_branch with_branches last_branches with_catch last_catch with_catches last_catches with_block last_block with_statement last_statement with_statements last_statements with_target last_target with_label last_label with_declared last_declared with_value last_value with_setter last_setter with_typed last_typed with_body last_body with_param_list last_param_list with_params last_params with_delegation last_delegation with_modifiers last_modifiers with_member last_member with_members last_members with_type_param_list last_type_param_list with_type_params last_type_params with_super_list last_super_list with_supers last_supers with_class_word last_class_word with_package last_package with_imports last_imports with_class last_class
acts_GenericMethod d x n g types i xs cs b fits = makes_three a.GenericMethod (place (exprs i xs cs (place (args g types (nm n (place (expr d x b))))))) i g d b.depths refl refl fits

pub acts_Element : (d : ℕ) (x : KExpr) (g : ℕ) (z : KExpr) (b : Built) → Fits (max g d) → acts a.Element (place (expr g z (place (expr d x b)))) ≡ Some (expr (suc (max g d)) (e.Element x made_brackets z) b)
unfolding build levels with_place last_place with_token last_token with_name last_name with_commas last_commas with_qualified last_qualified with_kind last_kind with_kinds last_kinds with_arguments last_arguments with_expr last_expr with_exprs last_exprs with_lambda_names last_lambda_names with_choice last_choice with_choices last_choices with_branch last_branch with_branches last_branches with_catch last_catch with_catches last_catches with_block last_block with_statement last_statement with_statements last_statements with_target last_target with_label last_label with_declared last_declared with_value last_value with_setter last_setter with_typed last_typed with_body last_body with_param_list last_param_list with_params last_params with_delegation last_delegation with_modifiers last_modifiers with_member last_member with_members last_members with_type_param_list last_type_param_list with_type_params last_type_params with_super_list last_super_list with_supers last_supers with_class_word last_class_word with_package last_package with_imports last_imports with_class last_class
acts_Element d x g z b fits = makes_two a.Element (place (expr g z (place (expr d x b)))) g d b.depths refl refl fits

pub acts_Postfix : (d : ℕ) (x : KExpr) (t : TokenKind) (o : KPostfix) (b : Built) → postfix_of t ≡ Some o → Fits d → acts a.Postfix (tok t (expr d x b)) ≡ Some (expr (suc d) (e.Postfix x o made) b)
unfolding build levels with_place last_place with_token last_token with_name last_name with_commas last_commas with_qualified last_qualified with_kind last_kind with_kinds last_kinds with_arguments last_arguments with_expr last_expr with_exprs last_exprs with_lambda_names last_lambda_names with_choice last_choice with_choices last_choices with_branch last_branch with_branches last_branches with_catch last_catch with_catches last_catches with_block last_block with_statement last_statement with_statements last_statements with_target last_target with_label last_label with_declared last_declared with_value last_value with_setter last_setter with_typed last_typed with_body last_body with_param_list last_param_list with_params last_params with_delegation last_delegation with_modifiers last_modifiers with_member last_member with_members last_members with_type_param_list last_type_param_list with_type_params last_type_params with_super_list last_super_list with_supers last_supers with_class_word last_class_word with_package last_package with_imports last_imports with_class last_class
acts_Postfix d x t o b is fits = makes_one a.Postfix (tok t (expr d x b)) d b.depths refl refl fits ∙ ap (λ u. u >>= λ o. Some (expr (suc d) (e.Postfix x o made) b)) is

pub acts_Prefix : (t : TokenKind) (d : ℕ) (x : KExpr) (o : KPrefix) (b : Built) → prefix_of t ≡ Some o → Fits d → acts a.Prefix (expr d x (tok t b)) ≡ Some (expr (suc d) (e.Prefix o made x) b)
unfolding build levels with_place last_place with_token last_token with_name last_name with_commas last_commas with_qualified last_qualified with_kind last_kind with_kinds last_kinds with_arguments last_arguments with_expr last_expr with_exprs last_exprs with_lambda_names last_lambda_names with_choice last_choice with_choices last_choices with_branch last_branch with_branches last_branches with_catch last_catch with_catches last_catches with_block last_block with_statement last_statement with_statements last_statements with_target last_target with_label last_label with_declared last_declared with_value last_value with_setter last_setter with_typed last_typed with_body last_body with_param_list last_param_list with_params last_params with_delegation last_delegation with_modifiers last_modifiers with_member last_member with_members last_members with_type_param_list last_type_param_list with_type_params last_type_params with_super_list last_super_list with_supers last_supers with_class_word last_class_word with_package last_package with_imports last_imports with_class last_class
acts_Prefix t d x o b is fits = makes_one a.Prefix (expr d x (tok t b)) d b.depths refl refl fits ∙ ap (λ u. u >>= λ o. Some (expr (suc d) (e.Prefix o made x) b)) is

pub acts_Binary : (d : ℕ) (x : KExpr) (t : TokenKind) (g : ℕ) (z : KExpr) (o : KBinary) (b : Built) → binary_of t ≡ Some o → Fits (max g d) → acts a.Binary (expr g z (tok t (expr d x b))) ≡ Some (expr (suc (max g d)) (e.Binary x o made z) b)
unfolding build levels with_place last_place with_token last_token with_name last_name with_commas last_commas with_qualified last_qualified with_kind last_kind with_kinds last_kinds with_arguments last_arguments with_expr last_expr with_exprs last_exprs with_lambda_names last_lambda_names with_choice last_choice with_choices last_choices with_branch last_branch with_branches last_branches with_catch last_catch with_catches last_catches with_block last_block with_statement last_statement with_statements last_statements with_target last_target with_label last_label with_declared last_declared with_value last_value with_setter last_setter with_typed last_typed with_body last_body with_param_list last_param_list with_params last_params with_delegation last_delegation with_modifiers last_modifiers with_member last_member with_members last_members with_type_param_list last_type_param_list with_type_params last_type_params with_super_list last_super_list with_supers last_supers with_class_word last_class_word with_package last_package with_imports last_imports with_class last_class
acts_Binary d x t g z o b is fits = makes_two a.Binary (expr g z (tok t (expr d x b))) g d b.depths refl refl fits ∙ ap (λ u. u >>= λ o. Some (expr (suc (max g d)) (e.Binary x o made z) b)) is

pub acts_As : (d : ℕ) (x : KExpr) (g : ℕ) (z : KType) (b : Built) → Fits (max g d) → acts a.As (kind g z (place (expr d x b))) ≡ Some (expr (suc (max g d)) (e.As x made z) b)
unfolding build levels with_place last_place with_token last_token with_name last_name with_commas last_commas with_qualified last_qualified with_kind last_kind with_kinds last_kinds with_arguments last_arguments with_expr last_expr with_exprs last_exprs with_lambda_names last_lambda_names with_choice last_choice with_choices last_choices with_branch last_branch with_branches last_branches with_catch last_catch with_catches last_catches with_block last_block with_statement last_statement with_statements last_statements with_target last_target with_label last_label with_declared last_declared with_value last_value with_setter last_setter with_typed last_typed with_body last_body with_param_list last_param_list with_params last_params with_delegation last_delegation with_modifiers last_modifiers with_member last_member with_members last_members with_type_param_list last_type_param_list with_type_params last_type_params with_super_list last_super_list with_supers last_supers with_class_word last_class_word with_package last_package with_imports last_imports with_class last_class
acts_As d x g z b fits = makes_two a.As (kind g z (place (expr d x b))) g d b.depths refl refl fits

pub acts_Is : (d : ℕ) (x : KExpr) (g : ℕ) (z : KType) (b : Built) → Fits (max g d) → acts a.Is (kind g z (place (expr d x b))) ≡ Some (expr (suc (max g d)) (e.Is x made z) b)
unfolding build levels with_place last_place with_token last_token with_name last_name with_commas last_commas with_qualified last_qualified with_kind last_kind with_kinds last_kinds with_arguments last_arguments with_expr last_expr with_exprs last_exprs with_lambda_names last_lambda_names with_choice last_choice with_choices last_choices with_branch last_branch with_branches last_branches with_catch last_catch with_catches last_catches with_block last_block with_statement last_statement with_statements last_statements with_target last_target with_label last_label with_declared last_declared with_value last_value with_setter last_setter with_typed last_typed with_body last_body with_param_list last_param_list with_params last_params with_delegation last_delegation with_modifiers last_modifiers with_member last_member with_members last_members with_type_param_list last_type_param_list with_type_params last_type_params with_super_list last_super_list with_supers last_supers with_class_word last_class_word with_package last_package with_imports last_imports with_class last_class
acts_Is d x g z b fits = makes_two a.Is (kind g z (place (expr d x b))) g d b.depths refl refl fits

pub acts_IfValue : (d : ℕ) (x : KExpr) (g : ℕ) (z : KExpr) (i : ℕ) (u : KExpr) (b : Built) → Fits (max (max i g) d) → acts a.IfValue (expr i u (place (expr g z (place (expr d x (place (place b))))))) ≡ Some (expr (suc (max (max i g) d)) (e.IfValue made_head x z made u) b)
unfolding build levels with_place last_place with_token last_token with_name last_name with_commas last_commas with_qualified last_qualified with_kind last_kind with_kinds last_kinds with_arguments last_arguments with_expr last_expr with_exprs last_exprs with_lambda_names last_lambda_names with_choice last_choice with_choices last_choices with_branch last_branch with_branches last_branches with_catch last_catch with_catches last_catches with_block last_block with_statement last_statement with_statements last_statements with_target last_target with_label last_label with_declared last_declared with_value last_value with_setter last_setter with_typed last_typed with_body last_body with_param_list last_param_list with_params last_params with_delegation last_delegation with_modifiers last_modifiers with_member last_member with_members last_members with_type_param_list last_type_param_list with_type_params last_type_params with_super_list last_super_list with_supers last_supers with_class_word last_class_word with_package last_package with_imports last_imports with_class last_class
acts_IfValue d x g z i u b fits = makes_three a.IfValue (expr i u (place (expr g z (place (expr d x (place (place b))))))) i g d b.depths refl refl fits

pub acts_Run : (d : ℕ) (k : KBlock) (b : Built) → Fits d → acts a.Run (block d k (place b)) ≡ Some (expr (suc d) (e.Run made k.curly k.statements) b)
unfolding build levels with_place last_place with_token last_token with_name last_name with_commas last_commas with_qualified last_qualified with_kind last_kind with_kinds last_kinds with_arguments last_arguments with_expr last_expr with_exprs last_exprs with_lambda_names last_lambda_names with_choice last_choice with_choices last_choices with_branch last_branch with_branches last_branches with_catch last_catch with_catches last_catches with_block last_block with_statement last_statement with_statements last_statements with_target last_target with_label last_label with_declared last_declared with_value last_value with_setter last_setter with_typed last_typed with_body last_body with_param_list last_param_list with_params last_params with_delegation last_delegation with_modifiers last_modifiers with_member last_member with_members last_members with_type_param_list last_type_param_list with_type_params last_type_params with_super_list last_super_list with_supers last_supers with_class_word last_class_word with_package last_package with_imports last_imports with_class last_class
acts_Run d k b fits = makes_one a.Run (block d k (place b)) d b.depths refl refl fits

pub acts_Face : (d : ℕ) (x : KExpr) (q : KQualified) (b : Built) → chain x ≡ Some q → acts a.Face (expr d x b) ≡ Some (kind 1 (ty.Plain q None false) b)
unfolding build levels with_place last_place with_token last_token with_name last_name with_commas last_commas with_qualified last_qualified with_kind last_kind with_kinds last_kinds with_arguments last_arguments with_expr last_expr with_exprs last_exprs with_lambda_names last_lambda_names with_choice last_choice with_choices last_choices with_branch last_branch with_branches last_branches with_catch last_catch with_catches last_catches with_block last_block with_statement last_statement with_statements last_statements with_target last_target with_label last_label with_declared last_declared with_value last_value with_setter last_setter with_typed last_typed with_body last_body with_param_list last_param_list with_params last_params with_delegation last_delegation with_modifiers last_modifiers with_member last_member with_members last_members with_type_param_list last_type_param_list with_type_params last_type_params with_super_list last_super_list with_supers last_supers with_class_word last_class_word with_package last_package with_imports last_imports with_class last_class
acts_Face d x q b is = makes_under a.Face (expr d x b) d b.depths refl refl ∙ ap (λ u. u >>= λ q. Some (kind 1 (ty.Plain q None false) b)) is

pub acts_Applied : (n : List ℕ) (d : ℕ) (types : KTypeArguments) (b : Built) → Fits d → acts a.Applied (args d types (nm n b)) ≡ Some (kind (suc d) (ty.Applied (record { first = name_made n; rest = [] }) types.angles types.items types.commas None) b)
unfolding build levels with_place last_place with_token last_token with_name last_name with_commas last_commas with_qualified last_qualified with_kind last_kind with_kinds last_kinds with_arguments last_arguments with_expr last_expr with_exprs last_exprs with_lambda_names last_lambda_names with_choice last_choice with_choices last_choices with_branch last_branch with_branches last_branches with_catch last_catch with_catches last_catches with_block last_block with_statement last_statement with_statements last_statements with_target last_target with_label last_label with_declared last_declared with_value last_value with_setter last_setter with_typed last_typed with_body last_body with_param_list last_param_list with_params last_params with_delegation last_delegation with_modifiers last_modifiers with_member last_member with_members last_members with_type_param_list last_type_param_list with_type_params last_type_params with_super_list last_super_list with_supers last_supers with_class_word last_class_word with_package last_package with_imports last_imports with_class last_class
acts_Applied n d types b fits = makes_one a.Applied (args d types (nm n b)) d b.depths refl refl fits

pub acts_DottedApplied : (g : ℕ) (x : KExpr) (n : List ℕ) (d : ℕ) (types : KTypeArguments) (q : KQualified) (b : Built) → chain x ≡ Some q → Fits d → acts a.DottedApplied (args d types (nm n (place (expr g x b)))) ≡ Some (kind (suc d) (ty.Applied (dotted q n) types.angles types.items types.commas None) b)
unfolding build levels with_place last_place with_token last_token with_name last_name with_commas last_commas with_qualified last_qualified with_kind last_kind with_kinds last_kinds with_arguments last_arguments with_expr last_expr with_exprs last_exprs with_lambda_names last_lambda_names with_choice last_choice with_choices last_choices with_branch last_branch with_branches last_branches with_catch last_catch with_catches last_catches with_block last_block with_statement last_statement with_statements last_statements with_target last_target with_label last_label with_declared last_declared with_value last_value with_setter last_setter with_typed last_typed with_body last_body with_param_list last_param_list with_params last_params with_delegation last_delegation with_modifiers last_modifiers with_member last_member with_members last_members with_type_param_list last_type_param_list with_type_params last_type_params with_super_list last_super_list with_supers last_supers with_class_word last_class_word with_package last_package with_imports last_imports with_class last_class
acts_DottedApplied g x n d types q b is fits = makes_over a.DottedApplied (args d types (nm n (place (expr g x b)))) d g b.depths refl refl fits ∙ ap (λ u. u >>= λ q. Some (kind (suc d) (ty.Applied (dotted q n) types.angles types.items types.commas None) b)) is

pub acts_NoNames : (b : Built) → acts a.NoNames b ≡ Some (lnames (names_by [] [] None) b)
unfolding acts deepest levels build with_place last_place with_token last_token with_name last_name with_commas last_commas with_qualified last_qualified with_kind last_kind with_kinds last_kinds with_arguments last_arguments with_expr last_expr with_exprs last_exprs with_lambda_names last_lambda_names with_choice last_choice with_choices last_choices with_branch last_branch with_branches last_branches with_catch last_catch with_catches last_catches with_block last_block with_statement last_statement with_statements last_statements with_target last_target with_label last_label with_declared last_declared with_value last_value with_setter last_setter with_typed last_typed with_body last_body with_param_list last_param_list with_params last_params with_delegation last_delegation with_modifiers last_modifiers with_member last_member with_members last_members with_type_param_list last_type_param_list with_type_params last_type_params with_super_list last_super_list with_supers last_supers with_class_word last_class_word with_package last_package with_imports last_imports with_class last_class
acts_NoNames b = refl

pub acts_AddName : (ns : List KName) (cs : List Position) (o : Option Position) (n : List ℕ) (b : Built) → acts a.AddName (nm n (lnames (names_by ns cs o) b)) ≡ Some (lnames (names_by (ns ++ (name_made n) ∷ []) cs o) b)
unfolding acts deepest levels build with_place last_place with_token last_token with_name last_name with_commas last_commas with_qualified last_qualified with_kind last_kind with_kinds last_kinds with_arguments last_arguments with_expr last_expr with_exprs last_exprs with_lambda_names last_lambda_names with_choice last_choice with_choices last_choices with_branch last_branch with_branches last_branches with_catch last_catch with_catches last_catches with_block last_block with_statement last_statement with_statements last_statements with_target last_target with_label last_label with_declared last_declared with_value last_value with_setter last_setter with_typed last_typed with_body last_body with_param_list last_param_list with_params last_params with_delegation last_delegation with_modifiers last_modifiers with_member last_member with_members last_members with_type_param_list last_type_param_list with_type_params last_type_params with_super_list last_super_list with_supers last_supers with_class_word last_class_word with_package last_package with_imports last_imports with_class last_class
acts_AddName ns cs o n b = refl

pub acts_AddNameComma : (ns : List KName) (cs : List Position) (o : Option Position) (b : Built) → acts a.AddNameComma (place (lnames (names_by ns cs o) b)) ≡ Some (lnames (names_by ns (cs ++ made ∷ []) o) b)
unfolding acts deepest levels build with_place last_place with_token last_token with_name last_name with_commas last_commas with_qualified last_qualified with_kind last_kind with_kinds last_kinds with_arguments last_arguments with_expr last_expr with_exprs last_exprs with_lambda_names last_lambda_names with_choice last_choice with_choices last_choices with_branch last_branch with_branches last_branches with_catch last_catch with_catches last_catches with_block last_block with_statement last_statement with_statements last_statements with_target last_target with_label last_label with_declared last_declared with_value last_value with_setter last_setter with_typed last_typed with_body last_body with_param_list last_param_list with_params last_params with_delegation last_delegation with_modifiers last_modifiers with_member last_member with_members last_members with_type_param_list last_type_param_list with_type_params last_type_params with_super_list last_super_list with_supers last_supers with_class_word last_class_word with_package last_package with_imports last_imports with_class last_class
acts_AddNameComma ns cs o b = refl

pub acts_NamesArrow : (ns : List KName) (cs : List Position) (o : Option Position) (b : Built) → acts a.NamesArrow (place (lnames (names_by ns cs o) b)) ≡ Some (lnames (names_by ns cs (Some made)) b)
unfolding acts deepest levels build with_place last_place with_token last_token with_name last_name with_commas last_commas with_qualified last_qualified with_kind last_kind with_kinds last_kinds with_arguments last_arguments with_expr last_expr with_exprs last_exprs with_lambda_names last_lambda_names with_choice last_choice with_choices last_choices with_branch last_branch with_branches last_branches with_catch last_catch with_catches last_catches with_block last_block with_statement last_statement with_statements last_statements with_target last_target with_label last_label with_declared last_declared with_value last_value with_setter last_setter with_typed last_typed with_body last_body with_param_list last_param_list with_params last_params with_delegation last_delegation with_modifiers last_modifiers with_member last_member with_members last_members with_type_param_list last_type_param_list with_type_params last_type_params with_super_list last_super_list with_supers last_supers with_class_word last_class_word with_package last_package with_imports last_imports with_class last_class
acts_NamesArrow ns cs o b = refl

pub acts_Lambda : (d : ℕ) (f : KType) (l : KLambdaNames) (g : ℕ) (ss : List KStmt) (b : Built) → Fits (max g d) → acts a.Lambda (place (stmts g ss (lnames l (place (kind d f b))))) ≡ Some (expr (suc (max g d)) (e.Lambda f made_brackets l ss) b)
unfolding build levels with_place last_place with_token last_token with_name last_name with_commas last_commas with_qualified last_qualified with_kind last_kind with_kinds last_kinds with_arguments last_arguments with_expr last_expr with_exprs last_exprs with_lambda_names last_lambda_names with_choice last_choice with_choices last_choices with_branch last_branch with_branches last_branches with_catch last_catch with_catches last_catches with_block last_block with_statement last_statement with_statements last_statements with_target last_target with_label last_label with_declared last_declared with_value last_value with_setter last_setter with_typed last_typed with_body last_body with_param_list last_param_list with_params last_params with_delegation last_delegation with_modifiers last_modifiers with_member last_member with_members last_members with_type_param_list last_type_param_list with_type_params last_type_params with_super_list last_super_list with_supers last_supers with_class_word last_class_word with_package last_package with_imports last_imports with_class last_class
acts_Lambda d f l g ss b fits = makes_two a.Lambda (place (stmts g ss (lnames l (place (kind d f b))))) g d b.depths refl refl fits

pub acts_ClassOf : (d : ℕ) (x : KExpr) (q : KQualified) (b : Built) → chain x ≡ Some q → acts a.ClassOf (place (place (place (place (expr d x b))))) ≡ Some (expr 1 (e.Class q made_class) b)
unfolding build levels with_place last_place with_token last_token with_name last_name with_commas last_commas with_qualified last_qualified with_kind last_kind with_kinds last_kinds with_arguments last_arguments with_expr last_expr with_exprs last_exprs with_lambda_names last_lambda_names with_choice last_choice with_choices last_choices with_branch last_branch with_branches last_branches with_catch last_catch with_catches last_catches with_block last_block with_statement last_statement with_statements last_statements with_target last_target with_label last_label with_declared last_declared with_value last_value with_setter last_setter with_typed last_typed with_body last_body with_param_list last_param_list with_params last_params with_delegation last_delegation with_modifiers last_modifiers with_member last_member with_members last_members with_type_param_list last_type_param_list with_type_params last_type_params with_super_list last_super_list with_supers last_supers with_class_word last_class_word with_package last_package with_imports last_imports with_class last_class
acts_ClassOf d x q b is = makes_under a.ClassOf (place (place (place (place (expr d x b))))) d b.depths refl refl ∙ ap (λ u. u >>= λ q. Some (expr 1 (e.Class q made_class) b)) is

pub acts_NoExprs : (b : Built) → acts a.NoExprs b ≡ Some (exprs 0 [] [] b)
unfolding acts deepest levels build with_place last_place with_token last_token with_name last_name with_commas last_commas with_qualified last_qualified with_kind last_kind with_kinds last_kinds with_arguments last_arguments with_expr last_expr with_exprs last_exprs with_lambda_names last_lambda_names with_choice last_choice with_choices last_choices with_branch last_branch with_branches last_branches with_catch last_catch with_catches last_catches with_block last_block with_statement last_statement with_statements last_statements with_target last_target with_label last_label with_declared last_declared with_value last_value with_setter last_setter with_typed last_typed with_body last_body with_param_list last_param_list with_params last_params with_delegation last_delegation with_modifiers last_modifiers with_member last_member with_members last_members with_type_param_list last_type_param_list with_type_params last_type_params with_super_list last_super_list with_supers last_supers with_class_word last_class_word with_package last_package with_imports last_imports with_class last_class
acts_NoExprs b = refl

pub acts_AddExpr : (d : ℕ) (xs : List KExpr) (cs : List Position) (g : ℕ) (x : KExpr) (b : Built) → acts a.AddExpr (expr g x (exprs d xs cs b)) ≡ Some (exprs (max g d) (xs ++ x ∷ []) cs b)
unfolding acts deepest levels build with_place last_place with_token last_token with_name last_name with_commas last_commas with_qualified last_qualified with_kind last_kind with_kinds last_kinds with_arguments last_arguments with_expr last_expr with_exprs last_exprs with_lambda_names last_lambda_names with_choice last_choice with_choices last_choices with_branch last_branch with_branches last_branches with_catch last_catch with_catches last_catches with_block last_block with_statement last_statement with_statements last_statements with_target last_target with_label last_label with_declared last_declared with_value last_value with_setter last_setter with_typed last_typed with_body last_body with_param_list last_param_list with_params last_params with_delegation last_delegation with_modifiers last_modifiers with_member last_member with_members last_members with_type_param_list last_type_param_list with_type_params last_type_params with_super_list last_super_list with_supers last_supers with_class_word last_class_word with_package last_package with_imports last_imports with_class last_class
acts_AddExpr d xs cs g x b = refl

pub acts_WhenChoices : (d : ℕ) (x : KExpr) (g : ℕ) (xs : List KChoice) (i : ℕ) (z : KExpr) (b : Built) → Fits (max (max i g) d) → acts a.WhenChoices (place (expr i z (place (place (choices g xs (place (place (expr d x (place (place b)))))))))) ≡ Some (expr (suc (max (max i g) d)) (e.WhenValue made_head x made_brackets xs made_else z) b)
unfolding build levels with_place last_place with_token last_token with_name last_name with_commas last_commas with_qualified last_qualified with_kind last_kind with_kinds last_kinds with_arguments last_arguments with_expr last_expr with_exprs last_exprs with_lambda_names last_lambda_names with_choice last_choice with_choices last_choices with_branch last_branch with_branches last_branches with_catch last_catch with_catches last_catches with_block last_block with_statement last_statement with_statements last_statements with_target last_target with_label last_label with_declared last_declared with_value last_value with_setter last_setter with_typed last_typed with_body last_body with_param_list last_param_list with_params last_params with_delegation last_delegation with_modifiers last_modifiers with_member last_member with_members last_members with_type_param_list last_type_param_list with_type_params last_type_params with_super_list last_super_list with_supers last_supers with_class_word last_class_word with_package last_package with_imports last_imports with_class last_class
acts_WhenChoices d x g xs i z b fits = makes_three a.WhenChoices (place (expr i z (place (place (choices g xs (place (place (expr d x (place (place b)))))))))) i g d b.depths refl refl fits

pub acts_WhenChoicesFirst : (d : ℕ) (x : KExpr) (g : ℕ) (xs : List KChoice) (i : ℕ) (z : KExpr) (b : Built) → Fits (max (max i g) d) → acts a.WhenChoices (place (expr i z (choices g xs (place (place (place (place (expr d x (place (place b)))))))))) ≡ Some (expr (suc (max (max i g) d)) (e.WhenValue made_head x made_brackets xs made_else z) b)
unfolding build levels with_place last_place with_token last_token with_name last_name with_commas last_commas with_qualified last_qualified with_kind last_kind with_kinds last_kinds with_arguments last_arguments with_expr last_expr with_exprs last_exprs with_lambda_names last_lambda_names with_choice last_choice with_choices last_choices with_branch last_branch with_branches last_branches with_catch last_catch with_catches last_catches with_block last_block with_statement last_statement with_statements last_statements with_target last_target with_label last_label with_declared last_declared with_value last_value with_setter last_setter with_typed last_typed with_body last_body with_param_list last_param_list with_params last_params with_delegation last_delegation with_modifiers last_modifiers with_member last_member with_members last_members with_type_param_list last_type_param_list with_type_params last_type_params with_super_list last_super_list with_supers last_supers with_class_word last_class_word with_package last_package with_imports last_imports with_class last_class
acts_WhenChoicesFirst d x g xs i z b fits = makes_three a.WhenChoices (place (expr i z (choices g xs (place (place (place (place (expr d x (place (place b)))))))))) i g d b.depths refl refl fits

pub acts_Choice : (d : ℕ) (xs : List KExpr) (cs : List Position) (g : ℕ) (z : KExpr) (b : Built) → Fits (max g d) → acts a.Choice (expr g z (place (exprs d xs cs b))) ≡ Some (choice (suc (max g d)) (choice_made xs cs z) b)
unfolding build levels with_place last_place with_token last_token with_name last_name with_commas last_commas with_qualified last_qualified with_kind last_kind with_kinds last_kinds with_arguments last_arguments with_expr last_expr with_exprs last_exprs with_lambda_names last_lambda_names with_choice last_choice with_choices last_choices with_branch last_branch with_branches last_branches with_catch last_catch with_catches last_catches with_block last_block with_statement last_statement with_statements last_statements with_target last_target with_label last_label with_declared last_declared with_value last_value with_setter last_setter with_typed last_typed with_body last_body with_param_list last_param_list with_params last_params with_delegation last_delegation with_modifiers last_modifiers with_member last_member with_members last_members with_type_param_list last_type_param_list with_type_params last_type_params with_super_list last_super_list with_supers last_supers with_class_word last_class_word with_package last_package with_imports last_imports with_class last_class
acts_Choice d xs cs g z b fits = makes_two a.Choice (expr g z (place (exprs d xs cs b))) g d b.depths refl refl fits

pub acts_NoChoices : (b : Built) → acts a.NoChoices b ≡ Some (choices 0 [] b)
unfolding acts deepest levels build with_place last_place with_token last_token with_name last_name with_commas last_commas with_qualified last_qualified with_kind last_kind with_kinds last_kinds with_arguments last_arguments with_expr last_expr with_exprs last_exprs with_lambda_names last_lambda_names with_choice last_choice with_choices last_choices with_branch last_branch with_branches last_branches with_catch last_catch with_catches last_catches with_block last_block with_statement last_statement with_statements last_statements with_target last_target with_label last_label with_declared last_declared with_value last_value with_setter last_setter with_typed last_typed with_body last_body with_param_list last_param_list with_params last_params with_delegation last_delegation with_modifiers last_modifiers with_member last_member with_members last_members with_type_param_list last_type_param_list with_type_params last_type_params with_super_list last_super_list with_supers last_supers with_class_word last_class_word with_package last_package with_imports last_imports with_class last_class
acts_NoChoices b = refl

pub acts_AddChoice : (d : ℕ) (xs : List KChoice) (g : ℕ) (x : KChoice) (b : Built) → acts a.AddChoice (choice g x (choices d xs b)) ≡ Some (choices (max g d) (xs ++ x ∷ []) b)
unfolding acts deepest levels build with_place last_place with_token last_token with_name last_name with_commas last_commas with_qualified last_qualified with_kind last_kind with_kinds last_kinds with_arguments last_arguments with_expr last_expr with_exprs last_exprs with_lambda_names last_lambda_names with_choice last_choice with_choices last_choices with_branch last_branch with_branches last_branches with_catch last_catch with_catches last_catches with_block last_block with_statement last_statement with_statements last_statements with_target last_target with_label last_label with_declared last_declared with_value last_value with_setter last_setter with_typed last_typed with_body last_body with_param_list last_param_list with_params last_params with_delegation last_delegation with_modifiers last_modifiers with_member last_member with_members last_members with_type_param_list last_type_param_list with_type_params last_type_params with_super_list last_super_list with_supers last_supers with_class_word last_class_word with_package last_package with_imports last_imports with_class last_class
acts_AddChoice d xs g x b = refl

pub acts_AddChoiceFirst : (g : ℕ) (x : KChoice) (b : Built) → acts a.AddChoice (choices 0 [] (choice g x b)) ≡ Some (choices (max 0 g) (x ∷ []) b)
unfolding acts deepest levels build with_place last_place with_token last_token with_name last_name with_commas last_commas with_qualified last_qualified with_kind last_kind with_kinds last_kinds with_arguments last_arguments with_expr last_expr with_exprs last_exprs with_lambda_names last_lambda_names with_choice last_choice with_choices last_choices with_branch last_branch with_branches last_branches with_catch last_catch with_catches last_catches with_block last_block with_statement last_statement with_statements last_statements with_target last_target with_label last_label with_declared last_declared with_value last_value with_setter last_setter with_typed last_typed with_body last_body with_param_list last_param_list with_params last_params with_delegation last_delegation with_modifiers last_modifiers with_member last_member with_members last_members with_type_param_list last_type_param_list with_type_params last_type_params with_super_list last_super_list with_supers last_supers with_class_word last_class_word with_package last_package with_imports last_imports with_class last_class
acts_AddChoiceFirst g x b = refl

pub acts_NoStatements : (b : Built) → acts a.NoStatements b ≡ Some (stmts 0 [] b)
unfolding acts deepest levels build with_place last_place with_token last_token with_name last_name with_commas last_commas with_qualified last_qualified with_kind last_kind with_kinds last_kinds with_arguments last_arguments with_expr last_expr with_exprs last_exprs with_lambda_names last_lambda_names with_choice last_choice with_choices last_choices with_branch last_branch with_branches last_branches with_catch last_catch with_catches last_catches with_block last_block with_statement last_statement with_statements last_statements with_target last_target with_label last_label with_declared last_declared with_value last_value with_setter last_setter with_typed last_typed with_body last_body with_param_list last_param_list with_params last_params with_delegation last_delegation with_modifiers last_modifiers with_member last_member with_members last_members with_type_param_list last_type_param_list with_type_params last_type_params with_super_list last_super_list with_supers last_supers with_class_word last_class_word with_package last_package with_imports last_imports with_class last_class
acts_NoStatements b = refl

pub acts_AddStatement : (d : ℕ) (xs : List KStmt) (g : ℕ) (x : KStmt) (b : Built) → acts a.AddStatement (stmt g x (stmts d xs b)) ≡ Some (stmts (max g d) (xs ++ x ∷ []) b)
unfolding acts deepest levels build with_place last_place with_token last_token with_name last_name with_commas last_commas with_qualified last_qualified with_kind last_kind with_kinds last_kinds with_arguments last_arguments with_expr last_expr with_exprs last_exprs with_lambda_names last_lambda_names with_choice last_choice with_choices last_choices with_branch last_branch with_branches last_branches with_catch last_catch with_catches last_catches with_block last_block with_statement last_statement with_statements last_statements with_target last_target with_label last_label with_declared last_declared with_value last_value with_setter last_setter with_typed last_typed with_body last_body with_param_list last_param_list with_params last_params with_delegation last_delegation with_modifiers last_modifiers with_member last_member with_members last_members with_type_param_list last_type_param_list with_type_params last_type_params with_super_list last_super_list with_supers last_supers with_class_word last_class_word with_package last_package with_imports last_imports with_class last_class
acts_AddStatement d xs g x b = refl

pub acts_Block : (d : ℕ) (xs : List KStmt) (b : Built) → Fits d → acts a.Block (place (stmts d xs (place b))) ≡ Some (block (suc d) (record { curly = made_brackets; statements = xs }) b)
unfolding build levels with_place last_place with_token last_token with_name last_name with_commas last_commas with_qualified last_qualified with_kind last_kind with_kinds last_kinds with_arguments last_arguments with_expr last_expr with_exprs last_exprs with_lambda_names last_lambda_names with_choice last_choice with_choices last_choices with_branch last_branch with_branches last_branches with_catch last_catch with_catches last_catches with_block last_block with_statement last_statement with_statements last_statements with_target last_target with_label last_label with_declared last_declared with_value last_value with_setter last_setter with_typed last_typed with_body last_body with_param_list last_param_list with_params last_params with_delegation last_delegation with_modifiers last_modifiers with_member last_member with_members last_members with_type_param_list last_type_param_list with_type_params last_type_params with_super_list last_super_list with_supers last_supers with_class_word last_class_word with_package last_package with_imports last_imports with_class last_class
acts_Block d xs b fits = makes_one a.Block (place (stmts d xs (place b))) d b.depths refl refl fits

pub acts_Declared : (t : TokenKind) (n : List ℕ) (d : ℕ) (x : KType) (o : KVariability) (b : Built) → variability_of t ≡ Some o → acts a.Declared (kind d x (place (nm n (tok t b)))) ≡ Some (decl d (record { word = o; at = made; name = name_made n; colon = made; kind = x }) b)
unfolding acts deepest levels build with_place last_place with_token last_token with_name last_name with_commas last_commas with_qualified last_qualified with_kind last_kind with_kinds last_kinds with_arguments last_arguments with_expr last_expr with_exprs last_exprs with_lambda_names last_lambda_names with_choice last_choice with_choices last_choices with_branch last_branch with_branches last_branches with_catch last_catch with_catches last_catches with_block last_block with_statement last_statement with_statements last_statements with_target last_target with_label last_label with_declared last_declared with_value last_value with_setter last_setter with_typed last_typed with_body last_body with_param_list last_param_list with_params last_params with_delegation last_delegation with_modifiers last_modifiers with_member last_member with_members last_members with_type_param_list last_type_param_list with_type_params last_type_params with_super_list last_super_list with_supers last_supers with_class_word last_class_word with_package last_package with_imports last_imports with_class last_class
acts_Declared t n d x o b is = ap (λ u. u >>= λ o. Some (decl d (record { word = o; at = made; name = name_made n; colon = made; kind = x }) b)) is

pub acts_Local : (d : ℕ) (x : KDeclared) (g : ℕ) (z : KExpr) (b : Built) → Fits (max g d) → acts a.Local (expr g z (place (decl d x b))) ≡ Some (stmt (suc (max g d)) (e.Local x made z) b)
unfolding build levels with_place last_place with_token last_token with_name last_name with_commas last_commas with_qualified last_qualified with_kind last_kind with_kinds last_kinds with_arguments last_arguments with_expr last_expr with_exprs last_exprs with_lambda_names last_lambda_names with_choice last_choice with_choices last_choices with_branch last_branch with_branches last_branches with_catch last_catch with_catches last_catches with_block last_block with_statement last_statement with_statements last_statements with_target last_target with_label last_label with_declared last_declared with_value last_value with_setter last_setter with_typed last_typed with_body last_body with_param_list last_param_list with_params last_params with_delegation last_delegation with_modifiers last_modifiers with_member last_member with_members last_members with_type_param_list last_type_param_list with_type_params last_type_params with_super_list last_super_list with_supers last_supers with_class_word last_class_word with_package last_package with_imports last_imports with_class last_class
acts_Local d x g z b fits = makes_two a.Local (expr g z (place (decl d x b))) g d b.depths refl refl fits

pub acts_Unset : (d : ℕ) (x : KDeclared) (b : Built) → Fits d → acts a.Unset (decl d x b) ≡ Some (stmt (suc d) (e.Declared x) b)
unfolding build levels with_place last_place with_token last_token with_name last_name with_commas last_commas with_qualified last_qualified with_kind last_kind with_kinds last_kinds with_arguments last_arguments with_expr last_expr with_exprs last_exprs with_lambda_names last_lambda_names with_choice last_choice with_choices last_choices with_branch last_branch with_branches last_branches with_catch last_catch with_catches last_catches with_block last_block with_statement last_statement with_statements last_statements with_target last_target with_label last_label with_declared last_declared with_value last_value with_setter last_setter with_typed last_typed with_body last_body with_param_list last_param_list with_params last_params with_delegation last_delegation with_modifiers last_modifiers with_member last_member with_members last_members with_type_param_list last_type_param_list with_type_params last_type_params with_super_list last_super_list with_supers last_supers with_class_word last_class_word with_package last_package with_imports last_imports with_class last_class
acts_Unset d x b fits = makes_one a.Unset (decl d x b) d b.depths refl refl fits

pub acts_Expression : (d : ℕ) (x : KExpr) (b : Built) → Fits d → acts a.Expression (expr d x b) ≡ Some (stmt (suc d) (e.Expression x) b)
unfolding build levels with_place last_place with_token last_token with_name last_name with_commas last_commas with_qualified last_qualified with_kind last_kind with_kinds last_kinds with_arguments last_arguments with_expr last_expr with_exprs last_exprs with_lambda_names last_lambda_names with_choice last_choice with_choices last_choices with_branch last_branch with_branches last_branches with_catch last_catch with_catches last_catches with_block last_block with_statement last_statement with_statements last_statements with_target last_target with_label last_label with_declared last_declared with_value last_value with_setter last_setter with_typed last_typed with_body last_body with_param_list last_param_list with_params last_params with_delegation last_delegation with_modifiers last_modifiers with_member last_member with_members last_members with_type_param_list last_type_param_list with_type_params last_type_params with_super_list last_super_list with_supers last_supers with_class_word last_class_word with_package last_package with_imports last_imports with_class last_class
acts_Expression d x b fits = makes_one a.Expression (expr d x b) d b.depths refl refl fits

pub acts_Assign : (d : ℕ) (x : KExpr) (g : ℕ) (z : KExpr) (b : Built) → is_target x ≡ true → Fits (max g d) → acts a.Assign (expr g z (place (expr d x b))) ≡ Some (stmt (suc (max g d)) (e.Assign x made z) b)
unfolding build levels with_place last_place with_token last_token with_name last_name with_commas last_commas with_qualified last_qualified with_kind last_kind with_kinds last_kinds with_arguments last_arguments with_expr last_expr with_exprs last_exprs with_lambda_names last_lambda_names with_choice last_choice with_choices last_choices with_branch last_branch with_branches last_branches with_catch last_catch with_catches last_catches with_block last_block with_statement last_statement with_statements last_statements with_target last_target with_label last_label with_declared last_declared with_value last_value with_setter last_setter with_typed last_typed with_body last_body with_param_list last_param_list with_params last_params with_delegation last_delegation with_modifiers last_modifiers with_member last_member with_members last_members with_type_param_list last_type_param_list with_type_params last_type_params with_super_list last_super_list with_supers last_supers with_class_word last_class_word with_package last_package with_imports last_imports with_class last_class
acts_Assign d x g z b is fits = makes_two a.Assign (expr g z (place (expr d x b))) g d b.depths refl refl fits ∙ ap (λ u. if u then Some (stmt (suc (max g d)) (e.Assign x made z) b) else None) is

pub acts_Label : (n : List ℕ) (b : Built) → acts a.Label (place (nm n b)) ≡ Some (label (Some (record { name = name_made n; at = made })) b)
unfolding acts deepest levels build with_place last_place with_token last_token with_name last_name with_commas last_commas with_qualified last_qualified with_kind last_kind with_kinds last_kinds with_arguments last_arguments with_expr last_expr with_exprs last_exprs with_lambda_names last_lambda_names with_choice last_choice with_choices last_choices with_branch last_branch with_branches last_branches with_catch last_catch with_catches last_catches with_block last_block with_statement last_statement with_statements last_statements with_target last_target with_label last_label with_declared last_declared with_value last_value with_setter last_setter with_typed last_typed with_body last_body with_param_list last_param_list with_params last_params with_delegation last_delegation with_modifiers last_modifiers with_member last_member with_members last_members with_type_param_list last_type_param_list with_type_params last_type_params with_super_list last_super_list with_supers last_supers with_class_word last_class_word with_package last_package with_imports last_imports with_class last_class
acts_Label n b = refl

pub acts_NoLabel : (b : Built) → acts a.NoLabel b ≡ Some (label None b)
unfolding acts deepest levels build with_place last_place with_token last_token with_name last_name with_commas last_commas with_qualified last_qualified with_kind last_kind with_kinds last_kinds with_arguments last_arguments with_expr last_expr with_exprs last_exprs with_lambda_names last_lambda_names with_choice last_choice with_choices last_choices with_branch last_branch with_branches last_branches with_catch last_catch with_catches last_catches with_block last_block with_statement last_statement with_statements last_statements with_target last_target with_label last_label with_declared last_declared with_value last_value with_setter last_setter with_typed last_typed with_body last_body with_param_list last_param_list with_params last_params with_delegation last_delegation with_modifiers last_modifiers with_member last_member with_members last_members with_type_param_list last_type_param_list with_type_params last_type_params with_super_list last_super_list with_supers last_supers with_class_word last_class_word with_package last_package with_imports last_imports with_class last_class
acts_NoLabel b = refl

pub acts_While : (l : Option KLabel) (d : ℕ) (x : KExpr) (g : ℕ) (k : KBlock) (b : Built) → Fits (max g d) → acts a.While (block g k (place (expr d x (place (place (label l b)))))) ≡ Some (stmt (suc (max g d)) (e.While l made_head x k.curly k.statements) b)
unfolding build levels with_place last_place with_token last_token with_name last_name with_commas last_commas with_qualified last_qualified with_kind last_kind with_kinds last_kinds with_arguments last_arguments with_expr last_expr with_exprs last_exprs with_lambda_names last_lambda_names with_choice last_choice with_choices last_choices with_branch last_branch with_branches last_branches with_catch last_catch with_catches last_catches with_block last_block with_statement last_statement with_statements last_statements with_target last_target with_label last_label with_declared last_declared with_value last_value with_setter last_setter with_typed last_typed with_body last_body with_param_list last_param_list with_params last_params with_delegation last_delegation with_modifiers last_modifiers with_member last_member with_members last_members with_type_param_list last_type_param_list with_type_params last_type_params with_super_list last_super_list with_supers last_supers with_class_word last_class_word with_package last_package with_imports last_imports with_class last_class
acts_While l d x g k b fits = makes_two a.While (block g k (place (expr d x (place (place (label l b)))))) g d b.depths refl refl fits

pub acts_DoWhile : (l : Option KLabel) (g : ℕ) (k : KBlock) (d : ℕ) (x : KExpr) (b : Built) → Fits (max d g) → acts a.DoWhile (place (expr d x (place (place (block g k (place (label l b))))))) ≡ Some (stmt (suc (max d g)) (e.DoWhile l made k.curly k.statements made_head x) b)
unfolding build levels with_place last_place with_token last_token with_name last_name with_commas last_commas with_qualified last_qualified with_kind last_kind with_kinds last_kinds with_arguments last_arguments with_expr last_expr with_exprs last_exprs with_lambda_names last_lambda_names with_choice last_choice with_choices last_choices with_branch last_branch with_branches last_branches with_catch last_catch with_catches last_catches with_block last_block with_statement last_statement with_statements last_statements with_target last_target with_label last_label with_declared last_declared with_value last_value with_setter last_setter with_typed last_typed with_body last_body with_param_list last_param_list with_params last_params with_delegation last_delegation with_modifiers last_modifiers with_member last_member with_members last_members with_type_param_list last_type_param_list with_type_params last_type_params with_super_list last_super_list with_supers last_supers with_class_word last_class_word with_package last_package with_imports last_imports with_class last_class
acts_DoWhile l g k d x b fits = makes_two a.DoWhile (place (expr d x (place (place (block g k (place (label l b))))))) d g b.depths refl refl fits

pub acts_For : (l : Option KLabel) (n : List ℕ) (d : ℕ) (x : KExpr) (g : ℕ) (k : KBlock) (b : Built) → Fits (max g d) → acts a.For (block g k (place (expr d x (place (nm n (place (place (label l b)))))))) ≡ Some (stmt (suc (max g d)) (e.For l made_head (name_made n) made x k.curly k.statements) b)
unfolding build levels with_place last_place with_token last_token with_name last_name with_commas last_commas with_qualified last_qualified with_kind last_kind with_kinds last_kinds with_arguments last_arguments with_expr last_expr with_exprs last_exprs with_lambda_names last_lambda_names with_choice last_choice with_choices last_choices with_branch last_branch with_branches last_branches with_catch last_catch with_catches last_catches with_block last_block with_statement last_statement with_statements last_statements with_target last_target with_label last_label with_declared last_declared with_value last_value with_setter last_setter with_typed last_typed with_body last_body with_param_list last_param_list with_params last_params with_delegation last_delegation with_modifiers last_modifiers with_member last_member with_members last_members with_type_param_list last_type_param_list with_type_params last_type_params with_super_list last_super_list with_supers last_supers with_class_word last_class_word with_package last_package with_imports last_imports with_class last_class
acts_For l n d x g k b fits = makes_two a.For (block g k (place (expr d x (place (nm n (place (place (label l b)))))))) g d b.depths refl refl fits

pub acts_ForRange : (l : Option KLabel) (n : List ℕ) (d : ℕ) (x : KExpr) (g : ℕ) (z : KExpr) (i : ℕ) (k : KBlock) (b : Built) → Fits (max (max i g) d) → acts a.ForRange (block i k (place (expr g z (place (expr d x (place (nm n (place (place (label l b)))))))))) ≡ Some (stmt (suc (max (max i g) d)) (e.ForRange l made_head (name_made n) made x made z k.curly k.statements) b)
unfolding build levels with_place last_place with_token last_token with_name last_name with_commas last_commas with_qualified last_qualified with_kind last_kind with_kinds last_kinds with_arguments last_arguments with_expr last_expr with_exprs last_exprs with_lambda_names last_lambda_names with_choice last_choice with_choices last_choices with_branch last_branch with_branches last_branches with_catch last_catch with_catches last_catches with_block last_block with_statement last_statement with_statements last_statements with_target last_target with_label last_label with_declared last_declared with_value last_value with_setter last_setter with_typed last_typed with_body last_body with_param_list last_param_list with_params last_params with_delegation last_delegation with_modifiers last_modifiers with_member last_member with_members last_members with_type_param_list last_type_param_list with_type_params last_type_params with_super_list last_super_list with_supers last_supers with_class_word last_class_word with_package last_package with_imports last_imports with_class last_class
acts_ForRange l n d x g z i k b fits = makes_three a.ForRange (block i k (place (expr g z (place (expr d x (place (nm n (place (place (label l b)))))))))) i g d b.depths refl refl fits

pub acts_If : (d : ℕ) (x : KExpr) (g : ℕ) (k : KBlock) (b : Built) → Fits (max g d) → acts a.If (block g k (place (expr d x (place (place b))))) ≡ Some (stmt (suc (max g d)) (e.If made_head x k.curly k.statements) b)
unfolding build levels with_place last_place with_token last_token with_name last_name with_commas last_commas with_qualified last_qualified with_kind last_kind with_kinds last_kinds with_arguments last_arguments with_expr last_expr with_exprs last_exprs with_lambda_names last_lambda_names with_choice last_choice with_choices last_choices with_branch last_branch with_branches last_branches with_catch last_catch with_catches last_catches with_block last_block with_statement last_statement with_statements last_statements with_target last_target with_label last_label with_declared last_declared with_value last_value with_setter last_setter with_typed last_typed with_body last_body with_param_list last_param_list with_params last_params with_delegation last_delegation with_modifiers last_modifiers with_member last_member with_members last_members with_type_param_list last_type_param_list with_type_params last_type_params with_super_list last_super_list with_supers last_supers with_class_word last_class_word with_package last_package with_imports last_imports with_class last_class
acts_If d x g k b fits = makes_two a.If (block g k (place (expr d x (place (place b))))) g d b.depths refl refl fits

pub acts_IfElse : (d : ℕ) (x : KExpr) (g : ℕ) (k : KBlock) (i : ℕ) (l : KBlock) (b : Built) → Fits (max (max i g) d) → acts a.IfElse (block i l (place (block g k (place (expr d x (place (place b))))))) ≡ Some (stmt (suc (max (max i g) d)) (e.IfElse made_head x k.curly k.statements made l.curly l.statements) b)
unfolding build levels with_place last_place with_token last_token with_name last_name with_commas last_commas with_qualified last_qualified with_kind last_kind with_kinds last_kinds with_arguments last_arguments with_expr last_expr with_exprs last_exprs with_lambda_names last_lambda_names with_choice last_choice with_choices last_choices with_branch last_branch with_branches last_branches with_catch last_catch with_catches last_catches with_block last_block with_statement last_statement with_statements last_statements with_target last_target with_label last_label with_declared last_declared with_value last_value with_setter last_setter with_typed last_typed with_body last_body with_param_list last_param_list with_params last_params with_delegation last_delegation with_modifiers last_modifiers with_member last_member with_members last_members with_type_param_list last_type_param_list with_type_params last_type_params with_super_list last_super_list with_supers last_supers with_class_word last_class_word with_package last_package with_imports last_imports with_class last_class
acts_IfElse d x g k i l b fits = makes_three a.IfElse (block i l (place (block g k (place (expr d x (place (place b))))))) i g d b.depths refl refl fits

pub acts_IfElseIf : (d : ℕ) (x : KExpr) (g : ℕ) (k : KBlock) (i : ℕ) (z : KStmt) (b : Built) → Fits (max (max i g) d) → acts a.IfElseIf (stmt i z (place (block g k (place (expr d x (place (place b))))))) ≡ Some (stmt (suc (max (max i g) d)) (e.IfElseIf made_head x k.curly k.statements made z) b)
unfolding build levels with_place last_place with_token last_token with_name last_name with_commas last_commas with_qualified last_qualified with_kind last_kind with_kinds last_kinds with_arguments last_arguments with_expr last_expr with_exprs last_exprs with_lambda_names last_lambda_names with_choice last_choice with_choices last_choices with_branch last_branch with_branches last_branches with_catch last_catch with_catches last_catches with_block last_block with_statement last_statement with_statements last_statements with_target last_target with_label last_label with_declared last_declared with_value last_value with_setter last_setter with_typed last_typed with_body last_body with_param_list last_param_list with_params last_params with_delegation last_delegation with_modifiers last_modifiers with_member last_member with_members last_members with_type_param_list last_type_param_list with_type_params last_type_params with_super_list last_super_list with_supers last_supers with_class_word last_class_word with_package last_package with_imports last_imports with_class last_class
acts_IfElseIf d x g k i z b fits = makes_three a.IfElseIf (stmt i z (place (block g k (place (expr d x (place (place b))))))) i g d b.depths refl refl fits

pub acts_Branch : (d : ℕ) (xs : List KExpr) (cs : List Position) (g : ℕ) (k : KBlock) (b : Built) → Fits (max g d) → acts a.Branch (block g k (place (exprs d xs cs b))) ≡ Some (branch (suc (max g d)) (branch_made xs cs k) b)
unfolding build levels with_place last_place with_token last_token with_name last_name with_commas last_commas with_qualified last_qualified with_kind last_kind with_kinds last_kinds with_arguments last_arguments with_expr last_expr with_exprs last_exprs with_lambda_names last_lambda_names with_choice last_choice with_choices last_choices with_branch last_branch with_branches last_branches with_catch last_catch with_catches last_catches with_block last_block with_statement last_statement with_statements last_statements with_target last_target with_label last_label with_declared last_declared with_value last_value with_setter last_setter with_typed last_typed with_body last_body with_param_list last_param_list with_params last_params with_delegation last_delegation with_modifiers last_modifiers with_member last_member with_members last_members with_type_param_list last_type_param_list with_type_params last_type_params with_super_list last_super_list with_supers last_supers with_class_word last_class_word with_package last_package with_imports last_imports with_class last_class
acts_Branch d xs cs g k b fits = makes_two a.Branch (block g k (place (exprs d xs cs b))) g d b.depths refl refl fits

pub acts_NoBranches : (b : Built) → acts a.NoBranches b ≡ Some (branches 0 [] b)
unfolding acts deepest levels build with_place last_place with_token last_token with_name last_name with_commas last_commas with_qualified last_qualified with_kind last_kind with_kinds last_kinds with_arguments last_arguments with_expr last_expr with_exprs last_exprs with_lambda_names last_lambda_names with_choice last_choice with_choices last_choices with_branch last_branch with_branches last_branches with_catch last_catch with_catches last_catches with_block last_block with_statement last_statement with_statements last_statements with_target last_target with_label last_label with_declared last_declared with_value last_value with_setter last_setter with_typed last_typed with_body last_body with_param_list last_param_list with_params last_params with_delegation last_delegation with_modifiers last_modifiers with_member last_member with_members last_members with_type_param_list last_type_param_list with_type_params last_type_params with_super_list last_super_list with_supers last_supers with_class_word last_class_word with_package last_package with_imports last_imports with_class last_class
acts_NoBranches b = refl

pub acts_AddBranch : (d : ℕ) (xs : List KBranch) (g : ℕ) (x : KBranch) (b : Built) → acts a.AddBranch (branch g x (branches d xs b)) ≡ Some (branches (max g d) (xs ++ x ∷ []) b)
unfolding acts deepest levels build with_place last_place with_token last_token with_name last_name with_commas last_commas with_qualified last_qualified with_kind last_kind with_kinds last_kinds with_arguments last_arguments with_expr last_expr with_exprs last_exprs with_lambda_names last_lambda_names with_choice last_choice with_choices last_choices with_branch last_branch with_branches last_branches with_catch last_catch with_catches last_catches with_block last_block with_statement last_statement with_statements last_statements with_target last_target with_label last_label with_declared last_declared with_value last_value with_setter last_setter with_typed last_typed with_body last_body with_param_list last_param_list with_params last_params with_delegation last_delegation with_modifiers last_modifiers with_member last_member with_members last_members with_type_param_list last_type_param_list with_type_params last_type_params with_super_list last_super_list with_supers last_supers with_class_word last_class_word with_package last_package with_imports last_imports with_class last_class
acts_AddBranch d xs g x b = refl

pub acts_AddBranchFirst : (g : ℕ) (x : KBranch) (b : Built) → acts a.AddBranch (branches 0 [] (branch g x b)) ≡ Some (branches (max 0 g) (x ∷ []) b)
unfolding acts deepest levels build with_place last_place with_token last_token with_name last_name with_commas last_commas with_qualified last_qualified with_kind last_kind with_kinds last_kinds with_arguments last_arguments with_expr last_expr with_exprs last_exprs with_lambda_names last_lambda_names with_choice last_choice with_choices last_choices with_branch last_branch with_branches last_branches with_catch last_catch with_catches last_catches with_block last_block with_statement last_statement with_statements last_statements with_target last_target with_label last_label with_declared last_declared with_value last_value with_setter last_setter with_typed last_typed with_body last_body with_param_list last_param_list with_params last_params with_delegation last_delegation with_modifiers last_modifiers with_member last_member with_members last_members with_type_param_list last_type_param_list with_type_params last_type_params with_super_list last_super_list with_supers last_supers with_class_word last_class_word with_package last_package with_imports last_imports with_class last_class
acts_AddBranchFirst g x b = refl

pub acts_WhenBranches : (d : ℕ) (x : KExpr) (g : ℕ) (xs : List KBranch) (i : ℕ) (k : KBlock) (b : Built) → Fits (max (max i g) d) → acts a.WhenBranches (place (block i k (place (place (branches g xs (place (place (expr d x (place (place b)))))))))) ≡ Some (stmt (suc (max (max i g) d)) (e.When made_head x made_brackets xs made_else k.curly k.statements) b)
unfolding build levels with_place last_place with_token last_token with_name last_name with_commas last_commas with_qualified last_qualified with_kind last_kind with_kinds last_kinds with_arguments last_arguments with_expr last_expr with_exprs last_exprs with_lambda_names last_lambda_names with_choice last_choice with_choices last_choices with_branch last_branch with_branches last_branches with_catch last_catch with_catches last_catches with_block last_block with_statement last_statement with_statements last_statements with_target last_target with_label last_label with_declared last_declared with_value last_value with_setter last_setter with_typed last_typed with_body last_body with_param_list last_param_list with_params last_params with_delegation last_delegation with_modifiers last_modifiers with_member last_member with_members last_members with_type_param_list last_type_param_list with_type_params last_type_params with_super_list last_super_list with_supers last_supers with_class_word last_class_word with_package last_package with_imports last_imports with_class last_class
acts_WhenBranches d x g xs i k b fits = makes_three a.WhenBranches (place (block i k (place (place (branches g xs (place (place (expr d x (place (place b)))))))))) i g d b.depths refl refl fits

pub acts_WhenBranchesFirst : (d : ℕ) (x : KExpr) (g : ℕ) (xs : List KBranch) (i : ℕ) (k : KBlock) (b : Built) → Fits (max (max i g) d) → acts a.WhenBranches (place (block i k (branches g xs (place (place (place (place (expr d x (place (place b)))))))))) ≡ Some (stmt (suc (max (max i g) d)) (e.When made_head x made_brackets xs made_else k.curly k.statements) b)
unfolding build levels with_place last_place with_token last_token with_name last_name with_commas last_commas with_qualified last_qualified with_kind last_kind with_kinds last_kinds with_arguments last_arguments with_expr last_expr with_exprs last_exprs with_lambda_names last_lambda_names with_choice last_choice with_choices last_choices with_branch last_branch with_branches last_branches with_catch last_catch with_catches last_catches with_block last_block with_statement last_statement with_statements last_statements with_target last_target with_label last_label with_declared last_declared with_value last_value with_setter last_setter with_typed last_typed with_body last_body with_param_list last_param_list with_params last_params with_delegation last_delegation with_modifiers last_modifiers with_member last_member with_members last_members with_type_param_list last_type_param_list with_type_params last_type_params with_super_list last_super_list with_supers last_supers with_class_word last_class_word with_package last_package with_imports last_imports with_class last_class
acts_WhenBranchesFirst d x g xs i k b fits = makes_three a.WhenBranches (place (block i k (branches g xs (place (place (place (place (expr d x (place (place b)))))))))) i g d b.depths refl refl fits

pub acts_Target : (n : List ℕ) (b : Built) → acts a.Target (nm n (place b)) ≡ Some (target (Some (record { at = made; name = name_made n })) b)
unfolding acts deepest levels build with_place last_place with_token last_token with_name last_name with_commas last_commas with_qualified last_qualified with_kind last_kind with_kinds last_kinds with_arguments last_arguments with_expr last_expr with_exprs last_exprs with_lambda_names last_lambda_names with_choice last_choice with_choices last_choices with_branch last_branch with_branches last_branches with_catch last_catch with_catches last_catches with_block last_block with_statement last_statement with_statements last_statements with_target last_target with_label last_label with_declared last_declared with_value last_value with_setter last_setter with_typed last_typed with_body last_body with_param_list last_param_list with_params last_params with_delegation last_delegation with_modifiers last_modifiers with_member last_member with_members last_members with_type_param_list last_type_param_list with_type_params last_type_params with_super_list last_super_list with_supers last_supers with_class_word last_class_word with_package last_package with_imports last_imports with_class last_class
acts_Target n b = refl

pub acts_NoTarget : (b : Built) → acts a.NoTarget b ≡ Some (target None b)
unfolding acts deepest levels build with_place last_place with_token last_token with_name last_name with_commas last_commas with_qualified last_qualified with_kind last_kind with_kinds last_kinds with_arguments last_arguments with_expr last_expr with_exprs last_exprs with_lambda_names last_lambda_names with_choice last_choice with_choices last_choices with_branch last_branch with_branches last_branches with_catch last_catch with_catches last_catches with_block last_block with_statement last_statement with_statements last_statements with_target last_target with_label last_label with_declared last_declared with_value last_value with_setter last_setter with_typed last_typed with_body last_body with_param_list last_param_list with_params last_params with_delegation last_delegation with_modifiers last_modifiers with_member last_member with_members last_members with_type_param_list last_type_param_list with_type_params last_type_params with_super_list last_super_list with_supers last_supers with_class_word last_class_word with_package last_package with_imports last_imports with_class last_class
acts_NoTarget b = refl

pub acts_Break : (o : Option KTarget) (b : Built) → acts a.Break (target o (place b)) ≡ Some (stmt 1 (e.Break made o) b)
unfolding build levels with_place last_place with_token last_token with_name last_name with_commas last_commas with_qualified last_qualified with_kind last_kind with_kinds last_kinds with_arguments last_arguments with_expr last_expr with_exprs last_exprs with_lambda_names last_lambda_names with_choice last_choice with_choices last_choices with_branch last_branch with_branches last_branches with_catch last_catch with_catches last_catches with_block last_block with_statement last_statement with_statements last_statements with_target last_target with_label last_label with_declared last_declared with_value last_value with_setter last_setter with_typed last_typed with_body last_body with_param_list last_param_list with_params last_params with_delegation last_delegation with_modifiers last_modifiers with_member last_member with_members last_members with_type_param_list last_type_param_list with_type_params last_type_params with_super_list last_super_list with_supers last_supers with_class_word last_class_word with_package last_package with_imports last_imports with_class last_class
acts_Break o b = makes_leaf a.Break (target o (place b)) refl

pub acts_Continue : (o : Option KTarget) (b : Built) → acts a.Continue (target o (place b)) ≡ Some (stmt 1 (e.Continue made o) b)
unfolding build levels with_place last_place with_token last_token with_name last_name with_commas last_commas with_qualified last_qualified with_kind last_kind with_kinds last_kinds with_arguments last_arguments with_expr last_expr with_exprs last_exprs with_lambda_names last_lambda_names with_choice last_choice with_choices last_choices with_branch last_branch with_branches last_branches with_catch last_catch with_catches last_catches with_block last_block with_statement last_statement with_statements last_statements with_target last_target with_label last_label with_declared last_declared with_value last_value with_setter last_setter with_typed last_typed with_body last_body with_param_list last_param_list with_params last_params with_delegation last_delegation with_modifiers last_modifiers with_member last_member with_members last_members with_type_param_list last_type_param_list with_type_params last_type_params with_super_list last_super_list with_supers last_supers with_class_word last_class_word with_package last_package with_imports last_imports with_class last_class
acts_Continue o b = makes_leaf a.Continue (target o (place b)) refl

pub acts_Return : (o : Option KTarget) (b : Built) → acts a.Return (target o (place b)) ≡ Some (stmt 1 (e.Return made o) b)
unfolding build levels with_place last_place with_token last_token with_name last_name with_commas last_commas with_qualified last_qualified with_kind last_kind with_kinds last_kinds with_arguments last_arguments with_expr last_expr with_exprs last_exprs with_lambda_names last_lambda_names with_choice last_choice with_choices last_choices with_branch last_branch with_branches last_branches with_catch last_catch with_catches last_catches with_block last_block with_statement last_statement with_statements last_statements with_target last_target with_label last_label with_declared last_declared with_value last_value with_setter last_setter with_typed last_typed with_body last_body with_param_list last_param_list with_params last_params with_delegation last_delegation with_modifiers last_modifiers with_member last_member with_members last_members with_type_param_list last_type_param_list with_type_params last_type_params with_super_list last_super_list with_supers last_supers with_class_word last_class_word with_package last_package with_imports last_imports with_class last_class
acts_Return o b = makes_leaf a.Return (target o (place b)) refl

pub acts_Give : (o : Option KTarget) (d : ℕ) (x : KExpr) (b : Built) → Fits d → acts a.Give (expr d x (target o (place b))) ≡ Some (stmt (suc d) (e.Give made o x) b)
unfolding build levels with_place last_place with_token last_token with_name last_name with_commas last_commas with_qualified last_qualified with_kind last_kind with_kinds last_kinds with_arguments last_arguments with_expr last_expr with_exprs last_exprs with_lambda_names last_lambda_names with_choice last_choice with_choices last_choices with_branch last_branch with_branches last_branches with_catch last_catch with_catches last_catches with_block last_block with_statement last_statement with_statements last_statements with_target last_target with_label last_label with_declared last_declared with_value last_value with_setter last_setter with_typed last_typed with_body last_body with_param_list last_param_list with_params last_params with_delegation last_delegation with_modifiers last_modifiers with_member last_member with_members last_members with_type_param_list last_type_param_list with_type_params last_type_params with_super_list last_super_list with_supers last_supers with_class_word last_class_word with_package last_package with_imports last_imports with_class last_class
acts_Give o d x b fits = makes_one a.Give (expr d x (target o (place b))) d b.depths refl refl fits

pub acts_Throw : (d : ℕ) (x : KExpr) (b : Built) → Fits d → acts a.Throw (expr d x (place b)) ≡ Some (stmt (suc d) (e.Throw made x) b)
unfolding build levels with_place last_place with_token last_token with_name last_name with_commas last_commas with_qualified last_qualified with_kind last_kind with_kinds last_kinds with_arguments last_arguments with_expr last_expr with_exprs last_exprs with_lambda_names last_lambda_names with_choice last_choice with_choices last_choices with_branch last_branch with_branches last_branches with_catch last_catch with_catches last_catches with_block last_block with_statement last_statement with_statements last_statements with_target last_target with_label last_label with_declared last_declared with_value last_value with_setter last_setter with_typed last_typed with_body last_body with_param_list last_param_list with_params last_params with_delegation last_delegation with_modifiers last_modifiers with_member last_member with_members last_members with_type_param_list last_type_param_list with_type_params last_type_params with_super_list last_super_list with_supers last_supers with_class_word last_class_word with_package last_package with_imports last_imports with_class last_class
acts_Throw d x b fits = makes_one a.Throw (expr d x (place b)) d b.depths refl refl fits

pub acts_NoCatches : (b : Built) → acts a.NoCatches b ≡ Some (catches 0 [] b)
unfolding acts deepest levels build with_place last_place with_token last_token with_name last_name with_commas last_commas with_qualified last_qualified with_kind last_kind with_kinds last_kinds with_arguments last_arguments with_expr last_expr with_exprs last_exprs with_lambda_names last_lambda_names with_choice last_choice with_choices last_choices with_branch last_branch with_branches last_branches with_catch last_catch with_catches last_catches with_block last_block with_statement last_statement with_statements last_statements with_target last_target with_label last_label with_declared last_declared with_value last_value with_setter last_setter with_typed last_typed with_body last_body with_param_list last_param_list with_params last_params with_delegation last_delegation with_modifiers last_modifiers with_member last_member with_members last_members with_type_param_list last_type_param_list with_type_params last_type_params with_super_list last_super_list with_supers last_supers with_class_word last_class_word with_package last_package with_imports last_imports with_class last_class
acts_NoCatches b = refl

pub acts_Catch : (n : List ℕ) (d : ℕ) (x : KType) (g : ℕ) (k : KBlock) (b : Built) → Fits (max g d) → acts a.Catch (block g k (place (kind d x (place (nm n (place (place b))))))) ≡ Some (catch (suc (max g d)) (catch_made n x k) b)
unfolding build levels with_place last_place with_token last_token with_name last_name with_commas last_commas with_qualified last_qualified with_kind last_kind with_kinds last_kinds with_arguments last_arguments with_expr last_expr with_exprs last_exprs with_lambda_names last_lambda_names with_choice last_choice with_choices last_choices with_branch last_branch with_branches last_branches with_catch last_catch with_catches last_catches with_block last_block with_statement last_statement with_statements last_statements with_target last_target with_label last_label with_declared last_declared with_value last_value with_setter last_setter with_typed last_typed with_body last_body with_param_list last_param_list with_params last_params with_delegation last_delegation with_modifiers last_modifiers with_member last_member with_members last_members with_type_param_list last_type_param_list with_type_params last_type_params with_super_list last_super_list with_supers last_supers with_class_word last_class_word with_package last_package with_imports last_imports with_class last_class
acts_Catch n d x g k b fits = makes_two a.Catch (block g k (place (kind d x (place (nm n (place (place b))))))) g d b.depths refl refl fits

pub acts_AddCatch : (d : ℕ) (xs : List KCatch) (g : ℕ) (x : KCatch) (b : Built) → acts a.AddCatch (catch g x (catches d xs b)) ≡ Some (catches (max g d) (xs ++ x ∷ []) b)
unfolding acts deepest levels build with_place last_place with_token last_token with_name last_name with_commas last_commas with_qualified last_qualified with_kind last_kind with_kinds last_kinds with_arguments last_arguments with_expr last_expr with_exprs last_exprs with_lambda_names last_lambda_names with_choice last_choice with_choices last_choices with_branch last_branch with_branches last_branches with_catch last_catch with_catches last_catches with_block last_block with_statement last_statement with_statements last_statements with_target last_target with_label last_label with_declared last_declared with_value last_value with_setter last_setter with_typed last_typed with_body last_body with_param_list last_param_list with_params last_params with_delegation last_delegation with_modifiers last_modifiers with_member last_member with_members last_members with_type_param_list last_type_param_list with_type_params last_type_params with_super_list last_super_list with_supers last_supers with_class_word last_class_word with_package last_package with_imports last_imports with_class last_class
acts_AddCatch d xs g x b = refl

pub acts_Try : (d : ℕ) (k : KBlock) (g : ℕ) (xs : List KCatch) (b : Built) → Fits (max g d) → acts a.Try (catches g xs (block d k (place b))) ≡ Some (stmt (suc (max g d)) (e.Try made k.curly k.statements xs) b)
unfolding build levels with_place last_place with_token last_token with_name last_name with_commas last_commas with_qualified last_qualified with_kind last_kind with_kinds last_kinds with_arguments last_arguments with_expr last_expr with_exprs last_exprs with_lambda_names last_lambda_names with_choice last_choice with_choices last_choices with_branch last_branch with_branches last_branches with_catch last_catch with_catches last_catches with_block last_block with_statement last_statement with_statements last_statements with_target last_target with_label last_label with_declared last_declared with_value last_value with_setter last_setter with_typed last_typed with_body last_body with_param_list last_param_list with_params last_params with_delegation last_delegation with_modifiers last_modifiers with_member last_member with_members last_members with_type_param_list last_type_param_list with_type_params last_type_params with_super_list last_super_list with_supers last_supers with_class_word last_class_word with_package last_package with_imports last_imports with_class last_class
acts_Try d k g xs b fits = makes_two a.Try (catches g xs (block d k (place b))) g d b.depths refl refl fits

pub acts_TryFinally : (d : ℕ) (k : KBlock) (g : ℕ) (xs : List KCatch) (i : ℕ) (l : KBlock) (b : Built) → Fits (max (max i g) d) → acts a.TryFinally (block i l (place (catches g xs (block d k (place b))))) ≡ Some (stmt (suc (max (max i g) d)) (e.TryFinally made k.curly k.statements xs (record { word = made; curly = l.curly }) l.statements) b)
unfolding build levels with_place last_place with_token last_token with_name last_name with_commas last_commas with_qualified last_qualified with_kind last_kind with_kinds last_kinds with_arguments last_arguments with_expr last_expr with_exprs last_exprs with_lambda_names last_lambda_names with_choice last_choice with_choices last_choices with_branch last_branch with_branches last_branches with_catch last_catch with_catches last_catches with_block last_block with_statement last_statement with_statements last_statements with_target last_target with_label last_label with_declared last_declared with_value last_value with_setter last_setter with_typed last_typed with_body last_body with_param_list last_param_list with_params last_params with_delegation last_delegation with_modifiers last_modifiers with_member last_member with_members last_members with_type_param_list last_type_param_list with_type_params last_type_params with_super_list last_super_list with_supers last_supers with_class_word last_class_word with_package last_package with_imports last_imports with_class last_class
acts_TryFinally d k g xs i l b fits = makes_three a.TryFinally (block i l (place (catches g xs (block d k (place b))))) i g d b.depths refl refl fits

pub acts_Synchronized : (d : ℕ) (x : KExpr) (g : ℕ) (k : KBlock) (b : Built) → Fits (max g d) → acts a.Synchronized (block g k (place (expr d x (place (place b))))) ≡ Some (stmt (suc (max g d)) (e.Synchronized made_head x k.curly k.statements) b)
unfolding build levels with_place last_place with_token last_token with_name last_name with_commas last_commas with_qualified last_qualified with_kind last_kind with_kinds last_kinds with_arguments last_arguments with_expr last_expr with_exprs last_exprs with_lambda_names last_lambda_names with_choice last_choice with_choices last_choices with_branch last_branch with_branches last_branches with_catch last_catch with_catches last_catches with_block last_block with_statement last_statement with_statements last_statements with_target last_target with_label last_label with_declared last_declared with_value last_value with_setter last_setter with_typed last_typed with_body last_body with_param_list last_param_list with_params last_params with_delegation last_delegation with_modifiers last_modifiers with_member last_member with_members last_members with_type_param_list last_type_param_list with_type_params last_type_params with_super_list last_super_list with_supers last_supers with_class_word last_class_word with_package last_package with_imports last_imports with_class last_class
acts_Synchronized d x g k b fits = makes_two a.Synchronized (block g k (place (expr d x (place (place b))))) g d b.depths refl refl fits
