-- What actions build of the parts of members and classes.
use Rattle.std.proofs.Common.{◌≡◌, ℕ, List, [], ◌∷◌, ◌++◌, Option, Some, None, refl, ap}
use Rattle.grammar.specs.Machine.{◌>>=◌}
use Rattle.kotlin_tree.specs.declared.places.Position.{Position}
use Rattle.kotlin_tree.specs.declared.tokens.TokenKind.{TokenKind}
use Rattle.kotlin_tree.specs.declared.types.KQualified.{KQualified}
use Rattle.kotlin_tree.specs.declared.types.KType.{KType}
use Rattle.kotlin_tree.specs.declared.expressions.KExpr.{KExpr}
use Rattle.kotlin_tree.specs.declared.statements.KDeclared.{KDeclared}
use Rattle.kotlin_tree.specs.declared.statements.KBlock.{KBlock}
use Rattle.kotlin_tree.specs.declared.members.KModifierKind.{KModifierKind}
use Rattle.kotlin_tree.specs.declared.members.KModifier.{KModifier}
use Rattle.kotlin_tree.specs.declared.members.KParam.{KParam}
use Rattle.kotlin_tree.specs.declared.members.KParams.{KParams}
use Rattle.kotlin_tree.specs.declared.members.KTyped.{KTyped}
use Rattle.kotlin_tree.specs.declared.members.KValue.{KValue}
use Rattle.kotlin_tree.specs.declared.members.KPrivateSet.{KPrivateSet}
use Rattle.kotlin_tree.specs.declared.members.KCalled.{KCalled}
use Rattle.kotlin_tree.specs.declared.members.KDelegation.{KDelegation}
use Rattle.kotlin_tree.specs.declared.members.KMember.{KMember}
use Rattle.kotlin_tree.specs.declared.files.KTypeParam.{KTypeParam}
use Rattle.kotlin_tree.specs.declared.files.KTypeParams.{KTypeParams}
use Rattle.kotlin_tree.specs.declared.files.KSuper.{KSuper}
use Rattle.kotlin_tree.specs.declared.files.KSupers.{KSupers}
use Rattle.kotlin_tree.specs.declared.files.KClassWord.{KClassWord}
use Rattle.kotlin_tree.specs.declared.files.KClass.{KClass}
use Rattle.kotlin_tree.specs.declared.files.KPackage.{KPackage}
use Rattle.kotlin_tree.specs.declared.files.KImport.{KImport}
use Rattle.kotlin_tree.specs.declared.members.KMember.TheVariants as mb
use Rattle.kotlin_grammar.specs.declared.built.ClassHead.{ClassHead}
use Rattle.kotlin_tree.specs.UpToPlaces.{made, made_brackets, made_companion, made_private_set}
use Rattle.kotlin_grammar.specs.declared.letters.Act.TheVariants as a
use Rattle.kotlin_grammar.specs.declared.built.Built.{Built}
use Rattle.kotlin_grammar.specs.Parts.{with_place, last_place, with_token, last_token, with_name, last_name, with_commas, last_commas, with_qualified, last_qualified, with_kind, last_kind, with_kinds, last_kinds, with_arguments, last_arguments, with_expr, last_expr, with_exprs, last_exprs, with_lambda_names, last_lambda_names, with_choice, last_choice, with_choices, last_choices, with_branch, last_branch, with_branches, last_branches, with_catch, last_catch, with_catches, last_catches, with_block, last_block, with_statement, last_statement, with_statements, last_statements, with_target, last_target, with_label, last_label, with_declared, last_declared, with_value, last_value, with_setter, last_setter, with_typed, last_typed, with_body, last_body, with_param_list, last_param_list, with_params, last_params, with_delegation, last_delegation, with_modifiers, last_modifiers, with_member, last_member, with_members, last_members, with_type_param_list, last_type_param_list, with_type_params, last_type_params, with_super_list, last_super_list, with_supers, last_supers, with_class_word, last_class_word, with_package, last_package, with_imports, last_imports, with_class, last_class}
use Rattle.kotlin_grammar.specs.Build.{build}
use Rattle.kotlin_grammar.specs.Meaning.{modifier_of, annotation_by, class_word_of, fun_class_word_of, called_of}
use Rattle.kotlin_grammar.specs.Depth.{acts, levels, deepest}
use Rattle.kotlin_canonical_text.proofs.Names.{name_made}
use Rattle.kotlin_canonical_text.proofs.Acts.{place, tok, nm, qual, expr, kind, block, exprs, decl}

abbrev pub typed : Option KTyped → Built → Built
typed x b = with_typed x b

abbrev pub mods : List KModifier → Built → Built
mods x b = with_modifiers x b

abbrev pub value : Option KValue → Built → Built
value x b = with_value x b

abbrev pub setter : Option KPrivateSet → Built → Built
setter x b = with_setter x b

abbrev pub params : KParams → Built → Built
params x b = with_params x b

abbrev pub body : Option KBlock → Built → Built
body x b = with_body x b

abbrev pub deleg : Option KDelegation → Built → Built
deleg x b = with_delegation x b

abbrev pub member : KMember → Built → Built
member x b = with_member x b

abbrev pub members : List KMember → Built → Built
members x b = with_members x b

abbrev pub tparams : Option KTypeParams → Built → Built
tparams x b = with_type_params x b

abbrev pub supers : Option KSupers → Built → Built
supers x b = with_supers x b

abbrev pub cword : ClassHead → Built → Built
cword x b = with_class_word x b

abbrev pub pack : Option KPackage → Built → Built
pack x b = with_package x b

abbrev pub imports : List KImport → Built → Built
imports x b = with_imports x b

abbrev pub klass : KClass → Built → Built
klass x b = with_class x b

abbrev pub tpl : List KTypeParam → List Position → Built → Built
tpl xs cs b = with_commas cs (with_type_param_list xs b)

abbrev pub spl : List KSuper → List Position → Built → Built
spl xs cs b = with_commas cs (with_super_list xs b)

abbrev pub pl : List KParam → List Position → Built → Built
pl xs cs b = with_commas cs (with_param_list xs b)

abbrev pub tpl_only : List KTypeParam → Built → Built
tpl_only xs b = with_type_param_list xs b

abbrev pub spl_only : List KSuper → Built → Built
spl_only xs b = with_super_list xs b

abbrev pub pl_only : List KParam → Built → Built
pl_only xs b = with_param_list xs b

pub acts_NoModifiers : (b : Built) → acts a.NoModifiers b ≡ Some (mods [] b)
unfolding acts deepest levels build with_place last_place with_token last_token with_name last_name with_commas last_commas with_qualified last_qualified with_kind last_kind with_kinds last_kinds with_arguments last_arguments with_expr last_expr with_exprs last_exprs with_lambda_names last_lambda_names with_choice last_choice with_choices last_choices with_branch last_branch with_branches last_branches with_catch last_catch with_catches last_catches with_block last_block with_statement last_statement with_statements last_statements with_target last_target with_label last_label with_declared last_declared with_value last_value with_setter last_setter with_typed last_typed with_body last_body with_param_list last_param_list with_params last_params with_delegation last_delegation with_modifiers last_modifiers with_member last_member with_members last_members with_type_param_list last_type_param_list with_type_params last_type_params with_super_list last_super_list with_supers last_supers with_class_word last_class_word with_package last_package with_imports last_imports with_class last_class
acts_NoModifiers b = refl

pub acts_AddModifier : (xs : List KModifier) (t : TokenKind) (o : KModifierKind) (b : Built) → modifier_of t ≡ Some o → acts a.AddModifier (tok t (mods xs b)) ≡ Some (mods (xs ++ record { kind = o; at = made } ∷ []) b)
unfolding acts deepest levels build with_place last_place with_token last_token with_name last_name with_commas last_commas with_qualified last_qualified with_kind last_kind with_kinds last_kinds with_arguments last_arguments with_expr last_expr with_exprs last_exprs with_lambda_names last_lambda_names with_choice last_choice with_choices last_choices with_branch last_branch with_branches last_branches with_catch last_catch with_catches last_catches with_block last_block with_statement last_statement with_statements last_statements with_target last_target with_label last_label with_declared last_declared with_value last_value with_setter last_setter with_typed last_typed with_body last_body with_param_list last_param_list with_params last_params with_delegation last_delegation with_modifiers last_modifiers with_member last_member with_members last_members with_type_param_list last_type_param_list with_type_params last_type_params with_super_list last_super_list with_supers last_supers with_class_word last_class_word with_package last_package with_imports last_imports with_class last_class
acts_AddModifier xs t o b is = ap (λ u. u >>= λ o. Some (mods (xs ++ record { kind = o; at = made } ∷ []) b)) is

pub acts_AddAnnotation : (xs : List KModifier) (t : TokenKind) (o : KModifierKind) (b : Built) → annotation_by made t ≡ Some o → acts a.AddAnnotation (tok t (place (mods xs b))) ≡ Some (mods (xs ++ record { kind = o; at = made } ∷ []) b)
unfolding acts deepest levels build with_place last_place with_token last_token with_name last_name with_commas last_commas with_qualified last_qualified with_kind last_kind with_kinds last_kinds with_arguments last_arguments with_expr last_expr with_exprs last_exprs with_lambda_names last_lambda_names with_choice last_choice with_choices last_choices with_branch last_branch with_branches last_branches with_catch last_catch with_catches last_catches with_block last_block with_statement last_statement with_statements last_statements with_target last_target with_label last_label with_declared last_declared with_value last_value with_setter last_setter with_typed last_typed with_body last_body with_param_list last_param_list with_params last_params with_delegation last_delegation with_modifiers last_modifiers with_member last_member with_members last_members with_type_param_list last_type_param_list with_type_params last_type_params with_super_list last_super_list with_supers last_supers with_class_word last_class_word with_package last_package with_imports last_imports with_class last_class
acts_AddAnnotation xs t o b is = ap (λ u. u >>= λ o. Some (mods (xs ++ record { kind = o; at = made } ∷ []) b)) is

pub acts_Typed : (d : ℕ) (x : KType) (b : Built) → acts a.Typed (kind d x (place b)) ≡ Some (typed (Some (record { colon = made; kind = x })) b)
unfolding acts deepest levels build with_place last_place with_token last_token with_name last_name with_commas last_commas with_qualified last_qualified with_kind last_kind with_kinds last_kinds with_arguments last_arguments with_expr last_expr with_exprs last_exprs with_lambda_names last_lambda_names with_choice last_choice with_choices last_choices with_branch last_branch with_branches last_branches with_catch last_catch with_catches last_catches with_block last_block with_statement last_statement with_statements last_statements with_target last_target with_label last_label with_declared last_declared with_value last_value with_setter last_setter with_typed last_typed with_body last_body with_param_list last_param_list with_params last_params with_delegation last_delegation with_modifiers last_modifiers with_member last_member with_members last_members with_type_param_list last_type_param_list with_type_params last_type_params with_super_list last_super_list with_supers last_supers with_class_word last_class_word with_package last_package with_imports last_imports with_class last_class
acts_Typed d x b = refl

pub acts_Untyped : (b : Built) → acts a.Untyped b ≡ Some (typed None b)
unfolding acts deepest levels build with_place last_place with_token last_token with_name last_name with_commas last_commas with_qualified last_qualified with_kind last_kind with_kinds last_kinds with_arguments last_arguments with_expr last_expr with_exprs last_exprs with_lambda_names last_lambda_names with_choice last_choice with_choices last_choices with_branch last_branch with_branches last_branches with_catch last_catch with_catches last_catches with_block last_block with_statement last_statement with_statements last_statements with_target last_target with_label last_label with_declared last_declared with_value last_value with_setter last_setter with_typed last_typed with_body last_body with_param_list last_param_list with_params last_params with_delegation last_delegation with_modifiers last_modifiers with_member last_member with_members last_members with_type_param_list last_type_param_list with_type_params last_type_params with_super_list last_super_list with_supers last_supers with_class_word last_class_word with_package last_package with_imports last_imports with_class last_class
acts_Untyped b = refl

pub acts_NoTypeParams : (b : Built) → acts a.NoTypeParams b ≡ Some (tpl [] [] b)
unfolding acts deepest levels build with_place last_place with_token last_token with_name last_name with_commas last_commas with_qualified last_qualified with_kind last_kind with_kinds last_kinds with_arguments last_arguments with_expr last_expr with_exprs last_exprs with_lambda_names last_lambda_names with_choice last_choice with_choices last_choices with_branch last_branch with_branches last_branches with_catch last_catch with_catches last_catches with_block last_block with_statement last_statement with_statements last_statements with_target last_target with_label last_label with_declared last_declared with_value last_value with_setter last_setter with_typed last_typed with_body last_body with_param_list last_param_list with_params last_params with_delegation last_delegation with_modifiers last_modifiers with_member last_member with_members last_members with_type_param_list last_type_param_list with_type_params last_type_params with_super_list last_super_list with_supers last_supers with_class_word last_class_word with_package last_package with_imports last_imports with_class last_class
acts_NoTypeParams b = refl

pub acts_AddTypeParam : (xs : List KTypeParam) (cs : List Position) (n : List ℕ) (o : Option KTyped) (b : Built) → acts a.AddTypeParam (typed o (nm n (tpl xs cs b))) ≡ Some (tpl (xs ++ record { name = name_made n; bound = o } ∷ []) cs b)
unfolding acts deepest levels build with_place last_place with_token last_token with_name last_name with_commas last_commas with_qualified last_qualified with_kind last_kind with_kinds last_kinds with_arguments last_arguments with_expr last_expr with_exprs last_exprs with_lambda_names last_lambda_names with_choice last_choice with_choices last_choices with_branch last_branch with_branches last_branches with_catch last_catch with_catches last_catches with_block last_block with_statement last_statement with_statements last_statements with_target last_target with_label last_label with_declared last_declared with_value last_value with_setter last_setter with_typed last_typed with_body last_body with_param_list last_param_list with_params last_params with_delegation last_delegation with_modifiers last_modifiers with_member last_member with_members last_members with_type_param_list last_type_param_list with_type_params last_type_params with_super_list last_super_list with_supers last_supers with_class_word last_class_word with_package last_package with_imports last_imports with_class last_class
acts_AddTypeParam xs cs n o b = refl

pub acts_TypeParams : (xs : List KTypeParam) (cs : List Position) (b : Built) → acts a.TypeParams (place (tpl xs cs (place b))) ≡ Some (tparams (Some (record { angles = made_brackets; items = xs; commas = cs })) b)
unfolding acts deepest levels build with_place last_place with_token last_token with_name last_name with_commas last_commas with_qualified last_qualified with_kind last_kind with_kinds last_kinds with_arguments last_arguments with_expr last_expr with_exprs last_exprs with_lambda_names last_lambda_names with_choice last_choice with_choices last_choices with_branch last_branch with_branches last_branches with_catch last_catch with_catches last_catches with_block last_block with_statement last_statement with_statements last_statements with_target last_target with_label last_label with_declared last_declared with_value last_value with_setter last_setter with_typed last_typed with_body last_body with_param_list last_param_list with_params last_params with_delegation last_delegation with_modifiers last_modifiers with_member last_member with_members last_members with_type_param_list last_type_param_list with_type_params last_type_params with_super_list last_super_list with_supers last_supers with_class_word last_class_word with_package last_package with_imports last_imports with_class last_class
acts_TypeParams xs cs b = refl

pub acts_NoneOfTypeParams : (b : Built) → acts a.NoneOfTypeParams b ≡ Some (tparams None b)
unfolding acts deepest levels build with_place last_place with_token last_token with_name last_name with_commas last_commas with_qualified last_qualified with_kind last_kind with_kinds last_kinds with_arguments last_arguments with_expr last_expr with_exprs last_exprs with_lambda_names last_lambda_names with_choice last_choice with_choices last_choices with_branch last_branch with_branches last_branches with_catch last_catch with_catches last_catches with_block last_block with_statement last_statement with_statements last_statements with_target last_target with_label last_label with_declared last_declared with_value last_value with_setter last_setter with_typed last_typed with_body last_body with_param_list last_param_list with_params last_params with_delegation last_delegation with_modifiers last_modifiers with_member last_member with_members last_members with_type_param_list last_type_param_list with_type_params last_type_params with_super_list last_super_list with_supers last_supers with_class_word last_class_word with_package last_package with_imports last_imports with_class last_class
acts_NoneOfTypeParams b = refl

pub acts_NoSupers : (b : Built) → acts a.NoSupers b ≡ Some (spl [] [] b)
unfolding acts deepest levels build with_place last_place with_token last_token with_name last_name with_commas last_commas with_qualified last_qualified with_kind last_kind with_kinds last_kinds with_arguments last_arguments with_expr last_expr with_exprs last_exprs with_lambda_names last_lambda_names with_choice last_choice with_choices last_choices with_branch last_branch with_branches last_branches with_catch last_catch with_catches last_catches with_block last_block with_statement last_statement with_statements last_statements with_target last_target with_label last_label with_declared last_declared with_value last_value with_setter last_setter with_typed last_typed with_body last_body with_param_list last_param_list with_params last_params with_delegation last_delegation with_modifiers last_modifiers with_member last_member with_members last_members with_type_param_list last_type_param_list with_type_params last_type_params with_super_list last_super_list with_supers last_supers with_class_word last_class_word with_package last_package with_imports last_imports with_class last_class
acts_NoSupers b = refl

pub acts_AddSuper : (xs : List KSuper) (cs : List Position) (d : ℕ) (x : KType) (b : Built) → acts a.AddSuper (kind d x (spl xs cs b)) ≡ Some (spl (xs ++ record { kind = x; round = None } ∷ []) cs b)
unfolding acts deepest levels build with_place last_place with_token last_token with_name last_name with_commas last_commas with_qualified last_qualified with_kind last_kind with_kinds last_kinds with_arguments last_arguments with_expr last_expr with_exprs last_exprs with_lambda_names last_lambda_names with_choice last_choice with_choices last_choices with_branch last_branch with_branches last_branches with_catch last_catch with_catches last_catches with_block last_block with_statement last_statement with_statements last_statements with_target last_target with_label last_label with_declared last_declared with_value last_value with_setter last_setter with_typed last_typed with_body last_body with_param_list last_param_list with_params last_params with_delegation last_delegation with_modifiers last_modifiers with_member last_member with_members last_members with_type_param_list last_type_param_list with_type_params last_type_params with_super_list last_super_list with_supers last_supers with_class_word last_class_word with_package last_package with_imports last_imports with_class last_class
acts_AddSuper xs cs d x b = refl

pub acts_AddCalledSuper : (xs : List KSuper) (cs : List Position) (d : ℕ) (x : KType) (b : Built) → acts a.AddCalledSuper (place (place (kind d x (spl xs cs b)))) ≡ Some (spl (xs ++ record { kind = x; round = Some made_brackets } ∷ []) cs b)
unfolding acts deepest levels build with_place last_place with_token last_token with_name last_name with_commas last_commas with_qualified last_qualified with_kind last_kind with_kinds last_kinds with_arguments last_arguments with_expr last_expr with_exprs last_exprs with_lambda_names last_lambda_names with_choice last_choice with_choices last_choices with_branch last_branch with_branches last_branches with_catch last_catch with_catches last_catches with_block last_block with_statement last_statement with_statements last_statements with_target last_target with_label last_label with_declared last_declared with_value last_value with_setter last_setter with_typed last_typed with_body last_body with_param_list last_param_list with_params last_params with_delegation last_delegation with_modifiers last_modifiers with_member last_member with_members last_members with_type_param_list last_type_param_list with_type_params last_type_params with_super_list last_super_list with_supers last_supers with_class_word last_class_word with_package last_package with_imports last_imports with_class last_class
acts_AddCalledSuper xs cs d x b = refl

pub acts_Supers : (xs : List KSuper) (cs : List Position) (b : Built) → acts a.Supers (spl xs cs (place b)) ≡ Some (supers (Some (record { colon = made; items = xs; commas = cs })) b)
unfolding acts deepest levels build with_place last_place with_token last_token with_name last_name with_commas last_commas with_qualified last_qualified with_kind last_kind with_kinds last_kinds with_arguments last_arguments with_expr last_expr with_exprs last_exprs with_lambda_names last_lambda_names with_choice last_choice with_choices last_choices with_branch last_branch with_branches last_branches with_catch last_catch with_catches last_catches with_block last_block with_statement last_statement with_statements last_statements with_target last_target with_label last_label with_declared last_declared with_value last_value with_setter last_setter with_typed last_typed with_body last_body with_param_list last_param_list with_params last_params with_delegation last_delegation with_modifiers last_modifiers with_member last_member with_members last_members with_type_param_list last_type_param_list with_type_params last_type_params with_super_list last_super_list with_supers last_supers with_class_word last_class_word with_package last_package with_imports last_imports with_class last_class
acts_Supers xs cs b = refl

pub acts_NoneOfSupers : (b : Built) → acts a.NoneOfSupers b ≡ Some (supers None b)
unfolding acts deepest levels build with_place last_place with_token last_token with_name last_name with_commas last_commas with_qualified last_qualified with_kind last_kind with_kinds last_kinds with_arguments last_arguments with_expr last_expr with_exprs last_exprs with_lambda_names last_lambda_names with_choice last_choice with_choices last_choices with_branch last_branch with_branches last_branches with_catch last_catch with_catches last_catches with_block last_block with_statement last_statement with_statements last_statements with_target last_target with_label last_label with_declared last_declared with_value last_value with_setter last_setter with_typed last_typed with_body last_body with_param_list last_param_list with_params last_params with_delegation last_delegation with_modifiers last_modifiers with_member last_member with_members last_members with_type_param_list last_type_param_list with_type_params last_type_params with_super_list last_super_list with_supers last_supers with_class_word last_class_word with_package last_package with_imports last_imports with_class last_class
acts_NoneOfSupers b = refl

pub acts_NoMembers : (b : Built) → acts a.NoMembers b ≡ Some (members [] b)
unfolding acts deepest levels build with_place last_place with_token last_token with_name last_name with_commas last_commas with_qualified last_qualified with_kind last_kind with_kinds last_kinds with_arguments last_arguments with_expr last_expr with_exprs last_exprs with_lambda_names last_lambda_names with_choice last_choice with_choices last_choices with_branch last_branch with_branches last_branches with_catch last_catch with_catches last_catches with_block last_block with_statement last_statement with_statements last_statements with_target last_target with_label last_label with_declared last_declared with_value last_value with_setter last_setter with_typed last_typed with_body last_body with_param_list last_param_list with_params last_params with_delegation last_delegation with_modifiers last_modifiers with_member last_member with_members last_members with_type_param_list last_type_param_list with_type_params last_type_params with_super_list last_super_list with_supers last_supers with_class_word last_class_word with_package last_package with_imports last_imports with_class last_class
acts_NoMembers b = refl

pub acts_AddMember : (ms : List KMember) (x : KMember) (b : Built) → acts a.AddMember (member x (members ms b)) ≡ Some (members (ms ++ x ∷ []) b)
unfolding acts deepest levels build with_place last_place with_token last_token with_name last_name with_commas last_commas with_qualified last_qualified with_kind last_kind with_kinds last_kinds with_arguments last_arguments with_expr last_expr with_exprs last_exprs with_lambda_names last_lambda_names with_choice last_choice with_choices last_choices with_branch last_branch with_branches last_branches with_catch last_catch with_catches last_catches with_block last_block with_statement last_statement with_statements last_statements with_target last_target with_label last_label with_declared last_declared with_value last_value with_setter last_setter with_typed last_typed with_body last_body with_param_list last_param_list with_params last_params with_delegation last_delegation with_modifiers last_modifiers with_member last_member with_members last_members with_type_param_list last_type_param_list with_type_params last_type_params with_super_list last_super_list with_supers last_supers with_class_word last_class_word with_package last_package with_imports last_imports with_class last_class
acts_AddMember ms x b = refl

pub acts_Init : (d : ℕ) (k : KBlock) (b : Built) → acts a.Init (block d k (place b)) ≡ Some (member (mb.Init made k) b)
unfolding acts deepest levels build with_place last_place with_token last_token with_name last_name with_commas last_commas with_qualified last_qualified with_kind last_kind with_kinds last_kinds with_arguments last_arguments with_expr last_expr with_exprs last_exprs with_lambda_names last_lambda_names with_choice last_choice with_choices last_choices with_branch last_branch with_branches last_branches with_catch last_catch with_catches last_catches with_block last_block with_statement last_statement with_statements last_statements with_target last_target with_label last_label with_declared last_declared with_value last_value with_setter last_setter with_typed last_typed with_body last_body with_param_list last_param_list with_params last_params with_delegation last_delegation with_modifiers last_modifiers with_member last_member with_members last_members with_type_param_list last_type_param_list with_type_params last_type_params with_super_list last_super_list with_supers last_supers with_class_word last_class_word with_package last_package with_imports last_imports with_class last_class
acts_Init d k b = refl

pub acts_Companion : (ms : List KMember) (b : Built) → acts a.Companion (place (members ms (place (place (place b))))) ≡ Some (member (mb.Companion made_companion ms) b)
unfolding acts deepest levels build with_place last_place with_token last_token with_name last_name with_commas last_commas with_qualified last_qualified with_kind last_kind with_kinds last_kinds with_arguments last_arguments with_expr last_expr with_exprs last_exprs with_lambda_names last_lambda_names with_choice last_choice with_choices last_choices with_branch last_branch with_branches last_branches with_catch last_catch with_catches last_catches with_block last_block with_statement last_statement with_statements last_statements with_target last_target with_label last_label with_declared last_declared with_value last_value with_setter last_setter with_typed last_typed with_body last_body with_param_list last_param_list with_params last_params with_delegation last_delegation with_modifiers last_modifiers with_member last_member with_members last_members with_type_param_list last_type_param_list with_type_params last_type_params with_super_list last_super_list with_supers last_supers with_class_word last_class_word with_package last_package with_imports last_imports with_class last_class
acts_Companion ms b = refl

pub acts_Value : (d : ℕ) (x : KExpr) (b : Built) → acts a.Value (expr d x (place b)) ≡ Some (value (Some (record { at = made; tree = x })) b)
unfolding acts deepest levels build with_place last_place with_token last_token with_name last_name with_commas last_commas with_qualified last_qualified with_kind last_kind with_kinds last_kinds with_arguments last_arguments with_expr last_expr with_exprs last_exprs with_lambda_names last_lambda_names with_choice last_choice with_choices last_choices with_branch last_branch with_branches last_branches with_catch last_catch with_catches last_catches with_block last_block with_statement last_statement with_statements last_statements with_target last_target with_label last_label with_declared last_declared with_value last_value with_setter last_setter with_typed last_typed with_body last_body with_param_list last_param_list with_params last_params with_delegation last_delegation with_modifiers last_modifiers with_member last_member with_members last_members with_type_param_list last_type_param_list with_type_params last_type_params with_super_list last_super_list with_supers last_supers with_class_word last_class_word with_package last_package with_imports last_imports with_class last_class
acts_Value d x b = refl

pub acts_NoValue : (b : Built) → acts a.NoValue b ≡ Some (value None b)
unfolding acts deepest levels build with_place last_place with_token last_token with_name last_name with_commas last_commas with_qualified last_qualified with_kind last_kind with_kinds last_kinds with_arguments last_arguments with_expr last_expr with_exprs last_exprs with_lambda_names last_lambda_names with_choice last_choice with_choices last_choices with_branch last_branch with_branches last_branches with_catch last_catch with_catches last_catches with_block last_block with_statement last_statement with_statements last_statements with_target last_target with_label last_label with_declared last_declared with_value last_value with_setter last_setter with_typed last_typed with_body last_body with_param_list last_param_list with_params last_params with_delegation last_delegation with_modifiers last_modifiers with_member last_member with_members last_members with_type_param_list last_type_param_list with_type_params last_type_params with_super_list last_super_list with_supers last_supers with_class_word last_class_word with_package last_package with_imports last_imports with_class last_class
acts_NoValue b = refl

pub acts_Setter : (b : Built) → acts a.Setter (place (place b)) ≡ Some (setter (Some made_private_set) b)
unfolding acts deepest levels build with_place last_place with_token last_token with_name last_name with_commas last_commas with_qualified last_qualified with_kind last_kind with_kinds last_kinds with_arguments last_arguments with_expr last_expr with_exprs last_exprs with_lambda_names last_lambda_names with_choice last_choice with_choices last_choices with_branch last_branch with_branches last_branches with_catch last_catch with_catches last_catches with_block last_block with_statement last_statement with_statements last_statements with_target last_target with_label last_label with_declared last_declared with_value last_value with_setter last_setter with_typed last_typed with_body last_body with_param_list last_param_list with_params last_params with_delegation last_delegation with_modifiers last_modifiers with_member last_member with_members last_members with_type_param_list last_type_param_list with_type_params last_type_params with_super_list last_super_list with_supers last_supers with_class_word last_class_word with_package last_package with_imports last_imports with_class last_class
acts_Setter b = refl

pub acts_NoSetter : (b : Built) → acts a.NoSetter b ≡ Some (setter None b)
unfolding acts deepest levels build with_place last_place with_token last_token with_name last_name with_commas last_commas with_qualified last_qualified with_kind last_kind with_kinds last_kinds with_arguments last_arguments with_expr last_expr with_exprs last_exprs with_lambda_names last_lambda_names with_choice last_choice with_choices last_choices with_branch last_branch with_branches last_branches with_catch last_catch with_catches last_catches with_block last_block with_statement last_statement with_statements last_statements with_target last_target with_label last_label with_declared last_declared with_value last_value with_setter last_setter with_typed last_typed with_body last_body with_param_list last_param_list with_params last_params with_delegation last_delegation with_modifiers last_modifiers with_member last_member with_members last_members with_type_param_list last_type_param_list with_type_params last_type_params with_super_list last_super_list with_supers last_supers with_class_word last_class_word with_package last_package with_imports last_imports with_class last_class
acts_NoSetter b = refl

pub acts_Property : (xs : List KModifier) (d : ℕ) (x : KDeclared) (v : Option KValue) (o : Option KPrivateSet) (b : Built) → acts a.Property (setter o (value v (decl d x (mods xs b)))) ≡ Some (member (mb.Property xs x v o) b)
unfolding acts deepest levels build with_place last_place with_token last_token with_name last_name with_commas last_commas with_qualified last_qualified with_kind last_kind with_kinds last_kinds with_arguments last_arguments with_expr last_expr with_exprs last_exprs with_lambda_names last_lambda_names with_choice last_choice with_choices last_choices with_branch last_branch with_branches last_branches with_catch last_catch with_catches last_catches with_block last_block with_statement last_statement with_statements last_statements with_target last_target with_label last_label with_declared last_declared with_value last_value with_setter last_setter with_typed last_typed with_body last_body with_param_list last_param_list with_params last_params with_delegation last_delegation with_modifiers last_modifiers with_member last_member with_members last_members with_type_param_list last_type_param_list with_type_params last_type_params with_super_list last_super_list with_supers last_supers with_class_word last_class_word with_package last_package with_imports last_imports with_class last_class
acts_Property xs d x v o b = refl

pub acts_NoParams : (b : Built) → acts a.NoParams b ≡ Some (pl [] [] b)
unfolding acts deepest levels build with_place last_place with_token last_token with_name last_name with_commas last_commas with_qualified last_qualified with_kind last_kind with_kinds last_kinds with_arguments last_arguments with_expr last_expr with_exprs last_exprs with_lambda_names last_lambda_names with_choice last_choice with_choices last_choices with_branch last_branch with_branches last_branches with_catch last_catch with_catches last_catches with_block last_block with_statement last_statement with_statements last_statements with_target last_target with_label last_label with_declared last_declared with_value last_value with_setter last_setter with_typed last_typed with_body last_body with_param_list last_param_list with_params last_params with_delegation last_delegation with_modifiers last_modifiers with_member last_member with_members last_members with_type_param_list last_type_param_list with_type_params last_type_params with_super_list last_super_list with_supers last_supers with_class_word last_class_word with_package last_package with_imports last_imports with_class last_class
acts_NoParams b = refl

pub acts_AddParam : (xs : List KParam) (cs : List Position) (n : List ℕ) (d : ℕ) (x : KType) (b : Built) → acts a.AddParam (kind d x (place (nm n (pl xs cs b)))) ≡ Some (pl (xs ++ record { name = name_made n; colon = made; kind = x } ∷ []) cs b)
unfolding acts deepest levels build with_place last_place with_token last_token with_name last_name with_commas last_commas with_qualified last_qualified with_kind last_kind with_kinds last_kinds with_arguments last_arguments with_expr last_expr with_exprs last_exprs with_lambda_names last_lambda_names with_choice last_choice with_choices last_choices with_branch last_branch with_branches last_branches with_catch last_catch with_catches last_catches with_block last_block with_statement last_statement with_statements last_statements with_target last_target with_label last_label with_declared last_declared with_value last_value with_setter last_setter with_typed last_typed with_body last_body with_param_list last_param_list with_params last_params with_delegation last_delegation with_modifiers last_modifiers with_member last_member with_members last_members with_type_param_list last_type_param_list with_type_params last_type_params with_super_list last_super_list with_supers last_supers with_class_word last_class_word with_package last_package with_imports last_imports with_class last_class
acts_AddParam xs cs n d x b = refl

pub acts_Params : (xs : List KParam) (cs : List Position) (b : Built) → acts a.Params (place (pl xs cs (place b))) ≡ Some (params (record { round = made_brackets; items = xs; commas = cs }) b)
unfolding acts deepest levels build with_place last_place with_token last_token with_name last_name with_commas last_commas with_qualified last_qualified with_kind last_kind with_kinds last_kinds with_arguments last_arguments with_expr last_expr with_exprs last_exprs with_lambda_names last_lambda_names with_choice last_choice with_choices last_choices with_branch last_branch with_branches last_branches with_catch last_catch with_catches last_catches with_block last_block with_statement last_statement with_statements last_statements with_target last_target with_label last_label with_declared last_declared with_value last_value with_setter last_setter with_typed last_typed with_body last_body with_param_list last_param_list with_params last_params with_delegation last_delegation with_modifiers last_modifiers with_member last_member with_members last_members with_type_param_list last_type_param_list with_type_params last_type_params with_super_list last_super_list with_supers last_supers with_class_word last_class_word with_package last_package with_imports last_imports with_class last_class
acts_Params xs cs b = refl

pub acts_Body : (d : ℕ) (k : KBlock) (b : Built) → acts a.Body (block d k b) ≡ Some (body (Some k) b)
unfolding acts deepest levels build with_place last_place with_token last_token with_name last_name with_commas last_commas with_qualified last_qualified with_kind last_kind with_kinds last_kinds with_arguments last_arguments with_expr last_expr with_exprs last_exprs with_lambda_names last_lambda_names with_choice last_choice with_choices last_choices with_branch last_branch with_branches last_branches with_catch last_catch with_catches last_catches with_block last_block with_statement last_statement with_statements last_statements with_target last_target with_label last_label with_declared last_declared with_value last_value with_setter last_setter with_typed last_typed with_body last_body with_param_list last_param_list with_params last_params with_delegation last_delegation with_modifiers last_modifiers with_member last_member with_members last_members with_type_param_list last_type_param_list with_type_params last_type_params with_super_list last_super_list with_supers last_supers with_class_word last_class_word with_package last_package with_imports last_imports with_class last_class
acts_Body d k b = refl

pub acts_NoBody : (b : Built) → acts a.NoBody b ≡ Some (body None b)
unfolding acts deepest levels build with_place last_place with_token last_token with_name last_name with_commas last_commas with_qualified last_qualified with_kind last_kind with_kinds last_kinds with_arguments last_arguments with_expr last_expr with_exprs last_exprs with_lambda_names last_lambda_names with_choice last_choice with_choices last_choices with_branch last_branch with_branches last_branches with_catch last_catch with_catches last_catches with_block last_block with_statement last_statement with_statements last_statements with_target last_target with_label last_label with_declared last_declared with_value last_value with_setter last_setter with_typed last_typed with_body last_body with_param_list last_param_list with_params last_params with_delegation last_delegation with_modifiers last_modifiers with_member last_member with_members last_members with_type_param_list last_type_param_list with_type_params last_type_params with_super_list last_super_list with_supers last_supers with_class_word last_class_word with_package last_package with_imports last_imports with_class last_class
acts_NoBody b = refl

pub acts_Function : (xs : List KModifier) (n : List ℕ) (p : KParams) (o : Option KTyped) (v : Option KBlock) (b : Built) → acts a.Function (body v (typed o (params p (nm n (place (mods xs b)))))) ≡ Some (member (mb.Function xs made (name_made n) p o v) b)
unfolding acts deepest levels build with_place last_place with_token last_token with_name last_name with_commas last_commas with_qualified last_qualified with_kind last_kind with_kinds last_kinds with_arguments last_arguments with_expr last_expr with_exprs last_exprs with_lambda_names last_lambda_names with_choice last_choice with_choices last_choices with_branch last_branch with_branches last_branches with_catch last_catch with_catches last_catches with_block last_block with_statement last_statement with_statements last_statements with_target last_target with_label last_label with_declared last_declared with_value last_value with_setter last_setter with_typed last_typed with_body last_body with_param_list last_param_list with_params last_params with_delegation last_delegation with_modifiers last_modifiers with_member last_member with_members last_members with_type_param_list last_type_param_list with_type_params last_type_params with_super_list last_super_list with_supers last_supers with_class_word last_class_word with_package last_package with_imports last_imports with_class last_class
acts_Function xs n p o v b = refl

pub acts_Delegation : (t : TokenKind) (d : ℕ) (xs : List KExpr) (cs : List Position) (o : KCalled) (b : Built) → called_of t ≡ Some o → acts a.Delegation (place (exprs d xs cs (place (tok t (place b))))) ≡ Some (deleg (Some (record { colon = made; called = o; at = made; round = made_brackets; arguments = xs; commas = cs })) b)
unfolding acts deepest levels build with_place last_place with_token last_token with_name last_name with_commas last_commas with_qualified last_qualified with_kind last_kind with_kinds last_kinds with_arguments last_arguments with_expr last_expr with_exprs last_exprs with_lambda_names last_lambda_names with_choice last_choice with_choices last_choices with_branch last_branch with_branches last_branches with_catch last_catch with_catches last_catches with_block last_block with_statement last_statement with_statements last_statements with_target last_target with_label last_label with_declared last_declared with_value last_value with_setter last_setter with_typed last_typed with_body last_body with_param_list last_param_list with_params last_params with_delegation last_delegation with_modifiers last_modifiers with_member last_member with_members last_members with_type_param_list last_type_param_list with_type_params last_type_params with_super_list last_super_list with_supers last_supers with_class_word last_class_word with_package last_package with_imports last_imports with_class last_class
acts_Delegation t d xs cs o b is = ap (λ u. u >>= λ o. Some (deleg (Some (record { colon = made; called = o; at = made; round = made_brackets; arguments = xs; commas = cs })) b)) is

pub acts_NoDelegation : (b : Built) → acts a.NoDelegation b ≡ Some (deleg None b)
unfolding acts deepest levels build with_place last_place with_token last_token with_name last_name with_commas last_commas with_qualified last_qualified with_kind last_kind with_kinds last_kinds with_arguments last_arguments with_expr last_expr with_exprs last_exprs with_lambda_names last_lambda_names with_choice last_choice with_choices last_choices with_branch last_branch with_branches last_branches with_catch last_catch with_catches last_catches with_block last_block with_statement last_statement with_statements last_statements with_target last_target with_label last_label with_declared last_declared with_value last_value with_setter last_setter with_typed last_typed with_body last_body with_param_list last_param_list with_params last_params with_delegation last_delegation with_modifiers last_modifiers with_member last_member with_members last_members with_type_param_list last_type_param_list with_type_params last_type_params with_super_list last_super_list with_supers last_supers with_class_word last_class_word with_package last_package with_imports last_imports with_class last_class
acts_NoDelegation b = refl

pub acts_Constructor : (xs : List KModifier) (p : KParams) (o : Option KDelegation) (d : ℕ) (k : KBlock) (b : Built) → acts a.Constructor (block d k (deleg o (params p (place (mods xs b))))) ≡ Some (member (mb.Constructor xs made p o k) b)
unfolding acts deepest levels build with_place last_place with_token last_token with_name last_name with_commas last_commas with_qualified last_qualified with_kind last_kind with_kinds last_kinds with_arguments last_arguments with_expr last_expr with_exprs last_exprs with_lambda_names last_lambda_names with_choice last_choice with_choices last_choices with_branch last_branch with_branches last_branches with_catch last_catch with_catches last_catches with_block last_block with_statement last_statement with_statements last_statements with_target last_target with_label last_label with_declared last_declared with_value last_value with_setter last_setter with_typed last_typed with_body last_body with_param_list last_param_list with_params last_params with_delegation last_delegation with_modifiers last_modifiers with_member last_member with_members last_members with_type_param_list last_type_param_list with_type_params last_type_params with_super_list last_super_list with_supers last_supers with_class_word last_class_word with_package last_package with_imports last_imports with_class last_class
acts_Constructor xs p o d k b = refl

pub acts_ClassWord : (t : TokenKind) (o : KClassWord) (b : Built) → class_word_of t ≡ Some o → acts a.ClassWord (tok t b) ≡ Some (cword (record { word = o; at = made }) b)
unfolding acts deepest levels build with_place last_place with_token last_token with_name last_name with_commas last_commas with_qualified last_qualified with_kind last_kind with_kinds last_kinds with_arguments last_arguments with_expr last_expr with_exprs last_exprs with_lambda_names last_lambda_names with_choice last_choice with_choices last_choices with_branch last_branch with_branches last_branches with_catch last_catch with_catches last_catches with_block last_block with_statement last_statement with_statements last_statements with_target last_target with_label last_label with_declared last_declared with_value last_value with_setter last_setter with_typed last_typed with_body last_body with_param_list last_param_list with_params last_params with_delegation last_delegation with_modifiers last_modifiers with_member last_member with_members last_members with_type_param_list last_type_param_list with_type_params last_type_params with_super_list last_super_list with_supers last_supers with_class_word last_class_word with_package last_package with_imports last_imports with_class last_class
acts_ClassWord t o b is = ap (λ u. u >>= λ o. Some (cword (record { word = o; at = made }) b)) is

pub acts_FunClassWord : (t : TokenKind) (o : KClassWord) (b : Built) → fun_class_word_of made t ≡ Some o → acts a.FunClassWord (tok t (place b)) ≡ Some (cword (record { word = o; at = made }) b)
unfolding acts deepest levels build with_place last_place with_token last_token with_name last_name with_commas last_commas with_qualified last_qualified with_kind last_kind with_kinds last_kinds with_arguments last_arguments with_expr last_expr with_exprs last_exprs with_lambda_names last_lambda_names with_choice last_choice with_choices last_choices with_branch last_branch with_branches last_branches with_catch last_catch with_catches last_catches with_block last_block with_statement last_statement with_statements last_statements with_target last_target with_label last_label with_declared last_declared with_value last_value with_setter last_setter with_typed last_typed with_body last_body with_param_list last_param_list with_params last_params with_delegation last_delegation with_modifiers last_modifiers with_member last_member with_members last_members with_type_param_list last_type_param_list with_type_params last_type_params with_super_list last_super_list with_supers last_supers with_class_word last_class_word with_package last_package with_imports last_imports with_class last_class
acts_FunClassWord t o b is = ap (λ u. u >>= λ o. Some (cword (record { word = o; at = made }) b)) is

pub acts_Class : (xs : List KModifier) (w : ClassHead) (n : List ℕ) (o : Option KTypeParams) (v : Option KSupers) (ms : List KMember) (b : Built) → acts a.Class (place (members ms (place (supers v (tparams o (nm n (cword w (mods xs b)))))))) ≡ Some (klass (record { comments = []; modifiers = xs; word = w.word; at = w.at; name = name_made n; params = o; supers = v; curly = made_brackets; members = ms }) b)
unfolding acts deepest levels build with_place last_place with_token last_token with_name last_name with_commas last_commas with_qualified last_qualified with_kind last_kind with_kinds last_kinds with_arguments last_arguments with_expr last_expr with_exprs last_exprs with_lambda_names last_lambda_names with_choice last_choice with_choices last_choices with_branch last_branch with_branches last_branches with_catch last_catch with_catches last_catches with_block last_block with_statement last_statement with_statements last_statements with_target last_target with_label last_label with_declared last_declared with_value last_value with_setter last_setter with_typed last_typed with_body last_body with_param_list last_param_list with_params last_params with_delegation last_delegation with_modifiers last_modifiers with_member last_member with_members last_members with_type_param_list last_type_param_list with_type_params last_type_params with_super_list last_super_list with_supers last_supers with_class_word last_class_word with_package last_package with_imports last_imports with_class last_class
acts_Class xs w n o v ms b = refl

pub acts_NoPackage : (b : Built) → acts a.NoPackage b ≡ Some (pack None b)
unfolding acts deepest levels build with_place last_place with_token last_token with_name last_name with_commas last_commas with_qualified last_qualified with_kind last_kind with_kinds last_kinds with_arguments last_arguments with_expr last_expr with_exprs last_exprs with_lambda_names last_lambda_names with_choice last_choice with_choices last_choices with_branch last_branch with_branches last_branches with_catch last_catch with_catches last_catches with_block last_block with_statement last_statement with_statements last_statements with_target last_target with_label last_label with_declared last_declared with_value last_value with_setter last_setter with_typed last_typed with_body last_body with_param_list last_param_list with_params last_params with_delegation last_delegation with_modifiers last_modifiers with_member last_member with_members last_members with_type_param_list last_type_param_list with_type_params last_type_params with_super_list last_super_list with_supers last_supers with_class_word last_class_word with_package last_package with_imports last_imports with_class last_class
acts_NoPackage b = refl

pub acts_Package : (q : KQualified) (b : Built) → acts a.Package (qual q (place b)) ≡ Some (pack (Some (record { at = made; name = q })) b)
unfolding acts deepest levels build with_place last_place with_token last_token with_name last_name with_commas last_commas with_qualified last_qualified with_kind last_kind with_kinds last_kinds with_arguments last_arguments with_expr last_expr with_exprs last_exprs with_lambda_names last_lambda_names with_choice last_choice with_choices last_choices with_branch last_branch with_branches last_branches with_catch last_catch with_catches last_catches with_block last_block with_statement last_statement with_statements last_statements with_target last_target with_label last_label with_declared last_declared with_value last_value with_setter last_setter with_typed last_typed with_body last_body with_param_list last_param_list with_params last_params with_delegation last_delegation with_modifiers last_modifiers with_member last_member with_members last_members with_type_param_list last_type_param_list with_type_params last_type_params with_super_list last_super_list with_supers last_supers with_class_word last_class_word with_package last_package with_imports last_imports with_class last_class
acts_Package q b = refl

pub acts_NoImports : (b : Built) → acts a.NoImports b ≡ Some (imports [] b)
unfolding acts deepest levels build with_place last_place with_token last_token with_name last_name with_commas last_commas with_qualified last_qualified with_kind last_kind with_kinds last_kinds with_arguments last_arguments with_expr last_expr with_exprs last_exprs with_lambda_names last_lambda_names with_choice last_choice with_choices last_choices with_branch last_branch with_branches last_branches with_catch last_catch with_catches last_catches with_block last_block with_statement last_statement with_statements last_statements with_target last_target with_label last_label with_declared last_declared with_value last_value with_setter last_setter with_typed last_typed with_body last_body with_param_list last_param_list with_params last_params with_delegation last_delegation with_modifiers last_modifiers with_member last_member with_members last_members with_type_param_list last_type_param_list with_type_params last_type_params with_super_list last_super_list with_supers last_supers with_class_word last_class_word with_package last_package with_imports last_imports with_class last_class
acts_NoImports b = refl

pub acts_Import : (xs : List KImport) (q : KQualified) (b : Built) → acts a.Import (qual q (place (imports xs b))) ≡ Some (imports (xs ++ record { at = made; name = q } ∷ []) b)
unfolding acts deepest levels build with_place last_place with_token last_token with_name last_name with_commas last_commas with_qualified last_qualified with_kind last_kind with_kinds last_kinds with_arguments last_arguments with_expr last_expr with_exprs last_exprs with_lambda_names last_lambda_names with_choice last_choice with_choices last_choices with_branch last_branch with_branches last_branches with_catch last_catch with_catches last_catches with_block last_block with_statement last_statement with_statements last_statements with_target last_target with_label last_label with_declared last_declared with_value last_value with_setter last_setter with_typed last_typed with_body last_body with_param_list last_param_list with_params last_params with_delegation last_delegation with_modifiers last_modifiers with_member last_member with_members last_members with_type_param_list last_type_param_list with_type_params last_type_params with_super_list last_super_list with_supers last_supers with_class_word last_class_word with_package last_package with_imports last_imports with_class last_class
acts_Import xs q b = refl
