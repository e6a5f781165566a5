-- What each action builds of parts at the place of what was made.
use Rattle.std.proofs.Common.{◌≡◌, false, [], ◌∷◌, ◌++◌, map, Some, None, refl, ap, sym, ◌∙◌}
use Rattle.std.specs.Option.{option_map}
use Rattle.kotlin_grammar.specs.declared.letters.Act.TheVariants as a
use Rattle.kotlin_tree.specs.declared.types.KType.TheVariants as ty
use Rattle.kotlin_grammar.specs.declared.built.Built.{Built}
use Rattle.kotlin_grammar.specs.Parts.{last_place, last_token, last_name, last_commas, with_commas, last_qualified, with_qualified, last_kind, with_kind, last_kinds, with_kinds, last_arguments, with_arguments, last_expr, with_expr, last_exprs, with_exprs, last_lambda_names, with_lambda_names, last_choice, with_choice, last_choices, with_choices, last_branch, with_branch, last_branches, with_branches, last_catch, with_catch, last_catches, with_catches, last_block, with_block, last_statement, with_statement, last_statements, with_statements, last_target, with_target, last_label, with_label, last_declared, with_declared, last_value, with_value, last_setter, with_setter, last_typed, with_typed, last_body, with_body, last_param_list, with_param_list, last_params, with_params, last_delegation, with_delegation, last_modifiers, with_modifiers, last_member, with_member, last_members, with_members, last_type_param_list, with_type_param_list, last_type_params, with_type_params, last_super_list, with_super_list, last_supers, with_supers, last_class_word, with_class_word, with_package, last_imports, with_imports, with_class, last_brackets, last_head}
use Rattle.kotlin_grammar.specs.Meaning.{literal_of, postfix_of, prefix_of, binary_of, chain, is_target, variability_of, modifier_of, annotation_of, class_word_of, fun_class_word_of, called_of}
use Rattle.kotlin_grammar.specs.declared.letters.Act.{Act}
use Rattle.kotlin_grammar.specs.Build.{build}
use Rattle.kotlin_grammar.specs.Depth.{acts, levels, measured}
use Rattle.kotlin_tree.specs.UpToPlaces.{made, made_brackets, unplaced_name, unplaced_dotted, unplaced_qualified, unplaced_label, unplaced_target, unplaced_modifier_kind, unplaced_modifier, unplaced_word, unplaced_import}
use Rattle.kotlin_placeless.specs.Placeless.{at_made, all_made, brackets_made, head_made, placeless_arguments, placeless_block, placeless_branch, placeless_catch, placeless_choice, placeless_class_head, placeless_declared, placeless_delegation, placeless_expression, placeless_member, placeless_names, placeless_param, placeless_params, placeless_setter, placeless_statement, placeless_super, placeless_supers, placeless_token, placeless_type, placeless_type_param, placeless_type_params, placeless_typed, placeless_value, placeless_built}
use Rattle.kotlin_placeless.proofs.Parts.{moved, carried, bound_same, chosen, one_more, pop_brackets, pop_head, pop_place, pop_token, pop_name, pop_commas, pop_qualified, pop_kind, pop_kinds, pop_arguments, pop_expr, pop_exprs, pop_lambda_names, pop_choice, pop_choices, pop_branch, pop_branches, pop_catch, pop_catches, pop_block, pop_statement, pop_statements, pop_target, pop_label, pop_declared, pop_value, pop_setter, pop_typed, pop_body, pop_param_list, pop_params, pop_delegation, pop_modifiers, pop_member, pop_members, pop_type_param_list, pop_type_params, pop_super_list, pop_supers, pop_class_word, pop_imports}
use Rattle.kotlin_placeless.proofs.Trees.{expression_Literal, expression_Name, expression_This, expression_Paren, expression_Call, expression_SuperCall, expression_Field, expression_Method, expression_Element, expression_Postfix, expression_Prefix, expression_As, expression_Is, expression_Binary, expression_IfValue, expression_WhenValue, expression_Lambda, expression_Run, expression_Class, statement_Declared, statement_Local, statement_Expression, statement_Assign, statement_While, statement_DoWhile, statement_For, statement_ForRange, statement_If, statement_IfElse, statement_IfElseIf, statement_When, statement_Break, statement_Continue, statement_Return, statement_Give, statement_Throw, statement_Try, statement_TryFinally, statement_Synchronized, type_Plain, type_Applied, choice_rolled, branch_rolled, catch_rolled, member_Property, member_Init, member_Function, member_Constructor, member_Companion}
use Rattle.kotlin_placeless.proofs.Told.{asked_made, chain_made, target_same, annotation_made, modifier_made, class_word_made, fun_word_made}

built_Package : (b : Built) → build a.Package (placeless_built b) ≡ option_map placeless_built (build a.Package b)
unfolding build placeless_built with_package
built_Package b =
    carried (moved at_made) placeless_built (last_place b) (last_place (placeless_built b)) _ _ (pop_place b) (λ at.
    carried (moved unplaced_qualified) placeless_built (last_qualified at.1) (last_qualified (placeless_built at.1)) _ _ (pop_qualified at.1) (λ name.
    refl))

built_NoImports : (b : Built) → build a.NoImports (placeless_built b) ≡ option_map placeless_built (build a.NoImports b)
unfolding build placeless_built with_imports
built_NoImports b =
    refl

built_NoPackage : (b : Built) → build a.NoPackage (placeless_built b) ≡ option_map placeless_built (build a.NoPackage b)
unfolding build placeless_built with_package
built_NoPackage b =
    refl

built_Import : (b : Built) → build a.Import (placeless_built b) ≡ option_map placeless_built (build a.Import b)
unfolding build placeless_built with_imports
built_Import b =
    carried (moved at_made) placeless_built (last_place b) (last_place (placeless_built b)) _ _ (pop_place b) (λ at.
    carried (moved unplaced_qualified) placeless_built (last_qualified at.1) (last_qualified (placeless_built at.1)) _ _ (pop_qualified at.1) (λ name.
    carried (moved (map unplaced_import)) placeless_built (last_imports name.1) (last_imports (placeless_built name.1)) _ _ (pop_imports name.1) (λ xs.
    ap (λ z. Some (with_imports z (placeless_built xs.1))) (sym (one_more unplaced_import xs.0 (record { at = at.0; name = name.0 }))))))

built_Qualified : (b : Built) → build a.Qualified (placeless_built b) ≡ option_map placeless_built (build a.Qualified b)
unfolding build placeless_built with_qualified
built_Qualified b =
    carried (moved unplaced_name) placeless_built (last_name b) (last_name (placeless_built b)) _ _ (pop_name b) (λ first.
    refl)

built_AddDotted : (b : Built) → build a.AddDotted (placeless_built b) ≡ option_map placeless_built (build a.AddDotted b)
unfolding build placeless_built with_qualified
built_AddDotted b =
    carried (moved at_made) placeless_built (last_place b) (last_place (placeless_built b)) _ _ (pop_place b) (λ dot.
    carried (moved unplaced_name) placeless_built (last_name dot.1) (last_name (placeless_built dot.1)) _ _ (pop_name dot.1) (λ name.
    carried (moved unplaced_qualified) placeless_built (last_qualified name.1) (last_qualified (placeless_built name.1)) _ _ (pop_qualified name.1) (λ q.
    ap (λ z. Some (with_qualified (record { first = unplaced_name q.0.first; rest = z }) (placeless_built q.1))) (sym (one_more unplaced_dotted q.0.rest (record { dot = dot.0; name = name.0 }))))))

built_NoModifiers : (b : Built) → build a.NoModifiers (placeless_built b) ≡ option_map placeless_built (build a.NoModifiers b)
unfolding build placeless_built with_modifiers
built_NoModifiers b =
    refl

built_NoMembers : (b : Built) → build a.NoMembers (placeless_built b) ≡ option_map placeless_built (build a.NoMembers b)
unfolding build placeless_built with_members
built_NoMembers b =
    refl

built_Class : (b : Built) → build a.Class (placeless_built b) ≡ option_map placeless_built (build a.Class b)
unfolding build placeless_built with_class
built_Class b =
    carried (moved brackets_made) placeless_built (last_brackets b) (last_brackets (placeless_built b)) _ _ (pop_brackets b) (λ curly.
    carried (moved (map placeless_member)) placeless_built (last_members curly.1) (last_members (placeless_built curly.1)) _ _ (pop_members curly.1) (λ members.
    carried (moved (option_map placeless_supers)) placeless_built (last_supers members.1) (last_supers (placeless_built members.1)) _ _ (pop_supers members.1) (λ supers.
    carried (moved (option_map placeless_type_params)) placeless_built (last_type_params supers.1) (last_type_params (placeless_built supers.1)) _ _ (pop_type_params supers.1) (λ type_params.
    carried (moved unplaced_name) placeless_built (last_name type_params.1) (last_name (placeless_built type_params.1)) _ _ (pop_name type_params.1) (λ name.
    carried (moved placeless_class_head) placeless_built (last_class_word name.1) (last_class_word (placeless_built name.1)) _ _ (pop_class_word name.1) (λ head.
    carried (moved (map unplaced_modifier)) placeless_built (last_modifiers head.1) (last_modifiers (placeless_built head.1)) _ _ (pop_modifiers head.1) (λ modifiers.
    refl)))))))

built_ClassWord : (b : Built) → build a.ClassWord (placeless_built b) ≡ option_map placeless_built (build a.ClassWord b)
unfolding build placeless_built with_class_word
built_ClassWord b =
    carried (moved placeless_token) placeless_built (last_token b) (last_token (placeless_built b)) _ _ (pop_token b) (λ t.
    carried unplaced_word placeless_built (class_word_of t.0.kind) (class_word_of t.0.kind) _ _ (class_word_made t.0.kind) (λ word.
    refl))

built_FunClassWord : (b : Built) → build a.FunClassWord (placeless_built b) ≡ option_map placeless_built (build a.FunClassWord b)
unfolding build placeless_built with_class_word
built_FunClassWord b =
    carried (moved at_made) placeless_built (last_place b) (last_place (placeless_built b)) _ _ (pop_place b) (λ fun_at.
    carried (moved placeless_token) placeless_built (last_token fun_at.1) (last_token (placeless_built fun_at.1)) _ _ (pop_token fun_at.1) (λ t.
    carried unplaced_word placeless_built (fun_class_word_of fun_at.0 t.0.kind) (fun_class_word_of made t.0.kind) _ _ (fun_word_made fun_at.0 t.0.kind) (λ word.
    refl)))

built_AddModifier : (b : Built) → build a.AddModifier (placeless_built b) ≡ option_map placeless_built (build a.AddModifier b)
unfolding build placeless_built with_modifiers
built_AddModifier b =
    carried (moved placeless_token) placeless_built (last_token b) (last_token (placeless_built b)) _ _ (pop_token b) (λ t.
    carried unplaced_modifier_kind placeless_built (modifier_of t.0.kind) (modifier_of t.0.kind) _ _ (modifier_made t.0.kind) (λ kind.
    carried (moved (map unplaced_modifier)) placeless_built (last_modifiers t.1) (last_modifiers (placeless_built t.1)) _ _ (pop_modifiers t.1) (λ xs.
    ap (λ z. Some (with_modifiers z (placeless_built xs.1))) (sym (one_more unplaced_modifier xs.0 (record { kind = kind; at = t.0.position }))))))

built_AddAnnotation : (b : Built) → build a.AddAnnotation (placeless_built b) ≡ option_map placeless_built (build a.AddAnnotation b)
unfolding build placeless_built with_modifiers
built_AddAnnotation b =
    carried (moved at_made) placeless_built (last_place b) (last_place (placeless_built b)) _ _ (pop_place b) (λ at_sign.
    carried (moved placeless_token) placeless_built (last_token at_sign.1) (last_token (placeless_built at_sign.1)) _ _ (pop_token at_sign.1) (λ t.
    carried unplaced_modifier_kind placeless_built (annotation_of t.0) (annotation_of (placeless_token t.0)) _ _ (annotation_made t.0) (λ kind.
    carried (moved (map unplaced_modifier)) placeless_built (last_modifiers t.1) (last_modifiers (placeless_built t.1)) _ _ (pop_modifiers t.1) (λ xs.
    ap (λ z. Some (with_modifiers z (placeless_built xs.1))) (sym (one_more unplaced_modifier xs.0 (record { kind = kind; at = at_sign.0 })))))))

built_NoTypeParams : (b : Built) → build a.NoTypeParams (placeless_built b) ≡ option_map placeless_built (build a.NoTypeParams b)
unfolding build placeless_built with_commas with_type_param_list
built_NoTypeParams b =
    refl

built_TypeParams : (b : Built) → build a.TypeParams (placeless_built b) ≡ option_map placeless_built (build a.TypeParams b)
unfolding build placeless_built with_type_params
built_TypeParams b =
    carried (moved brackets_made) placeless_built (last_brackets b) (last_brackets (placeless_built b)) _ _ (pop_brackets b) (λ angles.
    carried (moved all_made) placeless_built (last_commas angles.1) (last_commas (placeless_built angles.1)) _ _ (pop_commas angles.1) (λ commas.
    carried (moved (map placeless_type_param)) placeless_built (last_type_param_list commas.1) (last_type_param_list (placeless_built commas.1)) _ _ (pop_type_param_list commas.1) (λ items.
    refl)))

built_NoneOfTypeParams : (b : Built) → build a.NoneOfTypeParams (placeless_built b) ≡ option_map placeless_built (build a.NoneOfTypeParams b)
unfolding build placeless_built with_type_params
built_NoneOfTypeParams b =
    refl

built_AddTypeParam : (b : Built) → build a.AddTypeParam (placeless_built b) ≡ option_map placeless_built (build a.AddTypeParam b)
unfolding build placeless_built with_type_param_list
built_AddTypeParam b =
    carried (moved (option_map placeless_typed)) placeless_built (last_typed b) (last_typed (placeless_built b)) _ _ (pop_typed b) (λ bound.
    carried (moved unplaced_name) placeless_built (last_name bound.1) (last_name (placeless_built bound.1)) _ _ (pop_name bound.1) (λ name.
    carried (moved (map placeless_type_param)) placeless_built (last_type_param_list name.1) (last_type_param_list (placeless_built name.1)) _ _ (pop_type_param_list name.1) (λ xs.
    ap (λ z. Some (with_type_param_list z (placeless_built xs.1))) (sym (one_more placeless_type_param xs.0 (record { name = name.0; bound = bound.0 }))))))

built_AddComma : (b : Built) → build a.AddComma (placeless_built b) ≡ option_map placeless_built (build a.AddComma b)
unfolding build placeless_built with_commas
built_AddComma b =
    carried (moved at_made) placeless_built (last_place b) (last_place (placeless_built b)) _ _ (pop_place b) (λ at.
    carried (moved all_made) placeless_built (last_commas at.1) (last_commas (placeless_built at.1)) _ _ (pop_commas at.1) (λ xs.
    ap (λ z. Some (with_commas z (placeless_built xs.1))) (sym (one_more at_made xs.0 (at.0)))))

built_NoSupers : (b : Built) → build a.NoSupers (placeless_built b) ≡ option_map placeless_built (build a.NoSupers b)
unfolding build placeless_built with_commas with_super_list
built_NoSupers b =
    refl

built_Supers : (b : Built) → build a.Supers (placeless_built b) ≡ option_map placeless_built (build a.Supers b)
unfolding build placeless_built with_supers
built_Supers b =
    carried (moved at_made) placeless_built (last_place b) (last_place (placeless_built b)) _ _ (pop_place b) (λ colon.
    carried (moved all_made) placeless_built (last_commas colon.1) (last_commas (placeless_built colon.1)) _ _ (pop_commas colon.1) (λ commas.
    carried (moved (map placeless_super)) placeless_built (last_super_list commas.1) (last_super_list (placeless_built commas.1)) _ _ (pop_super_list commas.1) (λ items.
    refl)))

built_NoneOfSupers : (b : Built) → build a.NoneOfSupers (placeless_built b) ≡ option_map placeless_built (build a.NoneOfSupers b)
unfolding build placeless_built with_supers
built_NoneOfSupers b =
    refl

built_AddCalledSuper : (b : Built) → build a.AddCalledSuper (placeless_built b) ≡ option_map placeless_built (build a.AddCalledSuper b)
unfolding build placeless_built with_super_list
built_AddCalledSuper b =
    carried (moved brackets_made) placeless_built (last_brackets b) (last_brackets (placeless_built b)) _ _ (pop_brackets b) (λ round.
    carried (moved placeless_type) placeless_built (last_kind round.1) (last_kind (placeless_built round.1)) _ _ (pop_kind round.1) (λ kind.
    carried (moved (map placeless_super)) placeless_built (last_super_list kind.1) (last_super_list (placeless_built kind.1)) _ _ (pop_super_list kind.1) (λ xs.
    ap (λ z. Some (with_super_list z (placeless_built xs.1))) (sym (one_more placeless_super xs.0 (record { kind = kind.0; round = Some round.0 }))))))

built_AddSuper : (b : Built) → build a.AddSuper (placeless_built b) ≡ option_map placeless_built (build a.AddSuper b)
unfolding build placeless_built with_super_list
built_AddSuper b =
    carried (moved placeless_type) placeless_built (last_kind b) (last_kind (placeless_built b)) _ _ (pop_kind b) (λ kind.
    carried (moved (map placeless_super)) placeless_built (last_super_list kind.1) (last_super_list (placeless_built kind.1)) _ _ (pop_super_list kind.1) (λ xs.
    ap (λ z. Some (with_super_list z (placeless_built xs.1))) (sym (one_more placeless_super xs.0 (record { kind = kind.0; round = None })))))

built_Typed : (b : Built) → build a.Typed (placeless_built b) ≡ option_map placeless_built (build a.Typed b)
unfolding build placeless_built with_typed
built_Typed b =
    carried (moved at_made) placeless_built (last_place b) (last_place (placeless_built b)) _ _ (pop_place b) (λ colon.
    carried (moved placeless_type) placeless_built (last_kind colon.1) (last_kind (placeless_built colon.1)) _ _ (pop_kind colon.1) (λ kind.
    refl))

built_Untyped : (b : Built) → build a.Untyped (placeless_built b) ≡ option_map placeless_built (build a.Untyped b)
unfolding build placeless_built with_typed
built_Untyped b =
    refl

built_AddMember : (b : Built) → build a.AddMember (placeless_built b) ≡ option_map placeless_built (build a.AddMember b)
unfolding build placeless_built with_members
built_AddMember b =
    carried (moved placeless_member) placeless_built (last_member b) (last_member (placeless_built b)) _ _ (pop_member b) (λ x.
    carried (moved (map placeless_member)) placeless_built (last_members x.1) (last_members (placeless_built x.1)) _ _ (pop_members x.1) (λ xs.
    ap (λ z. Some (with_members z (placeless_built xs.1))) (sym (one_more placeless_member xs.0 (x.0)))))

built_Init : (b : Built) → build a.Init (placeless_built b) ≡ option_map placeless_built (build a.Init b)
unfolding build placeless_built with_member
built_Init b =
    carried (moved at_made) placeless_built (last_place b) (last_place (placeless_built b)) _ _ (pop_place b) (λ at.
    carried (moved placeless_block) placeless_built (last_block at.1) (last_block (placeless_built at.1)) _ _ (pop_block at.1) (λ b.
    ap (λ z. Some (with_member z (placeless_built b.1))) (sym (member_Init at.0 b.0))))

built_Companion : (b : Built) → build a.Companion (placeless_built b) ≡ option_map placeless_built (build a.Companion b)
unfolding build placeless_built with_member
built_Companion b =
    carried (moved brackets_made) placeless_built (last_brackets b) (last_brackets (placeless_built b)) _ _ (pop_brackets b) (λ curly.
    carried (moved at_made) placeless_built (last_place curly.1) (last_place (placeless_built curly.1)) _ _ (pop_place curly.1) (λ object.
    carried (moved at_made) placeless_built (last_place object.1) (last_place (placeless_built object.1)) _ _ (pop_place object.1) (λ companion.
    carried (moved (map placeless_member)) placeless_built (last_members companion.1) (last_members (placeless_built companion.1)) _ _ (pop_members companion.1) (λ xs.
    ap (λ z. Some (with_member z (placeless_built xs.1))) (sym (member_Companion (record { companion = companion.0; object = object.0; curly = curly.0 }) xs.0))))))

built_Property : (b : Built) → build a.Property (placeless_built b) ≡ option_map placeless_built (build a.Property b)
unfolding build placeless_built with_member
built_Property b =
    carried (moved (option_map placeless_setter)) placeless_built (last_setter b) (last_setter (placeless_built b)) _ _ (pop_setter b) (λ setter.
    carried (moved (option_map placeless_value)) placeless_built (last_value setter.1) (last_value (placeless_built setter.1)) _ _ (pop_value setter.1) (λ value.
    carried (moved placeless_declared) placeless_built (last_declared value.1) (last_declared (placeless_built value.1)) _ _ (pop_declared value.1) (λ d.
    carried (moved (map unplaced_modifier)) placeless_built (last_modifiers d.1) (last_modifiers (placeless_built d.1)) _ _ (pop_modifiers d.1) (λ ms.
    ap (λ z. Some (with_member z (placeless_built ms.1))) (sym (member_Property ms.0 d.0 value.0 setter.0))))))

built_Function : (b : Built) → build a.Function (placeless_built b) ≡ option_map placeless_built (build a.Function b)
unfolding build placeless_built with_member
built_Function b =
    carried (moved at_made) placeless_built (last_place b) (last_place (placeless_built b)) _ _ (pop_place b) (λ at.
    carried (moved (option_map placeless_block)) placeless_built (last_body at.1) (last_body (placeless_built at.1)) _ _ (pop_body at.1) (λ body.
    carried (moved (option_map placeless_typed)) placeless_built (last_typed body.1) (last_typed (placeless_built body.1)) _ _ (pop_typed body.1) (λ result_type.
    carried (moved placeless_params) placeless_built (last_params result_type.1) (last_params (placeless_built result_type.1)) _ _ (pop_params result_type.1) (λ params.
    carried (moved unplaced_name) placeless_built (last_name params.1) (last_name (placeless_built params.1)) _ _ (pop_name params.1) (λ name.
    carried (moved (map unplaced_modifier)) placeless_built (last_modifiers name.1) (last_modifiers (placeless_built name.1)) _ _ (pop_modifiers name.1) (λ ms.
    ap (λ z. Some (with_member z (placeless_built ms.1))) (sym (member_Function ms.0 at.0 name.0 params.0 result_type.0 body.0))))))))

built_Constructor : (b : Built) → build a.Constructor (placeless_built b) ≡ option_map placeless_built (build a.Constructor b)
unfolding build placeless_built with_member
built_Constructor b =
    carried (moved at_made) placeless_built (last_place b) (last_place (placeless_built b)) _ _ (pop_place b) (λ at.
    carried (moved placeless_block) placeless_built (last_block at.1) (last_block (placeless_built at.1)) _ _ (pop_block at.1) (λ b.
    carried (moved (option_map placeless_delegation)) placeless_built (last_delegation b.1) (last_delegation (placeless_built b.1)) _ _ (pop_delegation b.1) (λ first.
    carried (moved placeless_params) placeless_built (last_params first.1) (last_params (placeless_built first.1)) _ _ (pop_params first.1) (λ params.
    carried (moved (map unplaced_modifier)) placeless_built (last_modifiers params.1) (last_modifiers (placeless_built params.1)) _ _ (pop_modifiers params.1) (λ ms.
    ap (λ z. Some (with_member z (placeless_built ms.1))) (sym (member_Constructor ms.0 at.0 params.0 first.0 b.0)))))))

built_Declared : (b : Built) → build a.Declared (placeless_built b) ≡ option_map placeless_built (build a.Declared b)
unfolding build placeless_built with_declared
built_Declared b =
    carried (moved at_made) placeless_built (last_place b) (last_place (placeless_built b)) _ _ (pop_place b) (λ colon.
    carried (moved placeless_token) placeless_built (last_token colon.1) (last_token (placeless_built colon.1)) _ _ (pop_token colon.1) (λ t.
    bound_same placeless_built (variability_of t.0.kind) _ _ (λ word.
    carried (moved placeless_type) placeless_built (last_kind t.1) (last_kind (placeless_built t.1)) _ _ (pop_kind t.1) (λ kind.
    carried (moved unplaced_name) placeless_built (last_name kind.1) (last_name (placeless_built kind.1)) _ _ (pop_name kind.1) (λ name.
    refl)))))

built_Value : (b : Built) → build a.Value (placeless_built b) ≡ option_map placeless_built (build a.Value b)
unfolding build placeless_built with_value
built_Value b =
    carried (moved at_made) placeless_built (last_place b) (last_place (placeless_built b)) _ _ (pop_place b) (λ at.
    carried (moved placeless_expression) placeless_built (last_expr at.1) (last_expr (placeless_built at.1)) _ _ (pop_expr at.1) (λ x.
    refl))

built_NoValue : (b : Built) → build a.NoValue (placeless_built b) ≡ option_map placeless_built (build a.NoValue b)
unfolding build placeless_built with_value
built_NoValue b =
    refl

built_Setter : (b : Built) → build a.Setter (placeless_built b) ≡ option_map placeless_built (build a.Setter b)
unfolding build placeless_built with_setter
built_Setter b =
    carried (moved at_made) placeless_built (last_place b) (last_place (placeless_built b)) _ _ (pop_place b) (λ set_at.
    carried (moved at_made) placeless_built (last_place set_at.1) (last_place (placeless_built set_at.1)) _ _ (pop_place set_at.1) (λ private_at.
    refl))

built_NoSetter : (b : Built) → build a.NoSetter (placeless_built b) ≡ option_map placeless_built (build a.NoSetter b)
unfolding build placeless_built with_setter
built_NoSetter b =
    refl

built_NoParams : (b : Built) → build a.NoParams (placeless_built b) ≡ option_map placeless_built (build a.NoParams b)
unfolding build placeless_built with_commas with_param_list
built_NoParams b =
    refl

built_Params : (b : Built) → build a.Params (placeless_built b) ≡ option_map placeless_built (build a.Params b)
unfolding build placeless_built with_params
built_Params b =
    carried (moved brackets_made) placeless_built (last_brackets b) (last_brackets (placeless_built b)) _ _ (pop_brackets b) (λ round.
    carried (moved all_made) placeless_built (last_commas round.1) (last_commas (placeless_built round.1)) _ _ (pop_commas round.1) (λ commas.
    carried (moved (map placeless_param)) placeless_built (last_param_list commas.1) (last_param_list (placeless_built commas.1)) _ _ (pop_param_list commas.1) (λ items.
    refl)))

built_AddParam : (b : Built) → build a.AddParam (placeless_built b) ≡ option_map placeless_built (build a.AddParam b)
unfolding build placeless_built with_param_list
built_AddParam b =
    carried (moved at_made) placeless_built (last_place b) (last_place (placeless_built b)) _ _ (pop_place b) (λ colon.
    carried (moved placeless_type) placeless_built (last_kind colon.1) (last_kind (placeless_built colon.1)) _ _ (pop_kind colon.1) (λ kind.
    carried (moved unplaced_name) placeless_built (last_name kind.1) (last_name (placeless_built kind.1)) _ _ (pop_name kind.1) (λ name.
    carried (moved (map placeless_param)) placeless_built (last_param_list name.1) (last_param_list (placeless_built name.1)) _ _ (pop_param_list name.1) (λ xs.
    ap (λ z. Some (with_param_list z (placeless_built xs.1))) (sym (one_more placeless_param xs.0 (record { name = name.0; colon = colon.0; kind = kind.0 })))))))

built_Body : (b : Built) → build a.Body (placeless_built b) ≡ option_map placeless_built (build a.Body b)
unfolding build placeless_built with_body
built_Body b =
    carried (moved placeless_block) placeless_built (last_block b) (last_block (placeless_built b)) _ _ (pop_block b) (λ b.
    refl)

built_NoBody : (b : Built) → build a.NoBody (placeless_built b) ≡ option_map placeless_built (build a.NoBody b)
unfolding build placeless_built with_body
built_NoBody b =
    refl

built_Delegation : (b : Built) → build a.Delegation (placeless_built b) ≡ option_map placeless_built (build a.Delegation b)
unfolding build placeless_built with_delegation
built_Delegation b =
    carried (moved brackets_made) placeless_built (last_brackets b) (last_brackets (placeless_built b)) _ _ (pop_brackets b) (λ round.
    carried (moved placeless_token) placeless_built (last_token round.1) (last_token (placeless_built round.1)) _ _ (pop_token round.1) (λ t.
    bound_same placeless_built (called_of t.0.kind) _ _ (λ called.
    carried (moved at_made) placeless_built (last_place t.1) (last_place (placeless_built t.1)) _ _ (pop_place t.1) (λ colon.
    carried (moved all_made) placeless_built (last_commas colon.1) (last_commas (placeless_built colon.1)) _ _ (pop_commas colon.1) (λ commas.
    carried (moved (map placeless_expression)) placeless_built (last_exprs commas.1) (last_exprs (placeless_built commas.1)) _ _ (pop_exprs commas.1) (λ xs.
    refl))))))

built_NoDelegation : (b : Built) → build a.NoDelegation (placeless_built b) ≡ option_map placeless_built (build a.NoDelegation b)
unfolding build placeless_built with_delegation
built_NoDelegation b =
    refl

built_NoStatements : (b : Built) → build a.NoStatements (placeless_built b) ≡ option_map placeless_built (build a.NoStatements b)
unfolding build placeless_built with_statements
built_NoStatements b =
    refl

built_Block : (b : Built) → build a.Block (placeless_built b) ≡ option_map placeless_built (build a.Block b)
unfolding build placeless_built with_block
built_Block b =
    carried (moved brackets_made) placeless_built (last_brackets b) (last_brackets (placeless_built b)) _ _ (pop_brackets b) (λ curly.
    carried (moved (map placeless_statement)) placeless_built (last_statements curly.1) (last_statements (placeless_built curly.1)) _ _ (pop_statements curly.1) (λ statements.
    refl))

built_AddStatement : (b : Built) → build a.AddStatement (placeless_built b) ≡ option_map placeless_built (build a.AddStatement b)
unfolding build placeless_built with_statements
built_AddStatement b =
    carried (moved placeless_statement) placeless_built (last_statement b) (last_statement (placeless_built b)) _ _ (pop_statement b) (λ x.
    carried (moved (map placeless_statement)) placeless_built (last_statements x.1) (last_statements (placeless_built x.1)) _ _ (pop_statements x.1) (λ xs.
    ap (λ z. Some (with_statements z (placeless_built xs.1))) (sym (one_more placeless_statement xs.0 (x.0)))))

built_Label : (b : Built) → build a.Label (placeless_built b) ≡ option_map placeless_built (build a.Label b)
unfolding build placeless_built with_label
built_Label b =
    carried (moved at_made) placeless_built (last_place b) (last_place (placeless_built b)) _ _ (pop_place b) (λ at.
    carried (moved unplaced_name) placeless_built (last_name at.1) (last_name (placeless_built at.1)) _ _ (pop_name at.1) (λ name.
    refl))

built_NoLabel : (b : Built) → build a.NoLabel (placeless_built b) ≡ option_map placeless_built (build a.NoLabel b)
unfolding build placeless_built with_label
built_NoLabel b =
    refl

built_Break : (b : Built) → build a.Break (placeless_built b) ≡ option_map placeless_built (build a.Break b)
unfolding build placeless_built with_statement
built_Break b =
    carried (moved at_made) placeless_built (last_place b) (last_place (placeless_built b)) _ _ (pop_place b) (λ at.
    carried (moved (option_map unplaced_target)) placeless_built (last_target at.1) (last_target (placeless_built at.1)) _ _ (pop_target at.1) (λ to.
    ap (λ z. Some (with_statement z (placeless_built to.1))) (sym (statement_Break at.0 to.0))))

built_Continue : (b : Built) → build a.Continue (placeless_built b) ≡ option_map placeless_built (build a.Continue b)
unfolding build placeless_built with_statement
built_Continue b =
    carried (moved at_made) placeless_built (last_place b) (last_place (placeless_built b)) _ _ (pop_place b) (λ at.
    carried (moved (option_map unplaced_target)) placeless_built (last_target at.1) (last_target (placeless_built at.1)) _ _ (pop_target at.1) (λ to.
    ap (λ z. Some (with_statement z (placeless_built to.1))) (sym (statement_Continue at.0 to.0))))

built_Throw : (b : Built) → build a.Throw (placeless_built b) ≡ option_map placeless_built (build a.Throw b)
unfolding build placeless_built with_statement
built_Throw b =
    carried (moved at_made) placeless_built (last_place b) (last_place (placeless_built b)) _ _ (pop_place b) (λ at.
    carried (moved placeless_expression) placeless_built (last_expr at.1) (last_expr (placeless_built at.1)) _ _ (pop_expr at.1) (λ x.
    ap (λ z. Some (with_statement z (placeless_built x.1))) (sym (statement_Throw at.0 x.0))))

built_NoCatches : (b : Built) → build a.NoCatches (placeless_built b) ≡ option_map placeless_built (build a.NoCatches b)
unfolding build placeless_built with_catches
built_NoCatches b =
    refl

built_Synchronized : (b : Built) → build a.Synchronized (placeless_built b) ≡ option_map placeless_built (build a.Synchronized b)
unfolding build placeless_built with_statement
built_Synchronized b =
    carried (moved head_made) placeless_built (last_head b) (last_head (placeless_built b)) _ _ (pop_head b) (λ at.
    carried (moved placeless_block) placeless_built (last_block at.1) (last_block (placeless_built at.1)) _ _ (pop_block at.1) (λ b.
    carried (moved placeless_expression) placeless_built (last_expr b.1) (last_expr (placeless_built b.1)) _ _ (pop_expr b.1) (λ x.
    ap (λ z. Some (with_statement z (placeless_built x.1))) (sym (statement_Synchronized at.0 x.0 b.0.curly b.0.statements)))))

built_Prefix : (b : Built) → build a.Prefix (placeless_built b) ≡ option_map placeless_built (build a.Prefix b)
unfolding build placeless_built with_expr
built_Prefix b =
    carried (moved placeless_token) placeless_built (last_token b) (last_token (placeless_built b)) _ _ (pop_token b) (λ t.
    bound_same placeless_built (prefix_of t.0.kind) _ _ (λ operator.
    carried (moved placeless_expression) placeless_built (last_expr t.1) (last_expr (placeless_built t.1)) _ _ (pop_expr t.1) (λ x.
    ap (λ z. Some (with_expr z (placeless_built x.1))) (sym (expression_Prefix operator t.0.position x.0)))))

built_Local : (b : Built) → build a.Local (placeless_built b) ≡ option_map placeless_built (build a.Local b)
unfolding build placeless_built with_statement
built_Local b =
    carried (moved at_made) placeless_built (last_place b) (last_place (placeless_built b)) _ _ (pop_place b) (λ at.
    carried (moved placeless_expression) placeless_built (last_expr at.1) (last_expr (placeless_built at.1)) _ _ (pop_expr at.1) (λ x.
    carried (moved placeless_declared) placeless_built (last_declared x.1) (last_declared (placeless_built x.1)) _ _ (pop_declared x.1) (λ d.
    ap (λ z. Some (with_statement z (placeless_built d.1))) (sym (statement_Local d.0 at.0 x.0)))))

built_Unset : (b : Built) → build a.Unset (placeless_built b) ≡ option_map placeless_built (build a.Unset b)
unfolding build placeless_built with_statement
built_Unset b =
    carried (moved placeless_declared) placeless_built (last_declared b) (last_declared (placeless_built b)) _ _ (pop_declared b) (λ d.
    ap (λ z. Some (with_statement z (placeless_built d.1))) (sym (statement_Declared d.0)))

built_While : (b : Built) → build a.While (placeless_built b) ≡ option_map placeless_built (build a.While b)
unfolding build placeless_built with_statement
built_While b =
    carried (moved head_made) placeless_built (last_head b) (last_head (placeless_built b)) _ _ (pop_head b) (λ at.
    carried (moved placeless_block) placeless_built (last_block at.1) (last_block (placeless_built at.1)) _ _ (pop_block at.1) (λ b.
    carried (moved placeless_expression) placeless_built (last_expr b.1) (last_expr (placeless_built b.1)) _ _ (pop_expr b.1) (λ x.
    carried (moved (option_map unplaced_label)) placeless_built (last_label x.1) (last_label (placeless_built x.1)) _ _ (pop_label x.1) (λ label.
    ap (λ z. Some (with_statement z (placeless_built label.1))) (sym (statement_While label.0 at.0 x.0 b.0.curly b.0.statements))))))

built_DoWhile : (b : Built) → build a.DoWhile (placeless_built b) ≡ option_map placeless_built (build a.DoWhile b)
unfolding build placeless_built with_statement
built_DoWhile b =
    carried (moved head_made) placeless_built (last_head b) (last_head (placeless_built b)) _ _ (pop_head b) (λ at.
    carried (moved at_made) placeless_built (last_place at.1) (last_place (placeless_built at.1)) _ _ (pop_place at.1) (λ do_at.
    carried (moved placeless_expression) placeless_built (last_expr do_at.1) (last_expr (placeless_built do_at.1)) _ _ (pop_expr do_at.1) (λ x.
    carried (moved placeless_block) placeless_built (last_block x.1) (last_block (placeless_built x.1)) _ _ (pop_block x.1) (λ b.
    carried (moved (option_map unplaced_label)) placeless_built (last_label b.1) (last_label (placeless_built b.1)) _ _ (pop_label b.1) (λ label.
    ap (λ z. Some (with_statement z (placeless_built label.1))) (sym (statement_DoWhile label.0 do_at.0 b.0.curly b.0.statements at.0 x.0)))))))

built_ForRange : (b : Built) → build a.ForRange (placeless_built b) ≡ option_map placeless_built (build a.ForRange b)
unfolding build placeless_built with_statement
built_ForRange b =
    carried (moved at_made) placeless_built (last_place b) (last_place (placeless_built b)) _ _ (pop_place b) (λ closes.
    carried (moved at_made) placeless_built (last_place closes.1) (last_place (placeless_built closes.1)) _ _ (pop_place closes.1) (λ until_at.
    carried (moved at_made) placeless_built (last_place until_at.1) (last_place (placeless_built until_at.1)) _ _ (pop_place until_at.1) (λ in_at.
    carried (moved at_made) placeless_built (last_place in_at.1) (last_place (placeless_built in_at.1)) _ _ (pop_place in_at.1) (λ opens.
    carried (moved at_made) placeless_built (last_place opens.1) (last_place (placeless_built opens.1)) _ _ (pop_place opens.1) (λ word.
    carried (moved placeless_block) placeless_built (last_block word.1) (last_block (placeless_built word.1)) _ _ (pop_block word.1) (λ b.
    carried (moved placeless_expression) placeless_built (last_expr b.1) (last_expr (placeless_built b.1)) _ _ (pop_expr b.1) (λ y.
    carried (moved placeless_expression) placeless_built (last_expr y.1) (last_expr (placeless_built y.1)) _ _ (pop_expr y.1) (λ x.
    carried (moved unplaced_name) placeless_built (last_name x.1) (last_name (placeless_built x.1)) _ _ (pop_name x.1) (λ name.
    carried (moved (option_map unplaced_label)) placeless_built (last_label name.1) (last_label (placeless_built name.1)) _ _ (pop_label name.1) (λ label.
    ap (λ z. Some (with_statement z (placeless_built label.1))) (sym (statement_ForRange label.0 (record { word = word.0; round = record { opens = opens.0; closes = closes.0 } }) name.0 in_at.0 x.0 until_at.0 y.0 b.0.curly b.0.statements))))))))))))

built_For : (b : Built) → build a.For (placeless_built b) ≡ option_map placeless_built (build a.For b)
unfolding build placeless_built with_statement
built_For b =
    carried (moved at_made) placeless_built (last_place b) (last_place (placeless_built b)) _ _ (pop_place b) (λ closes.
    carried (moved at_made) placeless_built (last_place closes.1) (last_place (placeless_built closes.1)) _ _ (pop_place closes.1) (λ in_at.
    carried (moved at_made) placeless_built (last_place in_at.1) (last_place (placeless_built in_at.1)) _ _ (pop_place in_at.1) (λ opens.
    carried (moved at_made) placeless_built (last_place opens.1) (last_place (placeless_built opens.1)) _ _ (pop_place opens.1) (λ word.
    carried (moved placeless_block) placeless_built (last_block word.1) (last_block (placeless_built word.1)) _ _ (pop_block word.1) (λ b.
    carried (moved placeless_expression) placeless_built (last_expr b.1) (last_expr (placeless_built b.1)) _ _ (pop_expr b.1) (λ x.
    carried (moved unplaced_name) placeless_built (last_name x.1) (last_name (placeless_built x.1)) _ _ (pop_name x.1) (λ name.
    carried (moved (option_map unplaced_label)) placeless_built (last_label name.1) (last_label (placeless_built name.1)) _ _ (pop_label name.1) (λ label.
    ap (λ z. Some (with_statement z (placeless_built label.1))) (sym (statement_For label.0 (record { word = word.0; round = record { opens = opens.0; closes = closes.0 } }) name.0 in_at.0 x.0 b.0.curly b.0.statements))))))))))

built_IfValue : (b : Built) → build a.IfValue (placeless_built b) ≡ option_map placeless_built (build a.IfValue b)
unfolding build placeless_built with_expr
built_IfValue b =
    carried (moved at_made) placeless_built (last_place b) (last_place (placeless_built b)) _ _ (pop_place b) (λ else_at.
    carried (moved head_made) placeless_built (last_head else_at.1) (last_head (placeless_built else_at.1)) _ _ (pop_head else_at.1) (λ at.
    carried (moved placeless_expression) placeless_built (last_expr at.1) (last_expr (placeless_built at.1)) _ _ (pop_expr at.1) (λ z.
    carried (moved placeless_expression) placeless_built (last_expr z.1) (last_expr (placeless_built z.1)) _ _ (pop_expr z.1) (λ y.
    carried (moved placeless_expression) placeless_built (last_expr y.1) (last_expr (placeless_built y.1)) _ _ (pop_expr y.1) (λ x.
    ap (λ z. Some (with_expr z (placeless_built x.1))) (sym (expression_IfValue at.0 x.0 y.0 else_at.0 z.0)))))))

built_Expression : (b : Built) → build a.Expression (placeless_built b) ≡ option_map placeless_built (build a.Expression b)
unfolding build placeless_built with_statement
built_Expression b =
    carried (moved placeless_expression) placeless_built (last_expr b) (last_expr (placeless_built b)) _ _ (pop_expr b) (λ x.
    ap (λ z. Some (with_statement z (placeless_built x.1))) (sym (statement_Expression x.0)))

built_If : (b : Built) → build a.If (placeless_built b) ≡ option_map placeless_built (build a.If b)
unfolding build placeless_built with_statement
built_If b =
    carried (moved head_made) placeless_built (last_head b) (last_head (placeless_built b)) _ _ (pop_head b) (λ at.
    carried (moved placeless_block) placeless_built (last_block at.1) (last_block (placeless_built at.1)) _ _ (pop_block at.1) (λ b.
    carried (moved placeless_expression) placeless_built (last_expr b.1) (last_expr (placeless_built b.1)) _ _ (pop_expr b.1) (λ x.
    ap (λ z. Some (with_statement z (placeless_built x.1))) (sym (statement_If at.0 x.0 b.0.curly b.0.statements)))))

built_IfElse : (b : Built) → build a.IfElse (placeless_built b) ≡ option_map placeless_built (build a.IfElse b)
unfolding build placeless_built with_statement
built_IfElse b =
    carried (moved at_made) placeless_built (last_place b) (last_place (placeless_built b)) _ _ (pop_place b) (λ else_at.
    carried (moved head_made) placeless_built (last_head else_at.1) (last_head (placeless_built else_at.1)) _ _ (pop_head else_at.1) (λ at.
    carried (moved placeless_block) placeless_built (last_block at.1) (last_block (placeless_built at.1)) _ _ (pop_block at.1) (λ c.
    carried (moved placeless_block) placeless_built (last_block c.1) (last_block (placeless_built c.1)) _ _ (pop_block c.1) (λ b.
    carried (moved placeless_expression) placeless_built (last_expr b.1) (last_expr (placeless_built b.1)) _ _ (pop_expr b.1) (λ x.
    ap (λ z. Some (with_statement z (placeless_built x.1))) (sym (statement_IfElse at.0 x.0 b.0.curly b.0.statements else_at.0 c.0.curly c.0.statements)))))))

built_IfElseIf : (b : Built) → build a.IfElseIf (placeless_built b) ≡ option_map placeless_built (build a.IfElseIf b)
unfolding build placeless_built with_statement
built_IfElseIf b =
    carried (moved at_made) placeless_built (last_place b) (last_place (placeless_built b)) _ _ (pop_place b) (λ else_at.
    carried (moved head_made) placeless_built (last_head else_at.1) (last_head (placeless_built else_at.1)) _ _ (pop_head else_at.1) (λ at.
    carried (moved placeless_statement) placeless_built (last_statement at.1) (last_statement (placeless_built at.1)) _ _ (pop_statement at.1) (λ y.
    carried (moved placeless_block) placeless_built (last_block y.1) (last_block (placeless_built y.1)) _ _ (pop_block y.1) (λ b.
    carried (moved placeless_expression) placeless_built (last_expr b.1) (last_expr (placeless_built b.1)) _ _ (pop_expr b.1) (λ x.
    ap (λ z. Some (with_statement z (placeless_built x.1))) (sym (statement_IfElseIf at.0 x.0 b.0.curly b.0.statements else_at.0 y.0)))))))

built_Branch : (b : Built) → build a.Branch (placeless_built b) ≡ option_map placeless_built (build a.Branch b)
unfolding build placeless_built with_branch
built_Branch b =
    carried (moved at_made) placeless_built (last_place b) (last_place (placeless_built b)) _ _ (pop_place b) (λ arrow.
    carried (moved placeless_block) placeless_built (last_block arrow.1) (last_block (placeless_built arrow.1)) _ _ (pop_block arrow.1) (λ b.
    carried (moved all_made) placeless_built (last_commas b.1) (last_commas (placeless_built b.1)) _ _ (pop_commas b.1) (λ commas.
    carried (moved (map placeless_expression)) placeless_built (last_exprs commas.1) (last_exprs (placeless_built commas.1)) _ _ (pop_exprs commas.1) (λ labels.
    ap (λ z. Some (with_branch z (placeless_built labels.1))) (sym (branch_rolled (record { labels = labels.0; commas = commas.0; arrow = arrow.0; curly = b.0.curly; statements = b.0.statements })))))))

built_NoBranches : (b : Built) → build a.NoBranches (placeless_built b) ≡ option_map placeless_built (build a.NoBranches b)
unfolding build placeless_built with_branches
built_NoBranches b =
    refl

built_AddBranch : (b : Built) → build a.AddBranch (placeless_built b) ≡ option_map placeless_built (build a.AddBranch b)
unfolding build placeless_built with_branches
built_AddBranch b =
    carried (moved placeless_branch) placeless_built (last_branch b) (last_branch (placeless_built b)) _ _ (pop_branch b) (λ x.
    carried (moved (map placeless_branch)) placeless_built (last_branches x.1) (last_branches (placeless_built x.1)) _ _ (pop_branches x.1) (λ xs.
    ap (λ z. Some (with_branches z (placeless_built xs.1))) (sym (one_more placeless_branch xs.0 (x.0)))))

built_WhenBranches : (b : Built) → build a.WhenBranches (placeless_built b) ≡ option_map placeless_built (build a.WhenBranches b)
unfolding build placeless_built with_statement
built_WhenBranches b =
    carried (moved at_made) placeless_built (last_place b) (last_place (placeless_built b)) _ _ (pop_place b) (λ closes.
    carried (moved at_made) placeless_built (last_place closes.1) (last_place (placeless_built closes.1)) _ _ (pop_place closes.1) (λ arrow.
    carried (moved at_made) placeless_built (last_place arrow.1) (last_place (placeless_built arrow.1)) _ _ (pop_place arrow.1) (λ word.
    carried (moved at_made) placeless_built (last_place word.1) (last_place (placeless_built word.1)) _ _ (pop_place word.1) (λ opens.
    carried (moved head_made) placeless_built (last_head opens.1) (last_head (placeless_built opens.1)) _ _ (pop_head opens.1) (λ at.
    carried (moved placeless_block) placeless_built (last_block at.1) (last_block (placeless_built at.1)) _ _ (pop_block at.1) (λ b.
    carried (moved (map placeless_branch)) placeless_built (last_branches b.1) (last_branches (placeless_built b.1)) _ _ (pop_branches b.1) (λ xs.
    carried (moved placeless_expression) placeless_built (last_expr xs.1) (last_expr (placeless_built xs.1)) _ _ (pop_expr xs.1) (λ x.
    ap (λ z. Some (with_statement z (placeless_built x.1))) (sym (statement_When at.0 x.0 (record { opens = opens.0; closes = closes.0 }) xs.0 (record { word = word.0; arrow = arrow.0 }) b.0.curly b.0.statements))))))))))

built_Choice : (b : Built) → build a.Choice (placeless_built b) ≡ option_map placeless_built (build a.Choice b)
unfolding build placeless_built with_choice
built_Choice b =
    carried (moved at_made) placeless_built (last_place b) (last_place (placeless_built b)) _ _ (pop_place b) (λ arrow.
    carried (moved placeless_expression) placeless_built (last_expr arrow.1) (last_expr (placeless_built arrow.1)) _ _ (pop_expr arrow.1) (λ x.
    carried (moved all_made) placeless_built (last_commas x.1) (last_commas (placeless_built x.1)) _ _ (pop_commas x.1) (λ commas.
    carried (moved (map placeless_expression)) placeless_built (last_exprs commas.1) (last_exprs (placeless_built commas.1)) _ _ (pop_exprs commas.1) (λ labels.
    ap (λ z. Some (with_choice z (placeless_built labels.1))) (sym (choice_rolled (record { labels = labels.0; commas = commas.0; arrow = arrow.0; value = x.0 })))))))

built_NoChoices : (b : Built) → build a.NoChoices (placeless_built b) ≡ option_map placeless_built (build a.NoChoices b)
unfolding build placeless_built with_choices
built_NoChoices b =
    refl

built_AddChoice : (b : Built) → build a.AddChoice (placeless_built b) ≡ option_map placeless_built (build a.AddChoice b)
unfolding build placeless_built with_choices
built_AddChoice b =
    carried (moved placeless_choice) placeless_built (last_choice b) (last_choice (placeless_built b)) _ _ (pop_choice b) (λ x.
    carried (moved (map placeless_choice)) placeless_built (last_choices x.1) (last_choices (placeless_built x.1)) _ _ (pop_choices x.1) (λ xs.
    ap (λ z. Some (with_choices z (placeless_built xs.1))) (sym (one_more placeless_choice xs.0 (x.0)))))

built_WhenChoices : (b : Built) → build a.WhenChoices (placeless_built b) ≡ option_map placeless_built (build a.WhenChoices b)
unfolding build placeless_built with_expr
built_WhenChoices b =
    carried (moved at_made) placeless_built (last_place b) (last_place (placeless_built b)) _ _ (pop_place b) (λ closes.
    carried (moved at_made) placeless_built (last_place closes.1) (last_place (placeless_built closes.1)) _ _ (pop_place closes.1) (λ arrow.
    carried (moved at_made) placeless_built (last_place arrow.1) (last_place (placeless_built arrow.1)) _ _ (pop_place arrow.1) (λ word.
    carried (moved at_made) placeless_built (last_place word.1) (last_place (placeless_built word.1)) _ _ (pop_place word.1) (λ opens.
    carried (moved head_made) placeless_built (last_head opens.1) (last_head (placeless_built opens.1)) _ _ (pop_head opens.1) (λ at.
    carried (moved placeless_expression) placeless_built (last_expr at.1) (last_expr (placeless_built at.1)) _ _ (pop_expr at.1) (λ z.
    carried (moved (map placeless_choice)) placeless_built (last_choices z.1) (last_choices (placeless_built z.1)) _ _ (pop_choices z.1) (λ xs.
    carried (moved placeless_expression) placeless_built (last_expr xs.1) (last_expr (placeless_built xs.1)) _ _ (pop_expr xs.1) (λ x.
    ap (λ z. Some (with_expr z (placeless_built x.1))) (sym (expression_WhenValue at.0 x.0 (record { opens = opens.0; closes = closes.0 }) xs.0 (record { word = word.0; arrow = arrow.0 }) z.0))))))))))

built_NoExprs : (b : Built) → build a.NoExprs (placeless_built b) ≡ option_map placeless_built (build a.NoExprs b)
unfolding build placeless_built with_commas with_exprs
built_NoExprs b =
    refl

built_AddExpr : (b : Built) → build a.AddExpr (placeless_built b) ≡ option_map placeless_built (build a.AddExpr b)
unfolding build placeless_built with_exprs
built_AddExpr b =
    carried (moved placeless_expression) placeless_built (last_expr b) (last_expr (placeless_built b)) _ _ (pop_expr b) (λ x.
    carried (moved (map placeless_expression)) placeless_built (last_exprs x.1) (last_exprs (placeless_built x.1)) _ _ (pop_exprs x.1) (λ xs.
    ap (λ z. Some (with_exprs z (placeless_built xs.1))) (sym (one_more placeless_expression xs.0 (x.0)))))

built_Target : (b : Built) → build a.Target (placeless_built b) ≡ option_map placeless_built (build a.Target b)
unfolding build placeless_built with_target
built_Target b =
    carried (moved at_made) placeless_built (last_place b) (last_place (placeless_built b)) _ _ (pop_place b) (λ at.
    carried (moved unplaced_name) placeless_built (last_name at.1) (last_name (placeless_built at.1)) _ _ (pop_name at.1) (λ name.
    refl))

built_NoTarget : (b : Built) → build a.NoTarget (placeless_built b) ≡ option_map placeless_built (build a.NoTarget b)
unfolding build placeless_built with_target
built_NoTarget b =
    refl

built_Give : (b : Built) → build a.Give (placeless_built b) ≡ option_map placeless_built (build a.Give b)
unfolding build placeless_built with_statement
built_Give b =
    carried (moved at_made) placeless_built (last_place b) (last_place (placeless_built b)) _ _ (pop_place b) (λ at.
    carried (moved placeless_expression) placeless_built (last_expr at.1) (last_expr (placeless_built at.1)) _ _ (pop_expr at.1) (λ x.
    carried (moved (option_map unplaced_target)) placeless_built (last_target x.1) (last_target (placeless_built x.1)) _ _ (pop_target x.1) (λ to.
    ap (λ z. Some (with_statement z (placeless_built to.1))) (sym (statement_Give at.0 to.0 x.0)))))

built_Return : (b : Built) → build a.Return (placeless_built b) ≡ option_map placeless_built (build a.Return b)
unfolding build placeless_built with_statement
built_Return b =
    carried (moved at_made) placeless_built (last_place b) (last_place (placeless_built b)) _ _ (pop_place b) (λ at.
    carried (moved (option_map unplaced_target)) placeless_built (last_target at.1) (last_target (placeless_built at.1)) _ _ (pop_target at.1) (λ to.
    ap (λ z. Some (with_statement z (placeless_built to.1))) (sym (statement_Return at.0 to.0))))

built_Catch : (b : Built) → build a.Catch (placeless_built b) ≡ option_map placeless_built (build a.Catch b)
unfolding build placeless_built with_catch
built_Catch b =
    carried (moved at_made) placeless_built (last_place b) (last_place (placeless_built b)) _ _ (pop_place b) (λ closes.
    carried (moved at_made) placeless_built (last_place closes.1) (last_place (placeless_built closes.1)) _ _ (pop_place closes.1) (λ colon.
    carried (moved at_made) placeless_built (last_place colon.1) (last_place (placeless_built colon.1)) _ _ (pop_place colon.1) (λ opens.
    carried (moved at_made) placeless_built (last_place opens.1) (last_place (placeless_built opens.1)) _ _ (pop_place opens.1) (λ word.
    carried (moved placeless_block) placeless_built (last_block word.1) (last_block (placeless_built word.1)) _ _ (pop_block word.1) (λ b.
    carried (moved placeless_type) placeless_built (last_kind b.1) (last_kind (placeless_built b.1)) _ _ (pop_kind b.1) (λ kind.
    carried (moved unplaced_name) placeless_built (last_name kind.1) (last_name (placeless_built kind.1)) _ _ (pop_name kind.1) (λ name.
    ap (λ z. Some (with_catch z (placeless_built name.1))) (sym (catch_rolled (record { at = record { word = word.0; round = record { opens = opens.0; closes = closes.0 } }; name = name.0; colon = colon.0; kind = kind.0; curly = b.0.curly; statements = b.0.statements }))))))))))

built_AddCatch : (b : Built) → build a.AddCatch (placeless_built b) ≡ option_map placeless_built (build a.AddCatch b)
unfolding build placeless_built with_catches
built_AddCatch b =
    carried (moved placeless_catch) placeless_built (last_catch b) (last_catch (placeless_built b)) _ _ (pop_catch b) (λ x.
    carried (moved (map placeless_catch)) placeless_built (last_catches x.1) (last_catches (placeless_built x.1)) _ _ (pop_catches x.1) (λ xs.
    ap (λ z. Some (with_catches z (placeless_built xs.1))) (sym (one_more placeless_catch xs.0 (x.0)))))

built_TryFinally : (b : Built) → build a.TryFinally (placeless_built b) ≡ option_map placeless_built (build a.TryFinally b)
unfolding build placeless_built with_statement
built_TryFinally b =
    carried (moved at_made) placeless_built (last_place b) (last_place (placeless_built b)) _ _ (pop_place b) (λ word.
    carried (moved at_made) placeless_built (last_place word.1) (last_place (placeless_built word.1)) _ _ (pop_place word.1) (λ at.
    carried (moved placeless_block) placeless_built (last_block at.1) (last_block (placeless_built at.1)) _ _ (pop_block at.1) (λ c.
    carried (moved (map placeless_catch)) placeless_built (last_catches c.1) (last_catches (placeless_built c.1)) _ _ (pop_catches c.1) (λ xs.
    carried (moved placeless_block) placeless_built (last_block xs.1) (last_block (placeless_built xs.1)) _ _ (pop_block xs.1) (λ b.
    ap (λ z. Some (with_statement z (placeless_built b.1))) (sym (statement_TryFinally at.0 b.0.curly b.0.statements xs.0 (record { word = word.0; curly = c.0.curly }) c.0.statements)))))))

built_Try : (b : Built) → build a.Try (placeless_built b) ≡ option_map placeless_built (build a.Try b)
unfolding build placeless_built with_statement
built_Try b =
    carried (moved at_made) placeless_built (last_place b) (last_place (placeless_built b)) _ _ (pop_place b) (λ at.
    carried (moved (map placeless_catch)) placeless_built (last_catches at.1) (last_catches (placeless_built at.1)) _ _ (pop_catches at.1) (λ xs.
    carried (moved placeless_block) placeless_built (last_block xs.1) (last_block (placeless_built xs.1)) _ _ (pop_block xs.1) (λ b.
    ap (λ z. Some (with_statement z (placeless_built b.1))) (sym (statement_Try at.0 b.0.curly b.0.statements xs.0)))))

built_Assign : (b : Built) → build a.Assign (placeless_built b) ≡ option_map placeless_built (build a.Assign b)
unfolding build placeless_built with_statement
built_Assign b =
    carried (moved at_made) placeless_built (last_place b) (last_place (placeless_built b)) _ _ (pop_place b) (λ at.
    carried (moved placeless_expression) placeless_built (last_expr at.1) (last_expr (placeless_built at.1)) _ _ (pop_expr at.1) (λ y.
    carried (moved placeless_expression) placeless_built (last_expr y.1) (last_expr (placeless_built y.1)) _ _ (pop_expr y.1) (λ x.
    chosen placeless_built (is_target (placeless_expression x.0)) (is_target x.0) _ _ (target_same x.0) (ap (λ z. Some (with_statement z (placeless_built x.1))) (sym (statement_Assign x.0 at.0 y.0))))))

built_Binary : (b : Built) → build a.Binary (placeless_built b) ≡ option_map placeless_built (build a.Binary b)
unfolding build placeless_built with_expr
built_Binary b =
    carried (moved placeless_token) placeless_built (last_token b) (last_token (placeless_built b)) _ _ (pop_token b) (λ t.
    bound_same placeless_built (binary_of t.0.kind) _ _ (λ operator.
    carried (moved placeless_expression) placeless_built (last_expr t.1) (last_expr (placeless_built t.1)) _ _ (pop_expr t.1) (λ y.
    carried (moved placeless_expression) placeless_built (last_expr y.1) (last_expr (placeless_built y.1)) _ _ (pop_expr y.1) (λ x.
    ap (λ z. Some (with_expr z (placeless_built x.1))) (sym (expression_Binary x.0 operator t.0.position y.0))))))

built_Is : (b : Built) → build a.Is (placeless_built b) ≡ option_map placeless_built (build a.Is b)
unfolding build placeless_built with_expr
built_Is b =
    carried (moved at_made) placeless_built (last_place b) (last_place (placeless_built b)) _ _ (pop_place b) (λ at.
    carried (moved placeless_type) placeless_built (last_kind at.1) (last_kind (placeless_built at.1)) _ _ (pop_kind at.1) (λ kind.
    carried (moved placeless_expression) placeless_built (last_expr kind.1) (last_expr (placeless_built kind.1)) _ _ (pop_expr kind.1) (λ x.
    ap (λ z. Some (with_expr z (placeless_built x.1))) (sym (expression_Is x.0 at.0 kind.0)))))

built_As : (b : Built) → build a.As (placeless_built b) ≡ option_map placeless_built (build a.As b)
unfolding build placeless_built with_expr
built_As b =
    carried (moved at_made) placeless_built (last_place b) (last_place (placeless_built b)) _ _ (pop_place b) (λ at.
    carried (moved placeless_type) placeless_built (last_kind at.1) (last_kind (placeless_built at.1)) _ _ (pop_kind at.1) (λ kind.
    carried (moved placeless_expression) placeless_built (last_expr kind.1) (last_expr (placeless_built kind.1)) _ _ (pop_expr kind.1) (λ x.
    ap (λ z. Some (with_expr z (placeless_built x.1))) (sym (expression_As x.0 at.0 kind.0)))))

built_Literal : (b : Built) → build a.Literal (placeless_built b) ≡ option_map placeless_built (build a.Literal b)
unfolding build placeless_built with_expr
built_Literal b =
    carried (moved placeless_token) placeless_built (last_token b) (last_token (placeless_built b)) _ _ (pop_token b) (λ t.
    bound_same placeless_built (literal_of t.0.kind) _ _ (λ literal.
    ap (λ z. Some (with_expr z (placeless_built t.1))) (sym (expression_Literal literal t.0.position))))

built_This : (b : Built) → build a.This (placeless_built b) ≡ option_map placeless_built (build a.This b)
unfolding build placeless_built with_expr
built_This b =
    carried (moved at_made) placeless_built (last_place b) (last_place (placeless_built b)) _ _ (pop_place b) (λ at.
    ap (λ z. Some (with_expr z (placeless_built at.1))) (sym (expression_This at.0)))

built_SuperCall : (b : Built) → build a.SuperCall (placeless_built b) ≡ option_map placeless_built (build a.SuperCall b)
unfolding build placeless_built with_expr
built_SuperCall b =
    carried (moved brackets_made) placeless_built (last_brackets b) (last_brackets (placeless_built b)) _ _ (pop_brackets b) (λ round.
    carried (moved at_made) placeless_built (last_place round.1) (last_place (placeless_built round.1)) _ _ (pop_place round.1) (λ dot.
    carried (moved at_made) placeless_built (last_place dot.1) (last_place (placeless_built dot.1)) _ _ (pop_place dot.1) (λ word.
    carried (moved unplaced_name) placeless_built (last_name word.1) (last_name (placeless_built word.1)) _ _ (pop_name word.1) (λ name.
    carried (moved all_made) placeless_built (last_commas name.1) (last_commas (placeless_built name.1)) _ _ (pop_commas name.1) (λ commas.
    carried (moved (map placeless_expression)) placeless_built (last_exprs commas.1) (last_exprs (placeless_built commas.1)) _ _ (pop_exprs commas.1) (λ xs.
    ap (λ z. Some (with_expr z (placeless_built xs.1))) (sym (expression_SuperCall (record { word = word.0; dot = dot.0 }) name.0 round.0 xs.0 commas.0))))))))

built_Paren : (b : Built) → build a.Paren (placeless_built b) ≡ option_map placeless_built (build a.Paren b)
unfolding build placeless_built with_expr
built_Paren b =
    carried (moved brackets_made) placeless_built (last_brackets b) (last_brackets (placeless_built b)) _ _ (pop_brackets b) (λ round.
    carried (moved placeless_expression) placeless_built (last_expr round.1) (last_expr (placeless_built round.1)) _ _ (pop_expr round.1) (λ x.
    ap (λ z. Some (with_expr z (placeless_built x.1))) (sym (expression_Paren round.0 x.0))))

built_Run : (b : Built) → build a.Run (placeless_built b) ≡ option_map placeless_built (build a.Run b)
unfolding build placeless_built with_expr
built_Run b =
    carried (moved at_made) placeless_built (last_place b) (last_place (placeless_built b)) _ _ (pop_place b) (λ at.
    carried (moved placeless_block) placeless_built (last_block at.1) (last_block (placeless_built at.1)) _ _ (pop_block at.1) (λ b.
    ap (λ z. Some (with_expr z (placeless_built b.1))) (sym (expression_Run at.0 b.0.curly b.0.statements))))

built_Call : (b : Built) → build a.Call (placeless_built b) ≡ option_map placeless_built (build a.Call b)
unfolding build placeless_built with_expr
built_Call b =
    carried (moved brackets_made) placeless_built (last_brackets b) (last_brackets (placeless_built b)) _ _ (pop_brackets b) (λ round.
    carried (moved unplaced_name) placeless_built (last_name round.1) (last_name (placeless_built round.1)) _ _ (pop_name round.1) (λ name.
    carried (moved all_made) placeless_built (last_commas name.1) (last_commas (placeless_built name.1)) _ _ (pop_commas name.1) (λ commas.
    carried (moved (map placeless_expression)) placeless_built (last_exprs commas.1) (last_exprs (placeless_built commas.1)) _ _ (pop_exprs commas.1) (λ xs.
    ap (λ z. Some (with_expr z (placeless_built xs.1))) (sym (expression_Call name.0 None round.0 xs.0 commas.0))))))

built_Name : (b : Built) → build a.Name (placeless_built b) ≡ option_map placeless_built (build a.Name b)
unfolding build placeless_built with_expr
built_Name b =
    carried (moved unplaced_name) placeless_built (last_name b) (last_name (placeless_built b)) _ _ (pop_name b) (λ name.
    ap (λ z. Some (with_expr z (placeless_built name.1))) (sym (expression_Name name.0)))

built_GenericCall : (b : Built) → build a.GenericCall (placeless_built b) ≡ option_map placeless_built (build a.GenericCall b)
unfolding build placeless_built with_expr
built_GenericCall b =
    carried (moved brackets_made) placeless_built (last_brackets b) (last_brackets (placeless_built b)) _ _ (pop_brackets b) (λ round.
    carried (moved unplaced_name) placeless_built (last_name round.1) (last_name (placeless_built round.1)) _ _ (pop_name round.1) (λ name.
    carried (moved placeless_arguments) placeless_built (last_arguments name.1) (last_arguments (placeless_built name.1)) _ _ (pop_arguments name.1) (λ types.
    carried (moved all_made) placeless_built (last_commas types.1) (last_commas (placeless_built types.1)) _ _ (pop_commas types.1) (λ commas.
    carried (moved (map placeless_expression)) placeless_built (last_exprs commas.1) (last_exprs (placeless_built commas.1)) _ _ (pop_exprs commas.1) (λ xs.
    ap (λ z. Some (with_expr z (placeless_built xs.1))) (sym (expression_Call name.0 (Some types.0) round.0 xs.0 commas.0)))))))

built_Applied : (b : Built) → build a.Applied (placeless_built b) ≡ option_map placeless_built (build a.Applied b)
unfolding build placeless_built with_kind
built_Applied b =
    carried (moved unplaced_name) placeless_built (last_name b) (last_name (placeless_built b)) _ _ (pop_name b) (λ first.
    carried (moved placeless_arguments) placeless_built (last_arguments first.1) (last_arguments (placeless_built first.1)) _ _ (pop_arguments first.1) (λ a.
    ap (λ z. Some (with_kind z (placeless_built a.1))) (sym (type_Applied (record { first = first.0; rest = [] }) a.0.angles a.0.items a.0.commas None))))

built_Element : (b : Built) → build a.Element (placeless_built b) ≡ option_map placeless_built (build a.Element b)
unfolding build placeless_built with_expr
built_Element b =
    carried (moved brackets_made) placeless_built (last_brackets b) (last_brackets (placeless_built b)) _ _ (pop_brackets b) (λ square.
    carried (moved placeless_expression) placeless_built (last_expr square.1) (last_expr (placeless_built square.1)) _ _ (pop_expr square.1) (λ y.
    carried (moved placeless_expression) placeless_built (last_expr y.1) (last_expr (placeless_built y.1)) _ _ (pop_expr y.1) (λ x.
    ap (λ z. Some (with_expr z (placeless_built x.1))) (sym (expression_Element x.0 square.0 y.0)))))

built_Postfix : (b : Built) → build a.Postfix (placeless_built b) ≡ option_map placeless_built (build a.Postfix b)
unfolding build placeless_built with_expr
built_Postfix b =
    carried (moved placeless_token) placeless_built (last_token b) (last_token (placeless_built b)) _ _ (pop_token b) (λ t.
    bound_same placeless_built (postfix_of t.0.kind) _ _ (λ operator.
    carried (moved placeless_expression) placeless_built (last_expr t.1) (last_expr (placeless_built t.1)) _ _ (pop_expr t.1) (λ x.
    ap (λ z. Some (with_expr z (placeless_built x.1))) (sym (expression_Postfix x.0 operator t.0.position)))))

built_Face : (b : Built) → build a.Face (placeless_built b) ≡ option_map placeless_built (build a.Face b)
unfolding build placeless_built with_kind
built_Face b =
    carried (moved placeless_expression) placeless_built (last_expr b) (last_expr (placeless_built b)) _ _ (pop_expr b) (λ x.
    carried unplaced_qualified placeless_built (chain x.0) (chain (placeless_expression x.0)) _ _ (chain_made x.0) (λ name.
    ap (λ z. Some (with_kind z (placeless_built x.1))) (sym (type_Plain name None false))))

built_Ask : (b : Built) → build a.Ask (placeless_built b) ≡ option_map placeless_built (build a.Ask b)
unfolding build placeless_built with_kind
built_Ask b =
    carried (moved at_made) placeless_built (last_place b) (last_place (placeless_built b)) _ _ (pop_place b) (λ at.
    carried (moved placeless_type) placeless_built (last_kind at.1) (last_kind (placeless_built at.1)) _ _ (pop_kind at.1) (λ kind.
    ap (λ z. Some (with_kind z (placeless_built kind.1))) (sym (asked_made at.0 kind.0))))

built_NoNames : (b : Built) → build a.NoNames (placeless_built b) ≡ option_map placeless_built (build a.NoNames b)
unfolding build placeless_built with_lambda_names
built_NoNames b =
    refl

built_Lambda : (b : Built) → build a.Lambda (placeless_built b) ≡ option_map placeless_built (build a.Lambda b)
unfolding build placeless_built with_expr
built_Lambda b =
    carried (moved brackets_made) placeless_built (last_brackets b) (last_brackets (placeless_built b)) _ _ (pop_brackets b) (λ curly.
    carried (moved (map placeless_statement)) placeless_built (last_statements curly.1) (last_statements (placeless_built curly.1)) _ _ (pop_statements curly.1) (λ xs.
    carried (moved placeless_names) placeless_built (last_lambda_names xs.1) (last_lambda_names (placeless_built xs.1)) _ _ (pop_lambda_names xs.1) (λ names.
    carried (moved placeless_type) placeless_built (last_kind names.1) (last_kind (placeless_built names.1)) _ _ (pop_kind names.1) (λ face.
    ap (λ z. Some (with_expr z (placeless_built face.1))) (sym (expression_Lambda face.0 curly.0 names.0 xs.0))))))

built_NamesArrow : (b : Built) → build a.NamesArrow (placeless_built b) ≡ option_map placeless_built (build a.NamesArrow b)
unfolding build placeless_built with_lambda_names
built_NamesArrow b =
    carried (moved at_made) placeless_built (last_place b) (last_place (placeless_built b)) _ _ (pop_place b) (λ x.
    carried (moved placeless_names) placeless_built (last_lambda_names x.1) (last_lambda_names (placeless_built x.1)) _ _ (pop_lambda_names x.1) (λ xs.
    refl))

built_ClassOf : (b : Built) → build a.ClassOf (placeless_built b) ≡ option_map placeless_built (build a.ClassOf b)
unfolding build placeless_built with_expr
built_ClassOf b =
    carried (moved at_made) placeless_built (last_place b) (last_place (placeless_built b)) _ _ (pop_place b) (λ java.
    carried (moved at_made) placeless_built (last_place java.1) (last_place (placeless_built java.1)) _ _ (pop_place java.1) (λ dot.
    carried (moved at_made) placeless_built (last_place dot.1) (last_place (placeless_built dot.1)) _ _ (pop_place dot.1) (λ word.
    carried (moved at_made) placeless_built (last_place word.1) (last_place (placeless_built word.1)) _ _ (pop_place word.1) (λ colons.
    carried (moved placeless_expression) placeless_built (last_expr colons.1) (last_expr (placeless_built colons.1)) _ _ (pop_expr colons.1) (λ x.
    carried unplaced_qualified placeless_built (chain x.0) (chain (placeless_expression x.0)) _ _ (chain_made x.0) (λ name.
    ap (λ z. Some (with_expr z (placeless_built x.1))) (sym (expression_Class name (record { colons = colons.0; word = word.0; dot = dot.0; java = java.0 })))))))))

built_Method : (b : Built) → build a.Method (placeless_built b) ≡ option_map placeless_built (build a.Method b)
unfolding build placeless_built with_expr
built_Method b =
    carried (moved brackets_made) placeless_built (last_brackets b) (last_brackets (placeless_built b)) _ _ (pop_brackets b) (λ round.
    carried (moved at_made) placeless_built (last_place round.1) (last_place (placeless_built round.1)) _ _ (pop_place round.1) (λ dot.
    carried (moved unplaced_name) placeless_built (last_name dot.1) (last_name (placeless_built dot.1)) _ _ (pop_name dot.1) (λ name.
    carried (moved all_made) placeless_built (last_commas name.1) (last_commas (placeless_built name.1)) _ _ (pop_commas name.1) (λ commas.
    carried (moved (map placeless_expression)) placeless_built (last_exprs commas.1) (last_exprs (placeless_built commas.1)) _ _ (pop_exprs commas.1) (λ xs.
    carried (moved placeless_expression) placeless_built (last_expr xs.1) (last_expr (placeless_built xs.1)) _ _ (pop_expr xs.1) (λ x.
    ap (λ z. Some (with_expr z (placeless_built x.1))) (sym (expression_Method x.0 dot.0 name.0 None round.0 xs.0 commas.0))))))))

built_Field : (b : Built) → build a.Field (placeless_built b) ≡ option_map placeless_built (build a.Field b)
unfolding build placeless_built with_expr
built_Field b =
    carried (moved at_made) placeless_built (last_place b) (last_place (placeless_built b)) _ _ (pop_place b) (λ dot.
    carried (moved unplaced_name) placeless_built (last_name dot.1) (last_name (placeless_built dot.1)) _ _ (pop_name dot.1) (λ name.
    carried (moved placeless_expression) placeless_built (last_expr name.1) (last_expr (placeless_built name.1)) _ _ (pop_expr name.1) (λ x.
    ap (λ z. Some (with_expr z (placeless_built x.1))) (sym (expression_Field x.0 dot.0 name.0)))))

built_GenericMethod : (b : Built) → build a.GenericMethod (placeless_built b) ≡ option_map placeless_built (build a.GenericMethod b)
unfolding build placeless_built with_expr
built_GenericMethod b =
    carried (moved brackets_made) placeless_built (last_brackets b) (last_brackets (placeless_built b)) _ _ (pop_brackets b) (λ round.
    carried (moved at_made) placeless_built (last_place round.1) (last_place (placeless_built round.1)) _ _ (pop_place round.1) (λ dot.
    carried (moved unplaced_name) placeless_built (last_name dot.1) (last_name (placeless_built dot.1)) _ _ (pop_name dot.1) (λ name.
    carried (moved placeless_arguments) placeless_built (last_arguments name.1) (last_arguments (placeless_built name.1)) _ _ (pop_arguments name.1) (λ types.
    carried (moved all_made) placeless_built (last_commas types.1) (last_commas (placeless_built types.1)) _ _ (pop_commas types.1) (λ commas.
    carried (moved (map placeless_expression)) placeless_built (last_exprs commas.1) (last_exprs (placeless_built commas.1)) _ _ (pop_exprs commas.1) (λ xs.
    carried (moved placeless_expression) placeless_built (last_expr xs.1) (last_expr (placeless_built xs.1)) _ _ (pop_expr xs.1) (λ x.
    ap (λ z. Some (with_expr z (placeless_built x.1))) (sym (expression_Method x.0 dot.0 name.0 (Some types.0) round.0 xs.0 commas.0)))))))))

built_DottedApplied : (b : Built) → build a.DottedApplied (placeless_built b) ≡ option_map placeless_built (build a.DottedApplied b)
unfolding build placeless_built with_kind
built_DottedApplied b =
    carried (moved at_made) placeless_built (last_place b) (last_place (placeless_built b)) _ _ (pop_place b) (λ dot.
    carried (moved unplaced_name) placeless_built (last_name dot.1) (last_name (placeless_built dot.1)) _ _ (pop_name dot.1) (λ name.
    carried (moved placeless_arguments) placeless_built (last_arguments name.1) (last_arguments (placeless_built name.1)) _ _ (pop_arguments name.1) (λ a.
    carried (moved placeless_expression) placeless_built (last_expr a.1) (last_expr (placeless_built a.1)) _ _ (pop_expr a.1) (λ x.
    carried unplaced_qualified placeless_built (chain x.0) (chain (placeless_expression x.0)) _ _ (chain_made x.0) (λ q.
    ap (λ z. Some (with_kind (ty.Applied (record { first = unplaced_name q.first; rest = z }) made_brackets (map placeless_type a.0.items) (all_made a.0.commas) None) (placeless_built x.1))) (sym (one_more unplaced_dotted q.rest (record { dot = dot.0; name = name.0 })))
    ∙ ap (λ z. Some (with_kind z (placeless_built x.1))) (sym (type_Applied (record { first = q.first; rest = q.rest ++ record { dot = dot.0; name = name.0 } ∷ [] }) a.0.angles a.0.items a.0.commas None)))))))

built_AddName : (b : Built) → build a.AddName (placeless_built b) ≡ option_map placeless_built (build a.AddName b)
unfolding build placeless_built with_lambda_names
built_AddName b =
    carried (moved unplaced_name) placeless_built (last_name b) (last_name (placeless_built b)) _ _ (pop_name b) (λ x.
    carried (moved placeless_names) placeless_built (last_lambda_names x.1) (last_lambda_names (placeless_built x.1)) _ _ (pop_lambda_names x.1) (λ xs.
    ap (λ z. Some (with_lambda_names (record { items = z; commas = all_made xs.0.commas; arrow = option_map at_made xs.0.arrow }) (placeless_built xs.1))) (sym (one_more unplaced_name xs.0.items x.0))))

built_AddNameComma : (b : Built) → build a.AddNameComma (placeless_built b) ≡ option_map placeless_built (build a.AddNameComma b)
unfolding build placeless_built with_lambda_names
built_AddNameComma b =
    carried (moved at_made) placeless_built (last_place b) (last_place (placeless_built b)) _ _ (pop_place b) (λ x.
    carried (moved placeless_names) placeless_built (last_lambda_names x.1) (last_lambda_names (placeless_built x.1)) _ _ (pop_lambda_names x.1) (λ xs.
    ap (λ z. Some (with_lambda_names (record { items = map unplaced_name xs.0.items; commas = z; arrow = option_map at_made xs.0.arrow }) (placeless_built xs.1))) (sym (one_more at_made xs.0.commas x.0))))

built_AppliedType : (b : Built) → build a.AppliedType (placeless_built b) ≡ option_map placeless_built (build a.AppliedType b)
unfolding build placeless_built with_kind
built_AppliedType b =
    carried (moved placeless_arguments) placeless_built (last_arguments b) (last_arguments (placeless_built b)) _ _ (pop_arguments b) (λ a.
    carried (moved unplaced_qualified) placeless_built (last_qualified a.1) (last_qualified (placeless_built a.1)) _ _ (pop_qualified a.1) (λ name.
    ap (λ z. Some (with_kind z (placeless_built name.1))) (sym (type_Applied name.0 a.0.angles a.0.items a.0.commas None))))

built_PlainType : (b : Built) → build a.PlainType (placeless_built b) ≡ option_map placeless_built (build a.PlainType b)
unfolding build placeless_built with_kind
built_PlainType b =
    carried (moved unplaced_qualified) placeless_built (last_qualified b) (last_qualified (placeless_built b)) _ _ (pop_qualified b) (λ name.
    ap (λ z. Some (with_kind z (placeless_built name.1))) (sym (type_Plain name.0 None false)))

built_NoTypes : (b : Built) → build a.NoTypes (placeless_built b) ≡ option_map placeless_built (build a.NoTypes b)
unfolding build placeless_built with_commas with_kinds
built_NoTypes b =
    refl

built_AddType : (b : Built) → build a.AddType (placeless_built b) ≡ option_map placeless_built (build a.AddType b)
unfolding build placeless_built with_kinds
built_AddType b =
    carried (moved placeless_type) placeless_built (last_kind b) (last_kind (placeless_built b)) _ _ (pop_kind b) (λ x.
    carried (moved (map placeless_type)) placeless_built (last_kinds x.1) (last_kinds (placeless_built x.1)) _ _ (pop_kinds x.1) (λ xs.
    ap (λ z. Some (with_kinds z (placeless_built xs.1))) (sym (one_more placeless_type xs.0 (x.0)))))

built_TypeArguments : (b : Built) → build a.TypeArguments (placeless_built b) ≡ option_map placeless_built (build a.TypeArguments b)
unfolding build placeless_built with_arguments
built_TypeArguments b =
    carried (moved brackets_made) placeless_built (last_brackets b) (last_brackets (placeless_built b)) _ _ (pop_brackets b) (λ angles.
    carried (moved all_made) placeless_built (last_commas angles.1) (last_commas (placeless_built angles.1)) _ _ (pop_commas angles.1) (λ commas.
    carried (moved (map placeless_type)) placeless_built (last_kinds commas.1) (last_kinds (placeless_built commas.1)) _ _ (pop_kinds commas.1) (λ items.
    refl)))

built_made : (x : Act) (b : Built) → build x (placeless_built b) ≡ option_map placeless_built (build x b)
built_made a.Package b = built_Package b
built_made a.NoImports b = built_NoImports b
built_made a.NoPackage b = built_NoPackage b
built_made a.Import b = built_Import b
built_made a.Qualified b = built_Qualified b
built_made a.AddDotted b = built_AddDotted b
built_made a.NoModifiers b = built_NoModifiers b
built_made a.NoMembers b = built_NoMembers b
built_made a.Class b = built_Class b
built_made a.ClassWord b = built_ClassWord b
built_made a.FunClassWord b = built_FunClassWord b
built_made a.AddModifier b = built_AddModifier b
built_made a.AddAnnotation b = built_AddAnnotation b
built_made a.NoTypeParams b = built_NoTypeParams b
built_made a.TypeParams b = built_TypeParams b
built_made a.NoneOfTypeParams b = built_NoneOfTypeParams b
built_made a.AddTypeParam b = built_AddTypeParam b
built_made a.AddComma b = built_AddComma b
built_made a.NoSupers b = built_NoSupers b
built_made a.Supers b = built_Supers b
built_made a.NoneOfSupers b = built_NoneOfSupers b
built_made a.AddCalledSuper b = built_AddCalledSuper b
built_made a.AddSuper b = built_AddSuper b
built_made a.Typed b = built_Typed b
built_made a.Untyped b = built_Untyped b
built_made a.AddMember b = built_AddMember b
built_made a.Init b = built_Init b
built_made a.Companion b = built_Companion b
built_made a.Property b = built_Property b
built_made a.Function b = built_Function b
built_made a.Constructor b = built_Constructor b
built_made a.Declared b = built_Declared b
built_made a.Value b = built_Value b
built_made a.NoValue b = built_NoValue b
built_made a.Setter b = built_Setter b
built_made a.NoSetter b = built_NoSetter b
built_made a.NoParams b = built_NoParams b
built_made a.Params b = built_Params b
built_made a.AddParam b = built_AddParam b
built_made a.Body b = built_Body b
built_made a.NoBody b = built_NoBody b
built_made a.Delegation b = built_Delegation b
built_made a.NoDelegation b = built_NoDelegation b
built_made a.NoStatements b = built_NoStatements b
built_made a.Block b = built_Block b
built_made a.AddStatement b = built_AddStatement b
built_made a.Label b = built_Label b
built_made a.NoLabel b = built_NoLabel b
built_made a.Break b = built_Break b
built_made a.Continue b = built_Continue b
built_made a.Throw b = built_Throw b
built_made a.NoCatches b = built_NoCatches b
built_made a.Synchronized b = built_Synchronized b
built_made a.Prefix b = built_Prefix b
built_made a.Local b = built_Local b
built_made a.Unset b = built_Unset b
built_made a.While b = built_While b
built_made a.DoWhile b = built_DoWhile b
built_made a.ForRange b = built_ForRange b
built_made a.For b = built_For b
built_made a.IfValue b = built_IfValue b
built_made a.Expression b = built_Expression b
built_made a.If b = built_If b
built_made a.IfElse b = built_IfElse b
built_made a.IfElseIf b = built_IfElseIf b
built_made a.Branch b = built_Branch b
built_made a.NoBranches b = built_NoBranches b
built_made a.AddBranch b = built_AddBranch b
built_made a.WhenBranches b = built_WhenBranches b
built_made a.Choice b = built_Choice b
built_made a.NoChoices b = built_NoChoices b
built_made a.AddChoice b = built_AddChoice b
built_made a.WhenChoices b = built_WhenChoices b
built_made a.NoExprs b = built_NoExprs b
built_made a.AddExpr b = built_AddExpr b
built_made a.Target b = built_Target b
built_made a.NoTarget b = built_NoTarget b
built_made a.Give b = built_Give b
built_made a.Return b = built_Return b
built_made a.Catch b = built_Catch b
built_made a.AddCatch b = built_AddCatch b
built_made a.TryFinally b = built_TryFinally b
built_made a.Try b = built_Try b
built_made a.Assign b = built_Assign b
built_made a.Binary b = built_Binary b
built_made a.Is b = built_Is b
built_made a.As b = built_As b
built_made a.Literal b = built_Literal b
built_made a.This b = built_This b
built_made a.SuperCall b = built_SuperCall b
built_made a.Paren b = built_Paren b
built_made a.Run b = built_Run b
built_made a.Call b = built_Call b
built_made a.Name b = built_Name b
built_made a.GenericCall b = built_GenericCall b
built_made a.Applied b = built_Applied b
built_made a.Element b = built_Element b
built_made a.Postfix b = built_Postfix b
built_made a.Face b = built_Face b
built_made a.Ask b = built_Ask b
built_made a.NoNames b = built_NoNames b
built_made a.Lambda b = built_Lambda b
built_made a.NamesArrow b = built_NamesArrow b
built_made a.ClassOf b = built_ClassOf b
built_made a.Method b = built_Method b
built_made a.Field b = built_Field b
built_made a.GenericMethod b = built_GenericMethod b
built_made a.DottedApplied b = built_DottedApplied b
built_made a.AddName b = built_AddName b
built_made a.AddNameComma b = built_AddNameComma b
built_made a.AppliedType b = built_AppliedType b
built_made a.PlainType b = built_PlainType b
built_made a.NoTypes b = built_NoTypes b
built_made a.AddType b = built_AddType b
built_made a.TypeArguments b = built_TypeArguments b

pub acts_made : (x : Act) (b : Built) → acts x (placeless_built b) ≡ option_map placeless_built (acts x b)
unfolding acts placeless_built
acts_made x b = bound_same placeless_built (measured (levels x) b.depths) _ _ (λ ds. built_made x (record b { depths = ds }))
