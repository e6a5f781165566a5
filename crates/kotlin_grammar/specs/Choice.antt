-- Which way to write a form stands ahead, by the kind of the first token.
use Rattle.kotlin_grammar.specs.declared.letters.Kind.{Kind}
use Rattle.kotlin_grammar.specs.declared.letters.Kind.TheVariants as k
use Rattle.kotlin_grammar.specs.declared.letters.Form.{Form}
use Rattle.kotlin_grammar.specs.declared.letters.Form.TheVariants as f
use Rattle.kotlin_grammar.specs.declared.letters.Way.{Way}
use Rattle.kotlin_grammar.specs.declared.letters.Way.TheVariants as w

abbrev pub choose_file_head : Kind → Way
choose_file_head k.Package = w.FilePackage
choose_file_head _ = w.FileBare

abbrev pub choose_after_line : Kind → Way
choose_after_line k.Broken = w.AfterLineMore
choose_after_line k.BrokenWhile = w.AfterLineMore
choose_after_line k.BrokenSet = w.AfterLineMore
choose_after_line _ = w.AfterLineEnd

abbrev pub choose_lines : Kind → Way
choose_lines k.LabelModifier = w.LinesClass
choose_lines k.ImportWord = w.LinesImport
choose_lines k.PrivateWord = w.LinesClass
choose_lines k.ModifierWord = w.LinesClass
choose_lines k.Class = w.LinesClass
choose_lines k.Fun = w.LinesClass
choose_lines k.Interface = w.LinesClass
choose_lines k.At = w.LinesClass
choose_lines _ = w.LinesEnd

abbrev pub choose_qualified_more : Kind → Way
choose_qualified_more k.Dot = w.QualifiedDot
choose_qualified_more _ = w.QualifiedEnd

abbrev pub choose_class_word : Kind → Way
choose_class_word k.Fun = w.ClassFun
choose_class_word _ = w.ClassPlain

abbrev pub choose_modifiers : Kind → Way
choose_modifiers k.LabelModifier = w.ModifiersWord
choose_modifiers k.PrivateWord = w.ModifiersWord
choose_modifiers k.ModifierWord = w.ModifiersWord
choose_modifiers k.At = w.ModifiersAt
choose_modifiers _ = w.ModifiersEnd

abbrev pub choose_type_params : Kind → Way
choose_type_params k.Less = w.TypeParamsSome
choose_type_params _ = w.TypeParamsNone

abbrev pub choose_more_type_params : Kind → Way
choose_more_type_params k.Comma = w.TypeParamsMore
choose_more_type_params _ = w.TypeParamsEnd

abbrev pub choose_supers : Kind → Way
choose_supers k.Colon = w.SupersSome
choose_supers _ = w.SupersNone

abbrev pub choose_super_round : Kind → Way
choose_super_round k.OpenRound = w.SuperCalled
choose_super_round _ = w.SuperPlain

abbrev pub choose_more_supers : Kind → Way
choose_more_supers k.Comma = w.SupersMore
choose_more_supers _ = w.SupersEnd

abbrev pub choose_typed : Kind → Way
choose_typed k.Colon = w.TypedSome
choose_typed _ = w.TypedNone

abbrev pub choose_members : Kind → Way
choose_members k.Broken = w.MembersEnds
choose_members k.BrokenWhile = w.MembersEnds
choose_members k.LabelModifier = w.MembersSome
choose_members k.CompanionWord = w.MembersSome
choose_members k.InitWord = w.MembersSome
choose_members k.ConstructorWord = w.MembersSome
choose_members k.PrivateWord = w.MembersSome
choose_members k.ModifierWord = w.MembersSome
choose_members k.Fun = w.MembersSome
choose_members k.Val = w.MembersSome
choose_members k.Var = w.MembersSome
choose_members k.At = w.MembersSome
choose_members _ = w.MembersNone

abbrev pub choose_more_members : Kind → Way
choose_more_members k.Broken = w.MembersMore
choose_more_members k.BrokenWhile = w.MembersMore
choose_more_members _ = w.MembersEnd

abbrev pub choose_next_member : Kind → Way
choose_next_member k.LabelModifier = w.NextMemberSome
choose_next_member k.CompanionWord = w.NextMemberSome
choose_next_member k.InitWord = w.NextMemberSome
choose_next_member k.ConstructorWord = w.NextMemberSome
choose_next_member k.PrivateWord = w.NextMemberSome
choose_next_member k.ModifierWord = w.NextMemberSome
choose_next_member k.Fun = w.NextMemberSome
choose_next_member k.Val = w.NextMemberSome
choose_next_member k.Var = w.NextMemberSome
choose_next_member k.At = w.NextMemberSome
choose_next_member _ = w.NextMemberNone

abbrev pub choose_member : Kind → Way
choose_member k.CompanionWord = w.MemberCompanion
choose_member k.InitWord = w.MemberInit
choose_member _ = w.MemberModified

abbrev pub choose_modified : Kind → Way
choose_modified k.ConstructorWord = w.ModifiedConstructor
choose_modified k.Fun = w.ModifiedFunction
choose_modified _ = w.ModifiedProperty

abbrev pub choose_value : Kind → Way
choose_value k.Assign = w.ValueSome
choose_value _ = w.ValueNone

abbrev pub choose_setter : Kind → Way
choose_setter k.BrokenSet = w.SetterSome
choose_setter k.PrivateSet = w.SetterSome
choose_setter _ = w.SetterNone

abbrev pub choose_param_list : Kind → Way
choose_param_list k.Name = w.ParamsSome
choose_param_list k.NameLess = w.ParamsSome
choose_param_list k.InfixWord = w.ParamsSome
choose_param_list k.UntilWord = w.ParamsSome
choose_param_list k.CompanionWord = w.ParamsSome
choose_param_list k.InitWord = w.ParamsSome
choose_param_list k.ConstructorWord = w.ParamsSome
choose_param_list k.SetWord = w.ParamsSome
choose_param_list k.JavaWord = w.ParamsSome
choose_param_list k.ImportWord = w.ParamsSome
choose_param_list k.PrivateWord = w.ParamsSome
choose_param_list k.PrivateSet = w.ParamsSome
choose_param_list k.ModifierWord = w.ParamsSome
choose_param_list k.AnnotationWord = w.ParamsSome
choose_param_list _ = w.ParamsNone

abbrev pub choose_more_params : Kind → Way
choose_more_params k.Comma = w.ParamsMore
choose_more_params _ = w.ParamsEnd

abbrev pub choose_body : Kind → Way
choose_body k.OpenCurly = w.BodySome
choose_body _ = w.BodyNone

abbrev pub choose_delegation : Kind → Way
choose_delegation k.Colon = w.DelegationSome
choose_delegation _ = w.DelegationNone

abbrev pub choose_statements : Kind → Way
choose_statements k.Broken = w.StatementsEnds
choose_statements k.BrokenWhile = w.StatementsEnds
choose_statements k.BrokenSet = w.StatementsEnds
choose_statements k.Name = w.StatementsSome
choose_statements k.NameArguments = w.StatementsSome
choose_statements k.NameLess = w.StatementsSome
choose_statements k.Label = w.StatementsSome
choose_statements k.LabelModifier = w.StatementsSome
choose_statements k.LabelAnnotation = w.StatementsSome
choose_statements k.InfixWord = w.StatementsSome
choose_statements k.UntilWord = w.StatementsSome
choose_statements k.CompanionWord = w.StatementsSome
choose_statements k.InitWord = w.StatementsSome
choose_statements k.ConstructorWord = w.StatementsSome
choose_statements k.SetWord = w.StatementsSome
choose_statements k.JavaWord = w.StatementsSome
choose_statements k.ImportWord = w.StatementsSome
choose_statements k.PrivateWord = w.StatementsSome
choose_statements k.PrivateSet = w.StatementsSome
choose_statements k.ModifierWord = w.StatementsSome
choose_statements k.AnnotationWord = w.StatementsSome
choose_statements k.RunBlock = w.StatementsSome
choose_statements k.SynchronizedBlock = w.StatementsSome
choose_statements k.Literal = w.StatementsSome
choose_statements k.Break = w.StatementsSome
choose_statements k.Continue = w.StatementsSome
choose_statements k.Do = w.StatementsSome
choose_statements k.For = w.StatementsSome
choose_statements k.If = w.StatementsSome
choose_statements k.Return = w.StatementsSome
choose_statements k.SuperWord = w.StatementsSome
choose_statements k.This = w.StatementsSome
choose_statements k.Throw = w.StatementsSome
choose_statements k.Try = w.StatementsSome
choose_statements k.Val = w.StatementsSome
choose_statements k.Var = w.StatementsSome
choose_statements k.When = w.StatementsSome
choose_statements k.While = w.StatementsSome
choose_statements k.OpenRound = w.StatementsSome
choose_statements k.Not = w.StatementsSome
choose_statements k.Sign = w.StatementsSome
choose_statements k.Step = w.StatementsSome
choose_statements _ = w.StatementsNone

abbrev pub choose_more_statements : Kind → Way
choose_more_statements k.Broken = w.StatementsMore
choose_more_statements k.BrokenWhile = w.StatementsMore
choose_more_statements k.BrokenSet = w.StatementsMore
choose_more_statements _ = w.StatementsEnd

abbrev pub choose_next_statement : Kind → Way
choose_next_statement k.Name = w.NextStatementSome
choose_next_statement k.NameArguments = w.NextStatementSome
choose_next_statement k.NameLess = w.NextStatementSome
choose_next_statement k.Label = w.NextStatementSome
choose_next_statement k.LabelModifier = w.NextStatementSome
choose_next_statement k.LabelAnnotation = w.NextStatementSome
choose_next_statement k.InfixWord = w.NextStatementSome
choose_next_statement k.UntilWord = w.NextStatementSome
choose_next_statement k.CompanionWord = w.NextStatementSome
choose_next_statement k.InitWord = w.NextStatementSome
choose_next_statement k.ConstructorWord = w.NextStatementSome
choose_next_statement k.SetWord = w.NextStatementSome
choose_next_statement k.JavaWord = w.NextStatementSome
choose_next_statement k.ImportWord = w.NextStatementSome
choose_next_statement k.PrivateWord = w.NextStatementSome
choose_next_statement k.PrivateSet = w.NextStatementSome
choose_next_statement k.ModifierWord = w.NextStatementSome
choose_next_statement k.AnnotationWord = w.NextStatementSome
choose_next_statement k.RunBlock = w.NextStatementSome
choose_next_statement k.SynchronizedBlock = w.NextStatementSome
choose_next_statement k.Literal = w.NextStatementSome
choose_next_statement k.Break = w.NextStatementSome
choose_next_statement k.Continue = w.NextStatementSome
choose_next_statement k.Do = w.NextStatementSome
choose_next_statement k.For = w.NextStatementSome
choose_next_statement k.If = w.NextStatementSome
choose_next_statement k.Return = w.NextStatementSome
choose_next_statement k.SuperWord = w.NextStatementSome
choose_next_statement k.This = w.NextStatementSome
choose_next_statement k.Throw = w.NextStatementSome
choose_next_statement k.Try = w.NextStatementSome
choose_next_statement k.Val = w.NextStatementSome
choose_next_statement k.Var = w.NextStatementSome
choose_next_statement k.When = w.NextStatementSome
choose_next_statement k.While = w.NextStatementSome
choose_next_statement k.OpenRound = w.NextStatementSome
choose_next_statement k.Not = w.NextStatementSome
choose_next_statement k.Sign = w.NextStatementSome
choose_next_statement k.Step = w.NextStatementSome
choose_next_statement _ = w.NextStatementNone

abbrev pub choose_statement : Kind → Way
choose_statement k.Label = w.StatementLabelled
choose_statement k.LabelModifier = w.StatementLabelled
choose_statement k.LabelAnnotation = w.StatementLabelled
choose_statement k.SynchronizedBlock = w.StatementSynchronized
choose_statement k.Break = w.StatementBreak
choose_statement k.Continue = w.StatementContinue
choose_statement k.Do = w.StatementLoop
choose_statement k.For = w.StatementLoop
choose_statement k.If = w.StatementIf
choose_statement k.Return = w.StatementReturn
choose_statement k.Throw = w.StatementThrow
choose_statement k.Try = w.StatementTry
choose_statement k.Val = w.StatementLocal
choose_statement k.Var = w.StatementLocal
choose_statement k.When = w.StatementWhen
choose_statement k.While = w.StatementLoop
choose_statement k.Not = w.StatementPrefix
choose_statement k.Sign = w.StatementPrefix
choose_statement k.Step = w.StatementPrefix
choose_statement _ = w.StatementPlain

abbrev pub choose_local_value : Kind → Way
choose_local_value k.Assign = w.LocalSome
choose_local_value _ = w.LocalNone

abbrev pub choose_loop : Kind → Way
choose_loop k.Do = w.LoopDo
choose_loop k.For = w.LoopFor
choose_loop _ = w.LoopWhile

abbrev pub choose_for_rest : Kind → Way
choose_for_rest k.CloseRound = w.ForEach
choose_for_rest _ = w.ForRange

abbrev pub choose_if_rest : Kind → Way
choose_if_rest k.OpenCurly = w.IfBlock
choose_if_rest _ = w.IfValue

abbrev pub choose_else_rest : Kind → Way
choose_else_rest k.Else = w.ElseSome
choose_else_rest _ = w.ElseNone

abbrev pub choose_else_body : Kind → Way
choose_else_body k.If = w.ElseIf
choose_else_body _ = w.ElseBlock

abbrev pub choose_first_case : Kind → Way
choose_first_case k.ElseArrow = w.FirstElse
choose_first_case _ = w.FirstNext

abbrev pub choose_first_body : Kind → Way
choose_first_body k.OpenCurly = w.FirstBranch
choose_first_body _ = w.FirstChoice

abbrev pub choose_first_else_body : Kind → Way
choose_first_else_body k.OpenCurly = w.FirstElseBranch
choose_first_else_body _ = w.FirstElseChoice

abbrev pub choose_branches : Kind → Way
choose_branches k.ElseArrow = w.BranchElse
choose_branches _ = w.BranchNext

abbrev pub choose_choices : Kind → Way
choose_choices k.ElseArrow = w.ChoiceElse
choose_choices _ = w.ChoiceNext

abbrev pub choose_optional_ends : Kind → Way
choose_optional_ends k.Broken = w.OptionalEndsSome
choose_optional_ends k.BrokenWhile = w.OptionalEndsSome
choose_optional_ends k.BrokenSet = w.OptionalEndsSome
choose_optional_ends _ = w.OptionalEndsNone

abbrev pub choose_target : Kind → Way
choose_target k.At = w.TargetSome
choose_target _ = w.TargetNone

abbrev pub choose_given : Kind → Way
choose_given k.Name = w.GivenSome
choose_given k.NameArguments = w.GivenSome
choose_given k.NameLess = w.GivenSome
choose_given k.InfixWord = w.GivenSome
choose_given k.UntilWord = w.GivenSome
choose_given k.CompanionWord = w.GivenSome
choose_given k.InitWord = w.GivenSome
choose_given k.ConstructorWord = w.GivenSome
choose_given k.SetWord = w.GivenSome
choose_given k.JavaWord = w.GivenSome
choose_given k.ImportWord = w.GivenSome
choose_given k.PrivateWord = w.GivenSome
choose_given k.PrivateSet = w.GivenSome
choose_given k.ModifierWord = w.GivenSome
choose_given k.AnnotationWord = w.GivenSome
choose_given k.RunBlock = w.GivenSome
choose_given k.Literal = w.GivenSome
choose_given k.If = w.GivenSome
choose_given k.SuperWord = w.GivenSome
choose_given k.This = w.GivenSome
choose_given k.When = w.GivenSome
choose_given k.OpenRound = w.GivenSome
choose_given k.Not = w.GivenSome
choose_given k.Sign = w.GivenSome
choose_given k.Step = w.GivenSome
choose_given _ = w.GivenNone

abbrev pub choose_catches : Kind → Way
choose_catches k.Catch = w.CatchesSome
choose_catches _ = w.CatchesEnd

abbrev pub choose_finally : Kind → Way
choose_finally k.FinallyWord = w.FinallySome
choose_finally _ = w.FinallyNone

abbrev pub choose_store : Kind → Way
choose_store k.Assign = w.StoreSome
choose_store _ = w.StoreNone

abbrev pub choose_expr : Kind → Way
choose_expr k.If = w.ExprIf
choose_expr _ = w.ExprOr

abbrev pub choose_or_tail : Kind → Way
choose_or_tail k.OrOr = w.OrMore
choose_or_tail _ = w.OrEnd

abbrev pub choose_and_tail : Kind → Way
choose_and_tail k.AndAnd = w.AndMore
choose_and_tail _ = w.AndEnd

abbrev pub choose_equal_tail : Kind → Way
choose_equal_tail k.Equality = w.EqualMore
choose_equal_tail _ = w.EqualEnd

abbrev pub choose_compare_tail : Kind → Way
choose_compare_tail k.Less = w.CompareMore
choose_compare_tail k.Greater = w.CompareMore
choose_compare_tail k.Compare = w.CompareMore
choose_compare_tail _ = w.CompareEnd

abbrev pub choose_is_tail : Kind → Way
choose_is_tail k.Is = w.IsMore
choose_is_tail _ = w.IsEnd

abbrev pub choose_infix_tail : Kind → Way
choose_infix_tail k.InfixWord = w.InfixMore
choose_infix_tail _ = w.InfixEnd

abbrev pub choose_sum_tail : Kind → Way
choose_sum_tail k.Sign = w.SumMore
choose_sum_tail _ = w.SumEnd

abbrev pub choose_product_tail : Kind → Way
choose_product_tail k.Times = w.ProductMore
choose_product_tail _ = w.ProductEnd

abbrev pub choose_cast_tail : Kind → Way
choose_cast_tail k.As = w.CastMore
choose_cast_tail _ = w.CastEnd

abbrev pub choose_prefixed : Kind → Way
choose_prefixed k.Not = w.PrefixedMark
choose_prefixed k.Sign = w.PrefixedMark
choose_prefixed k.Step = w.PrefixedMark
choose_prefixed _ = w.PrefixedOperand

abbrev pub choose_operand : Kind → Way
choose_operand k.When = w.OperandWhen
choose_operand _ = w.OperandPlain

abbrev pub choose_plain : Kind → Way
choose_plain k.NameArguments = w.PlainGeneric
choose_plain k.RunBlock = w.PlainRun
choose_plain k.Literal = w.PlainLiteral
choose_plain k.SuperWord = w.PlainSuper
choose_plain k.This = w.PlainThis
choose_plain k.OpenRound = w.PlainParen
choose_plain _ = w.PlainNamed

abbrev pub choose_named : Kind → Way
choose_named k.OpenRound = w.NamedCall
choose_named _ = w.NamedOnly

abbrev pub choose_generic : Kind → Way
choose_generic k.OpenRound = w.GenericCall
choose_generic _ = w.GenericLambda

abbrev pub choose_suffixes : Kind → Way
choose_suffixes k.OpenSquare = w.SuffixIndex
choose_suffixes k.OpenCurly = w.SuffixLambda
choose_suffixes k.OpenParameters = w.SuffixNamedLambda
choose_suffixes k.Dot = w.SuffixDot
choose_suffixes k.Question = w.SuffixNullable
choose_suffixes k.DoubleColon = w.SuffixClass
choose_suffixes k.NotNull = w.SuffixMark
choose_suffixes k.Step = w.SuffixMark
choose_suffixes _ = w.SuffixesEnd

abbrev pub choose_after_dot : Kind → Way
choose_after_dot k.NameArguments = w.DotGeneric
choose_after_dot _ = w.DotNamed

abbrev pub choose_dotted : Kind → Way
choose_dotted k.OpenRound = w.DottedCall
choose_dotted _ = w.DottedOnly

abbrev pub choose_dotted_generic : Kind → Way
choose_dotted_generic k.OpenRound = w.DottedGenericCall
choose_dotted_generic _ = w.DottedGenericLambda

abbrev pub choose_faced : Kind → Way
choose_faced k.Question = w.FacedNullable
choose_faced _ = w.FacedPlain

abbrev pub choose_lambda : Kind → Way
choose_lambda k.OpenParameters = w.LambdaNamed
choose_lambda _ = w.LambdaPlain

abbrev pub choose_names : Kind → Way
choose_names k.Name = w.NamesSome
choose_names k.NameLess = w.NamesSome
choose_names k.InfixWord = w.NamesSome
choose_names k.UntilWord = w.NamesSome
choose_names k.CompanionWord = w.NamesSome
choose_names k.InitWord = w.NamesSome
choose_names k.ConstructorWord = w.NamesSome
choose_names k.SetWord = w.NamesSome
choose_names k.JavaWord = w.NamesSome
choose_names k.ImportWord = w.NamesSome
choose_names k.PrivateWord = w.NamesSome
choose_names k.PrivateSet = w.NamesSome
choose_names k.ModifierWord = w.NamesSome
choose_names k.AnnotationWord = w.NamesSome
choose_names _ = w.NamesNone

abbrev pub choose_more_names : Kind → Way
choose_more_names k.Comma = w.NamesMore
choose_more_names _ = w.NamesEnd

abbrev pub choose_args : Kind → Way
choose_args k.Name = w.ArgsSome
choose_args k.NameArguments = w.ArgsSome
choose_args k.NameLess = w.ArgsSome
choose_args k.InfixWord = w.ArgsSome
choose_args k.UntilWord = w.ArgsSome
choose_args k.CompanionWord = w.ArgsSome
choose_args k.InitWord = w.ArgsSome
choose_args k.ConstructorWord = w.ArgsSome
choose_args k.SetWord = w.ArgsSome
choose_args k.JavaWord = w.ArgsSome
choose_args k.ImportWord = w.ArgsSome
choose_args k.PrivateWord = w.ArgsSome
choose_args k.PrivateSet = w.ArgsSome
choose_args k.ModifierWord = w.ArgsSome
choose_args k.AnnotationWord = w.ArgsSome
choose_args k.RunBlock = w.ArgsSome
choose_args k.Literal = w.ArgsSome
choose_args k.If = w.ArgsSome
choose_args k.SuperWord = w.ArgsSome
choose_args k.This = w.ArgsSome
choose_args k.When = w.ArgsSome
choose_args k.OpenRound = w.ArgsSome
choose_args k.Not = w.ArgsSome
choose_args k.Sign = w.ArgsSome
choose_args k.Step = w.ArgsSome
choose_args _ = w.ArgsNone

abbrev pub choose_more_exprs : Kind → Way
choose_more_exprs k.Comma = w.ExprsMore
choose_more_exprs _ = w.ExprsEnd

abbrev pub choose_type_path : Kind → Way
choose_type_path k.NameArguments = w.PathApplied
choose_type_path k.NameLess = w.PathApplied
choose_type_path _ = w.PathPlain

abbrev pub choose_path_more : Kind → Way
choose_path_more k.Dot = w.PathDot
choose_path_more _ = w.PathEnd

abbrev pub choose_path_next : Kind → Way
choose_path_next k.NameArguments = w.NextApplied
choose_path_next k.NameLess = w.NextApplied
choose_path_next _ = w.NextPlain

abbrev pub choose_nullable : Kind → Way
choose_nullable k.Question = w.NullableSome
choose_nullable _ = w.NullableNone

abbrev pub choose_more_types : Kind → Way
choose_more_types k.Comma = w.TypesMore
choose_more_types _ = w.TypesEnd

unfoldable pub choose : Form → Kind → Way
choose f.FileHead k = choose_file_head k
choose f.AfterLine k = choose_after_line k
choose f.Lines k = choose_lines k
choose f.Qualified k = w.QualifiedName
choose f.QualifiedMore k = choose_qualified_more k
choose f.ClassForm k = w.ClassWhole
choose f.ClassWord k = choose_class_word k
choose f.Modifiers k = choose_modifiers k
choose f.TypeParams k = choose_type_params k
choose f.TypeParam k = w.TypeParamOne
choose f.MoreTypeParams k = choose_more_type_params k
choose f.Supers k = choose_supers k
choose f.Super k = w.SuperOne
choose f.SuperRound k = choose_super_round k
choose f.MoreSupers k = choose_more_supers k
choose f.Typed k = choose_typed k
choose f.Members k = choose_members k
choose f.MoreMembers k = choose_more_members k
choose f.NextMember k = choose_next_member k
choose f.Member k = choose_member k
choose f.Modified k = choose_modified k
choose f.Declared k = w.DeclaredName
choose f.Value k = choose_value k
choose f.Setter k = choose_setter k
choose f.Params k = w.ParamsWhole
choose f.ParamList k = choose_param_list k
choose f.Param k = w.ParamOne
choose f.MoreParams k = choose_more_params k
choose f.Body k = choose_body k
choose f.Delegation k = choose_delegation k
choose f.Block k = w.BlockWhole
choose f.Statements k = choose_statements k
choose f.MoreStatements k = choose_more_statements k
choose f.NextStatement k = choose_next_statement k
choose f.Statement k = choose_statement k
choose f.LocalValue k = choose_local_value k
choose f.Loop k = choose_loop k
choose f.ForRest k = choose_for_rest k
choose f.IfRest k = choose_if_rest k
choose f.ElseRest k = choose_else_rest k
choose f.ElseBody k = choose_else_body k
choose f.FirstCase k = choose_first_case k
choose f.FirstBody k = choose_first_body k
choose f.FirstElseBody k = choose_first_else_body k
choose f.Branches k = choose_branches k
choose f.Choices k = choose_choices k
choose f.Labels k = w.LabelsSome
choose f.OptionalEnds k = choose_optional_ends k
choose f.Target k = choose_target k
choose f.Given k = choose_given k
choose f.Catches k = choose_catches k
choose f.Finally k = choose_finally k
choose f.Tails k = w.TailsAll
choose f.Store k = choose_store k
choose f.Expr k = choose_expr k
choose f.Or k = w.OrWhole
choose f.OrTail k = choose_or_tail k
choose f.And k = w.AndWhole
choose f.AndTail k = choose_and_tail k
choose f.Equal k = w.EqualWhole
choose f.EqualTail k = choose_equal_tail k
choose f.Comparison k = w.CompareWhole
choose f.CompareTail k = choose_compare_tail k
choose f.IsForm k = w.IsWhole
choose f.IsTail k = choose_is_tail k
choose f.Infix k = w.InfixWhole
choose f.InfixTail k = choose_infix_tail k
choose f.Sum k = w.SumWhole
choose f.SumTail k = choose_sum_tail k
choose f.Product k = w.ProductWhole
choose f.ProductTail k = choose_product_tail k
choose f.Cast k = w.CastWhole
choose f.CastTail k = choose_cast_tail k
choose f.Prefixed k = choose_prefixed k
choose f.Operand k = choose_operand k
choose f.Plain k = choose_plain k
choose f.Named k = choose_named k
choose f.Generic k = choose_generic k
choose f.Suffixes k = choose_suffixes k
choose f.AfterDot k = choose_after_dot k
choose f.Dotted k = choose_dotted k
choose f.DottedGeneric k = choose_dotted_generic k
choose f.Faced k = choose_faced k
choose f.Lambda k = choose_lambda k
choose f.Names k = choose_names k
choose f.MoreNames k = choose_more_names k
choose f.Args k = choose_args k
choose f.MoreExprs k = choose_more_exprs k
choose f.Type k = w.TypeWhole
choose f.TypePath k = choose_type_path k
choose f.PathMore k = choose_path_more k
choose f.PathNext k = choose_path_next k
choose f.Nullable k = choose_nullable k
choose f.TypeArguments k = w.TypeArgumentsWhole
choose f.MoreTypes k = choose_more_types k
