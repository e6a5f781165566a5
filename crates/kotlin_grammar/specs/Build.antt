-- What each action builds of the last parts.
use Rattle.std.specs.Prelude.{◌≡◌, ℕ, Bool, true, false, if◌then◌else◌, List, [], ◌∷◌, ◌++◌, Option, Some, None}
use Rattle.grammar.specs.Machine.{◌>>=◌}
use Rattle.kotlin_tree.specs.declared.expressions.KExpr.{KExpr}
use Rattle.kotlin_tree.specs.declared.members.KMember.{KMember}
use Rattle.kotlin_tree.specs.declared.types.KType.{KType}
use Rattle.kotlin_grammar.specs.declared.letters.Act.{Act}
use Rattle.kotlin_grammar.specs.declared.letters.Act.TheVariants as a
use Rattle.kotlin_tree.specs.declared.expressions.KExpr.TheVariants as e
use Rattle.kotlin_tree.specs.declared.members.KMember.TheVariants as mb
use Rattle.kotlin_tree.specs.declared.types.KType.TheVariants as ty
use Rattle.kotlin_grammar.specs.declared.built.Built.{Built}
use Rattle.kotlin_grammar.specs.Parts.{last_place, with_place, last_token, with_token, last_name, with_name, last_commas, with_commas, last_qualified, with_qualified, last_kind, with_kind, last_kinds, with_kinds, last_arguments, with_arguments, last_expr, with_expr, last_exprs, with_exprs, last_lambda_names, with_lambda_names, last_choice, with_choice, last_choices, with_choices, last_branch, with_branch, last_branches, with_branches, last_catch, with_catch, last_catches, with_catches, last_block, with_block, last_statement, with_statement, last_statements, with_statements, last_target, with_target, last_label, with_label, last_declared, with_declared, last_value, with_value, last_setter, with_setter, last_typed, with_typed, last_body, with_body, last_param_list, with_param_list, last_params, with_params, last_delegation, with_delegation, last_modifiers, with_modifiers, last_member, with_member, last_members, with_members, last_type_param_list, with_type_param_list, last_type_params, with_type_params, last_super_list, with_super_list, last_supers, with_supers, last_class_word, with_class_word, last_package, with_package, last_imports, with_imports, last_class, with_class, last_brackets, last_head}
use Rattle.kotlin_grammar.specs.Meaning.{asked, literal_of, postfix_of, prefix_of, binary_of, chain, is_target, variability_of, modifier_of, annotation_of, class_word_of, fun_class_word_of, called_of}

unfoldable pub build : Act → Built → Option Built
build a.Package b = do
  at ← last_place b
  name ← last_qualified at.1
  Some (with_package (Some (record { at = at.0; name = name.0 })) name.1)
build a.NoImports b = Some (with_imports [] b)
build a.NoPackage b = Some (with_package None b)
build a.Import b = do
  at ← last_place b
  name ← last_qualified at.1
  xs ← last_imports name.1
  Some (with_imports (xs.0 ++ record { at = at.0; name = name.0 } ∷ []) xs.1)
build a.Qualified b = do
  first ← last_name b
  Some (with_qualified (record { first = first.0; rest = [] }) first.1)
build a.AddDotted b = do
  dot ← last_place b
  name ← last_name dot.1
  q ← last_qualified name.1
  Some (with_qualified (record { first = q.0.first; rest = q.0.rest ++ record { dot = dot.0; name = name.0 } ∷ [] }) q.1)
build a.NoModifiers b = Some (with_modifiers [] b)
build a.NoMembers b = Some (with_members [] b)
build a.Class b = do
  curly ← last_brackets b
  members ← last_members curly.1
  supers ← last_supers members.1
  type_params ← last_type_params supers.1
  name ← last_name type_params.1
  head ← last_class_word name.1
  modifiers ← last_modifiers head.1
  Some (with_class (record { comments = []; modifiers = modifiers.0; word = head.0.word; at = head.0.at; name = name.0; params = type_params.0; supers = supers.0; curly = curly.0; members = members.0 }) modifiers.1)
build a.ClassWord b = do
  t ← last_token b
  word ← class_word_of t.0.kind
  Some (with_class_word (record { word = word; at = t.0.position }) t.1)
build a.FunClassWord b = do
  fun_at ← last_place b
  t ← last_token fun_at.1
  word ← fun_class_word_of fun_at.0 t.0.kind
  Some (with_class_word (record { word = word; at = t.0.position }) t.1)
build a.AddModifier b = do
  t ← last_token b
  kind ← modifier_of t.0.kind
  xs ← last_modifiers t.1
  Some (with_modifiers (xs.0 ++ record { kind = kind; at = t.0.position } ∷ []) xs.1)
build a.AddAnnotation b = do
  at_sign ← last_place b
  t ← last_token at_sign.1
  kind ← annotation_of t.0
  xs ← last_modifiers t.1
  Some (with_modifiers (xs.0 ++ record { kind = kind; at = at_sign.0 } ∷ []) xs.1)
build a.NoTypeParams b = Some (with_commas [] (with_type_param_list [] b))
build a.TypeParams b = do
  angles ← last_brackets b
  commas ← last_commas angles.1
  items ← last_type_param_list commas.1
  Some (with_type_params (Some (record { angles = angles.0; items = items.0; commas = commas.0 })) items.1)
build a.NoneOfTypeParams b = Some (with_type_params None b)
build a.AddTypeParam b = do
  bound ← last_typed b
  name ← last_name bound.1
  xs ← last_type_param_list name.1
  Some (with_type_param_list (xs.0 ++ record { name = name.0; bound = bound.0 } ∷ []) xs.1)
build a.AddComma b = do
  at ← last_place b
  xs ← last_commas at.1
  Some (with_commas (xs.0 ++ at.0 ∷ []) xs.1)
build a.NoSupers b = Some (with_commas [] (with_super_list [] b))
build a.Supers b = do
  colon ← last_place b
  commas ← last_commas colon.1
  items ← last_super_list commas.1
  Some (with_supers (Some (record { colon = colon.0; items = items.0; commas = commas.0 })) items.1)
build a.NoneOfSupers b = Some (with_supers None b)
build a.AddCalledSuper b = do
  round ← last_brackets b
  kind ← last_kind round.1
  xs ← last_super_list kind.1
  Some (with_super_list (xs.0 ++ record { kind = kind.0; round = Some round.0 } ∷ []) xs.1)
build a.AddSuper b = do
  kind ← last_kind b
  xs ← last_super_list kind.1
  Some (with_super_list (xs.0 ++ record { kind = kind.0; round = None } ∷ []) xs.1)
build a.Typed b = do
  colon ← last_place b
  kind ← last_kind colon.1
  Some (with_typed (Some (record { colon = colon.0; kind = kind.0 })) kind.1)
build a.Untyped b = Some (with_typed None b)
build a.AddMember b = do
  x ← last_member b
  xs ← last_members x.1
  Some (with_members (xs.0 ++ x.0 ∷ []) xs.1)
build a.Init b = do
  at ← last_place b
  b ← last_block at.1
  Some (with_member (mb.Init at.0 b.0) b.1)
build a.Companion b = do
  curly ← last_brackets b
  object ← last_place curly.1
  companion ← last_place object.1
  xs ← last_members companion.1
  Some (with_member (mb.Companion (record { companion = companion.0; object = object.0; curly = curly.0 }) xs.0) xs.1)
build a.Property b = do
  setter ← last_setter b
  value ← last_value setter.1
  d ← last_declared value.1
  ms ← last_modifiers d.1
  Some (with_member (mb.Property ms.0 d.0 value.0 setter.0) ms.1)
build a.Function b = do
  at ← last_place b
  body ← last_body at.1
  result_type ← last_typed body.1
  params ← last_params result_type.1
  name ← last_name params.1
  ms ← last_modifiers name.1
  Some (with_member (mb.Function ms.0 at.0 name.0 params.0 result_type.0 body.0) ms.1)
build a.Constructor b = do
  at ← last_place b
  b ← last_block at.1
  first ← last_delegation b.1
  params ← last_params first.1
  ms ← last_modifiers params.1
  Some (with_member (mb.Constructor ms.0 at.0 params.0 first.0 b.0) ms.1)
build a.Declared b = do
  colon ← last_place b
  t ← last_token colon.1
  word ← variability_of t.0.kind
  kind ← last_kind t.1
  name ← last_name kind.1
  Some (with_declared (record { word = word; at = t.0.position; name = name.0; colon = colon.0; kind = kind.0 }) name.1)
build a.Value b = do
  at ← last_place b
  x ← last_expr at.1
  Some (with_value (Some (record { at = at.0; tree = x.0 })) x.1)
build a.NoValue b = Some (with_value None b)
build a.Setter b = do
  set_at ← last_place b
  private_at ← last_place set_at.1
  Some (with_setter (Some (record { private = private_at.0; set = set_at.0 })) private_at.1)
build a.NoSetter b = Some (with_setter None b)
build a.NoParams b = Some (with_commas [] (with_param_list [] b))
build a.Params b = do
  round ← last_brackets b
  commas ← last_commas round.1
  items ← last_param_list commas.1
  Some (with_params (record { round = round.0; items = items.0; commas = commas.0 }) items.1)
build a.AddParam b = do
  colon ← last_place b
  kind ← last_kind colon.1
  name ← last_name kind.1
  xs ← last_param_list name.1
  Some (with_param_list (xs.0 ++ record { name = name.0; colon = colon.0; kind = kind.0 } ∷ []) xs.1)
build a.Body b = do
  b ← last_block b
  Some (with_body (Some b.0) b.1)
build a.NoBody b = Some (with_body None b)
build a.Delegation b = do
  round ← last_brackets b
  t ← last_token round.1
  called ← called_of t.0.kind
  colon ← last_place t.1
  commas ← last_commas colon.1
  xs ← last_exprs commas.1
  Some (with_delegation (Some (record { colon = colon.0; called = called; at = t.0.position; round = round.0; arguments = xs.0; commas = commas.0 })) xs.1)
build a.NoDelegation b = Some (with_delegation None b)
build a.NoStatements b = Some (with_statements [] b)
build a.Block b = do
  curly ← last_brackets b
  statements ← last_statements curly.1
  Some (with_block (record { curly = curly.0; statements = statements.0 }) statements.1)
build a.AddStatement b = do
  x ← last_statement b
  xs ← last_statements x.1
  Some (with_statements (xs.0 ++ x.0 ∷ []) xs.1)
build a.Label b = do
  at ← last_place b
  name ← last_name at.1
  Some (with_label (Some (record { name = name.0; at = at.0 })) name.1)
build a.NoLabel b = Some (with_label None b)
build a.Break b = do
  at ← last_place b
  to ← last_target at.1
  Some (with_statement (e.Break at.0 to.0) to.1)
build a.Continue b = do
  at ← last_place b
  to ← last_target at.1
  Some (with_statement (e.Continue at.0 to.0) to.1)
build a.Throw b = do
  at ← last_place b
  x ← last_expr at.1
  Some (with_statement (e.Throw at.0 x.0) x.1)
build a.NoCatches b = Some (with_catches [] b)
build a.Synchronized b = do
  at ← last_head b
  b ← last_block at.1
  x ← last_expr b.1
  Some (with_statement (e.Synchronized at.0 x.0 b.0.curly b.0.statements) x.1)
build a.Prefix b = do
  t ← last_token b
  operator ← prefix_of t.0.kind
  x ← last_expr t.1
  Some (with_expr (e.Prefix operator t.0.position x.0) x.1)
build a.Local b = do
  at ← last_place b
  x ← last_expr at.1
  d ← last_declared x.1
  Some (with_statement (e.Local d.0 at.0 x.0) d.1)
build a.Unset b = do
  d ← last_declared b
  Some (with_statement (e.Declared d.0) d.1)
build a.While b = do
  at ← last_head b
  b ← last_block at.1
  x ← last_expr b.1
  label ← last_label x.1
  Some (with_statement (e.While label.0 at.0 x.0 b.0.curly b.0.statements) label.1)
build a.DoWhile b = do
  at ← last_head b
  do_at ← last_place at.1
  x ← last_expr do_at.1
  b ← last_block x.1
  label ← last_label b.1
  Some (with_statement (e.DoWhile label.0 do_at.0 b.0.curly b.0.statements at.0 x.0) label.1)
build a.ForRange b = do
  closes ← last_place b
  until_at ← last_place closes.1
  in_at ← last_place until_at.1
  opens ← last_place in_at.1
  word ← last_place opens.1
  b ← last_block word.1
  y ← last_expr b.1
  x ← last_expr y.1
  name ← last_name x.1
  label ← last_label name.1
  Some (with_statement (e.ForRange label.0 (record { word = word.0; round = record { opens = opens.0; closes = closes.0 } }) name.0 in_at.0 x.0 until_at.0 y.0 b.0.curly b.0.statements) label.1)
build a.For b = do
  closes ← last_place b
  in_at ← last_place closes.1
  opens ← last_place in_at.1
  word ← last_place opens.1
  b ← last_block word.1
  x ← last_expr b.1
  name ← last_name x.1
  label ← last_label name.1
  Some (with_statement (e.For label.0 (record { word = word.0; round = record { opens = opens.0; closes = closes.0 } }) name.0 in_at.0 x.0 b.0.curly b.0.statements) label.1)
build a.IfValue b = do
  else_at ← last_place b
  at ← last_head else_at.1
  z ← last_expr at.1
  y ← last_expr z.1
  x ← last_expr y.1
  Some (with_expr (e.IfValue at.0 x.0 y.0 else_at.0 z.0) x.1)
build a.Expression b = do
  x ← last_expr b
  Some (with_statement (e.Expression x.0) x.1)
build a.If b = do
  at ← last_head b
  b ← last_block at.1
  x ← last_expr b.1
  Some (with_statement (e.If at.0 x.0 b.0.curly b.0.statements) x.1)
build a.IfElse b = do
  else_at ← last_place b
  at ← last_head else_at.1
  c ← last_block at.1
  b ← last_block c.1
  x ← last_expr b.1
  Some (with_statement (e.IfElse at.0 x.0 b.0.curly b.0.statements else_at.0 c.0.curly c.0.statements) x.1)
build a.IfElseIf b = do
  else_at ← last_place b
  at ← last_head else_at.1
  y ← last_statement at.1
  b ← last_block y.1
  x ← last_expr b.1
  Some (with_statement (e.IfElseIf at.0 x.0 b.0.curly b.0.statements else_at.0 y.0) x.1)
build a.Branch b = do
  arrow ← last_place b
  b ← last_block arrow.1
  commas ← last_commas b.1
  labels ← last_exprs commas.1
  Some (with_branch (record { labels = labels.0; commas = commas.0; arrow = arrow.0; curly = b.0.curly; statements = b.0.statements }) labels.1)
build a.NoBranches b = Some (with_branches [] b)
build a.AddBranch b = do
  x ← last_branch b
  xs ← last_branches x.1
  Some (with_branches (xs.0 ++ x.0 ∷ []) xs.1)
build a.WhenBranches b = do
  closes ← last_place b
  arrow ← last_place closes.1
  word ← last_place arrow.1
  opens ← last_place word.1
  at ← last_head opens.1
  b ← last_block at.1
  xs ← last_branches b.1
  x ← last_expr xs.1
  Some (with_statement (e.When at.0 x.0 (record { opens = opens.0; closes = closes.0 }) xs.0 (record { word = word.0; arrow = arrow.0 }) b.0.curly b.0.statements) x.1)
build a.Choice b = do
  arrow ← last_place b
  x ← last_expr arrow.1
  commas ← last_commas x.1
  labels ← last_exprs commas.1
  Some (with_choice (record { labels = labels.0; commas = commas.0; arrow = arrow.0; value = x.0 }) labels.1)
build a.NoChoices b = Some (with_choices [] b)
build a.AddChoice b = do
  x ← last_choice b
  xs ← last_choices x.1
  Some (with_choices (xs.0 ++ x.0 ∷ []) xs.1)
build a.WhenChoices b = do
  closes ← last_place b
  arrow ← last_place closes.1
  word ← last_place arrow.1
  opens ← last_place word.1
  at ← last_head opens.1
  z ← last_expr at.1
  xs ← last_choices z.1
  x ← last_expr xs.1
  Some (with_expr (e.WhenValue at.0 x.0 (record { opens = opens.0; closes = closes.0 }) xs.0 (record { word = word.0; arrow = arrow.0 }) z.0) x.1)
build a.NoExprs b = Some (with_commas [] (with_exprs [] b))
build a.AddExpr b = do
  x ← last_expr b
  xs ← last_exprs x.1
  Some (with_exprs (xs.0 ++ x.0 ∷ []) xs.1)
build a.Target b = do
  at ← last_place b
  name ← last_name at.1
  Some (with_target (Some (record { at = at.0; name = name.0 })) name.1)
build a.NoTarget b = Some (with_target None b)
build a.Give b = do
  at ← last_place b
  x ← last_expr at.1
  to ← last_target x.1
  Some (with_statement (e.Give at.0 to.0 x.0) to.1)
build a.Return b = do
  at ← last_place b
  to ← last_target at.1
  Some (with_statement (e.Return at.0 to.0) to.1)
build a.Catch b = do
  closes ← last_place b
  colon ← last_place closes.1
  opens ← last_place colon.1
  word ← last_place opens.1
  b ← last_block word.1
  kind ← last_kind b.1
  name ← last_name kind.1
  Some (with_catch (record { at = record { word = word.0; round = record { opens = opens.0; closes = closes.0 } }; name = name.0; colon = colon.0; kind = kind.0; curly = b.0.curly; statements = b.0.statements }) name.1)
build a.AddCatch b = do
  x ← last_catch b
  xs ← last_catches x.1
  Some (with_catches (xs.0 ++ x.0 ∷ []) xs.1)
build a.TryFinally b = do
  word ← last_place b
  at ← last_place word.1
  c ← last_block at.1
  xs ← last_catches c.1
  b ← last_block xs.1
  Some (with_statement (e.TryFinally at.0 b.0.curly b.0.statements xs.0 (record { word = word.0; curly = c.0.curly }) c.0.statements) b.1)
build a.Try b = do
  at ← last_place b
  xs ← last_catches at.1
  b ← last_block xs.1
  Some (with_statement (e.Try at.0 b.0.curly b.0.statements xs.0) b.1)
build a.Assign b = do
  at ← last_place b
  y ← last_expr at.1
  x ← last_expr y.1
  if is_target x.0 then Some (with_statement (e.Assign x.0 at.0 y.0) x.1) else None
build a.Binary b = do
  t ← last_token b
  operator ← binary_of t.0.kind
  y ← last_expr t.1
  x ← last_expr y.1
  Some (with_expr (e.Binary x.0 operator t.0.position y.0) x.1)
build a.Is b = do
  at ← last_place b
  kind ← last_kind at.1
  x ← last_expr kind.1
  Some (with_expr (e.Is x.0 at.0 kind.0) x.1)
build a.As b = do
  at ← last_place b
  kind ← last_kind at.1
  x ← last_expr kind.1
  Some (with_expr (e.As x.0 at.0 kind.0) x.1)
build a.Literal b = do
  t ← last_token b
  literal ← literal_of t.0.kind
  Some (with_expr (e.Literal literal t.0.position) t.1)
build a.This b = do
  at ← last_place b
  Some (with_expr (e.This at.0) at.1)
build a.SuperCall b = do
  round ← last_brackets b
  dot ← last_place round.1
  word ← last_place dot.1
  name ← last_name word.1
  commas ← last_commas name.1
  xs ← last_exprs commas.1
  Some (with_expr (e.SuperCall (record { word = word.0; dot = dot.0 }) name.0 round.0 xs.0 commas.0) xs.1)
build a.Paren b = do
  round ← last_brackets b
  x ← last_expr round.1
  Some (with_expr (e.Paren round.0 x.0) x.1)
build a.Run b = do
  at ← last_place b
  b ← last_block at.1
  Some (with_expr (e.Run at.0 b.0.curly b.0.statements) b.1)
build a.Call b = do
  round ← last_brackets b
  name ← last_name round.1
  commas ← last_commas name.1
  xs ← last_exprs commas.1
  Some (with_expr (e.Call name.0 None round.0 xs.0 commas.0) xs.1)
build a.Name b = do
  name ← last_name b
  Some (with_expr (e.Name name.0) name.1)
build a.GenericCall b = do
  round ← last_brackets b
  name ← last_name round.1
  types ← last_arguments name.1
  commas ← last_commas types.1
  xs ← last_exprs commas.1
  Some (with_expr (e.Call name.0 (Some types.0) round.0 xs.0 commas.0) xs.1)
build a.Applied b = do
  first ← last_name b
  a ← last_arguments first.1
  Some (with_kind (ty.Applied (record { first = first.0; rest = [] }) a.0.angles a.0.items a.0.commas None) a.1)
build a.Element b = do
  square ← last_brackets b
  y ← last_expr square.1
  x ← last_expr y.1
  Some (with_expr (e.Element x.0 square.0 y.0) x.1)
build a.Postfix b = do
  t ← last_token b
  operator ← postfix_of t.0.kind
  x ← last_expr t.1
  Some (with_expr (e.Postfix x.0 operator t.0.position) x.1)
build a.Face b = do
  x ← last_expr b
  name ← chain x.0
  Some (with_kind (ty.Plain name None false) x.1)
build a.Ask b = do
  at ← last_place b
  kind ← last_kind at.1
  Some (with_kind (asked at.0 kind.0) kind.1)
build a.NoNames b = Some (with_lambda_names (record { items = []; commas = []; arrow = None }) b)
build a.Lambda b = do
  curly ← last_brackets b
  xs ← last_statements curly.1
  names ← last_lambda_names xs.1
  face ← last_kind names.1
  Some (with_expr (e.Lambda face.0 curly.0 names.0 xs.0) face.1)
build a.NamesArrow b = do
  x ← last_place b
  xs ← last_lambda_names x.1
  Some (with_lambda_names (record { items = xs.0.items; commas = xs.0.commas; arrow = Some x.0 }) xs.1)
build a.ClassOf b = do
  java ← last_place b
  dot ← last_place java.1
  word ← last_place dot.1
  colons ← last_place word.1
  x ← last_expr colons.1
  name ← chain x.0
  Some (with_expr (e.Class name (record { colons = colons.0; word = word.0; dot = dot.0; java = java.0 })) x.1)
build a.Method b = do
  round ← last_brackets b
  dot ← last_place round.1
  name ← last_name dot.1
  commas ← last_commas name.1
  xs ← last_exprs commas.1
  x ← last_expr xs.1
  Some (with_expr (e.Method x.0 dot.0 name.0 None round.0 xs.0 commas.0) x.1)
build a.Field b = do
  dot ← last_place b
  name ← last_name dot.1
  x ← last_expr name.1
  Some (with_expr (e.Field x.0 dot.0 name.0) x.1)
build a.GenericMethod b = do
  round ← last_brackets b
  dot ← last_place round.1
  name ← last_name dot.1
  types ← last_arguments name.1
  commas ← last_commas types.1
  xs ← last_exprs commas.1
  x ← last_expr xs.1
  Some (with_expr (e.Method x.0 dot.0 name.0 (Some types.0) round.0 xs.0 commas.0) x.1)
build a.DottedApplied b = do
  dot ← last_place b
  name ← last_name dot.1
  a ← last_arguments name.1
  x ← last_expr a.1
  q ← chain x.0
  Some (with_kind (ty.Applied (record { first = q.first; rest = q.rest ++ record { dot = dot.0; name = name.0 } ∷ [] }) a.0.angles a.0.items a.0.commas None) x.1)
build a.AddName b = do
  x ← last_name b
  xs ← last_lambda_names x.1
  Some (with_lambda_names (record { items = xs.0.items ++ x.0 ∷ []; commas = xs.0.commas; arrow = xs.0.arrow }) xs.1)
build a.AddNameComma b = do
  x ← last_place b
  xs ← last_lambda_names x.1
  Some (with_lambda_names (record { items = xs.0.items; commas = xs.0.commas ++ x.0 ∷ []; arrow = xs.0.arrow }) xs.1)
build a.AppliedType b = do
  a ← last_arguments b
  name ← last_qualified a.1
  Some (with_kind (ty.Applied name.0 a.0.angles a.0.items a.0.commas None) name.1)
build a.PlainType b = do
  name ← last_qualified b
  Some (with_kind (ty.Plain name.0 None false) name.1)
build a.NoTypes b = Some (with_commas [] (with_kinds [] b))
build a.AddType b = do
  x ← last_kind b
  xs ← last_kinds x.1
  Some (with_kinds (xs.0 ++ x.0 ∷ []) xs.1)
build a.TypeArguments b = do
  angles ← last_brackets b
  commas ← last_commas angles.1
  items ← last_kinds commas.1
  Some (with_arguments (record { angles = angles.0; items = items.0; commas = commas.0 }) items.1)
