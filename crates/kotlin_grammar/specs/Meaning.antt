-- What a token says where it is taken.
use Rattle.std.specs.Prelude.{ℕ, Bool, true, false, if◌then◌else◌, nat_eq, List, [], ◌∷◌, ◌++◌, Option, Some, None}
use Rattle.grammar.specs.Machine.{◌>>=◌}
use Rattle.kotlin_tree.specs.Spellings.{word_text}
use Rattle.kotlin_tree.specs.declared.places.Position.{Position}
use Rattle.kotlin_tree.specs.declared.tokens.Mark.{Mark}
use Rattle.kotlin_tree.specs.declared.tokens.Mark.TheVariants as m
use Rattle.kotlin_tree.specs.declared.tokens.Keyword.{Keyword}
use Rattle.kotlin_tree.specs.declared.tokens.Keyword.TheVariants as h
use Rattle.kotlin_tree.specs.declared.tokens.Word.{Word}
use Rattle.kotlin_tree.specs.declared.tokens.Word.TheVariants as o
use Rattle.kotlin_tree.specs.declared.tokens.TokenKind.{TokenKind}
use Rattle.kotlin_tree.specs.declared.tokens.TokenKind.TheVariants as q
use Rattle.kotlin_tree.specs.declared.tokens.KToken.{KToken}
use Rattle.kotlin_tree.specs.declared.types.KQualified.{KQualified}
use Rattle.kotlin_tree.specs.declared.types.KType.{KType, out-KType}
use Rattle.kotlin_tree.specs.declared.types.KType.TheOpen.{KType-F}
use Rattle.kotlin_tree.specs.declared.types.KType.TheVariants as ty
use Rattle.kotlin_tree.specs.declared.expressions.KLiteral.{KLiteral}
use Rattle.kotlin_tree.specs.declared.expressions.KLiteral.TheVariants as literal
use Rattle.kotlin_tree.specs.declared.expressions.KPrefix.{KPrefix}
use Rattle.kotlin_tree.specs.declared.expressions.KPrefix.TheVariants as prefix
use Rattle.kotlin_tree.specs.declared.expressions.KPostfix.{KPostfix}
use Rattle.kotlin_tree.specs.declared.expressions.KPostfix.TheVariants as postfix
use Rattle.kotlin_tree.specs.declared.expressions.KBinary.{KBinary}
use Rattle.kotlin_tree.specs.declared.expressions.KBinary.TheVariants as op
use Rattle.kotlin_tree.specs.declared.expressions.KChoice.{KChoice}
use Rattle.kotlin_tree.specs.declared.expressions.KExpr.{KExpr, out-KExpr, fold-KExpr}
use Rattle.kotlin_tree.specs.declared.expressions.KExpr.TheOpen.{KExpr-F}
use Rattle.kotlin_tree.specs.declared.statements.KStmt.{KStmt}
use Rattle.kotlin_tree.specs.declared.statements.KBranch.{KBranch}
use Rattle.kotlin_tree.specs.declared.statements.KCatch.{KCatch}
use Rattle.kotlin_tree.specs.declared.statements.KVariability.{KVariability}
use Rattle.kotlin_tree.specs.declared.statements.KVariability.TheVariants as variability
use Rattle.kotlin_tree.specs.declared.members.KCalled.{KCalled}
use Rattle.kotlin_tree.specs.declared.members.KCalled.TheVariants as called
use Rattle.kotlin_tree.specs.declared.members.KModifierKind.{KModifierKind}
use Rattle.kotlin_tree.specs.declared.members.KModifierKind.TheVariants as modifier
use Rattle.kotlin_tree.specs.declared.files.KClassWord.{KClassWord}
use Rattle.kotlin_tree.specs.declared.files.KClassWord.TheVariants as word
use Rattle.kotlin_grammar.specs.declared.letters.Kind.TheVariants as k
use Rattle.kotlin_grammar.specs.declared.letters.Term.{Term}
use Rattle.kotlin_grammar.specs.declared.letters.Term.TheVariants as t
use Rattle.kotlin_grammar.specs.declared.built.Built.{Built}
use Rattle.kotlin_grammar.specs.Parts.{with_name, with_token, with_place}

-- ---- what is kept of a token

abbrev pub text_of : TokenKind → List ℕ
text_of (q.Name x) = x
text_of (q.Word x) = word_text x
text_of _ = []

-- an identifier of the tree
abbrev pub is_named : Term → Bool
is_named t.Name = true
is_named t.AnyName = true
is_named t.TypeName = true
is_named t.TypeNameArguments = true
is_named t.TargetName = true
is_named t.LabelName = true
is_named (t.Only k.NameArguments) = true
is_named _ = false

-- a token of which the tree holds more than the place
abbrev pub is_told : Term → Bool
is_told t.CompareMark = true
is_told t.PrefixMark = true
is_told t.PostfixMark = true
is_told t.Modifier = true
is_told t.Annotation = true
is_told t.ClassOrInterface = true
is_told t.Variability = true
is_told t.ThisOrSuper = true
is_told (t.Only k.Literal) = true
is_told (t.Only k.Equality) = true
is_told (t.Only k.InfixWord) = true
is_told (t.Only k.Sign) = true
is_told (t.Only k.Times) = true
is_told (t.Only k.AndAnd) = true
is_told (t.Only k.OrOr) = true
is_told _ = false

-- with a token that the terminal takes
unfoldable pub taken : Term → KToken → Built → Built
taken c x b =
    if is_named c then with_name (record { name = text_of x.kind; at = x.position }) b
    else (if is_told c then with_token x b else with_place x.position b)

-- ---- literals and operators

abbrev pub literal_word : Keyword → Option KLiteral
literal_word h.True = Some literal.True
literal_word h.False = Some literal.False
literal_word h.Null = Some literal.Null
literal_word _ = None

abbrev pub literal_of : TokenKind → Option KLiteral
literal_of (q.Integer x) = Some (literal.Integer x)
literal_of (q.Long x) = Some (literal.Long x)
literal_of (q.Character x) = Some (literal.Character x)
literal_of (q.Text x) = Some (literal.Text x)
literal_of (q.Keyword x) = literal_word x
literal_of _ = None

abbrev pub prefix_mark : Mark → Option KPrefix
prefix_mark m.Plus = Some prefix.Plus
prefix_mark m.Minus = Some prefix.Minus
prefix_mark m.Not = Some prefix.Not
prefix_mark m.PlusPlus = Some prefix.Increment
prefix_mark m.MinusMinus = Some prefix.Decrement
prefix_mark _ = None

abbrev pub prefix_of : TokenKind → Option KPrefix
prefix_of (q.Mark x) = prefix_mark x
prefix_of _ = None

abbrev pub postfix_mark : Mark → Option KPostfix
postfix_mark m.NotNull = Some postfix.NotNull
postfix_mark m.PlusPlus = Some postfix.Increment
postfix_mark m.MinusMinus = Some postfix.Decrement
postfix_mark _ = None

abbrev pub postfix_of : TokenKind → Option KPostfix
postfix_of (q.Mark x) = postfix_mark x
postfix_of _ = None

abbrev pub binary_mark : Mark → Option KBinary
binary_mark m.OrOr = Some op.OrElse
binary_mark m.AndAnd = Some op.AndAlso
binary_mark m.Equal = Some op.Equal
binary_mark m.NotEqual = Some op.NotEqual
binary_mark m.Identical = Some op.Same
binary_mark m.NotIdentical = Some op.NotSame
binary_mark m.Less = Some op.Less
binary_mark m.Greater = Some op.Greater
binary_mark m.LessEqual = Some op.LessEqual
binary_mark m.GreaterEqual = Some op.GreaterEqual
binary_mark m.Plus = Some op.Add
binary_mark m.Minus = Some op.Subtract
binary_mark m.Star = Some op.Multiply
binary_mark m.Slash = Some op.Divide
binary_mark m.Percent = Some op.Remainder
binary_mark _ = None

abbrev pub binary_word : Word → Option KBinary
binary_word o.Shl = Some op.ShiftLeft
binary_word o.Shr = Some op.ShiftRight
binary_word o.Ushr = Some op.ShiftUnsigned
binary_word o.And = Some op.BitAnd
binary_word o.Or = Some op.BitOr
binary_word o.Xor = Some op.BitXor
binary_word _ = None

abbrev pub binary_of : TokenKind → Option KBinary
binary_of (q.Mark x) = binary_mark x
binary_of (q.Word x) = binary_word x
binary_of _ = None

-- ---- words of declarations

abbrev pub variability_word : Keyword → Option KVariability
variability_word h.Val = Some variability.Val
variability_word h.Var = Some variability.Var
variability_word _ = None

abbrev pub variability_of : TokenKind → Option KVariability
variability_of (q.Keyword x) = variability_word x
variability_of _ = None

abbrev pub called_word : Keyword → Option KCalled
called_word h.This = Some called.This
called_word h.Super = Some called.Super
called_word _ = None

abbrev pub called_of : TokenKind → Option KCalled
called_of (q.Keyword x) = called_word x
called_of _ = None

abbrev pub modifier_word : Word → Option KModifierKind
modifier_word o.Private = Some modifier.Private
modifier_word o.Abstract = Some modifier.Abstract
modifier_word o.Open = Some modifier.Open
modifier_word o.Override = Some modifier.Override
modifier_word o.Const = Some modifier.Const
modifier_word _ = None

abbrev pub modifier_of : TokenKind → Option KModifierKind
modifier_of (q.Word x) = modifier_word x
modifier_of _ = None

abbrev pub annotation_word : Position → Word → Option KModifierKind
annotation_word at o.JvmStatic = Some (modifier.JvmStatic at)
annotation_word at o.JvmField = Some (modifier.JvmField at)
annotation_word at o.SynchronizedMethod = Some (modifier.Synchronized at)
annotation_word at o.Volatile = Some (modifier.Volatile at)
annotation_word at _ = None

abbrev pub annotation_by : Position → TokenKind → Option KModifierKind
annotation_by at (q.Word x) = annotation_word at x
annotation_by at _ = None

abbrev pub annotation_of : KToken → Option KModifierKind
annotation_of x = annotation_by x.position x.kind

abbrev pub class_keyword : Keyword → Option KClassWord
class_keyword h.Class = Some word.Class
class_keyword h.Interface = Some word.Interface
class_keyword _ = None

abbrev pub class_word_of : TokenKind → Option KClassWord
class_word_of (q.Keyword x) = class_keyword x
class_word_of _ = None

abbrev pub fun_class_keyword : Position → Keyword → Option KClassWord
fun_class_keyword at h.Class = Some (word.FunClass at)
fun_class_keyword at h.Interface = Some (word.FunInterface at)
fun_class_keyword at _ = None

abbrev pub fun_class_word_of : Position → TokenKind → Option KClassWord
fun_class_word_of at (q.Keyword x) = fun_class_keyword at x
fun_class_word_of at _ = None

-- ---- types, and expressions that are names or may be assigned to

abbrev pub asked_by : Position → KType-F KType → KType
asked_by at (KType-F.Plain name question variable) = ty.Plain name (Some at) variable
asked_by at (KType-F.Applied name angles arguments commas question) = ty.Applied name angles arguments commas (Some at)

-- with `?`
unfoldable pub asked : Position → KType → KType
asked at x = asked_by at (out-KType x)

abbrev pub Unread : Type 0
Unread = Unit {0}

abbrev pub chain_by : KExpr-F (Option KQualified) Unread Unread Unread Unread → Option KQualified
chain_by (KExpr-F.Name x) = Some (record { first = x; rest = [] })
chain_by (KExpr-F.Field left dot x) = left >>= λ q. Some (record { first = q.first; rest = q.rest ++ record { dot = dot; name = x } ∷ [] })
chain_by _ = None

-- the name that an expression is, where it is names with dots alone
unfoldable pub chain : KExpr → Option KQualified
chain = fold-KExpr (Option KQualified) Unread Unread Unread Unread chain_by (λ _. tt) (λ _. tt) (λ _. tt) (λ _. tt)

abbrev pub is_target_by : KExpr-F KExpr KStmt KChoice KBranch KCatch → Bool
is_target_by (KExpr-F.Name x) = true
is_target_by (KExpr-F.Field left dot x) = true
is_target_by (KExpr-F.Element left square i) = true
is_target_by _ = false

-- a name, a member or an element
unfoldable pub is_target : KExpr → Bool
is_target x = is_target_by (out-KExpr x)
