-- The roles of trees, with parentheses round what doesn't stand where it is.
use Rattle.std.specs.Prelude.{◌≡◌, ℕ, zero, suc, ◌+◌, nat_eq, Bool, true, false, if◌then◌else◌, List, [], ◌∷◌, ◌++◌, map, Option, Some, None, codes, bytes_eq}
use Rattle.kotlin_tree.specs.declared.tokens.Mark.{Mark}
use Rattle.kotlin_tree.specs.declared.tokens.Mark.TheVariants as m
use Rattle.kotlin_tree.specs.declared.tokens.Keyword.TheVariants as k
use Rattle.kotlin_tree.specs.declared.tokens.Word.{Word}
use Rattle.kotlin_tree.specs.declared.tokens.Word.TheVariants as w
use Rattle.kotlin_tree.specs.declared.places.Brackets.{Brackets}
use Rattle.kotlin_tree.specs.declared.places.Position.{Position}
use Rattle.kotlin_tree.specs.declared.types.KName.{KName}
use Rattle.kotlin_tree.specs.declared.types.KDotted.{KDotted}
use Rattle.kotlin_tree.specs.declared.types.KQualified.{KQualified}
use Rattle.kotlin_tree.specs.declared.types.KTypeArguments.{KTypeArguments}
use Rattle.kotlin_tree.specs.declared.types.KType.{KType, fold-KType}
use Rattle.kotlin_tree.specs.declared.types.KType.TheOpen.{KType-F}
use Rattle.kotlin_tree.specs.declared.expressions.KBinary.{KBinary}
use Rattle.kotlin_tree.specs.declared.expressions.KBinary.TheVariants as op
use Rattle.kotlin_tree.specs.declared.expressions.KPrefix.{KPrefix}
use Rattle.kotlin_tree.specs.declared.expressions.KPrefix.TheVariants as prefix
use Rattle.kotlin_tree.specs.declared.expressions.KPostfix.{KPostfix}
use Rattle.kotlin_tree.specs.declared.expressions.KPostfix.TheVariants as postfix
use Rattle.kotlin_tree.specs.declared.expressions.KLambdaNames.{KLambdaNames}
use Rattle.kotlin_tree.specs.declared.expressions.KExpr.{KExpr, out-KExpr, map-KExpr, fold-KExpr}
use Rattle.kotlin_tree.specs.declared.expressions.KExpr.TheOpen.{KExpr-F, KStmt-F, KChoice-F, KBranch-F, KCatch-F}
use Rattle.kotlin_tree.specs.declared.expressions.KChoice.{KChoice, fold-KChoice}
use Rattle.kotlin_tree.specs.declared.statements.KVariability.{KVariability}
use Rattle.kotlin_tree.specs.declared.statements.KVariability.TheVariants as variability
use Rattle.kotlin_tree.specs.declared.statements.KDeclared.{KDeclared}
use Rattle.kotlin_tree.specs.declared.statements.KLabel.{KLabel}
use Rattle.kotlin_tree.specs.declared.statements.KTarget.{KTarget}
use Rattle.kotlin_tree.specs.declared.statements.KBlock.{KBlock}
use Rattle.kotlin_tree.specs.declared.statements.KStmt.{KStmt, fold-KStmt}
use Rattle.kotlin_tree.specs.declared.statements.KBranch.{KBranch, fold-KBranch}
use Rattle.kotlin_tree.specs.declared.statements.KCatch.{KCatch, fold-KCatch}
use Rattle.kotlin_tree.specs.declared.members.KModifierKind.{KModifierKind}
use Rattle.kotlin_tree.specs.declared.members.KModifierKind.TheVariants as modifier
use Rattle.kotlin_tree.specs.declared.members.KModifier.{KModifier}
use Rattle.kotlin_tree.specs.declared.members.KParam.{KParam}
use Rattle.kotlin_tree.specs.declared.members.KParams.{KParams}
use Rattle.kotlin_tree.specs.declared.members.KTyped.{KTyped}
use Rattle.kotlin_tree.specs.declared.members.KValue.{KValue}
use Rattle.kotlin_tree.specs.declared.members.KPrivateSet.{KPrivateSet}
use Rattle.kotlin_tree.specs.declared.members.KCalled.{KCalled}
use Rattle.kotlin_tree.specs.declared.members.KCalled.TheVariants as called
use Rattle.kotlin_tree.specs.declared.members.KDelegation.{KDelegation}
use Rattle.kotlin_tree.specs.declared.members.KMember.{KMember, fold-KMember}
use Rattle.kotlin_tree.specs.declared.members.KMember.TheOpen.{KMember-F}
use Rattle.kotlin_tree.specs.declared.files.KTypeParam.{KTypeParam}
use Rattle.kotlin_tree.specs.declared.files.KTypeParams.{KTypeParams}
use Rattle.kotlin_tree.specs.declared.files.KSuper.{KSuper}
use Rattle.kotlin_tree.specs.declared.files.KSupers.{KSupers}
use Rattle.kotlin_tree.specs.declared.files.KClassWord.{KClassWord}
use Rattle.kotlin_tree.specs.declared.files.KClassWord.TheVariants as class
use Rattle.kotlin_tree.specs.declared.files.KClass.{KClass}
use Rattle.kotlin_tree.specs.declared.files.KPackage.{KPackage}
use Rattle.kotlin_tree.specs.declared.files.KImport.{KImport}
use Rattle.kotlin_tree.specs.declared.files.KFile.{KFile}
use Rattle.kotlin_layout.specs.declared.glyphs.Glyph.{Glyph}
use Rattle.kotlin_layout.specs.declared.glyphs.Glyph.TheVariants as g
use Rattle.kotlin_layout.specs.declared.parens.Place.{Place}
use Rattle.kotlin_layout.specs.Parens.{needs_by, postfix_level, infix_level, is_level, as_level, free_place, list_place, operand_place, left_place, right_place, prefix_place}
use Rattle.kotlin_layout.specs.Roles.{Role, Roles, Glyphs, fixed, name, listed, comma, next, joined, lines, opened, closed, block}

-- ---- names and types

abbrev pub dotted_roles : KDotted → Roles
dotted_roles x = fixed (g.Mark m.Dot ∷ []) ++ name x.name.name

abbrev pub qualified_roles : KQualified → Roles
qualified_roles x = name x.first.name ++ joined (map dotted_roles x.rest)

abbrev pub if_there : {A : Type 0} → Option A → Glyphs → Roles
if_there None xs = []
if_there (Some x) xs = fixed xs

-- `<`, the parts, `>`
abbrev pub in_angles : List Roles → Roles
in_angles parts = fixed (g.Mark m.Less ∷ []) ++ listed comma parts ++ fixed (g.Mark m.Greater ∷ [])

abbrev pub type_by : KType-F Roles → Roles
type_by (KType-F.Plain x question variable) = qualified_roles x ++ if_there question (g.Mark m.Question ∷ [])
type_by (KType-F.Applied x angles arguments commas question) = qualified_roles x ++ in_angles arguments ++ if_there question (g.Mark m.Question ∷ [])

unfoldable pub type_roles : KType → Roles
type_roles = fold-KType Roles type_by

abbrev pub type_arguments_roles : Option KTypeArguments → Roles
type_arguments_roles None = []
type_arguments_roles (Some x) = in_angles (map type_roles x.items)

-- ---- operators

abbrev pub prefix_mark : KPrefix → Mark
prefix_mark prefix.Plus = m.Plus
prefix_mark prefix.Minus = m.Minus
prefix_mark prefix.Not = m.Not
prefix_mark prefix.Increment = m.PlusPlus
prefix_mark prefix.Decrement = m.MinusMinus

abbrev pub postfix_mark : KPostfix → Mark
postfix_mark postfix.NotNull = m.NotNull
postfix_mark postfix.Increment = m.PlusPlus
postfix_mark postfix.Decrement = m.MinusMinus

abbrev pub operator_glyph : KBinary → Glyph
operator_glyph op.OrElse = g.Mark m.OrOr
operator_glyph op.AndAlso = g.Mark m.AndAnd
operator_glyph op.Equal = g.Mark m.Equal
operator_glyph op.NotEqual = g.Mark m.NotEqual
operator_glyph op.Same = g.Mark m.Identical
operator_glyph op.NotSame = g.Mark m.NotIdentical
operator_glyph op.Less = g.Mark m.Less
operator_glyph op.Greater = g.Mark m.Greater
operator_glyph op.LessEqual = g.Mark m.LessEqual
operator_glyph op.GreaterEqual = g.Mark m.GreaterEqual
operator_glyph op.ShiftLeft = g.Word w.Shl
operator_glyph op.ShiftRight = g.Word w.Shr
operator_glyph op.ShiftUnsigned = g.Word w.Ushr
operator_glyph op.BitAnd = g.Word w.And
operator_glyph op.BitOr = g.Word w.Or
operator_glyph op.BitXor = g.Word w.Xor
operator_glyph op.Add = g.Mark m.Plus
operator_glyph op.Subtract = g.Mark m.Minus
operator_glyph op.Multiply = g.Mark m.Star
operator_glyph op.Divide = g.Mark m.Slash
operator_glyph op.Remainder = g.Mark m.Percent

-- ---- phrases

-- `(`, what stands between, `)`
abbrev pub in_round : Roles → Roles
in_round xs = fixed (g.Mark m.OpenRound ∷ []) ++ xs ++ fixed (g.Mark m.CloseRound ∷ [])

-- a blank, `=`, a blank
abbrev pub assigns : Glyphs
assigns = g.Blank ∷ g.Mark m.Assign ∷ g.Blank ∷ []

abbrev pub has_type : Glyphs
has_type = g.Mark m.Colon ∷ g.Blank ∷ []

-- a word, a blank, and in parentheses what stands between
abbrev pub headed : Glyph → Roles → Roles
headed word xs = fixed (word ∷ g.Blank ∷ g.Mark m.OpenRound ∷ []) ++ xs ++ fixed (g.Mark m.CloseRound ∷ [])

-- the head of a `for` as far as `in`
abbrev pub for_head : KName → Roles
for_head x = fixed (g.Keyword k.For ∷ g.Blank ∷ g.Mark m.OpenRound ∷ []) ++ name x.name ++ fixed (g.Blank ∷ g.Keyword k.In ∷ g.Blank ∷ [])

abbrev pub else_word : Glyphs
else_word = g.Blank ∷ g.Keyword k.Else ∷ []

-- the last alternative of a `when`
abbrev pub else_line : Glyphs
else_line = g.Line ∷ g.Keyword k.Else ∷ g.Blank ∷ g.Mark m.Arrow ∷ []

abbrev pub else_value : Glyphs
else_value = g.Line ∷ g.Keyword k.Else ∷ g.Blank ∷ g.Mark m.Arrow ∷ g.Blank ∷ []

abbrev pub class_of : Glyphs
class_of = g.Mark m.DoubleColon ∷ g.Keyword k.Class ∷ g.Mark m.Dot ∷ g.Word w.Java ∷ []

-- the labels of an alternative of a `when`
abbrev pub labels : List Roles → Roles
labels parts = listed comma parts ++ fixed (g.Blank ∷ g.Mark m.Arrow ∷ [])

abbrev pub name_of : KName → Roles
name_of x = name x.name

-- the names of a lambda, where there are some
abbrev pub lambda_names : List KName → Roles
lambda_names [] = []
lambda_names (x ∷ xs) = fixed (g.Blank ∷ []) ++ listed comma (map name_of (x ∷ xs)) ++ fixed (g.Blank ∷ g.Mark m.Arrow ∷ [])

-- a comment on lines of its own
abbrev pub comment_line : List ℕ → Roles
comment_line x = Role.Comment x ∷ fixed (g.Line ∷ [])

abbrev pub comment_roles : List (List ℕ) → Roles
comment_roles xs = joined (map comment_line xs)

-- ---- declarations, labels, jumps

abbrev pub variability_word : KVariability → Glyph
variability_word variability.Val = g.Keyword k.Val
variability_word variability.Var = g.Keyword k.Var

abbrev pub declared_roles : KDeclared → Roles
declared_roles x = fixed (variability_word x.word ∷ g.Blank ∷ []) ++ name x.name.name ++ fixed has_type ++ type_roles x.kind

abbrev pub label_roles : Option KLabel → Roles
label_roles None = []
label_roles (Some x) = name x.name.name ++ fixed (g.Mark m.At ∷ g.Blank ∷ [])

-- a name behind `@`: the function of a synchronized block stands bare there, where no block can begin (own rule)
abbrev pub target_name : List ℕ → Roles
target_name n = if bytes_eq n (codes "synchronized") then fixed (g.Word w.SynchronizedBlock ∷ []) else name n

abbrev pub target_roles : Option KTarget → Roles
target_roles None = []
target_roles (Some x) = fixed (g.Mark m.At ∷ []) ++ target_name x.name.name

-- ---- expressions and statements, by cases

-- an expression, by its place
abbrev pub Placed : Type 0
Placed = Place → Roles

abbrev pub at_place : Place → Placed → Roles
at_place place x = x place

abbrev pub arguments_roles : List Placed → Roles
arguments_roles xs = in_round (listed comma (map (at_place list_place) xs))

-- a form that stands at a place as it is
abbrev pub bare_by : Place → KExpr-F Placed Roles Roles Roles Roles → Roles
bare_by p (KExpr-F.Literal x at) = Role.Literal x ∷ []
bare_by p (KExpr-F.Name x) = name x.name
bare_by p (KExpr-F.This at) = fixed (g.Keyword k.This ∷ [])
bare_by p (KExpr-F.Paren round inner) = in_round (inner free_place)
bare_by p (KExpr-F.Call x types round arguments commas) = name x.name ++ type_arguments_roles types ++ arguments_roles arguments
bare_by p (KExpr-F.SuperCall at x round arguments commas) = fixed (g.Keyword k.Super ∷ g.Mark m.Dot ∷ []) ++ name x.name ++ arguments_roles arguments
bare_by p (KExpr-F.Field object dot x) = object (operand_place postfix_level p) ++ fixed (g.Mark m.Dot ∷ []) ++ name x.name
bare_by p (KExpr-F.Method object dot x types round arguments commas) =
    object (operand_place postfix_level p) ++ fixed (g.Mark m.Dot ∷ []) ++ name x.name ++ type_arguments_roles types ++ arguments_roles arguments
bare_by p (KExpr-F.Element array square index) =
    array (operand_place postfix_level p) ++ fixed (g.Mark m.OpenSquare ∷ []) ++ index free_place ++ fixed (g.Mark m.CloseSquare ∷ [])
bare_by p (KExpr-F.Postfix operand o at) = operand (operand_place postfix_level p) ++ fixed (g.Mark (postfix_mark o) ∷ [])
bare_by p (KExpr-F.Prefix o at operand) = fixed (g.Mark (prefix_mark o) ∷ []) ++ operand (prefix_place o p)
bare_by p (KExpr-F.As value at kind) = value (operand_place as_level p) ++ fixed (g.Blank ∷ g.Keyword k.As ∷ g.Blank ∷ []) ++ type_roles kind
bare_by p (KExpr-F.Is value at kind) = value (operand_place is_level p) ++ fixed (g.Blank ∷ g.Keyword k.Is ∷ g.Blank ∷ []) ++ type_roles kind
bare_by p (KExpr-F.Binary left o at right) = left (left_place o p) ++ fixed (g.Blank ∷ operator_glyph o ∷ g.Blank ∷ []) ++ right (right_place o p)
bare_by p (KExpr-F.IfValue at condition value else_at other) =
    headed (g.Keyword k.If) (condition free_place) ++ fixed (g.Blank ∷ []) ++ value (operand_place zero p) ++ fixed (g.Blank ∷ g.Keyword k.Else ∷ g.Blank ∷ [])
    ++ other (operand_place zero p)
bare_by p (KExpr-F.WhenValue at subject curly choices else_at other) =
    headed (g.Keyword k.When) (subject free_place) ++ fixed opened ++ lines choices ++ fixed else_value ++ other free_place ++ fixed closed
bare_by p (KExpr-F.Lambda face curly names statements) =
    type_roles face ++ fixed (g.Blank ∷ g.Mark m.OpenCurly ∷ []) ++ lambda_names names.items ++ fixed (g.Deeper ∷ []) ++ lines statements ++ fixed closed
bare_by p (KExpr-F.Run at curly statements) =
    fixed (g.Word w.Run ∷ g.Blank ∷ g.Mark m.OpenCurly ∷ g.Blank ∷ []) ++ listed next statements ++ fixed (g.Blank ∷ g.Mark m.CloseCurly ∷ [])
bare_by p (KExpr-F.Class x at) =
    qualified_roles x ++ fixed class_of

-- a form, in parentheses where it doesn't stand at the place
abbrev pub expression_by : KExpr-F Placed Roles Roles Roles Roles → Placed
expression_by x p = if needs_by p x then in_round (bare_by free_place x) else bare_by p x

abbrev pub statement_by : KStmt-F Placed Roles Roles Roles Roles → Roles
statement_by (KStmt-F.Commented comments statement) = comment_roles comments ++ statement
statement_by (KStmt-F.Declared x) = declared_roles x
statement_by (KStmt-F.Local x at value) = declared_roles x ++ fixed assigns ++ value free_place
statement_by (KStmt-F.Expression x) = x free_place
statement_by (KStmt-F.Assign target at value) = target (operand_place postfix_level free_place) ++ fixed assigns ++ value free_place
statement_by (KStmt-F.While label at condition curly statements) =
    label_roles label ++ headed (g.Keyword k.While) (condition free_place) ++ block statements
statement_by (KStmt-F.DoWhile label do_at curly statements at condition) =
    label_roles label ++ fixed (g.Keyword k.Do ∷ []) ++ block statements ++ fixed (g.Blank ∷ []) ++ headed (g.Keyword k.While) (condition free_place)
statement_by (KStmt-F.For label at x in_at values curly statements) =
    label_roles label ++ for_head x ++ values free_place ++ fixed (g.Mark m.CloseRound ∷ []) ++ block statements
statement_by (KStmt-F.ForRange label at x in_at first until_at end curly statements) =
    label_roles label ++ for_head x ++ first (operand_place infix_level free_place) ++ fixed (g.Blank ∷ g.Word w.Until ∷ g.Blank ∷ [])
    ++ end (operand_place (infix_level + 1) free_place) ++ fixed (g.Mark m.CloseRound ∷ []) ++ block statements
statement_by (KStmt-F.If at condition curly statements) = headed (g.Keyword k.If) (condition free_place) ++ block statements
statement_by (KStmt-F.IfElse at condition curly statements else_at other_curly others) =
    headed (g.Keyword k.If) (condition free_place) ++ block statements ++ fixed else_word ++ block others
statement_by (KStmt-F.IfElseIf at condition curly statements else_at other) =
    headed (g.Keyword k.If) (condition free_place) ++ block statements ++ fixed (g.Blank ∷ g.Keyword k.Else ∷ g.Blank ∷ []) ++ other
statement_by (KStmt-F.When at subject curly branches else_at other_curly others) =
    headed (g.Keyword k.When) (subject free_place) ++ fixed opened ++ lines branches ++ fixed else_line ++ block others ++ fixed closed
statement_by (KStmt-F.Break at target) = fixed (g.Keyword k.Break ∷ []) ++ target_roles target
statement_by (KStmt-F.Continue at target) = fixed (g.Keyword k.Continue ∷ []) ++ target_roles target
statement_by (KStmt-F.Return at target) = fixed (g.Keyword k.Return ∷ []) ++ target_roles target
statement_by (KStmt-F.Give at target value) = fixed (g.Keyword k.Return ∷ []) ++ target_roles target ++ fixed (g.Blank ∷ []) ++ value free_place
statement_by (KStmt-F.Throw at value) = fixed (g.Keyword k.Throw ∷ g.Blank ∷ []) ++ value free_place
statement_by (KStmt-F.Try at curly statements catches) = fixed (g.Keyword k.Try ∷ []) ++ block statements ++ joined catches
statement_by (KStmt-F.TryFinally at curly statements catches last_at last) =
    fixed (g.Keyword k.Try ∷ []) ++ block statements ++ joined catches ++ fixed (g.Blank ∷ g.Word w.Finally ∷ []) ++ block last
statement_by (KStmt-F.Synchronized at lock curly statements) =
    fixed (g.Word w.SynchronizedBlock ∷ []) ++ in_round (lock free_place) ++ block statements

abbrev pub choice_by : KChoice-F Placed Roles Roles Roles Roles → Roles
choice_by x = labels (map (at_place list_place) x.labels) ++ fixed (g.Blank ∷ []) ++ x.value free_place

abbrev pub branch_by : KBranch-F Placed Roles Roles Roles Roles → Roles
branch_by x = labels (map (at_place list_place) x.labels) ++ block x.statements

abbrev pub catch_by : KCatch-F Placed Roles Roles Roles Roles → Roles
catch_by x =
    fixed (g.Blank ∷ []) ++ headed (g.Word w.Catch) (name x.name.name ++ fixed has_type ++ type_roles x.kind) ++ block x.statements

unfoldable pub expression_roles : KExpr → Placed
expression_roles = fold-KExpr Placed Roles Roles Roles Roles expression_by statement_by choice_by branch_by catch_by

unfoldable pub statement_roles : KStmt → Roles
statement_roles = fold-KStmt Placed Roles Roles Roles Roles expression_by statement_by choice_by branch_by catch_by

unfoldable pub choice_roles : KChoice → Roles
choice_roles = fold-KChoice Placed Roles Roles Roles Roles expression_by statement_by choice_by branch_by catch_by

unfoldable pub branch_roles : KBranch → Roles
branch_roles = fold-KBranch Placed Roles Roles Roles Roles expression_by statement_by choice_by branch_by catch_by

unfoldable pub catch_roles : KCatch → Roles
catch_roles = fold-KCatch Placed Roles Roles Roles Roles expression_by statement_by choice_by branch_by catch_by

-- the form of an expression as it is, at a place
unfoldable pub bare_roles : Place → KExpr → Roles
bare_roles p x =
    bare_by p (map-KExpr KExpr KStmt KChoice KBranch KCatch Placed Roles Roles Roles Roles expression_roles statement_roles choice_roles branch_roles catch_roles (out-KExpr x))

-- an expression between commas
abbrev pub argument_roles : KExpr → Roles
argument_roles x = expression_roles x list_place

abbrev pub block_roles : KBlock → Roles
block_roles x = block (map statement_roles x.statements)

-- ---- members

-- the order of the modifiers
abbrev pub rank : KModifierKind → ℕ
rank (modifier.JvmStatic at) = 0
rank (modifier.JvmField at) = 1
rank (modifier.Synchronized at) = 2
rank (modifier.Volatile at) = 3
rank modifier.Private = 4
rank modifier.Abstract = 5
rank modifier.Open = 6
rank modifier.Override = 7
rank modifier.Const = 8

abbrev pub annotation_glyphs : Word → Glyphs
annotation_glyphs word = g.Mark m.At ∷ g.Word word ∷ g.Blank ∷ []

abbrev pub word_glyphs : Word → Glyphs
word_glyphs word = g.Word word ∷ g.Blank ∷ []

abbrev pub modifier_glyphs : KModifierKind → Glyphs
modifier_glyphs (modifier.JvmStatic at) = annotation_glyphs w.JvmStatic
modifier_glyphs (modifier.JvmField at) = annotation_glyphs w.JvmField
modifier_glyphs (modifier.Synchronized at) = annotation_glyphs w.SynchronizedMethod
modifier_glyphs (modifier.Volatile at) = annotation_glyphs w.Volatile
modifier_glyphs modifier.Private = word_glyphs w.Private
modifier_glyphs modifier.Abstract = word_glyphs w.Abstract
modifier_glyphs modifier.Open = word_glyphs w.Open
modifier_glyphs modifier.Override = word_glyphs w.Override
modifier_glyphs modifier.Const = word_glyphs w.Const

abbrev pub if_ranked : ℕ → KModifier → Roles
if_ranked r x = if nat_eq (rank x.kind) r then fixed (modifier_glyphs x.kind) else []

-- the modifiers of a rank
abbrev pub ranked : List KModifier → ℕ → Roles
ranked xs r = joined (map (if_ranked r) xs)

-- the modifiers in their order, each with a blank behind it
abbrev pub modifiers_roles : List KModifier → Roles
modifiers_roles xs =
    ranked xs 0 ++ ranked xs 1 ++ ranked xs 2 ++ ranked xs 3 ++ ranked xs 4 ++ ranked xs 5 ++ ranked xs 6 ++ ranked xs 7 ++ ranked xs 8

abbrev pub param_roles : KParam → Roles
param_roles x = name x.name.name ++ fixed has_type ++ type_roles x.kind

abbrev pub params_roles : KParams → Roles
params_roles x = in_round (listed comma (map param_roles x.items))

abbrev pub result_roles : Option KTyped → Roles
result_roles None = []
result_roles (Some x) = fixed has_type ++ type_roles x.kind

abbrev pub value_roles : Option KValue → Roles
value_roles None = []
value_roles (Some x) = fixed assigns ++ expression_roles x.tree free_place

-- `private set` on a line of its own, one level deeper
abbrev pub setter_roles : Option KPrivateSet → Roles
setter_roles x = if_there x (g.Deeper ∷ g.Line ∷ g.Word w.Private ∷ g.Blank ∷ g.Word w.Set ∷ g.Shallower ∷ [])

abbrev pub body_roles : Option KBlock → Roles
body_roles None = []
body_roles (Some x) = block_roles x

abbrev pub called_word : KCalled → Glyph
called_word called.This = g.Keyword k.This
called_word called.Super = g.Keyword k.Super

-- a blank, `:`, a blank
abbrev pub above : Glyphs
above = g.Blank ∷ g.Mark m.Colon ∷ g.Blank ∷ []

abbrev pub delegation_roles : Option KDelegation → Roles
delegation_roles None = []
delegation_roles (Some x) = fixed (above ++ called_word x.called ∷ []) ++ arguments_roles (map expression_roles x.arguments)

abbrev pub member_by : KMember-F Roles → Roles
member_by (KMember-F.Commented comments member) = comment_roles comments ++ member
member_by (KMember-F.Property modifiers declared value setter) = modifiers_roles modifiers ++ declared_roles declared ++ value_roles value ++ setter_roles setter
member_by (KMember-F.Init at body) = fixed (g.Word w.Init ∷ []) ++ block_roles body
member_by (KMember-F.Function modifiers at x params result body) =
    modifiers_roles modifiers ++ fixed (g.Keyword k.Fun ∷ g.Blank ∷ []) ++ name x.name ++ params_roles params ++ result_roles result ++ body_roles body
member_by (KMember-F.Constructor modifiers at params first body) =
    modifiers_roles modifiers ++ fixed (g.Word w.Constructor ∷ []) ++ params_roles params ++ delegation_roles first ++ block_roles body
member_by (KMember-F.Companion at members) = fixed (g.Word w.Companion ∷ g.Blank ∷ g.Keyword k.Object ∷ []) ++ block members

unfoldable pub member_roles : KMember → Roles
member_roles = fold-KMember Roles member_by

-- ---- classes and files

abbrev pub bound_roles : Option KTyped → Roles
bound_roles None = []
bound_roles (Some x) = fixed above ++ type_roles x.kind

abbrev pub type_param_roles : KTypeParam → Roles
type_param_roles x = name x.name.name ++ bound_roles x.bound

abbrev pub type_params_roles : Option KTypeParams → Roles
type_params_roles None = []
type_params_roles (Some x) = in_angles (map type_param_roles x.items)

-- the call of the class above, where it stands
abbrev pub super_call : Option Brackets → Roles
super_call x = if_there x (g.Mark m.OpenRound ∷ g.Mark m.CloseRound ∷ [])

abbrev pub super_roles : KSuper → Roles
super_roles x = type_roles x.kind ++ super_call x.round

abbrev pub supers_roles : Option KSupers → Roles
supers_roles None = []
supers_roles (Some x) = fixed above ++ listed comma (map super_roles x.items)

abbrev pub class_words : KClassWord → Glyphs
class_words class.Class = g.Keyword k.Class ∷ g.Blank ∷ []
class_words class.Interface = g.Keyword k.Interface ∷ g.Blank ∷ []
class_words (class.FunClass at) = g.Keyword k.Fun ∷ g.Blank ∷ g.Keyword k.Class ∷ g.Blank ∷ []
class_words (class.FunInterface at) = g.Keyword k.Fun ∷ g.Blank ∷ g.Keyword k.Interface ∷ g.Blank ∷ []

unfoldable pub class_roles : KClass → Roles
class_roles x =
    comment_roles x.comments ++ modifiers_roles x.modifiers ++ fixed (class_words x.word) ++ name x.name.name ++ type_params_roles x.params
    ++ supers_roles x.supers ++ block (map member_roles x.members)

abbrev pub package_line : KPackage → Roles
package_line x = fixed (g.Keyword k.Package ∷ g.Blank ∷ []) ++ qualified_roles x.name

abbrev pub import_line : KImport → Roles
import_line x = fixed (g.Word w.Import ∷ g.Blank ∷ []) ++ qualified_roles x.name ++ fixed (g.Line ∷ [])

-- the empty line before a part, unless it is the first
abbrev pub empty_line : Bool → Roles
empty_line true = []
empty_line false = fixed (g.Line ∷ [])

abbrev pub package_part : Option KPackage → Roles
package_part None = []
package_part (Some x) = package_line x ++ fixed (g.Line ∷ [])

abbrev pub imports_part : Bool → List KImport → Roles
imports_part first [] = []
imports_part first (x ∷ xs) = empty_line first ++ joined (map import_line (x ∷ xs))

abbrev pub class_part : Bool → KClass → Roles
class_part first x = empty_line first ++ class_roles x ++ fixed (g.Line ∷ [])

abbrev pub classes_part : Bool → List KClass → Roles
classes_part first [] = []
classes_part first (x ∷ xs) = class_part first x ++ joined (map (class_part false) xs)

abbrev pub is_absent : {A : Type 0} → Option A → Bool
is_absent None = true
is_absent (Some x) = false

-- neither a package line nor an import
abbrev pub is_headless : Option KPackage → List KImport → Bool
is_headless None [] = true
is_headless None (x ∷ xs) = false
is_headless (Some x) xs = false

-- the package line, the imports and each class, with an empty line between them
unfoldable pub file_roles : KFile → Roles
file_roles x = package_part x.package ++ imports_part (is_absent x.package) x.imports ++ classes_part (is_headless x.package x.imports) x.classes
