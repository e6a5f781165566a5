-- Where parentheses are needed.
use Rattle.std.specs.Prelude.{◌≡◌, ℕ, ◌+◌, nat_lt, Bool, true, false, ◌&&◌, ◌||◌, if◌then◌else◌}
use Rattle.kotlin_tree.specs.declared.expressions.KBinary.{KBinary}
use Rattle.kotlin_tree.specs.declared.expressions.KBinary.TheVariants as op
use Rattle.kotlin_tree.specs.declared.expressions.KPrefix.{KPrefix}
use Rattle.kotlin_tree.specs.declared.expressions.KPrefix.TheVariants as prefix
use Rattle.kotlin_tree.specs.declared.expressions.KExpr.{KExpr, out-KExpr}
use Rattle.kotlin_tree.specs.declared.expressions.KExpr.TheOpen.{KExpr-F}
use Rattle.kotlin_layout.specs.declared.parens.Place.{Place}
use Rattle.kotlin_layout.specs.declared.parens.Neighbor.{Neighbor}
use Rattle.kotlin_layout.specs.declared.parens.Neighbor.TheVariants as beside

-- ---- levels: what binds more tightly has a higher one (Kotlin, "Syntax and grammar")

-- an `if` that gives a value
abbrev pub any_level : ℕ
any_level = 0

abbrev pub is_level : ℕ
is_level = 5

abbrev pub infix_level : ℕ
infix_level = 6

abbrev pub as_level : ℕ
as_level = 9

abbrev pub prefix_level : ℕ
prefix_level = 10

-- a primary expression, and what stands behind one
abbrev pub postfix_level : ℕ
postfix_level = 11

abbrev pub level : KBinary → ℕ
level op.OrElse = 1
level op.AndAlso = 2
level op.Equal = 3
level op.NotEqual = 3
level op.Same = 3
level op.NotSame = 3
level op.Less = 4
level op.Greater = 4
level op.LessEqual = 4
level op.GreaterEqual = 4
level op.ShiftLeft = infix_level
level op.ShiftRight = infix_level
level op.ShiftUnsigned = infix_level
level op.BitAnd = infix_level
level op.BitOr = infix_level
level op.BitXor = infix_level
level op.Add = 7
level op.Subtract = 7
level op.Multiply = 8
level op.Divide = 8
level op.Remainder = 8

module _ {A B C D E : Type 0} where
  -- the level of a form
  abbrev pub level_by : KExpr-F A B C D E → ℕ
  level_by (KExpr-F.IfValue at test value else_at other) = any_level
  level_by (KExpr-F.Binary left o at right) = level o
  level_by (KExpr-F.Is value at kind) = is_level
  level_by (KExpr-F.As value at kind) = as_level
  level_by (KExpr-F.Prefix o at inner) = prefix_level
  level_by _ = postfix_level

  abbrev pub is_as_by : KExpr-F A B C D E → Bool
  is_as_by (KExpr-F.As value at kind) = true
  is_as_by _ = false

  abbrev pub is_is_by : KExpr-F A B C D E → Bool
  is_is_by (KExpr-F.Is value at kind) = true
  is_is_by _ = false

-- ---- what would be read with what stands beside it

-- a prefix operator before one that begins with its character
abbrev pub joins : KPrefix → KPrefix → Bool
joins prefix.Plus prefix.Plus = true
joins prefix.Plus prefix.Increment = true
joins prefix.Minus prefix.Minus = true
joins prefix.Minus prefix.Decrement = true
joins prefix.Not prefix.Not = true
joins _ _ = false

abbrev pub is_angle : KBinary → Bool
is_angle op.Less = true
is_angle op.Greater = true
is_angle _ = false

abbrev pub is_less : KBinary → Bool
is_less op.Less = true
is_less _ = false

module _ {A B C D E : Type 0} where
  -- a comparison by `<` or `>`: with a comma between them they may be read as type arguments
  abbrev pub compares_by : KExpr-F A B C D E → Bool
  compares_by (KExpr-F.Binary left o at right) = is_angle o
  compares_by _ = false

  abbrev pub compares_less_by : KExpr-F A B C D E → Bool
  compares_less_by (KExpr-F.Binary left o at right) = is_less o
  compares_less_by _ = false

  abbrev pub joins_prefix_by : KPrefix → KExpr-F A B C D E → Bool
  joins_prefix_by first (KExpr-F.Prefix second at inner) = joins first second
  joins_prefix_by first _ = false

  -- behind a type `<` begins type arguments; between `<` and `>` types may stand
  abbrev pub clashes_by : Neighbor → KExpr-F A B C D E → Bool
  clashes_by beside.Other x = false
  clashes_by (beside.Prefix first) x = joins_prefix_by first x
  clashes_by beside.Less x = is_is_by x
  clashes_by beside.Greater x = compares_less_by x

  -- looser than a place takes, or an `as` that is an operand
  abbrev pub is_looser_by : Place → KExpr-F A B C D E → Bool
  is_looser_by place x = if is_as_by x then nat_lt any_level place.level else nat_lt (level_by x) place.level

  abbrev pub mixes_by : Place → KExpr-F A B C D E → Bool
  mixes_by place x = place.in_list && compares_by x

  -- whether a form stands at a place in parentheses alone
  abbrev pub needs_by : Place → KExpr-F A B C D E → Bool
  needs_by place x = is_looser_by place x || mixes_by place x || clashes_by place.neighbor x

unfoldable pub outer_level : KExpr → ℕ
outer_level x = level_by (out-KExpr x)

unfoldable pub is_as : KExpr → Bool
is_as x = is_as_by (out-KExpr x)

unfoldable pub is_is : KExpr → Bool
is_is x = is_is_by (out-KExpr x)

unfoldable pub compares : KExpr → Bool
compares x = compares_by (out-KExpr x)

unfoldable pub compares_less : KExpr → Bool
compares_less x = compares_less_by (out-KExpr x)

unfoldable pub joins_prefix : KPrefix → KExpr → Bool
joins_prefix first x = joins_prefix_by first (out-KExpr x)

abbrev pub clashes : Neighbor → KExpr → Bool
clashes beside.Other x = false
clashes (beside.Prefix first) x = joins_prefix first x
clashes beside.Less x = is_is x
clashes beside.Greater x = compares_less x

unfoldable pub is_looser : Place → KExpr → Bool
is_looser place x = if is_as x then nat_lt any_level place.level else nat_lt (outer_level x) place.level

abbrev pub mixes : Place → KExpr → Bool
mixes place x = place.in_list && compares x

-- whether an expression stands at a place in parentheses alone
unfoldable pub needs_parens : Place → KExpr → Bool
needs_parens place x = is_looser place x || mixes place x || clashes place.neighbor x

-- ---- places

-- where everything stands as it is: behind an opening bracket, `=`, or a word
abbrev pub free_place : Place
free_place = record { level = any_level; in_list = false; neighbor = beside.Other }

-- between commas
abbrev pub list_place : Place
list_place = record { level = any_level; in_list = true; neighbor = beside.Other }

-- an operand at a level, within the place of the whole
abbrev pub operand_place : ℕ → Place → Place
operand_place l place = record { level = l; in_list = place.in_list; neighbor = beside.Other }

-- what an operator has behind its left operand
abbrev pub behind_left : KBinary → Neighbor
behind_left op.Less = beside.Less
behind_left op.Greater = beside.Greater
behind_left _ = beside.Other

abbrev pub left_place : KBinary → Place → Place
left_place o place = record { level = level o; in_list = place.in_list; neighbor = behind_left o }

-- a right operand binds more tightly
abbrev pub right_level : KBinary → ℕ
right_level o = level o + 1

-- What stands behind the whole stands behind its right operand.
abbrev pub right_place : KBinary → Place → Place
right_place o place = record { level = right_level o; in_list = place.in_list; neighbor = place.neighbor }

abbrev pub prefix_place : KPrefix → Place → Place
prefix_place o place = record { level = prefix_level; in_list = place.in_list; neighbor = beside.Prefix o }
