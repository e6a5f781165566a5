-- The tree that the canonical text of a tree is read as: with the parentheses that the text adds, with modifiers in their order, without
-- comments, and with each token at the place of what was made. And which trees have a text that is read at all.
use Rattle.std.specs.Prelude.{◌&&◌, not, ℕ, zero, suc, ◌+◌, max, nat_lt, length, Bool, true, false, if◌then◌else◌, List, [], ◌∷◌, map, Option, Some, None, codes, bytes_eq}
use Rattle.std.specs.Option.{option_map}
use Rattle.kotlin_tree.specs.declared.places.Position.{Position}
use Rattle.kotlin_tree.specs.declared.types.KName.{KName}
use Rattle.kotlin_tree.specs.declared.types.KDotted.{KDotted}
use Rattle.kotlin_tree.specs.declared.types.KQualified.{KQualified}
use Rattle.kotlin_tree.specs.declared.types.KTypeArguments.{KTypeArguments}
use Rattle.kotlin_tree.specs.declared.types.KType.{KType, out-KType, fold-KType}
use Rattle.kotlin_tree.specs.declared.types.KType.TheOpen.{KType-F}
use Rattle.kotlin_tree.specs.declared.types.KType.TheVariants as ty
use Rattle.kotlin_tree.specs.declared.expressions.KLambdaNames.{KLambdaNames}
use Rattle.kotlin_tree.specs.declared.expressions.KExpr.{KExpr, map-KExpr, fold-KExpr}
use Rattle.kotlin_tree.specs.declared.expressions.KExpr.TheOpen.{KExpr-F, KStmt-F, KChoice-F, KBranch-F, KCatch-F}
use Rattle.kotlin_tree.specs.declared.expressions.KExpr.TheFolds.{map-KStmt, map-KChoice, map-KBranch, map-KCatch}
use Rattle.kotlin_tree.specs.declared.expressions.KExpr.TheVariants as e
use Rattle.kotlin_tree.specs.declared.expressions.KChoice.{KChoice, roll-KChoice, fold-KChoice}
use Rattle.kotlin_tree.specs.declared.statements.KDeclared.{KDeclared}
use Rattle.kotlin_tree.specs.declared.statements.KStmt.{KStmt, fold-KStmt}
use Rattle.kotlin_tree.specs.declared.statements.KStmt.TheVariants as s
use Rattle.kotlin_tree.specs.declared.statements.KBranch.{KBranch, roll-KBranch, fold-KBranch}
use Rattle.kotlin_tree.specs.declared.statements.KCatch.{KCatch, roll-KCatch, fold-KCatch}
use Rattle.kotlin_tree.specs.UpToPlaces.{made, made_brackets, made_head, made_else, made_class, made_super, made_finally, unplaced_name, unplaced_qualified, unplaced_label, unplaced_target}
use Rattle.kotlin_layout.specs.declared.parens.Place.{Place}
use Rattle.kotlin_layout.specs.declared.parens.Neighbor.{Neighbor}
use Rattle.kotlin_layout.specs.declared.parens.Neighbor.TheVariants as beside
use Rattle.kotlin_layout.specs.Parens.{needs_by, postfix_level, infix_level, is_level, as_level, free_place, list_place, operand_place, left_place, right_place, prefix_place}
use Rattle.kotlin_layout.specs.Roles.{Roles}
use Rattle.kotlin_layout.specs.Shown.{Placed, type_by, expression_by, statement_by, choice_by, branch_by, catch_by}
use Rattle.kotlin_grammar.specs.Depth.{max_depth}
use Rattle.kotlin_grammar.specs.Meaning.{is_target}

-- ---- what a part of a text is: its roles, the tree that it is read as, how deep that is, and that it is read

pub record Piece (T : Type 0) : Type 0 where
  pub roles : Roles
  pub tree : T
  pub depth : ℕ
  pub readable : Bool
  -- an `if` that stands as a statement
  pub is_if : Bool

-- an expression, by its place
pub record Operand : Type 0 where
  pub roles : Place → Roles
  pub tree : Place → KExpr
  pub depth : Place → ℕ
  pub readable : Place → Bool

-- no deeper tree is read
abbrev pub fits : ℕ → Bool
fits d = nat_lt d max_depth

abbrev pub deepest : ℕ → List ℕ → ℕ
deepest d [] = d
deepest d (x ∷ xs) = deepest (max x d) xs

-- the places of the commas between so many
abbrev pub commas_behind : {A : Type 0} → List A → List Position
commas_behind [] = []
commas_behind (x ∷ xs) = made ∷ commas_behind xs

abbrev pub commas_of : {A : Type 0} → List A → List Position
commas_of [] = []
commas_of (x ∷ xs) = commas_behind xs

abbrev pub is_some : {A : Type 0} → List A → Bool
is_some [] = false
is_some (x ∷ xs) = true

module _ {T : Type 0} where
  abbrev pub roles_of : Piece T → Roles
  roles_of x = x.roles

  abbrev pub tree_of : Piece T → T
  tree_of x = x.tree

  abbrev pub depth_of : Piece T → ℕ
  depth_of x = x.depth

  abbrev pub all_readable : List (Piece T) → Bool
  all_readable [] = true
  all_readable (x ∷ xs) = x.readable && all_readable xs

abbrev pub roles_at : Operand → Placed
roles_at x = x.roles

abbrev pub tree_at : Place → Operand → KExpr
tree_at p x = x.tree p

abbrev pub depth_at : Place → Operand → ℕ
depth_at p x = x.depth p

abbrev pub all_at : Place → List Operand → Bool
all_at p [] = true
all_at p (x ∷ xs) = x.readable p && all_at p xs

-- ---- types

abbrev pub last_behind : List ℕ → List KDotted → List ℕ
last_behind n [] = n
last_behind n (x ∷ xs) = last_behind x.name.name xs

-- `run` before `{` begins a block
abbrev pub is_calm : KQualified → Bool
is_calm x = not (bytes_eq (last_behind x.first.name x.rest) (codes "run"))

abbrev pub asked_if : Option Position → Option Position
asked_if question = option_map (λ (x : Position). made) question

abbrev pub type_piece_by : KType-F (Piece KType) → Piece KType
type_piece_by (KType-F.Plain x question variable) = record {
  roles = type_by (KType-F.Plain x question variable);
  tree = ty.Plain (unplaced_qualified x) (asked_if question) false;
  depth = 1;
  readable = is_calm x;
  is_if = false;
}
type_piece_by (KType-F.Applied x angles arguments commas question) = record {
  roles = type_by (KType-F.Applied x angles (map roles_of arguments) commas question);
  tree = ty.Applied (unplaced_qualified x) made_brackets (map tree_of arguments) (commas_of arguments) (asked_if question);
  depth = suc (deepest 0 (map depth_of arguments));
  readable = is_some arguments && all_readable arguments && fits (deepest 0 (map depth_of arguments));
  is_if = false;
}

unfoldable pub type_piece : KType → Piece KType
type_piece = fold-KType (Piece KType) type_piece_by

abbrev pub type_pieces : List KType → List (Piece KType)
type_pieces xs = map type_piece xs

abbrev pub arguments_tree : KTypeArguments → KTypeArguments
arguments_tree x = record { angles = made_brackets; items = map tree_of (type_pieces x.items); commas = commas_of (type_pieces x.items) }

abbrev pub arguments_depth : KTypeArguments → ℕ
arguments_depth x = deepest 0 (map depth_of (type_pieces x.items))

abbrev pub arguments_readable : KTypeArguments → Bool
arguments_readable x = is_some (type_pieces x.items) && all_readable (type_pieces x.items)

-- ---- expressions

abbrev pub arguments_at : List Operand → List KExpr
arguments_at xs = map (tree_at list_place) xs

abbrev pub deepest_at : List Operand → ℕ
deepest_at xs = deepest 0 (map (depth_at list_place) xs)

abbrev pub block_depth : List (Piece KStmt) → ℕ
block_depth xs = suc (deepest 0 (map depth_of xs))

abbrev pub block_readable : List (Piece KStmt) → Bool
block_readable xs = all_readable xs && fits (deepest 0 (map depth_of xs))

-- a name with dots is read as an expression first
abbrev pub is_chain : KQualified → Bool
is_chain x = nat_lt (length x.rest) max_depth

abbrev pub names_tree : List KName → KLambdaNames
names_tree [] = record { items = []; commas = []; arrow = None }
names_tree (x ∷ xs) = record { items = map unplaced_name (x ∷ xs); commas = commas_behind xs; arrow = Some made }

abbrev pub is_less_neighbor : Neighbor → Bool
is_less_neighbor beside.Less = true
is_less_neighbor _ = false

abbrev pub is_prefix_neighbor : Neighbor → Bool
is_prefix_neighbor (beside.Prefix o) = true
is_prefix_neighbor _ = false

-- whether `<` may stand behind what stands at a place
abbrev pub may_be_less : Place → Bool
may_be_less p = if nat_lt 0 p.level then (if is_less_neighbor p.neighbor then true else (if is_prefix_neighbor p.neighbor then nat_lt 9 p.level else false)) else false

abbrev pub name_of_type : KType-F KType → KQualified
name_of_type (KType-F.Plain x question variable) = x
name_of_type (KType-F.Applied x angles arguments commas question) = x

-- as it is at a place
abbrev pub tree_by : Place → KExpr-F Operand (Piece KStmt) (Piece KChoice) (Piece KBranch) (Piece KCatch) → KExpr
tree_by p (KExpr-F.Literal x at) = e.Literal x made
tree_by p (KExpr-F.Name x) = e.Name (unplaced_name x)
tree_by p (KExpr-F.This at) = e.This made
tree_by p (KExpr-F.Paren round inner) = e.Paren made_brackets (inner.tree free_place)
tree_by p (KExpr-F.Call x types round arguments commas) = e.Call (unplaced_name x) (option_map arguments_tree types) made_brackets (arguments_at arguments) (commas_of arguments)
tree_by p (KExpr-F.SuperCall at x round arguments commas) = e.SuperCall made_super (unplaced_name x) made_brackets (arguments_at arguments) (commas_of arguments)
tree_by p (KExpr-F.Field object dot x) = e.Field (object.tree (operand_place postfix_level p)) made (unplaced_name x)
tree_by p (KExpr-F.Method object dot x types round arguments commas) =
    e.Method (object.tree (operand_place postfix_level p)) made (unplaced_name x) (option_map arguments_tree types) made_brackets (arguments_at arguments) (commas_of arguments)
tree_by p (KExpr-F.Element array square index) = e.Element (array.tree (operand_place postfix_level p)) made_brackets (index.tree free_place)
tree_by p (KExpr-F.Postfix operand o at) = e.Postfix (operand.tree (operand_place postfix_level p)) o made
tree_by p (KExpr-F.Prefix o at operand) = e.Prefix o made (operand.tree (prefix_place o p))
tree_by p (KExpr-F.As value at kind) = e.As (value.tree (operand_place as_level p)) made (tree_of (type_piece kind))
tree_by p (KExpr-F.Is value at kind) = e.Is (value.tree (operand_place is_level p)) made (tree_of (type_piece kind))
tree_by p (KExpr-F.Binary left o at right) = e.Binary (left.tree (left_place o p)) o made (right.tree (right_place o p))
tree_by p (KExpr-F.IfValue at condition value else_at other) = e.IfValue made_head (condition.tree free_place) (value.tree (operand_place zero p)) made (other.tree (operand_place zero p))
tree_by p (KExpr-F.WhenValue at subject curly choices else_at other) = e.WhenValue made_head (subject.tree free_place) made_brackets (map tree_of choices) made_else (other.tree free_place)
tree_by p (KExpr-F.Lambda face curly names statements) = e.Lambda (tree_of (type_piece face)) made_brackets (names_tree names.items) (map tree_of statements)
tree_by p (KExpr-F.Run at curly statements) = e.Run made made_brackets (map tree_of statements)
tree_by p (KExpr-F.Class x at) = e.Class (unplaced_qualified x) made_class

-- how deep the deepest of its parts is
abbrev pub depth_by : Place → KExpr-F Operand (Piece KStmt) (Piece KChoice) (Piece KBranch) (Piece KCatch) → ℕ
depth_by p (KExpr-F.Literal x at) = 0
depth_by p (KExpr-F.Name x) = 0
depth_by p (KExpr-F.This at) = 0
depth_by p (KExpr-F.Paren round inner) = inner.depth free_place
depth_by p (KExpr-F.Call x None round arguments commas) = deepest_at arguments
depth_by p (KExpr-F.Call x (Some types) round arguments commas) = max (deepest_at arguments) (arguments_depth types)
depth_by p (KExpr-F.SuperCall at x round arguments commas) = deepest_at arguments
depth_by p (KExpr-F.Field object dot x) = object.depth (operand_place postfix_level p)
depth_by p (KExpr-F.Method object dot x None round arguments commas) = max (deepest_at arguments) (object.depth (operand_place postfix_level p))
depth_by p (KExpr-F.Method object dot x (Some types) round arguments commas) = max (max (deepest_at arguments) (arguments_depth types)) (object.depth (operand_place postfix_level p))
depth_by p (KExpr-F.Element array square index) = max (index.depth free_place) (array.depth (operand_place postfix_level p))
depth_by p (KExpr-F.Postfix operand o at) = operand.depth (operand_place postfix_level p)
depth_by p (KExpr-F.Prefix o at operand) = operand.depth (prefix_place o p)
depth_by p (KExpr-F.As value at kind) = max (depth_of (type_piece kind)) (value.depth (operand_place as_level p))
depth_by p (KExpr-F.Is value at kind) = max (depth_of (type_piece kind)) (value.depth (operand_place is_level p))
depth_by p (KExpr-F.Binary left o at right) = max (right.depth (right_place o p)) (left.depth (left_place o p))
depth_by p (KExpr-F.IfValue at condition value else_at other) = max (max (other.depth (operand_place zero p)) (value.depth (operand_place zero p))) (condition.depth free_place)
depth_by p (KExpr-F.WhenValue at subject curly choices else_at other) = max (max (other.depth free_place) (deepest 0 (map depth_of choices))) (subject.depth free_place)
depth_by p (KExpr-F.Lambda face curly names statements) = max (deepest 0 (map depth_of statements)) (depth_of (type_piece face))
depth_by p (KExpr-F.Run at curly statements) = block_depth statements
depth_by p (KExpr-F.Class x at) = 0

abbrev pub types_readable : Option KTypeArguments → Bool
types_readable None = true
types_readable (Some x) = arguments_readable x

-- Its parts are read.
abbrev pub parts_by : Place → KExpr-F Operand (Piece KStmt) (Piece KChoice) (Piece KBranch) (Piece KCatch) → Bool
parts_by p (KExpr-F.Literal x at) = true
parts_by p (KExpr-F.Name x) = true
parts_by p (KExpr-F.This at) = true
parts_by p (KExpr-F.Paren round inner) = inner.readable free_place
parts_by p (KExpr-F.Call x types round arguments commas) = types_readable types && all_at list_place arguments
parts_by p (KExpr-F.SuperCall at x round arguments commas) = all_at list_place arguments
parts_by p (KExpr-F.Field object dot x) = object.readable (operand_place postfix_level p)
parts_by p (KExpr-F.Method object dot x types round arguments commas) = object.readable (operand_place postfix_level p) && types_readable types && all_at list_place arguments
parts_by p (KExpr-F.Element array square index) = array.readable (operand_place postfix_level p) && index.readable free_place
parts_by p (KExpr-F.Postfix operand o at) = operand.readable (operand_place postfix_level p)
parts_by p (KExpr-F.Prefix o at operand) = operand.readable (prefix_place o p)
parts_by p (KExpr-F.As value at kind) = value.readable (operand_place as_level p) && (type_piece kind).readable
parts_by p (KExpr-F.Is value at kind) = value.readable (operand_place is_level p) && (type_piece kind).readable
parts_by p (KExpr-F.Binary left o at right) = left.readable (left_place o p) && right.readable (right_place o p)
parts_by p (KExpr-F.IfValue at condition value else_at other) = condition.readable free_place && value.readable (operand_place zero p) && other.readable (operand_place zero p)
parts_by p (KExpr-F.WhenValue at subject curly choices else_at other) = subject.readable free_place && all_readable choices && other.readable free_place
parts_by p (KExpr-F.Lambda face curly names statements) = (type_piece face).readable && is_chain (name_of_type (out-KType face)) && all_readable statements
parts_by p (KExpr-F.Run at curly statements) = block_readable statements
parts_by p (KExpr-F.Class x at) = is_chain x && not (may_be_less p)

abbrev pub bare_readable : Place → KExpr-F Operand (Piece KStmt) (Piece KChoice) (Piece KBranch) (Piece KCatch) → Bool
bare_readable p x = parts_by p x && fits (depth_by p x)

module _ (x : KExpr-F Operand (Piece KStmt) (Piece KChoice) (Piece KBranch) (Piece KCatch)) where
  abbrev pub tree_placed : Place → KExpr
  tree_placed p = if needs_by p x then e.Paren made_brackets (tree_by free_place x) else tree_by p x

  abbrev pub depth_placed : Place → ℕ
  depth_placed p = if needs_by p x then suc (suc (depth_by free_place x)) else suc (depth_by p x)

  abbrev pub readable_placed : Place → Bool
  readable_placed p = if needs_by p x then (bare_readable free_place x && fits (suc (depth_by free_place x))) else bare_readable p x

abbrev pub operand_by : KExpr-F Operand (Piece KStmt) (Piece KChoice) (Piece KBranch) (Piece KCatch) → Operand
operand_by x = record {
  roles = expression_by (map-KExpr Operand (Piece KStmt) (Piece KChoice) (Piece KBranch) (Piece KCatch) Placed Roles Roles Roles Roles roles_at roles_of roles_of roles_of roles_of x);
  tree = tree_placed x;
  depth = depth_placed x;
  readable = readable_placed x;
}

-- ---- statements

abbrev pub declared_tree : KDeclared → KDeclared
declared_tree x = record { word = x.word; at = made; name = unplaced_name x.name; colon = made; kind = tree_of (type_piece x.kind) }

abbrev pub statement_tree : KStmt-F Operand (Piece KStmt) (Piece KChoice) (Piece KBranch) (Piece KCatch) → KStmt
statement_tree (KStmt-F.Commented comments statement) = statement.tree
statement_tree (KStmt-F.Declared x) = s.Declared (declared_tree x)
statement_tree (KStmt-F.Local x at value) = s.Local (declared_tree x) made (value.tree free_place)
statement_tree (KStmt-F.Expression x) = s.Expression (x.tree free_place)
statement_tree (KStmt-F.Assign target at value) = s.Assign (target.tree (operand_place postfix_level free_place)) made (value.tree free_place)
statement_tree (KStmt-F.While label at condition curly statements) = s.While (option_map unplaced_label label) made_head (condition.tree free_place) made_brackets (map tree_of statements)
statement_tree (KStmt-F.DoWhile label do_at curly statements at condition) = s.DoWhile (option_map unplaced_label label) made made_brackets (map tree_of statements) made_head (condition.tree free_place)
statement_tree (KStmt-F.For label at x in_at values curly statements) = s.For (option_map unplaced_label label) made_head (unplaced_name x) made (values.tree free_place) made_brackets (map tree_of statements)
statement_tree (KStmt-F.ForRange label at x in_at first until_at end curly statements) =
    s.ForRange (option_map unplaced_label label) made_head (unplaced_name x) made (first.tree (operand_place infix_level free_place)) made (end.tree (operand_place (infix_level + 1) free_place)) made_brackets (map tree_of statements)
statement_tree (KStmt-F.If at condition curly statements) = s.If made_head (condition.tree free_place) made_brackets (map tree_of statements)
statement_tree (KStmt-F.IfElse at condition curly statements else_at other_curly others) = s.IfElse made_head (condition.tree free_place) made_brackets (map tree_of statements) made made_brackets (map tree_of others)
statement_tree (KStmt-F.IfElseIf at condition curly statements else_at other) = s.IfElseIf made_head (condition.tree free_place) made_brackets (map tree_of statements) made other.tree
statement_tree (KStmt-F.When at subject curly branches else_at other_curly others) = s.When made_head (subject.tree free_place) made_brackets (map tree_of branches) made_else made_brackets (map tree_of others)
statement_tree (KStmt-F.Break at target) = s.Break made (option_map unplaced_target target)
statement_tree (KStmt-F.Continue at target) = s.Continue made (option_map unplaced_target target)
statement_tree (KStmt-F.Return at target) = s.Return made (option_map unplaced_target target)
statement_tree (KStmt-F.Give at target value) = s.Give made (option_map unplaced_target target) (value.tree free_place)
statement_tree (KStmt-F.Throw at value) = s.Throw made (value.tree free_place)
statement_tree (KStmt-F.Try at curly statements catches) = s.Try made made_brackets (map tree_of statements) (map tree_of catches)
statement_tree (KStmt-F.TryFinally at curly statements catches last_at last) = s.TryFinally made made_brackets (map tree_of statements) (map tree_of catches) made_finally (map tree_of last)
statement_tree (KStmt-F.Synchronized at lock curly statements) = s.Synchronized made_head (lock.tree free_place) made_brackets (map tree_of statements)

-- how deep the deepest of its parts is
abbrev pub statement_depth : KStmt-F Operand (Piece KStmt) (Piece KChoice) (Piece KBranch) (Piece KCatch) → ℕ
statement_depth (KStmt-F.Commented comments statement) = statement.depth
statement_depth (KStmt-F.Declared x) = depth_of (type_piece x.kind)
statement_depth (KStmt-F.Local x at value) = max (value.depth free_place) (depth_of (type_piece x.kind))
statement_depth (KStmt-F.Expression x) = x.depth free_place
statement_depth (KStmt-F.Assign target at value) = max (value.depth free_place) (target.depth (operand_place postfix_level free_place))
statement_depth (KStmt-F.While label at condition curly statements) = max (block_depth statements) (condition.depth free_place)
statement_depth (KStmt-F.DoWhile label do_at curly statements at condition) = max (condition.depth free_place) (block_depth statements)
statement_depth (KStmt-F.For label at x in_at values curly statements) = max (block_depth statements) (values.depth free_place)
statement_depth (KStmt-F.ForRange label at x in_at first until_at end curly statements) =
    max (max (block_depth statements) (end.depth (operand_place (infix_level + 1) free_place))) (first.depth (operand_place infix_level free_place))
statement_depth (KStmt-F.If at condition curly statements) = max (block_depth statements) (condition.depth free_place)
statement_depth (KStmt-F.IfElse at condition curly statements else_at other_curly others) = max (max (block_depth others) (block_depth statements)) (condition.depth free_place)
statement_depth (KStmt-F.IfElseIf at condition curly statements else_at other) = max (max other.depth (block_depth statements)) (condition.depth free_place)
statement_depth (KStmt-F.When at subject curly branches else_at other_curly others) = max (max (block_depth others) (deepest 0 (map depth_of branches))) (subject.depth free_place)
statement_depth (KStmt-F.Break at target) = 0
statement_depth (KStmt-F.Continue at target) = 0
statement_depth (KStmt-F.Return at target) = 0
statement_depth (KStmt-F.Give at target value) = value.depth free_place
statement_depth (KStmt-F.Throw at value) = value.depth free_place
statement_depth (KStmt-F.Try at curly statements catches) = max (deepest 0 (map depth_of catches)) (block_depth statements)
statement_depth (KStmt-F.TryFinally at curly statements catches last_at last) = max (max (block_depth last) (deepest 0 (map depth_of catches))) (block_depth statements)
statement_depth (KStmt-F.Synchronized at lock curly statements) = max (block_depth statements) (lock.depth free_place)

-- Its parts are read.
abbrev pub statement_parts : KStmt-F Operand (Piece KStmt) (Piece KChoice) (Piece KBranch) (Piece KCatch) → Bool
statement_parts (KStmt-F.Commented comments statement) = statement.readable
statement_parts (KStmt-F.Declared x) = (type_piece x.kind).readable
statement_parts (KStmt-F.Local x at value) = (type_piece x.kind).readable && value.readable free_place
statement_parts (KStmt-F.Expression x) = x.readable free_place
statement_parts (KStmt-F.Assign target at value) =
    target.readable (operand_place postfix_level free_place) && (is_target (target.tree (operand_place postfix_level free_place))) && value.readable free_place
statement_parts (KStmt-F.While label at condition curly statements) = condition.readable free_place && block_readable statements
statement_parts (KStmt-F.DoWhile label do_at curly statements at condition) = condition.readable free_place && block_readable statements
statement_parts (KStmt-F.For label at x in_at values curly statements) = values.readable free_place && block_readable statements
statement_parts (KStmt-F.ForRange label at x in_at first until_at end curly statements) =
    first.readable (operand_place infix_level free_place) && end.readable (operand_place (infix_level + 1) free_place) && block_readable statements
statement_parts (KStmt-F.If at condition curly statements) = condition.readable free_place && block_readable statements
statement_parts (KStmt-F.IfElse at condition curly statements else_at other_curly others) = condition.readable free_place && block_readable statements && block_readable others
statement_parts (KStmt-F.IfElseIf at condition curly statements else_at other) = condition.readable free_place && block_readable statements && other.readable && other.is_if
statement_parts (KStmt-F.When at subject curly branches else_at other_curly others) = subject.readable free_place && all_readable branches && block_readable others
statement_parts (KStmt-F.Break at target) = true
statement_parts (KStmt-F.Continue at target) = true
statement_parts (KStmt-F.Return at target) = true
statement_parts (KStmt-F.Give at target value) = value.readable free_place
statement_parts (KStmt-F.Throw at value) = value.readable free_place
statement_parts (KStmt-F.Try at curly statements catches) = block_readable statements && all_readable catches
statement_parts (KStmt-F.TryFinally at curly statements catches last_at last) = block_readable statements && all_readable catches && block_readable last
statement_parts (KStmt-F.Synchronized at lock curly statements) = lock.readable free_place && block_readable statements

abbrev pub is_if_by : KStmt-F Operand (Piece KStmt) (Piece KChoice) (Piece KBranch) (Piece KCatch) → Bool
is_if_by (KStmt-F.If at condition curly statements) = true
is_if_by (KStmt-F.IfElse at condition curly statements else_at other_curly others) = true
is_if_by (KStmt-F.IfElseIf at condition curly statements else_at other) = true
is_if_by _ = false

abbrev pub statement_piece : KStmt-F Operand (Piece KStmt) (Piece KChoice) (Piece KBranch) (Piece KCatch) → Piece KStmt
statement_piece (KStmt-F.Commented comments inner) = record {
  roles = statement_by (KStmt-F.Commented comments inner.roles);
  tree = inner.tree;
  depth = inner.depth;
  readable = inner.readable;
  is_if = false;
}
statement_piece x = record {
  roles = statement_by (map-KStmt Operand (Piece KStmt) (Piece KChoice) (Piece KBranch) (Piece KCatch) Placed Roles Roles Roles Roles roles_at roles_of roles_of roles_of roles_of x);
  tree = statement_tree x;
  depth = suc (statement_depth x);
  readable = statement_parts x && fits (statement_depth x);
  is_if = is_if_by x;
}

abbrev pub choice_piece : KChoice-F Operand (Piece KStmt) (Piece KChoice) (Piece KBranch) (Piece KCatch) → Piece KChoice
choice_piece x = record {
  roles = choice_by (map-KChoice Operand (Piece KStmt) (Piece KChoice) (Piece KBranch) (Piece KCatch) Placed Roles Roles Roles Roles roles_at roles_of roles_of roles_of roles_of x);
  tree = roll-KChoice (record { labels = arguments_at x.labels; commas = commas_of x.labels; arrow = made; value = x.value.tree free_place });
  depth = suc (max (x.value.depth free_place) (deepest_at x.labels));
  readable = is_some x.labels && all_at list_place x.labels && x.value.readable free_place && fits (max (x.value.depth free_place) (deepest_at x.labels));
  is_if = false;
}

abbrev pub branch_piece : KBranch-F Operand (Piece KStmt) (Piece KChoice) (Piece KBranch) (Piece KCatch) → Piece KBranch
branch_piece x = record {
  roles = branch_by (map-KBranch Operand (Piece KStmt) (Piece KChoice) (Piece KBranch) (Piece KCatch) Placed Roles Roles Roles Roles roles_at roles_of roles_of roles_of roles_of x);
  tree = roll-KBranch (record { labels = arguments_at x.labels; commas = commas_of x.labels; arrow = made; curly = made_brackets; statements = map tree_of x.statements });
  depth = suc (max (block_depth x.statements) (deepest_at x.labels));
  readable = is_some x.labels && all_at list_place x.labels && block_readable x.statements && fits (max (block_depth x.statements) (deepest_at x.labels));
  is_if = false;
}

abbrev pub catch_piece : KCatch-F Operand (Piece KStmt) (Piece KChoice) (Piece KBranch) (Piece KCatch) → Piece KCatch
catch_piece x = record {
  roles = catch_by (map-KCatch Operand (Piece KStmt) (Piece KChoice) (Piece KBranch) (Piece KCatch) Placed Roles Roles Roles Roles roles_at roles_of roles_of roles_of roles_of x);
  tree = roll-KCatch (record { at = made_head; name = unplaced_name x.name; colon = made; kind = tree_of (type_piece x.kind); curly = made_brackets; statements = map tree_of x.statements });
  depth = suc (max (block_depth x.statements) (depth_of (type_piece x.kind)));
  readable = (type_piece x.kind).readable && block_readable x.statements && fits (max (block_depth x.statements) (depth_of (type_piece x.kind)));
  is_if = false;
}

unfoldable pub operand : KExpr → Operand
operand = fold-KExpr Operand (Piece KStmt) (Piece KChoice) (Piece KBranch) (Piece KCatch) operand_by statement_piece choice_piece branch_piece catch_piece

unfoldable pub statement : KStmt → Piece KStmt
statement = fold-KStmt Operand (Piece KStmt) (Piece KChoice) (Piece KBranch) (Piece KCatch) operand_by statement_piece choice_piece branch_piece catch_piece

unfoldable pub choice_shown : KChoice → Piece KChoice
choice_shown = fold-KChoice Operand (Piece KStmt) (Piece KChoice) (Piece KBranch) (Piece KCatch) operand_by statement_piece choice_piece branch_piece catch_piece

unfoldable pub branch_shown : KBranch → Piece KBranch
branch_shown = fold-KBranch Operand (Piece KStmt) (Piece KChoice) (Piece KBranch) (Piece KCatch) operand_by statement_piece choice_piece branch_piece catch_piece

unfoldable pub catch_shown : KCatch → Piece KCatch
catch_shown = fold-KCatch Operand (Piece KStmt) (Piece KChoice) (Piece KBranch) (Piece KCatch) operand_by statement_piece choice_piece branch_piece catch_piece
