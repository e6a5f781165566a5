-- The canonical trees of members and classes, and which of them are read.
use Rattle.std.specs.Prelude.{◌&&◌, not, ℕ, nat_eq, Bool, true, false, if◌then◌else◌, List, [], ◌∷◌, ◌++◌, map, Option, Some, None, codes, bytes_eq}
use Rattle.std.specs.Option.{option_map}
use Rattle.kotlin_tree.specs.declared.places.Brackets.{Brackets}
use Rattle.kotlin_tree.specs.declared.expressions.KExpr.{KExpr}
use Rattle.kotlin_tree.specs.declared.statements.KStmt.{KStmt}
use Rattle.kotlin_tree.specs.declared.statements.KBlock.{KBlock}
use Rattle.kotlin_tree.specs.declared.members.KModifier.{KModifier}
use Rattle.kotlin_tree.specs.declared.members.KParam.{KParam}
use Rattle.kotlin_tree.specs.declared.members.KParams.{KParams}
use Rattle.kotlin_tree.specs.declared.members.KTyped.{KTyped}
use Rattle.kotlin_tree.specs.declared.members.KValue.{KValue}
use Rattle.kotlin_tree.specs.declared.members.KPrivateSet.{KPrivateSet}
use Rattle.kotlin_tree.specs.declared.members.KDelegation.{KDelegation}
use Rattle.kotlin_tree.specs.declared.members.KMember.{KMember, map-KMember, fold-KMember}
use Rattle.kotlin_tree.specs.declared.members.KMember.TheOpen.{KMember-F}
use Rattle.kotlin_tree.specs.declared.members.KMember.TheVariants as mb
use Rattle.kotlin_tree.specs.declared.files.KTypeParam.{KTypeParam}
use Rattle.kotlin_tree.specs.declared.files.KTypeParams.{KTypeParams}
use Rattle.kotlin_tree.specs.declared.files.KSuper.{KSuper}
use Rattle.kotlin_tree.specs.declared.files.KSupers.{KSupers}
use Rattle.kotlin_tree.specs.declared.files.KClass.{KClass}
use Rattle.kotlin_tree.specs.UpToPlaces.{made, made_brackets, made_companion, made_private_set, unplaced_name, unplaced_modifier, unplaced_word}
use Rattle.kotlin_layout.specs.Roles.{Roles, fixed, name, block}
use Rattle.kotlin_layout.specs.Parens.{free_place, list_place}
use Rattle.kotlin_layout.specs.Shown.{rank, member_by, member_roles, modifiers_roles, class_words, type_params_roles, supers_roles}
use Rattle.kotlin_canonical_text.specs.Canonical.{Piece, Operand, is_some, roles_of, tree_of, all_readable, all_at, commas_of, arguments_at, block_readable, type_piece, declared_tree, operand, statement}

abbrev pub modifier_at : ℕ → KModifier → List KModifier
modifier_at r x = if nat_eq (rank x.kind) r then unplaced_modifier x ∷ [] else []

-- the modifiers of a rank
abbrev pub modifiers_at : List KModifier → ℕ → List KModifier
modifiers_at [] r = []
modifiers_at (x ∷ xs) r = modifier_at r x ++ modifiers_at xs r

-- the modifiers in their order
abbrev pub modifiers_tree : List KModifier → List KModifier
modifiers_tree xs =
    modifiers_at xs 0 ++ modifiers_at xs 1 ++ modifiers_at xs 2 ++ modifiers_at xs 3 ++ modifiers_at xs 4 ++ modifiers_at xs 5 ++ modifiers_at xs 6 ++ modifiers_at xs 7 ++ modifiers_at xs 8

-- ---- parts of members

abbrev pub param_tree : KParam → KParam
param_tree x = record { name = unplaced_name x.name; colon = made; kind = tree_of (type_piece x.kind) }

abbrev pub params_tree : KParams → KParams
params_tree x = record { round = made_brackets; items = map param_tree x.items; commas = commas_of x.items }

abbrev pub params_readable : List KParam → Bool
params_readable [] = true
params_readable (x ∷ xs) = (type_piece x.kind).readable && params_readable xs

abbrev pub typed_tree : KTyped → KTyped
typed_tree x = record { colon = made; kind = tree_of (type_piece x.kind) }

abbrev pub typed_readable : Option KTyped → Bool
typed_readable None = true
typed_readable (Some x) = (type_piece x.kind).readable

abbrev pub shown_in : KBlock → List (Piece KStmt)
shown_in x = map statement x.statements

abbrev pub block_tree : KBlock → KBlock
block_tree x = record { curly = made_brackets; statements = map tree_of (shown_in x) }

abbrev pub body_readable : Option KBlock → Bool
body_readable None = true
body_readable (Some x) = block_readable (shown_in x)

abbrev pub value_tree : KValue → KValue
value_tree x = record { at = made; tree = (operand x.tree).tree free_place }

abbrev pub value_readable : Option KValue → Bool
value_readable None = true
value_readable (Some x) = (operand x.tree).readable free_place

abbrev pub operands_of : List KExpr → List Operand
operands_of xs = map operand xs

abbrev pub delegation_tree : KDelegation → KDelegation
delegation_tree x =
    record { colon = made; called = x.called; at = made; round = made_brackets; arguments = arguments_at (operands_of x.arguments); commas = commas_of (operands_of x.arguments) }

abbrev pub delegation_readable : Option KDelegation → Bool
delegation_readable None = true
delegation_readable (Some x) = all_at list_place (operands_of x.arguments)

-- ---- members

abbrev pub member_tree : KMember-F (Piece KMember) → KMember
member_tree (KMember-F.Commented comments inner) = inner.tree
member_tree (KMember-F.Property modifiers declared value setter) =
    mb.Property (modifiers_tree modifiers) (declared_tree declared) (option_map value_tree value) (option_map (λ (x : KPrivateSet). made_private_set) setter)
member_tree (KMember-F.Init at body) = mb.Init made (block_tree body)
member_tree (KMember-F.Function modifiers at x params result body) =
    mb.Function (modifiers_tree modifiers) made (unplaced_name x) (params_tree params) (option_map typed_tree result) (option_map block_tree body)
member_tree (KMember-F.Constructor modifiers at params first body) =
    mb.Constructor (modifiers_tree modifiers) made (params_tree params) (option_map delegation_tree first) (block_tree body)
member_tree (KMember-F.Companion at members) = mb.Companion made_companion (map tree_of members)

abbrev pub member_readable : KMember-F (Piece KMember) → Bool
member_readable (KMember-F.Commented comments inner) = inner.readable
member_readable (KMember-F.Property modifiers declared value setter) = (type_piece declared.kind).readable && value_readable value
member_readable (KMember-F.Init at body) = block_readable (shown_in body)
member_readable (KMember-F.Function modifiers at x params result body) = params_readable params.items && typed_readable result && body_readable body
member_readable (KMember-F.Constructor modifiers at params first body) = params_readable params.items && delegation_readable first && block_readable (shown_in body)
member_readable (KMember-F.Companion at members) = all_readable members

abbrev pub member_piece : KMember-F (Piece KMember) → Piece KMember
member_piece x = record {
  roles = member_by (map-KMember (Piece KMember) Roles roles_of x);
  tree = member_tree x;
  depth = 0;
  readable = member_readable x;
  is_if = false;
}

unfoldable pub member : KMember → Piece KMember
member = fold-KMember (Piece KMember) member_piece

-- ---- classes

abbrev pub type_param_tree : KTypeParam → KTypeParam
type_param_tree x = record { name = unplaced_name x.name; bound = option_map typed_tree x.bound }

abbrev pub type_params_readable : List KTypeParam → Bool
type_params_readable [] = true
type_params_readable (x ∷ xs) = typed_readable x.bound && type_params_readable xs

abbrev pub type_params_tree : KTypeParams → KTypeParams
type_params_tree x = record { angles = made_brackets; items = map type_param_tree x.items; commas = commas_of x.items }

abbrev pub params_of_type : Option KTypeParams → Bool
params_of_type None = true
params_of_type (Some x) = is_some x.items && type_params_readable x.items

abbrev pub super_tree : KSuper → KSuper
super_tree x = record { kind = tree_of (type_piece x.kind); round = option_map (λ (y : Brackets). made_brackets) x.round }

abbrev pub supers_each : List KSuper → Bool
supers_each [] = true
supers_each (x ∷ xs) = (type_piece x.kind).readable && supers_each xs

abbrev pub supers_tree : KSupers → KSupers
supers_tree x = record { colon = made; items = map super_tree x.items; commas = commas_of x.items }

abbrev pub supers_readable : Option KSupers → Bool
supers_readable None = true
supers_readable (Some x) = is_some x.items && supers_each x.items

-- the tree that the text of a class is read as
unfoldable pub class_tree : KClass → KClass
class_tree x = record {
  comments = [];
  modifiers = modifiers_tree x.modifiers;
  word = unplaced_word x.word;
  at = made;
  name = unplaced_name x.name;
  params = option_map type_params_tree x.params;
  supers = option_map supers_tree x.supers;
  curly = made_brackets;
  members = map tree_of (map member x.members);
}

-- Its text is read: no class is named `run`.
unfoldable pub class_readable : KClass → Bool
class_readable x = not (bytes_eq x.name.name (codes "run")) && params_of_type x.params && supers_readable x.supers && all_readable (map member x.members)

-- without the comments before it
unfoldable pub bare_class_roles : KClass → Roles
bare_class_roles x =
    modifiers_roles x.modifiers ++ fixed (class_words x.word) ++ name x.name.name ++ type_params_roles x.params ++ supers_roles x.supers ++ block (map member_roles x.members)
