-- The text of files without their places is that without their comments.
use Rattle.std.proofs.Common.{◌≡◌, ℕ, Bool, false, List, [], ◌∷◌, ◌++◌, map, Option, Some, None, refl, ap, sym, ◌∙◌, subst}
use Rattle.std.specs.Prelude.{if◌then◌else◌, nat_eq}
use Rattle.std.specs.Option.{option_map}
use Rattle.kotlin_tree.specs.declared.tokens.Mark.TheVariants as m
use Rattle.kotlin_tree.specs.declared.tokens.Keyword.TheVariants as k
use Rattle.kotlin_tree.specs.declared.tokens.Word.TheVariants as w
use Rattle.kotlin_tree.specs.declared.places.Brackets.{Brackets}
use Rattle.kotlin_tree.specs.declared.expressions.KExpr.{KExpr}
use Rattle.kotlin_tree.specs.declared.statements.KStmt.{KStmt}
use Rattle.kotlin_layout.specs.declared.glyphs.Glyph.TheVariants as g
use Rattle.kotlin_layout.specs.declared.parens.Place.{Place}
use Rattle.kotlin_tree.specs.declared.statements.KBlock.{KBlock}
use Rattle.kotlin_tree.specs.declared.members.KModifierKind.{KModifierKind}
use Rattle.kotlin_tree.specs.declared.members.KModifierKind.TheVariants as modifier
use Rattle.kotlin_tree.specs.declared.members.KModifier.{KModifier}
use Rattle.kotlin_tree.specs.declared.members.KParam.{KParam}
use Rattle.kotlin_tree.specs.declared.members.KParams.{KParams}
use Rattle.kotlin_tree.specs.declared.members.KTyped.{KTyped}
use Rattle.kotlin_tree.specs.declared.members.KValue.{KValue}
use Rattle.kotlin_tree.specs.declared.members.KPrivateSet.{KPrivateSet}
use Rattle.kotlin_tree.specs.declared.members.KDelegation.{KDelegation}
use Rattle.kotlin_tree.specs.declared.members.KMember.{KMember, roll-KMember, map-KMember, fold-roll-KMember, ind-KMember}
use Rattle.kotlin_tree.specs.declared.members.KMember.TheOpen.{KMember-F}
use Rattle.kotlin_tree.specs.declared.files.KTypeParam.{KTypeParam}
use Rattle.kotlin_tree.specs.declared.files.KTypeParams.{KTypeParams}
use Rattle.kotlin_tree.specs.declared.files.KSuper.{KSuper}
use Rattle.kotlin_tree.specs.declared.files.KSupers.{KSupers}
use Rattle.kotlin_tree.specs.declared.files.KClassWord.{KClassWord}
use Rattle.kotlin_tree.specs.declared.files.KClassWord.TheVariants as word
use Rattle.kotlin_tree.specs.declared.files.KClass.{KClass}
use Rattle.kotlin_tree.specs.declared.files.KPackage.{KPackage}
use Rattle.kotlin_tree.specs.declared.files.KImport.{KImport}
use Rattle.kotlin_tree.specs.declared.files.KFile.{KFile}
use Rattle.kotlin_tree.specs.UpToPlaces.{made, made_brackets, made_companion, made_private_set, unplaced_name, unplaced_declared, unplaced_expression, unplaced_statement, unplaced_block, unplaced_modifier_kind, unplaced_modifier, unplaced_param, unplaced_params, unplaced_typed, unplaced_value, unplaced_delegation, unplaced_member_by, unplaced_member, unplaced_type_param, unplaced_type_params, unplaced_super, unplaced_supers, unplaced_word, unplaced_class, unplaced_package, unplaced_import, unplaced_file, SameUpToPlaces}
use Rattle.kotlin_text_laws.specs.Uncommented.{uncommented_expression, uncommented_statement, uncommented_block, uncommented_value, uncommented_delegation, uncommented_member_by, uncommented_member, uncommented_class, uncommented_file}
use Rattle.kotlin_layout.specs.Roles.{Roles, fixed, name, listed, comma, joined, block}
use Rattle.kotlin_layout.specs.Parens.{free_place}
use Rattle.kotlin_layout.specs.Layout.{text_of}
use Rattle.kotlin_layout.specs.Shown.{above, called_word, arguments_roles, assigns, block_roles, body_roles, bound_roles, class_part, class_roles, class_words, classes_part, delegation_roles, empty_line, expression_roles, file_roles, has_type, import_line, imports_part, in_angles, is_absent, is_headless, in_round, member_roles, modifier_glyphs, modifiers_roles, package_part, param_roles, params_roles, rank, ranked, result_roles, setter_roles, statement_roles, super_roles, supers_roles, type_param_roles, type_params_roles, value_roles}
use Rattle.kotlin_layout.specs.Text.{KText}
use Rattle.kotlin_layout.proofs.LawsToCite.{member_Property, member_Init, member_Function, member_Constructor, member_Companion}
use Rattle.kotlin_text_laws.proofs.Parts.{both, qualified_same, if_same, type_same, declared_same}
use Rattle.kotlin_text_laws.proofs.Text.{expression_text, statement_text}

-- ---- parts of members

expressions_text : (xs : List KExpr) → map expression_roles (map unplaced_expression xs) ≡ map expression_roles (map uncommented_expression xs)
expressions_text [] = refl
expressions_text (x ∷ xs) = ap (λ z. z ∷ map expression_roles (map unplaced_expression xs)) (expression_text x) ∙ ap (λ z. expression_roles (uncommented_expression x) ∷ z) (expressions_text xs)

statements_text : (xs : List KStmt) → map statement_roles (map unplaced_statement xs) ≡ map statement_roles (map uncommented_statement xs)
statements_text [] = refl
statements_text (x ∷ xs) = ap (λ z. z ∷ map statement_roles (map unplaced_statement xs)) (statement_text x) ∙ ap (λ z. statement_roles (uncommented_statement x) ∷ z) (statements_text xs)

block_text : (x : KBlock) → block_roles (unplaced_block x) ≡ block_roles (uncommented_block x)
block_text x = ap block (statements_text x.statements)

body_text : (x : Option KBlock) → body_roles (option_map unplaced_block x) ≡ body_roles (option_map uncommented_block x)
body_text None = refl
body_text (Some x) = block_text x

value_text : (x : Option KValue) → value_roles (option_map unplaced_value x) ≡ value_roles (option_map uncommented_value x)
value_text None = refl
value_text (Some x) = ap (λ (f : Place → Roles). fixed assigns ++ f free_place) (expression_text x.tree)

delegation_text : (x : Option KDelegation) → delegation_roles (option_map unplaced_delegation x) ≡ delegation_roles (option_map uncommented_delegation x)
delegation_text None = refl
delegation_text (Some x) = ap (λ z. fixed (above ++ called_word x.called ∷ []) ++ arguments_roles z) (expressions_text x.arguments)

kind_same : (kind : KModifierKind) (r : ℕ) → (if nat_eq (rank (unplaced_modifier_kind kind)) r then fixed (modifier_glyphs (unplaced_modifier_kind kind)) else []) ≡ (if nat_eq (rank kind) r then fixed (modifier_glyphs kind) else [])
kind_same (modifier.JvmStatic at) r = refl
kind_same _ r = refl

ranked_same : (xs : List KModifier) (r : ℕ) → ranked (map unplaced_modifier xs) r ≡ ranked xs r
ranked_same [] r = refl
ranked_same (x ∷ xs) r = both (kind_same x.kind r) (ranked_same xs r)

modifiers_same : (xs : List KModifier) → modifiers_roles (map unplaced_modifier xs) ≡ modifiers_roles xs
modifiers_same xs = both (both (both (both (both (both (both (both (ranked_same xs 0) (ranked_same xs 1)) (ranked_same xs 2)) (ranked_same xs 3)) (ranked_same xs 4)) (ranked_same xs 5)) (ranked_same xs 6)) (ranked_same xs 7)) (ranked_same xs 8)

params_each : (xs : List KParam) → map param_roles (map unplaced_param xs) ≡ map param_roles xs
params_each [] = refl
params_each (x ∷ xs) = ap (λ z. (name x.name.name ++ fixed has_type ++ z) ∷ map param_roles (map unplaced_param xs)) (type_same x.kind) ∙ ap (λ z. param_roles x ∷ z) (params_each xs)

params_same : (x : KParams) → params_roles (unplaced_params x) ≡ params_roles x
params_same x = ap (λ z. in_round (listed comma z)) (params_each x.items)

result_same : (x : Option KTyped) → result_roles (option_map unplaced_typed x) ≡ result_roles x
result_same None = refl
result_same (Some x) = ap (λ z. fixed has_type ++ z) (type_same x.kind)

setter_same : (x : Option KPrivateSet) → setter_roles (option_map (λ (x : KPrivateSet). made_private_set) x) ≡ setter_roles x
setter_same x = if_same (λ (x : KPrivateSet). made_private_set) x (g.Deeper ∷ g.Line ∷ g.Word w.Private ∷ g.Blank ∷ g.Word w.Set ∷ g.Shallower ∷ [])

-- ---- members

pub unplaced_at : (x : KMember-F KMember) → unplaced_member (roll-KMember x) ≡ unplaced_member_by (map-KMember KMember KMember unplaced_member x)
unfolding unplaced_member
unplaced_at x = fold-roll-KMember KMember unplaced_member_by x

pub uncommented_at : (x : KMember-F KMember) → uncommented_member (roll-KMember x) ≡ uncommented_member_by (map-KMember KMember KMember uncommented_member x)
unfolding uncommented_member
uncommented_at x = fold-roll-KMember KMember uncommented_member_by x

abbrev Part : Type 0
Part = (x : KMember) × (member_roles (unplaced_member x) ≡ member_roles (uncommented_member x))

parts_text : (xs : List Part) → map member_roles (map unplaced_member (map (λ (x : Part). x.0) xs)) ≡ map member_roles (map uncommented_member (map (λ (x : Part). x.0) xs))
parts_text [] = refl
parts_text (x ∷ xs) = ap (λ z. z ∷ map member_roles (map unplaced_member (map (λ (x : Part). x.0) xs))) x.1 ∙ ap (λ z. member_roles (uncommented_member x.0) ∷ z) (parts_text xs)

member_parts : (y : KMember-F Part) → member_roles (unplaced_member_by (map-KMember KMember KMember unplaced_member (map-KMember Part KMember (λ x. x.0) y))) ≡ member_roles (uncommented_member_by (map-KMember KMember KMember uncommented_member (map-KMember Part KMember (λ x. x.0) y)))
member_parts (KMember-F.Commented comments member) = member.1
member_parts (KMember-F.Property modifiers declared value setter) =
    member_Property (map unplaced_modifier modifiers) (unplaced_declared declared) (option_map unplaced_value value) (option_map (λ (x : KPrivateSet). made_private_set) setter)
    ∙ both (both (both (modifiers_same modifiers) (declared_same declared)) (value_text value)) (setter_same setter)
    ∙ sym (member_Property modifiers declared (option_map uncommented_value value) setter)
member_parts (KMember-F.Init at body) = member_Init made (unplaced_block body) ∙ ap (λ z. fixed (g.Word w.Init ∷ []) ++ z) (block_text body) ∙ sym (member_Init at (uncommented_block body))
member_parts (KMember-F.Function modifiers at x params result body) =
    member_Function (map unplaced_modifier modifiers) made (unplaced_name x) (unplaced_params params) (option_map unplaced_typed result) (option_map unplaced_block body)
    ∙ both (both (both (ap (λ z. z ++ fixed (g.Keyword k.Fun ∷ g.Blank ∷ []) ++ name x.name) (modifiers_same modifiers)) (params_same params)) (result_same result)) (body_text body)
    ∙ sym (member_Function modifiers at x params result (option_map uncommented_block body))
member_parts (KMember-F.Constructor modifiers at params first body) =
    member_Constructor (map unplaced_modifier modifiers) made (unplaced_params params) (option_map unplaced_delegation first) (unplaced_block body)
    ∙ both (both (both (ap (λ z. z ++ fixed (g.Word w.Constructor ∷ [])) (modifiers_same modifiers)) (params_same params)) (delegation_text first)) (block_text body)
    ∙ sym (member_Constructor modifiers at params (option_map uncommented_delegation first) (uncommented_block body))
member_parts (KMember-F.Companion at members) =
    member_Companion made_companion (map unplaced_member (map (λ (x : Part). x.0) members))
    ∙ ap (λ z. fixed (g.Word w.Companion ∷ g.Blank ∷ g.Keyword k.Object ∷ []) ++ block z) (parts_text members)
    ∙ sym (member_Companion at (map uncommented_member (map (λ (x : Part). x.0) members)))

member_text : (x : KMember) → member_roles (unplaced_member x) ≡ member_roles (uncommented_member x)
member_text = ind-KMember (λ x. member_roles (unplaced_member x) ≡ member_roles (uncommented_member x)) (λ x y is. subst (λ (z : KMember-F KMember). member_roles (unplaced_member (roll-KMember z)) ≡ member_roles (uncommented_member (roll-KMember z))) is
    (ap member_roles (unplaced_at (map-KMember Part KMember (λ x. x.0) y)) ∙ member_parts y ∙ sym (ap member_roles (uncommented_at (map-KMember Part KMember (λ x. x.0) y)))))

members_text : (xs : List KMember) → map member_roles (map unplaced_member xs) ≡ map member_roles (map uncommented_member xs)
members_text [] = refl
members_text (x ∷ xs) = ap (λ z. z ∷ map member_roles (map unplaced_member xs)) (member_text x) ∙ ap (λ z. member_roles (uncommented_member x) ∷ z) (members_text xs)

-- ---- classes

bound_same : (x : Option KTyped) → bound_roles (option_map unplaced_typed x) ≡ bound_roles x
bound_same None = refl
bound_same (Some x) = ap (λ z. fixed above ++ z) (type_same x.kind)

type_params_each : (xs : List KTypeParam) → map type_param_roles (map unplaced_type_param xs) ≡ map type_param_roles xs
type_params_each [] = refl
type_params_each (x ∷ xs) = ap (λ z. (name x.name.name ++ z) ∷ map type_param_roles (map unplaced_type_param xs)) (bound_same x.bound) ∙ ap (λ z. type_param_roles x ∷ z) (type_params_each xs)

type_params_same : (x : Option KTypeParams) → type_params_roles (option_map unplaced_type_params x) ≡ type_params_roles x
type_params_same None = refl
type_params_same (Some x) = ap in_angles (type_params_each x.items)

super_same : (x : KSuper) → super_roles (unplaced_super x) ≡ super_roles x
super_same x = both (type_same x.kind) (if_same (λ (y : Brackets). made_brackets) x.round (g.Mark m.OpenRound ∷ g.Mark m.CloseRound ∷ []))

supers_each : (xs : List KSuper) → map super_roles (map unplaced_super xs) ≡ map super_roles xs
supers_each [] = refl
supers_each (x ∷ xs) = ap (λ z. z ∷ map super_roles (map unplaced_super xs)) (super_same x) ∙ ap (λ z. super_roles x ∷ z) (supers_each xs)

supers_same : (x : Option KSupers) → supers_roles (option_map unplaced_supers x) ≡ supers_roles x
supers_same None = refl
supers_same (Some x) = ap (λ z. fixed above ++ listed comma z) (supers_each x.items)

word_same : (x : KClassWord) → class_words (unplaced_word x) ≡ class_words x
word_same word.Class = refl
word_same word.Interface = refl
word_same (word.FunClass at) = refl
word_same (word.FunInterface at) = refl

class_text : (x : KClass) → class_roles (unplaced_class x) ≡ class_roles (uncommented_class x)
unfolding class_roles
class_text x = both (both (both (ap (λ z. z ++ name x.name.name) (both (modifiers_same x.modifiers) (ap fixed (word_same x.word)))) (type_params_same x.params)) (supers_same x.supers)) (ap block (members_text x.members))

-- ---- files

package_same : (x : Option KPackage) → package_part (option_map unplaced_package x) ≡ package_part x
package_same None = refl
package_same (Some x) = ap (λ z. fixed (g.Keyword k.Package ∷ g.Blank ∷ []) ++ z ++ fixed (g.Line ∷ [])) (qualified_same x.name)

import_same : (x : KImport) → import_line (unplaced_import x) ≡ import_line x
import_same x = ap (λ z. fixed (g.Word w.Import ∷ g.Blank ∷ []) ++ z ++ fixed (g.Line ∷ [])) (qualified_same x.name)

imports_each : (xs : List KImport) → joined (map import_line (map unplaced_import xs)) ≡ joined (map import_line xs)
imports_each [] = refl
imports_each (x ∷ xs) = both (import_same x) (imports_each xs)

absent_same : (x : Option KPackage) → is_absent (option_map unplaced_package x) ≡ is_absent x
absent_same None = refl
absent_same (Some x) = refl

headless_same : (x : Option KPackage) (xs : List KImport) → is_headless (option_map unplaced_package x) (map unplaced_import xs) ≡ is_headless x xs
headless_same None [] = refl
headless_same None (y ∷ ys) = refl
headless_same (Some x) xs = refl

imports_same : (first : Bool) (xs : List KImport) → imports_part first (map unplaced_import xs) ≡ imports_part first xs
imports_same first [] = refl
imports_same first (x ∷ xs) = ap (λ z. empty_line first ++ z) (imports_each (x ∷ xs))

class_part_text : (first : Bool) (x : KClass) → class_part first (unplaced_class x) ≡ class_part first (uncommented_class x)
class_part_text first x = ap (λ z. empty_line first ++ z ++ fixed (g.Line ∷ [])) (class_text x)

classes_each : (xs : List KClass) → joined (map (class_part false) (map unplaced_class xs)) ≡ joined (map (class_part false) (map uncommented_class xs))
classes_each [] = refl
classes_each (x ∷ xs) = both (class_part_text false x) (classes_each xs)

classes_text : (first : Bool) (xs : List KClass) → classes_part first (map unplaced_class xs) ≡ classes_part first (map uncommented_class xs)
classes_text first [] = refl
classes_text first (x ∷ xs) = both (class_part_text first x) (classes_each xs)

file_text : (x : KFile) → file_roles (unplaced_file x) ≡ file_roles (uncommented_file x)
unfolding file_roles unplaced_file uncommented_file
file_text x =
    both (both (package_same x.«package») (ap (λ z. imports_part z (map unplaced_import x.imports)) (absent_same x.«package») ∙ imports_same (is_absent x.«package») x.imports))
    (ap (λ z. classes_part z (map unplaced_class x.classes)) (headless_same x.«package» x.imports) ∙ classes_text (is_headless x.«package» x.imports) x.classes)

-- A file has the text of its tree without places, but for its comments.
pub plain_text : (x : KFile) → KText (unplaced_file x) ≡ KText (uncommented_file x)
unfolding KText
plain_text x = ap text_of (file_text x)

pub one_text : (x y : KFile) → SameUpToPlaces x y → KText (uncommented_file x) ≡ KText (uncommented_file y)
one_text x y same = sym (plain_text x) ∙ ap KText same ∙ plain_text y
