-- Places, and whether a name is that of a type variable, make no difference to the text of names and types.
use Rattle.std.proofs.Common.{◌≡◌, false, List, [], ◌∷◌, ◌++◌, map, Option, Some, None, refl, ap, sym, ◌∙◌, subst}
use Rattle.std.specs.Option.{option_map}
use Rattle.kotlin_tree.specs.declared.tokens.Mark.TheVariants as m
use Rattle.kotlin_tree.specs.declared.places.Position.{Position}
use Rattle.kotlin_tree.specs.declared.types.KName.{KName}
use Rattle.kotlin_tree.specs.declared.types.KDotted.{KDotted}
use Rattle.kotlin_tree.specs.declared.types.KQualified.{KQualified}
use Rattle.kotlin_tree.specs.declared.types.KTypeArguments.{KTypeArguments}
use Rattle.kotlin_tree.specs.declared.types.KType.{KType, roll-KType, map-KType, fold-roll-KType, ind-KType}
use Rattle.kotlin_tree.specs.declared.types.KType.TheOpen.{KType-F}
use Rattle.kotlin_tree.specs.declared.types.KType.TheVariants as ty
use Rattle.kotlin_tree.specs.declared.statements.KDeclared.{KDeclared}
use Rattle.kotlin_tree.specs.declared.statements.KLabel.{KLabel}
use Rattle.kotlin_tree.specs.declared.statements.KTarget.{KTarget}
use Rattle.kotlin_tree.specs.UpToPlaces.{made, made_brackets, unplaced_name, unplaced_dotted, unplaced_qualified, unplaced_type_by, unplaced_type, unplaced_arguments, unplaced_declared, unplaced_label, unplaced_target}
use Rattle.kotlin_layout.specs.declared.glyphs.Glyph.TheVariants as g
use Rattle.kotlin_layout.specs.Roles.{Roles, Glyphs, fixed, name, listed, comma, joined}
use Rattle.kotlin_layout.specs.Shown.{declared_roles, dotted_roles, has_type, if_there, in_angles, label_roles, lambda_names, name_of, qualified_roles, target_roles, type_arguments_roles, type_by, type_roles, variability_word}

pub both : {a b c d : Roles} → a ≡ b → c ≡ d → a ++ c ≡ b ++ d
both {b = b} {c = c} p q = ap (λ z. z ++ c) p ∙ ap (λ z. b ++ z) q

dotted_same : (xs : List KDotted) → joined (map dotted_roles (map unplaced_dotted xs)) ≡ joined (map dotted_roles xs)
dotted_same [] = refl
dotted_same (x ∷ xs) = ap (λ z. dotted_roles x ++ z) (dotted_same xs)

pub qualified_same : (x : KQualified) → qualified_roles (unplaced_qualified x) ≡ qualified_roles x
qualified_same x = ap (λ z. name x.first.name ++ z) (dotted_same x.rest)

pub if_same : {A B : Type 0} (f : A → B) (x : Option A) (glyphs : Glyphs) → if_there (option_map f x) glyphs ≡ if_there x glyphs
if_same f None glyphs = refl
if_same f (Some x) glyphs = refl

-- ---- types

abbrev type_unplaced : KType-F KType → KType-F KType
type_unplaced (KType-F.Plain x question variable) = KType-F.Plain (unplaced_qualified x) (option_map (λ (x : Position). made) question) false
type_unplaced (KType-F.Applied x angles arguments commas question) = KType-F.Applied (unplaced_qualified x) made_brackets arguments [] (option_map (λ (x : Position). made) question)

type_rolls : (x : KType-F KType) → unplaced_type_by x ≡ roll-KType (type_unplaced x)
type_rolls (KType-F.Plain x question variable) = sym (ty.rolls-Plain (unplaced_qualified x) (option_map (λ (x : Position). made) question) false)
type_rolls (KType-F.Applied x angles arguments commas question) = sym (ty.rolls-Applied (unplaced_qualified x) made_brackets arguments [] (option_map (λ (x : Position). made) question))

type_rolled : (x : KType-F KType) → type_roles (roll-KType x) ≡ type_by (map-KType KType Roles type_roles x)
unfolding type_roles
type_rolled x = fold-roll-KType Roles type_by x

type_layer : (x : KType-F KType) → type_roles (unplaced_type (roll-KType x)) ≡ type_by (map-KType KType Roles type_roles (type_unplaced (map-KType KType KType unplaced_type x)))
unfolding unplaced_type
type_layer x = ap type_roles (fold-roll-KType KType unplaced_type_by x ∙ type_rolls (map-KType KType KType unplaced_type x)) ∙ type_rolled (type_unplaced (map-KType KType KType unplaced_type x))

abbrev Part : Type 0
Part = (x : KType) × (type_roles (unplaced_type x) ≡ type_roles x)

parts_same : (xs : List Part) → map type_roles (map unplaced_type (map (λ (x : Part). x.0) xs)) ≡ map type_roles (map (λ (x : Part). x.0) xs)
parts_same [] = refl
parts_same (x ∷ xs) = ap (λ z. z ∷ map type_roles (map unplaced_type (map (λ (x : Part). x.0) xs))) x.1 ∙ ap (λ z. type_roles x.0 ∷ z) (parts_same xs)

type_parts : (y : KType-F Part) → type_by (map-KType KType Roles type_roles (type_unplaced (map-KType KType KType unplaced_type (map-KType Part KType (λ x. x.0) y)))) ≡ type_by (map-KType KType Roles type_roles (map-KType Part KType (λ x. x.0) y))
type_parts (KType-F.Plain x question variable) = both (qualified_same x) (if_same (λ (x : Position). made) question (g.Mark m.Question ∷ []))
type_parts (KType-F.Applied x angles arguments commas question) = both (both (qualified_same x) (ap in_angles (parts_same arguments))) (if_same (λ (x : Position). made) question (g.Mark m.Question ∷ []))

pub type_same : (x : KType) → type_roles (unplaced_type x) ≡ type_roles x
type_same = ind-KType (λ x. type_roles (unplaced_type x) ≡ type_roles x) (λ x y is. subst (λ (z : KType-F KType). type_roles (unplaced_type (roll-KType z)) ≡ type_roles (roll-KType z)) is
    (type_layer (map-KType Part KType (λ x. x.0) y) ∙ type_parts y ∙ sym (type_rolled (map-KType Part KType (λ x. x.0) y))))

types_same : (xs : List KType) → map type_roles (map unplaced_type xs) ≡ map type_roles xs
types_same [] = refl
types_same (x ∷ xs) = ap (λ z. z ∷ map type_roles (map unplaced_type xs)) (type_same x) ∙ ap (λ z. type_roles x ∷ z) (types_same xs)

pub arguments_same : (x : Option KTypeArguments) → type_arguments_roles (option_map unplaced_arguments x) ≡ type_arguments_roles x
arguments_same None = refl
arguments_same (Some x) = ap in_angles (types_same x.items)

-- ---- declarations, labels, targets

pub declared_same : (x : KDeclared) → declared_roles (unplaced_declared x) ≡ declared_roles x
declared_same x = ap (λ z. fixed (variability_word x.word ∷ g.Blank ∷ []) ++ name x.name.name ++ fixed has_type ++ z) (type_same x.kind)

pub label_same : (x : Option KLabel) → label_roles (option_map unplaced_label x) ≡ label_roles x
label_same None = refl
label_same (Some x) = refl

pub target_same : (x : Option KTarget) → target_roles (option_map unplaced_target x) ≡ target_roles x
target_same None = refl
target_same (Some x) = refl

names_same : (xs : List KName) → map name_of (map unplaced_name xs) ≡ map name_of xs
names_same [] = refl
names_same (x ∷ xs) = ap (λ z. name_of x ∷ z) (names_same xs)

pub lambda_same : (xs : List KName) → lambda_names (map unplaced_name xs) ≡ lambda_names xs
lambda_same [] = refl
lambda_same (x ∷ xs) = ap (λ z. fixed (g.Blank ∷ []) ++ listed comma z ++ fixed (g.Blank ∷ g.Mark m.Arrow ∷ [])) (names_same (x ∷ xs))
