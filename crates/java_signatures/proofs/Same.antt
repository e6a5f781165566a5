-- The test of two signatures.
use Rattle.std.proofs.Common.{◌≡◌, ℕ, Bool, true, false, ◌&&◌, List, [], ◌∷◌, Decides, refl, ap, sym, ◌∙◌}
use Rattle.std.specs.Prelude.{nat_eq, if◌then◌else◌}
use Rattle.std.specs.Str.{bytes_eq}
use Rattle.std.proofs.lemmas.Bool.Decides.{Decides-and, Decides-eqb, Decides-like}
use Rattle.std.proofs.lemmas.Slice.Eq.{bytes_eq-Decides}
use Rattle.java_tree.specs.declared.types.Primitive.{Primitive}
use Rattle.java_tree.specs.declared.types.Primitive.TheVariants as number
use Rattle.java_type_names.specs.declared.classes.Meant.{Meant}
use Rattle.java_type_names.specs.declared.classes.Meant.TheVariants as m
use Rattle.java_type_names.specs.Scopes.{is_same}
use Rattle.java_signatures.specs.declared.erasure.Piece.{Piece}
use Rattle.java_signatures.specs.declared.erasure.Piece.TheVariants as piece
use Rattle.java_signatures.specs.declared.signatures.Signature.{Signature}
use Rattle.java_signatures.specs.Same.{IsKnown, AreKnown, HaveSameErasure}
use Rattle.java_signatures.specs.Signatures.{index, same_piece, same_pieces, agree, same_signature}

pub false_true : false ≡ true → ⊥
false_true h = cc

differ : {P : Type 0} → (P → ⊥) → Decides false P
differ apart = (λ (e : false ≡ true). absurd (false_true e), λ h. absurd (apart h))

-- ---- the parts of a piece

abbrev named : ℕ → Primitive
named n =
    if nat_eq n 0
    then number.Byte
    else if nat_eq n 1 then number.Short else if nat_eq n 2 then number.Char else if nat_eq n 3 then number.Int else if nat_eq n 4 then number.Long else number.Boolean

named_index : (x : Primitive) → named (index x) ≡ x
named_index number.Byte = refl
named_index number.Short = refl
named_index number.Char = refl
named_index number.Int = refl
named_index number.Long = refl
named_index number.Boolean = refl

index_is : (x y : Primitive) → index x ≡ index y → x ≡ y
index_is x y e = sym (named_index x) ∙ ap named e ∙ named_index y

primitive_decides : (x y : Primitive) → Decides (nat_eq (index x) (index y)) (x ≡ y)
primitive_decides x y = Decides-like (nat_eq (index x) (index y)) (index_is x y) (λ (e : x ≡ y). ap index e) (Decides-eqb (index x) (index y))

library_is : (x y : ℕ) → m.Library x ≡ m.Library y → x ≡ y
library_is x y e = cc

project_is : (x y : ℕ) → m.Project x ≡ m.Project y → x ≡ y
project_is x y e = cc

library_project : (x y : ℕ) → m.Library x ≡ m.Project y → ⊥
library_project x y e = cc

project_library : (x y : ℕ) → m.Project x ≡ m.Library y → ⊥
project_library x y e = cc

meant_decides : (x y : Meant) → Decides (is_same x y) (x ≡ y)
meant_decides (m.Library x) (m.Library y) = Decides-like (nat_eq x y) (λ (e : x ≡ y). ap m.Library e) (library_is x y) (Decides-eqb x y)
meant_decides (m.Project x) (m.Project y) = Decides-like (nat_eq x y) (λ (e : x ≡ y). ap m.Project e) (project_is x y) (Decides-eqb x y)
meant_decides (m.Library x) (m.Project y) = differ (library_project x y)
meant_decides (m.Project x) (m.Library y) = differ (project_library x y)

-- ---- pieces

abbrev Same : Piece → Piece → Type 0
Same x y = (x ≡ y) × IsKnown x

primitive_is : (x y : Primitive) → piece.Primitive x ≡ piece.Primitive y → x ≡ y
primitive_is x y e = cc

class_is : (x y : Meant) → piece.Class x ≡ piece.Class y → x ≡ y
class_is x y e = cc

array_primitive : (y : Primitive) → Same piece.Array (piece.Primitive y) → ⊥
array_primitive y h = let e : piece.Array ≡ piece.Primitive y = h.0 in cc

array_class : (y : Meant) → Same piece.Array (piece.Class y) → ⊥
array_class y h = let e : piece.Array ≡ piece.Class y = h.0 in cc

array_unknown : Same piece.Array piece.Unknown → ⊥
array_unknown h = let e : piece.Array ≡ piece.Unknown = h.0 in cc

primitive_array : (x : Primitive) → Same (piece.Primitive x) piece.Array → ⊥
primitive_array x h = let e : piece.Primitive x ≡ piece.Array = h.0 in cc

primitive_class : (x : Primitive) (y : Meant) → Same (piece.Primitive x) (piece.Class y) → ⊥
primitive_class x y h = let e : piece.Primitive x ≡ piece.Class y = h.0 in cc

primitive_unknown : (x : Primitive) → Same (piece.Primitive x) piece.Unknown → ⊥
primitive_unknown x h = let e : piece.Primitive x ≡ piece.Unknown = h.0 in cc

class_array : (x : Meant) → Same (piece.Class x) piece.Array → ⊥
class_array x h = let e : piece.Class x ≡ piece.Array = h.0 in cc

class_primitive : (x : Meant) (y : Primitive) → Same (piece.Class x) (piece.Primitive y) → ⊥
class_primitive x y h = let e : piece.Class x ≡ piece.Primitive y = h.0 in cc

class_unknown : (x : Meant) → Same (piece.Class x) piece.Unknown → ⊥
class_unknown x h = let e : piece.Class x ≡ piece.Unknown = h.0 in cc

unknown : (y : Piece) → Same piece.Unknown y → ⊥
unknown y h = h.1

piece_decides : (x y : Piece) → Decides (same_piece x y) (Same x y)
piece_decides piece.Array piece.Array = (λ (e : true ≡ true). (refl, tt), λ h. refl)
piece_decides piece.Array (piece.Primitive y) = differ (array_primitive y)
piece_decides piece.Array (piece.Class y) = differ (array_class y)
piece_decides piece.Array piece.Unknown = differ array_unknown
piece_decides (piece.Primitive x) piece.Array = differ (primitive_array x)
piece_decides (piece.Primitive x) (piece.Primitive y) =
    Decides-like (nat_eq (index x) (index y)) (λ (e : x ≡ y). (ap piece.Primitive e, tt)) (λ (h : Same (piece.Primitive x) (piece.Primitive y)). primitive_is x y h.0)
    (primitive_decides x y)
piece_decides (piece.Primitive x) (piece.Class y) = differ (primitive_class x y)
piece_decides (piece.Primitive x) piece.Unknown = differ (primitive_unknown x)
piece_decides (piece.Class x) piece.Array = differ (class_array x)
piece_decides (piece.Class x) (piece.Primitive y) = differ (class_primitive x y)
piece_decides (piece.Class x) (piece.Class y) =
    Decides-like (is_same x y) (λ (e : x ≡ y). (ap piece.Class e, tt)) (λ (h : Same (piece.Class x) (piece.Class y)). class_is x y h.0) (meant_decides x y)
piece_decides (piece.Class x) piece.Unknown = differ (class_unknown x)
piece_decides piece.Unknown piece.Array = differ (unknown piece.Array)
piece_decides piece.Unknown (piece.Primitive y) = differ (unknown (piece.Primitive y))
piece_decides piece.Unknown (piece.Class y) = differ (unknown (piece.Class y))
piece_decides piece.Unknown piece.Unknown = differ (unknown piece.Unknown)

abbrev AreSame : List Piece → List Piece → Type 0
AreSame xs ys = (xs ≡ ys) × AreKnown xs

joined_is : (x y : Piece) (xs ys : List Piece) → x ≡ y → xs ≡ ys → x ∷ xs ≡ y ∷ ys
joined_is x y xs ys e f = cc

first_is : (x y : Piece) (xs ys : List Piece) → x ∷ xs ≡ y ∷ ys → x ≡ y
first_is x y xs ys e = cc

rest_is : (x y : Piece) (xs ys : List Piece) → x ∷ xs ≡ y ∷ ys → xs ≡ ys
rest_is x y xs ys e = cc

joined : (x y : Piece) (xs ys : List Piece) → Same x y × AreSame xs ys → AreSame (x ∷ xs) (y ∷ ys)
joined x y xs ys h = (joined_is x y xs ys h.0.0 h.1.0, (h.0.1, h.1.1))

parted : (x y : Piece) (xs ys : List Piece) → AreSame (x ∷ xs) (y ∷ ys) → Same x y × AreSame xs ys
parted x y xs ys h = ((first_is x y xs ys h.0, h.1.0), (rest_is x y xs ys h.0, h.1.1))

none_some : (y : Piece) (ys : List Piece) → AreSame [] (y ∷ ys) → ⊥
none_some y ys h = let e : [] ≡ y ∷ ys = h.0 in cc

some_none : (x : Piece) (xs : List Piece) → AreSame (x ∷ xs) [] → ⊥
some_none x xs h = let e : x ∷ xs ≡ [] = h.0 in cc

pieces_decide : (xs ys : List Piece) → Decides (same_pieces xs ys) (AreSame xs ys)
pieces_decide [] [] = (λ (e : true ≡ true). (refl, tt), λ h. refl)
pieces_decide [] (y ∷ ys) = differ (none_some y ys)
pieces_decide (x ∷ xs) [] = differ (some_none x xs)
pieces_decide (x ∷ xs) (y ∷ ys) =
    Decides-like (same_piece x y && same_pieces xs ys) (joined x y xs ys) (parted x y xs ys)
    (Decides-and (same_piece x y) (same_pieces xs ys) (piece_decides x y) (pieces_decide xs ys))

-- ---- signatures

agree_decides : (x y : Bool) → Decides (agree x y) (x ≡ y)
agree_decides true true = (λ e. refl, λ e. refl)
agree_decides true false = (λ e. sym e, λ e. sym e)
agree_decides false true = (λ e. e, λ e. e)
agree_decides false false = (λ e. refl, λ e. refl)

pub signature_decides : (x y : Signature) → Decides (same_signature x y) (HaveSameErasure x y)
signature_decides x y =
    Decides-and (agree x.is_constructor y.is_constructor) (bytes_eq x.name y.name && same_pieces x.kinds y.kinds) (agree_decides x.is_constructor y.is_constructor)
    (Decides-and (bytes_eq x.name y.name) (same_pieces x.kinds y.kinds) (bytes_eq-Decides x.name y.name) (pieces_decide x.kinds y.kinds))
