-- Methods of one class whose signatures have the same erasure, and constructors likewise (JLS 4.6, 8.4.2, 8.4.8.3, 8.8.2).
use Rattle.std.specs.Prelude.{ℕ, zero, suc, Bool, true, false, ◌&&◌, not, nat_eq, if◌then◌else◌, List, [], ◌∷◌, ◌++◌, length, Option, Some, None}
use Rattle.std.specs.List.{list_any}
use Rattle.std.specs.Str.{bytes_eq}
use Rattle.java_tree.specs.declared.tokens.Position.{Position}
use Rattle.java_tree.specs.declared.types.JBrackets.{JBrackets}
use Rattle.java_tree.specs.declared.types.JDotted.{JDotted}
use Rattle.java_tree.specs.declared.types.JQualified.{JQualified}
use Rattle.java_tree.specs.declared.types.Primitive.{Primitive}
use Rattle.java_tree.specs.declared.types.Primitive.TheVariants as number
use Rattle.java_tree.specs.declared.types.JType.{JType, out-JType, map-JType, fold-JType}
use Rattle.java_tree.specs.declared.types.JType.TheOpen.{JType-F}
use Rattle.java_tree.specs.declared.exprs.JTypedParam.{JTypedParam}
use Rattle.java_member_grammar.specs.declared.parts.JBound.{JBound}
use Rattle.java_member_grammar.specs.declared.parts.JTypeParam.{JTypeParam}
use Rattle.java_member_grammar.specs.declared.parts.JTypeParams.{JTypeParams}
use Rattle.java_member_grammar.specs.declared.heads.JMemberHead.{JMemberHead}
use Rattle.java_member_grammar.specs.declared.heads.JMemberHead.TheVariants as head
use Rattle.java_unit_grammar.specs.declared.statements.JBody.{JBody}
use Rattle.java_unit_grammar.specs.declared.statements.JCase.{JCase}
use Rattle.java_unit_grammar.specs.declared.statements.JCaseGroup.{JCaseGroup}
use Rattle.java_unit_grammar.specs.declared.statements.JCatch.{JCatch}
use Rattle.java_unit_grammar.specs.declared.statements.JMember.{JMember, out-JMember}
use Rattle.java_unit_grammar.specs.declared.statements.JStatement.{JStatement}
use Rattle.java_unit_grammar.specs.declared.statements.JBody.TheOpen.{JMember-F}
use Rattle.java_classes.specs.declared.faults.NameFault.{NameFault}
use Rattle.java_classes.specs.Faults.{fault_if}
use Rattle.java_type_names.specs.declared.classes.World.{World}
use Rattle.java_type_names.specs.declared.scopes.FileScope.{FileScope}
use Rattle.java_type_names.specs.declared.places.Place.{Place}
use Rattle.java_type_names.specs.declared.places.Place.TheVariants as p
use Rattle.java_type_names.specs.Scopes.{is_same}
use Rattle.java_supertypes.specs.Supertypes.{is_parameter, object, place_of}
use Rattle.java_signatures.specs.declared.erasure.Piece.{Piece}
use Rattle.java_signatures.specs.declared.erasure.Piece.TheVariants as piece
use Rattle.java_signatures.specs.declared.signatures.Signature.{Signature}

-- ---- erased types: a piece for each pair of brackets of an array, and one for what it holds (JLS 4.6)

abbrev pub index : Primitive → ℕ
index number.Byte = 0
index number.Short = 1
index number.Char = 2
index number.Int = 3
index number.Long = 4
index number.Boolean = 5

-- a type that isn't known is the same as no other
abbrev pub same_piece : Piece → Piece → Bool
same_piece piece.Array piece.Array = true
same_piece (piece.Primitive x) (piece.Primitive y) = nat_eq (index x) (index y)
same_piece (piece.Class x) (piece.Class y) = is_same x y
same_piece _ _ = false

abbrev pub same_pieces : List Piece → List Piece → Bool
same_pieces [] [] = true
same_pieces [] (y ∷ ys) = false
same_pieces (x ∷ xs) [] = false
same_pieces (x ∷ xs) (y ∷ ys) = same_piece x y && same_pieces xs ys

abbrev pub class_piece : Place → Piece
class_piece (p.Class class) = piece.Class class
class_piece _ = piece.Unknown

abbrev pub name_by : JType-F JType → Option JQualified
name_by (JType-F.Class name) = Some name
name_by (JType-F.Applied name lt args commas joined gt) = Some name
name_by _ = None

unfoldable pub type_name : JType → Option JQualified
type_name x = name_by (out-JType x)

abbrev pub bound_name : Option JBound → Option JQualified
bound_name None = None
bound_name (Some bound) = type_name bound.kind

-- the bound of the first type parameter of a name, where it is a name
abbrev pub bound_of : List ℕ → List JTypeParam → Option JQualified
bound_of name [] = None
bound_of name (x ∷ xs) = if bytes_eq x.name name then bound_name x.bound else bound_of name xs

abbrev pub bound_by : List ℕ → List JDotted → List JTypeParam → Option JQualified
bound_by name [] xs = bound_of name xs
bound_by name (x ∷ rest) xs = None

module _ (params : List JTypeParam) where
  abbrev pub followed_by : (JQualified → JQualified) → JQualified → Option JQualified → JQualified
  followed_by further x None = x
  followed_by further x (Some bound) = further bound

  -- from a type parameter to its bound, over at most so many
  abbrev pub followed : ℕ → JQualified → JQualified
  followed zero x = x
  followed (suc steps) x = followed_by (followed steps) x (bound_by x.name x.rest params)

abbrev pub declared : Option JTypeParams → List JTypeParam
declared None = []
declared (Some params) = params.items

-- an array for each pair of brackets
abbrev pub arrays : List JBrackets → List Piece
arrays [] = []
arrays (x ∷ xs) = piece.Array ∷ arrays xs

module _ (world : World) (scope : FileScope) (params : Option JTypeParams) where
  -- the bound of a type parameter that has none is Object (JLS 4.4)
  abbrev pub piece_of : JQualified → Piece
  piece_of x = if is_parameter x.name params then piece.Class object else class_piece (place_of world scope x)

  -- the erasure of a type parameter is that of its leftmost bound (JLS 4.6)
  abbrev pub erased : JQualified → Piece
  erased x = piece_of (followed (declared params) (length (declared params)) x)

  abbrev pub kind_by : JType-F (List Piece) → List Piece
  kind_by (JType-F.Primitive primitive at) = piece.Primitive primitive ∷ []
  kind_by (JType-F.Class name) = erased name ∷ []
  kind_by (JType-F.Applied name lt args commas joined gt) = erased name ∷ []
  kind_by (JType-F.Array element brackets) = arrays brackets ++ element

  -- the erasure of a type (JLS 4.6): of a type with arguments that of its class, of an array the array of what it holds
  unfoldable pub kind : JType → List Piece
  kind = fold-JType (List Piece) kind_by

  -- the same, by its parts
  abbrev pub kind_form : JType → List Piece
  kind_form x = kind_by (map-JType JType (List Piece) kind (out-JType x))

  abbrev pub kinds : List JTypedParam → List Piece
  kinds [] = []
  kinds (x ∷ xs) = kind x.kind ++ kinds xs

  -- ---- signatures: a generic method isn't built yet

  abbrev pub signature : Bool → List ℕ → Position → List JTypedParam → Signature
  signature is_constructor name at xs = record { is_constructor = is_constructor; name = name; at = at; kinds = kinds xs }

  abbrev pub head_signature : JMemberHead → List Signature
  head_signature (head.Method mods None result name at formals throws) = signature false name at formals.items ∷ []
  head_signature (head.Constructor mods name at formals throws) = signature true name at formals.items ∷ []
  head_signature _ = []

  abbrev pub signature_by : JMember-F JBody JMember JStatement JCase JCaseGroup JCatch → List Signature
  signature_by (JMember-F.Declared head bodies end) = head_signature head
  signature_by (JMember-F.Bodied head left xs right) = head_signature head
  signature_by (JMember-F.Type head left constants bodies members right) = []

  unfoldable pub signature_in : JMember → List Signature
  signature_in x = signature_by (out-JMember x)

  abbrev pub signatures : List JMember → List Signature
  signatures [] = []
  signatures (x ∷ xs) = signature_in x ++ signatures xs

-- ---- two of one signature

abbrev pub agree : Bool → Bool → Bool
agree true y = y
agree false y = not y

-- the same name and, after erasure, the same types of parameters (JLS 8.4.2, 8.4.8.3, 8.8.2)
abbrev pub same_signature : Signature → Signature → Bool
same_signature x y = agree x.is_constructor y.is_constructor && (bytes_eq x.name y.name && same_pieces x.kinds y.kinds)

abbrev pub faults_from : ℕ → List Signature → List Signature → List NameFault
faults_from unit seen [] = []
faults_from unit seen (x ∷ xs) = fault_if (list_any (same_signature x) seen) unit x.at 2 ++ faults_from unit (seen ++ x ∷ []) xs

-- at the name of each method or constructor of a class that has the signature of an earlier one
abbrev pub signature_faults : World → ℕ → FileScope → Option JTypeParams → List JMember → List NameFault
signature_faults world unit scope params xs = faults_from unit [] (signatures world scope params xs)
