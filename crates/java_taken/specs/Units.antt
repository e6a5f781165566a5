-- What a unit is judged to be.
use Rattle.std.specs.Prelude.{ℕ, Bool, true, false, ◌&&◌, ◌||◌, not, if◌then◌else◌, nat_lt, nat_eq, List, [], ◌∷◌, ◌++◌, map, Option, Some, None, codes}
use Rattle.std.specs.Str.{bytes_eq}
use Rattle.std.specs.List.{ends_with}
use Rattle.java_tree.specs.declared.tokens.Comment.{Comment}
use Rattle.java_tree.specs.declared.tokens.Position.{Position}
use Rattle.java_tree.specs.declared.types.JDotted.{JDotted}
use Rattle.java_tree.specs.declared.types.JQualified.{JQualified}
use Rattle.java_tree.specs.declared.types.JType.{JType, out-JType}
use Rattle.java_tree.specs.declared.types.JType.TheOpen.{JType-F}
use Rattle.java_tree.specs.declared.types.JBrackets.{JBrackets}
use Rattle.java_tree.specs.declared.exprs.JTypedParam.{JTypedParam}
use Rattle.java_member_grammar.specs.declared.modifiers.JModifier.{JModifier}
use Rattle.java_member_grammar.specs.declared.modifiers.ModifierKind.{ModifierKind}
use Rattle.java_member_grammar.specs.declared.modifiers.ModifierKind.TheVariants as modifier
use Rattle.java_member_grammar.specs.declared.heads.JResult.TheVariants as result
use Rattle.java_member_grammar.specs.declared.heads.JMemberHead.{JMemberHead}
use Rattle.java_member_grammar.specs.declared.heads.JMemberHead.TheVariants as head
use Rattle.java_member_grammar.specs.declared.heads.JTypeHead.{JTypeHead}
use Rattle.java_member_grammar.specs.declared.heads.JTypeHead.TheVariants as kind
use Rattle.java_member_grammar.specs.declared.lines.JImport.{JImport}
use Rattle.java_member_grammar.specs.declared.lines.JPackage.{JPackage}
use Rattle.java_unit_grammar.specs.declared.statements.JBody.{JBody}
use Rattle.java_unit_grammar.specs.declared.statements.JCase.{JCase}
use Rattle.java_unit_grammar.specs.declared.statements.JCaseGroup.{JCaseGroup}
use Rattle.java_unit_grammar.specs.declared.statements.JCatch.{JCatch}
use Rattle.java_unit_grammar.specs.declared.statements.JMember.{JMember, out-JMember}
use Rattle.java_unit_grammar.specs.declared.statements.JStatement.{JStatement}
use Rattle.java_unit_grammar.specs.declared.statements.JBody.TheOpen.{JMember-F}
use Rattle.java_unit_grammar.specs.declared.units.JUnit.{JUnit}
use Rattle.java_typed.specs.declared.types.ClassRef.TheVariants as class
use Rattle.java_typed.specs.declared.types.TType.{TType}
use Rattle.java_typed.specs.declared.types.TType.TheVariants as ty
use Rattle.java_typed.specs.declared.types.TWritten.{TWritten}
use Rattle.java_typed.specs.declared.members.Access.TheVariants.{Public}
use Rattle.java_typed.specs.declared.members.TModifiers.{TModifiers}
use Rattle.java_typed.specs.declared.statements.TStatement.{TStatement}
use Rattle.java_typed.specs.declared.units.ClassSort.TheVariants as sort
use Rattle.java_typed.specs.declared.units.TFirstCall.TheVariants as call
use Rattle.java_typed.specs.declared.units.TConstructor.{TConstructor}
use Rattle.java_typed.specs.declared.units.TMethod.{TMethod}
use Rattle.java_typed.specs.declared.units.TParam.{TParam}
use Rattle.java_typed.specs.declared.units.TMember.{TMember}
use Rattle.java_typed.specs.declared.units.TMember.TheVariants as order
use Rattle.java_typed.specs.declared.units.TClass.{TClass}
use Rattle.java_typed.specs.declared.units.TUnit.{TUnit}
use Rattle.java_taken.specs.declared.judged.Judged.{Judged as Answer}
use Rattle.java_taken.specs.declared.judged.Judged.TheVariants as answer
use Rattle.java_taken.specs.Judged.{Judged, ◌>>=◌}
use Rattle.java_taken.specs.Names.{is_free, is_identifier, is_variable, contains_name}
use Rattle.java_taken.specs.Places.{nowhere, type_at, member_at}
use Rattle.java_taken.specs.Statements.{statements}

-- ---- `public static void main(String[] p)` (JLS 12.1.4)

abbrev pub are_main : List ModifierKind → Bool
are_main (modifier.Public ∷ modifier.Static ∷ []) = true
are_main (modifier.Static ∷ modifier.Public ∷ []) = true
are_main _ = false

abbrev pub kinds : List JModifier → List ModifierKind
kinds mods = map (λ x. x.kind) mods

abbrev pub is_simple : List JDotted → Bool
is_simple [] = true
is_simple (x ∷ xs) = false

abbrev pub is_string_by : JType-F JType → Bool
is_string_by (JType-F.Class name) = bytes_eq name.name (codes "String") && is_simple name.rest
is_string_by _ = false

unfoldable pub is_string : JType → Bool
is_string x = is_string_by (out-JType x)

abbrev pub is_one : List JBrackets → Bool
is_one (x ∷ []) = true
is_one _ = false

abbrev pub is_strings_by : JType-F JType → Bool
is_strings_by (JType-F.Array element brackets) = is_string element && is_one brackets
is_strings_by _ = false

-- `String[]`
unfoldable pub is_strings : JType → Bool
is_strings x = is_strings_by (out-JType x)

abbrev pub is_parameter : Option Position → JType → Bool
is_parameter None kind = is_strings kind
is_parameter (Some at) kind = false

-- The one parameter of a head of `main`, where it is one.
abbrev pub only : List JTypedParam → Option JTypedParam
only (x ∷ []) = if is_parameter x.is_final x.kind then Some x else None
only _ = None

abbrev pub main_parameter : JMemberHead → Option JTypedParam
main_parameter (head.Method mods None (result.Void void_at) name at formals None) = if are_main (kinds mods) && bytes_eq name (codes "main") then only formals.items else None
main_parameter _ = None

-- where the name of a method stands
abbrev pub name_place : JMemberHead → Position
name_place (head.Method mods params answer name at formals throws) = at
name_place _ = nowhere

-- ---- the trees

abbrev pub modifiers : Bool → TModifiers
modifiers is_static = record { access = Public; is_static = is_static; is_final = false; is_abstract = false; is_synchronized = false; is_volatile = false }

abbrev pub strings_type : TType
strings_type = ty.Array (ty.Class (class.Library 1) [])

-- where `String[]` names its types: the array at its bracket
abbrev pub places_by : JType-F JType → List Position
places_by (JType-F.Array element (brackets ∷ [])) = brackets.opens ∷ type_at element ∷ []
places_by _ = []

unfoldable pub places_of : JType → List Position
places_of x = places_by (out-JType x)

abbrev pub strings_written : JType → TWritten
strings_written x = record { kind = strings_type; places = places_of x }

-- the parameter of `main`
abbrev pub params_of : JTypedParam → List TParam
params_of x = record { name = x.name; at = x.at; kind = strings_written x.kind; is_final = false } ∷ []

-- `public static void main(String[] p)`, from its first token; where its name stands, its parameter, its statements and the `}`
abbrev pub main_method : Position → Position → JTypedParam → List TStatement → Position → TMethod
main_method first at x body closes = record {
  first = first;
  name = codes "main";
  at = at;
  modifiers = modifiers true;
  type_params = [];
  params = params_of x;
  result = None;
  throws = [];
  block = Some (record { statements = body; closes = closes });
}

-- the constructor that isn't written stands at the name of the class (JLS 8.8.9)
abbrev pub default_constructor : Position → TConstructor
default_constructor at = record {
  first = at;
  at = at;
  is_written = false;
  modifiers = modifiers false;
  params = [];
  throws = [];
  call = call.Nothing;
  block = record { statements = []; closes = at };
}

-- the first of the methods
abbrev pub order_of : List TMethod → List TMember
order_of [] = []
order_of (m ∷ ms) = order.Method 0 ∷ []

-- a public class directly below Object, from its first token; its name, where that stands, its methods
abbrev pub class_with : Position → List ℕ → Position → List TMethod → TClass
class_with first name at methods = record {
  around = None;
  first = first;
  name = name;
  at = at;
  sort = sort.Class;
  modifiers = modifiers false;
  type_params = [];
  above = None;
  faces = [];
  fields = [];
  methods = methods;
  constructors = default_constructor at ∷ [];
  initializers = [];
  order = order_of methods;
  captured = [];
}

module _ (classes : List (List ℕ)) where
  -- the name of a parameter comes before the statements
  abbrev pub main_of : Position → Position → JTypedParam → List JStatement → Position → Judged TMethod
  main_of first at x xs closes =
      if is_variable x.name && not (contains_name classes x.name)
      then (statements classes x.name [] xs >>= λ body. Judged.Typed (main_method first at x body closes))
      else Judged.Open x.at

  abbrev pub bodied : Position → Position → Option JTypedParam → List JStatement → Position → Judged TMethod
  bodied first at None xs closes = Judged.Open first
  bodied first at (Some x) xs closes = main_of first at x xs closes

  abbrev pub member_of : Position → JMember-F JBody JMember JStatement JCase JCaseGroup JCatch → Judged TMethod
  member_of at (JMember-F.Bodied head left xs right) = bodied at (name_place head) (main_parameter head) xs right
  member_of at _ = Judged.Open at

  unfoldable pub member : JMember → Judged TMethod
  member x = member_of (member_at x) (out-JMember x)

  -- at most one
  abbrev pub members : List JMember → Judged (List TMethod)
  members [] = Judged.Typed []
  members (x ∷ []) = member x >>= λ main. Judged.Typed (main ∷ [])
  members (x ∷ y ∷ more) = member x >>= λ main. Judged.Open (member_at y)

-- ---- a class (JLS 8.1) with the one modifier `public`

abbrev pub are_public : List ModifierKind → Bool
are_public (modifier.Public ∷ []) = true
are_public _ = false

-- a class's name, and where it stands
abbrev pub Named : Type 0
Named = List ℕ × Position

abbrev pub class_named : JTypeHead → Option Named
class_named (kind.Class mods at name name_at None None None) = if are_public (kinds mods) then Some (name, name_at) else None
class_named _ = None

-- The file is named as the class, which has no `/` (own rule where JLS 7.6 leaves it open).
abbrev pub is_file_of : List ℕ → List ℕ → Bool
is_file_of path name = bytes_eq path (name ++ codes ".java") || ends_with nat_eq path (codes "/" ++ (name ++ codes ".java"))

-- the name of the class in the file of the path: that of no class of an earlier file
abbrev pub may_name : List (List ℕ) → List ℕ → List ℕ → Bool
may_name earlier path name = is_free name && not (contains_name earlier name) && is_file_of path name

abbrev pub class_of : List (List ℕ) → Position → List ℕ → Position → List JMember → Judged TClass
class_of classes first name at xs = members classes xs >>= λ methods. Judged.Typed (class_with first name at methods)

-- The names of the project's classes, those of the classes of earlier files, and the path of the file.
module _ (classes earlier : List (List ℕ)) (path : List ℕ) where
  -- a class's name comes before its members
  abbrev pub named : Position → List ℕ → Position → List JMember → Judged TClass
  named first name at xs = if may_name earlier path name then class_of classes first name at xs else Judged.Open at

  abbrev pub headed : Position → Option Named → List JMember → Judged TClass
  headed first None xs = Judged.Open first
  headed first (Some x) xs = named first x.0 x.1 xs

  abbrev pub top_of : Position → JMember-F JBody JMember JStatement JCase JCaseGroup JCatch → Judged TClass
  top_of at (JMember-F.Type head left constants bodies xs right) = headed at (class_named head) xs
  top_of at _ = Judged.Open at

  -- a type, or a `;`
  unfoldable pub top : JMember → Judged TClass
  top x = top_of (member_at x) (out-JMember x)

  -- at most one in a file
  abbrev pub types : List JMember → Judged (List TClass)
  types [] = Judged.Typed []
  types (x ∷ []) = top x >>= λ class. Judged.Typed (class ∷ [])
  types (x ∷ y ∷ more) = top x >>= λ class. Judged.Open (member_at y)

-- ---- a package line (JLS 7.4.1), whose names come first

abbrev pub part_of : List ℕ → Position → Judged (List ℕ)
part_of name at = if is_identifier name then Judged.Typed name else Judged.Open at

abbrev pub parts_of : List JDotted → Judged (List (List ℕ))
parts_of [] = Judged.Typed []
parts_of (x ∷ xs) = part_of x.name x.at >>= λ name. parts_of xs >>= λ names. Judged.Typed (name ∷ names)

abbrev pub qualified_of : JQualified → Judged (List (List ℕ))
qualified_of x = part_of x.name x.at >>= λ name. parts_of x.rest >>= λ names. Judged.Typed (name ∷ names)

abbrev pub package_of : Option JPackage → Judged (List (List ℕ))
package_of None = Judged.Typed []
package_of (Some x) = qualified_of x.name

-- ---- a unit (JLS 7.3)

-- no import is taken
abbrev pub imports_of : List JImport → Judged (Unit {0})
imports_of [] = Judged.Typed tt
imports_of (x ∷ xs) = Judged.Open x.at

-- without comments
abbrev pub unit_of : List ℕ → List (List ℕ) → List TClass → TUnit
unit_of path parts classes = record { path = path; «package» = parts; classes = classes; comments = [] }

-- without its comments
abbrev pub declared : List (List ℕ) → List (List ℕ) → JUnit → Judged TUnit
declared classes earlier x =
    package_of x.package >>= λ parts. imports_of x.imports >>= λ none. types classes earlier x.path x.types >>= λ found. Judged.Typed (unit_of x.path parts found)

abbrev pub before : Position → Judged TUnit → Judged TUnit
before at (Judged.Typed x) = Judged.Open at
before at (Judged.Open other) = if nat_lt at.offset other.offset then Judged.Open at else Judged.Open other

-- each comment is open
abbrev pub commented : List Comment → Judged TUnit → Judged TUnit
commented [] judged = judged
commented (x ∷ xs) judged = before x.position judged

-- of the project's classes these are the names, and of those in earlier files
unfoldable pub unit : List (List ℕ) → List (List ℕ) → JUnit → Judged TUnit
unit classes earlier x = commented x.comments (declared classes earlier x)

-- what the code answers
abbrev pub seen : Answer → Judged TUnit
seen (answer.Open at) = Judged.Open at
seen (answer.Typed x) = Judged.Typed x
