-- What a program reads of typed Java trees, and which of them are taken.
use Rattle.std.specs.Prelude.{◌≡◌, ℕ, pos, Bool, true, false, ◌&&◌, not, ◌==◌, if◌then◌else◌, List, [], ◌∷◌, map, filter_map, Option, Some, None, is_none, slice_get, codes}
use Rattle.std.specs.Option.{option_map, option_map_or}
use Rattle.std.specs.Str.{bytes_eq}
use Rattle.j2k_base.specs.declared.constants.Const.TheVariants as const
use Rattle.j2k_base.specs.declared.constants.Value.{Value}
use Rattle.j2k_base.specs.declared.constants.Value.TheVariants as value
use Rattle.j2k_base.specs.declared.constants.Kind.TheVariants as kind
use Rattle.j2k_base.specs.declared.constants.Op2.{Op2}
use Rattle.j2k_base.specs.declared.constants.Op2.TheVariants as op
use Rattle.java_lib.specs.declared.rows.LibType.{LibType}
use Rattle.java_lib.specs.declared.rows.LibKind.{LibKind}
use Rattle.java_lib.specs.declared.rows.LibKind.TheVariants as lib
use Rattle.java_lib.specs.Library.{Class, Member, classes, members}
use Rattle.java_lib.specs.Classes.{class_simple}
use Rattle.java_typed.specs.declared.types.ClassRef.{ClassRef}
use Rattle.java_typed.specs.declared.types.ClassRef.TheVariants as class
use Rattle.java_typed.specs.declared.types.TType.{TType, out-TType}
use Rattle.java_typed.specs.declared.types.TType.TheOpen.{TType-F}
use Rattle.java_typed.specs.declared.members.Access.{Access}
use Rattle.java_typed.specs.declared.members.Access.TheVariants as access
use Rattle.java_typed.specs.declared.members.MemberRef.{MemberRef}
use Rattle.java_typed.specs.declared.exprs.TExpr.{TExpr, out-TExpr, fold-TExpr}
use Rattle.java_typed.specs.declared.exprs.TExpr.TheOpen.{TExpr-F}
use Rattle.java_typed.specs.declared.statements.TDeclarator.{TDeclarator}
use Rattle.java_typed.specs.declared.statements.TSimple.{TSimple}
use Rattle.java_typed.specs.declared.statements.TSimple.TheVariants as simple
use Rattle.java_typed.specs.declared.statements.TBody.{TBody}
use Rattle.java_typed.specs.declared.statements.TBody.TheOpen.{TStatement-F}
use Rattle.java_typed.specs.declared.statements.TCaseGroup.{TCaseGroup}
use Rattle.java_typed.specs.declared.statements.TCatch.{TCatch}
use Rattle.java_typed.specs.declared.statements.TStatement.{TStatement, out-TStatement}
use Rattle.java_typed.specs.declared.units.TParam.{TParam}
use Rattle.java_typed.specs.declared.units.TBlock.{TBlock}
use Rattle.java_typed.specs.declared.units.TMethod.{TMethod}
use Rattle.java_typed.specs.declared.units.TConstructor.{TConstructor}
use Rattle.java_typed.specs.declared.units.TClass.{TClass}
use Rattle.java_typed.specs.declared.units.TUnit.{TUnit}
use Rattle.meanings.specs.declared.operators.Operator.{Operator}
use Rattle.meanings.specs.declared.operators.Operator.TheVariants.{Plus, Minus, Times}
use Rattle.meanings.specs.Values.{Name}

-- ---- types

abbrev pub is_int_by : TType-F TType → Bool
is_int_by (TType-F.Number kind.Int) = true
is_int_by _ = false

-- `int` (JLS 4.2.1)
unfoldable pub is_int : TType → Bool
is_int k = is_int_by (out-TType k)

-- String is a class of the library (JLS 4.3.3)
abbrev pub is_string_by : TType-F TType → Bool
is_string_by (TType-F.Class (class.Library number) []) = number == 1
is_string_by _ = false

unfoldable pub is_string : TType → Bool
is_string k = is_string_by (out-TType k)

abbrev pub is_strings_by : TType-F TType → Bool
is_strings_by (TType-F.Array element) = is_string element
is_strings_by _ = false

-- `String[]` (JLS 10.1)
unfoldable pub is_strings : TType → Bool
is_strings k = is_strings_by (out-TType k)

-- ---- expressions

-- a literal of an int, which has no sign (JLS 3.10.1)
abbrev pub is_number : Value → Bool
is_number (value.Number (const.Int (pos n))) = true
is_number _ = false

-- `+ - *` (JLS 15.17.1, 15.18.2)
abbrev pub is_operator : Op2 → Bool
is_operator op.Add = true
is_operator op.Sub = true
is_operator op.Mul = true
is_operator _ = false

-- the operator of both languages that they are spelled by, of those that are taken
abbrev pub operator_of : Op2 → Operator
operator_of op.Add = Plus
operator_of op.Sub = Minus
operator_of _ = Times

-- taken are literals and locals of type int, parentheses and operators of these
abbrev pub is_taken_by : TExpr-F Bool → Bool
is_taken_by (TExpr-F.Literal v at) = is_number v
is_taken_by (TExpr-F.Local name at k) = is_int k
is_taken_by (TExpr-F.Paren at inner) = inner
is_taken_by (TExpr-F.Binary left o at right) = is_operator o && (left && right)
is_taken_by _ = false

unfoldable pub is_taken : TExpr → Bool
is_taken = fold-TExpr Bool is_taken_by

-- ---- statements

-- what a statement does, by its expression: it declares an int with its value (JLS 14.4), or prints an int and ends the line
-- (JLS 14.8); the others aren't taken
pub data Statement : Type 0 where
  Declares : Name → TExpr → Statement
  Prints : TExpr → Statement
  Untaken : Statement

abbrev pub is_println_at : ClassRef → ℕ → Bool
is_println_at (class.Library number) place = (number == 16) && (place == 8)
is_println_at (class.Project number) place = false

-- `System.out.println` of an int: this row of System in the library
unfoldable pub is_println : MemberRef → Bool
is_println member = is_println_at member.class member.place

abbrev pub is_int_kind : LibKind → Bool
is_int_kind (lib.Number kind.Int) = true
is_int_kind _ = false

abbrev pub is_one_int : List LibType → Bool
is_one_int (p ∷ []) = is_int_kind p.kind
is_one_int _ = false

abbrev pub prints_int : Member → Bool
prints_int row = bytes_eq row.java (codes "out.println") && is_one_int row.params

-- the rows of the class of a name
abbrev pub rows_of : List ℕ → List Member
rows_of name = option_map_or (λ (found : Class). option_map_or (λ (rows : List Member). rows) (slice_get members found.number) []) (class_simple name classes) []

-- that row prints an int and ends the line
abbrev pub PrintlnPrints : Type 0
PrintlnPrints = (option_map (λ (found : Class). found.number) (class_simple (codes "System") classes) ≡ Some 16) × (option_map prints_int (slice_get (rows_of (codes "System")) 8) ≡ Some true)

abbrev pub declared_by : TDeclarator → Option TExpr → Statement
declared_by d None = Untaken
declared_by d (Some e) = if is_int d.kind.kind then Declares d.name e else Untaken

abbrev pub called_by : TExpr-F TExpr → Statement
called_by (TExpr-F.StaticCall first member at (e ∷ []) result) = if is_println member then Prints e else Untaken
called_by _ = Untaken

abbrev pub simple_by : TSimple → Statement
simple_by (simple.Locals (d ∷ [])) = declared_by d d.value
simple_by (simple.Value e) = called_by (out-TExpr e)
simple_by _ = Untaken

abbrev pub statement_by : TStatement-F TBody TStatement TCaseGroup TCatch → Statement
statement_by (TStatement-F.Simple at x bodies) = simple_by x
statement_by _ = Untaken

unfoldable pub statement : TStatement → Statement
statement s = statement_by (out-TStatement s)

abbrev pub is_taken_statement : Statement → Bool
is_taken_statement (Declares name e) = is_taken e
is_taken_statement (Prints e) = is_taken e
is_taken_statement Untaken = false

abbrev pub are_taken : List Statement → Bool
are_taken [] = true
are_taken (s ∷ more) = is_taken_statement s && are_taken more

-- ---- `public static void main(String[] p)` (JLS 12.1.4)

-- the name of its parameter, and its statements
pub record MainMethod : Type 0 where
  pub parameter : Name
  pub body : List Statement

abbrev pub parameter_of : List TParam → Option Name
parameter_of (p ∷ []) = if is_strings p.kind.kind then Some p.name else None
parameter_of _ = None

abbrev pub main_from : Name → List TStatement → MainMethod
main_from parameter statements = record { parameter = parameter; body = map statement statements }

abbrev pub main_with : Option Name → Option TBlock → Option MainMethod
main_with (Some parameter) (Some block) = Some (main_from parameter block.statements)
main_with _ _ = None

abbrev pub is_public : Access → Bool
is_public access.Public = true
is_public _ = false

abbrev pub has_main_head : TMethod → Bool
has_main_head m = bytes_eq m.name (codes "main") && (is_public m.modifiers.access && (m.modifiers.is_static && is_none m.result))

abbrev pub main_of_method : TMethod → Option MainMethod
main_of_method m = if has_main_head m then main_with (parameter_of m.params) m.block else None

-- the `main` of a class whose one method it is
abbrev pub main_in : List TMethod → Option MainMethod
main_in (m ∷ []) = main_of_method m
main_in _ = None

-- ---- classes and units

-- a class of a project by what is run of it: its name, and its `main` where it has one
pub record MainClass : Type 0 where
  pub name : Name
  pub main : Option MainMethod

abbrev pub class_by : TClass → MainClass
class_by c = record { name = c.name; main = main_in c.methods }

abbrev pub class_among : List TClass → Option MainClass
class_among [] = None
class_among (c ∷ cs) = Some (class_by c)

-- the class of a unit that is taken, if it has one
abbrev pub class_in : TUnit → Option MainClass
class_in u = class_among u.classes

-- the classes of a project's units
abbrev pub classes_in : List TUnit → List MainClass
classes_in units = filter_map class_in units

abbrev pub is_empty : {A : Type 0} → List A → Bool
is_empty [] = true
is_empty (x ∷ xs) = false

abbrev pub is_taken_main : Option MainMethod → Bool
is_taken_main None = false
is_taken_main (Some main) = are_taken main.body

abbrev pub are_taken_methods : List TMethod → Bool
are_taken_methods [] = true
are_taken_methods (m ∷ []) = is_taken_main (main_of_method m)
are_taken_methods _ = false

-- constructors that aren't written do nothing where nothing stands above the class (JLS 8.8.9)
abbrev pub are_unwritten : List TConstructor → Bool
are_unwritten [] = true
are_unwritten (c ∷ cs) = not c.is_written && are_unwritten cs

-- Taken are classes directly below Object, whose one member, where they have one, is a `main` of statements that are taken.
abbrev pub is_taken_class : TClass → Bool
is_taken_class c =
    are_taken_methods c.methods
    && (is_none c.above && (is_empty c.faces && (is_empty c.type_params && (is_empty c.fields && (is_empty c.initializers && are_unwritten c.constructors)))))

abbrev pub are_taken_classes : List TClass → Bool
are_taken_classes [] = true
are_taken_classes (c ∷ []) = is_taken_class c
are_taken_classes _ = false

-- a unit with such a class, or with none
unfoldable pub is_taken_unit : TUnit → Bool
is_taken_unit u = are_taken_classes u.classes

-- each unit is taken
abbrev pub AllTaken : List TUnit → Type 0
AllTaken [] = Unit {0}
AllTaken (u ∷ us) = (is_taken_unit u ≡ true) × AllTaken us
