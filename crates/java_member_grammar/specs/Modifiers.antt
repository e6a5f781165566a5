-- Which modifiers may stand before what (JLS 8.1.1, 8.3.1, 8.4.3, 8.8.3, 9.3, 9.4, and the profile).
use Rattle.std.specs.Prelude.{ℕ, Bool, true, false, not, ◌&&◌, ◌||◌, nat_eq, nat_lt, List, [], ◌∷◌, Option, Some, None}
use Rattle.java_statement_grammar.specs.declared.declarations.JDeclarator.{JDeclarator}
use Rattle.java_member_grammar.specs.declared.modifiers.ModifierKind.{ModifierKind}
use Rattle.java_member_grammar.specs.declared.modifiers.ModifierKind.TheVariants as modifier
use Rattle.java_member_grammar.specs.declared.modifiers.JModifier.{JModifier}
use Rattle.std.specs.Str.{bytes_eq}
use Rattle.java_member_grammar.specs.declared.homes.JHome.{JHome}
use Rattle.java_member_grammar.specs.declared.homes.JHome.TheVariants as home
use Rattle.java_member_grammar.specs.declared.heads.JMemberHead.{JMemberHead}
use Rattle.java_member_grammar.specs.declared.heads.JMemberHead.TheVariants as head
use Rattle.java_member_grammar.specs.declared.heads.JTypeHead.{JTypeHead}
use Rattle.java_member_grammar.specs.declared.heads.JTypeHead.TheVariants as kind

-- the modifiers by number; those before 3 say who has access
abbrev pub number : ModifierKind → ℕ
number modifier.Public = 0
number modifier.Protected = 1
number modifier.Private = 2
number modifier.Abstract = 3
number modifier.Static = 4
number modifier.Final = 5
number modifier.Synchronized = 6
number modifier.Volatile = 7
number modifier.Default = 8
number (modifier.Override name) = 9

-- whether a modifier of this number is there
abbrev pub has : ℕ → List JModifier → Bool
has n [] = false
has n (x ∷ xs) = nat_eq n (number x.kind) || has n xs

abbrev pub has_access : List JModifier → Bool
has_access [] = false
has_access (x ∷ xs) = nat_lt (number x.kind) 3 || has_access xs

-- No modifier stands twice, and at most one says who has access.
abbrev pub differ : List JModifier → Bool
differ [] = true
differ (x ∷ xs) = not (has (number x.kind) xs) && (not (nat_lt (number x.kind) 3 && has_access xs) && differ xs)

abbrev pub among : (ModifierKind → Bool) → List JModifier → Bool
among allowed [] = true
among allowed (x ∷ xs) = allowed x.kind && among allowed xs

abbrev pub fit : (ModifierKind → Bool) → List JModifier → Bool
fit allowed mods = among allowed mods && differ mods

abbrev pub is_abstract : List JModifier → Bool
is_abstract = has 3

abbrev pub is_static : List JModifier → Bool
is_static = has 4

abbrev pub is_final : List JModifier → Bool
is_final = has 5

abbrev pub is_synchronized : List JModifier → Bool
is_synchronized = has 6

abbrev pub is_volatile : List JModifier → Bool
is_volatile = has 7

abbrev pub is_default : List JModifier → Bool
is_default = has 8

abbrev pub is_private : List JModifier → Bool
is_private = has 2

-- ---- members of a class or an enum

abbrev pub of_field : ModifierKind → Bool
of_field modifier.Public = true
of_field modifier.Protected = true
of_field modifier.Private = true
of_field modifier.Static = true
of_field modifier.Final = true
of_field modifier.Volatile = true
of_field _ = false

abbrev pub field_fits : List JModifier → Bool
field_fits mods = fit of_field mods && not (is_final mods && is_volatile mods)

abbrev pub of_method : ModifierKind → Bool
of_method modifier.Volatile = false
of_method modifier.Default = false
of_method _ = true

abbrev pub same : Bool → Bool → Bool
same true b = b
same false b = not b

-- A method has a body exactly where it isn't abstract.
abbrev pub method_fits : Bool → List JModifier → Bool
method_fits has_body mods =
    fit of_method mods && (same has_body (not (is_abstract mods))
    && not (is_abstract mods && (is_final mods || (is_private mods || (is_static mods || is_synchronized mods)))))

abbrev pub of_constructor : ModifierKind → Bool
of_constructor modifier.Public = true
of_constructor modifier.Protected = true
of_constructor modifier.Private = true
of_constructor _ = false

-- ---- members of an interface

abbrev pub of_constant : ModifierKind → Bool
of_constant modifier.Public = true
of_constant modifier.Static = true
of_constant modifier.Final = true
of_constant _ = false

abbrev pub have_values : List JDeclarator → Bool
have_values [] = true
have_values (x ∷ xs) = has_value x.value && have_values xs where
  has_value : {A : Type 0} → Option A → Bool
  has_value None = false
  has_value (Some v) = true

abbrev pub of_interface_method : ModifierKind → Bool
of_interface_method modifier.Public = true
of_interface_method modifier.Abstract = true
of_interface_method modifier.Static = true
of_interface_method modifier.Default = true
of_interface_method (modifier.Override name) = true
of_interface_method _ = false

-- It is abstract unless `static` or `default` stands.
abbrev pub interface_method_fits : Bool → List JModifier → Bool
interface_method_fits has_body mods =
    fit of_interface_method mods && (same has_body (is_static mods || is_default mods)
    && (not (is_static mods && is_default mods) && not (is_abstract mods && (is_static mods || is_default mods))))

-- ---- types: at the top of a file, or as a member of a class, or of an interface

abbrev pub of_top_class : ModifierKind → Bool
of_top_class modifier.Public = true
of_top_class modifier.Abstract = true
of_top_class modifier.Final = true
of_top_class _ = false

abbrev pub of_top_interface : ModifierKind → Bool
of_top_interface modifier.Public = true
of_top_interface modifier.Abstract = true
of_top_interface _ = false

abbrev pub of_top_enum : ModifierKind → Bool
of_top_enum modifier.Public = true
of_top_enum _ = false

abbrev pub in_class : (ModifierKind → Bool) → ModifierKind → Bool
in_class allowed modifier.Static = true
in_class allowed modifier.Protected = true
in_class allowed modifier.Private = true
in_class allowed other = allowed other

abbrev pub in_interface : (ModifierKind → Bool) → ModifierKind → Bool
in_interface allowed modifier.Static = true
in_interface allowed other = allowed other

abbrev pub in_home : JHome → (ModifierKind → Bool) → ModifierKind → Bool
in_home home.File allowed = allowed
in_home home.Class allowed = in_class allowed
in_home home.Interface allowed = in_interface allowed

abbrev pub type_fits : JHome → JTypeHead → Bool
type_fits place (kind.Class mods at n nat params above faces) = fit (in_home place of_top_class) mods && not (is_abstract mods && is_final mods)
type_fits place (kind.Interface mods at n nat params above) = fit (in_home place of_top_interface) mods
type_fits place (kind.Enum mods at n nat faces) = fit (in_home place of_top_enum) mods

-- ---- members. An anonymous class has no name, and so no constructor.

abbrev pub is_named : Option (List ℕ) → List ℕ → Bool
is_named None n = false
is_named (Some name) n = bytes_eq name n

abbrev pub class_member_fits : Option (List ℕ) → Bool → JMemberHead → Bool
class_member_fits name has_body head.Empty = not has_body
class_member_fits name has_body (head.Field mods x) = not has_body && field_fits mods
class_member_fits name has_body (head.Method mods params result n at formals throws) = method_fits has_body mods
class_member_fits name has_body (head.Constructor mods n at formals throws) = has_body && (is_named name n && fit of_constructor mods)
class_member_fits name has_body (head.Initializer static) = has_body

abbrev pub interface_member_fits : Bool → JMemberHead → Bool
interface_member_fits has_body head.Empty = not has_body
interface_member_fits has_body (head.Field mods x) = not has_body && (fit of_constant mods && have_values x.names)
interface_member_fits has_body (head.Method mods params result n at formals throws) = interface_method_fits has_body mods
interface_member_fits has_body _ = false
