-- How the code sees who a member belongs to, and lists of modifiers.
use Rattle.std.specs.Prelude.{◌≡◌, ◌+◌, ℕ, Bool, true, false, ◌&&◌, ◌||◌, nat_lt, List, [], ◌∷◌, length, Option, Some, None}
use Rattle.std.specs.Borrow.{Bor}
use Rattle.java_statement_grammar.specs.declared.declarations.JDeclarator.{JDeclarator}
use Rattle.java_member_grammar.specs.declared.homes.JHome.{JHome}
use Rattle.java_member_grammar.specs.declared.homes.JHome.TheVariants as home
use Rattle.java_member_grammar.specs.declared.modifiers.JModifier.{JModifier}
use Rattle.java_member_grammar.specs.declared.modifiers.ModifierKind.{ModifierKind}
use Rattle.java_member_grammar.specs.declared.modifiers.ModifierKind.TheVariants as modifier
use Rattle.java_member_grammar.specs.Modifiers as mo
use Rattle.java_unit_grammar.specs.Standing as u
use Rattle.java_modifier_rules.specs.declared.fits.Role.{Role}
use Rattle.java_modifier_rules.specs.declared.fits.Role.TheVariants as r
use Rattle.java_modifier_rules.specs.declared.fits.Owner.{Owner}
use Rattle.java_modifier_rules.specs.declared.fits.Owner.TheVariants as o
use Rattle.java_modifier_rules.specs.declared.modifiers.Subject.{Subject}
use Rattle.java_modifier_rules.specs.declared.modifiers.Subject.TheVariants as s

abbrev pub role_seen : Role → u.Role
role_seen r.First = u.Role.First
role_seen r.Inner = u.Role.Inner
role_seen r.Sole = u.Role.Sole

abbrev pub name_seen : Option (Bor (List ℕ)) → Option (List ℕ)
name_seen None = None
name_seen (Some n) = Some n.now

abbrev pub owner_seen : Owner → u.Owner
owner_seen (o.Class n) = u.Owner.Class (name_seen n)
owner_seen o.Interface = u.Owner.Interface

-- ---- lists

abbrev pub Parts : List JModifier → Option (JModifier × Bor (List JModifier)) → Type 0
Parts xs None = xs ≡ []
Parts xs (Some p) = xs ≡ p.0 ∷ p.1.now

abbrev pub ValueParts : List JDeclarator → Option (Bor JDeclarator × Bor (List JDeclarator)) → Type 0
ValueParts xs None = xs ≡ []
ValueParts xs (Some p) = xs ≡ p.0.now ∷ p.1.now

-- ---- modifiers

-- A modifier of the kind is there, or both say who has access.
abbrev pub clash : ModifierKind → List JModifier → Bool
clash kind xs = mo.has (mo.number kind) xs || (nat_lt (mo.number kind) 3 && mo.has_access xs)

-- what a place lets stand before each type in it
abbrev pub adds : JHome → ModifierKind → Bool
adds home.Class modifier.Static = true
adds home.Class modifier.Protected = true
adds home.Class modifier.Private = true
adds home.Interface modifier.Static = true
adds _ kind = false

abbrev pub in_place : JHome → ModifierKind → Bool → Bool
in_place place kind top = adds place kind || top

abbrev pub allowed : Subject → ModifierKind → Bool
allowed s.Field = mo.of_field
allowed s.Method = mo.of_method
allowed s.Constructor = mo.of_constructor
allowed s.Constant = mo.of_constant
allowed s.InterfaceMethod = mo.of_interface_method
allowed (s.Class place) = mo.in_home place mo.of_top_class
allowed (s.Interface place) = mo.in_home place mo.of_top_interface
allowed (s.Enum place) = mo.in_home place mo.of_top_enum

-- modifiers that ask for a body
abbrev pub overdone : List JModifier → Bool
overdone mods = mo.is_final mods || (mo.is_private mods || (mo.is_static mods || mo.is_synchronized mods))

abbrev pub has_value : {A : Type 0} → Option A → Bool
has_value None = false
has_value (Some v) = true
