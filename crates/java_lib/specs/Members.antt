-- Facts of the library's members.
use Rattle.std.specs.Prelude.{ℕ, Bool, true, false, ◌&&◌, ◌==◌, not, List, [], ◌∷◌, length, bytes_eq, nat_lt}
use Rattle.std.specs.List.{list_all, list_any}
use Rattle.std.specs.Option.{option_map_or}
use Rattle.j2k_base.specs.declared.constants.Kind.{Kind}
use Rattle.j2k_base.specs.declared.constants.Kind.TheVariants.{Byte, Short, Char, Int, Long}
use Rattle.java_lib.specs.declared.rows.LibKind.{LibKind}
use Rattle.java_lib.specs.declared.rows.LibKind.TheVariants.{Void, Boolean, Number, Object, Variable, Chars}
use Rattle.java_lib.specs.declared.rows.LibType.{LibType}
use Rattle.java_lib.specs.declared.rows.MemberRow.{MemberRow}
use Rattle.java_lib.specs.Library.{Member, classes}
use Rattle.java_lib.specs.Classes.{params_of}

-- what a row says
abbrev pub member_of : MemberRow → Member
member_of row =
    record { java = row.java.now; kotlin = row.kotlin.now; form = row.form; params = row.params.now; result = row.result; throws = row.throws }

abbrev pub number_index : Kind → ℕ
number_index Byte = 0
number_index Short = 1
number_index Char = 2
number_index Int = 3
number_index Long = 4

abbrev pub same_kind : LibKind → LibKind → Bool
same_kind Void Void = true
same_kind Boolean Boolean = true
same_kind (Number a) (Number b) = number_index a == number_index b
same_kind (Object a) (Object b) = a == b
same_kind (Variable a) (Variable b) = a == b
same_kind Chars Chars = true
same_kind _ _ = false

abbrev pub same_kinds : List LibType → List LibType → Bool
same_kinds [] [] = true
same_kinds (a ∷ some) (b ∷ others) = same_kind a.kind b.kind && same_kinds some others
same_kinds _ _ = false

-- the two have one name and the same types of parameters
abbrev pub same_member : Member → Member → Bool
same_member a b = bytes_eq a.java b.java && same_kinds a.params b.params

-- no two have one name and the same types of parameters
abbrev pub members_differ : List Member → Bool
members_differ [] = true
members_differ (row ∷ rows) = not (list_any (same_member row) rows) && members_differ rows

-- the class, or the type parameter of the class, that a type names is one of so many
abbrev pub kind_stands : ℕ → ℕ → LibKind → Bool
kind_stands count params (Object class) = nat_lt class count
kind_stands count params (Variable place) = nat_lt place params
kind_stands count params _ = true

-- so are those that a member names
abbrev pub member_stands : ℕ → ℕ → Member → Bool
member_stands count params row =
    list_all (λ (param : LibType). kind_stands count params param.kind) row.params
    && kind_stands count params row.result.kind
    && option_map_or (λ class. nat_lt class count) row.throws true

-- so are those that the members of the class of a number name
abbrev pub members_stand : ℕ → List Member → Bool
members_stand class rows = list_all (member_stands (length classes) (params_of class)) rows
