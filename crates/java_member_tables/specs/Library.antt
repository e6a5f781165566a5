-- The classes of the library as classes that have members.
use Rattle.std.specs.Prelude.{ℕ, ◌+◌, Bool, true, false, ◌==◌, if◌then◌else◌, List, [], ◌∷◌, ◌++◌, map, Option, Some, None, slice_get, codes}
use Rattle.std.specs.List.{filter, list_any}
use Rattle.java_lib.specs.declared.rows.Form.{Form}
use Rattle.java_lib.specs.declared.rows.Form.TheVariants as form
use Rattle.java_lib.specs.Library as lib
use Rattle.java_lib.specs.Library.{classes, list_class, map_class, members, runnable_class, system_class, thread_class}
use Rattle.java_lib.specs.Classes.{class_named}
use Rattle.java_members.specs.declared.classes.Access.TheVariants as access
use Rattle.java_members.specs.declared.classes.Member.{Member}
use Rattle.java_members.specs.declared.classes.Class.{Class}

-- ---- members, all of which are public

abbrev pub is_field : Form → Bool
is_field form.Constant = true
is_field _ = false

-- not a constructor, and nothing of `System.out` or `System.in`
abbrev pub is_method : Form → Bool
is_method form.Method = true
is_method form.Property = true
is_method form.Static = true
is_method form.Receiver = true
is_method form.Barred = true
is_method form.Create = false
is_method form.Constant = false
is_method form.Function = false
is_method form.Input = false

abbrev pub is_static : Form → Bool
is_static form.Static = true
is_static form.Constant = true
is_static _ = false

abbrev pub static_field : List ℕ → Member
static_field name = record { name = name; access = access.Public; is_static = true }

abbrev pub member : lib.Member → Member
member row = record { name = row.java; access = access.Public; is_static = is_static row.form }

-- System has the fields whose members the table names behind a dot
abbrev pub fields_besides : ℕ → List Member
fields_besides number = if number == system_class then static_field (codes "out") ∷ static_field (codes "in") ∷ [] else []

abbrev pub fields : ℕ → List lib.Member → List Member
fields number rows = map member (filter (λ row. is_field row.form) rows) ++ fields_besides number

abbrev pub methods : List lib.Member → List Member
methods rows = map member (filter (λ row. is_method row.form) rows)

abbrev pub if_rows : Option (List lib.Member) → List lib.Member
if_rows None = []
if_rows (Some rows) = rows

abbrev pub rows_of : ℕ → List lib.Member
rows_of number = if_rows (slice_get members number)

-- ---- classes: what the Java API says, and the table doesn't

abbrev pub interfaces : List ℕ
interfaces = list_class ∷ map_class ∷ runnable_class ∷ []

abbrev pub is_interface : ℕ → Bool
is_interface number = list_any (λ x. x == number) interfaces

abbrev pub above_by : Option ℕ → List ℕ
above_by None = []
above_by (Some above) = above ∷ []

-- a Thread is a Runnable
abbrev pub above_besides : ℕ → List ℕ
above_besides number = if number == thread_class then runnable_class ∷ [] else []

-- behind so many classes of the project
module _ (count : ℕ) where
  abbrev pub class : lib.Class → Class
  class x =
      record {
        home = x.package_name;
        is_interface = is_interface x.number;
        above = map (λ n. count + n) (above_by x.above ++ above_besides x.number);
        fields = fields x.number (rows_of x.number);
        methods = methods (rows_of x.number);
      }

  abbrev pub library_classes : List Class
  library_classes = map (λ (named : lib.Named). class named.1) classes

  -- the same, by the names of the classes: a helper, which no promise names
  abbrev pub if_class : Option lib.Class → List Class
  if_class None = []
  if_class (Some x) = class x ∷ []

  abbrev pub classes_named : List (List ℕ) → List Class
  classes_named [] = []
  classes_named (name ∷ names) = if_class (class_named name classes) ++ classes_named names

abbrev pub library_names : List (List ℕ)
library_names = map (λ (named : lib.Named). named.0) classes
