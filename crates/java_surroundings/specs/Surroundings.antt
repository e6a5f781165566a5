-- What the class around a body, its file and its project tell of names.
use Rattle.std.specs.Prelude.{ℕ, Bool, true, false, not, nat_eq, if◌then◌else◌, List, [], ◌∷◌, length, Option, Some, None, slice_get}
use Rattle.std.specs.List.{filter, list_any}
use Rattle.java_type_names.specs.declared.classes.Meant.{Meant}
use Rattle.java_type_names.specs.declared.classes.Meant.TheVariants as m
use Rattle.java_member_grammar.specs.declared.parts.JTypeParams.{JTypeParams}
use Rattle.java_type_names.specs.declared.classes.World.{World}
use Rattle.java_type_names.specs.declared.scopes.FileScope.{FileScope}
use Rattle.java_type_names.specs.Places.{first_type, next_part}
use Rattle.java_supertypes.specs.declared.heads.ClassKind.{ClassKind}
use Rattle.java_supertypes.specs.declared.heads.ClassKind.TheVariants as kind
use Rattle.java_supertypes.specs.declared.heads.Heading.{Heading}
use Rattle.java_supertypes.specs.Supertypes.{is_parameter}
use Rattle.java_declared_names.specs.Declared.{is_reserved_variable}
use Rattle.java_members.specs.declared.classes.Class.{Class}
use Rattle.java_members.specs.declared.classes.Sort.TheVariants as sort
use Rattle.java_members.specs.declared.inheritance.Found.{Found}
use Rattle.java_members.specs.Members.{members}
use Rattle.java_members.specs.Access.{is_accessible}
use Rattle.java_member_tables.specs.Tables.{number_of}
use Rattle.java_scopes.specs.declared.states.Answer.{Answer}
use Rattle.java_scopes.specs.declared.states.Answer.TheVariants as a
use Rattle.java_scopes.specs.Scopes.{Setting}
use Rattle.java_surroundings.specs.declared.surroundings.Surroundings.{Surroundings}

-- ---- members that were found by one name

abbrev pub is_of_other : ℕ → Found → Bool
is_of_other class x = not (nat_eq x.class class)

abbrev pub answer_of : Bool → Answer
answer_of is_static = if is_static then a.Static else a.Instance

-- fields of two classes are ambiguous (JLS 8.3.3, 9.3, 15.11.1)
abbrev pub field_answer : List Found → Answer
field_answer [] = a.Absent
field_answer (x ∷ xs) = if list_any (is_of_other x.class) xs then a.Several else answer_of x.is_static

-- Which of several methods is called is found with the types: here it counts whether one of them is static (own rule).
abbrev pub method_answer : List Found → Answer
method_answer [] = a.Absent
method_answer (x ∷ xs) = answer_of (list_any (λ y. y.is_static) (x ∷ xs))

abbrev pub is_class : Option Class → Bool
is_class None = false
is_class (Some x) = not x.is_interface

-- ---- look-ups from a class of a number

module _ (table : List Class) where
  -- those that may be named from there (JLS 6.6)
  abbrev pub seen : ℕ → List Found → List Found
  seen own xs = filter (λ x. is_accessible table (length table) own x.class x.access) xs

  abbrev pub fields_of : List ℕ → ℕ → List Found
  fields_of name class = members table sort.Field name (length table) class

  abbrev pub methods_of : List ℕ → ℕ → List Found
  methods_of name class = members table sort.Method name (length table) class

  abbrev pub first_class : List ℕ → Option ℕ
  first_class [] = None
  first_class (x ∷ xs) = if is_class (slice_get table x) then Some x else first_class xs

  -- the superclass, which an interface hasn't (JLS 8.1.4, 15.12.1)
  abbrev pub superclass : Option Class → Option ℕ
  superclass None = None
  superclass (Some x) = if x.is_interface then None else first_class x.above

  abbrev pub super_found : List ℕ → Option ℕ → List Found
  super_found name None = []
  super_found name (Some class) = methods_of name class

abbrev pub is_enum_by : ClassKind → Bool
is_enum_by kind.Enum = true
is_enum_by _ = false

-- an enum isn't built yet
abbrev pub is_enum : Option Heading → Bool
is_enum None = false
is_enum (Some x) = is_enum_by x.kind

abbrev pub is_open : List Heading → Meant → Bool
is_open headings (m.Project number) = is_enum (slice_get headings number)
is_open headings (m.Library number) = false

abbrev pub unless : Bool → Answer → Answer
unless is_open answer = if is_open then a.Open else answer

-- Of the classes and packages of the project, the scope of the file, the headings of the project's classes, the table of all classes,
-- the type parameters of the class, and the numbers of the file and of the class
module _ (world : World) (scope : FileScope) (headings : List Heading) (table : List Class) (params : Option JTypeParams) (unit class : ℕ) where
  -- whether there is no object of the class, and whether `return` may stand there
  abbrev pub setting_of : Bool → Bool → Setting
  setting_of is_static may_return = record {
    unit = unit;
    is_static = is_static;
    may_return = may_return;
    is_reserved = λ name. is_reserved_variable world.rows name;
    is_type_parameter = λ name. is_parameter name params;
    first_type = λ name at. first_type world scope name at;
    next_part = λ text place name at. next_part world scope.home text place name at;
    field = λ name. field_answer (fields_of table name class);
    method = λ name. method_answer (methods_of table name class);
    super_method = λ name. method_answer (seen table class (super_found table name (superclass table (slice_get table class))));
    class_field = λ other name. unless (is_open headings other) (field_answer (seen table class (fields_of table name (number_of (length headings) other))));
    class_method = λ other name. unless (is_open headings other) (method_answer (seen table class (methods_of table name (number_of (length headings) other))));
  }

abbrev pub setting : Surroundings → Setting
setting c = setting_of c.world.now c.scope.now c.headings.now c.table.now c.params.now c.unit c.class c.is_static c.may_return
