-- What is noted of the declarations of a class and of a file.
use Rattle.std.specs.Prelude.{ℕ, Bool, true, false, not, ◌&&◌, ◌||◌, ◌==◌, if◌then◌else◌, List, [], ◌∷◌, ◌++◌, map, find, Option, Some, None, bytes_eq, is_some, length}
use Rattle.std.specs.List.{list_any, filter, flat_map}
use Rattle.kotlin_tree.specs.declared.places.Position.{Position}
use Rattle.kotlin_tree.specs.declared.members.KTyped.{KTyped}
use Rattle.kotlin_tree.specs.declared.files.KClass.{KClass}
use Rattle.kotlin_tree.specs.declared.files.KClassWord.{KClassWord}
use Rattle.kotlin_tree.specs.declared.files.KClassWord.TheVariants as sort
use Rattle.kotlin_tree.specs.declared.files.KFile.{KFile}
use Rattle.kotlin_tree.specs.declared.files.KImport.{KImport}
use Rattle.kotlin_tree.specs.declared.files.KSuper.{KSuper}
use Rattle.kotlin_tree.specs.declared.files.KTypeParam.{KTypeParam}
use Rattle.kotlin_flow.specs.Members.{Bare}
use Rattle.kotlin_types.specs.declared.kinds.KClassRef.{KClassRef}
use Rattle.kotlin_types.specs.declared.kinds.KKind.{KKind}
use Rattle.kotlin_typing.specs.declared.tables.KHolder.TheVariants as holder
use Rattle.kotlin_typing.specs.declared.tables.KCallable.{KCallable}
use Rattle.kotlin_typing.specs.declared.tables.KClassName.{KClassName}
use Rattle.kotlin_typing.specs.declared.tables.KProperty.{KProperty}
use Rattle.kotlin_typing.specs.declared.tables.KTables.{KTables}
use Rattle.kotlin_typing.specs.Notes.{Notes, noted}
use Rattle.kotlin_typing.specs.Written.{written}
use Rattle.kotlin_typing.specs.Bodies.{without_variables}
use Rattle.kotlin_project.specs.Declared.{Numbered, Declared, full_rows, import_path, imported, params_of, ref}
use Rattle.kotlin_project.specs.Members.{Function, face_by, faces_of, functions_at, in_companions, is_abstract, is_abstract_function, is_face_word, is_interface, members_of, named_supers, own_type, supers_of}
use Rattle.kotlin_project.specs.Tables.{Library, all, functions, interfaces, naming, opens, tables}
use Rattle.kotlin_declarations.specs.Inherited.{inherited, inherited_properties, overrides}
use Rattle.kotlin_declarations.specs.Accessors.{Method, accessor_notes, getter, setter}
use Rattle.kotlin_declarations.specs.Heads.{cycle_notes, is_interface_type, second_notes, supers_notes}
use Rattle.kotlin_declarations.specs.Members.{again, members_notes}
use Rattle.kotlin_typing.specs.declared.scope.KStore.{KStore}
use Rattle.kotlin_typing.specs.declared.scope.KStore.TheVariants as store

-- ---- K8: a class of which instances are made implements every abstract function. Of functions alike the first decides: its own,
-- then those of the class above, then those of interfaces

abbrev pub decides : List Function → Function → Option Function
decides all f = find (overrides f.callable) all

abbrev pub is_left_open : Option Function → Bool
is_left_open None = false
is_left_open (Some f) = is_abstract_function f

abbrev pub leaves_open : List Function → Bool
leaves_open all = list_any (λ (f : Function). is_left_open (decides all f)) all

abbrev pub open_notes : List ℕ → Position → Bool → List Function → Notes
open_notes path at is_abstract all = if not is_abstract && leaves_open all then noted path 8 at else []

-- a `fun interface` has one abstract function, and there is no `fun class`
abbrev pub word_notes : List ℕ → Position → KClassWord → ℕ → Notes
word_notes path at sort.Class faces = []
word_notes path at sort.Interface faces = []
word_notes path at (sort.FunClass word) faces = noted path 8 at
word_notes path at (sort.FunInterface word) faces = if faces == 1 then [] else noted path 8 at

-- ---- K1 and K3 of the types in a head, K2 of type parameters

abbrev pub super_notes : KTables → List ℕ → List KSuper → Notes
super_notes w path [] = []
super_notes w path (x ∷ xs) = (written w x.kind path).notes ++ super_notes w path xs

abbrev pub bound_notes : KTables → List ℕ → Option KTyped → Notes
bound_notes w path None = []
bound_notes w path (Some x) = (written w x.kind path).notes

abbrev pub params_notes : KTables → List ℕ → List KTypeParam → List KTypeParam → Notes
params_notes w path before [] = []
params_notes w path before (x ∷ xs) =
    ((if list_any (λ (y : KTypeParam). bytes_eq y.name.name x.name.name) before then noted path 2 x.name.at else []) ++ bound_notes w path x.bound)
    ++ params_notes w path (before ++ x ∷ []) xs

-- ---- K14 of what is inherited

abbrev pub setters_above : KProperty → KStore → List Method
setters_above p store.Free = if p.is_privately_set then [] else setter p.name ∷ []
setters_above p s = []

abbrev pub methods_above : List Function → List KProperty → List Method
methods_above fs ps =
    map (λ (f : Function). record { name = f.callable.name; count = length f.callable.params; is_accessor = false }) fs
    ++ flat_map (λ (p : KProperty). getter p.name ∷ setters_above p p.store) ps

-- ---- a class

module _ (library : Library) (files : List KFile) where
  abbrev pub above_functions : Numbered → List Function
  above_functions n = inherited (tables library files n) (functions library files) (own_type (ref n) n.is.class)

  abbrev pub above_properties : Numbered → List KProperty
  above_properties n = inherited_properties (tables library files n) (own_type (ref n) n.is.class)

  abbrev pub own_functions : Numbered → List Function
  own_functions n = functions_at (naming library files n) (is_interface n.is.class) (holder.Instance (ref n)) (members_of n.is.class)

  -- the head: its types, its supertypes, its type parameters
  abbrev pub head_notes : Numbered → Notes
  head_notes n =
      super_notes (tables library files n) n.is.file.path (supers_of n.is.class)
      ++ (params_notes (tables library files n) n.is.file.path [] (params_of n.is.class)
      ++ (supers_notes n.is.file.path n.is.class.name.at (is_interface n.is.class) (interfaces library files) (opens library files) (named_supers (naming library files n) (supers_of n.is.class))
      ++ (second_notes n.is.file.path n.is.class.name.at (filter (λ (x : KKind). not (is_interface_type (interfaces library files) x)) (named_supers (naming library files n) (supers_of n.is.class)))
      ++ cycle_notes (tables library files n) n.is.file.path n.is.class.name.at (own_type (ref n) n.is.class))))

  -- what is abstract
  abbrev pub abstract_notes : Numbered → Notes
  abstract_notes n =
      open_notes n.is.file.path n.is.class.name.at (is_abstract n.is.class) (own_functions n ++ above_functions n)
      ++ word_notes n.is.file.path n.is.class.name.at n.is.class.word (length (filter is_abstract_function (own_functions n)))

  -- members of the class and of its companion
  abbrev pub own_notes : Numbered → Notes
  own_notes n =
      members_notes (tables library files n) n.is.file.path (holder.Instance (ref n)) (is_interface n.is.class) (is_abstract n.is.class) (above_functions n) (above_properties n) (members_of n.is.class)
      ++ members_notes (without_variables (tables library files n)) n.is.file.path (holder.Companion (ref n)) false false [] [] (in_companions (members_of n.is.class))

  abbrev pub twice_notes : Numbered → Notes
  twice_notes n =
      again (tables library files n) n.is.file.path n.is.class.name.at [] (members_of n.is.class)
      ++ again (without_variables (tables library files n)) n.is.file.path n.is.class.name.at [] (in_companions (members_of n.is.class))

  abbrev pub accessors_notes : Numbered → Notes
  accessors_notes n =
      accessor_notes n.is.file.path n.is.class.name.at (methods_above (above_functions n) (above_properties n)) (members_of n.is.class)
      ++ accessor_notes n.is.file.path n.is.class.name.at [] (in_companions (members_of n.is.class))

  abbrev pub class_notes : Numbered → Notes
  class_notes n = head_notes n ++ (abstract_notes n ++ (own_notes n ++ (twice_notes n ++ accessors_notes n)))

  -- ---- K1 of imports

  abbrev pub import_by : List ℕ → KImport → Option KClassName → Notes
  import_by path x None = noted path 1 x.at
  import_by path x (Some c) = []

  abbrev pub import_notes : List ℕ → List KImport → Notes
  import_notes path [] = []
  import_notes path (x ∷ xs) = import_by path x (imported (full_rows (all library files) ++ library.names) (import_path x)) ++ import_notes path xs
