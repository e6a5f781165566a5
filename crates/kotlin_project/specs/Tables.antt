-- The tables that a class's text sees: of the library and of all files.
use Rattle.std.specs.Prelude.{◌+◌, zero, List, [], ◌++◌, map, length}
use Rattle.std.specs.List.{filter, flat_map}
use Rattle.kotlin_tree.specs.declared.files.KFile.{KFile}
use Rattle.kotlin_types.specs.declared.kinds.KClassRef.{KClassRef}
use Rattle.kotlin_types.specs.declared.classes.KClassHead.{KClassHead}
use Rattle.kotlin_types.specs.declared.classes.KClasses.{KClasses}
use Rattle.kotlin_typing.specs.declared.tables.KCallable.{KCallable}
use Rattle.kotlin_typing.specs.declared.tables.KProperty.{KProperty}
use Rattle.kotlin_typing.specs.declared.tables.KClassName.{KClassName}
use Rattle.kotlin_typing.specs.declared.tables.KFace.{KFace}
use Rattle.kotlin_typing.specs.declared.tables.KTables.{KTables}
use Rattle.kotlin_project.specs.Declared.{Numbered, names_in, numbered, params_of, ref, variables_from}
use Rattle.kotlin_project.specs.Members.{Function, constructors_of, faces_of, functions_of, head_row, is_abstract, is_interface, is_open, properties_of}

-- what a project finds beside its files: classes with their names, their functions and whether these may be overridden,
-- constructors and what is named alone or behind dots, properties, `fun interface`s; which classes are interfaces, which are
-- abstract classes, and which others may be extended
pub record Library : Type 0 where
  pub classes : List KClassHead
  pub names : List KClassName
  pub functions : List Function
  pub others : List KCallable
  pub properties : List KProperty
  pub faces : List KFace
  pub interfaces : List KClassRef
  pub abstracts : List KClassRef
  pub opens : List KClassRef

module _ (library : Library) (files : List KFile) where
  abbrev pub all : List Numbered
  all = numbered files

  -- what the types of a class name: its file's names and its type parameters
  abbrev pub naming : Numbered → KTables
  naming n = record {
    classes = record { library = []; project = []; steps = zero };
    names = names_in library.names all n.is.file;
    variables = variables_from (ref n) zero (params_of n.is.class);
    callables = [];
    properties = [];
    faces = [];
    abstracts = [];
  }

  abbrev pub interfaces : List KClassRef
  interfaces = library.interfaces ++ map ref (filter (λ (n : Numbered). is_interface n.is.class) all)

  abbrev pub abstracts : List KClassRef
  abstracts = library.interfaces ++ (library.abstracts ++ map ref (filter (λ (n : Numbered). is_abstract n.is.class) all))

  -- what may be a supertype
  abbrev pub opens : List KClassRef
  opens = library.interfaces ++ (library.abstracts ++ (library.opens ++ map ref (filter (λ (n : Numbered). is_open n.is.class) all)))

  abbrev pub head_at : Numbered → KClassHead
  head_at n = head_row (naming n) interfaces n.is.class

  abbrev pub functions_in : Numbered → List Function
  functions_in n = functions_of (naming n) (ref n) n.is.class

  abbrev pub constructors_in : Numbered → List KCallable
  constructors_in n = constructors_of (naming n) (ref n) n.is.class

  abbrev pub properties_in : Numbered → List KProperty
  properties_in n = properties_of (naming n) (ref n) n.is.class

  abbrev pub faces_in : Numbered → List KFace
  faces_in n = faces_of (naming n) (ref n) n.is.class

  -- of a class of the project its own, before those of the library
  abbrev pub functions : List Function
  functions = flat_map functions_in all ++ library.functions

  -- no way up the supertypes has more steps than there are classes
  abbrev pub classes : KClasses
  classes = record { library = library.classes; project = map head_at all; steps = length library.classes + length all }

  abbrev pub tables : Numbered → KTables
  tables n = record {
    classes = classes;
    names = names_in library.names all n.is.file;
    variables = variables_from (ref n) zero (params_of n.is.class);
    callables = map (λ (f : Function). f.callable) functions ++ (flat_map constructors_in all ++ library.others);
    properties = flat_map properties_in all ++ library.properties;
    faces = flat_map faces_in all ++ library.faces;
    abstracts = abstracts;
  }
