-- All rules on types in a class.
use Rattle.std.specs.Prelude.{List, [], ◌++◌}
use Rattle.std.specs.List.{flat_map}
use Rattle.java_typed.specs.declared.types.TWritten.{TWritten}
use Rattle.java_typed.specs.declared.exprs.TExpr.{TExpr}
use Rattle.java_typed.specs.declared.units.TClass.{TClass}
use Rattle.java_type_relations.specs.declared.heads.Heads.{Heads}
use Rattle.java_walks.specs.Parts.{in_expression}
use Rattle.java_walks.specs.Texts.{of_class}
use Rattle.java_profile.specs.Faults.{Fault}
use Rattle.java_profile_types.specs.Written.{super_faults, written_faults}
use Rattle.java_profile_types.specs.Calls.{value_faults}
use Rattle.java_profile_types.specs.Places.{arrays_faults}

module _ (heads : Heads) (classes : List TClass) where
  abbrev pub of_type : TWritten → List Fault
  of_type w = written_faults classes w

  abbrev pub of_value : TExpr → List Fault
  of_value x = in_expression of_type x ++ value_faults classes x

  -- an anonymous class is judged among the classes; by the supertypes of the class as they are written, which its tree holds without their places
  abbrev pub class_faults : List TWritten → TClass → List Fault
  class_faults supers c = flat_map super_faults supers ++ (flat_map of_type supers ++ (of_class of_value of_type (λ number. []) c ++ arrays_faults heads classes c))
