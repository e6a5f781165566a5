-- The faults of a type, by its parts.
use Rattle.std.proofs.Common.{◌≡◌, ℕ, Bool, List, Option, append_assoc, append-nil}
use Rattle.java_tree.specs.declared.types.JType.{JType, fold_out-JType}
use Rattle.java_member_grammar.specs.declared.parts.JTypeParams.{JTypeParams}
use Rattle.java_classes.specs.declared.faults.NameFault.{NameFault}
use Rattle.java_type_names.specs.declared.classes.World.{World}
use Rattle.java_type_names.specs.declared.scopes.FileScope.{FileScope}
use Rattle.java_head_names.specs.Heads.{type_by, type_faults, type_form}

pub type_out : (world : World) (unit : ℕ) (scope : FileScope) (params : Option JTypeParams) (is_static : Bool) (x : JType) →
    type_faults world unit scope params is_static x ≡ type_form world unit scope params is_static x
unfolding type_faults
type_out world unit scope params is_static x = fold_out-JType (List NameFault) (type_by world unit scope params is_static) x

pub ruleset of_types = (type_out, append_assoc, append-nil)
