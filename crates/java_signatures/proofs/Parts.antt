-- The erased type of a type, by its parts.
use Rattle.std.proofs.Common.{◌≡◌, List, Option, append_assoc, append-nil}
use Rattle.java_tree.specs.declared.types.JType.{JType, fold_out-JType}
use Rattle.java_member_grammar.specs.declared.parts.JTypeParams.{JTypeParams}
use Rattle.java_type_names.specs.declared.classes.World.{World}
use Rattle.java_type_names.specs.declared.scopes.FileScope.{FileScope}
use Rattle.java_signatures.specs.declared.erasure.Piece.{Piece}
use Rattle.java_signatures.specs.Signatures.{kind, kind_by, kind_form}

pub kind_out : (world : World) (scope : FileScope) (params : Option JTypeParams) (x : JType) →
    kind world scope params x ≡ kind_form world scope params x
unfolding kind
kind_out world scope params x = fold_out-JType (List Piece) (kind_by world scope params) x

pub ruleset of_kinds = (kind_out, append_assoc, append-nil)
