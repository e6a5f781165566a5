use Rattle.std.proofs.Common.{◌≡◌, ◌++◌, ◌≤◌, ◌<◌, length, Some, None, refl, sym, append-nil}
use Rattle.std.specs.Prelude.{slice_get}
use Rattle.std.proofs.lemmas.Option.{slice_get_past, slice_get_read}
use Rattle.java_type_names.specs.declared.scopes.FileScope.{FileScope}
use Rattle.java_supertypes.proofs.heads.push_unit.Goals as goal

pub returns-in-None : goal.returns-in-None
returns-in-None c =
    let e : slice_get {X = FileScope} c.args.scopes.now c.args.number ≡ None = slice_get_past c.args.scopes.now c.args.number c.in-None.ensures.lookup.3 in
    rw e (sym (append-nil c.args.out.now))

pub returns-in-Some : goal.returns-in-Some
returns-in-Some c =
    let e : slice_get {X = FileScope} c.args.scopes.now c.args.number ≡ Some c.in-Some.scope.now =
    slice_get_read c.args.scopes.now (length c.args.scopes.now) c.args.number c.in-Some.scope.now refl c.in-Some.ensures.lookup.3.0 c.in-Some.ensures.lookup.1 in
    rw (e, ← c.as_slice.ensures) c.push_types.ensures
