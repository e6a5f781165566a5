use Rattle.std.proofs.Common.{◌≡◌, drop}
use Rattle.java_scopes.specs.Scopes.{run}
use Rattle.java_body_names.proofs.walk.walk.Given as goal

abbrev pub invariant-loop-x : goal.invariant-loop-x
invariant-loop-x g l = run (g.C.Context.setting l.context) l.state (drop l.x-index l.uses) ≡ run (g.C.Context.setting l.context) l.fn.state l.uses
