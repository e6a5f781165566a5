use Rattle.std.proofs.Common.{cond, ap}
use Rattle.java_scopes.specs.declared.states.Current.TheVariants.{Value}
use Rattle.java_scopes.specs.Scopes.{field_or_type, now}
use Rattle.java_scopes.proofs.laws.local_is_meant.Goals as goal

pub returns-clause-local : goal.returns-clause-local
returns-clause-local c = λ g s name at h. ap (λ b. cond b (now s Value) (field_or_type g s name at (g.field name))) h

pub returns-clause-other : goal.returns-clause-other
returns-clause-other c = λ g s name at h. ap (λ b. cond b (now s Value) (field_or_type g s name at (g.field name))) h
