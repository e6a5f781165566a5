use Rattle.kotlin_flow.proofs.Noted.{assigned, assigned_bare, once_each, never_behind_this, once_bare, never_elsewhere}
use Rattle.kotlin_flow.proofs.laws.properties_are_kept.Goals as goal

pub returns-clause-assigned : goal.returns-clause-assigned
returns-clause-assigned c = assigned

pub returns-clause-assigned_without_constructor : goal.returns-clause-assigned_without_constructor
returns-clause-assigned_without_constructor c = assigned_bare

pub returns-clause-once : goal.returns-clause-once
returns-clause-once c = once_each

pub returns-clause-never_behind_this : goal.returns-clause-never_behind_this
returns-clause-never_behind_this c = never_behind_this

pub returns-clause-once_without_constructor : goal.returns-clause-once_without_constructor
returns-clause-once_without_constructor c = once_bare

pub returns-clause-never_elsewhere : goal.returns-clause-never_elsewhere
returns-clause-never_elsewhere c = never_elsewhere
