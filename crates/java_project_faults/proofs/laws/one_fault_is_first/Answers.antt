use Rattle.java_project_faults.proofs.Order.{either, first, never_both, one}
use Rattle.java_project_faults.proofs.laws.one_fault_is_first.Goals as goal

pub returns-clause-either : goal.returns-clause-either
returns-clause-either c = either

pub returns-clause-never_both : goal.returns-clause-never_both
returns-clause-never_both c = never_both

pub returns-clause-one : goal.returns-clause-one
returns-clause-one c = one

pub returns-clause-first : goal.returns-clause-first
returns-clause-first c = first
