use Rattle.kotlin_typed_files.proofs.Judged.{either, never_both, one}
use Rattle.kotlin_typed_files.proofs.laws.files_are_judged.Goals as goal

pub returns-clause-either : goal.returns-clause-either
returns-clause-either c = either

pub returns-clause-never_both : goal.returns-clause-never_both
returns-clause-never_both c = never_both

pub returns-clause-one : goal.returns-clause-one
returns-clause-one c = one
