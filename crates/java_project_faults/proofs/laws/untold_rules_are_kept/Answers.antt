use Rattle.java_project_faults.proofs.Kept.{constants, each, fields, statics}
use Rattle.java_project_faults.proofs.laws.untold_rules_are_kept.Goals as goal

pub returns-clause-each : goal.returns-clause-each
returns-clause-each c = each

pub returns-clause-constants : goal.returns-clause-constants
returns-clause-constants c = constants

pub returns-clause-fields : goal.returns-clause-fields
returns-clause-fields c = fields

pub returns-clause-statics : goal.returns-clause-statics
returns-clause-statics c = statics
