use Rattle.kotlin_typed_files.proofs.Judged.{apart, bodies, declarations, flows, imports}
use Rattle.kotlin_typed_files.proofs.laws.well_typed_files.Goals as goal

pub returns-clause-apart : goal.returns-clause-apart
returns-clause-apart c = apart

pub returns-clause-imports : goal.returns-clause-imports
returns-clause-imports c = imports

pub returns-clause-bodies : goal.returns-clause-bodies
returns-clause-bodies c = bodies

pub returns-clause-flow : goal.returns-clause-flow
returns-clause-flow c = flows

pub returns-clause-declarations : goal.returns-clause-declarations
returns-clause-declarations c = declarations
