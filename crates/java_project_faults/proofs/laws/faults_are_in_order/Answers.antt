use Rattle.java_project_faults.proofs.Order.{flow_first, order}
use Rattle.java_project_faults.proofs.laws.faults_are_in_order.Goals as goal

pub returns-clause-order : goal.returns-clause-order
returns-clause-order c = order

pub returns-clause-flow_first : goal.returns-clause-flow_first
returns-clause-flow_first c = flow_first
