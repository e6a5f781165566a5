use Rattle.java_facts.proofs.Forms.{late_box}
use Rattle.java_facts.proofs.laws.boxes_begin_with_null.Goals as goal

pub returns : goal.returns
returns c = record { late = late_box }
