use Rattle.java_facts.proofs.Forms.{left_text_is_further, right_text_is_further}
use Rattle.java_facts.proofs.laws.texts_of_objects_are_further.Goals as goal

pub returns-clause-left : goal.returns-clause-left
returns-clause-left c = left_text_is_further

pub returns-clause-right : goal.returns-clause-right
returns-clause-right c = right_text_is_further
