use Rattle.java_facts.proofs.Forms.{exact_shows}
use Rattle.java_facts.proofs.laws.exact_calls_show_this.Goals as goal

pub returns : goal.returns
returns c = record { shows = exact_shows }
