use Rattle.kotlin_text_laws.proofs.Parentheses.{none_where_free}
use Rattle.kotlin_text_laws.proofs.laws.none_missing_where_free.Goals as goal

pub returns : goal.returns
returns c = λ x. none_where_free x
