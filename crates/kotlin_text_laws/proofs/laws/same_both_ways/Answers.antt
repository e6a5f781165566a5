use Rattle.std.proofs.Common.{sym}
use Rattle.kotlin_text_laws.proofs.laws.same_both_ways.Goals as goal

pub returns : goal.returns
returns c = λ x y same. sym same
