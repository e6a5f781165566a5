use Rattle.std.proofs.Common.{None}
use Rattle.kotlin_lexer.proofs.Cuts.{reading_once}
use Rattle.kotlin_lexer.proofs.laws.one_reading.Goals as goal

pub returns : goal.returns
returns c = λ bytes ts us x y. (reading_once bytes ts us None None x y).tokens
