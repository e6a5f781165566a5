use Rattle.std.proofs.Common.{[]}
use Rattle.kotlin_grammar.specs.Files.{pieces}
use Rattle.kotlin_grammar.proofs.Spelled.{pieces_spelled}
use Rattle.kotlin_grammar.proofs.laws.read_is_spelled.Goals as goal

pub returns : goal.returns
returns c = λ x text. pieces_spelled x (pieces 0 [] text)
