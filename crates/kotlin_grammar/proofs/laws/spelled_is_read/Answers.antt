use Rattle.std.proofs.Common.{[]}
use Rattle.kotlin_grammar.specs.Files.{pieces}
use Rattle.kotlin_grammar.proofs.Spelled.{pieces_read}
use Rattle.kotlin_grammar.proofs.laws.spelled_is_read.Goals as goal

pub returns : goal.returns
returns c = λ x text. pieces_read x (pieces 0 [] text)
