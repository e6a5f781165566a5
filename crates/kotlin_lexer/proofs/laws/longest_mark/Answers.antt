use Rattle.kotlin_lexer.proofs.LongestMarks.{spelled, no_longer}
use Rattle.kotlin_lexer.proofs.laws.longest_mark.Goals as goal

pub returns : goal.returns
returns c = λ a d e n m h. record { spelled = spelled a d e n m h; no_longer = λ k. no_longer a d e n m k h }
