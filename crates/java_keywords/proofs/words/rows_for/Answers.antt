use Rattle.java_keywords.proofs.Finding.{no_letter, with_letter}
use Rattle.java_keywords.proofs.words.rows_for.Goals as goal

pub returns-in-empty-clause-rows : goal.returns-in-empty-clause-rows
returns-in-empty-clause-rows c = no_letter c.args.word.now c.in-empty.len_below

pub returns-in-len1-up-clause-rows : goal.returns-in-len1-up-clause-rows
returns-in-len1-up-clause-rows c = with_letter c.args.word.now c.rows_from.result.now c.in-len1-up.len_at_least c.rows_from.ensures.rows
