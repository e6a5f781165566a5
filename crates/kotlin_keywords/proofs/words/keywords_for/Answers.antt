use Rattle.kotlin_keywords.specs.Words.{keywords}
use Rattle.kotlin_keywords.proofs.Finding.{empty_keyword, with_letter}
use Rattle.kotlin_keywords.proofs.words.keywords_for.Goals as goal

pub returns-in-empty-clause-rows : goal.returns-in-empty-clause-rows
returns-in-empty-clause-rows c = empty_keyword c.args.word.now c.in-empty.len_below

pub returns-in-len1-up-clause-rows : goal.returns-in-len1-up-clause-rows
returns-in-len1-up-clause-rows c = with_letter keywords c.args.word.now c.keywords_from.result.now c.in-len1-up.len_at_least c.keywords_from.ensures.rows
