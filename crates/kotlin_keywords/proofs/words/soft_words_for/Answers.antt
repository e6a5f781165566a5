use Rattle.kotlin_keywords.specs.Words.{soft_words}
use Rattle.kotlin_keywords.proofs.Finding.{empty_soft_word, with_letter}
use Rattle.kotlin_keywords.proofs.words.soft_words_for.Goals as goal

pub returns-in-empty-clause-rows : goal.returns-in-empty-clause-rows
returns-in-empty-clause-rows c = empty_soft_word c.args.word.now c.in-empty.len_below

pub returns-in-len1-up-clause-rows : goal.returns-in-len1-up-clause-rows
returns-in-len1-up-clause-rows c = with_letter soft_words c.args.word.now c.soft_words_from.result.now c.in-len1-up.len_at_least c.soft_words_from.ensures.rows
