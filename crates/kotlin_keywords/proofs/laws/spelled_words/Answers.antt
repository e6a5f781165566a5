use Rattle.kotlin_keywords.specs.declared.words.WordKind.TheVariants.{Keyword, Word}
use Rattle.kotlin_keywords.proofs.Texts.{keyword_found, word_found, only}
use Rattle.kotlin_keywords.proofs.laws.spelled_words.Goals as goal

pub returns-clause-keyword : goal.returns-clause-keyword
returns-clause-keyword c = keyword_found

pub returns-clause-keyword_only : goal.returns-clause-keyword_only
returns-clause-keyword_only c = λ text k e. only text (Keyword k) e

pub returns-clause-word : goal.returns-clause-word
returns-clause-word c = word_found

pub returns-clause-word_only : goal.returns-clause-word_only
returns-clause-word_only c = λ text w e. only text (Word w) e
