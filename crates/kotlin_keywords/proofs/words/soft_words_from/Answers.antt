use Rattle.std.proofs.Common.{rules, refl, ◌≡◌, ◌∙◌, ◌∷◌, [], codes, ap, sym}
use Rattle.std.specs.List.{filter}
use Rattle.kotlin_tree.specs.declared.tokens.Word.TheVariants as soft
use Rattle.kotlin_keywords.specs.declared.words.WordKind.TheVariants.{Word}
use Rattle.kotlin_keywords.specs.Words.{soft_words, begins}
use Rattle.kotlin_keywords.proofs.Finding.{no_soft_letter}
use Rattle.kotlin_keywords.proofs.words.soft_words_from.Goals as goal

c_words : (codes "catch", Word soft.Catch) ∷ (codes "companion", Word soft.Companion) ∷ (codes "const", Word soft.Const) ∷ (codes "constructor", Word soft.Constructor) ∷ [] ≡ filter (begins 99) soft_words
unfolding soft_words
c_words = refl

pub returns-in-99-clause-rows : goal.returns-in-99-clause-rows
returns-in-99-clause-rows c = c_words ∙ ap (λ f. filter (begins f) soft_words) (sym c.in-99.is)

pub returns-in_default-clause-rows : goal.returns-in_default-clause-rows
returns-in_default-clause-rows c =
    no_soft_letter c.args.first (search rules) (search rules) (search rules) (search rules) (search rules) (search rules) (search rules) (search rules) (search rules) (search rules) (search rules) (search rules) (search rules) (search rules)
