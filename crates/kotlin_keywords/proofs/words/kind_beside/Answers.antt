use Rattle.std.proofs.Common.{◌∙◌, ap}
use Rattle.j2k_base.specs.Keys.{value_beside}
use Rattle.kotlin_keywords.proofs.Finding.{value_is}
use Rattle.kotlin_keywords.proofs.words.kind_beside.Goals as goal

pub returns : goal.returns
returns c =
    c.copied.ensures ∙ c.get.ensures.value ∙ ap (value_beside c.args.word.now) c.new.ensures ∙ value_is c.args.word.now c.args.rows.now
