use Rattle.std.proofs.Common.{◌∙◌, ap}
use Rattle.j2k_base.specs.Keys.{value_beside}
use Rattle.kotlin_words.proofs.Finding.{row_found}
use Rattle.kotlin_words.proofs.words.has_row.Goals as goal

pub returns : goal.returns
returns c = c.is_some.ensures ∙ row_found c.args.word.now c.args.rows.now c.get.result (c.get.ensures.value ∙ ap (value_beside c.args.word.now) c.new.ensures)
