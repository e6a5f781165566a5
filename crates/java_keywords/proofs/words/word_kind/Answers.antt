use Rattle.std.proofs.Common.{◌≡◌, ◌∙◌, ap}
use Rattle.j2k_base.specs.Keys.{value_beside}
use Rattle.java_keywords.specs.Words.{word_kind}
use Rattle.java_keywords.proofs.Finding.{value_is, kind_at, absent_where}
use Rattle.java_keywords.proofs.words.word_kind.Goals as goal

pub returns : goal.returns
returns c =
    let word = c.args.word.now in
    let rows = c.rows_for.result.now in
    let value : c.copied.result ≡ word_kind word =
    c.copied.ensures ∙ c.get.ensures.value ∙ ap (value_beside word) c.new.ensures ∙ value_is word rows ∙ c.rows_for.ensures.rows in
    record { value = value; beside = kind_at word c.copied.result value; absent = absent_where word c.copied.result value }
