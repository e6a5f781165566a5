use Rattle.std.proofs.Common.{sym, ap, ◌∙◌}
use Rattle.kotlin_layout.specs.Text.{KText}
use Rattle.kotlin_text_laws.proofs.Files.{one_text}
use Rattle.kotlin_text_laws.proofs.laws.one_text_without_comments.Goals as goal

pub returns : goal.returns
returns c = λ x y none nor same. sym (ap KText none) ∙ one_text x y same ∙ ap KText nor
