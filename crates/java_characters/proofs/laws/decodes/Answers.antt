use Rattle.java_characters.proofs.Utf8.{decodes}
use Rattle.java_characters.proofs.laws.decodes.Goals as goal

pub returns : goal.returns
returns c = decodes
