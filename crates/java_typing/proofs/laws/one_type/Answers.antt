use Rattle.java_typing.proofs.Told.{told}
use Rattle.java_typing.proofs.laws.one_type.Goals as goal

pub returns : goal.returns
returns c = λ heads declared x r h. told heads declared _ h
