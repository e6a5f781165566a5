use Rattle.std.proofs.Common.{None}
use Rattle.java_lexer.proofs.Cuts.{reading_once}
use Rattle.java_lexer.proofs.laws.one_cutting.Goals as goal

pub returns : goal.returns
returns c = λ bytes ts us cs ds x y.
    let same = reading_once bytes ts us cs ds None None x y in
    (same.tokens, same.comments)
