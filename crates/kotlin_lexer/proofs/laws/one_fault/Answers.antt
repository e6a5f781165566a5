use Rattle.std.proofs.Common.{◌≡◌, Some, None}
use Rattle.kotlin_lexer.proofs.Cuts.{reading_once}
use Rattle.kotlin_lexer.proofs.laws.one_fault.Goals as goal

pub returns-clause-once : goal.returns-clause-once
returns-clause-once c = λ bytes f g x y.
    let same = reading_once bytes x.0 y.0 (Some f) (Some g) x.1 y.1 in
    let e : Some f ≡ Some g = same.fault in cc

pub returns-clause-apart : goal.returns-clause-apart
returns-clause-apart c = λ bytes ts f x y.
    let same = reading_once bytes ts y.0 None (Some f) x y.1 in
    let e : None ≡ Some f = same.fault in cc
