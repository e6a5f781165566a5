use Rattle.kotlin_brackets.proofs.Promises as l
use Rattle.kotlin_brackets.proofs.laws.one_partner.Goals as goal

pub returns : goal.returns
returns c = l.one_partner
