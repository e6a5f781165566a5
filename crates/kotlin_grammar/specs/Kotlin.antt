-- The grammar of the Kotlin profile, over any actions, and how one kind ahead chooses.
use Rattle.std.specs.Prelude.{Option}
use Rattle.grammar.specs.Grammar.{Grammar}
use Rattle.grammar.specs.Machine.{Choice}
use Rattle.kotlin_tree.specs.declared.tokens.KToken.{KToken}
use Rattle.kotlin_grammar.specs.declared.letters.Kind.{Kind}
use Rattle.kotlin_grammar.specs.declared.letters.Term.{Term}
use Rattle.kotlin_grammar.specs.declared.letters.Form.{Form}
use Rattle.kotlin_grammar.specs.declared.letters.Way.{Way}
use Rattle.kotlin_grammar.specs.declared.letters.Act.{Act}
use Rattle.kotlin_grammar.specs.declared.ahead.Letter.{Letter}
use Rattle.kotlin_grammar.specs.Table.{owner, written}
use Rattle.kotlin_grammar.specs.Choice.{choose}
use Rattle.kotlin_grammar.specs.Taking.{takes, kind}

abbrev pub kotlin : {Built : Type 0} → (Term → KToken → Built → Built) → (Act → Built → Option Built) → Grammar Letter Term Form Way Act Built
kotlin push acts = record { owner = owner; written = written; takes = takes push; acts = acts }

abbrev pub by_kind : Choice Letter Kind Form Way
by_kind = record { kind = kind; choose = choose }
