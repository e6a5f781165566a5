use Rattle.kotlin_brackets.proofs.Nesting.{pair_places, pair_forms}
use Rattle.kotlin_brackets.proofs.laws.pairs_match.Goals as goal

pub returns : goal.returns
returns c = record { places = pair_places; forms = pair_forms }
