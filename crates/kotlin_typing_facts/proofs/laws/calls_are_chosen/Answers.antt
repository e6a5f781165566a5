use Rattle.kotlin_typing_facts.proofs.Told.{above_told, alone_told, behind_told, made_told}
use Rattle.kotlin_typing_facts.proofs.laws.calls_are_chosen.Goals as goal

pub returns-clause-made : goal.returns-clause-made
returns-clause-made c = made_told

pub returns-clause-alone : goal.returns-clause-alone
returns-clause-alone c = alone_told

pub returns-clause-behind_class : goal.returns-clause-behind_class
returns-clause-behind_class c = behind_told

pub returns-clause-above : goal.returns-clause-above
returns-clause-above c = above_told
