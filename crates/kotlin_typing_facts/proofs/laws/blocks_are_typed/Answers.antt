use Rattle.kotlin_typing_facts.proofs.Told.{else_if_told, else_told, finally_told, run_told, try_told}
use Rattle.kotlin_typing_facts.proofs.laws.blocks_are_typed.Goals as goal

pub returns-clause-otherwise : goal.returns-clause-otherwise
returns-clause-otherwise c = else_told

pub returns-clause-again : goal.returns-clause-again
returns-clause-again c = else_if_told

pub returns-clause-tried : goal.returns-clause-tried
returns-clause-tried c = try_told

pub returns-clause-at_last : goal.returns-clause-at_last
returns-clause-at_last c = finally_told

pub returns-clause-run : goal.returns-clause-run
returns-clause-run c = run_told
