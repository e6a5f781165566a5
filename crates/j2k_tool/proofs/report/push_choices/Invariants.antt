use Rattle.std.proofs.Common.{◌≡◌, ◌++◌, take}
use Rattle.std.specs.List.{flat_map}
use Rattle.j2k_tool.specs.Report.{choice_line}
use Rattle.j2k_tool.proofs.report.push_choices.Given as goal

abbrev pub invariant-loop-choice : goal.invariant-loop-choice
invariant-loop-choice l = l.out ≡ l.fn.out ++ flat_map choice_line (take l.choice-index l.choices)
