use Rattle.std.proofs.Common.{◌≡◌, ◌≤◌, [], take}
use Rattle.j2k_tool.specs.Paths.{with_names}
use Rattle.j2k_tool.specs.Projects.{AreForms}
use Rattle.j2k_tool.proofs.project.forms_of.Given as goal

abbrev pub invariant-loop-number : goal.invariant-loop-number
invariant-loop-number l = record {
  earlier : l.earlier ≡ with_names [] (take l.number l.files);
  few : l.forms.conversion.classes ≤ l.number;
  forms : AreForms l.classes (take l.number l.files) l.forms;
}
