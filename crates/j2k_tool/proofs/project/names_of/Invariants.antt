use Rattle.std.proofs.Common.{◌≡◌, [], take}
use Rattle.j2k_tool.specs.Paths.{with_names}
use Rattle.j2k_tool.proofs.project.names_of.Given as goal

abbrev pub invariant-loop-file : goal.invariant-loop-file
invariant-loop-file l = l.names ≡ with_names [] (take l.file-index l.files)
