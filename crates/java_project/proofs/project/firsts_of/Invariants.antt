use Rattle.std.proofs.Common.{take}
use Rattle.java_project.specs.Files.{AreFirsts}
use Rattle.java_project.proofs.project.firsts_of.Given as goal

abbrev pub invariant-loop-file : goal.invariant-loop-file
invariant-loop-file l = AreFirsts (take l.file-index l.files) l.firsts
