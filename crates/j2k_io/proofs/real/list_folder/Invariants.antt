use Rattle.std.proofs.Common.{◌+◌, ◌≤◌, vec_len}
use Rattle.j2k_io.proofs.real.list_folder.Given as goal

abbrev pub invariant-loop-entry : goal.invariant-loop-entry
invariant-loop-entry g l = vec_len l.walk.paths + l.walk.entries_left ≤ vec_len l.fn.walk.paths + l.fn.walk.entries_left
