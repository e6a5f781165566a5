use Rattle.std.proofs.Common.{◌+◌, ◌≤◌, vec_len}
use Rattle.j2k_io.proofs.real.paths_below.Given as goal

abbrev pub invariant-folders : goal.invariant-folders
invariant-folders g l = vec_len l.walk.paths + l.walk.entries_left ≤ 1000000
