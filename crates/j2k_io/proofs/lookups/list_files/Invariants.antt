use Rattle.std.proofs.Common.{◌≡◌, take, map}
use Rattle.std.specs.List.{filter_map}
use Rattle.j2k_io.specs.Disks.{below}
use Rattle.j2k_io.proofs.lookups.list_files.Given as goal

abbrev pub invariant-loop-entry : goal.invariant-loop-entry
invariant-loop-entry l = l.paths ≡ filter_map (below l.folder) (map (λ e. e.0) (take l.entry-index l.entry-items))
