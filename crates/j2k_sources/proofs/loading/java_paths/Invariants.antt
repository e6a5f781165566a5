use Rattle.std.proofs.Common.{◌≡◌, take, filter}
use Rattle.j2k_sources.specs.Sources.{is_java}
use Rattle.j2k_sources.proofs.loading.java_paths.Given as goal

abbrev pub invariant-loop-path : goal.invariant-loop-path
invariant-loop-path l = l.java ≡ filter is_java (take l.path-index l.paths)
