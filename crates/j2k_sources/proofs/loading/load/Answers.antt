use Rattle.std.proofs.Common.{◌∙◌}
use Rattle.j2k_sources.proofs.Loads.{java_listed}
use Rattle.j2k_sources.proofs.loading.load.Goals as goal

pub read_files-requires : goal.read_files-requires
read_files-requires g c =
    java_listed (g.D.Disk.held c.args.disk.now) (g.D.Disk.held c.read_settings.new.disk) c.args.src.now c.args.paths.now c.as_slice.result.now c.read_settings.ensures.kept c.requires (c.as_slice.ensures ∙ c.in_ok-java.ensures)
