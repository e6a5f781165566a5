use Rattle.std.proofs.Common.{◌∙◌}
use Rattle.j2k_base.proofs.FileMaps.{len_is}
use Rattle.j2k_base.proofs.file_map.FileMap.len.Goals as goal

pub returns : goal.returns
returns c = c.len.ensures ∙ c.self.inside.entries.ok.0 ∙ len_is _ _ c.self.invariant c.self.view_is
