use Rattle.std.proofs.Common.{◌∙◌}
use Rattle.j2k_base.proofs.FileMaps.{entries_are}
use Rattle.j2k_base.proofs.file_map.FileMap.entries.Goals as goal

pub returns : goal.returns
returns c = c.as_slice.ensures.value ∙ entries_are _ _ c.self.invariant c.self.view_is
