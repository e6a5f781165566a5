use Rattle.j2k_base.proofs.FileMaps.{from_sorted_none}
use Rattle.j2k_base.proofs.file_map.FileMap.new.Goals as goal

pub returns : goal.returns
returns c = from_sorted_none _ c.new.ensures.items
