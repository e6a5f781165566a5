use Rattle.j2k_base.proofs.FileMaps.{get_there, get_free}
use Rattle.j2k_base.proofs.file_map.FileMap.get.Goals as goal

pub returns-in-Ok : goal.returns-in-Ok
returns-in-Ok c = get_there _ _ _ _ _ _ c.index.result.now c.self.invariant c.self.view_is c.deref.ensures.value c.as_bytes.ensures c.in-Ok.ensures.place c.index.ensures

pub returns-in-Err : goal.returns-in-Err
returns-in-Err c = get_free _ _ _ _ _ _ c.self.invariant c.self.view_is c.deref.ensures.value c.as_bytes.ensures c.in-Err.ensures.place
