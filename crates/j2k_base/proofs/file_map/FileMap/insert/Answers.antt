use Rattle.j2k_base.proofs.FileMaps.{replaced, inserted}
use Rattle.j2k_base.proofs.file_map.FileMap.insert.Goals as goal

pub invariant_of-self : goal.invariant_of-self
invariant_of-self c = (replaced _ _ _ _ _ c.args.bytes _ c.index_mut.result.now c.self.invariant c.self.view_is c.deref.ensures.value c.as_bytes.ensures c.in-Ok.ensures.place c.index_mut.ensures.value).0

pub returns-in-Ok-clause-ok : goal.returns-in-Ok-clause-ok
returns-in-Ok-clause-ok c = (replaced _ _ _ _ _ c.args.bytes _ c.index_mut.result.now c.self.invariant c.self.view_is c.deref.ensures.value c.as_bytes.ensures c.in-Ok.ensures.place c.index_mut.ensures.value).1

pub invariant_of-self-in-Continue-1 : goal.invariant_of-self-in-Continue-1
invariant_of-self-in-Continue-1 c = (inserted _ _ _ _ _ _ c.args.bytes _ c.self.invariant c.self.view_is c.deref.ensures.value c.as_bytes.ensures c.in-Err.ensures.place c.in_ok-insert-in-Err.ensures.items).0

pub returns-in_ok-insert-in-Err-clause-ok : goal.returns-in_ok-insert-in-Err-clause-ok
returns-in_ok-insert-in-Err-clause-ok c = (inserted _ _ _ _ _ _ c.args.bytes _ c.self.invariant c.self.view_is c.deref.ensures.value c.as_bytes.ensures c.in-Err.ensures.place c.in_ok-insert-in-Err.ensures.items).1
