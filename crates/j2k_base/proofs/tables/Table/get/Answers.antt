use Rattle.std.proofs.Common.{List, IsTrue, ◌∙◌, ap, subst}
use Rattle.j2k_base.specs.declared.tables.Row.{Row}
use Rattle.j2k_base.specs.Keys.{keys_differ, value_beside}
use Rattle.j2k_base.proofs.Keys.{beside, absent}
use Rattle.j2k_base.proofs.tables.Table.get.Goals as goal

pub returns-clause-beside : goal.returns-clause-beside
returns-clause-beside g c =
    let differ : IsTrue (keys_differ c.args.self.now) = subst (λ (rows : List (Row g.row.V.Denot)). IsTrue (keys_differ rows)) c.self.view_is c.self.invariant in
    let value = c.first_beside.ensures ∙ ap (value_beside c.args.key.now) c.self.view_is in
    beside c.args.key.now c.args.self.now c.first_beside.result differ value

pub returns-clause-absent : goal.returns-clause-absent
returns-clause-absent g c = absent c.args.key.now c.args.self.now c.first_beside.result (c.first_beside.ensures ∙ ap (value_beside c.args.key.now) c.self.view_is)
