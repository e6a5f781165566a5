use Rattle.std.proofs.Common.{rules, arith, ◌∙◌}
use Rattle.std.proofs.lemmas.Str.Pattern.{split_once_first}
use Rattle.j2k_tool.proofs.Names.{last_whole, last_later}
use Rattle.j2k_tool.proofs.paths.last_part.Goals as goal

pub parts-preserved : goal.parts-preserved
parts-preserved c =
    let l = c.parts in
    let cut = rw c.in-Some.is at (split_once_first 47 l.rest.now c.split_once.result c.split_once.ensures.cases (omega arith)) in
    (last_later l.rest.now c.in-Some.more.now cut.0 cut.2 ∙ l.invariant.0, search rules)

pub returns : goal.returns
returns c =
    let l = c.parts in
    let none = rw c.in_default.is at (split_once_first 47 l.rest.now c.split_once.result c.split_once.ensures.cases (omega arith)) in
    last_whole l.rest.now none ∙ l.invariant.0
