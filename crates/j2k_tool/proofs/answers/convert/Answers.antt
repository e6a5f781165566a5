use Rattle.std.proofs.Common.{◌<◌, ◌≤◌, length, ◌∙◌, arith}
use Rattle.j2k_tool.proofs.Outcomes.{not_empty_answered, loaded_differ}
use Rattle.j2k_tool.proofs.answers.convert.Goals as goal

pub returns-then-len-gt0-clause-answered : goal.returns-then-len-gt0-clause-answered
returns-then-len-gt0-clause-answered g c =
    let more : 0 < length c.in_ok-there.there = omega arith in
    not_empty_answered (g.D.Disk.held c.args.disk.now) (g.D.Disk.held c.list-2.new.disk) c.args.src.now c.args.dst.now c.in_ok-there.there c.in_ok-not_empty_text.field-0
    (rw c.list.ensures.kept at c.in_ok-there.ensures.listed) more c.in_ok-not_empty_text.ensures (c.list-2.ensures.kept ∙ c.list.ensures.kept)

pub convert_loaded-requires : goal.convert_loaded-requires
convert_loaded-requires g c =
    let none : length c.in_ok-there.there ≤ 0 = omega arith in
    record {
      differ =
          loaded_differ (g.D.Disk.held c.args.disk.now) (g.D.Disk.held c.load.new.disk) c.args.src.now c.args.dst.now c.in_ok-there.there c.in_ok-loaded.loaded
          (c.load.ensures.kept ∙ c.list-2.ensures.kept ∙ c.list.ensures.kept) (rw c.list.ensures.kept at c.in_ok-there.ensures.listed) none
          (rw c.list.ensures.kept at (rw c.list-2.ensures.kept at c.in_ok-loaded.ensures.loaded));
      small = c.in_ok-loaded.ensures.small;
    }
