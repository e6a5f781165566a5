use Rattle.std.proofs.Common.{sym, refl}
use Rattle.j2k_tool.specs.Texts.{usage_text}
use Rattle.j2k_tool.proofs.Outcomes.{usage_answered}
use Rattle.j2k_tool.proofs.answers.perform.Goals as goal

pub returns-in-None-clause-answered : goal.returns-in-None-clause-answered
returns-in-None-clause-answered g c =
    usage_answered (g.D.Disk.held c.args.disk.now) (g.D.Disk.held c.args.disk.now) c.args.words.now usage_text (sym c.in-None.ensures) refl refl
