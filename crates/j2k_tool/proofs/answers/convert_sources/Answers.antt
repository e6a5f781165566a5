use Rattle.std.proofs.Common.{refl}
use Rattle.j2k_tool.specs.Messages.{message_text}
use Rattle.j2k_tool.proofs.Outcomes.{conversion_free, converted_answered, converted_stopped, refused_answered}
use Rattle.j2k_tool.proofs.answers.convert_sources.Goals as goal

pub write_project-requires : goal.write_project-requires
write_project-requires g c =
    conversion_free c.args.dst.now c.args.sources.now c.in-Taken.conversion (rw c.in-Taken.is at c.in_ok-conversion.ensures) (g.D.Disk.held c.args.disk.now) c.requires.differ

pub returns-in-Taken-clause-answered : goal.returns-in-Taken-clause-answered
returns-in-Taken-clause-answered g c =
    converted_answered c.args.dst.now c.args.sources.now c.in-Taken.conversion (rw c.in-Taken.is at c.in_ok-conversion.ensures) (g.D.Disk.held c.args.disk.now) (g.D.Disk.held c.write_project.new.disk) c.write_project.result
    c.write_project.ensures.answer c.write_project.ensures.made

pub returns-in-Taken-clause-stopped : goal.returns-in-Taken-clause-stopped
returns-in-Taken-clause-stopped g c =
    converted_stopped c.args.dst.now c.args.sources.now c.in-Taken.conversion (rw c.in-Taken.is at c.in_ok-conversion.ensures) (g.D.Disk.held c.args.disk.now) (g.D.Disk.held c.write_project.new.disk) c.write_project.result
    c.write_project.ensures.cut

pub returns-in_ok-refusal_of-in-Refused-clause-answered : goal.returns-in_ok-refusal_of-in-Refused-clause-answered
returns-in_ok-refusal_of-in-Refused-clause-answered g c =
    refused_answered c.args.dst.now c.args.sources.now c.in-Refused.fault c.in_ok-refusal_of-in-Refused.field-0.status (message_text c.in_ok-refusal_of-in-Refused.field-0.message) (g.D.Disk.held c.args.disk.now) (g.D.Disk.held c.args.disk.now)
    (rw c.in-Refused.is at c.in_ok-conversion.ensures) c.in_ok-refusal_of-in-Refused.ensures.0 c.in_ok-refusal_of-in-Refused.ensures.1 refl
