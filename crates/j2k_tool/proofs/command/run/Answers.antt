use Rattle.j2k_io.specs.Causes.{Rose}
use Rattle.j2k_tool.specs.Messages.{message_text}
use Rattle.j2k_tool.proofs.Headlines.{done_headline}
use Rattle.j2k_tool.proofs.Once.{answered_complete, complete_converts, complete_exceeds}
use Rattle.j2k_tool.proofs.Outcomes.{answered_stopped, answered_large}
use Rattle.j2k_tool.proofs.command.run.Goals as goal

pub returns-in-Ok-clause-stopped : goal.returns-in-Ok-clause-stopped
returns-in-Ok-clause-stopped g c =
    λ _. answered_stopped (g.D.Disk.held c.args.disk.now) (g.D.Disk.held c.perform.new.disk) c.args.words.now c.in-Ok.answer.status (message_text c.in-Ok.answer.message) c.in-Ok.ensures.answered

pub returns-in-Ok-put-clause-complete : goal.returns-in-Ok-put-clause-complete
returns-in-Ok-put-clause-complete g c =
    answered_complete (g.D.Disk.held c.args.disk.now) (g.D.Disk.held c.perform.new.disk) c.args.words.now
    (Rose (g.D.Disk.reads c.args.disk.now) (g.D.Disk.reads c.perform.new.disk)) (Rose (g.D.Disk.writes c.args.disk.now) (g.D.Disk.writes c.perform.new.disk)) (Rose (g.S.Sink.faults c.args.out.now) (g.S.Sink.faults c.put.new.self))
    c.in-Ok.answer.status (message_text c.in-Ok.answer.message) c.in-Ok.ensures.answered

pub returns-in-Ok-put-clause-converts : goal.returns-in-Ok-put-clause-converts
returns-in-Ok-put-clause-converts g c =
    complete_converts (g.D.Disk.held c.args.disk.now) c.args.words.now
    (Rose (g.D.Disk.reads c.args.disk.now) (g.D.Disk.reads c.perform.new.disk)) (Rose (g.D.Disk.writes c.args.disk.now) (g.D.Disk.writes c.perform.new.disk)) (Rose (g.S.Sink.faults c.args.out.now) (g.S.Sink.faults c.put.new.self))
    c.in-Ok.answer.status
    (answered_complete (g.D.Disk.held c.args.disk.now) (g.D.Disk.held c.perform.new.disk) c.args.words.now
    (Rose (g.D.Disk.reads c.args.disk.now) (g.D.Disk.reads c.perform.new.disk)) (Rose (g.D.Disk.writes c.args.disk.now) (g.D.Disk.writes c.perform.new.disk)) (Rose (g.S.Sink.faults c.args.out.now) (g.S.Sink.faults c.put.new.self))
    c.in-Ok.answer.status (message_text c.in-Ok.answer.message) c.in-Ok.ensures.answered)

pub returns-in-Ok-put-clause-same_steps : goal.returns-in-Ok-put-clause-same_steps
returns-in-Ok-put-clause-same_steps g c =
    λ done. done_headline (g.D.Disk.held c.args.disk.now) (g.D.Disk.held c.perform.new.disk) c.args.words.now c.in-Ok.answer.status (message_text c.in-Ok.answer.message) c.in-Ok.ensures.answered done

pub returns-in-Ok-put-clause-exceeds : goal.returns-in-Ok-put-clause-exceeds
returns-in-Ok-put-clause-exceeds g c =
    complete_exceeds (g.D.Disk.held c.args.disk.now) c.args.words.now
    (Rose (g.D.Disk.reads c.args.disk.now) (g.D.Disk.reads c.perform.new.disk)) (Rose (g.D.Disk.writes c.args.disk.now) (g.D.Disk.writes c.perform.new.disk)) (Rose (g.S.Sink.faults c.args.out.now) (g.S.Sink.faults c.put.new.self))
    c.in-Ok.answer.status
    (answered_complete (g.D.Disk.held c.args.disk.now) (g.D.Disk.held c.perform.new.disk) c.args.words.now
    (Rose (g.D.Disk.reads c.args.disk.now) (g.D.Disk.reads c.perform.new.disk)) (Rose (g.D.Disk.writes c.args.disk.now) (g.D.Disk.writes c.perform.new.disk)) (Rose (g.S.Sink.faults c.args.out.now) (g.S.Sink.faults c.put.new.self))
    c.in-Ok.answer.status (message_text c.in-Ok.answer.message) c.in-Ok.ensures.answered)

pub returns-in-Ok-put-clause-too_large : goal.returns-in-Ok-put-clause-too_large
returns-in-Ok-put-clause-too_large g c =
    λ large. answered_large (g.D.Disk.held c.args.disk.now) (g.D.Disk.held c.perform.new.disk) c.args.words.now c.in-Ok.answer.status (message_text c.in-Ok.answer.message) c.in-Ok.ensures.answered large
