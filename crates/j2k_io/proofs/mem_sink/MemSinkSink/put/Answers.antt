use Rattle.std.proofs.Common.{◌∙◌, ap}
use Rattle.j2k_io.specs.MemSinks.{SinkState}
use Rattle.j2k_io.proofs.CallsListed.{none_fails}
use Rattle.j2k_io.proofs.mem_sink.MemSinkSink.put.Goals as goal

pub returns-clause-none_listed : goal.returns-clause-none_listed
returns-clause-none_listed c = λ e. absurd (none_fails c.self.inside.failing c.self.inside.calls c.in-Some.keep (ap (λ (s : SinkState). s.failing) c.self.view_is ∙ e) c.in-Some.ensures.keep)
