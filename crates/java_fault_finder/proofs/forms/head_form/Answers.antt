use Rattle.std.proofs.Common.{sym, ◌∙◌}
use Rattle.java_fault_finder.proofs.Doing.{head_alone, head_none}
use Rattle.java_fault_finder.proofs.forms.head_form.Goals as goal

pub returns-then-not-lone_curly : goal.returns-then-not-lone_curly
returns-then-not-lone_curly c = head_alone _ _ _ _ c.before_curly.ensures (sym c.lone_curly.ensures ∙ c.if-not-lone_curly.true)

pub returns-in-None : goal.returns-in-None
returns-in-None c = head_none _ _ _ _ c.before_curly.ensures (sym c.in_ok-head.ensures.read ∙ c.in-None.is)
