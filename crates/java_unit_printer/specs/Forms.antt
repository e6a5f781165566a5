-- Which form a statement has.
use Rattle.java_unit_grammar.specs.declared.statements.JBody.{JBody}
use Rattle.java_unit_grammar.specs.declared.statements.JCase.{JCase}
use Rattle.java_unit_grammar.specs.declared.statements.JCaseGroup.{JCaseGroup}
use Rattle.java_unit_grammar.specs.declared.statements.JCatch.{JCatch}
use Rattle.java_unit_grammar.specs.declared.statements.JMember.{JMember}
use Rattle.java_unit_grammar.specs.declared.statements.JStatement.{JStatement, out-JStatement}
use Rattle.java_unit_grammar.specs.declared.statements.JBody.TheOpen.{JStatement-F}

pub data Form : Type 0 where
  Plain : Form
  Tested : Form
  Tried : Form

abbrev pub form_by : JStatement-F JBody JMember JStatement JCase JCaseGroup JCatch → Form
form_by (JStatement-F.If at lp test bodies rp then_) = Form.Tested
form_by (JStatement-F.IfElse at lp test bodies rp then_ else_at else_) = Form.Tested
form_by (JStatement-F.While at lp test bodies rp body) = Form.Tested
form_by (JStatement-F.Do at body while_at lp test bodies rp end) = Form.Tested
form_by (JStatement-F.Switch at lp subject bodies rp left groups right) = Form.Tested
form_by (JStatement-F.Try at left xs right catches) = Form.Tried
form_by (JStatement-F.TryFinally at left xs right catches finally_at last_left lasts last_right) = Form.Tried
form_by _ = Form.Plain

abbrev pub form : JStatement → Form
form x = form_by (out-JStatement x)
