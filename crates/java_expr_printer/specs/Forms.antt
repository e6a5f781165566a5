-- Which form a tree has.
use Rattle.java_tree.specs.declared.exprs.JExpr.{JExpr, out-JExpr}
use Rattle.java_tree.specs.declared.exprs.JExpr.TheOpen.{JExpr-F}

pub data Form : Type 0 where
  Plain : Form
  Prefixed : Form
  Access : Form
  Joined : Form
  Lambda : Form
  Made : Form

abbrev pub form_by : JExpr-F JExpr → Form
form_by (JExpr-F.Prefix op at inner) = Form.Prefixed
form_by (JExpr-F.MinusLeast minus literal at) = Form.Prefixed
form_by (JExpr-F.Cast lp to rp inner) = Form.Prefixed
form_by (JExpr-F.SuperCall above dot n at lp args commas rp) = Form.Access
form_by (JExpr-F.Field left dot n at) = Form.Access
form_by (JExpr-F.Method left dot n at lp args commas rp) = Form.Access
form_by (JExpr-F.Element left lp index rp) = Form.Access
form_by (JExpr-F.Postfix left op at) = Form.Access
form_by (JExpr-F.Binary left op at right) = Form.Joined
form_by (JExpr-F.Instanceof left at to) = Form.Joined
form_by (JExpr-F.Conditional left question then_ colon else_) = Form.Joined
form_by (JExpr-F.Assign left op at right) = Form.Joined
form_by (JExpr-F.Lambda params arrow body) = Form.Lambda
form_by (JExpr-F.LambdaBlock params arrow body) = Form.Lambda
form_by (JExpr-F.New at made lp args commas rp body) = Form.Made
form_by (JExpr-F.NewArray at of lb size rb more) = Form.Made
form_by (JExpr-F.NewFilled at of brackets lc inits commas more rc) = Form.Made
form_by (JExpr-F.Braces lc inits commas more rc) = Form.Made
form_by _ = Form.Plain

abbrev pub form : JExpr → Form
form e = form_by (out-JExpr e)
