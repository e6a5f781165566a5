use Rattle.std.proofs.Common.{◌≡◌, ◌∙◌, Option, subst, ap, sym, List}
use Rattle.kotlin_brackets.specs.declared.flaws.Flawed.{Flawed}
use Rattle.kotlin_brackets.specs.declared.stack.Opened.{Opened}
use Rattle.kotlin_brackets.specs.Brackets.{IsFirstFlaw}
use Rattle.kotlin_brackets.specs.Steps.{least_flaw}
use Rattle.kotlin_brackets.proofs.Judged.{scan_judged}
use Rattle.kotlin_brackets.proofs.scanning.first_flaw.Goals as goal

pub returns : goal.returns
returns c =
    let Q : Option Flawed → Type 0 = λ x. IsFirstFlaw c.args.tokens.now x in
    let stack : c.deref.result.now ≡ c.in_ok-scan.scan.stack.items = c.deref.ensures.value in
    let is : least_flaw c.in_ok-scan.scan.stack.items c.in_ok-scan.scan.first ≡ c.least_flaw.result =
    ap (λ (left : List Opened). least_flaw left c.in_ok-scan.scan.first) (sym stack) ∙ sym c.least_flaw.ensures in
    subst Q is (scan_judged c.args.tokens.now c.in_ok-scan.scan c.in_ok-scan.ensures)
