use Rattle.std.proofs.Common.{◌≡◌, ◌∙◌, Option, subst, ap, sym, ℕ, List}
use Rattle.java_tree.specs.Seen.{seen}
use Rattle.java_brackets.specs.declared.flaws.Flawed.{Flawed}
use Rattle.java_brackets.specs.declared.stack.Opened.{Opened}
use Rattle.java_brackets.specs.Brackets.{IsFirstFlaw}
use Rattle.java_brackets.specs.Steps.{IsScan, least_flaw}
use Rattle.java_brackets.proofs.Judged.{scan_judged}
use Rattle.java_brackets.proofs.Kept.{length_seen}
use Rattle.java_brackets.proofs.scanning.first_flaw.Goals as goal

pub returns : goal.returns
returns c =
    let P : ℕ → Type 0 = λ n. IsScan (seen c.args.tokens.now) n c.in_ok-scan.scan in
    let scan = subst P (sym (length_seen c.args.tokens.now)) c.in_ok-scan.ensures in
    let Q : Option Flawed → Type 0 = λ x. IsFirstFlaw (seen c.args.tokens.now) x in
    let stack : c.deref.result.now ≡ c.in_ok-scan.scan.stack.items = c.deref.ensures.value in
    let is : least_flaw c.in_ok-scan.scan.stack.items c.in_ok-scan.scan.first ≡ c.least_flaw.result =
    ap (λ (left : List Opened). least_flaw left c.in_ok-scan.scan.first) (sym stack) ∙ sym c.least_flaw.ensures in
    subst Q is (scan_judged (seen c.args.tokens.now) c.in_ok-scan.scan scan)
