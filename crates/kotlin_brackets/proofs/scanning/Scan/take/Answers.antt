use Rattle.std.proofs.Common.{◌≡◌, ◌∙◌, reverse, rules}
use Rattle.kotlin_brackets.specs.Brackets.{bracket_at}
use Rattle.kotlin_brackets.specs.Steps.{flaw_of}
use Rattle.kotlin_brackets.proofs.Scans.{bracket_read, scan_more}
use Rattle.kotlin_brackets.proofs.scanning.Scan.take.Goals as goal

pub returns : goal.returns
returns c =
    let is : bracket_at c.args.tokens.now c.args.number ≡ c.bracket_of-found.result =
    bracket_read c.args.tokens.now c.args.number c.index-tokens-number.result c.requires.within c.index-tokens-number.is ∙ (search rules) in
    let flaw : c.flaw_of-flaw.result ≡ flaw_of (reverse c.args.self.now.stack.items) c.bracket_of-found.result = search rules in
    scan_more c.args.tokens.now c.args.number c.args.self.now _ c.bracket_of-found.result c.flaw_of-flaw.result
    c.requires.scan is flaw c.told-self.ensures c.in_ok-pass.ensures
