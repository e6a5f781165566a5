use Rattle.std.proofs.Common.{refl}
use Rattle.kotlin_brackets.proofs.Scans.{scan_none}
use Rattle.kotlin_brackets.proofs.scanning.scanned.Goals as goal

pub loop-number-init : goal.loop-number-init
loop-number-init c = scan_none c.args.tokens.now _ c.new.ensures.items refl
