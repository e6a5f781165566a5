use Rattle.std.proofs.Common.{refl}
use Rattle.java_tree.specs.Seen.{seen}
use Rattle.java_brackets.proofs.Scans.{scan_none}
use Rattle.java_brackets.proofs.scanning.scanned.Goals as goal

pub loop-number-init : goal.loop-number-init
loop-number-init c = scan_none (seen c.args.tokens.now) _ c.new.ensures.items refl
