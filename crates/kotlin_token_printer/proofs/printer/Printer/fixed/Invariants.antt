use Rattle.std.proofs.Common.{◌≡◌, take}
use Rattle.kotlin_layout.specs.Layout.{laid}
use Rattle.kotlin_layout.specs.Roles.{fixed}
use Rattle.kotlin_token_printer.proofs.printer.Printer.fixed.Given as goal

abbrev pub invariant-loop-x : goal.invariant-loop-x
invariant-loop-x l = l.self ≡ laid (fixed (take l.x-index l.glyphs)) l.fn.self
