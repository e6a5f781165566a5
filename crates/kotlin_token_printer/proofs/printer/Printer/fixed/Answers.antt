use Rattle.kotlin_token_printer.proofs.Texts.{glyph_at}
use Rattle.kotlin_token_printer.proofs.printer.Printer.fixed.Goals as goal

pub loop-x-preserved : goal.loop-x-preserved
loop-x-preserved c = glyph_at c.args.glyphs.now c.loop-x.x-index _ c.args.self.now c.loop-x.self _ c.loop-x-test.true c.loop-x.invariant c.in_ok-put_glyph.ensures
