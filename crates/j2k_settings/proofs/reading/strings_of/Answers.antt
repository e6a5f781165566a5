use Rattle.std.proofs.Common.{◌<◌, length, sym, arith}
use Rattle.j2k_settings.proofs.Arrays.{one_more, item_is_string}
use Rattle.j2k_settings.proofs.reading.strings_of.Goals as goal

pub returns-in_default-clause-none : goal.returns-in_default-clause-none
returns-in_default-clause-none c = λ entries is.
    let h : c.loop-value.value-index < length c.args.values.now = omega arith in
    item_is_string c.args.values.now entries c.loop-value.value-index c.value-item.result is h (rw (← c.value-item.is) (sym (rw c.in_default.is at c.as_str.ensures)))

pub loop-value-preserved : goal.loop-value-preserved
loop-value-preserved c =
    let h : c.loop-value.value-index < length c.args.values.now = omega arith in
    rw (c.in_ok-push.ensures.ok, c.in_ok-from_str.ensures)
    (one_more c.args.values.now c.loop-value.value-index c.value-item.result c.loop-value.entries c.in-Some.text.now h c.value-item.is c.loop-value.invariant c.in-Some.ensures)
