use Rattle.std.proofs.Common.{◌<◌, ◌≤◌, length, arith}
use Rattle.toml.specs.View.{items_view}
use Rattle.j2k_settings.proofs.Arrays.{two_keys, other_key, no_array, array_found, array_none}
use Rattle.j2k_settings.proofs.reading.entries_of.Goals as goal

pub returns-then-len-gt1-clause-none : goal.returns-then-len-gt1-clause-none
returns-then-len-gt1-clause-none c =
    let more : 1 < length c.args.table.now.entries = omega arith in
    two_keys c.args.table.now.entries more

pub returns-then-ne-clause-none : goal.returns-then-ne-clause-none
returns-then-ne-clause-none c = other_key c.args.table.now.entries c.in-Some.key.now c.in-Some.value.now c.as_str.result.now c.in-Some.ensures.first c.as_str.ensures.value c.if-ne.ensures

pub returns-in-Some-as_array-clause-found : goal.returns-in-Some-as_array-clause-found
returns-in-Some-as_array-clause-found c =
    let short : length c.args.table.now.entries ≤ 1 = omega arith in
    array_found c.args.table.now.entries c.in-Some.key.now c.in-Some.value.now c.as_str.result.now (items_view c.in-Some-as_array.array.now.items) c.strings_of.result short c.in-Some.ensures.first
    c.as_str.ensures.value c.if-ne.ensures c.in-Some-as_array.ensures (rw c.as_slice.ensures.value at c.strings_of.ensures.found)

pub returns-in-Some-as_array-clause-none : goal.returns-in-Some-as_array-clause-none
returns-in-Some-as_array-clause-none c =
    array_none c.args.table.now.entries c.in-Some.key.now c.in-Some.value.now (items_view c.in-Some-as_array.array.now.items) c.strings_of.result c.in-Some.ensures.first c.in-Some-as_array.ensures (rw c.as_slice.ensures.value at c.strings_of.ensures.none)

pub returns-in-None-clause-none : goal.returns-in-None-clause-none
returns-in-None-clause-none c =
    no_array c.args.table.now.entries c.in-Some.key.now c.in-Some.value.now c.in-Some.ensures.first c.in-None.ensures
