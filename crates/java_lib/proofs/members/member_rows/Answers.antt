use Rattle.std.proofs.Common.{◌<◌, arith}
use Rattle.java_lib.proofs.Facts.{distinct_at, stands_at}
use Rattle.java_lib.proofs.members.member_rows.Goals as goal

pub returns-then-class-lt-ARRAY_LIST : goal.returns-then-class-lt-ARRAY_LIST
returns-then-class-lt-ARRAY_LIST c =
    let within : c.args.class < 37 = omega arith in
    record { value = c.value_members.ensures; stands = stands_at c.args.class _ within c.value_members.ensures; distinct = distinct_at c.args.class _ c.value_members.ensures }

pub returns-then-class-lt-THROWABLE : goal.returns-then-class-lt-THROWABLE
returns-then-class-lt-THROWABLE c =
    let within : c.args.class < 37 = omega arith in
    record { value = c.other_members.ensures; stands = stands_at c.args.class _ within c.other_members.ensures; distinct = distinct_at c.args.class _ c.other_members.ensures }

pub returns-else-class-lt-THROWABLE : goal.returns-else-class-lt-THROWABLE
returns-else-class-lt-THROWABLE c =
    let within : c.args.class < 37 = omega arith in
    record { value = c.throwable_members.ensures; stands = stands_at c.args.class _ within c.throwable_members.ensures; distinct = distinct_at c.args.class _ c.throwable_members.ensures }
