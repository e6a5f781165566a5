use Rattle.std.proofs.Common.{arith}
use Rattle.java_token_cursor.specs.Shown.{shown}
use Rattle.java_type_parser.proofs.LawsToCite.{length_shown}
use Rattle.java_fault_finder.proofs.Passing.{ends_read, run_within}
use Rattle.java_fault_finder.proofs.walk.read.Goals as goal

pub returns-in-Some : goal.returns-in-Some
returns-in-Some c = (ends_read _ _ _ c.in-Some.ensures, tt)

pub form-requires : goal.form-requires
form-requires c =
    let w = run_within (shown c.args.pieces.now) _ c.first_run-run.ensures in
    let l1 = length_shown c.first_run-run.result.text.now in
    let l2 = length_shown c.args.pieces.now in
    let q = c.requires in
    omega (arith, w, l1, l2, q)
