use Rattle.std.proofs.Common.{◌<◌, length, sym, ◌∙◌, arith}
use Rattle.java_characters.proofs.Escapes.{more_marks, no_mark, marks_end}
use Rattle.java_characters.proofs.letters.escape_at.Goals as goal
use Rattle.java_characters.proofs.letters.escape_at.Goals.{then-loop-marks-test+else-bytes-marks-eq117, else-loop-marks-test}

pub loop-marks-preserved : goal.loop-marks-preserved
loop-marks-preserved c =
    let h : c.loop-marks.marks < length c.args.bytes.now = omega arith in
    (omega arith, sym (more_marks c.args.bytes.now c.loop-marks.marks h c.if-bytes-marks-eq117.true) ∙ c.loop-marks.invariant.1)

pub returns-clause-value : goal.returns-clause-value
returns-clause-value c =
    let bytes = c.args.bytes.now in
    elim c.loop-marks-test.branch [
      | then-loop-marks-test+else-bytes-marks-eq117 w ↦ c.digits_from.ensures.value ∙ (sym (no_mark bytes c.loop-marks.marks w.loop-marks-test.true w.if-bytes-marks-eq117.false) ∙ c.loop-marks.invariant.1)
      | else-loop-marks-test w ↦ c.digits_from.ensures.value ∙ (sym (marks_end bytes c.loop-marks.marks w.loop-marks-test.false) ∙ c.loop-marks.invariant.1)
    ]
