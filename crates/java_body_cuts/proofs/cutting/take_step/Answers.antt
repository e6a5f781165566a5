use Rattle.std.proofs.Common.{◌≡◌, ◌+◌, ◌≤◌, true, ap, ◌∙◌, arith}
use Rattle.java_token_cursor.specs.Shown.{shown, piece_shown}
use Rattle.java_unit_grammar.specs.Cutting as u
use Rattle.java_body_cuts.specs.Cuts.{cut_from, stop_seen}
use Rattle.java_body_cuts.proofs.Steps.{cut_bodied, turn_within}
use Rattle.java_body_cuts.proofs.cutting.take_step.Goals as goal

pub returns-in-Some-behind : goal.returns-in-Some-behind
returns-in-Some-behind c =
    let h = c.in-Some-behind.ensures in
    let raw : true ≡ u.is_raw (piece_shown c.in-Some.piece) = cc in
    let step = cut_bodied (stop_seen c.args.stop) c.args.end _ _ _ _ _ _ _ _ c.in-Some-turned.ensures raw h.0 h.1 h.2 in
    let within = turn_within _ _ _ c.in-Some-turned.ensures in
    (ap (cut_from (stop_seen c.args.stop) c.args.end c.args.depth) c.in-Some.ensures.0 ∙ step, omega (arith, within), omega (arith, h.3, c.in-Some.ensures.1))
