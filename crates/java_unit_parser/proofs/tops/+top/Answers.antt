use Rattle.std.proofs.Common.{◌≡◌, ◌-◌, ap, arith, subst, suc}
use Rattle.java_unit_grammar.specs.Reading as r
use Rattle.java_token_cursor.specs.Shown.{shown}
use Rattle.java_type_parser.specs.Gives.{Gives}
use Rattle.java_modifier_rules.specs.Fits.{owner_seen}
use Rattle.java_block_parser.specs.Asks.{Shorter, found}
use Rattle.java_unit_parser.proofs.tops.+top.Goals as goal

pub returns-then-types-eq0 : goal.returns-then-types-eq0
unfolding r.tops
returns-then-types-eq0 t c = let none : c.args.types ≡ 0 = omega arith in ap (λ n. r.tops n (owner_seen c.args.owner) (shown c.args.pieces.now)) none

pub returns : goal.returns
unfolding r.tops
returns t c =
    let e : suc (c.args.types - 1) ≡ c.args.types = omega arith in
    subst (λ n. Gives found (Shorter c.args.pieces.now) (r.tops n (owner_seen c.args.owner) (shown c.args.pieces.now)) c.top_step.result) e c.top_step.ensures
