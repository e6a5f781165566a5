use Rattle.std.specs.List.{flat_map}
use Rattle.meanings.specs.declared.kotlin.TheConstants.{KOTLIN_MAIN, KOTLIN_MAIN_OPEN, KOTLIN_MAIN_END}
use Rattle.meanings.specs.KText.{name_text, statement_text}
use Rattle.j2k_tool.proofs.MainTexts.{put}
use Rattle.j2k_tool.proofs.printing.push_some_main.Goals as goal

pub returns : goal.returns
returns c =
    let body = rw c.as_slice.ensures at c.in_ok-push_statements.ensures in
    put c.push_str.result c.args.out.now KOTLIN_MAIN.now (name_text c.args.main.now.parameter) KOTLIN_MAIN_OPEN.now (flat_map statement_text c.args.main.now.body) KOTLIN_MAIN_END.now
    c.push_head.new.out c.push_statements.new.out c.push_str.new.self c.in_ok-push_head.ensures body c.push_str.ensures.ok
