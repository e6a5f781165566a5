use Rattle.std.proofs.Common.{◌-◌, false, cond, length, take, ap}
use Rattle.std.proofs.lemmas.Str.Pattern.{ends_text}
use Rattle.j2k_sources.specs.Sources.{java_end}
use Rattle.j2k_tool.proofs.paths.base_of.Goals as goal

pub returns-in-None : goal.returns-in-None
returns-in-None c =
    let path = c.args.path.now in
    ap (λ b. cond b (take (length path - length java_end) path) path) (ends_text false java_end path c.in-None.ensures.cases)
