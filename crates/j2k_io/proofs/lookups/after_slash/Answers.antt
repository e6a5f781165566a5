use Rattle.std.proofs.Common.{None, ap, arith}
use Rattle.std.specs.Prelude.{option_and_then}
use Rattle.std.proofs.lemmas.Str.Pattern.{strip_prefix_char}
use Rattle.j2k_io.specs.Disks.{unless_empty}
use Rattle.j2k_io.proofs.Walks.{strip_byte}
use Rattle.j2k_io.proofs.lookups.after_slash.Goals as goal

pub returns-in-None : goal.returns-in-None
returns-in-None c = ap (option_and_then unless_empty) (strip_byte 47 c.args.path.now None (strip_prefix_char 47 c.args.path.now None c.in-None.ensures.cases (omega arith)))
