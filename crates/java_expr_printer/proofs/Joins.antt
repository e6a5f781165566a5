-- What was written, and then more.
use Rattle.std.proofs.Common.{append_assoc}
use Rattle.std.proofs.lemmas.List.{append-nil}
use Rattle.java_expr_printer.proofs.Expanded.{written_texts}

pub ruleset joins = (append_assoc, append-nil, written_texts)
