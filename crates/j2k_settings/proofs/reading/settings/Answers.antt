use Rattle.toml.specs.View.{table_view}
use Rattle.j2k_settings.proofs.Arrays.{bad_table}
use Rattle.j2k_settings.proofs.reading.settings.Goals as goal

pub returns-clause-refused : goal.returns-clause-refused
returns-clause-refused c =
    (c.in_ok-bad_settings-in-None.ensures, bad_table c.args.bytes.now (table_view c.in-Ok.table) c.in-Ok.ensures.ok.1 (rw c.in-None.is at c.in_ok-entries.ensures.none))
