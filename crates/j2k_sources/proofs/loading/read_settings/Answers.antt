use Rattle.std.proofs.Common.{sym}
use Rattle.j2k_sources.proofs.Loads.{settings_held, settings_long, settings_read, settings_refused}
use Rattle.j2k_sources.proofs.loading.read_settings.Goals as goal

pub read-requires : goal.read-requires
read-requires g c = settings_held (g.D.Disk.held c.args.disk.now) c.args.src.now c.in_ok-path.path c.args.paths.now c.requires c.in_ok-path.ensures (sym c.if-not-lists_settings.ensures)

pub returns-in-Over-clause-read : goal.returns-in-Over-clause-read
returns-in-Over-clause-read g c =
    settings_long (g.D.Disk.held c.args.disk.now) c.args.src.now c.in_ok-path.path c.args.paths.now c.in_ok-excess_of-in-Over.field-0 c.requires c.in_ok-path.ensures (sym c.if-not-lists_settings.ensures)
    (rw c.in-Over.is at c.in_ok-read.ensures.bytes) c.in_ok-excess_of-in-Over.ensures

pub returns-in-Ok-clause-read : goal.returns-in-Ok-clause-read
returns-in-Ok-clause-read g c =
    settings_read (g.D.Disk.held c.args.disk.now) c.args.src.now c.in_ok-path.path c.in-Whole.bytes c.args.paths.now c.in-Ok.entries c.requires c.in_ok-path.ensures (sym c.if-not-lists_settings.ensures)
    (rw c.in-Whole.is at c.in_ok-read.ensures.bytes) (rw c.in-Whole.is at c.in_ok-read.ensures.within) (rw c.as_slice.ensures at c.in-Ok.ensures.read)

pub returns-in-Err-Fault-clause-read : goal.returns-in-Err-Fault-clause-read
returns-in-Err-Fault-clause-read g c =
    settings_refused (g.D.Disk.held c.args.disk.now) c.args.src.now c.in_ok-path.path c.in-Whole.bytes c.args.paths.now c.in-Err-Fault.fault c.requires c.in_ok-path.ensures (sym c.if-not-lists_settings.ensures)
    (rw c.in-Whole.is at c.in_ok-read.ensures.bytes) (rw c.in-Whole.is at c.in_ok-read.ensures.within)
    (rw (c.as_slice.ensures, c.in-Err-Fault.field-0-is) at c.in-Err-Fault.ensures.refused)
