-- What a disk in memory is.
use Rattle.std.specs.Prelude.{ℕ, ◌+◌, List, Option, is_some, if◌then◌else◌, refl}
use Rattle.std.specs.Coded.{Coded, code_by, coded×, coded_list, coded_ℕ}
use Rattle.std.specs.FinMap as finite
use Rattle.j2k_base.specs.FileMaps.{Files}
use Rattle.j2k_io.specs.declared.calls.Fail.{Fail}
use Rattle.j2k_io.specs.Calls.{fail_code, next_keep, calls_after}

-- the files, the calls that are to fail, how many calls were made, and how many of them failed
pub record DiskState : Type 0 where
  pub files : Files
  pub failing : List Fail
  pub calls : ℕ
  pub reads : ℕ
  pub writes : ℕ

-- a disk is stored as the tuple of its parts
abbrev pub disk_code : Coded DiskState
disk_code =
    code_by (Files × (List Fail × (ℕ × (ℕ × ℕ)))) (coded× (finite.code (coded_list coded_ℕ) (coded_list coded_ℕ)) (coded× (coded_list fail_code) (coded× coded_ℕ (coded× coded_ℕ coded_ℕ))))
    (λ d. (d.files, (d.failing, (d.calls, (d.reads, d.writes))))) (λ p. record { files = p.0; failing = p.1.0; calls = p.1.1.0; reads = p.1.1.1.0; writes = p.1.1.1.1 }) (λ _. refl)

-- how many bytes are kept where the next call fails
abbrev pub keep_now : DiskState → Option ℕ
keep_now disk = next_keep disk.failing disk.calls

-- one call more
abbrev pub called : DiskState → DiskState
called disk = record disk { calls = calls_after disk.calls }

-- one call more that listed or read
abbrev pub after_read : DiskState → DiskState
after_read disk = record disk { calls = calls_after disk.calls; reads = if is_some (keep_now disk) then disk.reads + 1 else disk.reads }
