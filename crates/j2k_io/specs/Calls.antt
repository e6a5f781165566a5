-- Calls that fail by a list.
use Rattle.std.specs.Prelude.{ℕ, ◌+◌, nat_lt, ◌==◌, List, Option, None, min, find, if◌then◌else◌, refl}
use Rattle.std.specs.Option.{option_map}
use Rattle.std.specs.Coded.{Coded, code_by, coded×, coded_ℕ}
use Rattle.j2k_io.specs.declared.calls.Fail.{Fail}

-- an entry is stored as the pair of its numbers
abbrev pub fail_code : Coded Fail
fail_code = code_by (ℕ × ℕ) (coded× coded_ℕ coded_ℕ) (λ fail. (fail.call, fail.keep)) (λ p. record { call = p.0; keep = p.1 }) (λ _. refl)

-- the last call that a list can name
abbrev pub last_call : ℕ
last_call = 4294967295

-- how many bytes are kept where the call of this number fails: its first entry counts
abbrev pub keep_of : List Fail → ℕ → Option ℕ
keep_of failing call = option_map (λ fail. fail.keep) (find (λ fail. fail.call == call) failing)

-- how many bytes are kept where the next call fails, after so many calls
unfoldable pub next_keep : List Fail → ℕ → Option ℕ
next_keep failing calls = if nat_lt calls last_call then keep_of failing (calls + 1) else None

-- one call more, as far as they are counted
unfoldable pub calls_after : ℕ → ℕ
calls_after calls = min (calls + 1) last_call
