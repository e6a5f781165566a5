-- What a sink in memory is.
use Rattle.std.specs.Prelude.{ℕ, List, Option, refl}
use Rattle.std.specs.Coded.{Coded, code_by, coded×, coded_list, coded_ℕ}
use Rattle.j2k_io.specs.declared.calls.Fail.{Fail}
use Rattle.j2k_io.specs.Calls.{fail_code, next_keep, calls_after}

-- the bytes, the puts that are to fail, how many puts were made, and how many of them failed
pub record SinkState : Type 0 where
  pub bytes : List ℕ
  pub failing : List Fail
  pub calls : ℕ
  pub faults : ℕ

-- a sink is stored as the tuple of its parts
abbrev pub sink_code : Coded SinkState
sink_code =
    code_by (List ℕ × (List Fail × (ℕ × ℕ))) (coded× (coded_list coded_ℕ) (coded× (coded_list fail_code) (coded× coded_ℕ coded_ℕ)))
    (λ s. (s.bytes, (s.failing, (s.calls, s.faults)))) (λ p. record { bytes = p.0; failing = p.1.0; calls = p.1.1.0; faults = p.1.1.1 }) (λ _. refl)

-- how many bytes are kept where the next put fails
abbrev pub keep_now : SinkState → Option ℕ
keep_now sink = next_keep sink.failing sink.calls

-- one put more
abbrev pub called : SinkState → SinkState
called sink = record sink { calls = calls_after sink.calls }
