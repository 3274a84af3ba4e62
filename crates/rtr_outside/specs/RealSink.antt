-- What a sink over a writer is seen as.
use Rattle.std.specs.Prelude.{ℕ, refl}
use Rattle.std.specs.Coded.{Coded, code_by, coded×, coded_ℕ}

pub record SinkOver (W : Type 0) : Type 0 where
  -- the writer
  pub writer : W
  -- the count of faults, which stays at 2^64 - 1 once it is there
  pub faults : ℕ

-- it is stored as the pair of its fields
abbrev pub sink_code : {W : Type 0} → Coded W → Coded (SinkOver W)
sink_code {W} writer =
    code_by (W × ℕ) (coded× writer coded_ℕ) (λ s. (s.writer, s.faults)) (λ p. record { writer = p.0; faults = p.1 }) (λ _. refl)
