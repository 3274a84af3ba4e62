-- A run is over: it is neither going on nor stuck.
use Rattle.std.proofs.Common.{◌≢◌, IsSome, refl}
use Rattle.cil_meaning.specs.State.{Run, Going, Over, Stuck, IsOver}
use Rattle.rtr_runner.specs.Workers.{ended_of}

pub over_ends : {R H : Type 0} (run : Run R H) → IsOver run → run ≢ Stuck → IsSome (ended_of run)
over_ends (Going s) over free = absurd over
over_ends (Over o) over free = refl
over_ends Stuck over free = absurd (free refl)
