-- Workers: what a worker runs, and what its run comes to.
use Rattle.std.specs.Prelude.{◌≡◌, ℕ, ◌%◌, ◌^◌, ℤ, List, [], Option, Some, None, IsSome, true}
use Rattle.std.specs.Option.{option_map_or}
use Rattle.std.specs.Int.{w128, cast_unsigned}
use Rattle.type_world.specs.declared.identity.MethodId.{MethodId}
use Rattle.cil_meaning.specs.declared.ending.Ending.{Ending}
use Rattle.type_world.specs.World.{World}
use Rattle.type_world.specs.Entries.{can_start}
use Rattle.cil_meaning.specs.State.{Run, Over}
use Rattle.cil_meaning.specs.Run.{cil}

-- ---- what is seen of a run that is over: the bytes that it printed, and how it ended

pub record Ended : Type 0 where
  pub output : List ℕ
  pub ending : Ending

abbrev pub ended_of : {R H : Type 0} → Run R H → Option Ended
ended_of (Over o) = Some (record { output = o.output; ending = o.ending })
ended_of _ = None

-- ---- what a worker runs: an entry with its numbers, for so many ticks

pub record Job : Type 0 where
  pub entry : MethodId
  pub numbers : List ℤ
  pub ticks : ℕ

-- what the run of a job's CIL comes to
abbrev pub ends_as : World → Job → Option Ended
ends_as world job = ended_of (cil world job.entry job.numbers job.ticks)

-- the low 64 bits of a number, as a word
abbrev pub low_word : ℤ → ℕ
low_word z = cast_unsigned w128 z % 2 ^ 64

-- ---- a worker: its number, what it runs, and what that came to; nothing before it has run

pub record WorkerState : Type 0 where
  pub number : ℕ
  pub job : Job
  pub ended : Option Ended

-- the bytes that it printed; none before it has run
abbrev pub output_of : WorkerState → List ℕ
output_of worker = option_map_or (λ ended. ended.output) worker.ended []

-- a worker as it is made
abbrev pub new_worker : MethodId → ℕ → ℕ → List ℤ → WorkerState
new_worker entry ticks number numbers =
    record { number = number; job = record { entry = entry; numbers = numbers; ticks = ticks }; ended = None }

-- it has not run, and its entry can be started with its numbers
pub record IsReady (world : World) (worker : WorkerState) : Type 0 where
  pub new : worker.ended ≡ None
  pub starts : can_start world worker.job.entry worker.job.numbers ≡ true

-- it has run: its lines and its ending are those of the run of the CIL
abbrev pub ran_in : World → WorkerState → WorkerState
ran_in world worker = record { number = worker.number; job = worker.job; ended = ends_as world worker.job }

-- ---- the law of ends: a run that can be started is over

abbrev pub RunsEnd : Type 0
RunsEnd = (world : World) (job : Job) → can_start world job.entry job.numbers ≡ true → IsSome (ends_as world job)
