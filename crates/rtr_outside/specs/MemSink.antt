-- What a sink in memory is seen as, and when its writes fail.
use Rattle.std.specs.Prelude.{◌≡◌, ◌⊎◌, ℕ, ◌-◌, ◌<◌, List, length, Contains}

pub record SinkInMemory : Type 0 where
  -- the bytes written so far
  pub written : List ℕ
  -- how many bytes it has room for, from the start
  pub room : ℕ
  -- the numbers, from 0, of the calls that fail
  pub fails : List ℕ
  -- the number of the next call, which stays at 2^64 - 1 once it is there
  pub calls : ℕ
  -- the count of faults, which stays at 2^64 - 1 once it is there
  pub faults : ℕ

-- how many bytes still fit
abbrev pub room_left : SinkInMemory → ℕ
room_left s = s.room - length s.written

-- the write of this piece fails: it isn't empty, and it is one of those that fail or nothing of it fits
abbrev pub IsRefused : SinkInMemory → List ℕ → Type 0
IsRefused s piece = (0 < length piece) × (Contains s.fails s.calls ⊎ (room_left s ≡ 0))
