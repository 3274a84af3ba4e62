-- Rows by a key: a list has the key of each row, from row 1.
use Rattle.std.specs.Prelude.{◌≡◌, ◌<◌, ◌^◌, ℕ, ◌+◌, ◌-◌, ◌==◌, List, length, map, find, get_or, Option}
use Rattle.std.specs.Option.{option_map_or}
use Rattle.std.specs.List.{range_with_len}

abbrev pub key_of : List ℕ → ℕ → ℕ
key_of keys row = get_or keys (row - 1) 0

-- the first row with a key, from one row on
unfoldable pub row_with : List ℕ → ℕ → ℕ → Option ℕ
row_with keys key from = find (λ row. key_of keys row == key) (range_with_len from (length keys + 1 - from))

-- the first row after one that has the same key; 0 where there is none
abbrev pub row_after : List ℕ → ℕ → ℕ
row_after keys row = option_map_or (λ next. next) (row_with keys (key_of keys row) (row + 1)) 0

-- what an index has: the first row of each key, and for each row, from the last to the first, the next row with its key
pub record IsIndex (keys : List ℕ) (first : ℕ → Option ℕ) (next : List ℕ) : Type 0 where
  pub few : length keys < 2 ^ 24
  pub firsts : (key : ℕ) → first key ≡ row_with keys key 1
  pub nexts : next ≡ map (λ after. row_after keys (length keys - after)) (range_with_len 0 (length keys))
