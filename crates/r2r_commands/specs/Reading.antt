-- What came of reading the inputs of a command.
use Rattle.std.specs.Prelude.{◌≡◌, ℕ, ◌<◌, ◌≤◌, List, [], ◌∷◌, ◌++◌, length, Option, Some, None, nat_lt, if◌then◌else◌}
use Rattle.rtr_outside.specs.Files.{Contents, IsKnownAs, IsKnownLonger, file_limit}

-- the most files that are read
abbrev pub most_files : ℕ
most_files = 64

-- the file was read as these bytes
pub record IsRead (contents : Option Contents) (name bytes : List ℕ) : Type 0 where
  pub known : IsKnownAs contents name bytes
  pub within : length bytes ≤ file_limit

-- each file was read, and these are their bytes in the order of the names
abbrev pub AreRead : Option Contents → List (List ℕ) → List (List ℕ) → Type 0
AreRead contents [] [] = Unit {0}
AreRead contents [] (bytes ∷ files) = ⊥
AreRead contents (name ∷ names) [] = ⊥
AreRead contents (name ∷ names) (bytes ∷ files) = IsRead contents name bytes × AreRead contents names files

-- the name is among the names, and each before it was read
pub record IsReached (contents : Option Contents) (names : List (List ℕ)) (name : List ℕ) : Type 0 where
  pub earlier : List (List ℕ)
  pub later : List (List ℕ)
  pub in_order : names ≡ earlier ++ name ∷ later
  pub files : List (List ℕ)
  pub read : AreRead contents earlier files

-- what the reading of some files comes to
pub data Reading : Type 0 where
  -- more files are named than are read
  OverMost : ℕ → Reading
  -- the read of this file failed
  Failed : List ℕ → Reading
  -- this file is above the limit
  OverLimit : List ℕ → Reading
  -- each file was read, and these are their bytes
  AllRead : List (List ℕ) → Reading

-- The reading of files of these names came to this. They are read in their order, up to the first that is refused.
abbrev pub ComesTo : Option Contents → List (List ℕ) → Reading → Type 0
ComesTo contents names (OverMost n) = (n ≡ length names) × (most_files < n)
ComesTo contents names (Failed name) = (length names ≤ most_files) × IsReached contents names name
ComesTo contents names (OverLimit name) =
    (length names ≤ most_files) × IsReached contents names name × IsKnownLonger file_limit contents name
ComesTo contents names (AllRead files) = (length names ≤ most_files) × AreRead contents names files

-- ---- where the files expose their bytes

-- a file, and what came of reading those after it
abbrev pub after_bytes : List ℕ → Reading → Reading
after_bytes bytes (AllRead files) = AllRead (bytes ∷ files)
after_bytes bytes other = other

abbrev pub after_file : List ℕ → Option (List ℕ) → Reading → Reading
after_file name None rest = Failed name
after_file name (Some bytes) rest = if nat_lt file_limit (length bytes) then OverLimit name else after_bytes bytes rest

abbrev pub each_exposed : Contents → List (List ℕ) → Reading
each_exposed contents [] = AllRead []
each_exposed contents (name ∷ names) = after_file name (contents name) (each_exposed contents names)

-- the reading of files of which no read fails but those of names that are not there
abbrev pub exposed_reading : Contents → List (List ℕ) → Reading
exposed_reading contents names =
    if nat_lt most_files (length names) then OverMost (length names) else each_exposed contents names
