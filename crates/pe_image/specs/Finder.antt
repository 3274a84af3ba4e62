-- What decides, for runs of sections, whether any section of a run holds a range of RVAs.
use Rattle.std.specs.Prelude.{◌≡◌, ℕ, ◌+◌, ◌*◌, ◌<◌, ◌≤◌, List, [], ◌∷◌, length, take, drop, Bool, ◌&&◌, nat_le}
use Rattle.std.specs.List.{list_any}
use Rattle.std.specs.List.Sorted.{IsNonDecreasingBy}
use Rattle.pe_image.specs.declared.section.PeSection.{PeSection}
use Rattle.pe_image.specs.declared.finder.Step.{Step}
use Rattle.pe_image.specs.declared.finder.Level.{Level}
use Rattle.pe_image.specs.declared.finder.Finder.{Finder}
use Rattle.pe_image.specs.Sections.{has_range}

-- the step begins at or before an RVA and reaches an end
abbrev pub holds : ℕ → ℕ → Step → Bool
holds rva end s = nat_le s.rva rva && nat_le end s.reach

-- both numbers rise along the steps
pub record IsRising (stairs : List Step) : Type 0 where
  pub rva : IsNonDecreasingBy (λ (s : Step). s.rva) stairs
  pub reach : IsNonDecreasingBy (λ (s : Step). s.reach) stairs

-- As many steps as the run has sections. They rise, and a step holds a range exactly where a section does
pub record IsStairs (stairs : List Step) (run : List PeSection) : Type 0 where
  pub rising : IsRising stairs
  pub count : length stairs ≡ length run
  pub same : (rva len : ℕ) → list_any (holds rva (rva + len)) stairs ≡ list_any (has_range rva len) run

-- The table in runs of a width: the stairs of every second run from the first on are one after the other, of each run that has
-- more sections after it.
abbrev pub IsLevel : ℕ → List Step → List PeSection → Type 0
IsLevel width steps sections =
    (j : ℕ) → width * j + width * j + width < length sections
    → IsStairs (take width (drop (width * j) steps)) (take width (drop (width * j + width * j) sections))

-- how many sections a run has that so many levels halve down to 16
abbrev pub run_width : List Level → ℕ
run_width [] = 16
run_width (level ∷ levels) = run_width levels + run_width levels

-- each level's runs are half as long as those of the one before
abbrev pub AreLevels : List Level → List PeSection → Type 0
AreLevels [] sections = Unit {0}
AreLevels (level ∷ levels) sections = IsLevel (run_width levels) level.steps.items sections × AreLevels levels sections

-- the whole table is one run of its width
pub record IsFinder (finder : Finder) (sections : List PeSection) : Type 0 where
  pub width : finder.width ≡ run_width finder.levels.items
  pub all : length sections ≤ finder.width
  pub levels : AreLevels finder.levels.items sections
