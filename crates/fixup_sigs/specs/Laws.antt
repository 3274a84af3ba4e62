-- What holds of fixups at a place of bytes.
use Rattle.std.specs.Prelude.{◌≡◌, ◌<◌, ℕ, List, ◌++◌, drop, get_or, Some}
use Rattle.fixup_sigs.specs.declared.fixup.Fixup.{Fixup}
use Rattle.fixup_sigs.specs.Reading.{fixup_at}
use Rattle.fixup_sigs.specs.Shortest.{IsSpellable, fixup_bytes}

-- the shortest spelling of a fixup is read where it is written, whatever is before and after it
abbrev pub WrittenFixupIsRead : Type 0
WrittenFixupIsRead =
    (fixup : Fixup) (bytes rest : List ℕ) (at : ℕ) → IsSpellable fixup → drop at bytes ≡ fixup_bytes fixup ++ rest
    → fixup_at bytes at ≡ Some fixup

-- and what is read has a spelling
abbrev pub ReadFixupIsSpellable : Type 0
ReadFixupIsSpellable =
    (bytes : List ℕ) (at : ℕ) (fixup : Fixup) → ((i : ℕ) → get_or bytes i 0 < 256) → fixup_at bytes at ≡ Some fixup → IsSpellable fixup
