-- The places of `#Strings` at which a text begins, by the places after them.
use Rattle.std.specs.Prelude.{◌≡◌, ◌<◌, ◌==◌, ◌&&◌, ◌||◌, ℕ, Bool, false, not, List, take, drop, get_or, is_some}
use Rattle.std.specs.List.{list_any}
use Rattle.std.specs.Str.{is_utf8}
use Rattle.metadata.specs.Heaps.{text_in}

-- the places of a heap from one on at which a text begins are marked
abbrev pub AreTextsAfter : ℕ → List Bool → List ℕ → Type 0
AreTextsAfter at marks heap = (k : ℕ) → at < k → get_or marks k false ≡ is_some (text_in (drop k heap))

abbrev pub AreTexts : List Bool → List ℕ → Type 0
AreTexts marks heap = (k : ℕ) → get_or marks k false ≡ is_some (text_in (drop k heap))

-- bytes are part of a text
abbrev pub is_text : List ℕ → Bool
is_text bytes = is_utf8 bytes && not (list_any (λ b. b == 0) bytes)

-- bytes begin with a part of a text of some size, and with a text after it
abbrev pub goes_on : ℕ → List ℕ → Bool
goes_on size bytes = is_some (text_in (drop size bytes)) && is_text (take size bytes)

-- a character of more than one byte begins a text
abbrev pub begins_by_lead : List ℕ → Bool
begins_by_lead bytes = (goes_on 2 bytes || goes_on 3 bytes) || goes_on 4 bytes
