-- What a written file is joined from.
use Rattle.std.specs.Prelude.{◌≡◌, ℕ, ◌^◌, ◌<◌, List, [], ◌∷◌, ◌++◌, length, All}
use Rattle.pe_image.specs.declared.section.PeSection.{PeSection}
use Rattle.pe_image.specs.declared.written.Parts.{Parts}
use Rattle.pe_image.specs.Places.{end_from, raw_start}
use Rattle.pe_image.specs.Raw.{IsInFile, raw_parts}

-- all section headers, before their raw bytes have a place
abbrev pub parts_sections : Parts → List PeSection
parts_sections p = p.sections.now ++ p.new.dat ∷ p.new.cod ∷ []

-- where the raw bytes begin
abbrev pub parts_start : Parts → ℕ
parts_start p = raw_start p.sections.now

abbrev pub parts_raw : Parts → List (List ℕ)
parts_raw p = raw_parts p.sections.now p.bytes.now p.dat.now p.cod.now

-- they fit together: the headers end where the raw bytes begin, each place has 32 bits, and the raw bytes are there
pub record AreJoinable (p : Parts) : Type 0 where
  pub first : p.values.optional.size_of_headers ≡ parts_start p
  pub room : end_from (parts_start p) (parts_sections p) < 2 ^ 32
  pub raw : All (IsInFile p.bytes.now) p.sections.now
  pub dat : length p.dat.now < 2 ^ 32
  pub cod : length p.cod.now < 2 ^ 32
