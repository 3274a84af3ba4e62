-- All that a written file promises.
use Rattle.std.proofs.Common.{◌≡◌, ℕ, ◌+◌, ◌-◌, ◌^◌, ◌<◌, ◌≤◌, List, [], ◌∷◌, ◌++◌, length, sym, ap, subst, ◌∙◌, arith, Result, Ok, Err}
use Rattle.std.specs.Prelude.{All, IfOk}
use Rattle.std.specs.List.{AllZip}
use Rattle.pe_image.specs.declared.section.PeSection.{PeSection}
use Rattle.pe_image.specs.declared.values.HeaderValues.{HeaderValues}
use Rattle.pe_image.specs.declared.values.Sizes.{Sizes}
use Rattle.pe_image.specs.Headers.{sections_of}
use Rattle.pe_image.specs.Places.{dat_rva, cod_rva, written_table_at, highest_end, dat_section, cod_section}
use Rattle.pe_image.specs.Places.{placed_from, headers_end, all_sections, end_from, raw_start, written_sections}
use Rattle.pe_image.specs.Places.{written_length, length_bound, AreLaid}
use Rattle.pe_image.specs.Written.{IsWritable, header_sizes, header_values, StandsIn, header_fields, table_fields}
use Rattle.pe_image.specs.Written.{IsPaddedFrom, HasPadded, KeepsRanges, KeepsRaw, FindsPart, HasCliHeader, FailsLate}
use Rattle.pe_image.specs.Written.{IsWellFormedWith}
use Rattle.pe_image.specs.Pieces.{file_of}
use Rattle.pe_image.specs.Raw.{IsInFile, raw_parts}
use Rattle.std.proofs.lemmas.List.Elements.{All-nil, All-cons}
use Rattle.pe_image.proofs.PlacesLemmas.{aligned-65536}
use Rattle.pe_image.proofs.InputLemmas.{AreBytes, IsInput, AllInFile, all_whole}
use Rattle.pe_image.proofs.FileLemmas.{Parts, the_file, end_below, values_in_range, file_length, file_fields}
use Rattle.pe_image.proofs.FileLemmas.{file_sections, file_table, file_headers_padded, file_padded, file_laid}
use Rattle.pe_image.proofs.RangeLemmas.{file_keeps, file_raw, file_dat, file_cod, file_cli_place, file_cli, file_late, file_well_formed}

pub record IsWritten (sections : List PeSection) (bytes dat cod : List ℕ) (cli : ℕ) (out : List ℕ) : Type 0 where
  pub headers : All (StandsIn out) (header_fields (header_values sections bytes (length dat) (length cod) cli))
  pub records : sections_of out ≡ written_sections sections (length dat) (length cod)
  pub table : All (StandsIn out) (table_fields written_table_at (written_sections sections (length dat) (length cod)))
  pub laid : AreLaid (headers_end (length sections + 2)) (sections_of out) (length out)
  pub len : length out ≡ written_length sections (length dat) (length cod)
  pub bounded : length out ≤ length_bound sections (length dat) (length cod)
  pub headers_padded : IsPaddedFrom out (headers_end (length sections + 2))
  pub padded : AllZip (HasPadded out) (sections_of out) (raw_parts sections bytes dat cod)
  pub raw : KeepsRaw sections bytes (sections_of out) out
  pub kept : KeepsRanges sections bytes (sections_of out) out
  pub dat_found : FindsPart (sections_of out) out (dat_rva sections) dat
  pub cod_found : FindsPart (sections_of out) out (cod_rva sections (length dat)) cod
  pub cli_header : HasCliHeader out cli dat (cli - dat_rva sections)
  pub late : FailsLate out
  pub well_formed : IsWellFormedWith out dat (cli - dat_rva sections)

abbrev known : List PeSection → List ℕ → List ℕ → List ℕ → ℕ → Type 0
known sections bytes dat cod cli =
    IsWritable sections (length dat) (length cod) cli × AreBytes bytes × IsInput bytes sections × (cli < 2 ^ 32)

parts : (sections : List PeSection) (bytes dat cod : List ℕ) (cli : ℕ) → known sections bytes dat cod cli → Parts sections bytes dat cod cli
parts sections bytes dat cod cli (w, fits, input, c) = record {
  writable = w;
  headers = input.headers;
  raw = all_whole bytes sections input.raw;
  values = values_in_range sections bytes (length dat) (length cod) cli fits w c;
}

the_file_is : (sections : List PeSection) (bytes dat cod : List ℕ) (cli : ℕ) → Parts sections bytes dat cod cli
    → IsWritten sections bytes dat cod cli (the_file sections bytes dat cod cli)
unfolding written_sections written_length
the_file_is sections bytes dat cod cli p = record {
  headers = file_fields sections bytes dat cod cli p;
  records = file_sections sections bytes dat cod cli p;
  table = file_table sections bytes dat cod cli p;
  laid = file_laid sections bytes dat cod cli p;
  len = file_length sections bytes dat cod cli p;
  bounded = omega (arith, file_length sections bytes dat cod cli p, end_below sections (length dat) (length cod));
  headers_padded = file_headers_padded sections bytes dat cod cli p;
  padded = file_padded sections bytes dat cod cli p;
  raw = file_raw sections bytes dat cod cli p;
  kept = file_keeps sections bytes dat cod cli p;
  dat_found = file_dat sections bytes dat cod cli p;
  cod_found = file_cod sections bytes dat cod cli p;
  cli_header = (file_cli_place sections bytes dat cod cli p, file_cli sections bytes dat cod cli p);
  late = file_late sections bytes dat cod cli p;
  well_formed = file_well_formed sections bytes dat cod cli p;
}

pub written : (sections : List PeSection) (bytes dat cod : List ℕ) (cli : ℕ) (out : List ℕ)
    → IsWritable sections (length dat) (length cod) cli → AreBytes bytes → IsInput bytes sections → cli < 2 ^ 32
    → out ≡ the_file sections bytes dat cod cli → IsWritten sections bytes dat cod cli out
written sections bytes dat cod cli out w fits input c e =
    subst (IsWritten sections bytes dat cod cli) (sym e) (the_file_is sections bytes dat cod cli
    (parts sections bytes dat cod cli (w, fits, input, c)))

-- ---- from the steps of the writer, whose list of sections is the input's

pub joined_file : (ss sections : List PeSection) (bytes dat cod : List ℕ) (cli : ℕ) (v : HeaderValues)
    (dat_s cod_s : PeSection) (out : List ℕ)
    → ss ≡ sections → dat_s ≡ dat_section ss (length dat) → cod_s ≡ cod_section ss (length dat) (length cod)
    → v ≡ header_values ss bytes (length dat) (length cod) cli
    → out ≡ file_of v (placed_from (raw_start ss) (ss ++ dat_s ∷ cod_s ∷ [])) (raw_parts ss bytes dat cod)
    → out ≡ the_file sections bytes dat cod cli
unfolding written_sections
joined_file ss sections bytes dat cod cli v dat_s cod_s out same d c values e =
    e ∙ ap (λ (t : HeaderValues). file_of t (placed_from (raw_start ss) (ss ++ dat_s ∷ cod_s ∷ [])) (raw_parts ss bytes dat cod)) values
    ∙ ap (λ (t : PeSection). file_of (header_values ss bytes (length dat) (length cod) cli)
    (placed_from (raw_start ss) (ss ++ t ∷ cod_s ∷ [])) (raw_parts ss bytes dat cod)) d
    ∙ ap (λ (t : PeSection). file_of (header_values ss bytes (length dat) (length cod) cli)
    (placed_from (raw_start ss) (ss ++ dat_section ss (length dat) ∷ t ∷ [])) (raw_parts ss bytes dat cod)) c
    ∙ ap (λ (t : List PeSection). the_file t bytes dat cod cli) same

pub all_raw : (bytes : List ℕ) (ss : List PeSection) → AllInFile bytes ss → All (IsInFile bytes) ss
all_raw bytes [] h = All-nil (IsInFile bytes)
all_raw bytes (s ∷ ss) (h, hs) = All-cons (IsInFile bytes) s ss h (all_raw bytes ss hs)

pub raw_in_file : (bytes : List ℕ) (ss sections : List PeSection) → ss ≡ sections → IsInput bytes sections → All (IsInFile bytes) ss
raw_in_file bytes ss sections same input = subst (All (IsInFile bytes)) (sym same) (all_raw bytes sections input.raw)

pub headers_size-is : (ss : List PeSection) (bytes : List ℕ) (dat_len cod_len : ℕ) (sizes : Sizes)
    → sizes ≡ header_sizes ss bytes dat_len cod_len
    → sizes.size_of_headers ≡ raw_start ss
unfolding header_sizes
headers_size-is ss bytes dat_len cod_len sizes e = ap (λ (t : Sizes). t.size_of_headers) e

pub cod_end : (ss sections : List PeSection) (dat_len cod_len cli : ℕ) (cod_s : PeSection) → ss ≡ sections
    → cod_s ≡ cod_section ss dat_len cod_len → IsWritable sections dat_len cod_len cli → cod_s.rva + cod_s.virtual_size < 2 ^ 32
cod_end ss sections dat_len cod_len cli cod_s same e w =
    let room = w.room_in_image in
    let dat = aligned-65536 (highest_end ss) in
    let cod = aligned-65536 (dat_rva ss + dat_len) in
    omega (
      arith,
      ap (λ (t : PeSection). t.rva) e,
      ap (λ (t : PeSection). t.virtual_size) e,
      ap (λ (t : List PeSection). highest_end t)
          same,
    )

pub room_in_file : (ss sections : List PeSection) (dat_len cod_len cli : ℕ) (dat_s cod_s : PeSection) → ss ≡ sections
    → dat_s ≡ dat_section ss dat_len → cod_s ≡ cod_section ss dat_len cod_len → IsWritable sections dat_len cod_len cli
    → end_from (raw_start ss) (ss ++ dat_s ∷ cod_s ∷ []) < 2 ^ 32
room_in_file ss sections dat_len cod_len cli dat_s cod_s same d c w =
    let is : end_from (raw_start ss) (ss ++ dat_s ∷ cod_s ∷ []) ≡ end_from (raw_start sections) (all_sections sections dat_len cod_len) =
    ap (λ (t : PeSection). end_from (raw_start ss) (ss ++ t ∷ cod_s ∷ [])) d
    ∙ ap (λ (t : PeSection). end_from (raw_start ss) (ss ++ dat_section ss dat_len ∷ t ∷ [])) c
    ∙ ap (λ (t : List PeSection). end_from (raw_start t) (all_sections t dat_len cod_len)) same in
    omega (arith, is, end_below sections dat_len cod_len, w.room_in_file)

pub ok_then : {A E : Type 0} (P Q : A → Type 0) (r : Result A E) → ((x : A) → P x → Q x) → IfOk r P → IfOk r Q
ok_then P Q (Ok x) f h = f x h
ok_then P Q (Err e) f h = tt
