-- The ranges of RVAs of a written file.
use Rattle.std.proofs.Common.{◌≡◌, ℕ, ◌+◌, ◌-◌, ◌^◌, ◌<◌, ◌≤◌, leb, cond, Bool, true, false, List, [], ◌∷◌, ◌++◌}
use Rattle.std.proofs.Common.{length, take, drop, map, Option, Some, None, refl, sym, ap, subst, ◌∙◌, arith}
use Rattle.std.specs.Prelude.{nat_le, if◌then◌else◌, find, is_some, IsSome}
use Rattle.std.specs.List.{AllZip}
use Rattle.std.specs.Option.{option_map}
use Rattle.std.proofs.lemmas.Bool.{lt-leb, and_right}
use Rattle.std.proofs.lemmas.List.{length-map}
use Rattle.std.proofs.Math.Seq.{take-append_seam}
use Rattle.rtr_bytes.specs.declared.fault.Fault.{Fault}
use Rattle.rtr_bytes.specs.Field.{u32_of}
use Rattle.rtr_bytes.specs.Checks.{first_fault}
use Rattle.pe_image.specs.declared.section.PeSection.{PeSection}
use Rattle.pe_image.specs.Sections.{has_range, slice_of_rva}
use Rattle.pe_image.specs.Headers.{sections_of, place_of, cli_at, metadata_place, metadata_size}
use Rattle.pe_image.specs.Checks.{cli_header_checks, pe_checks}
use Rattle.pe_image.specs.Places.{aligned, highest_end, dat_rva, cod_rva, headers_end, dat_section, cod_section}
use Rattle.pe_image.specs.Places.{all_sections, placed_from, end_from, raw_start}
use Rattle.pe_image.specs.Written.{HasRawOf, KeepsRanges, KeepsRaw, FindsPart}
use Rattle.pe_image.specs.Raw.{raw_of, raw_parts}
use Rattle.pe_image.proofs.PlacesLemmas.{aligned-512, aligned-65536, padded_before, placed_from-append, length-placed_from}
use Rattle.pe_image.proofs.RawLemmas.{AllWhole, Holds, AllZip-left, AllZip-right, kept_in, find_after, found_in, part_found}
use Rattle.pe_image.proofs.ReadBack.{cli_at-is, early_pass, late, none_late, same_field}
use Rattle.pe_image.proofs.FileLemmas.{Parts, the_file, file_holds, file_has, file_sections, file_laid}

-- ---- a range of the input

abbrev place_in : ℕ → PeSection → ℕ
place_in rva s = s.raw_at + (rva - s.rva)

in_reach : (b : Bool) (o : Option ℕ) (place : ℕ) → (if b then o else None) ≡ Some place → (b ≡ true) × (o ≡ Some place)
in_reach true o place h = (refl, h)
in_reach false o place h = absurd (let x : ⊥ = cc in x)

-- the two halves of what is held
old_held : (sections : List PeSection) (bytes dat cod out : List ℕ) (dat_len cod_len : ℕ)
    → AllZip (Holds out) (placed_from (raw_start sections) (all_sections sections dat_len cod_len)) (raw_parts sections bytes dat cod)
    → AllZip (Holds out) (placed_from (raw_start sections) sections) (map (raw_of bytes) sections)
unfolding raw_parts
old_held sections bytes dat cod out dat_len cod_len h =
    let more : List PeSection = dat_section sections dat_len ∷ cod_section sections dat_len cod_len ∷ [] in
    let start = raw_start sections in
    let P : List PeSection → Type 0 = λ t. AllZip (Holds out) t (map (raw_of bytes) sections ++ dat ∷ cod ∷ []) in
    AllZip-left (Holds out) (placed_from start sections) (placed_from (end_from start sections) more) (map (raw_of bytes) sections)
    (dat ∷ cod ∷ [])
    (omega (arith, length-placed_from sections start, length-map sections (raw_of bytes)))
    (subst P (placed_from-append sections more start) h)

new_held : (sections : List PeSection) (bytes dat cod out : List ℕ) (dat_len cod_len : ℕ)
    → AllZip (Holds out) (placed_from (raw_start sections) (all_sections sections dat_len cod_len)) (raw_parts sections bytes dat cod)
    → AllZip (Holds out) (placed_from (end_from (raw_start sections) sections)
    (dat_section sections dat_len ∷ cod_section sections dat_len cod_len ∷ [])) (dat ∷ cod ∷ [])
unfolding raw_parts
new_held sections bytes dat cod out dat_len cod_len h =
    let more : List PeSection = dat_section sections dat_len ∷ cod_section sections dat_len cod_len ∷ [] in
    let start = raw_start sections in
    let P : List PeSection → Type 0 = λ t. AllZip (Holds out) t (map (raw_of bytes) sections ++ dat ∷ cod ∷ []) in
    AllZip-right (Holds out) (placed_from start sections) (placed_from (end_from start sections) more) (map (raw_of bytes) sections)
    (dat ∷ cod ∷ [])
    (omega (arith, length-placed_from sections start, length-map sections (raw_of bytes)))
    (subst P (placed_from-append sections more start) h)

pub file_keeps : (sections : List PeSection) (bytes dat cod : List ℕ) (cli : ℕ) → Parts sections bytes dat cod cli
    → KeepsRanges sections bytes (sections_of (the_file sections bytes dat cod cli)) (the_file sections bytes dat cod cli)
file_keeps sections bytes dat cod cli p rva len place e =
    let out = the_file sections bytes dat cod cli in
    let more : List PeSection = dat_section sections (length dat) ∷ cod_section sections (length dat) (length cod) ∷ [] in
    let r = in_reach (nat_le (rva + len) (2 ^ 32)) (option_map (place_in rva) (find (has_range rva len) sections)) place e in
    let k = kept_in sections more (raw_start sections) rva len place bytes out
    (old_held sections bytes dat cod out (length dat) (length cod) (file_holds sections bytes dat cod cli p)) p.raw r.1 in
    let found : slice_of_rva (sections_of out) rva len ≡ Some k.0 =
    ap (λ (t : List PeSection). slice_of_rva t rva len) (file_sections sections bytes dat cod cli p)
    ∙ ap (λ (b : Bool). if b then option_map (place_in rva) (find (has_range rva len)
    (placed_from (raw_start sections) (sections ++ more))) else None) r.0
    ∙ k.1 in
    (k.0, found, k.2)

-- ---- raw bytes

raw_here : (new old rest : List ℕ) (s : PeSection) (at : ℕ) → drop at new ≡ raw_of old s ++ rest → length (raw_of old s) ≡ s.raw_size
    → raw_of new (record s { raw_at = at }) ≡ raw_of old s
unfolding raw_of
raw_here new old rest s at holds whole =
    ap (λ (t : List ℕ). take s.raw_size t) holds ∙ ap (λ (t : ℕ). take t (take s.raw_size (drop s.raw_at old) ++ rest)) (sym whole)
    ∙ take-append_seam (take s.raw_size (drop s.raw_at old)) rest

raw_kept : (new old : List ℕ) (sections : List PeSection) (at : ℕ)
    → AllZip (Holds new) (placed_from at sections) (map (raw_of old) sections) → AllWhole old sections
    → AllZip (HasRawOf old new) sections (placed_from at sections)
raw_kept new old [] at h w = tt
raw_kept new old (s ∷ ss) at ((rest, holds), hs) (w, ws) =
    (raw_here new old rest s at holds w, raw_kept new old ss (at + aligned 512 s.raw_size) hs ws)

pub file_raw : (sections : List PeSection) (bytes dat cod : List ℕ) (cli : ℕ) → Parts sections bytes dat cod cli
    → KeepsRaw sections bytes (sections_of (the_file sections bytes dat cod cli)) (the_file sections bytes dat cod cli)
file_raw sections bytes dat cod cli p =
    let out = the_file sections bytes dat cod cli in
    let more : List PeSection = dat_section sections (length dat) ∷ cod_section sections (length dat) (length cod) ∷ [] in
    let start = raw_start sections in
    let front = placed_from start sections in
    let back = placed_from (end_from start sections) more in
    let table : take (length sections) (sections_of out) ≡ front =
    ap (λ (t : List PeSection). take (length sections) t) (file_sections sections bytes dat cod cli p
    ∙ placed_from-append sections more start)
    ∙ ap (λ (t : ℕ). take t (front ++ back)) (sym (length-placed_from sections start)) ∙ take-append_seam front back in
    subst (λ (t : List PeSection). AllZip (HasRawOf bytes out) sections t) (sym table)
    (raw_kept out bytes sections start (old_held sections bytes dat cod out (length dat) (length cod)
    (file_holds sections bytes dat cod cli p)) p.raw)

-- ---- a range of a new part

-- an RVA after the input's sections is looked up in the new ones
looked_up : (sections : List PeSection) (bytes dat cod : List ℕ) (cli rva len : ℕ) → Parts sections bytes dat cod cli → 0 < len
    → highest_end sections ≤ rva
    → slice_of_rva (sections_of (the_file sections bytes dat cod cli)) rva len
    ≡ slice_of_rva (placed_from (end_from (raw_start sections) sections)
    (dat_section sections (length dat) ∷ cod_section sections (length dat) (length cod) ∷ [])) rva len
looked_up sections bytes dat cod cli rva len p above behind =
    let more : List PeSection = dat_section sections (length dat) ∷ cod_section sections (length dat) (length cod) ∷ [] in
    ap (λ (t : List PeSection). slice_of_rva t rva len) (file_sections sections bytes dat cod cli p)
    ∙ ap (λ (t : Option PeSection). if nat_le (rva + len) (2 ^ 32) then option_map (place_in rva) t else None)
    (find_after sections more (raw_start sections) rva len above behind)

pub file_dat : (sections : List PeSection) (bytes dat cod : List ℕ) (cli : ℕ) → Parts sections bytes dat cod cli
    → FindsPart (sections_of (the_file sections bytes dat cod cli)) (the_file sections bytes dat cod cli) (dat_rva sections) dat
file_dat sections bytes dat cod cli p =
    let out = the_file sections bytes dat cod cli in
    let at = end_from (raw_start sections) sections in
    let room = p.writable.room_in_image in
    let rva = aligned-65536 (highest_end sections) in
    let size = aligned-512 (length dat) in
    let s : PeSection = record (dat_section sections (length dat)) { raw_at = at } in
    let others = placed_from (at + aligned 512 (aligned 512 (length dat))) (cod_section sections (length dat) (length cod) ∷ []) in
    let held = new_held sections bytes dat cod out (length dat) (length cod) (file_holds sections bytes dat cod cli p) in
    record {
      place = at;
      rest = held.0.0;
      stands = held.0.1;
      found = λ start len above inside. looked_up sections bytes dat cod cli (dat_rva sections + start) len p above (omega arith)
          ∙ part_found s others dat start len inside size.low (omega arith);
    }

-- the first of two sections isn't the one
second : (s : PeSection) (others : List PeSection) (rva len : ℕ) → s.rva + s.raw_size < rva + len
    → slice_of_rva (s ∷ others) rva len ≡ slice_of_rva others rva len
second s others rva len past =
    ap (λ (b : Bool). if nat_le (rva + len) (2 ^ 32) then option_map (place_in rva) (cond b (Some s) (find (has_range rva len) others))
    else None)
    (and_right (leb s.rva rva) (leb (rva + len) (s.rva + s.raw_size)) (lt-leb (rva + len) (s.rva + s.raw_size) past))

pub file_cod : (sections : List PeSection) (bytes dat cod : List ℕ) (cli : ℕ) → Parts sections bytes dat cod cli
    → FindsPart (sections_of (the_file sections bytes dat cod cli)) (the_file sections bytes dat cod cli)
    (cod_rva sections (length dat)) cod
file_cod sections bytes dat cod cli p =
    let out = the_file sections bytes dat cod cli in
    let at = end_from (raw_start sections) sections in
    let room = p.writable.room_in_image in
    let rva = aligned-65536 (highest_end sections) in
    let cod_at = aligned-65536 (dat_rva sections + length dat) in
    let size = aligned-512 (length cod) in
    let first : PeSection = record (dat_section sections (length dat)) { raw_at = at } in
    let next = at + aligned 512 (aligned 512 (length dat)) in
    let s : PeSection = record (cod_section sections (length dat) (length cod)) { raw_at = next } in
    let held = new_held sections bytes dat cod out (length dat) (length cod) (file_holds sections bytes dat cod cli p) in
    let before = padded_before (dat_rva sections) (length dat) rva.multiple in
    record {
      place = next;
      rest = held.1.0.0;
      stands = held.1.0.1;
      found = λ start len above inside.
          let past : first.rva + first.raw_size < cod_rva sections (length dat) + start + len = omega arith in
          looked_up sections bytes dat cod cli (cod_rva sections (length dat) + start) len p above (omega arith)
          ∙ second first (s ∷ []) (cod_rva sections (length dat) + start) len past
          ∙ part_found s [] cod start len inside size.low (omega arith);
    }

-- ---- the CLI header

abbrev CliFound : List PeSection → List ℕ → ℕ → List ℕ → Type 0
CliFound sections dat cli out =
    (place : ℕ) × (place_of out cli 72 ≡ Some place) × (take 72 (drop place out) ≡ take 72 (drop (cli - dat_rva sections) dat))

cli_found : (sections : List PeSection) (bytes dat cod : List ℕ) (cli : ℕ) → Parts sections bytes dat cod cli
    → CliFound sections dat cli (the_file sections bytes dat cod cli)
cli_found sections bytes dat cod cli p =
    let out = the_file sections bytes dat cod cli in
    let low = p.writable.cli_in_dat.0 in
    let high = p.writable.cli_in_dat.1 in
    let f = file_dat sections bytes dat cod cli p in
    let start = cli - dat_rva sections in
    let is : dat_rva sections + start ≡ cli = omega arith in (
      f.place + start,
      ap (λ (t : ℕ). place_of out t 72) (sym is)
          ∙ f.found start 72 (omega arith) (omega arith),
      found_in out dat f.rest f.place start 72 (omega arith) f.stands,
    )

pub file_cli_place : (sections : List PeSection) (bytes dat cod : List ℕ) (cli : ℕ) → Parts sections bytes dat cod cli
    → place_of (the_file sections bytes dat cod cli) cli 72 ≡ Some (cli_at (the_file sections bytes dat cod cli))
file_cli_place sections bytes dat cod cli p =
    let out = the_file sections bytes dat cod cli in
    let f = cli_found sections bytes dat cod cli p in
    f.1 ∙ ap (λ (t : ℕ). Some t) (sym (cli_at-is out (length sections + 2) cli f.0 (file_has sections bytes dat cod cli p) f.1))

pub file_cli : (sections : List PeSection) (bytes dat cod : List ℕ) (cli : ℕ) → Parts sections bytes dat cod cli
    → take 72 (drop (cli_at (the_file sections bytes dat cod cli)) (the_file sections bytes dat cod cli))
    ≡ take 72 (drop (cli - dat_rva sections) dat)
file_cli sections bytes dat cod cli p =
    let out = the_file sections bytes dat cod cli in
    let f = cli_found sections bytes dat cod cli p in
    ap (λ (t : ℕ). take 72 (drop t out)) (cli_at-is out (length sections + 2) cli f.0 (file_has sections bytes dat cod cli p) f.1) ∙ f.2

late_left : (sections : List PeSection) (bytes dat cod : List ℕ) (cli : ℕ) → Parts sections bytes dat cod cli
    → first_fault pe_checks (the_file sections bytes dat cod cli) ≡ first_fault cli_header_checks (the_file sections bytes dat cod cli)
late_left sections bytes dat cod cli p =
    let out = the_file sections bytes dat cod cli in
    let f = cli_found sections bytes dat cod cli p in
    early_pass out (length sections + 2) cli f.0 (headers_end (length sections + 2)) (file_has sections bytes dat cod cli p)
    (file_laid sections bytes dat cod cli p) f.1

pub file_late : (sections : List PeSection) (bytes dat cod : List ℕ) (cli : ℕ) → Parts sections bytes dat cod cli
    → (f : Fault) → first_fault pe_checks (the_file sections bytes dat cod cli) ≡ Some f → 13 ≤ f.check
file_late sections bytes dat cod cli p f e =
    late (the_file sections bytes dat cod cli) f (sym (late_left sections bytes dat cod cli p) ∙ e)

-- a field of the CLI header
cli_field : (sections : List PeSection) (bytes dat cod : List ℕ) (cli j : ℕ) → Parts sections bytes dat cod cli → j + 4 ≤ 72
    → u32_of (the_file sections bytes dat cod cli) (cli_at (the_file sections bytes dat cod cli) + j)
    ≡ u32_of dat (cli - dat_rva sections + j)
cli_field sections bytes dat cod cli j p fits =
    let out = the_file sections bytes dat cod cli in
    let low = p.writable.cli_in_dat.0 in
    let high = p.writable.cli_in_dat.1 in
    same_field out dat (cli_at out) (cli - dat_rva sections) j (omega arith) fits (file_cli sections bytes dat cod cli p)

pub file_well_formed : (sections : List PeSection) (bytes dat cod : List ℕ) (cli : ℕ) → Parts sections bytes dat cod cli
    → 72 ≤ u32_of dat (cli - dat_rva sections)
    → IsSome (place_of (the_file sections bytes dat cod cli) (u32_of dat (cli - dat_rva sections + 8))
    (u32_of dat (cli - dat_rva sections + 12)))
    → first_fault pe_checks (the_file sections bytes dat cod cli) ≡ None
file_well_formed sections bytes dat cod cli p cb found =
    let out = the_file sections bytes dat cod cli in
    let i = cli - dat_rva sections in
    let first = cli_field sections bytes dat cod cli 0 p (omega arith) in
    let rva = cli_field sections bytes dat cod cli 8 p (omega arith) in
    let size = cli_field sections bytes dat cod cli 12 p (omega arith) in
    let here : cli_at out + 0 ≡ cli_at out = omega arith in
    let there : i + 0 ≡ i = omega arith in
    let own : u32_of out (cli_at out) ≡ u32_of dat i = ap (λ (t : ℕ). u32_of out t) (sym here) ∙ first
    ∙ ap (λ (t : ℕ). u32_of dat t) there in
    let range : metadata_place out ≡ place_of out (u32_of dat (i + 8)) (u32_of dat (i + 12)) =
    ap (λ (t : ℕ). place_of out t (metadata_size out)) rva ∙ ap (λ (t : ℕ). place_of out (u32_of dat (i + 8)) t) size in
    late_left sections bytes dat cod cli p ∙ none_late out (omega (arith, own)) (ap (λ (t : Option ℕ). is_some t) range ∙ found)
