use Rattle.std.proofs.Common.{◌≡◌, ◌+◌, ◌-◌, ℕ, List, length, map, ap, ◌∙◌, sym, arith}
use Rattle.rtr_sections.specs.declared.slots.Slot.{Slot}
use Rattle.rtr_sections.specs.declared.entries.EntryPoint.{EntryPoint}
use Rattle.rtr_sections.specs.declared.imports.ImportSection.{ImportSection}
use Rattle.rtr_sections.specs.Parts.{cell_spans, entry_bytes, header_span, parts_of, placed_imports, part_bytes, signature_bytes_of}
use Rattle.rtr_sections.specs.Parts.{signature_rvas, span_of_cells, words}
use Rattle.rtr_sections.proofs.Types.{FitsTypes}
use Rattle.rtr_sections.proofs.Back.{image_back, well_formed}
use Rattle.rtr_sections.proofs.Stands.{are_parts}
use Rattle.rtr_sections.proofs.TypesFit.{types_fit}
use Rattle.rtr_sections.proofs.Unread.{asked_bytes, shape_cells, shape_header, shape_imports, shape_length, shape_parts}
use Rattle.rtr_sections.proofs.WrittenLemmas.{bytes_are, fits_in, functions_few, header_place, imports_are, made_length}
use Rattle.rtr_sections.proofs.written.write_rtr.Goals as goal

signatures_len : (c : goal.After-len) → c.len.result ≡ length (signature_bytes_of c.args.plan.now.slots)
signatures_len c =
    made_length signature_bytes_of c.as_slice.result.now c.args.plan.now.slots c.in_ok-signatures.signatures.bytes.items c.len.result
    c.as_slice.ensures c.in_ok-signatures.ensures.bytes
    (omega (arith, c.in_ok-signatures.signatures.bytes.ok.0, c.len.ensures))

entries_len : (c : goal.After-len-2) → c.len-2.result ≡ length (entry_bytes c.args.plan.now.entries)
entries_len c =
    made_length entry_bytes c.as_slice-2.result.now c.args.plan.now.entries c.in_ok-entries.entries.items c.len-2.result
    c.as_slice-2.ensures c.in_ok-entries.ensures
    (omega (arith, c.in_ok-entries.entries.ok.0, c.len-2.ensures))

pub of-places-requires : goal.of-places-requires
of-places-requires c = omega (arith, fits_in c.args.plan.now c.args.at c.requires.plan, c.requires.plan.low)

pub of-requires-clause-room : goal.of-requires-clause-room
of-requires-clause-room c =
    rw c.as_slice.ensures
    (omega (
      arith,
      fits_in c.args.plan.now c.args.at c.requires.plan,
      are_parts c.args.plan.now,
      header_place c.args.plan.now,
      c.of-places.ensures.signatures,
      c.requires.plan.low,
    ))

pub write_entries-requires-clause-functions : goal.write_entries-requires-clause-functions
write_entries-requires-clause-functions c = rw c.as_slice-2.ensures (functions_few c.args.plan.now c.args.at c.requires.plan)

pub write_entries-requires-clause-small : goal.write_entries-requires-clause-small
write_entries-requires-clause-small c = rw c.as_slice-2.ensures (omega (arith, fits_in c.args.plan.now c.args.at c.requires.plan))

pub placed_imports-requires-clause-cells : goal.placed_imports-requires-clause-cells
placed_imports-requires-clause-cells c =
    rw c.as_slice-3.ensures
    (omega (arith, fits_in c.args.plan.now c.args.at c.requires.plan, c.requires.plan.planned.slots, c.requires.plan.low))

pub placed_imports-requires-clause-arrays : goal.placed_imports-requires-clause-arrays
placed_imports-requires-clause-arrays c =
    rw c.as_slice-3.ensures
    (omega (
      arith,
      fits_in c.args.plan.now c.args.at c.requires.plan,
      are_parts c.args.plan.now,
      header_place c.args.plan.now,
      c.of-places.ensures.arrays,
      c.requires.plan.planned.slots,
      c.requires.plan.low,
    ))

pub overflow_cast-entries_range : goal.overflow_cast-entries_range
overflow_cast-entries_range c = omega (arith, fits_in c.args.plan.now c.args.at c.requires.plan, signatures_len c)

pub overflow_add-entries_range : goal.overflow_add-entries_range
overflow_add-entries_range c =
    omega (
      arith,
      fits_in c.args.plan.now c.args.at c.requires.plan,
      are_parts c.args.plan.now,
      header_place c.args.plan.now,
      c.of-places.ensures.signatures,
      c.requires.plan.low,
      signatures_len c,
    )

pub overflow_cast-entries_range-2 : goal.overflow_cast-entries_range-2
overflow_cast-entries_range-2 c = omega (arith, fits_in c.args.plan.now c.args.at c.requires.plan, entries_len c)

pub put_head-requires-clause-imports : goal.put_head-requires-clause-imports
put_head-requires-clause-imports c = omega (arith, c.of-places.ensures.imports, c.of-places.ensures.arrays, are_parts c.args.plan.now)

pub put_head-requires-clause-functions : goal.put_head-requires-clause-functions
put_head-requires-clause-functions c = omega (arith, c.of-places.ensures.functions, c.of-places.ensures.unwinds, are_parts c.args.plan.now)

pub put_tables-requires : goal.put_tables-requires
put_tables-requires c =
    rw c.as_slice-functions.ensures
    (omega (
      arith,
      fits_in c.args.plan.now c.args.at c.requires.plan,
      are_parts c.args.plan.now,
      header_place c.args.plan.now,
      c.of-places.ensures.unwinds,
      c.requires.plan.low,
    ))

-- the bytes are the plan's
whole : (c : goal.After-drop-signatures-3) → c.put_tables.new.out.items ≡ part_bytes c.args.plan.now c.args.at
whole c =
    let plan = c.args.plan.now in
    let parts = are_parts plan in
    let bytes_len : c.len.result ≡ length (signature_bytes_of plan.slots) =
    made_length signature_bytes_of c.as_slice.result.now c.args.plan.now.slots c.in_ok-signatures.signatures.bytes.items c.len.result
    c.as_slice.ensures c.in_ok-signatures.ensures.bytes
    (omega (arith, c.in_ok-signatures.signatures.bytes.ok.0, c.len.ensures)) in
    let array_len : c.len-2.result ≡ length (entry_bytes plan.entries) =
    made_length entry_bytes c.as_slice-2.result.now c.args.plan.now.entries c.in_ok-entries.entries.items c.len-2.result
    c.as_slice-2.ensures c.in_ok-entries.ensures
    (omega (arith, c.in_ok-entries.entries.ok.0, c.len-2.ensures)) in
    let start : c.of-places.result.signatures + c.len.result ≡ c.args.at + (parts_of plan).entries =
    omega (arith, parts, c.of-places.ensures.signatures, bytes_len) in
    let len : c.len-2.result ≡ (parts_of plan).end - (parts_of plan).entries = omega (arith, parts, array_len) in
    let placed : c.deref.result.now ≡ placed_imports c.args.at c.of-places.result.arrays plan.imports =
    c.deref.ensures.value ∙ c.in_ok-imports.ensures.placed
    ∙ ap (λ (t : List ImportSection). placed_imports c.args.at c.of-places.result.arrays t) c.as_slice-3.ensures in
    let rvas : c.in_ok-signatures.signatures.rvas.items ≡ words (signature_rvas c.of-places.result.signatures plan.slots) =
    c.in_ok-signatures.ensures.rvas ∙ ap (λ (t : List Slot). words (signature_rvas c.of-places.result.signatures t)) c.as_slice.ensures in
    let signatures : c.in_ok-signatures.signatures.bytes.items ≡ signature_bytes_of plan.slots =
    c.in_ok-signatures.ensures.bytes ∙ ap (λ (t : List Slot). signature_bytes_of t) c.as_slice.ensures in
    let entries : c.deref-2.result.now ≡ entry_bytes plan.entries =
    c.deref-2.ensures.value ∙ c.in_ok-entries.ensures ∙ ap (λ (t : List EntryPoint). entry_bytes t) c.as_slice-2.ensures in
    bytes_are plan c.args.at c.of-places.result (record { start = c.of-places.result.signatures + c.len.result; len = c.len-2.result })
    c.deref.result.now _ _ c.deref-2.result.now _ _ _
    c.requires.plan.planned c.of-places.ensures start len placed rvas signatures entries c.in_ok-bytes.ensures.items
    c.in_ok-put_head.ensures.head (rw c.as_slice-functions.ensures at c.in_ok-put_tables.ensures.tables)

pub returns-clause-bytes : goal.returns-clause-bytes
returns-clause-bytes c = whole c

pub returns-clause-small : goal.returns-clause-small
returns-clause-small c = rw (whole c) c.requires.plan.small

pub returns-clause-unread : goal.returns-clause-unread
returns-clause-unread c other e = whole c ∙ sym (asked_bytes other c.args.plan.now c.args.at e)

pub returns-clause-length_alone : goal.returns-clause-length_alone
returns-clause-length_alone c other e = ap (λ (t : List ℕ). length t) (whole c) ∙ sym (shape_length other c.args.plan.now c.args.at e)

-- the header's range is where the part has it
header_is : (c : goal.After-drop-signatures-3)
    → record { start = c.of-places.result.header; len = 76 } ≡ header_span c.args.plan.now c.args.at
header_is c = ap (λ (t : ℕ). record { start = t; len = 76 }) c.of-places.ensures.header

cells_are : (c : goal.After-drop-signatures-3) → c.in_ok-cell_spans.field-0.items ≡ cell_spans c.args.plan.now c.args.at
cells_are c =
    let plan = c.args.plan.now in
    let placed : c.deref-3.result.now ≡ placed_imports c.args.at c.of-places.result.arrays plan.imports =
    c.deref-3.ensures.value ∙ c.in_ok-imports.ensures.placed
    ∙ ap (λ (t : List ImportSection). placed_imports c.args.at c.of-places.result.arrays t) c.as_slice-3.ensures in
    c.in_ok-cell_spans.ensures
    ∙ ap (λ (t : List ImportSection). map span_of_cells t)
    (imports_are plan c.args.at c.of-places.result c.deref-3.result.now c.of-places.ensures placed)

pub returns-clause-cells : goal.returns-clause-cells
returns-clause-cells c = cells_are c

pub returns-clause-places_alone : goal.returns-clause-places_alone
returns-clause-places_alone c other e =
    let plan = c.args.plan.now in
    let at = c.args.at in (
      shape_parts other plan e,
      header_is c ∙ sym (shape_header other plan at e),
      cells_are c
          ∙ sym (shape_cells other plan at e),
      shape_imports other plan at e,
    )

fits : (c : goal.After-drop-signatures-3) → FitsTypes c.args.plan.now
fits c =
    let plan = c.args.plan.now in
    let front = c.in_ok-put_head.ensures in
    let behind = c.in_ok-put_tables.ensures in
    let placed : c.deref.result.now ≡ placed_imports c.args.at c.of-places.result.arrays plan.imports =
    c.deref.ensures.value ∙ c.in_ok-imports.ensures.placed
    ∙ ap (λ (t : List ImportSection). placed_imports c.args.at c.of-places.result.arrays t) c.as_slice-3.ensures in
    types_fit plan c.args.at c.args.at c.of-places.result.arrays c.deref.result.now c.requires.plan placed front.header_flags front.ranges
    (rw c.as_slice-3.ensures at c.in_ok-imports.ensures.sizes) front.import_flags
    front.words (rw c.as_slice-functions.ensures at behind.begins) (rw c.as_slice-functions.ensures at behind.lengths)

pub returns-clause-bounded : goal.returns-clause-bounded
returns-clause-bounded c = rw (whole c) (c.parts_are_bounded.ensures c.args.plan.now c.args.at (fits c).entries)

pub returns-clause-well_formed : goal.returns-clause-well_formed
returns-clause-well_formed c file rows carries =
    well_formed c.written_is_read.ensures c.written_fixup_is_read.ensures file c.args.plan.now c.args.at rows c.requires.plan (fits c)
    carries

pub returns-clause-read_back : goal.returns-clause-read_back
returns-clause-read_back c file rows carries =
    image_back c.written_is_read.ensures c.written_fixup_is_read.ensures file c.args.plan.now c.args.at rows c.requires.plan (fits c)
    carries
