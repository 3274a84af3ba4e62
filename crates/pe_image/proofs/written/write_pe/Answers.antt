use Rattle.std.proofs.Common.{◌≡◌, ◌+◌, ◌≤◌, ◌++◌, ◌∷◌, [], ℕ, List, None, length, sym, ap, subst, ◌∙◌, arith}
use Rattle.rtr_bytes.specs.Checks.{first_fault}
use Rattle.pe_image.specs.Checks.{pe_checks}
use Rattle.pe_image.specs.Headers.{Headers, headers_of, pe_at}
use Rattle.pe_image.specs.Places.{placed_from, raw_start}
use Rattle.pe_image.specs.Pieces.{file_of}
use Rattle.pe_image.specs.Raw.{raw_parts}
use Rattle.pe_image.specs.Written.{section_alignment_of, resources_of, header_sizes, header_values}
use Rattle.pe_image.specs.declared.values.OptionalHeader.{OptionalHeader}
use Rattle.pe_image.specs.declared.values.HeaderValues.{HeaderValues}
use Rattle.pe_image.proofs.HeaderLemmas.{header_covers}
use Rattle.pe_image.proofs.ValuesLemmas.{values-are}
use Rattle.pe_image.proofs.InputLemmas.{AreBytes, IsInput, is_input}
use Rattle.pe_image.proofs.Promises.{IsWritten, written, joined_file, raw_in_file, headers_size-is, cod_end, room_in_file, ok_then}
use Rattle.pe_image.proofs.written.write_pe.Goals as goal

-- what is known of the input: its sections are those of the bytes
input_of : (bytes : List ℕ) (h : Headers) → h ≡ headers_of bytes → AreBytes bytes → first_fault pe_checks bytes ≡ None
    → IsInput bytes h.sections
input_of bytes h read fits none = subst (IsInput bytes) (sym (ap (λ (t : Headers). t.sections) read)) (is_input bytes fits none)

pub of-copied-requires-clause-signature : goal.of-copied-requires-clause-signature
of-copied-requires-clause-signature c =
    let bytes = c.args.bytes.now in
    let h = (input_of bytes c.args.input.now c.requires.read (λ i. omega (arith, c.type_inv.bytes i)) c.requires.well_formed).signature in
    subst (λ (t : List ℕ). pe_at t + 24 ≤ length t) (sym c.new.ensures) h

pub of-sizes-requires : goal.of-sizes-requires
of-sizes-requires c =
    cod_end c.sections-sections.result.now c.args.input.now.sections (length c.args.dat.now) (length c.args.cod.now) c.args.cli_at
    c.after-new.result.cod
    c.sections-sections.ensures c.after-new.ensures.cod c.requires.writable

pub join-requires : goal.join-requires
join-requires c = record {
  first = ap (λ (t : OptionalHeader). t.size_of_headers) c.of-2.ensures
      ∙ headers_size-is c.sections-sections.result.now c.args.bytes.now (length c.args.dat.now) (length c.args.cod.now) c.of-sizes.result
      (c.of-sizes.ensures c.sections-sections.result.now c.args.bytes.now (length c.args.dat.now) (length c.args.cod.now)
      (c.of-copied.ensures.section_alignment ∙ ap (λ (t : List ℕ). section_alignment_of t) c.new.ensures) (omega arith)
      c.after-new.ensures.dat c.after-new.ensures.cod);
  room = room_in_file c.sections-sections.result.now c.args.input.now.sections (length c.args.dat.now) (length c.args.cod.now) c.args.cli_at
      c.after-new.result.dat c.after-new.result.cod c.sections-sections.ensures c.after-new.ensures.dat c.after-new.ensures.cod
      c.requires.writable;
  raw = raw_in_file c.args.bytes.now c.sections-sections.result.now c.args.input.now.sections c.sections-sections.ensures
      (input_of c.args.bytes.now c.args.input.now c.requires.read (λ i. omega (arith, c.type_inv.bytes i)) c.requires.well_formed);
  dat = omega (arith, c.requires.writable.room_in_image);
  cod = omega (arith, c.requires.writable.room_in_image);
}

-- the values of the headers
values_are : (c : goal.After-join) → (let v : HeaderValues = record {
  coff = c.of.result;
  optional = c.of-2.result;
  resource_table = c.of-copied.result.resource_table;
  cli_header = record { start = c.args.cli_at; len = 72 };
} in v)
    ≡ header_values c.sections-sections.result.now c.args.bytes.now (length c.args.dat.now) (length c.args.cod.now) c.args.cli_at
values_are c =
    values-are c.sections-sections.result.now c.args.bytes.now (length c.args.dat.now) (length c.args.cod.now) c.args.cli_at _ c.of.result
    c.of-2.result
    c.of-sizes.result c.of-copied.result.resource_table c.of.ensures (omega arith) c.of-2.ensures
    (c.of-sizes.ensures c.sections-sections.result.now c.args.bytes.now (length c.args.dat.now) (length c.args.cod.now)
    (c.of-copied.ensures.section_alignment ∙ ap (λ (t : List ℕ). section_alignment_of t) c.new.ensures) (omega arith)
    c.after-new.ensures.dat c.after-new.ensures.cod)
    (c.of-copied.ensures.resource_table ∙ ap (λ (t : List ℕ). resources_of t) c.new.ensures)

-- the file has all that it promises
file_written : (c : goal.After-join) (out : List ℕ)
    → out ≡ file_of (record {
      coff = c.of.result;
      optional = c.of-2.result;
      resource_table = c.of-copied.result.resource_table;
      cli_header = record { start = c.args.cli_at; len = 72 };
    })
    (placed_from (raw_start c.sections-sections.result.now) (c.sections-sections.result.now ++ c.after-new.result.dat ∷
    c.after-new.result.cod ∷ []))
    (raw_parts c.sections-sections.result.now c.args.bytes.now c.args.dat.now c.args.cod.now)
    → IsWritten c.args.input.now.sections c.args.bytes.now c.args.dat.now c.args.cod.now c.args.cli_at out
file_written c out e =
    written c.args.input.now.sections c.args.bytes.now c.args.dat.now c.args.cod.now c.args.cli_at out c.requires.writable
    (λ i. omega (arith, c.type_inv.bytes i))
    (input_of c.args.bytes.now c.args.input.now c.requires.read (λ i. omega (arith, c.type_inv.bytes i)) c.requires.well_formed)
    c.ranges.cli_at.fits
    (joined_file c.sections-sections.result.now c.args.input.now.sections c.args.bytes.now c.args.dat.now c.args.cod.now c.args.cli_at _
    c.after-new.result.dat c.after-new.result.cod out c.sections-sections.ensures c.after-new.ensures.dat c.after-new.ensures.cod
    (values_are c) e)

pub returns-clause-headers : goal.returns-clause-headers
returns-clause-headers c = ok_then _ _ c.join.result (λ out e. (file_written c out.items e).headers) c.join.ensures

pub returns-clause-sections : goal.returns-clause-sections
returns-clause-sections c = ok_then _ _ c.join.result (λ out e. (file_written c out.items e).records) c.join.ensures

pub returns-clause-covered : goal.returns-clause-covered
returns-clause-covered c =
    header_covers (header_values c.args.input.now.sections c.args.bytes.now (length c.args.dat.now) (length c.args.cod.now) c.args.cli_at)

pub returns-clause-table : goal.returns-clause-table
returns-clause-table c = ok_then _ _ c.join.result (λ out e. (file_written c out.items e).table) c.join.ensures

pub returns-clause-headers_padded : goal.returns-clause-headers_padded
returns-clause-headers_padded c = ok_then _ _ c.join.result (λ out e. (file_written c out.items e).headers_padded) c.join.ensures

pub returns-clause-padded : goal.returns-clause-padded
returns-clause-padded c = ok_then _ _ c.join.result (λ out e. (file_written c out.items e).padded) c.join.ensures

pub returns-clause-laid : goal.returns-clause-laid
returns-clause-laid c = ok_then _ _ c.join.result (λ out e. (file_written c out.items e).laid) c.join.ensures

pub returns-clause-length : goal.returns-clause-length
returns-clause-length c = ok_then _ _ c.join.result (λ out e. (file_written c out.items e).len) c.join.ensures

pub returns-clause-bounded : goal.returns-clause-bounded
returns-clause-bounded c = ok_then _ _ c.join.result (λ out e. (file_written c out.items e).bounded) c.join.ensures

pub returns-clause-raw : goal.returns-clause-raw
returns-clause-raw c = ok_then _ _ c.join.result (λ out e. (file_written c out.items e).raw) c.join.ensures

pub returns-clause-kept : goal.returns-clause-kept
returns-clause-kept c = ok_then _ _ c.join.result (λ out e. (file_written c out.items e).kept) c.join.ensures

pub returns-clause-dat : goal.returns-clause-dat
returns-clause-dat c = ok_then _ _ c.join.result (λ out e. (file_written c out.items e).dat_found) c.join.ensures

pub returns-clause-cod : goal.returns-clause-cod
returns-clause-cod c = ok_then _ _ c.join.result (λ out e. (file_written c out.items e).cod_found) c.join.ensures

pub returns-clause-cli : goal.returns-clause-cli
returns-clause-cli c = ok_then _ _ c.join.result (λ out e. (file_written c out.items e).cli_header) c.join.ensures

pub returns-clause-late : goal.returns-clause-late
returns-clause-late c = ok_then _ _ c.join.result (λ out e. (file_written c out.items e).late) c.join.ensures

pub returns-clause-well_formed : goal.returns-clause-well_formed
returns-clause-well_formed c = ok_then _ _ c.join.result (λ out e. (file_written c out.items e).well_formed) c.join.ensures
