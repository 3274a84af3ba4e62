use Rattle.std.proofs.Common.{◌≡◌, List, ap, length, ◌∙◌, arith}
use Rattle.native_format.specs.SparseLengths.{capped}
use Rattle.rtr_sections.specs.declared.entries.EntryPoint.{EntryPoint}
use Rattle.rtr_sections.specs.declared.slots.Slot.{Slot}
use Rattle.rtr_sections.specs.Parts.{entry_bytes, signature_bytes_of}
use Rattle.rtr_sections.proofs.Lengths.{part_len}
use Rattle.rtr_sections.proofs.length.written_len.Goals as goal

pub returns : goal.returns
returns c at =
    let slots : length c.as_slice-slots.result.now ≡ length c.args.plan.now.slots =
    ap (λ (t : List Slot). length t) c.as_slice-slots.ensures in
    let signatures = c.signatures_len.ensures ∙ ap (λ (t : List Slot). capped (length (signature_bytes_of t))) c.as_slice-slots.ensures in
    let entries = c.entries_len.ensures ∙ ap (λ (t : List EntryPoint). capped (length (entry_bytes t))) c.as_slice.ensures in
    let of_slots = rw c.from-2.ensures at c.saturating_mul.ensures in
    let of_imports = rw c.from-3.ensures at c.saturating_mul-2.ensures in
    let of_functions = rw c.from-4.ensures at c.saturating_mul-3.ensures in
    omega (
      arith,
      part_len c.args.plan.now at,
      slots,
      c.len-imports.ensures,
      c.len-functions.ensures,
      signatures,
      entries,
      c.from.ensures,
      of_slots,
      of_imports,
      of_functions,
      c.saturating_add.ensures,
      c.saturating_add-2.ensures,
      c.saturating_add-3.ensures,
      c.saturating_add-4.ensures,
      c.saturating_add-5.ensures,
    )
