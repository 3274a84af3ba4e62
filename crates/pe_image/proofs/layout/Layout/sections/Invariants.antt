use Rattle.std.proofs.Common.{◌≡◌, ◌+◌, ◌*◌, ◌-◌, ◌++◌, All}
use Rattle.rtr_bytes.specs.Checks.{first_record, records}
use Rattle.pe_image.specs.Headers.{section_table_at, section_count, sections_of}
use Rattle.pe_image.specs.Checks.{raw_range_fits}
use Rattle.pe_image.specs.Sections.{section_at, IsInReach}
use Rattle.pe_image.proofs.layout.Layout.sections.Given as goal

abbrev pub invariant-loop-i : goal.invariant-loop-i
invariant-loop-i l =
    let bytes = l.self-inside.file in
    let at = section_table_at bytes + 40 * l.i in
    let left = section_count bytes - l.i in
    record {
      -- what was read and what is left are all of the table
      read : l.sections.items ++ records (section_at bytes) at 40 left ≡ sections_of bytes;
      -- the first bad one is among those that are left
      checked : first_record (raw_range_fits bytes) at 40 left ≡ first_record (raw_range_fits bytes) (section_table_at bytes) 40
          (section_count bytes);
      in_reach : All IsInReach l.sections.items;
    }
