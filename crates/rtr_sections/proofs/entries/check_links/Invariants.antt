use Rattle.std.proofs.Common.{◌≡◌, ◌≤◌, ◌-◌}
use Rattle.std.specs.Prelude.{sum_by}
use Rattle.std.specs.List.{range_with_len}
use Rattle.rtr_sections.specs.Numbered.{first_bad}
use Rattle.rtr_sections.specs.EntryHeads.{HasRoom, list_len_in, unlinked_index}
use Rattle.rtr_sections.proofs.entries.check_links.Given as goal

abbrev pub invariant-loop-index : goal.invariant-loop-index
invariant-loop-index l =
    let bad = unlinked_index l.file l.part l.fn.lists.imports l.functions l.array in
    record {
      -- the first bad entry is among those that are left
      checked : first_bad bad l.index (l.array.count - l.index) ≡ first_bad bad 0 l.array.count;
      same_bytes : l.lists.bytes ≡ l.fn.lists.bytes;
      same_imports : l.lists.imports ≡ l.fn.lists.imports;
      -- the lists of the entries so far were asked
      asked : l.lists.asked ≡ sum_by (list_len_in l.file l.part l.array) (range_with_len 0 l.index);
      room : HasRoom l.lists;
      within : l.index ≤ l.array.count;
    }
