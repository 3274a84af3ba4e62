use Rattle.std.proofs.Common.{◌≡◌, ◌+◌, ◌*◌, false, length}
use Rattle.std.specs.Option.{option_map, option_map_or}
use Rattle.std.specs.List.{list_all}
use Rattle.native_format.specs.Nibbles.{list_nibbles}
use Rattle.native_format.specs.NibbleSteps.{left, list_end}
use Rattle.rtr_sections.specs.EntryHeads.{exists_in, links_at}
use Rattle.rtr_sections.proofs.slot_lists.linked_len.Given as goal

abbrev pub invariant-slots : goal.invariant-slots
invariant-slots l = record {
  -- the slots that are left decide
  links : option_map_or (list_all (exists_in l.imports)) (left l.slots) false ≡ links_at l.bytes l.imports l.at;
  -- the list ends where it did
  same_end : list_end l.slots ≡ option_map (λ n. 2 * l.at + n) (list_nibbles l.bytes l.at);
}

abbrev pub decreases-slots : goal.decreases-slots
decreases-slots l = length l.slots.stream
