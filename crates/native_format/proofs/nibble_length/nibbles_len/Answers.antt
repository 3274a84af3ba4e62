use Rattle.std.proofs.Common.{get_or, refl, arith}
use Rattle.std.specs.List.{flat_map}
use Rattle.native_format.specs.Nibbles.{at_slot, groups, numbers_of}
use Rattle.native_format.proofs.NibbleLaws.{length-packed}
use Rattle.native_format.proofs.SlotLaws.{count_all}
use Rattle.native_format.proofs.nibble_length.nibbles_len.Goals as goal

pub returns : goal.returns
returns c =
    let first = get_or c.args.list.now 0 (at_slot 0 0) in
    let all = count_all c.args.list.now first (at_slot 0 0) refl c.requires in
    let bytes = length-packed (flat_map groups (numbers_of c.args.list.now)) in
    omega (
      arith,
      all,
      bytes,
      c.group_count.ensures.count,
      c.group_count-2.ensures.count,
      c.count_after.ensures.count,
      c.from.ensures,
      c.from-2.ensures,
      c.div_ceil.ensures,
      c.min.ensures,
    )
