use Rattle.std.proofs.Common.{get_or, refl}
use Rattle.native_format.specs.Nibbles.{at_slot}
use Rattle.native_format.proofs.SlotLaws.{put_all}
use Rattle.native_format.proofs.nibble_writer.put_list.Goals as goal

pub returns : goal.returns
returns c =
    let first = get_or c.args.list.now 0 (at_slot 0 0) in
    put_all c.args.list.now first (at_slot 0 0) c.args.out.now c.put_number.new.self c.put_number-2.new.self c.put_others.new.out refl
    c.requires c.in_ok-put_number.ensures c.in_ok-put_number-2.ensures c.in_ok-put_others.ensures
