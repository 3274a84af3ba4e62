use Rattle.std.proofs.Common.{◌+◌, ◌%◌, ◌/◌, ◌∷◌, [], map}
use Rattle.std.specs.Int.Digits.{digits_of}
use Rattle.native_format.specs.Nibbles.{groups}
use Rattle.native_format.proofs.NibbleLaws.{both_put}
use Rattle.native_format.proofs.nibble_writer.NibbleWriter.put_number.Goals as goal

pub returns : goal.returns
unfolding groups
returns c =
    both_put c.args.self.now c.put_marked.new.self c.put.new.self (map (λ d. 8 + d) (digits_of 8 (c.args.value / 8)))
    ((c.args.value % 8) ∷ []) c.in_ok-put.ensures c.in_ok-put_marked.ensures
