use Rattle.std.proofs.Common.{◌+◌, ◌%◌, ◌/◌, ◌++◌, ◌∷◌, [], map, sym, ap, ◌∙◌}
use Rattle.std.specs.Int.Digits.{digits_of}
use Rattle.native_format.proofs.NibbleLaws.{both_put, marked_step}
use Rattle.native_format.proofs.nibble_writer.NibbleWriter.+put_marked.Goals as goal

pub returns-in_ok-put : goal.returns-in_ok-put
returns-in_ok-put t c =
    both_put c.args.self.now c.put_marked.new.self c.put.new.self (map (λ d. 8 + d) (digits_of 8 (c.args.value / 8)))
    ((8 + c.args.value % 8) ∷ []) c.in_ok-put.ensures c.in_ok-put_marked.ensures
    ∙ ap (λ ns. c.args.self.now ++ ns) (sym (marked_step c.args.value c.if-value-gt0.true))
