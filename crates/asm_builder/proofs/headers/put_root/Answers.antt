use Rattle.std.proofs.Common.{refl}
use Rattle.asm_builder.specs.File.{root_bytes}
use Rattle.asm_builder.proofs.PeNumbers.{no_more, put_after, same}
use Rattle.asm_builder.proofs.headers.put_root.Goals as goal

pub returns : goal.returns
returns c =
    put_after c.put_numbers-2.result c.put_numbers-2.new.out.items c.args.out.now.items c.put_numbers.new.out.items
    c.extend_from_slice.new.self.items _ root_bytes _ _ c.in_ok-put_numbers.ensures c.in_ok-extend_from_slice.ensures.items
    c.put_numbers-2.ensures
    (same c.four.ensures (same c.two.ensures (same c.two-2.ensures (same c.four-2.ensures (same c.four-3.ensures no_more)))))
    (same c.two-3.ensures (same c.two-4.ensures no_more)) refl
