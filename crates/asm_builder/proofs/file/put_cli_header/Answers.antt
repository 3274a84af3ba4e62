use Rattle.asm_builder.proofs.PeJoined.{put_cli}
use Rattle.asm_builder.proofs.PeNumbers.{no_more, same}
use Rattle.asm_builder.proofs.file.put_cli_header.Goals as goal

pub returns : goal.returns
returns c =
    let zeros =
    same c.eight.ensures (same c.eight-2.ensures
    (same c.eight-3.ensures (same c.eight-4.ensures (same c.eight-5.ensures
    (same c.four-6.ensures (same c.four-7.ensures no_more)))))) in
    let numbers = same c.four-2.ensures (same c.four-3.ensures (same c.four-4.ensures (same c.four-5.ensures zeros))) in
    put_cli c.put_numbers.result c.put_numbers.new.out.items c.args.out.now.items _ c.args.bodies c.args.metadata c.args.entry
    c.put_numbers.ensures (same c.four.ensures (same c.two.ensures (same c.two-2.ensures numbers)))
