use Rattle.std.proofs.Common.{refl}
use Rattle.pe_image.specs.Pieces.{fields_bytes}
use Rattle.asm_builder.specs.File.{directory_fields}
use Rattle.asm_builder.proofs.PeNumbers.{no_more, put_known, same}
use Rattle.asm_builder.proofs.headers.put_directories.Goals as goal

pub returns : goal.returns
returns c =
    let z = c.eight-zero.ensures in
    let cli = same c.four.ensures (same c.four-2.ensures (same z no_more)) in
    let b = same z (same z (same z (same z (same z (same z (same z cli)))))) in
    put_known c.put_numbers.result c.put_numbers.new.out.items c.args.out.now.items (fields_bytes directory_fields) _
    c.put_numbers.ensures (same z (same z (same z (same z (same z (same z (same z b))))))) refl
