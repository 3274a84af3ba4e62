use Rattle.std.proofs.Common.{ℕ, refl, ap, ◌∙◌}
use Rattle.pe_image.specs.Pieces.{fields_bytes}
use Rattle.asm_builder.specs.File.{coff_fields}
use Rattle.asm_builder.proofs.PeNumbers.{no_more, number, put_known, same}
use Rattle.asm_builder.proofs.headers.put_coff.Goals as goal

pub returns : goal.returns
returns c =
    let flags = c.two-6.ensures ∙ ap (λ (t : ℕ). number 2 t) c.characteristics.ensures in
    let coff =
    same c.two-3.ensures (same c.two-4.ensures
    (same c.four-3.ensures (same c.four-4.ensures (same c.four-5.ensures (same c.two-5.ensures (same flags no_more)))))) in
    let zeros =
    same c.eight.ensures (same c.eight-2.ensures
    (same c.eight-3.ensures (same c.eight-4.ensures
    (same c.eight-5.ensures (same c.eight-6.ensures (same c.eight-7.ensures (same c.four.ensures (same c.four-2.ensures coff)))))))) in
    put_known c.put_numbers.result c.put_numbers.new.out.items c.args.out.now.items (fields_bytes (coff_fields c.args.entry)) _
    c.put_numbers.ensures (same c.two.ensures (same c.two-2.ensures zeros)) refl
