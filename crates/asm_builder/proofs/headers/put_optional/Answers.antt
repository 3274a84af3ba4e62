use Rattle.std.proofs.Common.{ℕ, refl, ap, ◌∙◌}
use Rattle.pe_image.specs.Pieces.{fields_bytes}
use Rattle.asm_builder.specs.File.{optional_fields}
use Rattle.asm_builder.proofs.PeNumbers.{no_more, number, put_known, same}
use Rattle.asm_builder.proofs.headers.put_optional.Goals as goal

pub returns : goal.returns
returns c =
    let code = c.four.ensures ∙ ap (λ (t : ℕ). number 4 t) c.aligned.ensures in
    let image = c.four-11.ensures ∙ ap (λ (t : ℕ). number 4 t) c.image_size.ensures in
    let e =
    same c.four-14.ensures (same c.four-15.ensures
    (same c.four-16.ensures (same c.four-17.ensures (same c.four-18.ensures (same c.four-19.ensures no_more))))) in
    let d =
    same c.four-10.ensures (same image
    (same c.four-12.ensures (same c.four-13.ensures (same c.two-8.ensures (same c.two-9.ensures e))))) in
    let b =
    same c.two-2.ensures (same c.two-3.ensures
    (same c.two-4.ensures (same c.two-5.ensures (same c.two-6.ensures (same c.two-7.ensures d))))) in
    let a = same c.four-5.ensures (same c.four-6.ensures (same c.four-7.ensures (same c.four-8.ensures (same c.four-9.ensures b)))) in
    let first = same code (same c.four-2.ensures (same c.four-3.ensures (same c.four-4.ensures a))) in
    put_known c.put_numbers.result c.put_numbers.new.out.items c.args.out.now.items (fields_bytes (optional_fields c.args.size)) _
    c.put_numbers.ensures (same c.two.ensures (same c.one.ensures (same c.one-2.ensures first))) refl
