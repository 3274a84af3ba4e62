use Rattle.std.proofs.Common.{ℕ, [], refl, sym, ap, ◌∙◌, append-nil}
use Rattle.pe_image.specs.Pieces.{section_bytes}
use Rattle.asm_builder.specs.File.{text_section}
use Rattle.asm_builder.proofs.PeNumbers.{no_more, number, put_after, same}
use Rattle.asm_builder.proofs.headers.put_section.Goals as goal

pub returns : goal.returns
unfolding section_bytes
returns c =
    let old = c.args.out.now.items in
    let raw = c.four-3.ensures ∙ ap (λ (t : ℕ). number 4 t) c.aligned.ensures in
    let last = same c.four-6.ensures (same c.two.ensures (same c.two-2.ensures (same c.four-7.ensures no_more))) in
    put_after c.put_numbers.result c.put_numbers.new.out.items old old c.extend_from_slice.new.self.items _
    (section_bytes (text_section c.args.size)) [] _ (sym (append-nil old)) c.in_ok-extend_from_slice.ensures.items
    c.put_numbers.ensures refl
    (same c.four.ensures (same c.four-2.ensures (same raw (same c.four-4.ensures (same c.four-5.ensures last))))) refl
