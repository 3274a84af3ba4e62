use Rattle.std.proofs.Common.{◌≡◌, ◌+◌, ◌∙◌, ℕ, ap}
use Rattle.pe_image.specs.declared.section.PeSection.{PeSection}
use Rattle.pe_image.specs.Places.{aligned, headers_end}
use Rattle.pe_image.specs.Written.{section_alignment_of, image_size}
use Rattle.pe_image.proofs.ValuesLemmas.{sizes-are}
use Rattle.pe_image.proofs.values.Sizes.of.Goals as goal

pub returns : goal.returns
returns c sections bytes dat_len cod_len alignment count dat cod =
    let end = c.args.new.now.cod.rva + c.args.new.now.cod.virtual_size in
    sizes-are sections bytes dat_len cod_len _ _ _ _ _ _
    (ap (λ (s : PeSection). s.raw_size) cod) (ap (λ (s : PeSection). s.raw_size) dat) (ap (λ (s : PeSection). s.rva) cod) alignment
    (c.image_size.ensures ∙ ap (λ (t : ℕ). image_size t end) alignment
    ∙ ap (λ (s : PeSection). image_size (section_alignment_of bytes) (s.rva + s.virtual_size)) cod)
    (c.aligned.ensures.value ∙ ap (λ (t : ℕ). aligned 512 t) (c.headers_end-headers_end.ensures.value ∙ ap headers_end count))
