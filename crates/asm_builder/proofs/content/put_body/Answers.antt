use Rattle.std.proofs.Common.{◌+◌, ◌-◌, ◌++◌, ◌∙◌, ap, ℕ, List}
use Rattle.pe_image.specs.Places.{aligned}
use Rattle.asm_builder.proofs.Padding.{not_empty, put_is}
use Rattle.asm_builder.proofs.content.put_body.Goals as goal

pub returns : goal.returns
returns c =
    put_is c.args.out.now.items c.put_body_header.new.out.items c.extend_from_slice.new.self.items
    c.put_zeros.new.out.items c.args.locals c.args.m.now
    c.padding4-padding.result (not_empty c.args.m.now.code c.is_empty.result c.is_empty.ensures c.if-is_empty.false)
    c.in_ok-put_body_header.ensures
    (c.in_ok-extend_from_slice.ensures.items ∙ ap (λ (l : List ℕ). c.put_body_header.new.out.items ++ l) c.as_slice.ensures)
    (c.padding4-padding.ensures.padding ∙ ap (λ n. aligned 4 (12 + n) - (12 + n)) c.len.ensures)
    c.in_ok-put_zeros.ensures
