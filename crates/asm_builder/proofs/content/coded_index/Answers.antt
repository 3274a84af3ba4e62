use Rattle.std.proofs.Common.{◌<◌, ◌+◌, ◌*◌, ◌^◌, ◌/◌, ◌%◌, arith, subst, sym, ap, ◌∙◌}
use Rattle.metadata.specs.Schema.{tag_bits}
use Rattle.asm_builder.specs.Content.{tag_of}
use Rattle.asm_builder.proofs.Coded.{index_small, no_wrap, tag_small}
use Rattle.asm_builder.proofs.content.coded_index.Goals as goal

pub overflow_add-result : goal.overflow_add-result
overflow_add-result c =
    let small : c.tag_in.result < 32 = subst (λ t. t < 32) (sym c.tag_in.ensures) (tag_small c.args.kind (c.args.token / 2 ^ 24)) in
    let bound = index_small (c.args.token % 2 ^ 24) c.tag_bits.result c.tag_in.result (omega arith) c.tag_bits.ensures.few small in
    omega (arith, bound)

pub returns : goal.returns
unfolding tag_of
returns c =
    let small : c.tag_in.result < 32 = subst (λ t. t < 32) (sym c.tag_in.ensures) (tag_small c.args.kind (c.args.token / 2 ^ 24)) in
    no_wrap (c.args.token % 2 ^ 24) c.tag_bits.result c.tag_in.result (omega arith) c.tag_bits.ensures.few small
    ∙ ap (λ b. c.args.token % 2 ^ 24 * 2 ^ b + c.tag_in.result) c.tag_bits.ensures.bits
    ∙ ap (λ t. c.args.token % 2 ^ 24 * 2 ^ tag_bits c.args.kind + t) c.tag_in.ensures
