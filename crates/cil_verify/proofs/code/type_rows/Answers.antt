use Rattle.std.proofs.Common.{sym, arith}
use Rattle.metadata.specs.declared.schema.Table.TheVariants as tables
use Rattle.cil_verify.proofs.Counted.{no_rows, one_more}
use Rattle.cil_verify.proofs.code.type_rows.Goals as goal

pub loop-asm-init : goal.loop-asm-init
loop-asm-init c = record { rows = sym (no_rows tables.TypeDef); few = omega arith }

pub loop-asm-preserved : goal.loop-asm-preserved
loop-asm-preserved c =
    let more = one_more c.args.world.now c.loop-asm.asm tables.TypeDef in
    let rows = c.rows_at-rows.ensures.rows in
    let small = c.rows_at-rows.ensures.few in
    let so_far = c.loop-asm.invariant.rows in
    let few = c.loop-asm.invariant.few in
    record { rows = omega (arith, more, so_far, rows); few = omega (arith, few, small) }
