use Rattle.std.proofs.Common.{◌+◌, ◌∙◌, ap, drop, slice_set, sym}
use Rattle.cil_decode.specs.declared.operation.IntegerType.TheVariants as integers
use Rattle.cil_interp.specs.Entered.{kept_from}
use Rattle.cil_interp.proofs.Begun.{keep_read}
use Rattle.cil_interp.proofs.enter.keep.Goals as goal

pub loop-i-preserved : goal.loop-i-preserved
loop-i-preserved c =
    c.loop-i.invariant
    ∙ keep_read c.args.places.now c.loop-i.words c.args.base c.loop-i.i integers.I1 c.loop-i-test.true
    ∙ ap (λ n. kept_from (drop (c.loop-i.i + 1) c.args.places.now)
    (slice_set c.loop-i.words (c.args.base + c.loop-i.i) n) (c.args.base + (c.loop-i.i + 1)))
    (sym c.kept_word.ensures)
