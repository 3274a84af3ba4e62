use Rattle.std.proofs.Common.{Some, ap, ◌∙◌, arith}
use Rattle.type_world.proofs.BuiltIns.{first_sig, last_sig, no_sig, past_sig}
use Rattle.type_world.proofs.shapes.built_in_sig.Goals as goal

pub returns-then-row-lt1 : goal.returns-then-row-lt1
returns-then-row-lt1 c = no_sig c.args.row c.if-row-lt1.true

pub returns-then-row-lt2 : goal.returns-then-row-lt2
returns-then-row-lt2 c =
    let l = c.if-row-lt1.false in let m = c.if-row-lt2.true in ap Some c.of_this.ensures ∙ first_sig c.args.row (omega (arith, l, m))

pub returns-then-row-lt9 : goal.returns-then-row-lt9
returns-then-row-lt9 c =
    let l = c.if-row-lt8.false in let m = c.if-row-lt9.true in ap Some c.of_this-then-row-lt9.ensures
    ∙ last_sig c.args.row (omega (arith, l, m))

pub returns-else-row-lt9 : goal.returns-else-row-lt9
returns-else-row-lt9 c = let l = c.if-row-lt9.false in past_sig c.args.row (omega (arith, l))
