use Rattle.std.proofs.Common.{sym, ap, ◌∙◌, arith, option_copied}
use Rattle.metadata.specs.declared.schema.Table.TheVariants as tables
use Rattle.type_world.proofs.ClassRows.{owner_is}
use Rattle.type_world.proofs.Counts.{rows_none}
use Rattle.type_world.proofs.assemblies.Assemblies.is_owner.Goals as goal

pub returns-in-Some : goal.returns-in-Some
returns-in-Some c =
    c.is_token.ensures ∙ owner_is c.args.self.now c.args.asm c.in-Some.assembly.now c.args.table c.args.row c.args.param
    c.column-owner.result c.coded.result (sym c.assembly.ensures ∙ ap option_copied c.in-Some.is) c.column-owner.ensures c.coded.ensures

pub returns-in-None : goal.returns-in-None
returns-in-None c =
    let none = rows_none c.args.self.now c.args.asm tables.GenericParam (sym c.assembly.ensures ∙ ap option_copied c.in-None.is) in
    let some = c.requires in
    absurd (omega (arith, none, some))
