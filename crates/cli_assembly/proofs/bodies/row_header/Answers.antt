use Rattle.std.proofs.Common.{ap, Some, sym, true, false, ◌∙◌}
use Rattle.cli_assembly.proofs.Rows.{header_is}
use Rattle.cli_assembly.proofs.bodies.row_header.Goals as goal

pub returns-then-has_cil : goal.returns-then-has_cil
returns-then-has_cil c =
    ap Some c.body_at.ensures
    ∙ header_is c.args.bytes.now c.args.metadata.now c.args.row c.method_column-rva.result c.method_column.result true
    c.requires.first c.requires.last
    c.method_column-rva.ensures c.method_column.ensures (sym c.has_cil.ensures ∙ c.if-has_cil.true)

pub returns-else-has_cil : goal.returns-else-has_cil
returns-else-has_cil c =
    header_is c.args.bytes.now c.args.metadata.now c.args.row c.method_column-rva.result c.method_column.result false
    c.requires.first c.requires.last
    c.method_column-rva.ensures c.method_column.ensures (sym c.has_cil.ensures ∙ c.if-has_cil.false)
