use Rattle.std.proofs.Common.{ℕ, List, ◌+◌, ◌++◌, ap}
use Rattle.std.specs.List.{flat_map, range_with_len}
use Rattle.metadata.specs.declared.schema.Table.TheVariants as tables
use Rattle.cli_assembly.specs.Assemblies.{assembly_of, row_count}
use Rattle.r2rdump.specs.Types.{type_lines}
use Rattle.r2rdump.proofs.Listed.{all_rows, listed-more}
use Rattle.r2rdump.proofs.types.all_type_lines.Goals as goal

pub loop-row-init : goal.loop-row-init
loop-row-init c =
    let assembly = assembly_of c.args.assembly.now in
    ap (λ (rows : List ℕ). c.args.text.now ++ flat_map (type_lines assembly) rows)
    (all_rows (c.rows-end.result + 1) (row_count assembly tables.TypeDef) (ap (λ (n : ℕ). n + 1) c.rows-end.ensures.rows))

pub loop-row-preserved : goal.loop-row-preserved
loop-row-preserved c =
    let assembly = assembly_of c.args.assembly.now in
    listed-more (type_lines assembly) c.loop-row.row (c.rows-end.result + 1) c.loop-row.text c.type_lines.new.text
    (c.args.text.now ++ flat_map (type_lines assembly) (range_with_len 1 (row_count assembly tables.TypeDef))) c.loop-row-test.true
    c.in_ok-type_lines.ensures c.loop-row.invariant
