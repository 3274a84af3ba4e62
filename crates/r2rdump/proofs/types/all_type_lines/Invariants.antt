use Rattle.std.proofs.Common.{◌≡◌, ◌++◌}
use Rattle.std.specs.List.{flat_map, range_with_len}
use Rattle.metadata.specs.declared.schema.Table.TheVariants as tables
use Rattle.cli_assembly.specs.Assemblies.{assembly_of, row_count, rows_between}
use Rattle.r2rdump.specs.Types.{type_lines}
use Rattle.r2rdump.proofs.types.all_type_lines.Given as goal

-- what was printed and the lines of the types that are left are all
abbrev pub invariant-loop-row : goal.invariant-loop-row
invariant-loop-row l =
    l.text ++ flat_map (type_lines (assembly_of l.assembly)) (rows_between l.row l.end)
    ≡ l.fn.text ++ flat_map (type_lines (assembly_of l.assembly)) (range_with_len 1 (row_count (assembly_of l.assembly) tables.TypeDef))
