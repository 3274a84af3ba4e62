use Rattle.std.proofs.Common.{◌≡◌, ◌++◌}
use Rattle.std.specs.List.{flat_map}
use Rattle.cli_assembly.specs.Assemblies.{assembly_of, methods_of, rows_between}
use Rattle.r2rdump.specs.Types.{method_line}
use Rattle.r2rdump.proofs.types.method_lines.Given as goal

-- what was printed and the lines of the methods that are left are all
abbrev pub invariant-loop-method : goal.invariant-loop-method
invariant-loop-method l =
    l.text ++ flat_map (method_line (assembly_of l.assembly)) (rows_between l.method l.end)
    ≡ l.fn.text ++ flat_map (method_line (assembly_of l.assembly)) (methods_of (assembly_of l.assembly) l.row)
