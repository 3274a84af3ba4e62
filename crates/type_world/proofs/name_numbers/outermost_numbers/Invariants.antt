use Rattle.std.proofs.Common.{◌≡◌, map}
use Rattle.std.specs.List.{range_with_len}
use Rattle.cli_assembly.specs.Assemblies.{assembly_of}
use Rattle.type_world.specs.NameNumbers.{outermost_by}
use Rattle.type_world.specs.Resolution.{is_nested}
use Rattle.type_world.proofs.name_numbers.outermost_numbers.Given as goal

abbrev pub invariant-loop-before : goal.invariant-loop-before
invariant-loop-before l =
    l.numbers.items ≡ map (λ row. outermost_by (is_nested (assembly_of l.assembly) row) (assembly_of l.assembly) row) (range_with_len 1 l.before)
