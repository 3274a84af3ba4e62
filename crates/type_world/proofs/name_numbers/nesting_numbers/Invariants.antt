use Rattle.std.proofs.Common.{◌≡◌, map}
use Rattle.std.specs.List.{range_with_len}
use Rattle.cli_assembly.specs.Assemblies.{assembly_of}
use Rattle.type_world.specs.NameNumbers.{number_of_nesting}
use Rattle.type_world.proofs.name_numbers.nesting_numbers.Given as goal

abbrev pub invariant-loop-before : goal.invariant-loop-before
invariant-loop-before l = l.numbers.items ≡ map (number_of_nesting (assembly_of l.assembly)) (range_with_len 1 l.before)
