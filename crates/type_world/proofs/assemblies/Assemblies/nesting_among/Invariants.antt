use Rattle.type_world.specs.Loading.{world_of}
use Rattle.type_world.specs.NameNumbers.{nested_number}
use Rattle.type_world.specs.Resolution.{nests}
use Rattle.type_world.specs.World.{assembly_in}
use Rattle.type_world.proofs.RowSearch.{Searched, rows_left}
use Rattle.type_world.proofs.assemblies.Assemblies.nesting_among.Given as goal

abbrev pub invariant-rows : goal.invariant-rows
invariant-rows l =
    Searched (nests (assembly_in (world_of l.self) l.asm) l.enclosing l.name) l.rows (nested_number l.enclosing l.name) l.at

abbrev pub decreases-rows : goal.decreases-rows
decreases-rows l = rows_left l.rows l.at
