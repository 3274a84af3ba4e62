use Rattle.type_world.specs.Loading.{world_of}
use Rattle.type_world.specs.NameNumbers.{outermost_number}
use Rattle.type_world.specs.World.{assembly_in}
use Rattle.type_world.proofs.OtherNames.{is_outermost}
use Rattle.type_world.proofs.RowSearch.{Searched, rows_left}
use Rattle.type_world.proofs.assemblies.Assemblies.outermost_among.Given as goal

abbrev pub invariant-rows : goal.invariant-rows
invariant-rows l =
    Searched (is_outermost (assembly_in (world_of l.self) l.asm) l.namespace l.name) l.rows (outermost_number l.namespace l.name) l.at

abbrev pub decreases-rows : goal.decreases-rows
decreases-rows l = rows_left l.rows l.at
