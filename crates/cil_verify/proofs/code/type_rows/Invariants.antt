use Rattle.std.proofs.Common.{◌≡◌, ◌≤◌, ◌*◌, ◌^◌, take}
use Rattle.metadata.specs.declared.schema.Table.TheVariants as tables
use Rattle.type_world.specs.Loading.{world_of}
use Rattle.type_world.specs.World.{rows_of_world}
use Rattle.cil_verify.proofs.code.type_rows.Given as goal

abbrev pub invariant-loop-asm : goal.invariant-loop-asm
invariant-loop-asm l = record {
  rows : l.rows ≡ rows_of_world (world_of (take l.asm l.world)) tables.TypeDef;
  few : l.rows ≤ l.asm * 2 ^ 24;
}
