use Rattle.std.proofs.Common.{◌≡◌, ◌+◌, ◌-◌}
use Rattle.metadata.specs.declared.schema.Table.TheVariants as tables
use Rattle.type_world.specs.Loading.{world_of}
use Rattle.type_world.specs.Members.{first_in}
use Rattle.type_world.specs.MethodRefs.{wanted_in}
use Rattle.type_world.specs.Resolution.{chain_of, chain_within}
use Rattle.type_world.specs.World.{rows_of_world}
use Rattle.type_world.proofs.MemberRefs.{Misses}
use Rattle.type_world.proofs.types.Types.method_up.Given as goal

abbrev pub invariant-loop-steps : goal.invariant-loop-steps
invariant-loop-steps l = record {
  same :
      first_in (wanted_in (world_of l.self) l.wanted) (chain_of (world_of l.self) l.fn.of)
      ≡ first_in (wanted_in (world_of l.self) l.wanted)
      (chain_within (rows_of_world (world_of l.self) tables.TypeDef + 1 - l.steps) (world_of l.self) l.at);
  missed : Misses (world_of l.self) (wanted_in (world_of l.self) l.wanted) l.remembered l.at;
}
