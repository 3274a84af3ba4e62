use Rattle.std.proofs.Common.{◌≡◌, ◌+◌, ◌-◌}
use Rattle.std.specs.List.{list_any}
use Rattle.metadata.specs.declared.schema.Table.TheVariants as tables
use Rattle.type_world.specs.Loading.{world_of}
use Rattle.type_world.specs.Resolution.{chain_of, type_eq}
use Rattle.type_world.specs.World.{rows_of_world}
use Rattle.type_world.proofs.ChainSteps.{in_chain}
use Rattle.type_world.proofs.ComesBack.{Walked}
use Rattle.type_world.proofs.types.Types.extends.Given as goal

abbrev pub invariant-loop-step : goal.invariant-loop-step
invariant-loop-step l =
    (list_any (type_eq l.to) (chain_of (world_of l.self) l.fn.of)
    ≡ in_chain (world_of l.self) (rows_of_world (world_of l.self) tables.TypeDef + 1 - l.step) l.base l.to)
    × Walked (world_of l.self) (type_eq l.to) l.mark l.base
