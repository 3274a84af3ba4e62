use Rattle.std.proofs.Common.{◌≡◌, ◌+◌, ◌-◌}
use Rattle.std.specs.List.{list_any}
use Rattle.metadata.specs.declared.schema.Table.TheVariants as tables
use Rattle.type_world.specs.Loading.{world_of}
use Rattle.type_world.specs.Resolution.{chain_of, type_eq}
use Rattle.type_world.specs.Resolution.{common_base}
use Rattle.type_world.specs.World.{rows_of_world}
use Rattle.type_world.proofs.ChainSteps.{nearest}
use Rattle.type_world.proofs.ComesBack.{Walked}
use Rattle.type_world.proofs.types.Types.common_base.Given as goal

abbrev pub invariant-loop-step : goal.invariant-loop-step
invariant-loop-step l =
    (common_base (world_of l.self) l.fn.of l.other
    ≡ nearest (world_of l.self) (λ base. list_any (type_eq base) (chain_of (world_of l.self) l.other))
    (rows_of_world (world_of l.self) tables.TypeDef + 1 - l.step) l.base)
    × Walked (world_of l.self) (λ base. list_any (type_eq base) (chain_of (world_of l.self) l.other)) l.mark l.base
