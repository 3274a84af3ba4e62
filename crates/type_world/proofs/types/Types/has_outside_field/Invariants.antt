use Rattle.std.proofs.Common.{◌≡◌, ◌-◌}
use Rattle.std.specs.List.{list_any, range_with_len}
use Rattle.type_world.specs.Loading.{world_of}
use Rattle.type_world.specs.Members.{field_id}
use Rattle.type_world.specs.Profile.{has_outside_field, is_outside_field}
use Rattle.type_world.proofs.types.Types.has_outside_field.Given as goal

abbrev pub invariant-loop-field : goal.invariant-loop-field
invariant-loop-field l =
    has_outside_field (world_of l.self) l.asm l.row
    ≡ list_any (λ field. is_outside_field (world_of l.self) (field_id l.asm field)) (range_with_len l.field (l.field-end - l.field))
