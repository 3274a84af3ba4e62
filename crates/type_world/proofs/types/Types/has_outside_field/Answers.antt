use Rattle.std.proofs.Common.{ℕ, sym, ap, ◌∙◌}
use Rattle.std.specs.List.{list_any}
use Rattle.cli_assembly.specs.Assemblies.{fields_of}
use Rattle.type_world.specs.Loading.{world_of}
use Rattle.type_world.specs.Members.{field_id}
use Rattle.type_world.specs.Profile.{is_outside_field}
use Rattle.type_world.specs.World.{assembly_in}
use Rattle.type_world.proofs.ClassRows.{passed_over}
use Rattle.type_world.proofs.types.Types.has_outside_field.Goals as goal

pub loop-field-init : goal.loop-field-init
loop-field-init c =
    let p = λ (field : ℕ). is_outside_field (world_of c.args.self.now) (field_id c.args.asm field) in
    sym (ap (list_any p)
    (c.fields_at-rows.ensures
    ∙ ap (λ files. fields_of (assembly_in (world_of files) c.args.asm) c.args.row) c.assemblies.ensures))

pub loop-field-preserved : goal.loop-field-preserved
loop-field-preserved c =
    let p = λ (field : ℕ). is_outside_field (world_of c.args.self.now) (field_id c.args.asm field) in
    c.loop-field.invariant
    ∙ passed_over p c.loop-field.field c.fields_at-rows.result.end c.loop-field-test.true
    (sym c.is_outside_field.ensures ∙ c.if-is_outside_field.false)
