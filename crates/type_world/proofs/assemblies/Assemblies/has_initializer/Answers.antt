use Rattle.std.proofs.Common.{sym, ap, ◌∙◌}
use Rattle.std.specs.List.{list_any}
use Rattle.type_world.specs.Loading.{world_of}
use Rattle.type_world.specs.Profile.{is_initializer}
use Rattle.type_world.proofs.ClassRows.{passed_over}
use Rattle.type_world.proofs.assemblies.Assemblies.has_initializer.Goals as goal

pub loop-method-init : goal.loop-method-init
loop-method-init c = sym (ap (list_any (is_initializer (world_of c.args.self.now) c.args.asm)) c.methods_at-rows.ensures)

pub loop-method-preserved : goal.loop-method-preserved
loop-method-preserved c =
    c.loop-method.invariant
    ∙ passed_over (is_initializer (world_of c.args.self.now) c.args.asm) c.loop-method.method c.methods_at-rows.result.end
    c.loop-method-test.true (sym c.is_initializer.ensures ∙ c.if-is_initializer.false)
