use Rattle.std.proofs.Common.{sym, ◌∙◌}
use Rattle.type_world.specs.Loading.{world_of}
use Rattle.type_world.proofs.Meets.{unshaped_locals}
use Rattle.type_world.proofs.classes_in_profile.Classes.profile_locals.Goals as goal

pub returns-else-has_shape : goal.returns-else-has_shape
returns-else-has_shape c = unshaped_locals (world_of c.args.self.now) c.args.method (sym c.requires.shaped ∙ c.if-has_shape.false)
