use Rattle.std.proofs.Common.{sym, ap, ◌∙◌, option_copied}
use Rattle.type_world.specs.Loading.{world_of}
use Rattle.type_world.proofs.ProfileKept.{class_found}
use Rattle.type_world.proofs.profile.Profile.kept_class.Goals as goal

pub returns-in-Some : goal.returns-in-Some
returns-in-Some c =
    class_found (world_of c.args.self.now) c.args.asm c.args.row c.in-Some.answered.now c.class_in_profile.result
    (sym c.answered_at.ensures ∙ ap option_copied c.in-Some.is) c.class_in_profile.ensures
