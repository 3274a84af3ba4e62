use Rattle.std.proofs.Common.{Some, sym, ap, ◌∙◌, option_copied}
use Rattle.type_world.specs.Loading.{world_of}
use Rattle.type_world.proofs.ProfileKept.{kept_facts}
use Rattle.type_world.proofs.classes_in_profile.Classes.kept_facts.Goals as goal

pub returns-in-Some : goal.returns-in-Some
returns-in-Some c =
    kept_facts (world_of c.args.self.now) c.args.asm c.args.row c.as_slice.result.now c.in-Some.kept.now
    (sym c.in_ok-facts.ensures ∙ ap Some (sym c.as_slice.ensures)) (sym c.item_at.ensures ∙ ap option_copied c.in-Some.is)
