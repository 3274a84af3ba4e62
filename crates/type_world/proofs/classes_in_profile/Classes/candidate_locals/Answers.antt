use Rattle.std.proofs.Common.{◌≡◌, IfOk, List, Option, sym, subst, ◌∙◌}
use Rattle.type_world.specs.declared.place.Place.{Place}
use Rattle.type_world.specs.Loading.{world_of}
use Rattle.type_world.proofs.Meets.{kept_locals, unmet_locals}
use Rattle.type_world.proofs.classes_in_profile.Classes.candidate_locals.Goals as goal

pub returns-then-is_candidate : goal.returns-then-is_candidate
returns-then-is_candidate c =
    let P : Option (List Place) → Type 0 = λ o. IfOk c.limited_locals.result (λ locals. locals ≡ o) in
    subst P
    (kept_locals (world_of c.args.self.now) c.args.method c.requires.shaped (sym c.is_candidate.ensures ∙ c.if-is_candidate.true))
    c.limited_locals.ensures

pub returns-else-is_candidate : goal.returns-else-is_candidate
returns-else-is_candidate c =
    unmet_locals (world_of c.args.self.now) c.args.method (sym c.is_candidate.ensures ∙ c.if-is_candidate.false)
