use Rattle.std.proofs.Common.{◌+◌, ◌≤◌, IfSome, length, sym, ap, subst, ◌∙◌}
use Rattle.std.specs.Option.{option_map}
use Rattle.cli_assembly.specs.declared.body.Body.{Body}
use Rattle.cli_assembly.specs.Bodies.{with_code}
use Rattle.cli_assembly.specs.Kept.{answer_of}
use Rattle.cli_assembly.proofs.BodiesInside.{body_inside}
use Rattle.cli_assembly.proofs.ByRow.{body_kept}
use Rattle.cli_assembly.proofs.assembly.Assembly.body.Goals as goal

pub returns-clause-body : goal.returns-clause-body
returns-clause-body c =
    let bytes = c.self.inside.bytes.items in
    rw (← c.self.view_is) (ap (option_map (with_code bytes))
    (c.copied.ensures ∙ (c.answer_of.ensures
    ∙ ap (λ l. answer_of l c.args.row) (c.deref.ensures.value ∙ c.self.invariant.bodies))) ∙ body_kept bytes c.args.row)

pub returns-clause-placed : goal.returns-clause-placed
returns-clause-placed c =
    rw (← c.self.view_is) (c.copied.ensures ∙ (c.answer_of.ensures
    ∙ ap (λ l. answer_of l c.args.row) (c.deref.ensures.value ∙ c.self.invariant.bodies)))

pub returns-clause-inside : goal.returns-clause-inside
returns-clause-inside c =
    let bytes = c.self.inside.bytes.items in
    let is = c.copied.ensures ∙ (c.answer_of.ensures
    ∙ ap (λ l. answer_of l c.args.row) (c.deref.ensures.value ∙ c.self.invariant.bodies)) in
    rw (← c.self.view_is) (subst (λ o. IfSome o (λ (body : Body). body.code.start + body.code.len ≤ length bytes)) (sym is)
    (body_inside bytes c.args.row c.self.invariant.well_formed))
