use Rattle.std.proofs.Common.{◌≡◌, ◌+◌, ◌-◌, ◌*◌, ◌++◌, ◌∙◌, ℕ, List, take, drop, ap, sym, subst, arith}
use Rattle.pe_image.specs.declared.finder.Step.{Step}
use Rattle.pe_image.proofs.FinderLemmas.{Runs, one_run_more, all_runs}
use Rattle.pe_image.proofs.finder.Level.of.Goals as goal

pub loop-at-preserved : goal.loop-at-preserved
loop-at-preserved c =
    let at = c.loop-at.at in
    let width = c.args.width in
    let sections = c.args.sections.now in
    let size : at + width - at ≡ width = omega arith in
    let items : c.extend_from_slice.new.self.items ≡ c.loop-at.steps.items ++ c.in_ok-run.run'.items =
    c.in_ok-extend_from_slice.ensures.items ∙ ap (λ (t : List Step). c.loop-at.steps.items ++ t) c.deref.ensures.value in
    let P : List Step → Type 0 = λ t. Runs width (at + 2 * width) t sections in
    subst P (sym items) (one_run_more width at c.loop-at.steps.items c.in_ok-run.run'.items (take (at + width - at) (drop at sections))
    sections c.loop-at-test.true (ap (λ (t : ℕ). take t (drop at sections)) size) c.in_ok-run.ensures c.loop-at.invariant)

pub returns : goal.returns
returns c = all_runs c.args.width c.loop-at.at c.loop-at.steps.items c.args.sections.now c.loop-at-test.false c.loop-at.invariant
