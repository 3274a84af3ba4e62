use Rattle.std.proofs.Common.{◌≡◌, ◌+◌, ◌-◌, ◌/◌, ◌<◌, ◌≤◌, ℕ, length, List, take, drop, true, false, refl, sym, subst, arith}
use Rattle.pe_image.specs.declared.finder.Step.{Step}
use Rattle.pe_image.specs.Sections.{has_range}
use Rattle.pe_image.specs.Finder.{IsRising, IsStairs}
use Rattle.pe_image.proofs.FinderLemmas.{half, within, StandsAt, stays, stays_last, goes_on, answered, run_width-positive}
use Rattle.pe_image.proofs.finder.Finder.run_of.Goals as goal
use Rattle.pe_image.proofs.finder.Finder.run_of.Goals.{then-width-sections+then-not-has_step, else-width-sections}
use Rattle.pe_image.proofs.finder.Finder.run_of.Goals.{else-width-sections-via-then-width-sections+else-not-has_step}
use Rattle.pe_image.proofs.finder.Finder.run_of.Goals.{else-width-sections-via-else-width-sections}

pub slice_bounds-has_step-end : goal.slice_bounds-has_step-end
slice_bounds-has_step-end c =
    let h = half c.args.self.now.levels.items c.deref-level-items.result.now c.args.sections.now c.loop-level.level-index
    c.level-item.result c.deref.result.now c.loop-level.width c.loop-level.at c.loop-level.invariant.place.0
    c.requires.levels c.deref-level-items.ensures.value c.loop-level-test.true c.level-item.is c.deref.ensures.value
    c.loop-level.invariant.wide c.loop-level.invariant.place.1 in
    let room : c.loop-level.at + c.loop-level.width / 2 < length c.args.sections.now = omega arith in
    let some : 0 < c.loop-level.width / 2 =
    omega (arith, h.next, run_width-positive (drop (c.loop-level.level-index + 1) c.deref-level-items.result.now)) in
    omega (
      arith,
      within (c.loop-level.width / 2) (c.loop-level.at / 2) c.loop-level.at c.deref.result.now c.args.sections.now some room
          (h.stairs room),
    )

pub has_step-requires : goal.has_step-requires
has_step-requires c =
    let h = half c.args.self.now.levels.items c.deref-level-items.result.now c.args.sections.now c.loop-level.level-index
    c.level-item.result c.deref.result.now c.loop-level.width c.loop-level.at c.loop-level.invariant.place.0
    c.requires.levels c.deref-level-items.ensures.value c.loop-level-test.true c.level-item.is c.deref.ensures.value
    c.loop-level.invariant.wide c.loop-level.invariant.place.1 in
    let room : c.loop-level.at + c.loop-level.width / 2 < length c.args.sections.now = omega arith in
    let size : c.loop-level.at / 2 + c.loop-level.width / 2 - c.loop-level.at / 2 ≡ c.loop-level.width / 2 = omega arith in
    let P : ℕ → Type 0 = λ t. IsRising (take t (drop (c.loop-level.at / 2) c.deref.result.now)) in
    subst P (sym size) (h.stairs room).rising

pub loop-level-preserved : goal.loop-level-preserved
loop-level-preserved c =
    let items = c.deref-level-items.result.now in
    let sections = c.args.sections.now in
    let at = c.loop-level.at in
    let width = c.loop-level.width in
    let left = drop (c.loop-level.level-index + 1) items in
    let p = has_range c.args.rva c.args.len in
    let h = half c.args.self.now.levels.items items sections c.loop-level.level-index c.level-item.result c.level-item.result.steps.items
    width at c.loop-level.invariant.place.0
    c.requires.levels c.deref-level-items.ensures.value c.loop-level-test.true c.level-item.is refl c.loop-level.invariant.wide
    c.loop-level.invariant.place.1 in
    let end : c.from.result + c.from-2.result ≡ c.args.rva + c.args.len = omega arith in
    let size : at / 2 + width / 2 - at / 2 ≡ width / 2 = omega arith in
    let P : ℕ → Type 0 = λ t. StandsAt p sections left (width / 2) t in
    elim c.if-width-sections.branch [
      | then-width-sections+then-not-has_step w ↦
          let room : at + width / 2 < length sections = omega arith in
          let S : List Step → Type 0 = λ t. IsStairs (take (width / 2) (drop (at / 2) t)) (take (width / 2) (drop at sections)) in
          let any = answered c.args.rva c.args.len (c.from.result + c.from-2.result) (at / 2 + width / 2 - at / 2) (width / 2) (at / 2)
          w.deref.result.now (take (width / 2) (drop at sections)) w.has_step.result false end size
          (subst S (sym w.deref.ensures.value) (h.stairs room)) w.has_step.ensures w.if-not-has_step.true in
          subst P (sym w.at-is) (goes_on p c.level-item.result.steps.items sections (drop c.loop-level.level-index items) left width at
          c.loop-level.invariant h room any)
      | else-width-sections w ↦ elim w.else-width-sections.branch [
        | else-width-sections-via-then-width-sections+else-not-has_step v ↦
            let room : at + width / 2 < length sections = omega arith in
            let S : List Step → Type 0 = λ t. IsStairs (take (width / 2) (drop (at / 2) t)) (take (width / 2) (drop at sections)) in
            let any = answered c.args.rva c.args.len (c.from.result + c.from-2.result) (at / 2 + width / 2 - at / 2) (width / 2) (at / 2)
            v.deref.result.now (take (width / 2) (drop at sections)) v.has_step.result true end size
            (subst S (sym v.deref.ensures.value) (h.stairs room)) v.has_step.ensures v.if-not-has_step.false in
            subst P (sym w.at-is) (stays p c.level-item.result.steps.items sections (drop c.loop-level.level-index items) left width at
            c.loop-level.invariant h any)
        | else-width-sections-via-else-width-sections v ↦
            let last : length sections ≤ at + width / 2 = omega arith in
            subst P (sym w.at-is) (stays_last p c.level-item.result.steps.items sections (drop c.loop-level.level-index items) left width
            at c.loop-level.invariant h last)
      ]
    ]
