use Rattle.std.proofs.Common.{rules}
use Rattle.std.proofs.lemmas.List.Sorted.{IsNonDecreasingBy-from_sort_by_key}
use Rattle.pe_image.specs.declared.section.PeSection.{PeSection}
use Rattle.pe_image.proofs.StairLemmas.{all_steps}
use Rattle.pe_image.proofs.finder.stairs.Goals as goal

pub returns : goal.returns
returns c =
    let items = c.sort_by_key.new.self.items in
    let rises = IsNonDecreasingBy-from_sort_by_key (λ (s : PeSection). s.rva) items c.in_ok-sort_by_key.ensures.sorted
    (λ a r q k. search rules) in
    all_steps c.args.run.now c.in_ok-sorted.sorted.items items c.deref-section-items.result.now c.loop-section.stairs.items
    c.loop-section.reach c.loop-section.section-index
    c.in_ok-sorted.ensures.items c.deref-section-items.ensures.value c.sort_by_key.ensures.permutation rises c.loop-section-test.false
    c.loop-section.invariant
