use Rattle.std.proofs.Common.{◌≡◌, ◌+◌, ◌<◌, ◌∙◌, Some, Ok, Err, None, refl, sym, arith}
use Rattle.native_format.specs.Sparse.{element_of}
use Rattle.rtr_sections.specs.Entries.{cut_place}
use Rattle.rtr_sections.proofs.EntriesRead.{fault_within}
use Rattle.rtr_sections.proofs.Numbered.{first_bad-step, first_bad-found, first_bad-end}
use Rattle.rtr_sections.proofs.entries.check_paths.Goals as goal

pub overflow_add-result : goal.overflow_add-result
overflow_add-result c =
    let there = fault_within _ c.get.result c.in-Err.cut c.in-Err.is c.get.ensures.within in
    omega (arith, there)

pub returns-in-Err-clause-fault : goal.returns-in-Err-clause-fault
returns-in-Err-clause-fault c =
    let a = c.args.array.now in
    let i = c.loop-index.index in
    let start = c.args.part.start in
    let below : i < a.count = omega arith in
    let cut : element_of a i ≡ Err c.in-Err.cut = sym c.get.ensures.exact ∙ c.in-Err.is in
    let place : cut_place start a i ≡ Some (start + c.in-Err.cut.place) = rw cut refl in
    rw (sym c.loop-index.invariant ∙ first_bad-found (cut_place start a) a.count i (start + c.in-Err.cut.place) below place) refl

pub loop-index-preserved : goal.loop-index-preserved
loop-index-preserved c =
    let a = c.args.array.now in
    let i = c.loop-index.index in
    let start = c.args.part.start in
    let below : i < a.count = omega arith in
    let there : element_of a i ≡ Ok c.in_default.field-0 = sym c.get.ensures.exact ∙ c.in_default.is in
    let none : cut_place start a i ≡ None = rw there refl in
    sym (first_bad-step (cut_place start a) a.count i below none) ∙ c.loop-index.invariant

pub returns-clause-ok : goal.returns-clause-ok
returns-clause-ok c =
    let a = c.args.array.now in
    sym c.loop-index.invariant ∙ first_bad-end (cut_place c.args.part.start a) a.count c.loop-index.index (omega arith)
