use Rattle.std.proofs.Common.{◌≡◌, ◌≤◌, ◌+◌, ◌*◌, get_or, take, arith}
use Rattle.std.proofs.lemmas.List.{take_all}
use Rattle.std.proofs.lemmas.List.Elements.{All-more}
use Rattle.rtr_sections.specs.declared.imports.ImportSection.{ImportSection}
use Rattle.rtr_sections.specs.Imports.{signatures_at, slot_count}
use Rattle.rtr_sections.specs.BadWords.{IsWithin}
use Rattle.rtr_sections.proofs.BadWords.{wider}
use Rattle.rtr_sections.proofs.bad_words.Range.of.Goals as goal

pub loop-import-preserved : goal.loop-import-preserved
loop-import-preserved c =
    let bytes = c.args.file.now in
    let imports = c.args.imports.now in
    let i = c.loop-import.import-index in
    let d : ImportSection = record { rva = 0; size = 0; flags = 0; kind = 0; entry_size = 0; signatures = 0; auxiliary = 0 } in
    let start = c.min-start.result in
    let end = c.max-end.result in
    let lower : start ≤ c.loop-import.start = omega (arith, c.min-start.ensures) in
    let higher : c.loop-import.end ≤ end = omega (arith, c.max-end.ensures) in
    let from : start ≤ signatures_at bytes (get_or imports i d) = omega (arith, c.min-start.ensures, c.signatures_at-array.ensures.place) in
    let to : signatures_at bytes (get_or imports i d) + 4 * slot_count (get_or imports i d) ≤ end =
    omega (arith, c.max-end.ensures, c.signatures_at-array.ensures.place, c.slot_count.ensures.count) in
    All-more (IsWithin bytes start end) imports i d c.loop-import-test.true
    (λ k e below. wider bytes c.loop-import.start c.loop-import.end start end (get_or (take i imports) k e) lower higher
    (c.loop-import.invariant k e below)) (from, to)

pub returns : goal.returns
returns c =
    let all = take_all c.loop-import.import-index c.args.imports.now (omega arith) in
    rw all at c.loop-import.invariant
