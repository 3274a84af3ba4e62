use Rattle.std.proofs.Common.{◌≡◌, true, arith}
use Rattle.std.proofs.lemmas.Bool.Decides.{nat_tests}
use Rattle.rtr_sections.specs.BadWords.{names_fixup}
use Rattle.rtr_sections.proofs.BadWords.{first_behind}
use Rattle.rtr_sections.proofs.bad_words.first_at.Goals as goal

pub returns-else-end-place-le-SIGNATURE_SIZE : goal.returns-else-end-place-le-SIGNATURE_SIZE
returns-else-end-place-le-SIGNATURE_SIZE c =
    let named : names_fixup c.args.file.now c.args.place ≡ true = grind (arith, nat_tests) in
    first_behind c.args.file.now c.args.end c.args.place c.first_from.result named (c.first_from.ensures c.args.file.now c.requires.firsts)
