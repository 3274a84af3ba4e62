use Rattle.std.proofs.Common.{◌≡◌, ◌*◌, sym, arith}
use Rattle.pe_image.specs.Headers.{sections_of}
use Rattle.rtr_sections.proofs.Placed.{placed_end}
use Rattle.rtr_sections.proofs.header.records_in.Goals as goal

pub returns-then-count-eq0-clause-found : goal.returns-then-count-eq0-clause-found
returns-then-count-eq0-clause-found c =
    let none : 12 * c.args.count ≡ 0 = omega arith in
    rw none (sym (placed_end (sections_of c.args.file.now) c.args.header 16 c.requires.header))
