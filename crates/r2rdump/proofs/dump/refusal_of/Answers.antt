use Rattle.std.proofs.Common.{Some, sym, ap, ◌∙◌}
use Rattle.r2rdump.specs.Dump.{lower}
use Rattle.r2rdump.proofs.Lowest.{refused_is}
use Rattle.r2rdump.proofs.dump.refusal_of.Goals as goal
use Rattle.r2rdump.proofs.dump.refusal_of.Goals.{in-Ok, in-Err-Malformed, in-Err-NoMemory}

pub returns : goal.returns
returns c =
    let fault = c.in-Malformed.fault in
    let refused = rw c.in-Malformed.is at c.requires.refused in
    let is = refused_is c.args.bytes.now fault refused in
    elim c.match-read_image.branch [
      | in-Ok w ↦ rw w.result-is (is ∙ ap (lower (Some fault)) w.in-Ok.ensures.well_formed)
      | in-Err-Malformed w ↦
          let why = rw w.in-Err-Malformed.field-0-is at w.in-Err-Malformed.ensures.malformed in
          rw w.result-is (is ∙ ap (lower (Some fault)) why ∙ sym w.lower.ensures)
      | in-Err-NoMemory w ↦ rw w.result-is tt
    ]
