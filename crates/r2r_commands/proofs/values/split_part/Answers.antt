use Rattle.std.proofs.Common.{ap, ◌∙◌, arith}
use Rattle.std.proofs.lemmas.Str.Pattern.{split_parts}
use Rattle.r2r_commands.specs.RunWords.{parts}
use Rattle.r2r_commands.proofs.PartsAt.{parts_none, parts_some}
use Rattle.r2r_commands.proofs.values.split_part.Goals as goal

pub returns-in-Some-clause-parts : goal.returns-in-Some-clause-parts
returns-in-Some-clause-parts c =
    let found = split_parts 0x2C c.args.text.now c.split_once.result c.split_once.ensures.cases (omega arith) in
    let at = rw c.in-Some.is at found in
    ap parts at.0 ∙ parts_some c.in-Some.part.now c.in-Some.rest.now at.1

pub returns-in-None-clause-parts : goal.returns-in-None-clause-parts
returns-in-None-clause-parts c =
    let found = split_parts 0x2C c.args.text.now c.split_once.result c.split_once.ensures.cases (omega arith) in
    let at = rw c.in-None.is at found in
    parts_none c.args.text.now at
