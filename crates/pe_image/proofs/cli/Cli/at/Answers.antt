use Rattle.pe_image.proofs.Stages.{cli-is}
use Rattle.pe_image.proofs.cli.Cli.at.Goals as goal

pub returns-clause-cli : goal.returns-clause-cli
returns-clause-cli c =
    cli-is c.args.layout.now c.file-file.result.now c.args.sections.now c.args.at c.in_ok-start.start _ _ _ _ _ _ _ _
    c.file-file.ensures c.requires.sections c.requires.here c.u32.ensures.number c.u32-len.ensures.number c.slice_of_rva-place.ensures.place
    c.in_ok-start.ensures.found
    c.u32-2.ensures.number c.u32-3.ensures.number c.u32-4.ensures.number c.u32-5.ensures.number c.native_span.ensures
