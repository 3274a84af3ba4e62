use Rattle.std.proofs.Common.{◌∙◌}
use Rattle.std.proofs.lemmas.Result.{err_from_is_err_and}
use Rattle.pe_image.proofs.Stages.{cli_left, headers-are}
use Rattle.pe_image.proofs.pe.Pe.read.Goals as goal

pub returns-in_err-cli-clause-malformed : goal.returns-in_err-cli-clause-malformed
returns-in_err-cli-clause-malformed c =
    let p = err_from_is_err_and c.from_residual-in_err-cli.result c.from_residual-in_err-cli.ensures.1 in
    rw (p.1, p.2) (cli_left c.args.bytes.now c.new.result c.in_ok-layout.layout c.new.ensures c.in_ok-layout.ensures.file
    c.in_ok-layout.ensures.ok c.in_ok-sections.ensures.ok ∙ c.in_err-cli.ensures.fault)

pub returns-clause-well_formed : goal.returns-clause-well_formed
returns-clause-well_formed c =
    cli_left c.args.bytes.now c.new.result c.in_ok-layout.layout c.new.ensures c.in_ok-layout.ensures.file
    c.in_ok-layout.ensures.ok c.in_ok-sections.ensures.ok ∙ c.in_ok-cli.ensures.ok

pub returns-clause-headers : goal.returns-clause-headers
returns-clause-headers c =
    let cli = c.in_ok-cli.ensures.cli in
    headers-are c.args.bytes.now c.in_ok-layout.layout _ _ _ _ _ _ _ _ (c.in_ok-layout.ensures.file ∙ c.new.ensures)
    c.machine.ensures c.wide.ensures c.in_ok-sections.ensures.sections cli.header cli.metadata cli.flags cli.entry_token cli.native
