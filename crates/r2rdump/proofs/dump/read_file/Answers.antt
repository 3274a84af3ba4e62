use Rattle.std.proofs.Common.{Option, sym, subst, ◌∙◌}
use Rattle.std.proofs.lemmas.Result.{err_from_is_err_and}
use Rattle.rtr_bytes.specs.declared.fault.Fault.{Fault}
use Rattle.rtr_bytes.specs.Checks.{RefusedBy}
use Rattle.r2rdump.proofs.Lowest.{first_of_pe, read_with}
use Rattle.r2rdump.proofs.dump.read_file.Goals as goal

pub returns-in_err-pe-clause-malformed : goal.returns-in_err-pe-clause-malformed
returns-in_err-pe-clause-malformed c =
    let p = err_from_is_err_and c.from_residual.result c.from_residual.ensures.1 in
    rw (p.1, p.2) (first_of_pe c.args.bytes.now c.in_err-pe.field-0.0 c.in_err-pe.ensures.malformed)

pub returns-in_err-_image-clause-malformed : goal.returns-in_err-_image-clause-malformed
returns-in_err-_image-clause-malformed c =
    let p = err_from_is_err_and c.from_residual-in_err-_image.result c.from_residual-in_err-_image.ensures.1 in
    rw (p.1, p.2) (subst (λ (o : Option Fault). RefusedBy o c.in_err-_image.field-0.0)
    (sym (read_with c.args.bytes.now c.in_ok-assembly.assembly c.rows.result c.in_ok-assembly.ensures.bytes c.rows.ensures.rows
    c.in_ok-assembly.ensures.well_formed))
    c.in_err-_image.ensures.malformed)

pub returns-clause-well_formed : goal.returns-clause-well_formed
returns-clause-well_formed c =
    read_with c.args.bytes.now c.in_ok-assembly.assembly c.rows.result c.in_ok-assembly.ensures.bytes c.rows.ensures.rows
    c.in_ok-assembly.ensures.well_formed
    ∙ c.in_ok-_image.ensures.well_formed
