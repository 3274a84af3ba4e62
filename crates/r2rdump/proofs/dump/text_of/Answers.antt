use Rattle.std.proofs.Common.{◌≤◌, ◌*◌, ℕ, List, Option, length, sym, ap, subst, ◌∙◌}
use Rattle.std.proofs.lemmas.Result.{err_from_is_err_and}
use Rattle.rtr_bytes.specs.declared.fault.Fault.{Fault}
use Rattle.rtr_bytes.specs.Checks.{RefusedBy}
use Rattle.pe_image.specs.Headers.{Headers, headers_of}
use Rattle.rtr_sections.specs.declared.image.Image.{Image}
use Rattle.cli_assembly.specs.Assemblies.{assembly_of}
use Rattle.r2rdump.specs.OnePass.{text_in_one_pass}
use Rattle.r2rdump.specs.Types.{assembly_lines}
use Rattle.r2rdump.proofs.Lowest.{first_of_pe, read_with}
use Rattle.r2rdump.proofs.SlotsOfSections.{one_pass-is}
use Rattle.r2rdump.proofs.dump.text_of.Goals as goal

pub returns-in_err-pe-clause-malformed : goal.returns-in_err-pe-clause-malformed
returns-in_err-pe-clause-malformed c =
    let p = err_from_is_err_and c.from_residual.result c.from_residual.ensures.1 in
    rw (p.1, p.2) (first_of_pe c.args.bytes.now c.in_err-pe.field-0.0 c.in_err-pe.ensures.malformed)

pub returns-in_err-image-clause-malformed : goal.returns-in_err-image-clause-malformed
returns-in_err-image-clause-malformed c =
    let p = err_from_is_err_and c.from_residual-in_err-image.result c.from_residual-in_err-image.ensures.1 in
    rw (p.1, p.2) (subst (λ (o : Option Fault). RefusedBy o c.in_err-image.field-0.0)
    (sym (read_with c.args.bytes.now c.in_ok-assembly.assembly c.rows.result c.in_ok-assembly.ensures.bytes c.rows.ensures.rows
    c.in_ok-assembly.ensures.well_formed))
    c.in_err-image.ensures.malformed)

pub returns-in_err-text-clause-malformed : goal.returns-in_err-text-clause-malformed
returns-in_err-text-clause-malformed c =
    let p = err_from_is_err_and c.from_residual-in_err-text.result c.from_residual-in_err-text.ensures.1 in
    rw (p.1, p.2) tt

pub returns-clause-well_formed : goal.returns-clause-well_formed
returns-clause-well_formed c =
    read_with c.args.bytes.now c.in_ok-assembly.assembly c.rows.result c.in_ok-assembly.ensures.bytes c.rows.ensures.rows
    c.in_ok-assembly.ensures.well_formed
    ∙ c.in_ok-image.ensures.well_formed

pub returns-clause-room : goal.returns-clause-room
returns-clause-room c =
    subst (λ (file : List ℕ). length (assembly_lines (assembly_of file)) ≤ 32 * length file) c.in_ok-assembly.ensures.bytes
    c.in_ok-text.ensures.room

pub returns-clause-text : goal.returns-clause-text
returns-clause-text c =
    let name = c.args.name.now in
    let bytes = c.args.bytes.now in
    let image = c.in_ok-image.image in
    c.in_ok-text.ensures.text
    ∙ ap (λ (file : List ℕ). text_in_one_pass name (length file) c.in_ok-pe.pe image (assembly_of file)) c.in_ok-assembly.ensures.bytes
    ∙ ap (λ (t : Headers). text_in_one_pass name (length bytes) t image (assembly_of bytes)) c.in_ok-pe.ensures.headers
    ∙ ap (λ (t : Option Image). text_in_one_pass name (length bytes) (headers_of bytes) t (assembly_of bytes)) c.in_ok-image.ensures.image
    ∙ one_pass-is c.rows.result name bytes c.in_ok-image.ensures.well_formed
