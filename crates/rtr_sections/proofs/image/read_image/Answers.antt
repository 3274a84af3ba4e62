use Rattle.std.proofs.Common.{◌≡◌, ◌∙◌, None, false, sym, ap, subst}
use Rattle.std.proofs.lemmas.Result.{err_from_is_err_and}
use Rattle.rtr_bytes.specs.declared.fault.Span.{Span}
use Rattle.rtr_bytes.specs.Checks.{fault_or, RefusedBy}
use Rattle.rtr_sections.specs.Header.{is_own, part_of}
use Rattle.rtr_sections.specs.Imports.{unplaced_cells}
use Rattle.rtr_sections.proofs.AllChecks.{after_imports, none_foreign, refused_header, refused_imports, refused_own}
use Rattle.rtr_sections.proofs.image.read_image.Goals as goal

pub returns-in_err-header-clause-malformed : goal.returns-in_err-header-clause-malformed
returns-in_err-header-clause-malformed c =
    let p = err_from_is_err_and c.from_residual.result c.from_residual.ensures.1 in
    rw (p.1, p.2) (refused_header c.args.method_rows c.args.file.now c.in_err-header.field-0.0 c.in_err-header.ensures.malformed)

pub returns-in_err-imports-clause-malformed : goal.returns-in_err-imports-clause-malformed
returns-in_err-imports-clause-malformed c =
    let p = err_from_is_err_and c.from_residual-in_err-imports.result c.from_residual-in_err-imports.ensures.1 in
    let bytes = c.args.file.now in
    let P : Span → Type 0 = λ s. RefusedBy (fault_or 22 (unplaced_cells bytes s) None) c.in_err-imports.field-0.0 in
    rw (p.1, p.2)
    (refused_imports c.args.method_rows bytes c.in_err-imports.field-0.0 c.requires.native c.in_ok-header.ensures.well_formed
    (subst P c.part-import_part.ensures.part c.in_err-imports.ensures.fault))

pub returns-in_err-functions-clause-malformed : goal.returns-in_err-functions-clause-malformed
returns-in_err-functions-clause-malformed c =
    let p = err_from_is_err_and c.from_residual-in_err-functions.result c.from_residual-in_err-functions.ensures.1 in
    let bytes = c.args.file.now in
    let placed : unplaced_cells bytes (part_of bytes 101) ≡ None = ap (unplaced_cells bytes) (sym c.part-import_part.ensures.part)
    ∙ c.in_ok-imports.ensures.ok in
    rw (p.1, p.2)
    (refused_own c.args.method_rows bytes c.in_err-functions.field-0.0 c.requires.native c.in_ok-header.ensures.well_formed placed
    c.in_err-functions.ensures.malformed)

pub returns-then-is_own-clause-well_formed : goal.returns-then-is_own-clause-well_formed
returns-then-is_own-clause-well_formed c =
    let bytes = c.args.file.now in
    let placed : unplaced_cells bytes (part_of bytes 101) ≡ None = ap (unplaced_cells bytes) (sym c.part-import_part.ensures.part)
    ∙ c.in_ok-imports.ensures.ok in
    after_imports c.args.method_rows bytes c.requires.native c.in_ok-header.ensures.well_formed placed
    ∙ c.in_ok-functions.ensures.well_formed

pub returns-clause-well_formed : goal.returns-clause-well_formed
returns-clause-well_formed c =
    let bytes = c.args.file.now in
    let placed : unplaced_cells bytes (part_of bytes 101) ≡ None = ap (unplaced_cells bytes) (sym c.part-import_part.ensures.part)
    ∙ c.in_ok-imports.ensures.ok in
    let foreign : is_own bytes ≡ false = sym c.is_own.ensures ∙ c.if-is_own.false in
    after_imports c.args.method_rows bytes c.requires.native c.in_ok-header.ensures.well_formed placed
    ∙ none_foreign c.args.method_rows bytes c.requires.native foreign
