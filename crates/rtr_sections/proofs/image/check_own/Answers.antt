use Rattle.std.proofs.Common.{◌≡◌, ◌∙◌, ◌/◌, ℕ, List, Option, None, refl, ap, sym, subst}
use Rattle.std.proofs.lemmas.Result.{err_from_is_err_and}
use Rattle.rtr_bytes.specs.declared.fault.Fault.{Fault}
use Rattle.rtr_bytes.specs.declared.fault.Span.{Span}
use Rattle.rtr_bytes.specs.declared.fault.ReadRefusal.TheVariants as refusals
use Rattle.rtr_bytes.specs.Checks.{fault_or, RefusedBy}
use Rattle.rtr_sections.specs.declared.imports.ImportSection.{ImportSection}
use Rattle.rtr_sections.specs.Header.{part_of}
use Rattle.rtr_sections.specs.Imports.{first_bad_of, imports_in}
use Rattle.rtr_sections.specs.Functions.{bad_function, function_count}
use Rattle.rtr_sections.specs.Entries.{bad_array, first_cut, first_unlinked}
use Rattle.rtr_sections.specs.EntryHeads.{first_unlinked_in}
use Rattle.rtr_sections.proofs.EntryHeads.{first_is}
use Rattle.rtr_sections.proofs.ImportsListed.{cells_of, forms_of, reach_of}
use Rattle.rtr_sections.proofs.OwnChecks.{AllBut, answers_of, bad_entries, bad_form, bad_functions, bad_slot, entries_of, last_is, own_are}
use Rattle.rtr_sections.proofs.image.check_own.Goals as goal

entry_is : (bytes : List ℕ) (imports : List ImportSection) (part functions : Span) → imports ≡ imports_in bytes (part_of bytes 101)
    → part ≡ part_of bytes 103 → functions ≡ part_of bytes 102
    → first_unlinked bytes (part_of bytes 103) (part_of bytes 101)
    (function_count (part_of bytes 102)) ≡ first_unlinked_in bytes part imports (functions.len / 8)
entry_is bytes imports part functions are here count =
    rw (are, here, count) (first_is bytes (part_of bytes 103) (part_of bytes 101) (function_count (part_of bytes 102)))

entries_are : (rows : ℕ) (bytes : List ℕ) (imports : List ImportSection) (part functions : Span)
    → imports ≡ imports_in bytes (part_of bytes 101)
    → part ≡ part_of bytes 103 → functions ≡ part_of bytes 102
    → fault_or 63 (bad_array rows bytes part)
    (fault_or 64 (first_cut bytes part) (fault_or 65 (first_unlinked_in bytes part imports (functions.len / 8)) None))
    ≡ entries_of (answers_of rows bytes) None
entries_are rows bytes imports part functions are here count =
    ap (λ (o : Option ℕ). fault_or 63 (bad_array rows bytes part) (fault_or 64 (first_cut bytes part) (fault_or 65 o None)))
    (sym (entry_is bytes imports part functions are here count))
    ∙ rw here refl

pub check_forms-requires : goal.check_forms-requires
check_forms-requires c = record {
  in_reach =
      reach_of c.args.file.now c.args.imports.now c.part-import_part.result
      (part_of c.args.file.now 101) c.part-import_part.ensures.part c.requires.imports c.part-import_part.ensures.in_reach;
}

pub returns-in_err-check_forms-clause-malformed : goal.returns-in_err-check_forms-clause-malformed
returns-in_err-check_forms-clause-malformed c =
    let p = err_from_is_err_and c.from_residual.result c.from_residual.ensures.1 in
    let bytes = c.args.file.now in
    let rows = c.args.method_rows in
    let forms =
    forms_of bytes c.args.imports.now c.part-import_part.result (part_of bytes 101) c.part-import_part.ensures.part c.requires.imports in
    rw (p.1, p.2, own_are rows bytes c.requires.native c.requires.own)
    (bad_form (answers_of rows bytes) (refusals.Malformed c.in_err-check_forms.field-0.0)
    (ap (λ (o : Option ℕ). fault_or 60 o None) forms ∙ c.in_err-check_forms.ensures.fault))

pub returns-in_err-check_slots-clause-malformed : goal.returns-in_err-check_slots-clause-malformed
returns-in_err-check_slots-clause-malformed c =
    let p = err_from_is_err_and c.from_residual-in_err-check_slots.result c.from_residual-in_err-check_slots.ensures.1 in
    let bytes = c.args.file.now in
    let rows = c.args.method_rows in
    let forms =
    forms_of bytes c.args.imports.now c.part-import_part.result (part_of bytes 101) c.part-import_part.ensures.part c.requires.imports in
    let P : List ImportSection → Type 0 =
    λ imports. RefusedBy (fault_or 61 (first_bad_of bytes imports) None) c.in_err-check_slots.field-0.0 in
    rw (p.1, p.2, own_are rows bytes c.requires.native c.requires.own)
    (bad_slot (answers_of rows bytes) c.in_err-check_slots.field-0.0 (forms ∙ c.in_ok-check_forms.ensures.ok)
    (subst P c.requires.imports c.in_err-check_slots.ensures.fault))

pub returns-in_err-functions-clause-malformed : goal.returns-in_err-functions-clause-malformed
returns-in_err-functions-clause-malformed c =
    let p = err_from_is_err_and c.from_residual-in_err-functions.result c.from_residual-in_err-functions.ensures.1 in
    let bytes = c.args.file.now in
    let rows = c.args.method_rows in
    let forms =
    forms_of bytes c.args.imports.now c.part-import_part.result (part_of bytes 101) c.part-import_part.ensures.part c.requires.imports in
    let slots = ap (first_bad_of bytes) (sym c.requires.imports) ∙ c.in_ok-check_slots.ensures.ok in
    let P : Span → Type 0 = λ part. RefusedBy (fault_or 62 (bad_function bytes part) None) c.in_err-functions.field-0.0 in
    rw (p.1, p.2, own_are rows bytes c.requires.native c.requires.own)
    (bad_functions (answers_of rows bytes) c.in_err-functions.field-0.0 (forms ∙ c.in_ok-check_forms.ensures.ok) slots
    (subst P c.part-function_part.ensures.part c.in_err-functions.ensures.fault))

pub returns-in_err-check_entries-clause-malformed : goal.returns-in_err-check_entries-clause-malformed
returns-in_err-check_entries-clause-malformed c =
    let p = err_from_is_err_and c.from_residual-in_err-check_entries.result c.from_residual-in_err-check_entries.ensures.1 in
    let bytes = c.args.file.now in
    let rows = c.args.method_rows in
    let forms =
    forms_of bytes c.args.imports.now c.part-import_part.result (part_of bytes 101) c.part-import_part.ensures.part c.requires.imports in
    let slots = ap (first_bad_of bytes) (sym c.requires.imports) ∙ c.in_ok-check_slots.ensures.ok in
    let functions = ap (bad_function bytes) (sym c.part-function_part.ensures.part) ∙ c.in_ok-functions.ensures.ok in
    let P : Option Fault → Type 0 = λ first. RefusedBy first c.in_err-check_entries.field-0.0 in
    let entries =
    entries_are rows bytes c.args.imports.now c.part-entry_part.result c.part-function_part.result c.requires.imports
    c.part-entry_part.ensures.part c.part-function_part.ensures.part in
    rw (p.1, p.2, own_are rows bytes c.requires.native c.requires.own)
    (bad_entries (answers_of rows bytes) c.in_err-check_entries.field-0.0 (forms ∙ c.in_ok-check_forms.ensures.ok) slots functions
    (subst P entries c.in_err-check_entries.ensures.fault))

pub check_cells_order-requires : goal.check_cells_order-requires
check_cells_order-requires c = record {
  in_reach =
      reach_of c.args.file.now c.args.imports.now c.part-import_part.result
      (part_of c.args.file.now 101) c.part-import_part.ensures.part c.requires.imports c.part-import_part.ensures.in_reach;
}

pub returns-in_err-check_cells_order-clause-malformed : goal.returns-in_err-check_cells_order-clause-malformed
returns-in_err-check_cells_order-clause-malformed c =
    let p = err_from_is_err_and c.from_residual-in_err-check_cells_order.result c.from_residual-in_err-check_cells_order.ensures.1 in
    let bytes = c.args.file.now in
    let rows = c.args.method_rows in
    let imports = c.args.imports.now in
    let forms = forms_of bytes imports c.part-import_part.result (part_of bytes 101) c.part-import_part.ensures.part c.requires.imports in
    let cells = cells_of bytes imports c.part-import_part.result (part_of bytes 101) c.part-import_part.ensures.part c.requires.imports in
    let entry =
    entry_is bytes imports c.part-entry_part.result c.part-function_part.result c.requires.imports c.part-entry_part.ensures.part
    c.part-function_part.ensures.part in
    let all : AllBut (answers_of rows bytes) = record {
      form = forms ∙ c.in_ok-check_forms.ensures.ok;
      slot = ap (first_bad_of bytes) (sym c.requires.imports) ∙ c.in_ok-check_slots.ensures.ok;
      function = ap (bad_function bytes) (sym c.part-function_part.ensures.part) ∙ c.in_ok-functions.ensures.ok;
      array = ap (bad_array rows bytes) (sym c.part-entry_part.ensures.part) ∙ c.in_ok-check_entries.ensures.array;
      path = ap (first_cut bytes) (sym c.part-entry_part.ensures.part) ∙ c.in_ok-check_entries.ensures.paths;
      entry = entry ∙ c.in_ok-check_entries.ensures.linked;
    } in
    rw (p.1, p.2)
    (own_are rows bytes c.requires.native c.requires.own ∙ last_is (answers_of rows bytes) all
    ∙ ap (λ (o : Option ℕ). fault_or 66 o None) cells ∙ c.in_err-check_cells_order.ensures.fault)

pub returns-clause-well_formed : goal.returns-clause-well_formed
returns-clause-well_formed c =
    let bytes = c.args.file.now in
    let rows = c.args.method_rows in
    let imports = c.args.imports.now in
    let forms = forms_of bytes imports c.part-import_part.result (part_of bytes 101) c.part-import_part.ensures.part c.requires.imports in
    let cells = cells_of bytes imports c.part-import_part.result (part_of bytes 101) c.part-import_part.ensures.part c.requires.imports in
    let entry =
    entry_is bytes imports c.part-entry_part.result c.part-function_part.result c.requires.imports c.part-entry_part.ensures.part
    c.part-function_part.ensures.part in
    let all : AllBut (answers_of rows bytes) = record {
      form = forms ∙ c.in_ok-check_forms.ensures.ok;
      slot = ap (first_bad_of bytes) (sym c.requires.imports) ∙ c.in_ok-check_slots.ensures.ok;
      function = ap (bad_function bytes) (sym c.part-function_part.ensures.part) ∙ c.in_ok-functions.ensures.ok;
      array = ap (bad_array rows bytes) (sym c.part-entry_part.ensures.part) ∙ c.in_ok-check_entries.ensures.array;
      path = ap (first_cut bytes) (sym c.part-entry_part.ensures.part) ∙ c.in_ok-check_entries.ensures.paths;
      entry = entry ∙ c.in_ok-check_entries.ensures.linked;
    } in
    own_are rows bytes c.requires.native c.requires.own ∙ last_is (answers_of rows bytes) all
    ∙ ap (λ (o : Option ℕ). fault_or 66 o None) (cells ∙ c.in_ok-check_cells_order.ensures.ok)
