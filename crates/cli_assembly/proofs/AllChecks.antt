-- The first fault over all checks of an assembly, by the parts of the reader.
use Rattle.std.proofs.Common.{◌≡◌, ℕ, List, ◌++◌, Option, Some, None, sym, ap, ◌∙◌, subst}
use Rattle.rtr_bytes.specs.declared.fault.ReadRefusal.{ReadRefusal}
use Rattle.rtr_bytes.specs.declared.fault.ReadRefusal.TheVariants as refusals
use Rattle.rtr_bytes.specs.Checks.{Check, RefusedBy, fault_or, first_fault}
use Rattle.rtr_bytes.proofs.Joined.{first_fault-append, first_fault-append_some}
use Rattle.pe_image.specs.Checks.{pe_checks}
use Rattle.metadata.specs.Checks.{first_of, metadata_checks}
use Rattle.metadata.specs.Tables.{Layout, layout_of, rows_of}
use Rattle.cli_assembly.specs.Checks.{assembly_checks, body_checks, malformed_header, metadata_of, unplaced_body}
use Rattle.cli_assembly.specs.Kept.{body_fault}

-- a refusal by the first of two lists of checks
first_of_two : (cs ds : List Check) (bytes : List ℕ) (e : ReadRefusal) → RefusedBy (first_fault cs bytes) e
    → RefusedBy (first_fault (cs ++ ds) bytes) e
first_of_two cs ds bytes refusals.NoMemory r = tt
first_of_two cs ds bytes (refusals.Malformed f) r = first_fault-append_some cs ds bytes f r

pub refused_by_pe : (bytes : List ℕ) (e : ReadRefusal) → RefusedBy (first_fault pe_checks bytes) e
    → RefusedBy (first_fault (assembly_checks bytes) bytes) e
unfolding assembly_checks
refused_by_pe bytes e r = first_of_two pe_checks (metadata_checks (metadata_of bytes) ++ body_checks (metadata_of bytes)) bytes e r

after_pe : (bytes : List ℕ) → first_fault pe_checks bytes ≡ None
    → first_fault (metadata_checks (metadata_of bytes) ++ body_checks (metadata_of bytes)) bytes ≡ first_fault (assembly_checks bytes) bytes
unfolding assembly_checks
after_pe bytes none = sym (first_fault-append pe_checks (metadata_checks (metadata_of bytes) ++ body_checks (metadata_of bytes)) bytes none)

pub refused_by_metadata : (bytes : List ℕ) (e : ReadRefusal) → first_fault pe_checks bytes ≡ None
    → RefusedBy (first_fault (metadata_checks (metadata_of bytes)) bytes) e → RefusedBy (first_fault (assembly_checks bytes) bytes) e
refused_by_metadata bytes e none r =
    subst (λ o. RefusedBy o e) (after_pe bytes none)
    (first_of_two (metadata_checks (metadata_of bytes)) (body_checks (metadata_of bytes)) bytes e r)

-- where the headers and the metadata pass
pub bodies_decide : (bytes : List ℕ) (layout : Layout) → first_fault pe_checks bytes ≡ None
    → first_fault (metadata_checks (metadata_of bytes)) bytes ≡ None
    → layout ≡ layout_of bytes (metadata_of bytes) → body_fault bytes layout ≡ first_fault (assembly_checks bytes) bytes
bodies_decide bytes layout pe metadata is =
    let span = metadata_of bytes in
    ap (body_fault bytes) is ∙ sym (first_fault-append (metadata_checks span) (body_checks span) bytes metadata) ∙ after_pe bytes pe

-- ---- the fault of the bodies

pub unplaced_fault : (bytes : List ℕ) (layout : Layout) (at : ℕ) → first_of (unplaced_body bytes layout) 1 (rows_of layout 6) ≡ Some at
    → body_fault bytes layout ≡ Some (record { check = 50; place = at })
unplaced_fault bytes layout at e =
    ap (λ o. fault_or 50 o (fault_or 51 (first_of (malformed_header bytes layout) 1 (rows_of layout 6)) None)) e

pub malformed_fault : (bytes : List ℕ) (layout : Layout) (known : Option ℕ)
    → first_of (unplaced_body bytes layout) 1 (rows_of layout 6) ≡ None
    → first_of (malformed_header bytes layout) 1 (rows_of layout 6) ≡ known → body_fault bytes layout ≡ fault_or 51 known None
malformed_fault bytes layout known placed e =
    ap (λ o. fault_or 50 o (fault_or 51 (first_of (malformed_header bytes layout) 1 (rows_of layout 6)) None)) placed
    ∙ ap (λ o. fault_or 51 o None) e
