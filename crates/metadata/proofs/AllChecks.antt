-- The first fault over all checks of metadata, by the parts of the reader.
use Rattle.std.proofs.Common.{◌≡◌, ℕ, List, ◌++◌, Option, Some, None, refl, sym, ap, ◌∙◌, subst}
use Rattle.rtr_bytes.specs.declared.fault.Fault.{Fault}
use Rattle.rtr_bytes.specs.declared.fault.Span.{Span}
use Rattle.rtr_bytes.specs.declared.fault.ReadRefusal.{ReadRefusal}
use Rattle.rtr_bytes.specs.declared.fault.ReadRefusal.TheVariants as refusals
use Rattle.rtr_bytes.specs.Checks.{Check, RefusedBy, fault_or, first_fault}
use Rattle.rtr_bytes.proofs.Joined.{first_fault-append, first_fault-append_some}
use Rattle.metadata.specs.Checks.{cut_header, first_large, header_checks, layout_checks, metadata_checks, root_checks}
use Rattle.metadata.specs.Checks.{stream_checks, tables_of, unknown_heap, unknown_table}

-- a refusal by the first of two lists, and by the second
first_of_two : (cs ds : List Check) (bytes : List ℕ) (e : ReadRefusal) → RefusedBy (first_fault cs bytes) e
    → RefusedBy (first_fault (cs ++ ds) bytes) e
first_of_two cs ds bytes refusals.NoMemory r = tt
first_of_two cs ds bytes (refusals.Malformed f) r = first_fault-append_some cs ds bytes f r

second_of_two : (cs ds : List Check) (bytes : List ℕ) (e : ReadRefusal) → first_fault cs bytes ≡ None
    → RefusedBy (first_fault ds bytes) e → RefusedBy (first_fault (cs ++ ds) bytes) e
second_of_two cs ds bytes e none r = subst (λ o. RefusedBy o e) (sym (first_fault-append cs ds bytes none)) r

pub refused_by_root : (bytes : List ℕ) (span : Span) (f : Fault) → first_fault (root_checks span) bytes ≡ Some f
    → first_fault (metadata_checks span) bytes ≡ Some f
unfolding metadata_checks
refused_by_root bytes span f r =
    first_fault-append_some (root_checks span) (stream_checks span ++ (header_checks span ++ layout_checks span)) bytes f r

pub refused_by_streams : (bytes : List ℕ) (span : Span) (e : ReadRefusal) → first_fault (root_checks span) bytes ≡ None
    → RefusedBy (first_fault (stream_checks span) bytes) e → RefusedBy (first_fault (metadata_checks span) bytes) e
unfolding metadata_checks
refused_by_streams bytes span e root r =
    second_of_two (root_checks span) (stream_checks span ++ (header_checks span ++ layout_checks span)) bytes e root
    (first_of_two (stream_checks span) (header_checks span ++ layout_checks span) bytes e r)

pub refused_by_header : (bytes : List ℕ) (span : Span) (e : ReadRefusal) → first_fault (root_checks span) bytes ≡ None
    → first_fault (stream_checks span) bytes ≡ None
    → RefusedBy (first_fault (header_checks span) bytes) e → RefusedBy (first_fault (metadata_checks span) bytes) e
unfolding metadata_checks
refused_by_header bytes span e root streams r =
    second_of_two (root_checks span) (stream_checks span ++ (header_checks span ++ layout_checks span)) bytes e root
    (second_of_two (stream_checks span) (header_checks span ++ layout_checks span) bytes e streams
    (first_of_two (header_checks span) (layout_checks span) bytes e r))

-- where the parts before the rows pass
pub first_of_rows : (bytes : List ℕ) (span : Span) → first_fault (root_checks span) bytes ≡ None
    → first_fault (stream_checks span) bytes ≡ None
    → first_fault (header_checks span) bytes ≡ None → first_fault (metadata_checks span) bytes ≡ first_fault (layout_checks span) bytes
unfolding metadata_checks
first_of_rows bytes span root streams header =
    first_fault-append (root_checks span) (stream_checks span ++ (header_checks span ++ layout_checks span)) bytes root
    ∙ first_fault-append (stream_checks span) (header_checks span ++ layout_checks span) bytes streams
    ∙ first_fault-append (header_checks span) (layout_checks span) bytes header

-- ---- the header's checks by the place of the tables' stream

abbrev pub header_fault : List ℕ → Span → Option Fault
header_fault bytes stream =
    fault_or 36 (cut_header bytes stream)
    (fault_or 37 (unknown_heap bytes stream.start)
    (fault_or 38 (unknown_table bytes stream.start) (fault_or 39 (first_large bytes stream.start) None)))

pub header_fault_is : (bytes : List ℕ) (span stream : Span) → stream ≡ tables_of bytes span
    → header_fault bytes stream ≡ first_fault (header_checks span) bytes
header_fault_is bytes span stream e = ap (header_fault bytes) e

pub no_header_fault : (bytes : List ℕ) (stream : Span) → cut_header bytes stream ≡ None
    → unknown_heap bytes stream.start ≡ None → unknown_table bytes stream.start ≡ None
    → first_large bytes stream.start ≡ None → header_fault bytes stream ≡ None
no_header_fault bytes stream a b c d = rw a (rw b (rw c (rw d refl)))
