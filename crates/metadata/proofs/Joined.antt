-- The layout by the parts of the reader, and its faults in their order.
use Rattle.std.proofs.Common.{◌≡◌, ℕ, List, Option, Some, None, refl, ap, ◌∙◌}
use Rattle.rtr_bytes.specs.declared.fault.Fault.{Fault}
use Rattle.rtr_bytes.specs.declared.fault.ReadRefusal.{ReadRefusal}
use Rattle.rtr_bytes.specs.declared.fault.ReadRefusal.TheVariants as refusals
use Rattle.rtr_bytes.specs.declared.fault.Span.{Span}
use Rattle.rtr_bytes.specs.Checks.{RefusedBy, fault_or, first_fault}
use Rattle.metadata.specs.declared.header.TablesHeader.{TablesHeader}
use Rattle.metadata.specs.declared.streams.Streams.{Streams}
use Rattle.metadata.specs.Checks.{layout_checks}
use Rattle.metadata.specs.Kept.{layout_fault}
use Rattle.metadata.specs.Steps.{AreStreams, IsHeader, layout_by}
use Rattle.metadata.specs.Streams.{blobs_name, guids_name, stream_of, strings_name, tables_name, user_strings_name}
use Rattle.metadata.specs.Tables.{Layout, layout_of, heap_sizes_of, row_counts, rows_place}

-- ---- the layout

abbrev of_parts : Span → Span → Span → Span → ℕ → List ℕ → ℕ → Layout
of_parts strings user_strings guids blobs heap_sizes rows rows_at =
    record {
      strings = strings;
      user_strings = user_strings;
      guids = guids;
      blobs = blobs;
      heap_sizes = heap_sizes;
      rows = rows;
      rows_at = rows_at;
    }

same_parts : (a b c d a1 b1 c1 d1 : Span) (e e1 : ℕ) (f f1 : List ℕ) (g g1 : ℕ) → a ≡ a1 → b ≡ b1 → c ≡ c1 → d ≡ d1
    → e ≡ e1 → f ≡ f1 → g ≡ g1 → of_parts a b c d e f g ≡ of_parts a1 b1 c1 d1 e1 f1 g1
same_parts a b c d a1 b1 c1 d1 e e1 f f1 g g1 pa pb pc pd pe pf pg =
    ap (λ x. of_parts x b c d e f g) pa
    ∙ ap (λ x. of_parts a1 x c d e f g) pb
    ∙ ap (λ x. of_parts a1 b1 x d e f g) pc
    ∙ ap (λ x. of_parts a1 b1 c1 x e f g) pd
    ∙ ap (λ x. of_parts a1 b1 c1 d1 x f g) pe
    ∙ ap (λ x. of_parts a1 b1 c1 d1 e1 x g) pf
    ∙ ap (λ x. of_parts a1 b1 c1 d1 e1 f1 x) pg

by_place : (bytes : List ℕ) (span : Span) (at : ℕ) (streams : Streams) (header : TablesHeader)
    → at ≡ (stream_of bytes span tables_name).start → AreStreams bytes span streams → IsHeader bytes at header
    → layout_by streams header ≡ layout_of bytes span
unfolding layout_of
by_place bytes span at streams header at_is s h =
    let start = (stream_of bytes span tables_name).start in
    same_parts streams.strings streams.user_strings streams.guids streams.blobs
    (stream_of bytes span strings_name) (stream_of bytes span user_strings_name) (stream_of bytes span guids_name)
    (stream_of bytes span blobs_name)
    header.heap_sizes (heap_sizes_of bytes start) header.rows.items (row_counts bytes start) header.rows_at (rows_place bytes start)
    s.strings s.user_strings s.guids s.blobs
    (h.heap_sizes ∙ ap (heap_sizes_of bytes) at_is)
    (h.rows ∙ ap (row_counts bytes) at_is)
    (h.rows_at ∙ ap (rows_place bytes) at_is)

pub layout_same : (bytes : List ℕ) (span : Span) (streams : Streams) (header : TablesHeader)
    → AreStreams bytes span streams → IsHeader bytes streams.tables.start header → layout_by streams header ≡ layout_of bytes span
layout_same bytes span streams header s h = by_place bytes span streams.tables.start streams header (ap (λ s. s.start) s.tables) s h

-- ---- the faults

pub faults_same : (bytes : List ℕ) (span stream : Span) (layout : Layout) → stream ≡ stream_of bytes span tables_name
    → layout ≡ layout_of bytes span → layout_fault bytes stream layout ≡ first_fault (layout_checks span) bytes
faults_same bytes span stream layout stream_is layout_is =
    ap (λ s. layout_fault bytes s layout) stream_is ∙ ap (λ l. layout_fault bytes (stream_of bytes span tables_name) l) layout_is

-- a check that fails comes before the others
pub refused_first : (n : ℕ) (place : Option ℕ) (others : Option Fault) (e : ReadRefusal)
    → RefusedBy (fault_or n place None) e → RefusedBy (fault_or n place others) e
refused_first n (Some at) others e r = r
refused_first n None others (refusals.Malformed f) r = absurd (let x : ⊥ = cc in x)
refused_first n None others refusals.NoMemory r = tt

-- and one that holds leaves them
pub held : (n : ℕ) (place : Option ℕ) (others : Option Fault) → fault_or n place None ≡ None → fault_or n place others ≡ others
held n (Some at) others e = absurd (let x : ⊥ = cc in x)
held n None others e = refl
