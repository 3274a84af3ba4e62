-- What the reader of an assembly keeps beside the bytes, so that no later call reads a signature or a header again.
use Rattle.std.specs.Prelude.{◌≡◌, ◌≤◌, ◌^◌, ℕ, zero, suc, List, length, map, slice_get, Option, Some, None, if◌then◌else◌}
use Rattle.std.specs.Option.{option_and_then}
use Rattle.std.specs.List.{range_with_len}
use Rattle.rtr_bytes.specs.declared.fault.Fault.{Fault}
use Rattle.rtr_bytes.specs.Checks.{fault_or, first_fault}
use Rattle.pe_image.specs.Headers.{headers_of}
use Rattle.metadata.specs.declared.schema.Table.{Table}
use Rattle.metadata.specs.declared.schema.Table.TheVariants as tables
use Rattle.metadata.specs.Schema.{table_number}
use Rattle.metadata.specs.Heaps.{blob_of}
use Rattle.metadata.specs.Tables.{Layout, column_of, layout_of, rows_of}
use Rattle.cli_assembly.specs.declared.parts.Parts.{Parts}
use Rattle.cli_assembly.specs.Assemblies.{assembly_of, field_signature, local_signature, member_field_signature}
use Rattle.cli_assembly.specs.Assemblies.{member_method_signature, method_signature, placed_in}
use Rattle.cli_assembly.specs.Checks.{assembly_checks, first_in_methods, has_cil_body, malformed_header, metadata_of}
use Rattle.cli_assembly.specs.Checks.{method_rva, unplaced_body}
use Rattle.cli_assembly.specs.Bodies.{body_at}
use Rattle.cli_assembly.specs.declared.header.BodyAt.{BodyAt}

-- where the tables and the heaps of a file are
abbrev pub file_layout : List ℕ → Layout
file_layout bytes = layout_of bytes (metadata_of bytes)

-- one answer for each row of a table
abbrev pub by_row : {X : Type 0} → Layout → Table → (ℕ → X) → List X
by_row layout table answer = map answer (range_with_len 1 (rows_of layout (table_number table)))

-- the blob that a column of a row names, and what it spells; none where there is no such row or column
abbrev pub blob_read : List ℕ → Layout → ℕ → ℕ → ℕ → Option (List ℕ)
blob_read bytes layout table column row = option_and_then (blob_of bytes layout) (column_of bytes layout table row column)

abbrev pub sig_read : {X : Type 0} → (List ℕ → Option X) → List ℕ → Layout → ℕ → ℕ → ℕ → Option X
sig_read read bytes layout table column row = option_and_then read (blob_read bytes layout table column row)

-- what is at the RVA of a row of MethodDef; none where it has no CIL
unfoldable pub row_header : List ℕ → Layout → ℕ → Option BodyAt
row_header bytes layout row = if has_cil_body bytes layout row then Some (body_at bytes (method_rva bytes layout row)) else None

-- the first fault of the bodies
abbrev pub body_fault : List ℕ → Layout → Option Fault
body_fault bytes layout =
    fault_or 50 (first_in_methods layout (unplaced_body bytes layout))
    (fault_or 51 (first_in_methods layout (malformed_header bytes layout)) None)

-- the answer for a row, from 1
unfoldable pub nth_row : {X : Type 0} → List X → ℕ → Option X
nth_row items zero = None
nth_row items (suc i) = slice_get items i

-- the same where a row may have none
abbrev pub answer_of : {X : Type 0} → List (Option X) → ℕ → Option X
answer_of items row = option_and_then (λ x. x) (nth_row items row)

-- the bytes pass all checks, each part stands in them, and a list has the answer for each row
pub record IsReadFrom (bytes : List ℕ) (parts : Parts) : Type 0 where
  pub small : length bytes ≤ 2 ^ 31
  pub well_formed : first_fault (assembly_checks bytes) bytes ≡ None
  pub headers : parts.pe ≡ headers_of bytes
  pub layout : parts.metadata ≡ file_layout bytes
  pub methods : parts.methods.items ≡ by_row (file_layout bytes) tables.MethodDef (method_signature (assembly_of bytes))
  pub fields : parts.fields.items ≡ by_row (file_layout bytes) tables.Field (field_signature (assembly_of bytes))
  pub locals : parts.locals.items ≡ by_row (file_layout bytes) tables.StandAloneSig (local_signature (assembly_of bytes))
  pub member_methods : parts.member_methods.items
      ≡ by_row (file_layout bytes) tables.MemberRef (member_method_signature (assembly_of bytes))
  pub member_fields : parts.member_fields.items ≡ by_row (file_layout bytes) tables.MemberRef (member_field_signature (assembly_of bytes))
  pub bodies : parts.bodies.items ≡ by_row (file_layout bytes) tables.MethodDef (placed_in bytes (file_layout bytes))
