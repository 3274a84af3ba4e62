-- The checks of method bodies, and with them all checks of an assembly, each computed from the bytes alone.
use Rattle.std.specs.Prelude.{ℕ, Bool, List, [], ◌∷◌, ◌++◌, Option, Some, None, if◌then◌else◌}
use Rattle.rtr_bytes.specs.declared.fault.Span.{Span}
use Rattle.rtr_bytes.specs.Checks.{Check, check}
use Rattle.pe_image.specs.Headers.{headers_of}
use Rattle.pe_image.specs.Checks.{pe_checks}
use Rattle.metadata.specs.declared.schema.Table.TheVariants as tables
use Rattle.metadata.specs.Schema.{table_number}
use Rattle.metadata.specs.Tables.{Layout, column_at, layout_of, number_of, rows_of}
use Rattle.metadata.specs.Checks.{first_of, metadata_checks}
use Rattle.cli_assembly.specs.Bodies.{body_at, has_cil}
use Rattle.cli_assembly.specs.declared.header.BodyAt.{BodyAt}
use Rattle.cli_assembly.specs.declared.header.BodyAt.TheVariants as headers

-- columns of MethodDef (ECMA-335 II.22.26): RVA is the first, ImplFlags the second
abbrev pub method_column : List ℕ → Layout → ℕ → ℕ → ℕ
method_column bytes layout row column = number_of bytes layout (table_number tables.MethodDef) row column

abbrev pub method_rva : List ℕ → Layout → ℕ → ℕ
method_rva bytes layout row = method_column bytes layout row 0

-- a row has CIL
abbrev pub has_cil_body : List ℕ → Layout → ℕ → Bool
has_cil_body bytes layout row = has_cil (method_rva bytes layout row) (method_column bytes layout row 1)

-- the place of a row's RVA, where what is there is not in a section
abbrev pub place_if_unplaced : ℕ → BodyAt → Option ℕ
place_if_unplaced column headers.Unplaced = Some column
place_if_unplaced column (headers.Malformed at) = None
place_if_unplaced column (headers.Placed body) = None

-- the place of a header that is neither tiny nor fat of 3 words
abbrev pub place_if_malformed : BodyAt → Option ℕ
place_if_malformed (headers.Malformed at) = Some at
place_if_malformed (headers.Placed body) = None
place_if_malformed headers.Unplaced = None

unfoldable pub unplaced_body : List ℕ → Layout → ℕ → Option ℕ
unplaced_body bytes layout row =
    if has_cil_body bytes layout row
    then place_if_unplaced (column_at layout (table_number tables.MethodDef) row 0) (body_at bytes (method_rva bytes layout row))
    else None

unfoldable pub malformed_header : List ℕ → Layout → ℕ → Option ℕ
malformed_header bytes layout row =
    if has_cil_body bytes layout row then place_if_malformed (body_at bytes (method_rva bytes layout row)) else None

-- the first place of a row of MethodDef
abbrev pub first_in_methods : Layout → (ℕ → Option ℕ) → Option ℕ
first_in_methods layout place = first_of place 1 (rows_of layout (table_number tables.MethodDef))

-- where the metadata is in the file
abbrev pub metadata_of : List ℕ → Span
metadata_of bytes = (headers_of bytes).metadata

-- Each check goes over all rows, so that where both fail, for whatever rows, 50 decides.
abbrev pub body_checks : Span → List Check
body_checks span =
    check 50 (λ bytes. let layout = layout_of bytes span in first_in_methods layout (unplaced_body bytes layout))
    ∷ check 51 (λ bytes. let layout = layout_of bytes span in first_in_methods layout (malformed_header bytes layout))
    ∷ []

-- all of them, in their order; the range of the metadata is that which the CLI header of the file names
unfoldable pub assembly_checks : List ℕ → List Check
assembly_checks bytes = pe_checks ++ (metadata_checks (metadata_of bytes) ++ body_checks (metadata_of bytes))
