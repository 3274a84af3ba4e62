-- What a dump asks of a file, what it prints, and how it ends.
use Rattle.std.specs.Prelude.{◌≡◌, ℕ, List, [], ◌++◌, length, Option, Some, None, is_some, nat_lt, if◌then◌else◌}
use Rattle.rtr_bytes.specs.declared.fault.Fault.{Fault}
use Rattle.rtr_bytes.specs.Checks.{Check, first_fault}
use Rattle.rtr_outside.specs.Sink.{PrintsFront, Rose}
use Rattle.pe_image.specs.Checks.{pe_checks}
use Rattle.pe_image.specs.Headers.{Headers, headers_of, native_of}
use Rattle.rtr_sections.specs.declared.image.Image.{Image}
use Rattle.rtr_sections.specs.declared.imports.ImportSection.{ImportSection}
use Rattle.rtr_sections.specs.declared.slots.Slot.{Slot}
use Rattle.rtr_sections.specs.Header.{header_checks, is_own}
use Rattle.rtr_sections.specs.Imports.{slots_in}
use Rattle.rtr_sections.specs.Image.{image_checks, image_of, own_checks, rtr_checks}
use Rattle.metadata.specs.declared.schema.Table.TheVariants as tables
use Rattle.metadata.specs.Checks.{metadata_checks}
use Rattle.cli_assembly.specs.Assemblies.{Assembly, assembly_of, row_count}
use Rattle.cli_assembly.specs.Checks.{assembly_checks, body_checks, metadata_of}
use Rattle.r2rdump.specs.declared.dump.DumpRefusal.{DumpRefusal}
use Rattle.r2rdump.specs.declared.dump.DumpRefusal.TheVariants as refusals
use Rattle.r2rdump.specs.Text.{file_line, header_lines, native_lines}
use Rattle.r2rdump.specs.Types.{assembly_lines}

-- ---- the fault of a file

-- the MethodDef rows that the entries of an image may name
abbrev pub method_rows : List ℕ → ℕ
method_rows bytes = row_count (assembly_of bytes) tables.MethodDef

-- The checks of a file in the order of their numbers: those of its PE headers, of the ReadyToRun header and its import records, of
-- its assembly, and of what else an image of this compiler has.
unfoldable pub dump_checks : List ℕ → List Check
dump_checks bytes =
    pe_checks ++ ((header_checks ++ image_checks)
    ++ ((metadata_checks (metadata_of bytes) ++ body_checks (metadata_of bytes)) ++ own_checks (method_rows bytes)))

-- the first that fails, with its place
abbrev pub file_fault : List ℕ → Option Fault
file_fault bytes = first_fault (dump_checks bytes) bytes

-- The same by the readers' own faults: the one of the lower number of two.
abbrev pub lower : Option Fault → Option Fault → Option Fault
lower None other = other
lower (Some f) None = Some f
lower (Some f) (Some g) = if nat_lt g.check f.check then Some g else Some f

-- where the assembly is refused, the entries of an image may name each row that a token can
abbrev pub rows_asked : Option Fault → ℕ → ℕ
rows_asked None rows = rows
rows_asked (Some f) rows = 16777215

abbrev pub image_fault : List ℕ → Option Fault
image_fault bytes = first_fault (rtr_checks (rows_asked (first_fault (assembly_checks bytes) bytes) (method_rows bytes))) bytes

-- ---- the text

-- the ReadyToRun part, where the file has one
abbrev pub native_image_of : List ℕ → Option Image
native_image_of bytes = if is_some (native_of bytes) then Some (image_of bytes) else None

-- the slots of an import record, one for each of its cells. What those of a foreign image are isn't looked at.
abbrev pub own_slots : List ℕ → ImportSection → List Slot
own_slots bytes import = if is_own bytes then slots_in bytes import else []

-- the text of a file of a name and a length that has these headers, this ReadyToRun part with the slots of its import records, and
-- this assembly
abbrev pub text_of : List ℕ → ℕ → Headers → (ImportSection → List Slot) → Option Image → Assembly → List ℕ
text_of name len pe slots_of image assembly =
    file_line name len ++ header_lines pe ++ native_lines slots_of image ++ assembly_lines assembly

-- the whole text for a file of this name with these bytes
unfoldable pub dump_text : List ℕ → List ℕ → List ℕ
dump_text name bytes = text_of name (length bytes) (headers_of bytes) (own_slots bytes) (native_image_of bytes) (assembly_of bytes)

-- ---- how a dump ends

-- the sink took nothing, where it exposes its bytes, and had no fault
abbrev pub IsUntouched : {S : Type 0} → (S → Option (List ℕ)) → (S → ℕ) → S → S → Type 0
IsUntouched written faults old new = (written new ≡ written old) × (faults new ≡ faults old)

-- why a dump was refused, and what the sink has then
abbrev pub IsRefused : {S : Type 0} → (S → Option (List ℕ)) → (S → ℕ) → List ℕ → List ℕ → S → S → DumpRefusal → Type 0
IsRefused written faults name bytes old new (refusals.Malformed fault) =
    (file_fault bytes ≡ Some fault) × IsUntouched written faults old new
IsRefused written faults name bytes old new refusals.SinkFailed =
    (file_fault bytes ≡ None) × Rose (faults old) (faults new) × PrintsFront written (dump_text name bytes) old new
IsRefused written faults name bytes old new refusals.NoMemory = IsUntouched written faults old new
