-- The tables and heaps that spell what was asked for: each column's number, and the bytes of each heap (ECMA-335 II.24.2).
use Rattle.std.specs.Prelude.{ℕ, ◌+◌, ◌-◌, ◌*◌, ◌/◌, ◌%◌, ◌^◌, ◌==◌, ◌&&◌, List, [], ◌∷◌, ◌++◌, length, find}
use Rattle.std.specs.Prelude.{replicate, if◌then◌else◌, Option, unwrap_or}
use Rattle.std.specs.Option.{option_map}
use Rattle.byteorder.specs.Endian.{little_bytes}
use Rattle.rtr_bytes.specs.Compressed.{compressed_bytes}
use Rattle.metadata.specs.declared.schema.CodedKind.{CodedKind}
use Rattle.metadata.specs.declared.schema.CodedTable.{CodedTable}
use Rattle.metadata.specs.declared.schema.TheConstants.{CODED_TABLES}
use Rattle.metadata.specs.Schema.{kind_number, table_number, tag_bits}
use Rattle.pe_image.specs.Places.{aligned}
use Rattle.asm_builder.specs.declared.asked.Method.{Method}
use Rattle.asm_builder.specs.declared.content.Content.{Content}
use Rattle.asm_builder.specs.Asked.{Asked}
use Rattle.asm_builder.specs.Cells.{Cell, Number, Text, Blob, Coded, has_locals, is_empty, tables_of, user_heap}

-- ---- coded indexes (II.24.2.6)

-- the tag of a table among those of a kind
abbrev pub tag_in : List CodedTable → CodedKind → ℕ → Option ℕ
tag_in tagged kind table =
    option_map (λ t. t.tag) (find (λ t. (kind_number t.kind == kind_number kind) && (table_number t.table == table)) tagged)

unfoldable pub tag_of : CodedKind → ℕ → Option ℕ
tag_of kind token = tag_in CODED_TABLES kind (token / 2 ^ 24)

abbrev pub coded_index : CodedKind → ℕ → ℕ
coded_index kind token = token % 2 ^ 24 * 2 ^ tag_bits kind + unwrap_or (tag_of kind token) 0

-- ---- heaps that grow as cells are spelled

pub record Heaps : Type 0 where
  pub strings : List ℕ
  pub blobs : List ℕ

-- both begin with what index 0 names: an empty text, and an empty blob
abbrev pub no_heaps : Heaps
no_heaps = record { strings = 0 ∷ []; blobs = 0 ∷ [] }

-- what a cell adds: a text with its zero, a blob with its length; an empty one has index 0, and adds nothing
abbrev pub text_bytes : List ℕ → List ℕ
text_bytes text = if is_empty text then [] else text ++ 0 ∷ []

abbrev pub blob_bytes : List ℕ → List ℕ
blob_bytes blob = if is_empty blob then [] else compressed_bytes (length blob) ++ blob

-- the heaps after a cell
abbrev pub heaps_after : Heaps → Cell → Heaps
heaps_after heaps (Number n) = heaps
heaps_after heaps (Text text) = record heaps { strings = heaps.strings ++ text_bytes text }
heaps_after heaps (Blob blob) = record heaps { blobs = heaps.blobs ++ blob_bytes blob }
heaps_after heaps (Coded kind token) = heaps

-- the number that spells it
abbrev pub number_of : Heaps → Cell → ℕ
number_of heaps (Number n) = n
number_of heaps (Text text) = if is_empty text then 0 else length heaps.strings
number_of heaps (Blob blob) = if is_empty blob then 0 else length heaps.blobs
number_of heaps (Coded kind token) = coded_index kind token

-- ---- spelling things one after the other: what each is spelled as, and the heaps after all

abbrev pub heaps_after_all : {X : Type 0} → (Heaps → X → Heaps) → Heaps → List X → Heaps
heaps_after_all after heaps [] = heaps
heaps_after_all after heaps (x ∷ xs) = heaps_after_all after (after heaps x) xs

abbrev pub spelled_all : {X Y : Type 0} → (Heaps → X → Heaps) → (Heaps → X → Y) → Heaps → List X → List Y
spelled_all after spelled heaps [] = []
spelled_all after spelled heaps (x ∷ xs) = spelled heaps x ∷ spelled_all after spelled (after heaps x) xs

-- a row of cells, a table of rows, and all tables
abbrev pub row_after : Heaps → List Cell → Heaps
row_after heaps cells = heaps_after_all heaps_after heaps cells

abbrev pub row_numbers : Heaps → List Cell → List ℕ
row_numbers heaps cells = spelled_all heaps_after number_of heaps cells

abbrev pub table_after : Heaps → List (List Cell) → Heaps
table_after heaps rows = heaps_after_all row_after heaps rows

abbrev pub table_numbers : Heaps → List (List Cell) → List (List ℕ)
table_numbers heaps rows = spelled_all row_after row_numbers heaps rows

unfoldable pub all_after : Heaps → List (List (List Cell)) → Heaps
all_after heaps tables = heaps_after_all table_after heaps tables

unfoldable pub all_numbers : Heaps → List (List (List Cell)) → List (List (List ℕ))
all_numbers heaps tables = spelled_all table_after table_numbers heaps tables

-- ---- bodies (II.25.4.3)

-- zeros up to a multiple of 4
abbrev pub padded4 : List ℕ → List ℕ
padded4 bytes = bytes ++ replicate (aligned 4 (length bytes) - length bytes) 0

-- a fat header: InitLocals and the format, with the header's size in words above them; then MaxStack, CodeSize, LocalVarSigTok
abbrev pub body_header : ℕ → Method → List ℕ
body_header locals m =
    little_bytes 2 0x3013 ++ (little_bytes 2 m.max_stack ++ (little_bytes 4 (length m.code) ++ little_bytes 4 locals))

abbrev pub body_bytes : ℕ → Method → List ℕ
body_bytes locals m = if is_empty m.code then [] else padded4 (body_header locals m ++ m.code)

-- LocalVarSigTok of a method, where so many rows of StandAloneSig are before its own
abbrev pub locals_token : ℕ → Method → ℕ
locals_token before m = if has_locals m then 0x1100_0001 + before else 0

abbrev pub locals_after : ℕ → Method → ℕ
locals_after before m = if has_locals m then before + 1 else before

unfoldable pub bodies_from : ℕ → List Method → List ℕ
bodies_from before [] = []
bodies_from before (m ∷ ms) = body_bytes (locals_token before m) m ++ bodies_from (locals_after before m) ms

-- ---- all of it. A heap has zeros at its end, up to a multiple of 4; there is one GUID, the module's.

-- the same for every module
abbrev pub module_guid : List ℕ
module_guid = replicate 16 0x22

unfoldable pub content_of : Asked → Content
content_of asked = record {
  tables = all_numbers no_heaps (tables_of asked);
  strings = padded4 (all_after no_heaps (tables_of asked)).strings;
  user_strings = padded4 (user_heap asked.user_strings);
  guids = module_guid;
  blobs = padded4 (all_after no_heaps (tables_of asked)).blobs;
  bodies = bodies_from 0 asked.methods;
}
