-- What may be asked for: the conditions of a builder's calls, over the whole record with the new row in it.
use Rattle.std.specs.Prelude.{◌⊎◌, ◌^◌, ◌+◌, ◌/◌, ◌%◌, ◌==◌, ◌&&◌, ◌||◌, ℕ, not, Bool, true, List, []}
use Rattle.std.specs.Prelude.{◌∷◌, length, get_or, map, sum_by, nat_lt, nat_le, IsTrue, is_some}
use Rattle.std.specs.List.{list_all, list_any}
use Rattle.std.specs.Str.{is_utf8}
use Rattle.metadata.specs.declared.schema.CodedKind.{CodedKind}
use Rattle.metadata.specs.declared.schema.Table.TheVariants as tables
use Rattle.metadata.specs.Schema.{table_number}
use Rattle.cli_assembly.specs.declared.signature.TypeSig.{TypeSig}
use Rattle.cli_assembly.specs.declared.signature.MethodSig.{MethodSig}
use Rattle.cli_assembly.specs.Shortest.{is_writable_type}
use Rattle.asm_builder.specs.declared.asked.TypeDef.{TypeDef}
use Rattle.asm_builder.specs.declared.asked.Field.{Field}
use Rattle.asm_builder.specs.declared.asked.Method.{Method}
use Rattle.asm_builder.specs.Asked.{Asked}
use Rattle.asm_builder.specs.Cells.{Cell, Number, Text, Blob, Coded, tables_of, user_heap}
use Rattle.asm_builder.specs.Content.{Heaps, all_after, no_heaps, tag_of}

-- ---- cells

-- how many rows each of 64 tables has
abbrev pub rows_asked : List (List (List Cell)) → List ℕ
rows_asked tables = map length tables

-- a token names a row that is there
abbrev pub is_row : List ℕ → ℕ → Bool
is_row rows token = nat_lt 0 (token % 2 ^ 24) && nat_le (token % 2 ^ 24) (get_or rows (token / 2 ^ 24) 0)

-- in a table that a column of a kind takes
abbrev pub takes : List ℕ → CodedKind → ℕ → Bool
takes rows kind token = is_some (tag_of kind token) && is_row rows token

-- a name is in UTF-8 and has no zero
abbrev pub is_name : List ℕ → Bool
is_name text = is_utf8 text && not (list_any (λ b. b == 0) text)

abbrev pub is_sound_cell : List ℕ → Cell → Bool
is_sound_cell rows (Number n) = nat_lt n (2 ^ 32)
is_sound_cell rows (Text text) = is_name text
is_sound_cell rows (Blob blob) = true
is_sound_cell rows (Coded kind token) = takes rows kind token

abbrev pub are_sound_rows : List ℕ → List (List Cell) → Bool
are_sound_rows rows table = list_all (list_all (is_sound_cell rows)) table

abbrev pub are_sound_tables : List (List (List Cell)) → Bool
are_sound_tables tables = list_all (are_sound_rows (rows_asked tables)) tables

-- ---- signatures: no Outside, and a class has the token of a TypeDef, a TypeRef or a TypeSpec

abbrev pub is_writable_sig : MethodSig → Bool
is_writable_sig sig = nat_lt (length sig.params) (2 ^ 29) && (is_writable_type sig.ret && list_all is_writable_type sig.params)

abbrev pub is_writable_field : Field → Bool
is_writable_field f = nat_lt f.flags (2 ^ 16) && is_writable_type f.sig

abbrev pub are_writable_locals : List TypeSig → Bool
are_writable_locals locals = nat_lt (length locals) (2 ^ 29) && list_all is_writable_type locals

abbrev pub are_bytes : List ℕ → Bool
are_bytes bytes = list_all (λ b. nat_lt b 256) bytes

abbrev pub is_writable_method : Method → Bool
is_writable_method m =
    nat_lt m.flags (2 ^ 16) && (is_writable_sig m.sig
    && (nat_lt m.max_stack (2 ^ 16) && (are_writable_locals m.locals && are_bytes m.code)))

-- ---- the order of types: fields and methods come after the first, and each type's own begin where those of the one before end

abbrev pub are_rising : ℕ → List ℕ → ℕ → Bool
are_rising from [] last = nat_le from last
are_rising from (n ∷ ns) last = nat_le from n && are_rising n ns last

-- the first type's are the first of all
abbrev pub begins_at_first : List ℕ → ℕ → Bool
begins_at_first [] last = last == 0
begins_at_first (n ∷ ns) last = n == 0

-- the number of the first is one more than those before it, and fits its column: two bytes where there are fewer than 2^16 of them
-- (II.24.2.6)
abbrev pub has_number : ℕ → ℕ → Bool
has_number last n = nat_le (2 ^ 16) last || nat_lt (n + 1) (2 ^ 16)

abbrev pub are_owned : List ℕ → ℕ → Bool
are_owned starts last = begins_at_first starts last && (are_rising 0 starts last && list_all (has_number last) starts)

-- ---- room: fewer than 2^24 rows in each table, and each heap, and all codes together, below 2^24 bytes

abbrev pub are_few : List (List (List Cell)) → Bool
are_few tables = list_all (λ n. nat_lt n (2 ^ 24)) (rows_asked tables)

abbrev pub code_size : List Method → ℕ
code_size methods = sum_by (λ m. length m.code) methods

abbrev pub are_small_heaps : Heaps → Bool
are_small_heaps heaps = nat_lt (length heaps.strings) (2 ^ 24) && nat_lt (length heaps.blobs) (2 ^ 24)

abbrev pub is_small : Asked → Bool
is_small asked =
    are_small_heaps (all_after no_heaps (tables_of asked))
    && (nat_lt (length (user_heap asked.user_strings)) (2 ^ 24) && nat_lt (code_size asked.methods) (2 ^ 24))

-- Each token that was handed in names a row that is there, in a table that its column takes; names are texts without a zero; each
-- signature can be written; fields and methods belong to types, by numbers that fit their columns; and there is room.
pub record IsSound (asked : Asked) : Type 0 where
  pub name : IsTrue (is_name asked.name)
  pub cells : IsTrue (are_sound_tables (tables_of asked))
  pub fields : IsTrue (list_all is_writable_field asked.fields)
  pub methods : IsTrue (list_all is_writable_method asked.methods)
  pub field_lists : IsTrue (are_owned (map (λ (t : TypeDef). t.fields_before) asked.type_defs) (length asked.fields))
  pub method_lists : IsTrue (are_owned (map (λ (t : TypeDef). t.methods_before) asked.type_defs) (length asked.methods))
  pub few : IsTrue (are_few (tables_of asked))
  pub small : IsTrue (is_small asked)

-- the entry token is that of a MethodDef row, or 0 for none
abbrev pub IsEntry : Asked → ℕ → Type 0
IsEntry asked entry =
    IsTrue (entry == 0) ⊎ (IsTrue (entry / 2 ^ 24 == table_number tables.MethodDef) × IsTrue (is_row (rows_asked (tables_of asked)) entry))
