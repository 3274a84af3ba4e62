-- The header of the tables' stream, read back.
use Rattle.std.proofs.Common.{◌≡◌, ◌≤◌, ◌<◌, ◌+◌, ◌*◌, ◌%◌, ◌^◌, ℕ, zero, suc, Bool, true, false, cond, List, []}
use Rattle.std.proofs.Common.{◌++◌, length, map, take, get_or, Option, Some, None, refl, sym, ap, ◌∙◌, arith}
use Rattle.std.proofs.Common.{length-append}
use Rattle.std.specs.Prelude.{if◌then◌else◌, not, ◌&&◌, ◌||◌, find, filter, nat_lt, nat_le, unwrap_or}
use Rattle.std.specs.List.{list_all, range_with_len}
use Rattle.std.specs.Option.{option_map}
use Rattle.std.proofs.lemmas.Bool.{lt-ltb}
use Rattle.std.proofs.lemmas.List.{ext_get_or, get_or-map, length-map, take_all}
use Rattle.std.proofs.lemmas.List.FromFn.{get_or-map-range_with_len, length-map-range_with_len}
use Rattle.byteorder.specs.Endian.{little_bytes}
use Rattle.rtr_bytes.specs.Field.{u32_of}
use Rattle.metadata.specs.Checks.{all_known, first_large, is_known, is_large, table_is_known}
use Rattle.metadata.specs.Tables.{count_at, has_table, heap_sizes_of, row_count, row_counts, rows_place, tables_below, valid_of}
use Rattle.asm_builder.specs.declared.content.Content.{Content}
use Rattle.asm_builder.specs.File.{counts_bytes, heap_size_bit, heap_sizes, is_there, tables_header, valid_bits}
use Rattle.asm_builder.proofs.TablesStand.{Stands, byte_stands, number_stands, stands_behind, stands_front}
use Rattle.asm_builder.proofs.TablesBack.{IsSpelled}
use Rattle.asm_builder.proofs.MetadataCounts.{below_is, count_stands, has_bit, length-counts, none_of, some_of, valid_small}

-- ---- HeapSizes

bit_of : (bit : ℕ) (heap : List ℕ) → heap_size_bit bit heap ≤ bit
bit_of bit heap = by (nat_le (2 ^ 16) (length heap))
  where
    by : (b : Bool) → cond b bit 0 ≤ bit
    by true = omega arith
    by false = omega arith

pub sizes_small : (content : Content) → heap_sizes content < 8
sizes_small content = omega (arith, bit_of 1 content.strings, bit_of 2 content.guids, bit_of 4 content.blobs)

pub heap_sizes_read : (bytes : List ℕ) (content : Content) (at : ℕ) → Stands bytes at (tables_header content)
    → heap_sizes_of bytes at ≡ heap_sizes content
heap_sizes_read bytes content at s =
    let small = sizes_small content in
    let low : heap_sizes content % 256 ≡ heap_sizes content = omega (arith, small) in
    byte_stands bytes at 6 (tables_header content) (heap_sizes content) s (λ rest. low)

-- ---- Valid

abbrev front_bytes : Content → List ℕ
front_bytes content = little_bytes 4 0 ++ (little_bytes 2 2 ++ (little_bytes 1 (heap_sizes content) ++ little_bytes 1 1))

valid_stands : (bytes : List ℕ) (content : Content) (at : ℕ) → Stands bytes at (tables_header content)
    → Stands bytes (at + 8) (little_bytes 8 (valid_bits content.tables) ++ (little_bytes 8 0 ++ counts_bytes content.tables))
valid_stands bytes content at s =
    stands_behind bytes at (at + 8) (front_bytes content)
    (little_bytes 8 (valid_bits content.tables) ++ (little_bytes 8 0 ++ counts_bytes content.tables)) refl s

pub valid_read : (bytes : List ℕ) (content : Content) (at : ℕ) → length content.tables ≡ 64 → Stands bytes at (tables_header content)
    → valid_of bytes at ≡ valid_bits content.tables
valid_read bytes content at count s =
    let small = valid_small content.tables in
    let limit : 2 ^ length content.tables ≡ 2 ^ 64 = ap (λ (n : ℕ). 2 ^ n) count in
    let fits : valid_bits content.tables < 256 ^ 8 = omega (arith, small, limit) in
    ap (λ (t : Option ℕ). unwrap_or t 0)
    (number_stands 8 (valid_bits content.tables) bytes (at + 8) fits
    (stands_front bytes (at + 8) (little_bytes 8 (valid_bits content.tables)) (little_bytes 8 0 ++ counts_bytes content.tables)
    (valid_stands bytes content at s)))

counts_stand : (bytes : List ℕ) (content : Content) (at : ℕ) → Stands bytes at (tables_header content)
    → Stands bytes (at + 24) (counts_bytes content.tables)
counts_stand bytes content at s =
    stands_behind bytes at (at + 24) (front_bytes content ++ (little_bytes 8 (valid_bits content.tables) ++ little_bytes 8 0))
    (counts_bytes content.tables) refl s

-- ---- counts

abbrev tables_before : Content → ℕ → ℕ
tables_before content t = length (filter is_there (take t content.tables))

pub count_place : (bytes : List ℕ) (content : Content) (at t : ℕ) → length content.tables ≡ 64 → t ≤ 64
    → Stands bytes at (tables_header content)
    → count_at bytes at t ≡ at + 24 + 4 * tables_before content t
count_place bytes content at t count below s =
    let number : tables_below (valid_of bytes at) t ≡ tables_before content t =
    ap (λ (v : ℕ). tables_below v t) (valid_read bytes content at count s) ∙ below_is content.tables t (omega (arith, count, below)) in
    omega (arith, number)

counted : (there : Bool) (n rows : ℕ) → (there ≡ true → n ≡ rows) → (there ≡ false → rows ≡ 0) → cond there n 0 ≡ rows
counted true n rows f g = f refl
counted false n rows f g = sym (g refl)

pub count_read : (bytes : List ℕ) (content : Content) (at t : ℕ) → IsSpelled content → t < 64 → Stands bytes at (tables_header content)
    → row_count bytes at t ≡ length (get_or content.tables t [])
unfolding row_count
count_read bytes content at t is below s =
    let count = is.count in
    let rows = get_or content.tables t [] in
    let few : length rows < 2 ^ 24 = is.few t [] (omega (arith, count, below)) in
    let there : has_table (valid_of bytes at) t ≡ is_there rows =
    ap (λ (v : ℕ). has_table v t) (valid_read bytes content at count s) ∙ has_bit content.tables t in
    let place = count_place bytes content at t count (omega (arith, below)) s in
    let read : is_there rows ≡ true → u32_of bytes (count_at bytes at t) ≡ length rows = λ there_is.
    ap (λ (p : ℕ). u32_of bytes p) place ∙ ap (λ (o : Option ℕ). unwrap_or o 0)
    (number_stands 4 (length rows) bytes (at + 24 + 4 * tables_before content t) (omega (arith, few))
    (count_stands bytes (at + 24) content.tables (counts_stand bytes content at s) t (omega (arith, count, below)) there_is)) in
    ap (λ (b : Bool). if b then u32_of bytes (count_at bytes at t) else 0) there
    ∙ counted (is_there rows) (u32_of bytes (count_at bytes at t)) (length rows) read (none_of rows)

pub counts_read : (bytes : List ℕ) (content : Content) (at : ℕ) → IsSpelled content → Stands bytes at (tables_header content)
    → row_counts bytes at ≡ map length content.tables
unfolding row_counts
counts_read bytes content at is s =
    let count = is.count in
    let read = map (row_count bytes at) (range_with_len 0 64) in
    let size : length read ≡ 64 = length-map-range_with_len (row_count bytes at) 0 64 in
    let other : length (map (λ (r : List (List ℕ)). length r) content.tables) ≡ length content.tables =
    length-map content.tables (λ (r : List (List ℕ)). length r) in
    ext_get_or 0 read (map (λ (r : List (List ℕ)). length r) content.tables) (omega (arith, size, other, count)) (λ i below.
    let less : i < 64 = omega (arith, below, size) in
    get_or-map-range_with_len (row_count bytes at) 0 64 i i 0 less (omega arith)
    ∙ count_read bytes content at i is less s
    ∙ sym (get_or-map (λ (r : List (List ℕ)). length r) content.tables i [] 0 (omega (arith, less, count))))

pub length-tables_header : (content : Content) → length (tables_header content) ≡ 24 + 4 * length (filter is_there content.tables)
length-tables_header content =
    let front = front_bytes content ++ (little_bytes 8 (valid_bits content.tables) ++ little_bytes 8 0) in
    let split : length (tables_header content) ≡ length front + length (counts_bytes content.tables) =
    length-append front (counts_bytes content.tables) in
    let size : length front ≡ 24 = refl in
    omega (arith, split, size, length-counts content.tables)

pub rows_place_read : (bytes : List ℕ) (content : Content) (at : ℕ) → length content.tables ≡ 64 → Stands bytes at (tables_header content)
    → rows_place bytes at ≡ at + length (tables_header content)
rows_place_read bytes content at count s =
    let place = count_place bytes content at 64 count (omega arith) s in
    let all : tables_before content 64 ≡ length (filter is_there content.tables) =
    ap (λ (ts : List (List (List ℕ))). length (filter is_there ts)) (take_all 64 content.tables (omega (arith, count))) in
    omega (arith, place, all, length-tables_header content)

-- ---- what the checks ask of each table

all_in : (test : ℕ → Bool) (from n : ℕ) → ((i : ℕ) → i < n → test (from + i) ≡ true) → list_all test (range_with_len from n) ≡ true
all_in test from zero each = refl
all_in test from (suc n) each =
    let here : test from ≡ true = ap test (let e : from ≡ from + 0 = omega arith in e) ∙ each 0 (omega arith) in
    let later =
    all_in test (from + 1) n (λ i below. ap test (let e : from + 1 + i ≡ from + suc i = omega arith in e) ∙ each (suc i) (omega arith)) in
    ap (λ (b : Bool). b && list_all test (range_with_len (from + 1) n)) here ∙ later

none_in : (test : ℕ → Bool) (from n : ℕ) → ((i : ℕ) → i < n → test (from + i) ≡ false) → find test (range_with_len from n) ≡ None
none_in test from zero each = refl
none_in test from (suc n) each =
    let here : test from ≡ false = ap test (let e : from ≡ from + 0 = omega arith in e) ∙ each 0 (omega arith) in
    let later =
    none_in test (from + 1) n (λ i below. ap test (let e : from + 1 + i ≡ from + suc i = omega arith in e) ∙ each (suc i) (omega arith)) in
    ap (λ (b : Bool). cond b (Some from) (find test (range_with_len (from + 1) n))) here ∙ later

known_if : (there known : Bool) → (there ≡ true → known ≡ true) → (not there || known) ≡ true
known_if true known f = f refl
known_if false known f = refl

pub known_read : (bytes : List ℕ) (content : Content) (at : ℕ) → IsSpelled content → Stands bytes at (tables_header content)
    → all_known (valid_of bytes at) ≡ true
unfolding all_known
known_read bytes content at is s =
    all_in (table_is_known (valid_of bytes at)) 0 64 (λ i below.
    let same : 0 + i ≡ i = omega arith in
    let there : has_table (valid_of bytes at) i ≡ is_there (get_or content.tables i []) =
    ap (λ (v : ℕ). has_table v i) (valid_read bytes content at is.count s) ∙ has_bit content.tables i in
    let known : table_is_known (valid_of bytes at) i ≡ true = known_if (has_table (valid_of bytes at) i) (is_known i)
    (λ there_is. is.known i (some_of (get_or content.tables i []) (sym there ∙ there_is))) in
    ap (table_is_known (valid_of bytes at)) same ∙ known)

pub none_large : (bytes : List ℕ) (content : Content) (at : ℕ) → IsSpelled content → Stands bytes at (tables_header content)
    → first_large bytes at ≡ None
unfolding first_large
none_large bytes content at is s =
    ap (λ (o : Option ℕ). option_map (count_at bytes at) o)
    (none_in (is_large bytes at) 0 64 (λ i below.
    let same : 0 + i ≡ i = omega arith in
    let count = is.count in
    let read = count_read bytes content at i is below s in
    let few : length (get_or content.tables i []) < 2 ^ 24 = is.few i [] (omega (arith, count, below)) in
    let small : nat_lt (row_count bytes at i) (2 ^ 24) ≡ true = lt-ltb (row_count bytes at i) (2 ^ 24) (omega (arith, read, few)) in
    let fits : is_large bytes at i ≡ false = ap not small in
    ap (is_large bytes at) same ∙ fits))
