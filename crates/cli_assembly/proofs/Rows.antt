-- What the readers of rows find, by the record.
use Rattle.std.proofs.Common.{◌≡◌, Bor, ℕ, zero, suc, ◌+◌, ◌<◌, ◌≤◌, ◌&&◌, ◌==◌, IfSome, ⊎_elim, Bool, true, false}
use Rattle.std.proofs.Common.{cond, List, [], ◌∷◌, length, map, take, drop, Option, Some, None, refl, sym, ap, ◌∙◌}
use Rattle.std.proofs.Common.{arith, length-take, length-drop}
use Rattle.std.specs.Prelude.{nat_le, nat_lt, option_copied, unwrap_or}
use Rattle.std.specs.Option.{option_and_then}
use Rattle.std.proofs.lemmas.Bool.{cases_lt, le-leb, lt-leb, lt-ltb}
use Rattle.rtr_bytes.specs.Compressed.{compressed_in}
use Rattle.metadata.specs.declared.schema.Table.{Table}
use Rattle.metadata.specs.declared.schema.Table.TheVariants as tables
use Rattle.metadata.specs.Heaps.{blob_in, blob_of, counted, heap_bytes}
use Rattle.metadata.specs.Schema.{columns_of, table_number}
use Rattle.metadata.specs.Tables.{Layout, column_at, column_of, column_place, number_of, rows_of}
use Rattle.cli_assembly.specs.declared.header.BodyAt.{BodyAt}
use Rattle.cli_assembly.specs.Assemblies.{assembly_by, assembly_of, blob_at, column, field_signature, has_row}
use Rattle.cli_assembly.specs.Assemblies.{local_signature, member_field_signature, member_method_signature}
use Rattle.cli_assembly.specs.Assemblies.{method_signature, placed_in, row_count, signature_at}
use Rattle.cli_assembly.specs.Bodies.{body_at, has_cil, placed_body}
use Rattle.cli_assembly.specs.Checks.{has_cil_body, malformed_header, method_rva, place_if_malformed}
use Rattle.cli_assembly.specs.Checks.{place_if_unplaced, unplaced_body}
use Rattle.cli_assembly.specs.Kept.{by_row, file_layout, row_header, sig_read}
use Rattle.cli_assembly.specs.Signatures.{field_sig_of, local_sig_of, method_sig_of}
use Rattle.cli_assembly.proofs.ByRow.{no_row_after}
use Rattle.cli_assembly.proofs.Coded.{few}
use Rattle.cli_assembly.proofs.Records.{blobs_are, column_is, rows_are}

-- ---- a column of a row that is there, and of one that isn't

has : (bytes : List ℕ) (layout : Layout) (t row c : ℕ) → 1 ≤ row → row ≤ rows_of layout t → c < length (columns_of t)
    → (nat_le 1 row && (nat_le row (rows_of layout t) && nat_lt c (length (columns_of t)))) ≡ true
has bytes layout t row c first last below =
    let a : nat_le 1 row ≡ true = le-leb _ _ first in
    let b : nat_le row (rows_of layout t) ≡ true = le-leb _ _ last in
    let d : nat_lt c (length (columns_of t)) ≡ true = lt-ltb _ _ below in
    ap (λ x. x && (nat_le row (rows_of layout t) && nat_lt c (length (columns_of t)))) a
    ∙ ap (λ x. x && nat_lt c (length (columns_of t))) b ∙ d

pub there : (bytes : List ℕ) (layout : Layout) (t row c : ℕ) → 1 ≤ row → row ≤ rows_of layout t → c < length (columns_of t)
    → column_of bytes layout t row c ≡ Some (number_of bytes layout t row c)
unfolding column_of
there bytes layout t row c first last below =
    ap (λ b. cond b (Some (number_of bytes layout t row c)) None) (has bytes layout t row c first last below)

pub placed_there : (layout : Layout) (t row c : ℕ) → 1 ≤ row → row ≤ rows_of layout t → c < length (columns_of t)
    → column_place layout t row c ≡ Some (column_at layout t row c)
unfolding column_place
placed_there layout t row c first last below =
    ap (λ b. cond b (Some (column_at layout t row c)) None) (has [] layout t row c first last below)

past : (bytes : List ℕ) (layout : Layout) (t row c : ℕ) → rows_of layout t ≤ row → column_of bytes layout t (suc row) c ≡ None
unfolding column_of
past bytes layout t row c after =
    let one : nat_le 1 (suc row) ≡ true = le-leb 1 (suc row) (omega arith) in
    let none : nat_le (suc row) (rows_of layout t) ≡ false = lt-leb (suc row) (rows_of layout t) (omega (arith, after)) in
    ap (λ b. cond (b && (nat_le (suc row) (rows_of layout t) && nat_lt c (length (columns_of t))))
    (Some (number_of bytes layout t (suc row) c)) None) one
    ∙ ap (λ b. cond (b && nat_lt c (length (columns_of t))) (Some (number_of bytes layout t (suc row) c)) None) none

none_first : (bytes : List ℕ) (layout : Layout) (t c : ℕ) → column_of bytes layout t zero c ≡ None
unfolding column_of
none_first bytes layout t c = refl

-- ---- signatures

sig_there : {X : Type 0} (read : List ℕ → Option X) (bytes : List ℕ) (layout : Layout) (table : Table) (row c : ℕ)
    → c < length (columns_of (table_number table))
    → row < rows_of layout (table_number table)
    → sig_read read bytes layout (table_number table) c (suc row) ≡ signature_at read (assembly_by bytes layout) table (suc row) c
sig_there read bytes layout table row c below inside =
    let t = table_number table in
    let asm = assembly_by bytes layout in
    let rows : row_count asm table ≡ rows_of layout t = rows_are bytes layout table (few table) in
    let one : nat_lt 0 (suc row) ≡ true = lt-ltb 0 (suc row) (omega arith) in
    let all : nat_le (suc row) (row_count asm table) ≡ true = le-leb (suc row) (row_count asm table) (omega (arith, rows, inside)) in
    let in_table : has_row asm table (suc row) ≡ true = ap (λ b. b && nat_le (suc row) (row_count asm table)) one ∙ all in
    let same : suc row ≡ row + 1 = omega arith in
    ap (λ o. option_and_then read (option_and_then (blob_of bytes layout) o))
    (there bytes layout t (suc row) c (omega arith) (omega (arith, inside)) below)
    ∙ ap (λ r. option_and_then read (blob_of bytes layout (number_of bytes layout t r c))) same
    ∙ ap (λ n. option_and_then read (blob_of bytes layout n)) (sym (column_is bytes layout table row c (few table) inside below))
    ∙ ap (option_and_then read) (sym (blobs_are bytes layout (column asm table (suc row) c)))
    ∙ ap (λ b. cond b (option_and_then read (blob_at asm (column asm table (suc row) c))) None) (sym in_table)

sig_past : {X : Type 0} (read : List ℕ → Option X) (bytes : List ℕ) (layout : Layout) (table : Table) (row c : ℕ)
    → rows_of layout (table_number table) ≤ row
    → sig_read read bytes layout (table_number table) c (suc row) ≡ signature_at read (assembly_by bytes layout) table (suc row) c
sig_past read bytes layout table row c after =
    let rows : row_count (assembly_by bytes layout) table ≡ rows_of layout (table_number table) = rows_are bytes layout table (few table) in
    ap (λ o. option_and_then read (option_and_then (blob_of bytes layout) o)) (past bytes layout (table_number table) row c after)
    ∙ sym (no_row_after read (assembly_by bytes layout) table row c (omega (arith, rows, after)))

pub sig_is : {X : Type 0} (read : List ℕ → Option X) (bytes : List ℕ) (layout : Layout) (table : Table) (c row : ℕ)
    → c < length (columns_of (table_number table))
    → sig_read read bytes layout (table_number table) c row ≡ signature_at read (assembly_by bytes layout) table row c
sig_is read bytes layout table c zero below =
    ap (λ o. option_and_then read (option_and_then (blob_of bytes layout) o)) (none_first bytes layout (table_number table) c)
sig_is read bytes layout table c (suc row) below =
    ⊎_elim (sig_there read bytes layout table row c below) (sig_past read bytes layout table row c)
    (cases_lt row (rows_of layout (table_number table)))

same_map : {X : Type 0} (f g : ℕ → X) (xs : List ℕ) → ((x : ℕ) → f x ≡ g x) → map f xs ≡ map g xs
same_map f g [] e = refl
same_map f g (x ∷ xs) e = ap (λ y. y ∷ map f xs) (e x) ∙ ap (λ ys. g x ∷ ys) (same_map f g xs e)

pub methods_are : (bytes : List ℕ)
    → by_row (file_layout bytes) tables.MethodDef (sig_read method_sig_of bytes (file_layout bytes) 6 4)
    ≡ by_row (file_layout bytes) tables.MethodDef (method_signature (assembly_of bytes))
unfolding assembly_of method_signature columns_of
methods_are bytes =
    let layout = file_layout bytes in
    same_map _ _ _ (λ row. sig_is method_sig_of bytes layout tables.MethodDef 4 row (omega arith))

pub fields_are : (bytes : List ℕ)
    → by_row (file_layout bytes) tables.Field (sig_read field_sig_of bytes (file_layout bytes) 4 2)
    ≡ by_row (file_layout bytes) tables.Field (field_signature (assembly_of bytes))
unfolding assembly_of field_signature columns_of
fields_are bytes =
    let layout = file_layout bytes in
    same_map _ _ _ (λ row. sig_is field_sig_of bytes layout tables.Field 2 row (omega arith))

pub locals_are : (bytes : List ℕ)
    → by_row (file_layout bytes) tables.StandAloneSig (sig_read local_sig_of bytes (file_layout bytes) 0x11 0)
    ≡ by_row (file_layout bytes) tables.StandAloneSig (local_signature (assembly_of bytes))
unfolding assembly_of local_signature columns_of
locals_are bytes =
    let layout = file_layout bytes in
    same_map _ _ _ (λ row. sig_is local_sig_of bytes layout tables.StandAloneSig 0 row (omega arith))

pub member_methods_are : (bytes : List ℕ)
    → by_row (file_layout bytes) tables.MemberRef (sig_read method_sig_of bytes (file_layout bytes) 0x0A 2)
    ≡ by_row (file_layout bytes) tables.MemberRef (member_method_signature (assembly_of bytes))
unfolding assembly_of member_method_signature columns_of
member_methods_are bytes =
    let layout = file_layout bytes in
    same_map _ _ _ (λ row. sig_is method_sig_of bytes layout tables.MemberRef 2 row (omega arith))

pub member_fields_are : (bytes : List ℕ)
    → by_row (file_layout bytes) tables.MemberRef (sig_read field_sig_of bytes (file_layout bytes) 0x0A 2)
    ≡ by_row (file_layout bytes) tables.MemberRef (member_field_signature (assembly_of bytes))
unfolding assembly_of member_field_signature columns_of
member_fields_are bytes =
    let layout = file_layout bytes in
    same_map _ _ _ (λ row. sig_is field_sig_of bytes layout tables.MemberRef 2 row (omega arith))

-- ---- bodies

-- the first two columns of MethodDef
pub method_number : (bytes : List ℕ) (layout : Layout) (row c : ℕ) → 1 ≤ row → row ≤ rows_of layout 6 → c < 2
    → unwrap_or (column_of bytes layout 6 row c) 0 ≡ number_of bytes layout 6 row c
unfolding columns_of
method_number bytes layout row c first last below = ap (λ o. unwrap_or o 0) (there bytes layout 6 row c first last (omega (arith, below)))

pub rva_place : (layout : Layout) (row : ℕ) → 1 ≤ row → row ≤ rows_of layout 6
    → unwrap_or (column_place layout 6 row 0) 0 ≡ column_at layout 6 row 0
unfolding columns_of
rva_place layout row first last = ap (λ o. unwrap_or o 0) (placed_there layout 6 row 0 first last (omega arith))

by_header : {X : Type 0} (f : BodyAt → Option X) (b : Bool) (header : BodyAt)
    → option_and_then f (cond b (Some header) None) ≡ cond b (f header) None
by_header f true header = refl
by_header f false header = refl

pub unplaced_is : (bytes : List ℕ) (layout : Layout) (row : ℕ)
    → option_and_then (place_if_unplaced (column_at layout 6 row 0)) (row_header bytes layout row) ≡ unplaced_body bytes layout row
unfolding row_header unplaced_body
unplaced_is bytes layout row =
    by_header (place_if_unplaced (column_at layout 6 row 0)) (has_cil_body bytes layout row) (body_at bytes (method_rva bytes layout row))

pub malformed_is : (bytes : List ℕ) (layout : Layout) (row : ℕ)
    → option_and_then place_if_malformed (row_header bytes layout row) ≡ malformed_header bytes layout row
unfolding row_header malformed_header
malformed_is bytes layout row = by_header place_if_malformed (has_cil_body bytes layout row) (body_at bytes (method_rva bytes layout row))

pub placed_is : (bytes : List ℕ) (layout : Layout) (row : ℕ)
    → option_and_then placed_body (row_header bytes layout row) ≡ placed_in bytes layout row
unfolding row_header placed_in
placed_is bytes layout row = by_header placed_body (has_cil_body bytes layout row) (body_at bytes (method_rva bytes layout row))

pub row_unplaced : (bytes : List ℕ) (layout : Layout) (row table column : ℕ) (place : Option ℕ) (header : Option BodyAt)
    → 1 ≤ row → row ≤ rows_of layout 6
    → header ≡ row_header bytes layout row → table ≡ 6 → place ≡ column_place layout table row 0 → column ≡ unwrap_or place 0
    → option_and_then (place_if_unplaced column) header ≡ unplaced_body bytes layout row
row_unplaced bytes layout row table column place header first last is six found at =
    let here : column ≡ column_at layout 6 row 0 =
    at ∙ ap (λ o. unwrap_or o 0) (found ∙ ap (λ t. column_place layout t row 0) six) ∙ rva_place layout row first last in
    ap (λ k. option_and_then (place_if_unplaced k) header) here
    ∙ ap (option_and_then (place_if_unplaced (column_at layout 6 row 0))) is ∙ unplaced_is bytes layout row

pub header_is : (bytes : List ℕ) (layout : Layout) (row rva flags : ℕ) (b : Bool) → 1 ≤ row → row ≤ rows_of layout 6
    → rva ≡ unwrap_or (column_of bytes layout 6 row 0) 0 → flags ≡ unwrap_or (column_of bytes layout 6 row 1) 0 → has_cil rva flags ≡ b
    → cond b (Some (body_at bytes rva)) None ≡ row_header bytes layout row
unfolding row_header
header_is bytes layout row rva flags b first last is kind cil =
    let at : rva ≡ number_of bytes layout 6 row 0 = is ∙ method_number bytes layout row 0 first last (omega arith) in
    let type : flags ≡ number_of bytes layout 6 row 1 = kind ∙ method_number bytes layout row 1 first last (omega arith) in
    ap (λ c. cond c (Some (body_at bytes rva)) None)
    (sym cil ∙ ap (λ k. has_cil k flags) at ∙ ap (has_cil (number_of bytes layout 6 row 0)) type)
    ∙ ap (λ k. cond (has_cil_body bytes layout row) (Some (body_at bytes k)) None) at

-- ---- a blob has at most the bytes of the file

front_len : (b : Bool) (len : ℕ) (xs blob : List ℕ)
    → ◌≡◌ {A = Option (List ℕ)} (cond b (Some (take len xs)) None) (Some blob) → length blob ≤ length xs
front_len true len xs blob e = omega (arith, length-take len xs, ap (λ (o : Option (List ℕ)). length (unwrap_or o [])) e)
front_len false len xs blob e = absurd (let x : ⊥ = cc in x)

counted_len : (o : Option (ℕ × ℕ)) (xs blob : List ℕ) → option_and_then (counted xs) o ≡ Some blob → length blob ≤ length xs
counted_len None xs blob e = absurd (let x : ⊥ = cc in x)
counted_len (Some (len, size)) xs blob e =
    omega (arith, front_len (nat_le len (length (drop size xs))) len (drop size xs) blob e, length-drop size xs)

heap_len : (b : Bool) (xs blob : List ℕ) → ◌≡◌ {A = Option (List ℕ)} (cond b (Some []) (blob_in xs)) (Some blob) → length blob ≤ length xs
unfolding blob_in
heap_len true xs blob e = omega (arith, ap (λ (o : Option (List ℕ)). length (unwrap_or o [])) e)
heap_len false xs blob e = counted_len (compressed_in xs) xs blob e

blob_len : (bytes : List ℕ) (layout : Layout) (at : ℕ) (blob : List ℕ) → blob_of bytes layout at ≡ Some blob → length blob ≤ length bytes
unfolding blob_of
blob_len bytes layout at blob e =
    let heap = heap_bytes bytes layout.blobs in
    let found = heap_len (at == 0) (drop at heap) blob e in
    let rest = length-drop at heap in
    let taken = length-take layout.blobs.len (drop layout.blobs.start bytes) in
    let dropped = length-drop layout.blobs.start bytes in
    omega (arith, found, rest, taken, dropped)

pub blob_small : (bytes : List ℕ) (layout : Layout) (at end : ℕ) (found : Option (Bor (List ℕ))) → length bytes ≤ end
    → option_copied found ≡ blob_of bytes layout at
    → IfSome found (λ blob. length blob.now ≤ end)
blob_small bytes layout at end None small e = tt
blob_small bytes layout at end (Some blob) small e = omega (arith, small, blob_len bytes layout at blob.now (sym e))
