-- One answer for each row, found by the row.
use Rattle.std.proofs.Common.{◌≡◌, ℕ, zero, suc, ◌<◌, ◌≤◌, ◌&&◌, ⊎_elim, true, false, cond, List, map, get_or, Some}
use Rattle.std.proofs.Common.{None, Option, IfSome, sym, ap, subst, ◌∙◌, refl, arith}
use Rattle.std.specs.Prelude.{nat_le, nat_lt}
use Rattle.std.specs.Option.{option_and_then, option_map}
use Rattle.std.specs.List.{range_with_len}
use Rattle.std.proofs.lemmas.Bool.{cases_lt, lt-leb, lt-ltb}
use Rattle.std.proofs.lemmas.List.{get_or_past}
use Rattle.std.proofs.lemmas.Option.{slice_get-get_or, slice_get_past}
use Rattle.std.proofs.lemmas.List.FromFn.{get_or-map-range_with_len, length-map-range_with_len}
use Rattle.metadata.specs.declared.schema.Table.{Table}
use Rattle.metadata.specs.declared.schema.Table.TheVariants as tables
use Rattle.metadata.specs.Schema.{table_number}
use Rattle.metadata.specs.Tables.{Layout, rows_of}
use Rattle.cli_assembly.specs.Assemblies.{Assembly, assembly_by, assembly_of, blob_at, bodies_in, body_in, body_of}
use Rattle.cli_assembly.specs.Assemblies.{column, field_signature, has_row, local_signature, member_field_signature}
use Rattle.cli_assembly.specs.Assemblies.{member_method_signature, method_signature, placed_in, row_count, signature_at}
use Rattle.cli_assembly.specs.Bodies.{with_code}
use Rattle.cli_assembly.proofs.Records.{rows_are}
use Rattle.cli_assembly.specs.Kept.{answer_of, by_row, file_layout, nth_row}

found : {X : Type 0} (f : ℕ → X) (n i : ℕ) → i < n → nth_row (map f (range_with_len 1 n)) (suc i) ≡ Some (f (suc i))
unfolding nth_row
found f n i lt =
    slice_get-get_or (map f (range_with_len 1 n)) i (f (suc i)) (omega (arith, lt, length-map-range_with_len f 1 n))
    ∙ ap Some (get_or-map-range_with_len f 1 n i (suc i) (f (suc i)) lt (omega arith))

none_after : {X : Type 0} (f : ℕ → X) (n i : ℕ) → n ≤ i → nth_row (map f (range_with_len 1 n)) (suc i) ≡ None
unfolding nth_row
none_after f n i past = slice_get_past (map f (range_with_len 1 n)) i (omega (arith, past, length-map-range_with_len f 1 n))

-- an answer that may be none, where it is none for no row and after the last
abbrev flat : {X : Type 0} → Option (Option X) → Option X
flat answer = option_and_then (λ x. x) answer

pub by_row_is : {X : Type 0} (f : ℕ → Option X) (n row : ℕ) → f zero ≡ None → ((i : ℕ) → n ≤ i → f (suc i) ≡ None)
    → answer_of (map f (range_with_len 1 n)) row ≡ f row
unfolding nth_row
by_row_is f n zero first past = sym first
by_row_is f n (suc i) first past =
    ⊎_elim (λ lt. ap flat (found f n i lt)) (λ after. ap flat (none_after f n i after) ∙ sym (past i after)) (cases_lt i n)

-- what each answer has, that of a row has
pub answers_have : {X : Type 0} (P : X → Type 0) (f : ℕ → Option X) (n row : ℕ) → ((i : ℕ) → IfSome (f i) P)
    → IfSome (answer_of (map f (range_with_len 1 n)) row) P
unfolding nth_row
answers_have P f n zero has = tt
answers_have P f n (suc i) has =
    ⊎_elim (λ lt. subst (λ o. IfSome (flat o) P) (sym (found f n i lt)) (has (suc i)))
    (λ after. subst (λ o. IfSome (flat o) P) (sym (none_after f n i after)) tt) (cases_lt i n)

-- a signature is none for such rows
pub no_row_before : {X : Type 0} (read : List ℕ → Option X) (assembly : Assembly) (table : Table) (n : ℕ)
    → signature_at read assembly table zero n ≡ None
no_row_before read assembly table n = refl

pub no_row_after : {X : Type 0} (read : List ℕ → Option X) (assembly : Assembly) (table : Table) (i n : ℕ) → row_count assembly table ≤ i
    → signature_at read assembly table (suc i) n ≡ None
no_row_after read assembly table i n past =
    let one : nat_lt 0 (suc i) ≡ true = lt-ltb 0 (suc i) (omega arith) in
    let none : nat_le (suc i) (row_count assembly table) ≡ false = lt-leb (suc i) (row_count assembly table) (omega (arith, past)) in
    let out : has_row assembly table (suc i) ≡ false = ap (λ b. b && nat_le (suc i) (row_count assembly table)) one ∙ none in
    ap (λ b. cond b (option_and_then read (blob_at assembly (column assembly table (suc i) n))) None) out

pub rows_of_file : (bytes : List ℕ) (table : Table) → table_number table < 64
    → row_count (assembly_of bytes) table ≡ rows_of (file_layout bytes) (table_number table)
unfolding assembly_of
rows_of_file bytes table few = rows_are bytes (file_layout bytes) table few

-- the signatures of methods and of fields are kept by their rows
pub method_kept : (bytes : List ℕ) (row : ℕ)
    → answer_of (by_row (file_layout bytes) tables.MethodDef (method_signature (assembly_of bytes))) row
    ≡ method_signature (assembly_of bytes) row
unfolding method_signature
method_kept bytes row =
    let same : row_count (assembly_of bytes) tables.MethodDef ≡ rows_of (file_layout bytes) 6 =
    rows_of_file bytes tables.MethodDef (omega arith) in
    by_row_is (method_signature (assembly_of bytes)) _ row refl
    (λ i past. no_row_after _ (assembly_of bytes) tables.MethodDef i 4 (omega (arith, same, past)))

pub field_kept : (bytes : List ℕ) (row : ℕ)
    → answer_of (by_row (file_layout bytes) tables.Field (field_signature (assembly_of bytes))) row
    ≡ field_signature (assembly_of bytes) row
unfolding field_signature
field_kept bytes row =
    let same : row_count (assembly_of bytes) tables.Field ≡ rows_of (file_layout bytes) 4 =
    rows_of_file bytes tables.Field (omega arith) in
    by_row_is (field_signature (assembly_of bytes)) _ row refl
    (λ i past. no_row_after _ (assembly_of bytes) tables.Field i 2 (omega (arith, same, past)))

-- and those of locals and members
pub local_kept : (bytes : List ℕ) (row : ℕ)
    → answer_of (by_row (file_layout bytes) tables.StandAloneSig (local_signature (assembly_of bytes))) row
    ≡ local_signature (assembly_of bytes) row
unfolding local_signature
local_kept bytes row =
    let same : row_count (assembly_of bytes) tables.StandAloneSig ≡ rows_of (file_layout bytes) 0x11 =
    rows_of_file bytes tables.StandAloneSig (omega arith) in
    by_row_is (local_signature (assembly_of bytes)) _ row refl
    (λ i past. no_row_after _ (assembly_of bytes) tables.StandAloneSig i 0 (omega (arith, same, past)))

pub member_method_kept : (bytes : List ℕ) (row : ℕ)
    → answer_of (by_row (file_layout bytes) tables.MemberRef (member_method_signature (assembly_of bytes))) row
    ≡ member_method_signature (assembly_of bytes) row
unfolding member_method_signature
member_method_kept bytes row =
    let same : row_count (assembly_of bytes) tables.MemberRef ≡ rows_of (file_layout bytes) 0x0A =
    rows_of_file bytes tables.MemberRef (omega arith) in
    by_row_is (member_method_signature (assembly_of bytes)) _ row refl
    (λ i past. no_row_after _ (assembly_of bytes) tables.MemberRef i 2 (omega (arith, same, past)))

pub member_field_kept : (bytes : List ℕ) (row : ℕ)
    → answer_of (by_row (file_layout bytes) tables.MemberRef (member_field_signature (assembly_of bytes))) row
    ≡ member_field_signature (assembly_of bytes) row
unfolding member_field_signature
member_field_kept bytes row =
    let same : row_count (assembly_of bytes) tables.MemberRef ≡ rows_of (file_layout bytes) 0x0A =
    rows_of_file bytes tables.MemberRef (omega arith) in
    by_row_is (member_field_signature (assembly_of bytes)) _ row refl
    (λ i past. no_row_after _ (assembly_of bytes) tables.MemberRef i 2 (omega (arith, same, past)))

-- and so are the bodies, each by its place
body_there : (bytes : List ℕ) (layout : Layout) (n i : ℕ) → i < n
    → option_map (with_code bytes) (answer_of (map (placed_in bytes layout) (range_with_len 1 n)) (suc i))
    ≡ get_or (map (body_in bytes layout) (range_with_len 1 n)) i None
body_there bytes layout n i lt =
    ap (λ answer. option_map (with_code bytes) (flat answer)) (found (placed_in bytes layout) n i lt)
    ∙ sym (get_or-map-range_with_len (body_in bytes layout) 1 n i (suc i) None lt (omega arith))

no_body : (bytes : List ℕ) (layout : Layout) (n i : ℕ) → n ≤ i
    → option_map (with_code bytes) (answer_of (map (placed_in bytes layout) (range_with_len 1 n)) (suc i))
    ≡ get_or (map (body_in bytes layout) (range_with_len 1 n)) i None
no_body bytes layout n i past =
    ap (λ answer. option_map (with_code bytes) (flat answer)) (none_after (placed_in bytes layout) n i past)
    ∙ sym (get_or_past (map (body_in bytes layout) (range_with_len 1 n)) i None
    (omega (arith, past, length-map-range_with_len (body_in bytes layout) 1 n)))

pub body_kept : (bytes : List ℕ) (row : ℕ)
    → option_map (with_code bytes)
    (answer_of (by_row (file_layout bytes) tables.MethodDef (placed_in bytes (file_layout bytes))) row)
    ≡ body_of (assembly_of bytes) row
unfolding nth_row body_of assembly_of assembly_by bodies_in
body_kept bytes zero = refl
body_kept bytes (suc i) =
    let layout = file_layout bytes in
    ⊎_elim (body_there bytes layout _ i) (no_body bytes layout _ i) (cases_lt i (rows_of layout 6))
