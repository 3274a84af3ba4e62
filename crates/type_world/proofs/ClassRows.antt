-- Rows of classes: what is owned, listed and flagged.
use Rattle.std.proofs.Common.{◌≡◌, ℕ, zero, suc, ◌+◌, ◌-◌, ◌<◌, ◌||◌, ◌==◌, ◌&&◌, nat_lt, nat_le, Bool, true, false, cond, List, [], ◌∷◌}
use Rattle.std.proofs.Common.{slice_get, Option, Some, None, refl, sym, ap, ◌∙◌, arith, if◌then◌else◌, option_and_then}
use Rattle.std.specs.List.{list_any, range_with_len}
use Rattle.std.specs.Option.{option_map_or}
use Rattle.std.proofs.lemmas.Bool.{le-ltb, lt-leb}
use Rattle.std.proofs.lemmas.Option.{get_or_from_slice_get, slice_get_within}
use Rattle.metadata.specs.declared.schema.CodedKind.TheVariants as kinds
use Rattle.metadata.specs.declared.schema.Table.{Table}
use Rattle.metadata.specs.declared.schema.Table.TheVariants as tables
use Rattle.metadata.specs.Heaps.{token}
use Rattle.metadata.specs.Schema.{table_number}
use Rattle.cli_assembly.specs.Assemblies.{assembly_of, blob_at, coded_token, column, field_signature, fields_of}
use Rattle.cli_assembly.specs.Assemblies.{list_start, local_signature}
use Rattle.cli_assembly.specs.Assemblies.{method_signature, methods_of, body_of, rows_between}
use Rattle.cli_assembly.specs.Signatures.{field_sig_of, local_sig_of, method_sig_of}
use Rattle.cli_assembly.specs.declared.signature.MethodSig.{MethodSig}
use Rattle.cli_assembly.specs.declared.signature.TypeSig.{TypeSig}
use Rattle.type_world.specs.Loading.{world_of}
use Rattle.type_world.specs.Profile.{is_owner}
use Rattle.type_world.specs.World.{assembly_in, column_in, no_assembly}
use Rattle.type_world.proofs.Names.{assembly_is}

pub there_is : (files : List (List ℕ)) (asm : ℕ) (file : List ℕ) → slice_get files asm ≡ Some file
    → assembly_in (world_of files) asm ≡ assembly_of file
there_is files asm file e =
    assembly_is files asm file (slice_get_within files asm file e) (sym (get_or_from_slice_get files asm file file e))

pub there_is_none : (files : List (List ℕ)) (asm : ℕ) → slice_get files asm ≡ None → assembly_in (world_of files) asm ≡ no_assembly
unfolding assembly_in world_of
there_is_none [] asm e = refl
there_is_none (file ∷ files) zero e = absurd (cc)
there_is_none (file ∷ files) (suc asm) e = there_is_none files asm e

pub owner_is : (files : List (List ℕ)) (asm : ℕ) (file : List ℕ) (table : Table) (row param at : ℕ) (o : Option ℕ)
    → slice_get files asm ≡ Some file → at ≡ column (assembly_of file) tables.GenericParam param 2
    → o ≡ coded_token (assembly_of file) kinds.TypeOrMethodDef at
    → option_map_or (λ found. found == token (table_number table) row) o false
    ≡ is_owner (world_of files) asm table row (column_in (world_of files) asm tables.GenericParam param 2)
owner_is files asm file table row param at o there a c =
    let owns = λ (x : Option ℕ). option_map_or (λ found. found == token (table_number table) row) x false in
    ap owns c ∙ ap (λ k. owns (coded_token (assembly_of file) kinds.TypeOrMethodDef k)) a
    ∙ ap (λ x. owns (coded_token x kinds.TypeOrMethodDef (column x tables.GenericParam param 2))) (sym (there_is files asm file there))

-- ---- no row passes

pub passed_over : (p : ℕ → Bool) (i n : ℕ) → i < n → p i ≡ false
    → list_any p (range_with_len i (n - i)) ≡ list_any p (range_with_len (i + 1) (n - (i + 1)))
passed_over p i n l e =
    let more : n - i ≡ suc (n - (i + 1)) = omega arith in
    ap (λ k. list_any p (range_with_len i k)) more
    ∙ ap (λ b. b || list_any p (range_with_len (i + 1) (n - (i + 1)))) e

-- a row after the last is not there
pub past_last : (n row : ℕ) → n < row → (nat_lt 0 row && nat_le row n) ≡ false
past_last n row l = and_false (nat_lt 0 row) (nat_le row n) (lt-leb row n l)
  where
    and_false : (a b : Bool) → b ≡ false → (a && b) ≡ false
    and_false true b e = e
    and_false false b e = refl

-- ---- an assembly that isn't there

pub no_methods : (class : ℕ) → rows_between 1 1 ≡ methods_of no_assembly class
unfolding methods_of column
no_methods zero = refl
no_methods (suc class) =
    sym (ap (λ b. rows_between 1 (cond b (list_start no_assembly (suc class + 1) 5) (0 + 1)))
    (le-ltb (suc class) 0 (omega arith)))

pub no_fields : (class : ℕ) → rows_between 1 1 ≡ fields_of no_assembly class
unfolding fields_of column
no_fields zero = refl
no_fields (suc class) =
    sym (ap (λ b. rows_between 1 (cond b (list_start no_assembly (suc class + 1) 4) (0 + 1)))
    (le-ltb (suc class) 0 (omega arith)))

abbrev found_field : ℕ → Option TypeSig
found_field row = option_and_then field_sig_of (blob_at no_assembly (column no_assembly tables.Field row 2))

pub no_field_signature : (row : ℕ) → field_signature no_assembly row ≡ None
unfolding field_signature
no_field_signature zero = refl
no_field_signature (suc row) = ap (λ b. if b then found_field (suc row) else None) (past_last 0 (suc row) (omega arith))

abbrev found_method : ℕ → Option MethodSig
found_method row = option_and_then method_sig_of (blob_at no_assembly (column no_assembly tables.MethodDef row 4))

pub no_method_signature : (row : ℕ) → method_signature no_assembly row ≡ None
unfolding method_signature
no_method_signature zero = refl
no_method_signature (suc row) = ap (λ b. if b then found_method (suc row) else None) (past_last 0 (suc row) (omega arith))

abbrev found_local : ℕ → Option (List TypeSig)
found_local row = option_and_then local_sig_of (blob_at no_assembly (column no_assembly tables.StandAloneSig row 0))

pub no_local_signature : (row : ℕ) → local_signature no_assembly row ≡ None
unfolding local_signature
no_local_signature zero = refl
no_local_signature (suc row) = ap (λ b. if b then found_local (suc row) else None) (past_last 0 (suc row) (omega arith))

pub no_body : (row : ℕ) → body_of no_assembly row ≡ None
unfolding body_of
no_body zero = refl
no_body (suc row) = refl
