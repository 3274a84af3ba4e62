-- Each call leaves a sound record exactly where its conditions hold, and what is counted then.
use Rattle.std.proofs.Common.{◌≡◌, ◌<◌, ◌+◌, ◌^◌, ℕ, Bool, true, false, List, [], ◌∷◌, ◌++◌, length, map, refl, sym, ap}
use Rattle.std.proofs.Common.{◌∙◌, subst, arith}
use Rattle.std.specs.Prelude.{◌↔◌, ◌&&◌, ◌||◌, ◌==◌, nat_lt, if◌then◌else◌}
use Rattle.std.proofs.lemmas.Bool.{and_from, and_parts, lt-ltb}
use Rattle.std.proofs.lemmas.List.{length_push, map-append}
use Rattle.std.proofs.lemmas.Str.{IsUtf8-nil, is_utf8-from_IsUtf8}
use Rattle.metadata.specs.declared.schema.CodedKind.TheVariants as kinds
use Rattle.metadata.specs.declared.schema.Table.TheVariants as tables
use Rattle.cli_assembly.specs.declared.signature.TypeSig.{TypeSig}
use Rattle.cli_assembly.specs.Shortest.{field_sig_bytes, is_writable_type}
use Rattle.asm_builder.specs.declared.asked.Field.{Field}
use Rattle.asm_builder.specs.declared.asked.TypeDef.{TypeDef}
use Rattle.asm_builder.specs.Asked.{Asked, type_def, with_assembly_ref, with_attribute, with_field, with_member_ref}
use Rattle.asm_builder.specs.Asked.{with_type_def, with_type_ref, with_user_string}
use Rattle.asm_builder.specs.Cells.{Cell, Number, Coded, base_cell, assembly_ref_cells, attribute_cells, field_cells}
use Rattle.asm_builder.specs.Cells.{member_ref_cells, tables_of, type_def_cells}
use Rattle.asm_builder.specs.Cells.{type_ref_cells}
use Rattle.asm_builder.specs.Content.{all_after, no_heaps, blob_bytes, text_bytes}
use Rattle.asm_builder.specs.Sound.{IsSound, are_few, are_owned, are_sound_tables, is_name, is_sound_cell, is_writable_field, takes}
use Rattle.asm_builder.specs.Tested.{FitsAssemblyRef, FitsAttribute, FitsField, FitsMemberRef, FitsTypeDef, FitsTypeRef, FitsUserString}
use Rattle.asm_builder.specs.Tested.{IsCounted, blob_room, blobs_size, capped, rows_with, strings_size, text_room}
use Rattle.asm_builder.proofs.Counts.{few_fields, few_methods}
use Rattle.asm_builder.proofs.Grown.{Grown, IsCap, grown_counted, grown_room, grown_small, one_row, small_from, within}
use Rattle.asm_builder.proofs.OneRow.{all_push, all_push_back, blob_size, text_size, total}
use Rattle.asm_builder.proofs.OwnedMore.{end_is, owned_end, owned_more, owner_is}
use Rattle.asm_builder.proofs.Steps.{adds_assembly_ref, adds_attribute, adds_field, adds_member_ref, adds_type_def, adds_type_ref}
use Rattle.asm_builder.proofs.Steps.{adds_user_string}
use Rattle.asm_builder.proofs.Strings.{heap_more}

pub name_nil : is_name [] ≡ true
name_nil = and_from _ true (is_utf8-from_IsUtf8 [] IsUtf8-nil) refl

-- ---- sizes as they are counted

pub cap_none : (size : ℕ) → size ≡ 0 → IsCap size 0
cap_none size e = record { exact = λ small. e; within_size = omega arith }

pub cap_one : (size n : ℕ) → size ≡ n → IsCap size (capped n)
cap_one size n e = record { exact = λ small. omega (arith, e, small); within_size = omega (arith, e) }

pub cap_two : (size n m : ℕ) → size ≡ n + m → IsCap size (capped n + capped m)
cap_two size n m e = record { exact = λ small. omega (arith, e, small); within_size = omega (arith, e) }

-- ---- AssemblyRef

module _ (a : Asked) (name : List ℕ) where
  abbrev assembly_ref_row : List Cell
  assembly_ref_row = assembly_ref_cells name

  assembly_ref_grown : Grown a (with_assembly_ref a name) tables.AssemblyRef assembly_ref_row (total text_size assembly_ref_row)
      (total blob_size assembly_ref_row)
  assembly_ref_grown = one_row a (with_assembly_ref a name) tables.AssemblyRef assembly_ref_row (adds_assembly_ref a name)

  assembly_ref_texts : IsCap (total text_size assembly_ref_row) (text_room name)
  assembly_ref_texts = cap_one (total text_size assembly_ref_row) (length (text_bytes name)) (omega arith)

  assembly_ref_blobs : IsCap (total blob_size assembly_ref_row) 0
  assembly_ref_blobs = cap_none (total blob_size assembly_ref_row) (omega arith)

  pub assembly_ref_iff : IsSound a → FitsAssemblyRef a name ↔ IsSound (with_assembly_ref a name)
  assembly_ref_iff sound =
      let w = within a sound.small in
      let g = assembly_ref_grown in (
        λ fits. record {
          name = sound.name;
          cells = g.cells sound (and_from (is_name name) (is_name [] && true) fits.name_fits (and_from (is_name []) true name_nil refl));
          fields = sound.fields;
          methods = sound.methods;
          field_lists = sound.field_lists;
          method_lists = sound.method_lists;
          few = g.few sound fits.room_fits.rows_fit;
          small = grown_small _ _ _ _ _ _ _ _ g assembly_ref_texts assembly_ref_blobs fits.room_fits w.user w.code;
        },
        λ all. record {
          name_fits = (and_parts (is_name name) (is_name [] && true) (g.row_is all.cells)).0;
          room_fits = grown_room _ _ _ _ _ _ _ _ g assembly_ref_texts assembly_ref_blobs all;
        },
      )

  pub assembly_ref_counted : (s v k s' : ℕ) → IsCounted a s v k → IsSound (with_assembly_ref a name)
      → (s + text_room name < 2 ^ 24 → s' ≡ s + text_room name) → IsCounted (with_assembly_ref a name) s' v k
  assembly_ref_counted s v k s' counted all plus =
      grown_counted _ _ _ _ _ _ _ _ assembly_ref_grown assembly_ref_texts assembly_ref_blobs s v k counted all s' v k
      plus (λ small. omega arith)
      counted.code_is

-- ---- TypeRef

module _ (a : Asked) (parent : ℕ) (space name : List ℕ) where
  abbrev type_ref_row : List Cell
  type_ref_row = type_ref_cells (record { parent = parent; space = space; name = name })

  type_ref_grown : Grown a (with_type_ref a parent space name) tables.TypeRef type_ref_row (total text_size type_ref_row)
      (total blob_size type_ref_row)
  type_ref_grown = one_row a (with_type_ref a parent space name) tables.TypeRef type_ref_row (adds_type_ref a parent space name)

  type_ref_texts : IsCap (total text_size type_ref_row) (text_room name + text_room space)
  type_ref_texts = cap_two (total text_size type_ref_row) (length (text_bytes name)) (length (text_bytes space)) (omega arith)

  type_ref_blobs : IsCap (total blob_size type_ref_row) 0
  type_ref_blobs = cap_none (total blob_size type_ref_row) (omega arith)

  pub type_ref_iff : IsSound a → FitsTypeRef a parent space name ↔ IsSound (with_type_ref a parent space name)
  type_ref_iff sound =
      let w = within a sound.small in
      let g = type_ref_grown in
      let token = takes (rows_with a tables.TypeRef) kinds.ResolutionScope parent in (
        λ fits. record {
          name = sound.name;
          cells = g.cells sound (and_from token (is_name name && (is_name space && true)) fits.parent_fits
              (and_from (is_name name) (is_name space && true) fits.name_fits (and_from (is_name space) true fits.space_fits refl)));
          fields = sound.fields;
          methods = sound.methods;
          field_lists = sound.field_lists;
          method_lists = sound.method_lists;
          few = g.few sound fits.room_fits.rows_fit;
          small = grown_small _ _ _ _ _ _ _ _ g type_ref_texts type_ref_blobs fits.room_fits w.user w.code;
        },
        λ all.
            let row = and_parts token (is_name name && (is_name space && true)) (g.row_is all.cells) in
            let names = and_parts (is_name name) (is_name space && true) row.1 in
            record {
              parent_fits = row.0;
              space_fits = (and_parts (is_name space) true names.1).0;
              name_fits = names.0;
              room_fits = grown_room _ _ _ _ _ _ _ _ g type_ref_texts type_ref_blobs all;
            },
      )

  pub type_ref_counted : (s v k s' : ℕ) → IsCounted a s v k → IsSound (with_type_ref a parent space name)
      → (s + (text_room name + text_room space) < 2 ^ 24 → s' ≡ s + (text_room name + text_room space))
      → IsCounted (with_type_ref a parent space name) s' v k
  type_ref_counted s v k s' counted all plus =
      grown_counted _ _ _ _ _ _ _ _ type_ref_grown type_ref_texts type_ref_blobs s v k counted all s' v k plus (λ small. omega arith)
      counted.code_is

-- ---- MemberRef

module _ (a : Asked) (parent : ℕ) (name sig : List ℕ) where
  abbrev member_ref_row : List Cell
  member_ref_row = member_ref_cells (record { parent = parent; name = name; sig = sig })

  member_ref_grown : Grown a (with_member_ref a parent name sig) tables.MemberRef member_ref_row (total text_size member_ref_row)
      (total blob_size member_ref_row)
  member_ref_grown = one_row a (with_member_ref a parent name sig) tables.MemberRef member_ref_row (adds_member_ref a parent name sig)

  member_ref_texts : IsCap (total text_size member_ref_row) (text_room name)
  member_ref_texts = cap_one (total text_size member_ref_row) (length (text_bytes name)) (omega arith)

  member_ref_blobs : IsCap (total blob_size member_ref_row) (blob_room sig)
  member_ref_blobs = cap_one (total blob_size member_ref_row) (length (blob_bytes sig)) (omega arith)

  pub member_ref_iff : IsSound a → FitsMemberRef a parent name sig ↔ IsSound (with_member_ref a parent name sig)
  member_ref_iff sound =
      let w = within a sound.small in
      let g = member_ref_grown in
      let token = takes (rows_with a tables.MemberRef) kinds.MemberRefParent parent in (
        λ fits. record {
          name = sound.name;
          cells = g.cells sound
              (and_from token (is_name name && true) fits.parent_fits (and_from (is_name name) true fits.name_fits refl));
          fields = sound.fields;
          methods = sound.methods;
          field_lists = sound.field_lists;
          method_lists = sound.method_lists;
          few = g.few sound fits.room_fits.rows_fit;
          small = grown_small _ _ _ _ _ _ _ _ g member_ref_texts member_ref_blobs fits.room_fits w.user w.code;
        },
        λ all.
            let row = and_parts token (is_name name && true) (g.row_is all.cells) in
            record {
              parent_fits = row.0;
              name_fits = (and_parts (is_name name) true row.1).0;
              room_fits = grown_room _ _ _ _ _ _ _ _ g member_ref_texts member_ref_blobs all;
            },
      )

  pub member_ref_counted : (s v k s' v' : ℕ) → IsCounted a s v k → IsSound (with_member_ref a parent name sig)
      → (s + text_room name < 2 ^ 24 → s' ≡ s + text_room name) → (v + blob_room sig < 2 ^ 24 → v' ≡ v + blob_room sig)
      → IsCounted (with_member_ref a parent name sig) s' v' k
  member_ref_counted s v k s' v' counted all plus more =
      grown_counted _ _ _ _ _ _ _ _ member_ref_grown member_ref_texts member_ref_blobs s v k counted all s' v' k plus more counted.code_is

-- ---- CustomAttribute

module _ (a : Asked) (parent constructor : ℕ) (value : List ℕ) where
  abbrev attribute_row : List Cell
  attribute_row = attribute_cells (record { parent = parent; constructor = constructor; value = value })

  attribute_grown : Grown a (with_attribute a parent constructor value) tables.CustomAttribute attribute_row
      (total text_size attribute_row) (total blob_size attribute_row)
  attribute_grown =
      one_row a (with_attribute a parent constructor value) tables.CustomAttribute attribute_row (adds_attribute a parent constructor value)

  attribute_texts : IsCap (total text_size attribute_row) 0
  attribute_texts = cap_none (total text_size attribute_row) (omega arith)

  attribute_blobs : IsCap (total blob_size attribute_row) (blob_room value)
  attribute_blobs = cap_one (total blob_size attribute_row) (length (blob_bytes value)) (omega arith)

  pub attribute_iff : IsSound a → FitsAttribute a parent constructor value ↔ IsSound (with_attribute a parent constructor value)
  attribute_iff sound =
      let w = within a sound.small in
      let g = attribute_grown in
      let on = takes (rows_with a tables.CustomAttribute) kinds.HasCustomAttribute parent in
      let by = takes (rows_with a tables.CustomAttribute) kinds.CustomAttributeType constructor in (
        λ fits. record {
          name = sound.name;
          cells = g.cells sound (and_from on (by && true) fits.parent_fits (and_from by true fits.constructor_fits refl));
          fields = sound.fields;
          methods = sound.methods;
          field_lists = sound.field_lists;
          method_lists = sound.method_lists;
          few = g.few sound fits.room_fits.rows_fit;
          small = grown_small _ _ _ _ _ _ _ _ g attribute_texts attribute_blobs fits.room_fits w.user w.code;
        },
        λ all.
            let row = and_parts on (by && true) (g.row_is all.cells) in
            record {
              parent_fits = row.0;
              constructor_fits = (and_parts by true row.1).0;
              room_fits = grown_room _ _ _ _ _ _ _ _ g attribute_texts attribute_blobs all;
            },
      )

  pub attribute_counted : (s v k v' : ℕ) → IsCounted a s v k → IsSound (with_attribute a parent constructor value)
      → (v + blob_room value < 2 ^ 24 → v' ≡ v + blob_room value) → IsCounted (with_attribute a parent constructor value) s v' k
  attribute_counted s v k v' counted all more =
      grown_counted _ _ _ _ _ _ _ _ attribute_grown attribute_texts attribute_blobs s v k counted all s v' k (λ small. omega arith) more
      counted.code_is

-- ---- Field

module _ (a : Asked) (flags : ℕ) (name : List ℕ) (sig : TypeSig) (few_flags : flags < 2 ^ 16) where
  abbrev field_row : List Cell
  field_row = field_cells (record { flags = flags; name = name; sig = sig })

  field_grown : Grown a (with_field a flags name sig) tables.Field field_row (total text_size field_row) (total blob_size field_row)
  field_grown = one_row a (with_field a flags name sig) tables.Field field_row (adds_field a flags name sig)

  field_texts : IsCap (total text_size field_row) (text_room name)
  field_texts = cap_one (total text_size field_row) (length (text_bytes name)) (omega arith)

  field_blobs : IsCap (total blob_size field_row) (blob_room (field_sig_bytes sig))
  field_blobs = cap_one (total blob_size field_row) (length (blob_bytes (field_sig_bytes sig))) (omega arith)

  abbrev new_field : Field
  new_field = record { flags = flags; name = name; sig = sig }

  one_field : length (a.fields ++ new_field ∷ []) ≡ length a.fields + 1
  one_field = length_push a.fields new_field

  pub field_iff : IsSound a → FitsField a name sig ↔ IsSound (with_field a flags name sig)
  field_iff sound =
      let w = within a sound.small in
      let g = field_grown in
      let number = nat_lt flags (2 ^ 32) in (
        λ fits. record {
          name = sound.name;
          cells = g.cells sound (and_from number (is_name name && true) (lt-ltb flags (2 ^ 32) (omega (arith, few_flags)))
              (and_from (is_name name) true fits.name_fits refl));
          fields = all_push is_writable_field a.fields new_field sound.fields
              (and_from (nat_lt flags (2 ^ 16)) (is_writable_type sig) (lt-ltb flags (2 ^ 16) few_flags) fits.sig_fits);
          methods = sound.methods;
          field_lists = owned_more (λ (t : TypeDef). t.fields_before) (length a.fields) a.type_defs (length (a.fields ++ new_field ∷ []))
              one_field fits.owner_fits sound.field_lists;
          method_lists = sound.method_lists;
          few = g.few sound fits.room_fits.rows_fit;
          small = grown_small _ _ _ _ _ _ _ _ g field_texts field_blobs fits.room_fits w.user w.code;
        },
        λ all. record {
          owner_fits = owner_is (λ (t : TypeDef). t.fields_before) (length a.fields) a.type_defs (length (a.fields ++ new_field ∷ []))
              one_field all.field_lists;
          name_fits = (and_parts (is_name name) true (and_parts number (is_name name && true) (g.row_is all.cells)).1).0;
          sig_fits = (and_parts (nat_lt flags (2 ^ 16)) (is_writable_type sig)
              (all_push_back is_writable_field a.fields new_field all.fields)).1;
          room_fits = grown_room _ _ _ _ _ _ _ _ g field_texts field_blobs all;
        },
      )

  pub field_counted : (s v k s' v' : ℕ) → IsCounted a s v k → IsSound (with_field a flags name sig)
      → (s + text_room name < 2 ^ 24 → s' ≡ s + text_room name)
      → (v + blob_room (field_sig_bytes sig) < 2 ^ 24 → v' ≡ v + blob_room (field_sig_bytes sig))
      → IsCounted (with_field a flags name sig) s' v' k
  field_counted s v k s' v' counted all plus more =
      grown_counted _ _ _ _ _ _ _ _ field_grown field_texts field_blobs s v k counted all s' v' k plus more counted.code_is

-- ---- TypeDef

base_sound : (rows : List ℕ) (base : ℕ) → (base == 0 || takes rows kinds.TypeDefOrRef base) ≡ true
    → is_sound_cell rows (base_cell base) ≡ true
base_sound rows base ok = by (base == 0) ok where
  by : (b : Bool) → (b || takes rows kinds.TypeDefOrRef base) ≡ true
      → is_sound_cell rows (if b then Number 0 else Coded kinds.TypeDefOrRef base) ≡ true
  by true h = refl
  by false h = h

base_is : (rows : List ℕ) (base : ℕ) → is_sound_cell rows (base_cell base) ≡ true
    → (base == 0 || takes rows kinds.TypeDefOrRef base) ≡ true
base_is rows base ok = by (base == 0) ok where
  by : (b : Bool)
      → is_sound_cell rows (if b then Number 0 else Coded kinds.TypeDefOrRef base) ≡ true
      → (b || takes rows kinds.TypeDefOrRef base) ≡ true
  by true h = refl
  by false h = h

base_empty : (base : ℕ) → (text_size (base_cell base) ≡ 0) × (blob_size (base_cell base) ≡ 0)
base_empty base = by (base == 0) where
  by : (b : Bool)
      → (text_size (if b then Number 0 else Coded kinds.TypeDefOrRef base) ≡ 0)
      × (blob_size (if b then Number 0 else Coded kinds.TypeDefOrRef base) ≡ 0)
  by true = (refl, refl)
  by false = (refl, refl)

module _ (a : Asked) (flags : ℕ) (space name : List ℕ) (base : ℕ) (few_flags : flags < 2 ^ 32) where
  abbrev new_type : TypeDef
  new_type = type_def a flags space name base

  abbrev type_def_row : List Cell
  type_def_row = type_def_cells new_type

  type_def_grown : Grown a (with_type_def a flags space name base) tables.TypeDef type_def_row (total text_size type_def_row)
      (total blob_size type_def_row)
  type_def_grown = one_row a (with_type_def a flags space name base) tables.TypeDef type_def_row (adds_type_def a flags space name base)

  type_def_texts : IsCap (total text_size type_def_row) (text_room name + text_room space)
  type_def_texts =
      let none = (base_empty base).0 in
      cap_two (total text_size type_def_row) (length (text_bytes name)) (length (text_bytes space)) (omega (arith, none))

  type_def_blobs : IsCap (total blob_size type_def_row) 0
  type_def_blobs = let none = (base_empty base).1 in cap_none (total blob_size type_def_row) (omega (arith, none))

  abbrev fields_start : TypeDef → ℕ
  fields_start t = t.fields_before

  abbrev methods_start : TypeDef → ℕ
  methods_start t = t.methods_before

  pub type_def_iff : IsSound a → FitsTypeDef a space name base ↔ IsSound (with_type_def a flags space name base)
  type_def_iff sound =
      let w = within a sound.small in
      let g = type_def_grown in
      let rows = rows_with a tables.TypeDef in
      let number = nat_lt flags (2 ^ 32) in
      let f = nat_lt (length a.fields + 1) (2 ^ 32) in
      let m = nat_lt (length a.methods + 1) (2 ^ 32) in
      let cell = is_sound_cell rows (base_cell base) in
      let ff = few_fields a sound (length a.fields) refl in
      let fm = few_methods a sound (length a.methods) refl in
      let fields_all = map-append fields_start a.type_defs (new_type ∷ []) in
      let methods_all = map-append methods_start a.type_defs (new_type ∷ []) in (
        λ fits. record {
          name = sound.name;
          cells = g.cells sound (and_from number (is_name name && (is_name space && (cell && (f && (m && true)))))
              (lt-ltb flags (2 ^ 32) few_flags)
              (and_from (is_name name) (is_name space && (cell && (f && (m && true)))) fits.name_fits
              (and_from (is_name space) (cell && (f && (m && true))) fits.space_fits
              (and_from cell (f && (m && true)) (base_sound rows base fits.base_fits)
              (and_from f (m && true) (lt-ltb (length a.fields + 1) (2 ^ 32) (omega (arith, ff)))
              (and_from m true (lt-ltb (length a.methods + 1) (2 ^ 32) (omega (arith, fm))) refl))))));
          fields = sound.fields;
          methods = sound.methods;
          field_lists = subst (λ (l : List ℕ). are_owned l (length a.fields) ≡ true) (sym fields_all)
              (owned_end (map fields_start a.type_defs) (length a.fields) fits.fields_fit sound.field_lists);
          method_lists = subst (λ (l : List ℕ). are_owned l (length a.methods) ≡ true) (sym methods_all)
              (owned_end (map methods_start a.type_defs) (length a.methods) fits.methods_fit sound.method_lists);
          few = g.few sound fits.room_fits.rows_fit;
          small = grown_small _ _ _ _ _ _ _ _ g type_def_texts type_def_blobs fits.room_fits w.user w.code;
        },
        λ all.
            let row = and_parts number (is_name name && (is_name space && (cell && (f && (m && true))))) (g.row_is all.cells) in
            let named = and_parts (is_name name) (is_name space && (cell && (f && (m && true)))) row.1 in
            let spaced = and_parts (is_name space) (cell && (f && (m && true))) named.1 in
            record {
              base_fits = base_is rows base (and_parts cell (f && (m && true)) spaced.1).0;
              space_fits = spaced.0;
              name_fits = named.0;
              fields_fit = end_is (map fields_start a.type_defs) (length a.fields)
                  (subst (λ (l : List ℕ). are_owned l (length a.fields) ≡ true) fields_all all.field_lists);
              methods_fit = end_is (map methods_start a.type_defs) (length a.methods)
                  (subst (λ (l : List ℕ). are_owned l (length a.methods) ≡ true) methods_all all.method_lists);
              room_fits = grown_room _ _ _ _ _ _ _ _ g type_def_texts type_def_blobs all;
            },
      )

  pub type_def_counted : (s v k s' : ℕ) → IsCounted a s v k → IsSound (with_type_def a flags space name base)
      → (s + (text_room name + text_room space) < 2 ^ 24 → s' ≡ s + (text_room name + text_room space))
      → IsCounted (with_type_def a flags space name base) s' v k
  type_def_counted s v k s' counted all plus =
      grown_counted _ _ _ _ _ _ _ _ type_def_grown type_def_texts type_def_blobs s v k counted all s' v k plus (λ small. omega arith)
      counted.code_is

-- ---- user strings

module _ (a : Asked) (units : List ℕ) where
  same_tables : tables_of (with_user_string a units) ≡ tables_of a
  same_tables = adds_user_string a units

  pub user_string_iff : IsSound a → FitsUserString a units ↔ IsSound (with_user_string a units)
  unfolding strings_size blobs_size
  user_string_iff sound =
      let w = within a sound.small in
      let more = heap_more a.user_strings units in
      let strings = ap (λ (t : List (List (List Cell))). length (all_after no_heaps t).strings) same_tables in
      let blobs = ap (λ (t : List (List (List Cell))). length (all_after no_heaps t).blobs) same_tables in (
        λ fits. record {
          name = sound.name;
          cells = subst (λ (t : List (List (List Cell))). are_sound_tables t ≡ true) (sym same_tables) sound.cells;
          fields = sound.fields;
          methods = sound.methods;
          field_lists = sound.field_lists;
          method_lists = sound.method_lists;
          few = subst (λ (t : List (List (List Cell))). are_few t ≡ true) (sym same_tables) sound.few;
          small =
              let room = fits.room_fits in
              let s = w.strings in
              let b = w.blobs in
              small_from (with_user_string a units) (record {
                strings = omega (arith, s, strings);
                blobs = omega (arith, b, blobs);
                user = omega (arith, more, room);
                code = w.code;
              });
        },
        λ all.
            let all_in = within (with_user_string a units) all.small in
            let user = all_in.user in
            record { room_fits = omega (arith, more, user) },
      )

  pub user_string_counted : (s v k : ℕ) → IsCounted a s v k → IsSound (with_user_string a units)
      → IsCounted (with_user_string a units) s v k
  unfolding strings_size blobs_size
  user_string_counted s v k counted all =
      let strings = ap (λ (t : List (List (List Cell))). length (all_after no_heaps t).strings) same_tables in
      let blobs = ap (λ (t : List (List (List Cell))). length (all_after no_heaps t).blobs) same_tables in
      record {
        is_sound = all;
        strings_are = counted.strings_are ∙ sym strings;
        blobs_are = counted.blobs_are ∙ sym blobs;
        code_is = counted.code_is;
      }
