-- The record of the content has what was asked for.
use Rattle.std.proofs.Common.{◌≡◌, ◌+◌, ℕ, zero, suc, Bool, true, false, cond, List, [], ◌∷◌, length, get_or, take}
use Rattle.std.proofs.Common.{replicate, Option, Some, None, inl, inr, refl, sym, ap, ◌∙◌, subst, arith}
use Rattle.std.specs.Prelude.{◌-◌, slice_get}
use Rattle.std.proofs.lemmas.Bool.{cases_Bool}
use Rattle.std.proofs.lemmas.List.{length-map}
use Rattle.metadata.specs.declared.schema.Table.{Table}
use Rattle.metadata.specs.declared.schema.Table.TheVariants as tables
use Rattle.metadata.specs.Schema.{table_number}
use Rattle.pe_image.specs.Places.{aligned}
use Rattle.cli_assembly.specs.Assemblies.{Assembly, assembly_name, body_of, column, field_signature, fields_of}
use Rattle.cli_assembly.specs.Assemblies.{local_signature, method_signature, methods_of, row_count, table_in}
use Rattle.cli_assembly.specs.Assemblies.{user_string_at}
use Rattle.cli_assembly.specs.Bodies.{MethodBody}
use Rattle.cli_assembly.specs.Shortest.{field_sig_bytes, local_sig_bytes, method_sig_bytes}
use Rattle.cli_assembly.specs.Signatures.{field_sig_of, local_sig_of, method_sig_of}
use Rattle.asm_builder.specs.declared.asked.Field.{Field}
use Rattle.asm_builder.specs.declared.asked.Method.{Method}
use Rattle.asm_builder.specs.declared.asked.TypeDef.{TypeDef}
use Rattle.asm_builder.specs.Asked.{Asked}
use Rattle.asm_builder.specs.Built.{EachRow, HasBody, HasLocalsIf, HasRows, IsBuilt, Names, own_fields, own_methods}
use Rattle.asm_builder.specs.Cells.{Blob, Cell, Number, Text, assembly_cells, bodies_rva, cells_of, field_cells}
use Rattle.asm_builder.specs.Cells.{has_locals, is_empty, locals_cells, locals_of, method_cells, tables_of}
use Rattle.asm_builder.specs.Cells.{type_def_cells, unit_bytes, user_heap}
use Rattle.asm_builder.specs.Content.{all_numbers, content_of, locals_after, locals_token, no_heaps}
use Rattle.asm_builder.specs.Sound.{IsSound, is_writable_field, is_writable_method, rows_asked}
use Rattle.asm_builder.proofs.AllTables.{room_of_strings}
use Rattle.asm_builder.proofs.BodiesBack.{locals_before, rva_before}
use Rattle.asm_builder.proofs.BuiltLists.{own_are}
use Rattle.asm_builder.proofs.BuiltRecord.{built_assembly, built_bodies, built_body, has_heaps}
use Rattle.asm_builder.proofs.CellsNamed.{tables_named}
use Rattle.asm_builder.proofs.Counts.{cells_are, length-method_rows}
use Rattle.asm_builder.proofs.HeapsBack.{user_string_back}
use Rattle.asm_builder.proofs.Methods.{all_item, method_row_at, writable_field_sig, writable_locals, writable_sig}
use Rattle.asm_builder.proofs.RowsBuilt.{cell_at, map_at, read_signature, row_there, zip_length}
use Rattle.asm_builder.proofs.SignaturesBack.{SignaturesAreBack, field_sig_back, local_sig_back, method_sig_back}

-- ---- bodies, by the methods before them

body_at_row : (n : ℕ) (ms : List Method) (i : ℕ) (m : Method) → slice_get ms i ≡ Some m
    → get_or (built_bodies n ms) i None ≡ built_body (locals_before n ms i) m
body_at_row n [] i m e = absurd (let h : ⊥ = cc in h)
body_at_row n (x ∷ ms) zero m e = let same : x ≡ m = cc in ap (built_body n) same
body_at_row n (x ∷ ms) (suc i) m e = body_at_row (locals_after n x) ms i m e

-- a method's own row of StandAloneSig
record LocalsAt (n : ℕ) (ms : List Method) (i : ℕ) (m : Method) : Type 0 where
  place : ℕ
  before_is : locals_before n ms i ≡ n + place
  at : slice_get (locals_of ms) place ≡ Some m

locals_at : (n : ℕ) (ms : List Method) (i : ℕ) (m : Method) → slice_get ms i ≡ Some m → has_locals m ≡ true → LocalsAt n ms i m
locals_at n [] i m e some = absurd (let h : ⊥ = cc in h)
locals_at n (x ∷ ms) zero m e some =
    let same : x ≡ m = cc in
    let here : has_locals x ≡ true = ap has_locals same ∙ some in
    record {
      place = 0;
      before_is = omega arith;
      at = ap (λ b. slice_get (cond b (x ∷ locals_of ms) (locals_of ms)) 0) here ∙ ap (λ (y : Method). Some y) same;
    }
locals_at n (x ∷ ms) (suc i) m e some = elim (cases_Bool (has_locals x)) [
  | inl here ↦
      let rest = locals_at (n + 1) ms i m e some in
      let before : locals_before (locals_after n x) ms i ≡ locals_before (n + 1) ms i =
      ap (λ b. locals_before (cond b (n + 1) n) ms i) here in
      let is = rest.before_is in
      record {
        place = suc rest.place;
        before_is = before ∙ (omega (arith, is));
        at = ap (λ b. slice_get (cond b (x ∷ locals_of ms) (locals_of ms)) (suc rest.place)) here ∙ rest.at;
      }
  | inr not_here ↦
      let rest = locals_at n ms i m e some in
      record {
        place = rest.place;
        before_is = ap (λ b. locals_before (cond b (n + 1) n) ms i) not_here ∙ rest.before_is;
        at = ap (λ b. slice_get (cond b (x ∷ locals_of ms) (locals_of ms)) rest.place) not_here ∙ rest.at;
      }
]

module _ (asked : Asked) (entry : ℕ) (sound : IsSound asked) where
  abbrev a : Assembly
  a = built_assembly asked entry

  tables_is : a.tables ≡ all_numbers no_heaps (tables_of asked)
  unfolding built_assembly content_of
  tables_is = refl

  pub rows_built : (table : Table) → HasRows a (cells_of asked table) (table_in a table)
  rows_built table =
      let all =
      tables_named a (rows_asked (tables_of asked)) (tables_of asked) (has_heaps asked entry sound) sound.cells (table_number table) in
      let cells =
      subst (λ (l : List (List Cell)). HasRows a l
      (get_or (all_numbers no_heaps (tables_of asked)) (table_number table) [])) (cells_are asked table) all in
      subst (λ (l : List (List (List ℕ))). HasRows a (cells_of asked table) (get_or l (table_number table) [])) (sym tables_is) cells

  field_row : (i : ℕ) (f : Field) → slice_get asked.fields i ≡ Some f → slice_get (cells_of asked tables.Field) i ≡ Some (field_cells f)
  field_row i f e = map_at field_cells asked.fields i f e

  pub fields_built : SignaturesAreBack → EachRow asked.fields (λ row f. field_signature a row ≡ Some f.sig)
  unfolding field_signature
  fields_built law i f e =
      let are = rows_built tables.Field in
      let at = field_row i f e in
      let ok = writable_field_sig f (all_item is_writable_field asked.fields i f e sound.fields) in
      read_signature field_sig_of a tables.Field (i + 1) 2 (field_sig_bytes f.sig) f.sig
      (row_there a tables.Field (cells_of asked tables.Field) are i (field_cells f) at)
      (cell_at a tables.Field (cells_of asked tables.Field) are i (field_cells f) at 2 (Blob (field_sig_bytes f.sig)) refl)
      (field_sig_back law f.sig ok)

  pub methods_built : SignaturesAreBack → EachRow asked.methods (λ row m. method_signature a row ≡ Some m.sig)
  unfolding method_signature
  methods_built law i m e =
      let are = rows_built tables.MethodDef in
      let cells = method_cells (rva_before bodies_rva asked.methods i) m in
      let at = method_row_at bodies_rva asked.methods i m e in
      let ok = writable_sig m (all_item is_writable_method asked.methods i m e sound.methods) in
      read_signature method_sig_of a tables.MethodDef (i + 1) 4 (method_sig_bytes m.sig) m.sig
      (row_there a tables.MethodDef (cells_of asked tables.MethodDef) are i cells at)
      (cell_at a tables.MethodDef (cells_of asked tables.MethodDef) are i cells at 4 (Blob (method_sig_bytes m.sig)) refl)
      (method_sig_back law m.sig ok)

  locals_built : SignaturesAreBack → (place : ℕ) (m : Method) → slice_get (locals_of asked.methods) place ≡ Some m
      → is_writable_method m ≡ true
      → local_signature a (place + 1) ≡ Some m.locals
  unfolding local_signature
  locals_built law place m e ok =
      let are = rows_built tables.StandAloneSig in
      let at = map_at locals_cells (locals_of asked.methods) place m e in
      read_signature local_sig_of a tables.StandAloneSig (place + 1) 0 (local_sig_bytes m.locals) m.locals
      (row_there a tables.StandAloneSig (cells_of asked tables.StandAloneSig) are place (locals_cells m) at)
      (cell_at a tables.StandAloneSig (cells_of asked tables.StandAloneSig) are place (locals_cells m) at 0
      (Blob (local_sig_bytes m.locals)) refl)
      (local_sig_back law m.locals (writable_locals m ok))

  own_locals_built : SignaturesAreBack → (i : ℕ) (m : Method) → slice_get asked.methods i ≡ Some m → (b : Bool) → has_locals m ≡ b
      → HasLocalsIf b a m (cond b (0x1100_0001 + locals_before 0 asked.methods i) 0)
  own_locals_built law i m e false none = refl
  own_locals_built law i m e true some =
      let at = locals_at 0 asked.methods i m e some in
      let is = at.before_is in
      (at.place + 1, omega (arith, is), locals_built law at.place m at.at (all_item is_writable_method asked.methods i m e sound.methods))

  body_is : (i : ℕ) (m : Method) → slice_get asked.methods i ≡ Some m → body_of a (i + 1) ≡ built_body (locals_before 0 asked.methods i) m
  unfolding built_assembly body_of
  body_is i m e =
      let next : i + 1 ≡ suc i = omega arith in
      ap (λ k. get_or (None ∷ built_bodies 0 asked.methods) k None) next ∙ body_at_row 0 asked.methods i m e

  has_body : SignaturesAreBack → (i : ℕ) (m : Method) → slice_get asked.methods i ≡ Some m → (b : Bool) → is_empty m.code ≡ b
      → HasBody a m (cond b None
      (Some (record {
        max_stack = m.max_stack;
        locals = locals_token (locals_before 0 asked.methods i) m;
        code = m.code;
        more = false;
      })))
  has_body law i m e true none = none
  has_body law i m e false some = (some, refl, refl, refl, own_locals_built law i m e (has_locals m) refl)

  pub bodies_built : SignaturesAreBack → EachRow asked.methods (λ row m. HasBody a m (body_of a row))
  bodies_built law i m e =
      subst (λ (o : Option MethodBody). HasBody a m o) (sym (body_is i m e)) (has_body law i m e (is_empty m.code) refl)

  -- ---- the lists of types

  types_count : row_count a tables.TypeDef ≡ length asked.type_defs
  types_count =
      sym (zip_length _ (cells_of asked tables.TypeDef) (table_in a tables.TypeDef) (rows_built tables.TypeDef))
      ∙ length-map asked.type_defs type_def_cells

  fields_count : row_count a tables.Field ≡ length asked.fields
  fields_count = sym (zip_length _ (cells_of asked tables.Field) (table_in a tables.Field) (rows_built tables.Field))
      ∙ length-map asked.fields field_cells

  methods_count : row_count a tables.MethodDef ≡ length asked.methods
  methods_count =
      sym (zip_length _ (cells_of asked tables.MethodDef) (table_in a tables.MethodDef) (rows_built tables.MethodDef))
      ∙ length-method_rows bodies_rva asked.methods

  type_cell : (i : ℕ) (t : TypeDef) → slice_get asked.type_defs i ≡ Some t → (n : ℕ) (cell : Cell)
      → slice_get (type_def_cells t) n ≡ Some cell
      → Names a cell (column a tables.TypeDef (i + 1) n)
  type_cell i t e =
      cell_at a tables.TypeDef (cells_of asked tables.TypeDef) (rows_built tables.TypeDef) i (type_def_cells t)
      (map_at type_def_cells asked.type_defs i t e)

  field_lists_built : (i : ℕ) (t : TypeDef) → slice_get asked.type_defs i ≡ Some t → fields_of a (i + 1) ≡ own_fields asked i
  unfolding fields_of
  field_lists_built i t e =
      own_are a tables.Field 4 (λ (t : TypeDef). t.fields_before) asked.type_defs (length asked.fields) types_count fields_count
      (λ j s f. type_cell j s f 4 (Number (s.fields_before + 1)) refl) i t e

  method_lists_built : (i : ℕ) (t : TypeDef) → slice_get asked.type_defs i ≡ Some t → methods_of a (i + 1) ≡ own_methods asked i
  unfolding methods_of
  method_lists_built i t e =
      own_are a tables.MethodDef 5 (λ (t : TypeDef). t.methods_before) asked.type_defs (length asked.methods) types_count methods_count
      (λ j s f. type_cell j s f 5 (Number (s.methods_before + 1)) refl) i t e

  -- ---- the rest

  name_built : assembly_name a ≡ Some asked.name
  unfolding assembly_name
  name_built =
      cell_at a tables.Assembly (cells_of asked tables.Assembly) (rows_built tables.Assembly) 0
      (assembly_cells asked.name) refl 7 (Text asked.name) refl

  user_strings_built : (i : ℕ) (units : List ℕ) → slice_get asked.user_strings i ≡ Some units
      → user_string_at a (length (user_heap (take i asked.user_strings))) ≡ Some (unit_bytes units)
  unfolding built_assembly content_of user_string_at
  user_strings_built i units e =
      let heap = user_heap asked.user_strings in
      user_string_back asked.user_strings (replicate (aligned 4 (length heap) - length heap) 0) i units e (room_of_strings asked sound)

  flags_built : a.flags ≡ 1
  unfolding built_assembly
  flags_built = refl

  entry_built : a.entry_token ≡ entry
  unfolding built_assembly
  entry_built = refl

  pub is_built : SignaturesAreBack → IsBuilt asked entry (built_assembly asked entry)
  is_built law = record {
    name = name_built;
    rows = rows_built;
    fields = fields_built law;
    methods = methods_built law;
    bodies = bodies_built law;
    field_lists = field_lists_built;
    method_lists = method_lists_built;
    user_strings = user_strings_built;
    flags = flags_built;
    entry_token = entry_built;
  }
