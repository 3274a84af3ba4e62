-- What each call adds: one row more of a table.
use Rattle.std.proofs.Common.{◌≡◌, ◌+◌, ℕ, List, [], ◌∷◌, ◌++◌, refl, ap, ◌∙◌, true, false}
use Rattle.std.specs.Prelude.{Bool, if◌then◌else◌}
use Rattle.std.proofs.lemmas.List.{append-nil, map-append}
use Rattle.cli_assembly.specs.declared.signature.TypeSig.{TypeSig}
use Rattle.asm_builder.specs.declared.asked.Method.{Method}
use Rattle.asm_builder.specs.Asked.{Asked, type_def, with_assembly_ref, with_attribute, with_field, with_member_ref, with_method}
use Rattle.asm_builder.specs.Asked.{with_type_def, with_type_ref, with_user_string}
use Rattle.asm_builder.specs.Cells.{Cell, assembly_ref_cells, attribute_cells, bodies_rva, body_size, field_cells, has_locals}
use Rattle.asm_builder.specs.Cells.{locals_cells, locals_of, member_ref_cells, method_cells, method_rows, tables_of, type_def_cells}
use Rattle.asm_builder.specs.Cells.{type_ref_cells}
use Rattle.asm_builder.proofs.OneRow.{add_row}

pub adds_assembly_ref : (a : Asked) (name : List ℕ)
    → tables_of (with_assembly_ref a name) ≡ add_row 0x23 (assembly_ref_cells name) (tables_of a)
unfolding tables_of
adds_assembly_ref a name = rw map-append refl

pub adds_type_ref : (a : Asked) (parent : ℕ) (space name : List ℕ)
    → tables_of (with_type_ref a parent space name)
    ≡ add_row 0x01 (type_ref_cells (record { parent = parent; space = space; name = name })) (tables_of a)
unfolding tables_of
adds_type_ref a parent space name = rw map-append refl

pub adds_type_def : (a : Asked) (flags : ℕ) (space name : List ℕ) (base : ℕ)
    → tables_of (with_type_def a flags space name base)
    ≡ add_row 0x02 (type_def_cells (type_def a flags space name base)) (tables_of a)
unfolding tables_of
adds_type_def a flags space name base = rw map-append refl

pub adds_field : (a : Asked) (flags : ℕ) (name : List ℕ) (sig : TypeSig)
    → tables_of (with_field a flags name sig)
    ≡ add_row 0x04 (field_cells (record { flags = flags; name = name; sig = sig })) (tables_of a)
unfolding tables_of
adds_field a flags name sig = rw map-append refl

pub adds_member_ref : (a : Asked) (parent : ℕ) (name sig : List ℕ)
    → tables_of (with_member_ref a parent name sig)
    ≡ add_row 0x0A (member_ref_cells (record { parent = parent; name = name; sig = sig })) (tables_of a)
unfolding tables_of
adds_member_ref a parent name sig = rw map-append refl

pub adds_attribute : (a : Asked) (parent constructor : ℕ) (value : List ℕ)
    → tables_of (with_attribute a parent constructor value)
    ≡ add_row 0x0C (attribute_cells (record { parent = parent; constructor = constructor; value = value })) (tables_of a)
unfolding tables_of
adds_attribute a parent constructor value = rw map-append refl

pub adds_user_string : (a : Asked) (units : List ℕ) → tables_of (with_user_string a units) ≡ tables_of a
unfolding tables_of
adds_user_string a units = refl

-- the RVA of the body of one method more
abbrev pub rva_after : ℕ → List Method → ℕ
rva_after at [] = at
rva_after at (m ∷ ms) = rva_after (at + body_size m) ms

rows_more : (at : ℕ) (ms : List Method) (m : Method)
    → method_rows at (ms ++ m ∷ []) ≡ method_rows at ms ++ method_cells (rva_after at ms) m ∷ []
rows_more at [] m = refl
rows_more at (x ∷ ms) m = ap (λ (l : List (List Cell)). method_cells at x ∷ l) (rows_more (at + body_size x) ms m)

by_locals : (b : Bool) (x : Method) (ms ns : List Method) → locals_of ns ≡ ms
    → (if b then x ∷ locals_of ns else locals_of ns) ≡ (if b then x ∷ ms else ms)
by_locals true x ms ns e = ap (λ (l : List Method). x ∷ l) e
by_locals false x ms ns e = e

push_if : (b : Bool) (x : Method) (ms ns : List Method) → (if b then x ∷ (ms ++ ns) else ms ++ ns) ≡ (if b then x ∷ ms else ms) ++ ns
push_if true x ms ns = refl
push_if false x ms ns = refl

pub locals_more : (ms : List Method) (m : Method) → locals_of (ms ++ m ∷ []) ≡ locals_of ms ++ locals_of (m ∷ [])
locals_more [] m = refl
locals_more (x ∷ ms) m =
    by_locals (has_locals x) x (locals_of ms ++ locals_of (m ∷ [])) (ms ++ m ∷ []) (locals_more ms m)
    ∙ push_if (has_locals x) x (locals_of ms) (locals_of (m ∷ []))

-- a method without locals adds one row, and one with locals two
pub adds_method : (a : Asked) (m : Method) → has_locals m ≡ false
    → tables_of (with_method a m) ≡ add_row 0x06 (method_cells (rva_after bodies_rva a.methods) m) (tables_of a)
unfolding tables_of
adds_method a m e =
    rw (rows_more bodies_rva a.methods m, locals_more a.methods m, e, append-nil) refl

pub adds_both : (a : Asked) (m : Method) → has_locals m ≡ true
    → tables_of (with_method a m)
    ≡ add_row 0x11 (locals_cells m) (add_row 0x06 (method_cells (rva_after bodies_rva a.methods) m) (tables_of a))
unfolding tables_of
adds_both a m e = rw (rows_more bodies_rva a.methods m, locals_more a.methods m, e, map-append) refl
