-- A call for a method, and for the name: when they leave a sound record, and what is counted then.
use Rattle.std.proofs.Common.{◌≡◌, ◌≤◌, ◌<◌, ◌+◌, ◌*◌, ◌^◌, ℕ, Bool, true, false, List, [], ◌∷◌, ◌++◌, length, refl, sym}
use Rattle.std.proofs.Common.{cond, subst, arith, inl, inr}
use Rattle.std.specs.Prelude.{◌↔◌, ◌&&◌, nat_lt, if◌then◌else◌}
use Rattle.std.proofs.lemmas.Bool.{and_from, and_parts, cases_Bool, cond-false, cond-true, lt-ltb}
use Rattle.std.proofs.lemmas.List.{length_push}
use Rattle.std.proofs.lemmas.List.Sums.{sum_by-cons, sum_by_push}
use Rattle.metadata.specs.declared.schema.Table.TheVariants as tables
use Rattle.cli_assembly.specs.Shortest.{local_sig_bytes, method_sig_bytes}
use Rattle.asm_builder.specs.declared.asked.Method.{Method}
use Rattle.asm_builder.specs.declared.asked.TypeDef.{TypeDef}
use Rattle.asm_builder.specs.Asked.{Asked, only_name, with_method}
use Rattle.asm_builder.specs.Cells.{Cell, bodies_rva, body_size, has_locals, is_empty, locals_cells, method_cells, rva_of, tables_of}
use Rattle.asm_builder.specs.Content.{blob_bytes, text_bytes}
use Rattle.asm_builder.specs.Sound.{IsSound, are_bytes, are_few, are_sound_tables, are_writable_locals, code_size}
use Rattle.asm_builder.specs.Sound.{is_name, is_writable_method}
use Rattle.asm_builder.specs.Sound.{is_writable_sig}
use Rattle.asm_builder.specs.Tested.{FitsMethod, FitsName, IsCounted, blob_room, blobs_size, capped, locals_room, strings_size, text_room}
use Rattle.asm_builder.proofs.Counts.{few_methods}
use Rattle.asm_builder.proofs.Grown.{Grown, IsCap, grown_counted, grown_room, grown_small, one_row, small_from, two_rows, within}
use Rattle.asm_builder.proofs.OneRow.{all_push, all_push_back, blob_size, blobs_sum, strings_sum, text_size, total}
use Rattle.asm_builder.proofs.OwnedMore.{owned_more, owner_is}
use Rattle.asm_builder.proofs.Padding.{size_few}
use Rattle.asm_builder.proofs.SoundCalls.{cap_one, cap_two, name_nil}
use Rattle.asm_builder.proofs.Steps.{adds_method, rva_after}

rva_few : (at : ℕ) (ms : List Method) → rva_after at ms ≤ at + 15 * length ms + code_size ms
rva_few at [] = omega arith
rva_few at (m ∷ ms) =
    let rest = rva_few (at + body_size m) ms in
    let few = size_few m in
    let sum = sum_by-cons (λ (m : Method). length m.code) m ms in
    omega (arith, rest, few, sum)

rva_small : (b : Bool) (at : ℕ) → at < 2 ^ 32 → nat_lt (cond b 0 at) (2 ^ 32) ≡ true
rva_small true at small = refl
rva_small false at small = lt-ltb at (2 ^ 32) small

abbrev locals_total : Method → ℕ
locals_total m = if has_locals m then length (blob_bytes (local_sig_bytes m.locals)) else 0

locals_capped : (m : Method) → locals_room m ≡ capped (locals_total m)
locals_capped m = by (has_locals m) (length (blob_bytes (local_sig_bytes m.locals))) where
  by : (b : Bool) (n : ℕ) → (if b then capped n else 0) ≡ capped (if b then n else 0)
  by true n = refl
  by false n = refl

module _ (a : Asked) (m : Method) where
  abbrev method_row : List Cell
  method_row = method_cells (rva_after bodies_rva a.methods) m

  method_grown : Grown a (with_method a m) tables.MethodDef method_row (total text_size method_row)
      (total blob_size method_row + locals_total m)
  method_grown = elim (cases_Bool (has_locals m)) [
    | inl holds ↦
        let is = cond-true (has_locals m) (length (blob_bytes (local_sig_bytes m.locals))) 0 holds in
        let e : total blob_size method_row + total blob_size (locals_cells m) ≡ total blob_size method_row + locals_total m =
        omega (arith, is) in
        subst (λ (n : ℕ). Grown a (with_method a m) tables.MethodDef method_row (total text_size method_row) n) e (two_rows a m holds)
    | inr fails ↦
        let is = cond-false (has_locals m) (length (blob_bytes (local_sig_bytes m.locals))) 0 fails in
        let e : total blob_size method_row ≡ total blob_size method_row + locals_total m = omega (arith, is) in
        subst (λ (n : ℕ). Grown a (with_method a m) tables.MethodDef method_row (total text_size method_row) n) e
        (one_row a (with_method a m) tables.MethodDef method_row (adds_method a m fails))
  ]

  method_texts : IsCap (total text_size method_row) (text_room m.name)
  method_texts = cap_one (total text_size method_row) (length (text_bytes m.name)) (omega arith)

  method_blobs : IsCap (total blob_size method_row + locals_total m) (blob_room (method_sig_bytes m.sig) + locals_room m)
  method_blobs =
      subst (λ (n : ℕ). IsCap (total blob_size method_row + locals_total m) (blob_room (method_sig_bytes m.sig) + n))
      (sym (locals_capped m))
      (cap_two (total blob_size method_row + locals_total m) (length (blob_bytes (method_sig_bytes m.sig))) (locals_total m) (omega arith))

  one_method : length (a.methods ++ m ∷ []) ≡ length a.methods + 1
  one_method = length_push a.methods m

  code_more : code_size (a.methods ++ m ∷ []) ≡ code_size a.methods + length m.code
  code_more = sum_by_push (λ (m : Method). length m.code) a.methods m

  pub method_iff : m.flags < 2 ^ 16 → m.max_stack < 2 ^ 16 → IsSound a → FitsMethod a m ↔ IsSound (with_method a m)
  method_iff few_flags few_stack sound =
      let w = within a sound.small in
      let g = method_grown in
      let at = rva_after bodies_rva a.methods in
      let rva = nat_lt (rva_of at m) (2 ^ 32) in
      let flags = nat_lt m.flags (2 ^ 32) in
      let low = nat_lt m.flags (2 ^ 16) in
      let stack = nat_lt m.max_stack (2 ^ 16) in
      let tail = are_writable_locals m.locals && are_bytes m.code in
      let placed = rva_few bodies_rva a.methods in
      let count = few_methods a sound (length a.methods) refl in
      let code = w.code in (
        λ fits. record {
          name = sound.name;
          cells = g.cells sound (and_from rva (flags && (is_name m.name && true))
              (rva_small (is_empty m.code) at (omega (arith, placed, count, code)))
              (and_from flags (is_name m.name && true) (lt-ltb m.flags (2 ^ 32) (omega (arith, few_flags)))
              (and_from (is_name m.name) true fits.name_fits refl)));
          fields = sound.fields;
          methods = all_push is_writable_method a.methods m sound.methods
              (and_from low (is_writable_sig m.sig && (stack && tail)) (lt-ltb m.flags (2 ^ 16) few_flags)
              (and_from (is_writable_sig m.sig) (stack && tail) fits.sig_fits
              (and_from stack tail (lt-ltb m.max_stack (2 ^ 16) few_stack)
              (and_from (are_writable_locals m.locals) (are_bytes m.code) fits.locals_fit fits.bytes_fit))));
          field_lists = sound.field_lists;
          method_lists = owned_more (λ (t : TypeDef). t.methods_before) (length a.methods) a.type_defs (length (a.methods ++ m ∷ []))
              one_method fits.owner_fits sound.method_lists;
          few = g.few sound fits.room_fits.rows_fit;
          small = let here = fits.code_fits in
              grown_small _ _ _ _ _ _ _ _ g method_texts method_blobs fits.room_fits w.user (omega (arith, here, code_more));
        },
        λ all.
            let row = and_parts rva (flags && (is_name m.name && true)) (g.row_is all.cells) in
            let named = and_parts flags (is_name m.name && true) row.1 in
            let own = and_parts low (is_writable_sig m.sig && (stack && tail)) (all_push_back is_writable_method a.methods m all.methods) in
            let sig = and_parts (is_writable_sig m.sig) (stack && tail) own.1 in
            let rest = and_parts (are_writable_locals m.locals) (are_bytes m.code) (and_parts stack tail sig.1).1 in
            let after = (within (with_method a m) all.small).code in
            record {
              owner_fits = owner_is (λ (t : TypeDef). t.methods_before) (length a.methods) a.type_defs (length (a.methods ++ m ∷ []))
                  one_method all.method_lists;
              name_fits = (and_parts (is_name m.name) true named.1).0;
              sig_fits = sig.0;
              locals_fit = rest.0;
              bytes_fit = rest.1;
              code_fits = omega (arith, after, code_more);
              room_fits = grown_room _ _ _ _ _ _ _ _ g method_texts method_blobs all;
            },
      )

  pub method_counted : (s v k s' v' k' : ℕ) → IsCounted a s v k → IsSound (with_method a m)
      → (s + text_room m.name < 2 ^ 24 → s' ≡ s + text_room m.name)
      → (v + (blob_room (method_sig_bytes m.sig) + locals_room m) < 2 ^ 24
      → v' ≡ v + (blob_room (method_sig_bytes m.sig) + locals_room m))
      → (k + capped (length m.code) < 2 ^ 24 → k' ≡ k + capped (length m.code)) → IsCounted (with_method a m) s' v' k'
  method_counted s v k s' v' k' counted all plus more longer =
      let after = (within (with_method a m) all.small).code in
      let is = counted.code_is in
      let sum = longer (omega (arith, after, is, code_more)) in
      grown_counted _ _ _ _ _ _ _ _ method_grown method_texts method_blobs s v k counted all s' v' k' plus more
      (omega (arith, after, is, code_more, sum))

-- ---- the name

only_cells : (b n : Bool) → b ≡ true → n ≡ true → (((b && true) && true) && (((b && (n && true)) && true) && true)) ≡ true
only_cells true true e f = refl
only_cells b n e f = cc

named_cells : (name : List ℕ) → is_name name ≡ true → are_sound_tables (tables_of (only_name name)) ≡ true
unfolding tables_of
named_cells name ok = only_cells (is_name name) (is_name []) ok name_nil

name_of_cells : (name : List ℕ) → FitsName name → is_name name ≡ true
name_of_cells name fits = fits.name_fits

only_few : (name : List ℕ) → are_few (tables_of (only_name name)) ≡ true
unfolding tables_of
only_few name = refl

only_strings : (name : List ℕ) → strings_size (only_name name) ≡ 1 + (length (text_bytes name) + length (text_bytes name))
unfolding strings_size tables_of
only_strings name = let sum = strings_sum (tables_of (only_name name)) in omega (arith, sum)

only_blobs : (name : List ℕ) → blobs_size (only_name name) ≡ 1
unfolding blobs_size tables_of
only_blobs name = let sum = blobs_sum (tables_of (only_name name)) in omega (arith, sum)

pub name_iff : (name : List ℕ) → FitsName name ↔ IsSound (only_name name)
name_iff name =
    let strings = only_strings name in
    let blobs = only_blobs name in (
      λ fits. let room = fits.room_fits in record {
        name = fits.name_fits;
        cells = named_cells name fits.name_fits;
        fields = refl;
        methods = refl;
        field_lists = refl;
        method_lists = refl;
        few = only_few name;
        small = small_from (only_name name) (record {
          strings = omega (arith, strings, room);
          blobs = omega (arith, blobs);
          user = omega arith;
          code = omega arith;
        });
      },
      λ sound.
          let w = within (only_name name) sound.small in
          let below = w.strings in
          record { name_fits = sound.name; room_fits = omega (arith, below, strings) },
    )

pub name_counted : (name : List ℕ) (s : ℕ) → IsSound (only_name name)
    → (text_room name + text_room name + 1 < 2 ^ 24 → s ≡ text_room name + text_room name + 1) → IsCounted (only_name name) s 1 0
name_counted name s sound plus =
    let strings = only_strings name in
    let blobs = only_blobs name in
    let below = (within (only_name name) sound.small).strings in
    let sum = plus (omega (arith, below, strings)) in
    record {
      is_sound = sound;
      strings_are = omega (arith, below, strings, sum);
      blobs_are = sym blobs;
      code_is = refl;
    }
