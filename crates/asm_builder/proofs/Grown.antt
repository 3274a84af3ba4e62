-- What a record has with one row more: when it is sound, and how large its heaps are.
use Rattle.std.proofs.Common.{◌≡◌, ◌≤◌, ◌<◌, ◌+◌, ◌^◌, ℕ, Bool, true, false, List, [], ◌∷◌, length, get_or, refl, sym, ap, ◌∙◌}
use Rattle.std.proofs.Common.{subst, arith}
use Rattle.std.specs.Prelude.{◌&&◌, nat_lt, IsTrue, if◌then◌else◌}
use Rattle.std.specs.List.{list_all}
use Rattle.std.proofs.lemmas.Bool.{and_from, and_parts, lt-ltb, ltb-true}
use Rattle.std.proofs.lemmas.List.{length-map}
use Rattle.metadata.specs.declared.schema.Table.{Table}
use Rattle.metadata.specs.declared.schema.Table.TheVariants as tables
use Rattle.metadata.specs.Schema.{table_number}
use Rattle.asm_builder.specs.declared.asked.Method.{Method}
use Rattle.asm_builder.specs.Asked.{Asked, with_method}
use Rattle.asm_builder.specs.Cells.{Cell, bodies_rva, cells_of, has_locals, locals_cells, locals_of, method_cells, tables_of, user_heap}
use Rattle.asm_builder.specs.Content.{all_after, no_heaps}
use Rattle.asm_builder.specs.Sound.{IsSound, are_few, are_small_heaps, are_sound_rows, are_sound_tables, code_size, is_small}
use Rattle.asm_builder.specs.Sound.{is_sound_cell, rows_asked}
use Rattle.asm_builder.specs.Tested.{HasRoom, IsCounted, blobs_size, one_more, rows_with, strings_size}
use Rattle.asm_builder.proofs.Counts.{cells_are, count_is, length-method_rows, table_below}
use Rattle.asm_builder.proofs.OneRow.{add_row, all_add, all_add_back, all_add_front, blob_size, blobs_sum, few_add, few_add_back}
use Rattle.asm_builder.proofs.OneRow.{few_add_front, length-add_row, more_le, other_table, rows-add_row, sound_mono, strings_sum}
use Rattle.asm_builder.proofs.OneRow.{text_size, total, total_add}
use Rattle.asm_builder.proofs.Steps.{adds_both, rva_after}

abbrev Tables : Type 0
Tables = List (List (List Cell))

module _ (ts us : Tables) (n : ℕ) (row : List Cell) (step : us ≡ add_row n row ts) (below : n < length ts) where
  pub rows_grow : rows_asked us ≡ one_more n (rows_asked ts)
  rows_grow = ap (λ (t : Tables). rows_asked t) step ∙ rows-add_row n row ts

  no_fewer : (m : ℕ) → get_or (rows_asked ts) m 0 ≤ get_or (rows_asked us) m 0
  no_fewer m = subst (λ (r : List ℕ). get_or (rows_asked ts) m 0 ≤ get_or r m 0) (sym rows_grow) (more_le n m (rows_asked ts))

  pub cells_grow : are_sound_tables ts ≡ true → list_all (is_sound_cell (rows_asked us)) row ≡ true → are_sound_tables us ≡ true
  cells_grow old new =
      subst (λ (t : Tables). list_all (are_sound_rows (rows_asked us)) t ≡ true) (sym step)
      (all_add (list_all (is_sound_cell (rows_asked us))) row n ts (sound_mono (rows_asked ts) (rows_asked us) no_fewer ts old) new)

  pub row_back : are_sound_tables us ≡ true → list_all (is_sound_cell (rows_asked us)) row ≡ true
  row_back all =
      all_add_back (list_all (is_sound_cell (rows_asked us))) row n ts below
      (subst (λ (t : Tables). list_all (are_sound_rows (rows_asked us)) t ≡ true) step all)

  pub few_grow : are_few ts ≡ true → length (get_or ts n []) + 1 < 2 ^ 24 → are_few us ≡ true
  few_grow old one = subst (λ (t : Tables). are_few t ≡ true) (sym step) (few_add n row ts old one)

  pub few_back : are_few us ≡ true → length (get_or ts n []) + 1 < 2 ^ 24
  few_back all = few_add_back n row ts below (subst (λ (t : Tables). are_few t ≡ true) step all)

  pub strings_grow : length (all_after no_heaps us).strings ≡ length (all_after no_heaps ts).strings + total text_size row
  strings_grow =
      let before = strings_sum ts in
      let after = strings_sum us in
      let same = ap (λ (t : Tables). total (total (total text_size)) t) step in
      let more = total_add (total text_size) n row ts below in
      omega (arith, before, after, same, more)

  pub blobs_grow : length (all_after no_heaps us).blobs ≡ length (all_after no_heaps ts).blobs + total blob_size row
  blobs_grow =
      let before = blobs_sum ts in
      let after = blobs_sum us in
      let same = ap (λ (t : Tables). total (total (total blob_size)) t) step in
      let more = total_add (total blob_size) n row ts below in
      omega (arith, before, after, same, more)

-- a record with one row more in a table, and so many bytes more in each heap
pub record Grown (a b : Asked) (table : Table) (row : List Cell) (texts blobs : ℕ) : Type 0 where
  pub cells : IsSound a → list_all (is_sound_cell (rows_with a table)) row ≡ true → are_sound_tables (tables_of b) ≡ true
  pub row_is : are_sound_tables (tables_of b) ≡ true → list_all (is_sound_cell (rows_with a table)) row ≡ true
  pub few : IsSound a → length (cells_of a table) + 1 < 2 ^ 24 → are_few (tables_of b) ≡ true
  pub few_is : are_few (tables_of b) ≡ true → length (cells_of a table) + 1 < 2 ^ 24
  pub strings_are : strings_size b ≡ strings_size a + texts
  pub blobs_are : blobs_size b ≡ blobs_size a + blobs

pub one_row : (a b : Asked) (table : Table) (row : List Cell) → tables_of b ≡ add_row (table_number table) row (tables_of a)
    → Grown a b table row (total text_size row) (total blob_size row)
unfolding rows_with strings_size blobs_size
one_row a b table row step =
    let all = count_is a in
    let small = table_below table in
    let below : table_number table < length (tables_of a) = omega (arith, all, small) in
    let rows = rows_grow (tables_of a) (tables_of b) (table_number table) row step below in
    let count = ap (λ (l : List (List Cell)). length l) (cells_are a table) in
    record {
      cells = λ sound ok. cells_grow (tables_of a) (tables_of b) (table_number table) row step below sound.cells
          (subst (λ (r : List ℕ). list_all (is_sound_cell r) row ≡ true) (sym rows) ok);
      row_is = λ ok. subst (λ (r : List ℕ). list_all (is_sound_cell r) row ≡ true) rows
          (row_back (tables_of a) (tables_of b) (table_number table) row step below ok);
      few = λ sound one. few_grow (tables_of a) (tables_of b) (table_number table) row step below sound.few (omega (arith, one, count));
      few_is = λ ok. let one = few_back (tables_of a) (tables_of b) (table_number table) row step below ok in omega (arith, one, count);
      strings_are = strings_grow (tables_of a) (tables_of b) (table_number table) row step below;
      blobs_are = blobs_grow (tables_of a) (tables_of b) (table_number table) row step below;
    }

-- ---- a method with locals has two rows

locals_few : (ms : List Method) → length (locals_of ms) ≤ length ms
locals_few [] = omega arith
locals_few (m ∷ ms) = by (has_locals m) (locals_few ms) where
  by : (b : Bool) → length (locals_of ms) ≤ length ms → length (if b then m ∷ locals_of ms else locals_of ms) ≤ length (m ∷ ms)
  by true le = omega (arith, le)
  by false le = omega (arith, le)

module _ (a : Asked) (m : Method) (has : has_locals m ≡ true) where
  abbrev own : List Cell
  own = method_cells (rva_after bodies_rva a.methods) m

  abbrev mid : Tables
  mid = add_row 0x06 own (tables_of a)

  abbrev all : Tables
  all = add_row 0x11 (locals_cells m) mid

  six : 0x06 < length (tables_of a)
  six = let count = count_is a in omega (arith, count)

  seventeen : 0x11 < length mid
  seventeen = let count = count_is a in let same = length-add_row 0x06 own (tables_of a) in omega (arith, count, same)

  locals_room_is : length (cells_of a tables.MethodDef) + 1 < 2 ^ 24 → length (get_or mid 0x11 []) + 1 < 2 ^ 24
  locals_room_is one =
      let same = ap (λ (l : List (List Cell)). length l) (other_table 0x06 0x11 own (tables_of a) (λ e. omega (arith, e))) in
      let count = ap (λ (l : List (List Cell)). length l) (cells_are a tables.StandAloneSig) in
      let each = length-map (locals_of a.methods) locals_cells in
      let rows = length-method_rows bodies_rva a.methods in
      let few = locals_few a.methods in
      omega (arith, one, same, count, each, rows, few)

  pub two_rows : Grown a (with_method a m) tables.MethodDef own (total text_size own)
      (total blob_size own + total blob_size (locals_cells m))
  unfolding rows_with strings_size blobs_size
  two_rows =
      let step = adds_both a m has in
      let count = ap (λ (l : List (List Cell)). length l) (cells_are a tables.MethodDef) in
      let t1 = strings_grow (tables_of a) mid 0x06 own refl six in
      let t2 = strings_grow mid (tables_of (with_method a m)) 0x11 (locals_cells m) step seventeen in
      let b1 = blobs_grow (tables_of a) mid 0x06 own refl six in
      let b2 = blobs_grow mid (tables_of (with_method a m)) 0x11 (locals_cells m) step seventeen in
      record {
        cells = λ sound ok. cells_grow mid (tables_of (with_method a m)) 0x11 (locals_cells m) step seventeen
            (cells_grow (tables_of a) mid 0x06 own refl six sound.cells ok) refl;
        row_is = λ ok. all_add_back (list_all (is_sound_cell (rows_asked (tables_of (with_method a m))))) own 0x06 (tables_of a) six
            (all_add_front (list_all (is_sound_cell (rows_asked (tables_of (with_method a m))))) (locals_cells m) 0x11 mid
            (subst (λ (t : Tables). list_all (are_sound_rows (rows_asked (tables_of (with_method a m)))) t ≡ true) step ok));
        few = λ sound one. few_grow mid (tables_of (with_method a m)) 0x11 (locals_cells m) step seventeen
            (few_grow (tables_of a) mid 0x06 own refl six sound.few (omega (arith, one, count))) (locals_room_is one);
        few_is = λ ok. let one = few_back (tables_of a) mid 0x06 own refl six
            (few_add_front 0x11 (locals_cells m) mid (subst (λ (t : Tables). are_few t ≡ true) step ok)) in omega (arith, one, count);
        strings_are = omega (arith, t1, t2);
        blobs_are = omega (arith, b1, b2);
      }

-- ---- room

pub record AreWithin (a : Asked) : Type 0 where
  pub strings : strings_size a < 2 ^ 24
  pub blobs : blobs_size a < 2 ^ 24
  pub user : length (user_heap a.user_strings) < 2 ^ 24
  pub code : code_size a.methods < 2 ^ 24

pub within : (a : Asked) → IsTrue (is_small a) → AreWithin a
unfolding strings_size blobs_size
within a ok =
    let heaps = all_after no_heaps (tables_of a) in
    let both = and_parts (are_small_heaps heaps)
    (nat_lt (length (user_heap a.user_strings)) (2 ^ 24) && nat_lt (code_size a.methods) (2 ^ 24)) ok in
    let own = and_parts (nat_lt (length heaps.strings) (2 ^ 24)) (nat_lt (length heaps.blobs) (2 ^ 24)) both.0 in
    let rest = and_parts (nat_lt (length (user_heap a.user_strings)) (2 ^ 24)) (nat_lt (code_size a.methods) (2 ^ 24)) both.1 in
    record {
      strings = ltb-true (length heaps.strings) (2 ^ 24) own.0;
      blobs = ltb-true (length heaps.blobs) (2 ^ 24) own.1;
      user = ltb-true (length (user_heap a.user_strings)) (2 ^ 24) rest.0;
      code = ltb-true (code_size a.methods) (2 ^ 24) rest.1;
    }

pub small_from : (a : Asked) → AreWithin a → IsTrue (is_small a)
unfolding strings_size blobs_size
small_from a w =
    let heaps = all_after no_heaps (tables_of a) in
    and_from (are_small_heaps heaps)
    (nat_lt (length (user_heap a.user_strings)) (2 ^ 24) && nat_lt (code_size a.methods) (2 ^ 24))
    (and_from (nat_lt (length heaps.strings) (2 ^ 24)) (nat_lt (length heaps.blobs) (2 ^ 24))
    (lt-ltb (length heaps.strings) (2 ^ 24) w.strings) (lt-ltb (length heaps.blobs) (2 ^ 24) w.blobs))
    (and_from (nat_lt (length (user_heap a.user_strings)) (2 ^ 24)) (nat_lt (code_size a.methods) (2 ^ 24))
    (lt-ltb (length (user_heap a.user_strings)) (2 ^ 24) w.user) (lt-ltb (code_size a.methods) (2 ^ 24) w.code))

-- sizes as they are counted: exact where they are below 2^24, and never more than they are
pub record IsCap (size counted : ℕ) : Type 0 where
  pub exact : counted < 2 ^ 24 → size ≡ counted
  pub within_size : counted ≤ size

module _ (a b : Asked) (table : Table) (row : List Cell) (texts blobs t u : ℕ) (g : Grown a b table row texts blobs) (tc : IsCap texts t)
    (bc : IsCap blobs u) where
  pub grown_small : HasRoom a table t u → length (user_heap b.user_strings) < 2 ^ 24 → code_size b.methods < 2 ^ 24 → IsTrue (is_small b)
  grown_small room user code =
      let s = room.strings_fit in
      let v = room.blobs_fit in
      let st = tc.exact (omega (arith, s)) in
      let bt = bc.exact (omega (arith, v)) in
      let sg = g.strings_are in
      let bg = g.blobs_are in
      small_from b (record { strings = omega (arith, s, st, sg); blobs = omega (arith, v, bt, bg); user = user; code = code })

  pub grown_room : IsSound b → HasRoom a table t u
  grown_room sound =
      let w = within b sound.small in
      let st = tc.within_size in
      let bt = bc.within_size in
      let sg = g.strings_are in
      let bg = g.blobs_are in
      let ws = w.strings in
      let wb = w.blobs in
      record { rows_fit = g.few_is sound.few; strings_fit = omega (arith, ws, st, sg); blobs_fit = omega (arith, wb, bt, bg) }

  pub grown_counted : (s v code : ℕ) → IsCounted a s v code → IsSound b → (s' v' code' : ℕ) → (s + t < 2 ^ 24 → s' ≡ s + t)
      → (v + u < 2 ^ 24 → v' ≡ v + u) → code' ≡ code_size b.methods → IsCounted b s' v' code'
  grown_counted s v code counted sound s' v' code' plus more ce =
      let room = grown_room sound in
      let rs = room.strings_fit in
      let rb = room.blobs_fit in
      let st = tc.exact (omega (arith, rs)) in
      let bt = bc.exact (omega (arith, rb)) in
      let sg = g.strings_are in
      let bg = g.blobs_are in
      let sa = counted.strings_are in
      let ba = counted.blobs_are in
      let se = plus (omega (arith, rs, sa)) in
      let ve = more (omega (arith, rb, ba)) in
      record {
        is_sound = sound;
        strings_are = omega (arith, se, sa, sg, st);
        blobs_are = omega (arith, ve, ba, bg, bt);
        code_is = ce;
      }
