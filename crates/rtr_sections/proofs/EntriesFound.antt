-- The entries of a written array: by their indexes, and all of them.
use Rattle.std.proofs.Common.{◌≡◌, ℕ, zero, suc, ◌+◌, ◌-◌, ◌^◌, ◌<◌, ◌≤◌, Bool, true, false, cond, eqb, List, [], ◌∷◌, map, Option, Some}
use Rattle.std.proofs.Common.{None, Ok, refl, sym, ap, ◌∙◌, subst, arith, inl, inr}
use Rattle.std.specs.List.{AllByRecursion}
use Rattle.std.specs.Option.{option_and_then, option_map}
use Rattle.std.proofs.lemmas.Bool.{cases_eq, eq-eqb, eqb-true, ne_eqb}
use Rattle.std.proofs.lemmas.Option.{none-some, same_Some}
use Rattle.rtr_bytes.specs.declared.fault.Span.{Span}
use Rattle.native_format.specs.Nibbles.{FitsWords}
use Rattle.native_format.specs.Laws.{WrittenIsRead}
use Rattle.native_format.specs.Sparse.{Answer, Array, array_at, element_of}
use Rattle.native_format.specs.SparseBytes.{AreElements, Finds, HoldsElements}
use Rattle.native_format.specs.SparseBytes as elements
use Rattle.rtr_sections.specs.declared.entries.EntryPoint.{EntryPoint}
use Rattle.rtr_sections.specs.Entries.{bytes_in, content_place, cut_of, entry_at, is_linked, unlinked_at}
use Rattle.rtr_sections.specs.Numbered.{first_bad, present}
use Rattle.rtr_sections.specs.Parts.{content_of_entry, element_of_entry, highest_row}
use Rattle.rtr_sections.specs.Plan.{RowsAscend, SlotsAscend}
use Rattle.rtr_sections.proofs.EntryBack.{entry_read, made}

abbrev Entries : Type 0
Entries = List EntryPoint

-- ---- by the index, which is one below the row

abbrev pub entry_of_index : Entries → ℕ → Option EntryPoint
entry_of_index [] index = None
entry_of_index (e ∷ es) index = cond (eqb (e.row - 1) index) (Some e) (entry_of_index es index)

abbrev content : EntryPoint → List ℕ
content e = content_of_entry e.function e.fixups

mapped : (b : Bool) (e : EntryPoint) (o : Option EntryPoint) (p : Option (List ℕ)) → p ≡ option_map content o
    → cond b (Some (content e)) p ≡ option_map content (cond b (Some e) o)
mapped true e o p h = refl
mapped false e o p h = h

content_is : (entries : Entries) (index : ℕ)
    → elements.content_by_index (map element_of_entry entries) index ≡ option_map content (entry_of_index entries index)
unfolding elements.content_by_index
content_is [] index = refl
content_is (e ∷ es) index = mapped (eqb (e.row - 1) index) e (entry_of_index es index) _ (content_is es index)

found_index : (entries : Entries) (index : ℕ) (e : EntryPoint) → entry_of_index entries index ≡ Some e → e.row - 1 ≡ index
found_index [] index e h = absurd (none-some e h)
found_index (x ∷ es) index e h = go (eqb (x.row - 1) index) refl (found_index es index e) h where
  go : (b : Bool) → eqb (x.row - 1) index ≡ b → (entry_of_index es index ≡ Some e → e.row - 1 ≡ index)
      → cond b (Some x) (entry_of_index es index) ≡ Some e → e.row - 1 ≡ index
  go true is later h = subst (λ (y : EntryPoint). y.row - 1 ≡ index) (same_Some x e h) (eqb-true _ _ is)
  go false is later h = later h

pub found_has : (P : EntryPoint → Type 0) (entries : Entries) (index : ℕ) (e : EntryPoint) → AllByRecursion P entries
    → entry_of_index entries index ≡ Some e → P e
found_has P [] index e all h = absurd (none-some e h)
found_has P (x ∷ es) index e all h = go (eqb (x.row - 1) index) (found_has P es index e all.1) h where
  go : (b : Bool) → (entry_of_index es index ≡ Some e → P e) → cond b (Some x) (entry_of_index es index) ≡ Some e → P e
  go true later h = subst P (same_Some x e h) all.0
  go false later h = later h

rows_some : (least : ℕ) (entries : Entries) → RowsAscend (least + 1) entries → AllByRecursion (λ e. 1 ≤ e.row) entries
rows_some least [] h = tt
rows_some least (e ∷ es) h = (omega (arith, h.0), rows_some e.row es h.1)

pub are_elements : (least count : ℕ) (entries : Entries) → RowsAscend (least + 1) entries → highest_row entries ≤ count
    → AreElements least count (map element_of_entry entries)
are_elements least count [] h high = tt
are_elements least count (e ∷ es) h high =
    let row : e.row - 1 + 1 ≡ e.row = omega (arith, h.0) in
    (omega (arith, h.0), omega (arith, h.0), rw row (are_elements e.row count es h.1 (omega arith)))

-- ---- what is read at an index

-- what is asked of an entry so that it is read back
pub record IsReadable (e : EntryPoint) : Type 0 where
  pub function : e.function < 2 ^ 24
  pub ascending : SlotsAscend e.fixups
  pub words : AllByRecursion FitsWords e.fixups

-- an answer of the array leads to the entry, or to nothing
abbrev pub Reads : List ℕ → Span → ℕ → Answer → Option EntryPoint → Type 0
Reads file part index answer None = answer ≡ Ok None
Reads file part index answer (Some e) = (place : ℕ) × (answer ≡ Ok (Some place)) × (entry_at file part (index + 1) place ≡ Some e)

reads : WrittenIsRead → (file : List ℕ) (part : Span) (index : ℕ) (answer : Answer) (o : Option EntryPoint)
    → ((e : EntryPoint) → o ≡ Some e → IsReadable e × (e.row ≡ index + 1))
    → Finds (bytes_in file part) answer (option_map content o) → Reads file part index answer o
reads laws file part index answer None has found = found
reads laws file part index answer (Some e) has found =
    let h = has e refl in
    let r = h.0 in
    let row : index + 1 ≡ e.row = sym h.1 in (
      found.0,
      found.1,
      entry_read laws file part (index + 1) e.function found.0 e.fixups r.function r.ascending r.words found.2
          ∙ ap (λ (n : ℕ). Some (made n e.function e.fixups)) row,
    )

-- the section has an array of the entries
pub record HasEntries (file : List ℕ) (part : Span) (entries : Entries) : Type 0 where
  pub array : Array
  pub is_there : array_at (bytes_in file part) 0 ≡ Some array
  pub count : array.count ≡ highest_row entries
  pub each : (index : ℕ) → Reads file part index (element_of array index) (entry_of_index entries index)

pub has_entries : WrittenIsRead → (file : List ℕ) (part : Span) (entries : Entries) → RowsAscend 1 entries
    → AllByRecursion IsReadable entries
    → HoldsElements (bytes_in file part) (highest_row entries) (map element_of_entry entries) → HasEntries file part entries
has_entries laws file part entries rows readable h = record {
  array = h.array;
  is_there = h.is_there;
  count = h.count_is;
  each = λ index. reads laws file part index (element_of h.array index) (entry_of_index entries index)
      (λ e found. (
        found_has IsReadable entries index e readable found,
        row_of e index (found_has (λ x. 1 ≤ x.row) entries index e (rows_some 0 entries rows) found) (found_index entries index e found),
      ))
      (subst (Finds (bytes_in file part) (element_of h.array index)) (content_is entries index) (h.each index));
} where
  row_of : (e : EntryPoint) (index : ℕ) → 1 ≤ e.row → e.row - 1 ≡ index → e.row ≡ index + 1
  row_of e index some is = omega arith

-- ---- from an answer on

pub entry_answered : (file : List ℕ) (part : Span) (index : ℕ) (answer : Answer) (o : Option EntryPoint) → Reads file part index answer o
    → option_and_then (entry_at file part (index + 1)) (content_place answer) ≡ o
entry_answered file part index answer None r = rw r refl
entry_answered file part index answer (Some e) r = rw r.1 r.2

pub no_cut : (file : List ℕ) (part : Span) (index : ℕ) (answer : Answer) (o : Option EntryPoint) → Reads file part index answer o
    → cut_of answer ≡ None
no_cut file part index answer None r = rw r refl
no_cut file part index answer (Some e) r = rw r.1 refl

pub none_unlinked : (file : List ℕ) (part imports : Span) (functions index : ℕ) (answer : Answer) (o : Option EntryPoint)
    → ((e : EntryPoint) → o ≡ Some e → is_linked file imports functions e ≡ true)
    → Reads file part index answer o → option_and_then (unlinked_at file part imports functions (index + 1)) (content_place answer) ≡ None
none_unlinked file part imports functions index answer None linked r = rw r refl
none_unlinked file part imports functions index answer (Some e) linked r = rw (r.1, r.2, linked e refl) refl

-- ---- all indexes

pub none_bad : (f : ℕ → Option ℕ) (i n : ℕ) → ((k : ℕ) → f k ≡ None) → first_bad f i n ≡ None
none_bad f i zero h = refl
none_bad f i (suc n) h = rw (h i) (none_bad f (i + 1) n h)

none_before : (entries : Entries) (least index : ℕ) → RowsAscend least entries → index + 2 ≤ least → entry_of_index entries index ≡ None
none_before [] least index h low = refl
none_before (e ∷ es) least index h low =
    let apart : e.row - 1 ≡ index → ⊥ = λ same. omega (arith, h.0, same) in
    rw (ne_eqb _ _ apart) (none_before es (e.row + 1) index h.1 (omega (arith, h.0)))

-- an entry of a later row is after this index
other_index : (e : EntryPoint) (es : Entries) (k : ℕ) → (e.row - 1 ≡ k → ⊥) → entry_of_index (e ∷ es) k ≡ entry_of_index es k
other_index e es k apart = rw (ne_eqb _ _ apart) refl

this_index : (e : EntryPoint) (es : Entries) (k : ℕ) → e.row - 1 ≡ k → entry_of_index (e ∷ es) k ≡ Some e
this_index e es k same = rw (eq-eqb _ _ same) refl

pub all_present : (f : ℕ → Option EntryPoint) (entries : Entries) (i n : ℕ) → RowsAscend (i + 1) entries → highest_row entries ≤ i + n
    → ((k : ℕ) → i ≤ k → f k ≡ entry_of_index entries k) → present f i n ≡ entries
all_present f [] i zero rows high h = refl
all_present f [] i (suc n) rows high h = rw (h i (omega arith)) (all_present f [] (i + 1) n tt (omega arith) (λ k le. h k (omega arith)))
all_present f (e ∷ es) i zero rows high h = absurd (omega (arith, rows.0))
all_present f (e ∷ es) i (suc n) rows high h =
    elim (cases_eq e.row (i + 1)) [
      | inl same ↦
          let here : f i ≡ Some e = h i (omega arith) ∙ this_index e es i (omega (arith, same)) in
          let later : RowsAscend (i + 1 + 1) es = subst (λ (r : ℕ). RowsAscend (r + 1) es) same rows.1 in
          rw here (ap (λ (l : Entries). e ∷ l) (all_present f es (i + 1) n later (omega arith) (λ k le. h k (omega arith)
          ∙ other_index e es k (λ at. omega (arith, at, same)))))
      | inr other ↦
          let nothing : f i ≡ None =
          h i (omega arith) ∙ none_before (e ∷ es) (i + 2) i (omega (arith, rows.0, other), rows.1) (omega arith) in
          rw nothing (all_present f (e ∷ es) (i + 1) n (omega (arith, rows.0, other), rows.1) (omega arith) (λ k le. h k (omega arith)))
    ]
