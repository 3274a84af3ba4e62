-- The entries of a written image, read back.
use Rattle.std.proofs.Common.{◌≡◌, ℕ, ◌+◌, ◌*◌, ◌^◌, ◌<◌, ◌≤◌, true, List, [], ◌++◌, length, map, take, drop, Some, None, refl, sym, ap}
use Rattle.std.proofs.Common.{◌∙◌, subst, arith}
use Rattle.std.specs.List.{AllByRecursion, flat_map}
use Rattle.std.specs.Option.{option_map}
use Rattle.std.proofs.lemmas.Bool.{le-leb, ne_eqb}
use Rattle.std.proofs.lemmas.List.{append-nil}
use Rattle.std.proofs.lemmas.List.Elements.{recursion_from_All}
use Rattle.rtr_bytes.specs.declared.fault.Span.{Span}
use Rattle.native_format.specs.declared.nibbles.SlotRef.{SlotRef}
use Rattle.native_format.specs.Nibbles.{FitsWords}
use Rattle.native_format.specs.Laws.{WrittenIsRead}
use Rattle.native_format.specs.Sparse.{element_of}
use Rattle.native_format.specs.SparseBytes.{HoldsElements, sparse_bytes}
use Rattle.rtr_sections.specs.declared.entries.EntryPoint.{EntryPoint}
use Rattle.rtr_sections.specs.declared.image.Image.{Image}
use Rattle.rtr_sections.specs.Entries.{array_in, bad_array, bytes_in, cut_place, entries_in, entries_of, entry_of, first_cut, first_cut_of}
use Rattle.rtr_sections.specs.Entries.{first_unlinked, first_unlinked_of, is_linked, names_slot, unlinked_place}
use Rattle.rtr_sections.specs.Functions.{function_count}
use Rattle.rtr_sections.specs.Header.{part_of}
use Rattle.rtr_sections.specs.Parts.{element_of_entry, entry_bytes, highest_row, import_bytes, parts_of, written_imports}
use Rattle.rtr_sections.specs.Plan.{IsPlan, Names, RowsAscend}
use Rattle.rtr_sections.specs.Written.{Carries}
use Rattle.rtr_sections.proofs.Types.{FitsTypes}
use Rattle.rtr_sections.proofs.EntriesFound.{HasEntries, IsReadable, all_present, are_elements, entry_answered, entry_of_index, found_has}
use Rattle.rtr_sections.proofs.EntriesFound.{has_entries, no_cut, none_bad, none_unlinked}
use Rattle.rtr_sections.proofs.EntriesLinked.{IsSized, all_pass, entry_linked, slot_named}
use Rattle.rtr_sections.proofs.FunctionsBack.{functions_counted}
use Rattle.rtr_sections.proofs.HeaderBack.{entries_part, imports_part}
use Rattle.rtr_sections.proofs.Stands.{IsPart, are_parts, end-is}

-- ---- the array of a section whose bytes are those of the entries

bytes_some : WrittenIsRead → (entries : List EntryPoint) → 1 ≤ length (entry_bytes entries)
unfolding entry_bytes
bytes_some laws entries = laws.some (highest_row entries) (map element_of_entry entries)

held : WrittenIsRead → (bytes : List ℕ) (entries : List EntryPoint) → bytes ≡ entry_bytes entries → RowsAscend 1 entries
    → length (entry_bytes entries) < 2 ^ 24 → HoldsElements bytes (highest_row entries) (map element_of_entry entries)
unfolding entry_bytes
held laws bytes entries is rows small =
    let count = highest_row entries in
    let es = map element_of_entry entries in
    let whole : sparse_bytes count es ++ [] ≡ bytes = append-nil (sparse_bytes count es) ∙ sym is in
    subst (λ (t : List ℕ). HoldsElements t count es) whole (laws.arrays count es [] (are_elements 0 count entries rows (omega arith)) small)

record IsArray (file : List ℕ) (part : Span) (entries : List EntryPoint) : Type 0 where
  pub some : part.len ≡ 0 → ⊥
  pub has : HasEntries file part entries

is_array : WrittenIsRead → (file : List ℕ) (part : Span) (entries : List EntryPoint) → part.len ≡ length (entry_bytes entries)
    → take (length (entry_bytes entries)) (drop part.start file) ≡ entry_bytes entries
    → RowsAscend 1 entries → length (entry_bytes entries) < 2 ^ 24 → AllByRecursion IsReadable entries → IsArray file part entries
is_array laws file part entries len same rows small readable =
    let bytes_are : bytes_in file part ≡ entry_bytes entries = ap (λ (n : ℕ). take n (drop part.start file)) len ∙ same in
    let array : HoldsElements (bytes_in file part) (highest_row entries) (map element_of_entry entries) =
    held laws (bytes_in file part) entries bytes_are rows small in
    record {
      some = λ none. omega (arith, len, none, bytes_some laws entries);
      has = has_entries laws file part entries rows readable
          array;
    }

array_is : (file : List ℕ) (part : Span) (entries : List EntryPoint) → (a : IsArray file part entries)
    → array_in file part ≡ Some a.has.array
array_is file part entries a = rw (ne_eqb _ _ a.some) a.has.is_there

-- ---- what is read of it

all_entries : (file : List ℕ) (part : Span) (entries : List EntryPoint) → RowsAscend 1 entries → IsArray file part entries
    → entries_in file part ≡ entries
unfolding entries_in
all_entries file part entries rows a =
    let h = a.has in
    let count : h.array.count ≡ highest_row entries = h.count in
    ap (entries_of file part) (array_is file part entries a)
    ∙ all_present (entry_of file part h.array) entries 0 h.array.count rows (omega (arith, count))
    (λ k le. entry_answered file part k (element_of h.array k) (entry_of_index entries k) (h.each k))

few_rows : (file : List ℕ) (part : Span) (entries : List EntryPoint) (rows : ℕ) → highest_row entries ≤ rows → IsArray file part entries
    → bad_array rows file part ≡ None
unfolding bad_array
few_rows file part entries rows le a =
    let h = a.has in
    rw (ne_eqb _ _ a.some, h.is_there, h.count, le-leb _ _ le) refl

none_cut : (file : List ℕ) (part : Span) (entries : List EntryPoint) → IsArray file part entries → first_cut file part ≡ None
unfolding first_cut
none_cut file part entries a =
    let h = a.has in
    ap (first_cut_of part) (array_is file part entries a)
    ∙ none_bad (cut_place part.start h.array) 0 h.array.count
    (λ k. ap (option_map (λ place. part.start + place)) (no_cut file part k (element_of h.array k) (entry_of_index entries k) (h.each k)))

all_linked : (file : List ℕ) (part imports : Span) (functions : ℕ) (entries : List EntryPoint)
    → AllByRecursion (λ e. is_linked file imports functions e ≡ true) entries → IsArray file part entries
    → first_unlinked file part imports functions ≡ None
unfolding first_unlinked
all_linked file part imports functions entries linked a =
    let h = a.has in
    ap (first_unlinked_of file part imports functions) (array_is file part entries a)
    ∙ none_bad (unlinked_place file part imports functions h.array) 0 h.array.count
    (λ k. none_unlinked file part imports functions k (element_of h.array k) (entry_of_index entries k)
    (λ e found. found_has (λ x. is_linked file imports functions x ≡ true) entries k e linked found) (h.each k))

-- ---- a plan's

few_functions : (plan : Image) (at : ℕ) → IsPlan plan at → length plan.functions < 2 ^ 24
few_functions plan at p =
    let s = are_parts plan in omega (arith, p.small, end-is plan at, s.end, s.entries, s.signatures, s.identifier, s.unwinds)

few_bytes : (plan : Image) (at : ℕ) → IsPlan plan at → length (entry_bytes plan.entries) < 2 ^ 24
few_bytes plan at p = let s = are_parts plan in omega (arith, p.small, end-is plan at, s.end)

readable : (plan : Image) (at : ℕ) → IsPlan plan at → FitsTypes plan → AllByRecursion IsReadable plan.entries
readable plan at p f = recursion_from_All IsReadable plan.entries (λ k d lt.
    let e = p.planned.entries k d lt in
    record {
      function = omega (arith, e.function, few_functions plan at p);
      ascending = e.ascending;
      words = recursion_from_All FitsWords _ (f.entries k d lt);
    })

arrayed : WrittenIsRead → (file : List ℕ) (plan : Image) (at rows : ℕ) → IsPlan plan at → FitsTypes plan → Carries file plan at rows
    → IsArray file (part_of file 103) plan.entries
arrayed laws file plan at rows p f c =
    let part = entries_part file plan at rows p f c in
    is_array laws file (part_of file 103) plan.entries part.len part.bytes p.planned.rows (few_bytes plan at p) (readable plan at p f)

named : (file : List ℕ) (plan : Image) (at : ℕ) (r : SlotRef) → FitsTypes plan
    → IsPart file 101 (flat_map import_bytes (written_imports plan at)) → Names plan.imports r.section r.slot
    → names_slot file (part_of file 101) r ≡ true
unfolding written_imports
named file plan at r f part names =
    let sized : AllByRecursion IsSized plan.imports = recursion_from_All IsSized plan.imports (λ k d lt. (f.imports k d lt).0) in
    slot_named file (part_of file 101) at (at + (parts_of plan).arrays) plan.imports r sized part.len part.inside part.bytes names

linked : (file : List ℕ) (plan : Image) (at rows : ℕ) → IsPlan plan at → FitsTypes plan → Carries file plan at rows
    → AllByRecursion (λ e. is_linked file (part_of file 101) (function_count (part_of file 102)) e ≡ true) plan.entries
linked file plan at rows p f c =
    let functions : function_count (part_of file 102) ≡ length plan.functions = functions_counted file plan at rows p f c in
    let imports = imports_part file plan at rows p f c in
    recursion_from_All (λ e. is_linked file (part_of file 101) (function_count (part_of file 102)) e ≡ true) plan.entries (λ k d lt.
    let e = p.planned.entries k d lt in
    entry_linked file (part_of file 101) (function_count (part_of file 102)) _ (omega (arith, functions, e.function))
    (all_pass (λ r. Names plan.imports r.section r.slot) (names_slot file (part_of file 101)) _ (recursion_from_All _ _ e.slots)
    (λ r names. named file plan at r f imports names)))

pub entries_back : WrittenIsRead → (file : List ℕ) (plan : Image) (at rows : ℕ) → IsPlan plan at → FitsTypes plan
    → Carries file plan at rows
    → entries_in file (part_of file 103) ≡ plan.entries
entries_back laws file plan at rows p f c =
    all_entries file (part_of file 103) plan.entries p.planned.rows (arrayed laws file plan at rows p f c)

pub array_good : WrittenIsRead → (file : List ℕ) (plan : Image) (at rows : ℕ) → IsPlan plan at → FitsTypes plan → Carries file plan at rows
    → bad_array rows file (part_of file 103) ≡ None
array_good laws file plan at rows p f c =
    few_rows file (part_of file 103) plan.entries rows c.enough_rows (arrayed laws file plan at rows p f c)

pub paths_good : WrittenIsRead → (file : List ℕ) (plan : Image) (at rows : ℕ) → IsPlan plan at → FitsTypes plan → Carries file plan at rows
    → first_cut file (part_of file 103) ≡ None
paths_good laws file plan at rows p f c = none_cut file (part_of file 103) plan.entries (arrayed laws file plan at rows p f c)

pub entries_linked : WrittenIsRead → (file : List ℕ) (plan : Image) (at rows : ℕ) → IsPlan plan at → FitsTypes plan
    → Carries file plan at rows
    → first_unlinked file (part_of file 103) (part_of file 101) (function_count (part_of file 102)) ≡ None
entries_linked laws file plan at rows p f c =
    all_linked file (part_of file 103) (part_of file 101) (function_count (part_of file 102)) plan.entries (linked file plan at rows p f c)
    (arrayed laws file plan at rows p f c)
