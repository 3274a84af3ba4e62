-- How long a plan's part is.
use Rattle.std.proofs.Common.{◌≡◌, ℕ, suc, zero, ◌+◌, ◌-◌, ◌*◌, ◌^◌, ◌<◌, ◌≤◌, List, [], ◌∷◌, ◌++◌, length, map, get_or, take, drop, refl}
use Rattle.std.proofs.Common.{sym, ap, ◌∙◌, arith}
use Rattle.std.proofs.lemmas.List.{length-append, map-append, take_more, drop_more}
use Rattle.native_format.specs.declared.nibbles.SlotRef.{SlotRef}
use Rattle.native_format.specs.Nibbles.{list_bytes}
use Rattle.native_format.specs.SparseLengths.{Lengths, capped, length_of, lengths_of, sparse_len}
use Rattle.native_format.specs.SparseBytes.{sparse_bytes}
use Rattle.native_format.specs.Uint.{short_uint}
use Rattle.rtr_sections.specs.declared.entries.EntryPoint.{EntryPoint}
use Rattle.rtr_sections.specs.declared.image.Image.{Image}
use Rattle.rtr_sections.specs.Parts.{content_of_entry, element_of_entry, entry_bytes, highest_row, part_bytes, parts_of, signature_bytes_of}
use Rattle.rtr_sections.specs.Plan.{IsPlan, IsWellPlanned, RowsAscend}
use Rattle.rtr_sections.proofs.Stands.{end-is}

-- ---- an entry

pub bare_content : (function : ℕ) (list : List SlotRef) → length list ≡ 0
    → length (content_of_entry function list) ≡ length (short_uint (2 * function))
bare_content function [] none = refl
bare_content function (slot ∷ slots) none = absurd (omega (arith, none))

pub listed_content : (function : ℕ) (list : List SlotRef) → 1 ≤ length list
    → length (content_of_entry function list) ≡ length (short_uint (4 * function + 1)) + length (list_bytes list)
listed_content function [] some = absurd (omega (arith, some))
listed_content function (slot ∷ slots) some = length-append (short_uint (4 * function + 1)) (list_bytes (slot ∷ slots))

-- ---- entries

abbrev pub lengths : List EntryPoint → Lengths
lengths entries = lengths_of (map element_of_entry entries)

pub lengths_more : (entries : List EntryPoint) (i : ℕ) (d e : EntryPoint) → i < length entries → e ≡ get_or entries i d
    → lengths (take i entries) ++ (e.row - 1, length (content_of_entry e.function e.fixups)) ∷ [] ≡ lengths (take (i + 1) entries)
lengths_more entries i d e lt is =
    let one : List EntryPoint = e ∷ [] in
    let next : take (i + 1) entries ≡ take i entries ++ one =
    take_more entries i d lt ∙ ap (λ (x : EntryPoint). take i entries ++ x ∷ []) (sym is) in
    sym (
    ap lengths next ∙ ap lengths_of (map-append element_of_entry (take i entries) one)
    ∙ map-append length_of (map element_of_entry (take i entries)) (map element_of_entry one)
    )

-- a row that comes next, and those after it
pub row_next : (entries : List EntryPoint) (least i : ℕ) (d e : EntryPoint) → i < length entries → e ≡ get_or entries i d
    → RowsAscend least (drop i entries)
    → (least ≤ e.row) × RowsAscend (e.row + 1) (drop (i + 1) entries)
row_next entries least i d e lt is h =
    let next : drop i entries ≡ e ∷ drop (i + 1) entries =
    drop_more entries i d lt ∙ ap (λ (x : EntryPoint). x ∷ drop (i + 1) entries) (sym is) in
    rw next at h

pub row_within : (entries : List EntryPoint) (i : ℕ) (d : EntryPoint) → i < length entries → (get_or entries i d).row ≤ highest_row entries
row_within [] i d lt = absurd (omega arith)
row_within (e ∷ es) zero d lt = omega arith
row_within (e ∷ es) (suc i) d lt = omega (arith, row_within es i d (omega arith))

pub entries_len_is : (entries : List EntryPoint)
    → length (sparse_bytes (highest_row entries) (map element_of_entry entries)) ≡ sparse_len (highest_row entries) (lengths entries)
    → sparse_len (highest_row entries) (lengths entries) ≡ length (entry_bytes entries)
unfolding entry_bytes
entries_len_is entries law = sym law

-- ---- the whole

pub part_len : (plan : Image) (at : ℕ)
    → length (part_bytes plan at)
    ≡ 90 + 12 * length plan.slots + 20 * length plan.imports + 12 * length plan.functions + length (signature_bytes_of plan.slots) + length
    (entry_bytes plan.entries)
unfolding parts_of
part_len plan at = omega (arith, end-is plan at)

-- a plan is one exactly where its length is below the limit
pub plan_is : (plan : Image) (at n : ℕ) → n ≡ capped (length (part_bytes plan at)) → IsWellPlanned plan → at ≤ 2 ^ 31 → n < 2 ^ 24
    → IsPlan plan at
plan_is plan at n is p low small = record { planned = p; small = omega (arith, is); low = low }

pub plan_short : (plan : Image) (at n : ℕ) → n ≡ capped (length (part_bytes plan at)) → IsPlan plan at → n < 2 ^ 24
plan_short plan at n is p = omega (arith, is, p.small)
