-- No plan's part is longer than its bound.
use Rattle.std.proofs.Common.{◌≡◌, ℕ, ◌+◌, ◌*◌, ◌≤◌, List, [], ◌∷◌, ◌++◌, length, map, All, arith}
use Rattle.std.specs.Prelude.{sum_by}
use Rattle.std.specs.List.{AllByRecursion}
use Rattle.std.proofs.lemmas.List.{length-append}
use Rattle.std.proofs.lemmas.List.Elements.{recursion_from_All}
use Rattle.std.proofs.lemmas.List.Sums.{sum_by-cons}
use Rattle.native_format.specs.declared.nibbles.SlotRef.{SlotRef}
use Rattle.native_format.specs.declared.sparse.Element.{Element}
use Rattle.native_format.specs.Laws.{LengthsAreBounded}
use Rattle.native_format.specs.Nibbles.{FitsWords, list_bytes}
use Rattle.native_format.specs.Sparse.{blocks_of}
use Rattle.native_format.specs.Uint.{short_uint}
use Rattle.fixup_sigs.specs.declared.fixup.Fixup.{Fixup}
use Rattle.fixup_sigs.specs.Shortest.{fixup_bytes}
use Rattle.rtr_sections.specs.declared.entries.EntryPoint.{EntryPoint}
use Rattle.rtr_sections.specs.declared.image.Image.{Image}
use Rattle.rtr_sections.specs.declared.slots.Slot.{Slot}
use Rattle.rtr_sections.specs.Bounds.{HasWords, entry_bound, length_bound}
use Rattle.rtr_sections.specs.Parts.{content_of_entry, element_of_entry, entry_bytes, highest_row, part_bytes, signature_bytes_of}
use Rattle.rtr_sections.proofs.Lengths.{part_len}

-- ---- the entries

content_bounded : LengthsAreBounded → (function : ℕ) (list : List SlotRef) → AllByRecursion FitsWords list
    → length (content_of_entry function list) ≤ 7 + 17 * length list
content_bounded laws function [] fit = omega (arith, laws.integers (2 * function))
content_bounded laws function (slot ∷ slots) fit =
    omega (
      arith,
      length-append (short_uint (4 * function + 1)) (list_bytes (slot ∷ slots)),
      laws.integers (4 * function + 1),
      laws.lists (slot ∷ slots) fit,
    )

element_cost : Element → ℕ
element_cost e = 20 + length e.content

elements_bounded : LengthsAreBounded → (entries : List EntryPoint) → AllByRecursion HasWords entries
    → sum_by element_cost (map element_of_entry entries) ≤ sum_by entry_bound entries
unfolding element_cost
elements_bounded laws [] words = omega arith
elements_bounded laws (e ∷ es) words =
    omega (
      arith,
      sum_by-cons element_cost (element_of_entry e) (map element_of_entry es),
      sum_by-cons entry_bound e es,
      content_bounded laws e.function e.fixups (recursion_from_All FitsWords e.fixups words.0),
      elements_bounded laws es words.1,
    )

entries_bounded : LengthsAreBounded → (entries : List EntryPoint) → AllByRecursion HasWords entries
    → length (entry_bytes entries) ≤ 5 + 5 * blocks_of (highest_row entries) + sum_by entry_bound entries
unfolding entry_bytes element_cost
entries_bounded laws entries words =
    omega (arith, laws.arrays (highest_row entries) (map element_of_entry entries), elements_bounded laws entries words)

-- ---- the signatures

signatures_bounded : ((fixup : Fixup) → length (fixup_bytes fixup) ≤ 10) → (slots : List Slot)
    → length (signature_bytes_of slots) ≤ 10 * length slots
signatures_bounded most [] = omega arith
signatures_bounded most (s ∷ slots) =
    omega (arith, length-append (fixup_bytes s.fixup) (signature_bytes_of slots), most s.fixup, signatures_bounded most slots)

-- ---- the whole

pub part_bounded : LengthsAreBounded → ((fixup : Fixup) → length (fixup_bytes fixup) ≤ 10) → (plan : Image) (at : ℕ)
    → All HasWords plan.entries → length (part_bytes plan at) ≤ length_bound plan
part_bounded laws most plan at words =
    omega (
      arith,
      part_len plan at,
      signatures_bounded most plan.slots,
      entries_bounded laws plan.entries (recursion_from_All HasWords plan.entries words),
    )
