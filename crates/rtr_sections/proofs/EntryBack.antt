-- One written entry, read where it is in the section.
use Rattle.std.proofs.Common.{◌≡◌, ℕ, ◌+◌, ◌*◌, ◌/◌, ◌%◌, ◌^◌, ◌<◌, List, [], ◌∷◌, ◌++◌, length, take, drop, Some, refl, sym, ap, ◌∙◌}
use Rattle.std.proofs.Common.{append_assoc, arith}
use Rattle.std.specs.List.{AllByRecursion}
use Rattle.std.specs.Option.{option_and_then, option_map}
use Rattle.std.proofs.lemmas.Bool.{eq-eqb, ne_eqb}
use Rattle.std.proofs.lemmas.List.{drop_at, drop-drop, length-append, take-append-drop}
use Rattle.rtr_bytes.specs.declared.fault.Span.{Span}
use Rattle.native_format.specs.declared.nibbles.SlotRef.{SlotRef}
use Rattle.native_format.specs.Nibbles.{FitsWords, IsSlotList, list_at, list_bytes}
use Rattle.native_format.specs.SparseBytes.{StandsAt}
use Rattle.native_format.specs.Uint.{short_uint, uint_at}
use Rattle.native_format.specs.Laws.{WrittenIsRead}
use Rattle.rtr_sections.specs.declared.entries.EntryPoint.{EntryPoint}
use Rattle.rtr_sections.specs.Entries.{bytes_in, entry_at, entry_of_id, entry_point, fixups_of_id, function_of_id}
use Rattle.rtr_sections.specs.Parts.{content_of_entry}
use Rattle.rtr_sections.specs.Plan.{SlotsAscend}

-- ---- by the id that is read

by_id : (file : List ℕ) (part : Span) (row at id behind : ℕ) → uint_at (bytes_in file part) at ≡ Some (id, behind)
    → entry_at file part row at ≡ entry_of_id file part row (id, behind)
unfolding entry_at
by_id file part row at id behind e = ap (option_and_then (entry_of_id file part row)) e

abbrev pub made : ℕ → ℕ → List SlotRef → EntryPoint
made row function list = record { row = row; function = function; fixups = list }

bare_function : (function : ℕ) → function_of_id (2 * function) ≡ function
bare_function function =
    let even : 2 * function % 2 ≡ 0 = omega arith in
    rw (eq-eqb _ _ even) (omega arith)

listed_function : (function : ℕ) → function_of_id (4 * function + 1) ≡ function
listed_function function =
    let odd : (4 * function + 1) % 2 ≡ 0 → ⊥ = λ same. omega (arith, same) in
    rw (ne_eqb _ _ odd) (omega arith)

bare_list : (file : List ℕ) (part : Span) (function behind : ℕ) → fixups_of_id file part (2 * function) behind ≡ Some []
bare_list file part function behind =
    let even : 2 * function % 2 ≡ 0 = omega arith in
    rw (eq-eqb _ _ even) refl

own_list : (file : List ℕ) (part : Span) (function behind : ℕ)
    → fixups_of_id file part (4 * function + 1) behind ≡ list_at file (part.start + behind)
own_list file part function behind =
    let odd : (4 * function + 1) % 2 ≡ 0 → ⊥ = λ same. omega (arith, same) in
    let here : (4 * function + 1) / 2 % 2 ≡ 0 = omega arith in
    rw (ne_eqb _ _ odd, eq-eqb _ _ here) refl

-- the entry of an id, by what the id says
of_id : (file : List ℕ) (part : Span) (row id behind function : ℕ) (list : List SlotRef) → function_of_id id ≡ function
    → fixups_of_id file part id behind ≡ Some list → entry_of_id file part row (id, behind) ≡ Some (made row function list)
of_id file part row id behind function list p q = ap (option_map (entry_point row id)) q ∙ ap (λ (f : ℕ). Some (made row f list)) p

-- ---- the list, which the file's end bounds

-- what is at a place of the section is in the file, with what is after the section
in_file : (file front piece behind : List ℕ) (start len place : ℕ) → take len (drop start file) ≡ front ++ (piece ++ behind)
    → place ≡ length front
    → drop (start + place) file ≡ piece ++ (behind ++ drop len (drop start file))
in_file file front piece behind start len place is at =
    let rest = drop len (drop start file) in
    let whole : drop start file ≡ front ++ (piece ++ (behind ++ rest)) =
    sym (take-append-drop len (drop start file)) ∙ ap (λ (t : List ℕ). t ++ rest) is ∙ append_assoc front (piece ++ behind) rest
    ∙ ap (λ (t : List ℕ). front ++ t) (append_assoc piece behind rest) in
    sym (drop-drop place start file) ∙ ap (drop place) whole ∙ drop_at front (piece ++ (behind ++ rest)) place (sym at)

list_read : WrittenIsRead → (file front behind : List ℕ) (start len place : ℕ) (list : List SlotRef) → IsSlotList list
    → AllByRecursion FitsWords list
    → take len (drop start file) ≡ front ++ (list_bytes list ++ behind) → place ≡ length front → list_at file (start + place) ≡ Some list
list_read laws file front behind start len place list ascending fit is at =
    let there : drop (start + place) file ≡ list_bytes list ++ (behind ++ drop len (drop start file)) =
    in_file file front (list_bytes list) behind start len place is at in
    laws.lists list file (behind ++ drop len (drop start file)) (start + place) ascending fit there

-- ---- the entry

id_read : WrittenIsRead → (bytes front behind : List ℕ) (id place : ℕ) → bytes ≡ front ++ (short_uint id ++ behind) → place ≡ length front
    → id < 2 ^ 32
    → uint_at bytes place ≡ Some (id, place + length (short_uint id))
id_read laws bytes front behind id place is at small =
    rw (is, at) (laws.integers id front behind small)

pub entry_read : WrittenIsRead → (file : List ℕ) (part : Span) (row function place : ℕ) (fixups : List SlotRef) → function < 2 ^ 24
    → SlotsAscend fixups
    → AllByRecursion FitsWords fixups
    → StandsAt (bytes_in file part) place (content_of_entry function fixups)
    → entry_at file part row place ≡ Some (made row function fixups)
entry_read laws file part row function place [] small ascend fit s =
    by_id file part row place (2 * function) _
    (id_read laws (bytes_in file part) s.front s.behind (2 * function) place s.bytes_are s.place_is (omega arith))
    ∙ of_id file part row (2 * function) _ function [] (bare_function function) (bare_list file part function _)
entry_read laws file part row function place (slot ∷ slots) small ascend fit s =
    let list = slot ∷ slots in
    let id = short_uint (4 * function + 1) in
    let flat : bytes_in file part ≡ s.front ++ (id ++ (list_bytes list ++ s.behind)) =
    s.bytes_are ∙ ap (λ (t : List ℕ). s.front ++ t) (append_assoc id (list_bytes list) s.behind) in
    let behind_id : bytes_in file part ≡ (s.front ++ id) ++ (list_bytes list ++ s.behind) =
    flat ∙ sym (append_assoc s.front id (list_bytes list ++ s.behind)) in
    let place_is : place ≡ length s.front = s.place_is in
    let next : place + length id ≡ length (s.front ++ id) = omega (arith, length-append s.front id) in
    by_id file part row place (4 * function + 1) _ (id_read laws (bytes_in file part) s.front (list_bytes list ++ s.behind)
    (4 * function + 1) place flat s.place_is (omega arith))
    ∙ of_id file part row (4 * function + 1) (place + length id) function list (listed_function function)
    (own_list file part function (place + length id)
    ∙ list_read laws file (s.front ++ id) s.behind part.start part.len (place + length id) list ascend fit behind_id next)
