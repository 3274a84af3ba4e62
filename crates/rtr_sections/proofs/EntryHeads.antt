-- An entry by its head and the list at its place is the entry that is read whole.
use Rattle.std.proofs.Common.{◌≡◌, ℕ, zero, suc, ◌+◌, ◌*◌, ◌/◌, ◌%◌, ◌==◌, ◌&&◌, ◌<◌, ◌≤◌, Bool, true, false, cond, ltb, List, [], ◌∷◌}
use Rattle.std.proofs.Common.{Option, Some, None, inl, inr, refl, ap, ◌∙◌}
use Rattle.std.specs.Option.{option_and_then, option_map, option_map_or}
use Rattle.std.specs.List.{list_all}
use Rattle.std.proofs.lemmas.Bool.{cases_lt, le-ltb, lt-ltb}
use Rattle.rtr_bytes.specs.declared.fault.Span.{Span}
use Rattle.native_format.specs.declared.nibbles.SlotRef.{SlotRef}
use Rattle.native_format.specs.Nibbles.{list_at}
use Rattle.native_format.specs.Sparse.{Array, element_of}
use Rattle.native_format.specs.Uint.{uint_at}
use Rattle.rtr_sections.specs.declared.entries.EntryHead.{EntryHead}
use Rattle.rtr_sections.specs.declared.entries.EntryPoint.{EntryPoint}
use Rattle.rtr_sections.specs.Numbered.{first_bad}
use Rattle.rtr_sections.specs.Imports.{import_at, import_count, imports_in}
use Rattle.rtr_sections.specs.Entries.{first_unlinked_of as unlinked_by_row, array_in, bytes_in, content_place, entry_at, entry_of_id}
use Rattle.rtr_sections.specs.Entries.{first_unlinked, function_of_id, is_linked, list_place, names_slot, unlinked_at, unlinked_place}
use Rattle.rtr_sections.specs.EntryHeads.{first_unlinked_of as unlinked_by_head, entry_of_head, exists_in, first_unlinked_in, head, head_at}
use Rattle.rtr_sections.specs.EntryHeads.{head_of_id, is_linked_head, links_at, unlinked_head, unlinked_index}
use Rattle.rtr_sections.proofs.Listed.{record_past, record_there}

-- ---- the whole entry

made_by_id : (bytes : List ℕ) (row function : ℕ) (bare : Bool) (place : Option ℕ)
    → option_map (λ slots. record { row = row; function = function; fixups = slots })
    (cond bare (Some []) (option_and_then (list_at bytes) place))
    ≡ option_and_then (entry_of_head bytes row) (cond bare (Some (head function None)) (option_map (λ p. head function (Some p)) place))
made_by_id bytes row function true place = refl
made_by_id bytes row function false None = refl
made_by_id bytes row function false (Some p) = refl

made_by_head : (bytes : List ℕ) (part : Span) (row : ℕ) (id : Option (ℕ × ℕ))
    → option_and_then (entry_of_id bytes part row) id
    ≡ option_and_then (entry_of_head bytes row) (option_and_then (λ id. head_of_id (bytes_in bytes part) part.start id.0 id.1) id)
made_by_head bytes part row None = refl
made_by_head bytes part row (Some (id, behind)) =
    made_by_id bytes row (function_of_id id) (id % 2 == 0) (list_place (bytes_in bytes part) part.start id behind)

pub entry_by_head : (bytes : List ℕ) (part : Span) (row at : ℕ)
    → entry_at bytes part row at ≡ option_and_then (entry_of_head bytes row) (head_at bytes part at)
unfolding entry_at head_at
entry_by_head bytes part row at = made_by_head bytes part row (uint_at (bytes_in bytes part) at)

-- ---- what it names

slot_exists : (bytes : List ℕ) (imports : Span) (r : SlotRef) → names_slot bytes imports r ≡ exists_in (imports_in bytes imports) r
unfolding imports_in
slot_exists bytes imports r =
    elim (cases_lt r.section (import_count imports)) [
      | inl below ↦ rw (
        lt-ltb r.section (import_count imports) below,
        record_there (import_at bytes) imports.start 20
            (import_count imports) r.section below,
      ) refl
      | inr above ↦ rw (
        le-ltb r.section (import_count imports) above,
        record_past (import_at bytes) imports.start 20
            (import_count imports) r.section above,
      ) refl
    ]

all_alike : {X : Type 0} (f g : X → Bool) (xs : List X) → ((x : X) → f x ≡ g x) → list_all f xs ≡ list_all g xs
all_alike f g [] same = refl
all_alike f g (x ∷ xs) same = rw (same x, all_alike f g xs same) refl

linked_list : (bytes : List ℕ) (imports : Span) (functions row function : ℕ) (list : Option (List SlotRef))
    → option_map_or (is_linked bytes imports functions)
    (option_map (λ slots. record { row = row; function = function; fixups = slots }) list) false
    ≡ (ltb function functions && option_map_or (list_all (exists_in (imports_in bytes imports))) list false)
unfolding is_linked
linked_list bytes imports functions row function None = no_and (ltb function functions)
  where
    no_and : (b : Bool) → false ≡ (b && false)
    no_and true = refl
    no_and false = refl
linked_list bytes imports functions row function (Some slots) =
    ap (λ (b : Bool). ltb function functions && b) (all_alike _ _ slots (slot_exists bytes imports))

linked_head : (bytes : List ℕ) (imports : Span) (functions row : ℕ) (h : EntryHead)
    → option_map_or (is_linked bytes imports functions) (entry_of_head bytes row h) false ≡ is_linked_head bytes
    (imports_in bytes imports) functions h
unfolding links_at is_linked
linked_head bytes imports functions row h = go h.list
  where
    go : (list : Option ℕ)
        → option_map_or (is_linked bytes imports functions)
        (option_map (λ slots. record { row = row; function = h.function; fixups = slots })
        (option_map_or (list_at bytes) list (Some []))) false
        ≡ (ltb h.function functions && option_map_or (links_at bytes (imports_in bytes imports)) list true)
    go None = refl
    go (Some p) = linked_list bytes imports functions row h.function (list_at bytes p)

linked_of : (bytes : List ℕ) (imports : Span) (functions row : ℕ) (h : Option EntryHead)
    → option_map_or (is_linked bytes imports functions) (option_and_then (entry_of_head bytes row) h) false
    ≡ option_map_or (is_linked_head bytes (imports_in bytes imports) functions) h false
linked_of bytes imports functions row None = refl
linked_of bytes imports functions row (Some h) = linked_head bytes imports functions row h

unlinked_is : (bytes : List ℕ) (part imports : Span) (functions row at : ℕ)
    → unlinked_at bytes part imports functions row at ≡ unlinked_head bytes part (imports_in bytes imports) functions at
unlinked_is bytes part imports functions row at =
    ap (λ (b : Bool). cond b None (Some (part.start + at)))
    (ap (λ (o : Option EntryPoint). option_map_or (is_linked bytes imports functions) o false) (entry_by_head bytes part row at)
    ∙ linked_of bytes imports functions row (head_at bytes part at))

-- ---- of all entries

index_is : (bytes : List ℕ) (part imports : Span) (functions : ℕ) (array : Array) (index : ℕ)
    → unlinked_place bytes part imports functions array index ≡ unlinked_index bytes part (imports_in bytes imports) functions array index
index_is bytes part imports functions array index = go (content_place (element_of array index))
  where
    go : (at : Option ℕ)
        → option_and_then (unlinked_at bytes part imports functions (index + 1)) at ≡ option_and_then
        (unlinked_head bytes part (imports_in bytes imports) functions) at
    go None = refl
    go (Some at) = unlinked_is bytes part imports functions (index + 1) at

bad_alike : (f g : ℕ → Option ℕ) (i n : ℕ) → ((k : ℕ) → f k ≡ g k) → first_bad f i n ≡ first_bad g i n
bad_alike f g i zero same = refl
bad_alike f g i (suc n) same = rw (same i, bad_alike f g (i + 1) n same) refl

first_of : (bytes : List ℕ) (part imports : Span) (functions : ℕ) (array : Option Array)
    → unlinked_by_row bytes part imports functions array ≡ unlinked_by_head bytes part (imports_in bytes imports) functions array
first_of bytes part imports functions None = refl
first_of bytes part imports functions (Some array) = bad_alike _ _ 0 array.count (index_is bytes part imports functions array)

pub first_is : (bytes : List ℕ) (part imports : Span) (functions : ℕ)
    → first_unlinked bytes part imports functions ≡ first_unlinked_in bytes part (imports_in bytes imports) functions
unfolding first_unlinked first_unlinked_in
first_is bytes part imports functions = first_of bytes part imports functions (array_in bytes part)
