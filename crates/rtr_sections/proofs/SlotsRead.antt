-- One slot of an import section, read at its places.
use Rattle.std.proofs.Common.{◌≡◌, ℕ, ◌+◌, ◌*◌, ◌<◌, ◌≤◌, List, ◌++◌, length, drop, get_or, Option, Some, None, refl, ap, ◌∙◌, sym}
use Rattle.std.proofs.Common.{append_assoc, append-nil}
use Rattle.std.proofs.lemmas.List.{drop_all, drop_more}
use Rattle.rtr_bytes.specs.declared.fault.Fault.{Fault}
use Rattle.rtr_bytes.specs.declared.fault.ReadRefusal.{ReadRefusal}
use Rattle.rtr_bytes.specs.declared.fault.ReadRefusal.TheVariants as refusals
use Rattle.rtr_bytes.specs.Checks.{fault_or, RefusedBy}
use Rattle.rtr_sections.specs.declared.imports.ImportSection.{ImportSection}
use Rattle.rtr_sections.specs.declared.slots.Slot.{Slot}
use Rattle.rtr_sections.specs.Imports.{all_slots, signatures_at, cells_at, first_bad_of, first_bad_word, slot_at, slot_of, slots_in}

-- what was read at two places that are the slot's
pub slot_read : (bytes : List ℕ) (import : ImportSection) (array cells i : ℕ) (answer : Option Slot) → array ≡ signatures_at bytes import
    → cells ≡ cells_at bytes import → answer ≡ slot_at bytes (array + 4 * i) (cells + 8 * i) → slot_of bytes import i ≡ answer
slot_read bytes import array cells i answer a b e =
    sym (e ∙ ap (λ (t : ℕ). slot_at bytes (t + 4 * i) (cells + 8 * i)) a
    ∙ ap (λ (t : ℕ). slot_at bytes (signatures_at bytes import + 4 * i) (t + 8 * i)) b)

-- ---- one step over the import records, of which i are done

pub first_bad_of-step : (bytes : List ℕ) (imports : List ImportSection) (i : ℕ) (d : ImportSection) → i < length imports
    → first_bad_word bytes (get_or imports i d) ≡ None → first_bad_of bytes (drop (i + 1) imports) ≡ first_bad_of bytes (drop i imports)
first_bad_of-step bytes imports i d h e =
    rw (drop_more imports i d h, e) refl

pub first_bad_of-found : (bytes : List ℕ) (imports : List ImportSection) (i : ℕ) (d : ImportSection) (place : ℕ) → i < length imports
    → first_bad_word bytes (get_or imports i d) ≡ Some place → first_bad_of bytes (drop i imports) ≡ Some place
first_bad_of-found bytes imports i d place h e =
    rw (drop_more imports i d h, e) refl

pub first_bad_of-end : (bytes : List ℕ) (imports : List ImportSection) (i : ℕ) → length imports ≤ i
    → first_bad_of bytes (drop i imports) ≡ None
first_bad_of-end bytes imports i h = rw (drop_all i imports h) refl

pub all_slots-more : (bytes : List ℕ) (imports : List ImportSection) (i : ℕ) (d : ImportSection) (front now all : List Slot)
    → i < length imports → now ≡ front ++ slots_in bytes (get_or imports i d) → front ++ all_slots bytes (drop i imports) ≡ all
    → now ++ all_slots bytes (drop (i + 1) imports) ≡ all
all_slots-more bytes imports i d front now all h e told =
    rw (e, append_assoc) (rw (drop_more imports i d h) at told)

pub all_slots-end : (bytes : List ℕ) (imports : List ImportSection) (i : ℕ) (front all : List Slot) → length imports ≤ i
    → front ++ all_slots bytes (drop i imports) ≡ all → front ≡ all
all_slots-end bytes imports i front all h told =
    rw (drop_all i imports h, append-nil) at told

some_of : {P : Type 0} (o : Option ℕ) (f : Fault) → fault_or 61 o None ≡ Some f → ((place : ℕ) → o ≡ Some place → P) → P
some_of None f e go = absurd (let x : ⊥ = cc in x)
some_of (Some place) f e go = go place refl

-- the refusal of a record's slots is that of all, where those before are good
pub refused_of : (bytes : List ℕ) (imports : List ImportSection) (i : ℕ) (d : ImportSection) (e : ReadRefusal) → i < length imports
    → RefusedBy (fault_or 61 (first_bad_word bytes (get_or imports i d)) None) e
    → RefusedBy (fault_or 61 (first_bad_of bytes (drop i imports)) None) e
refused_of bytes imports i d refusals.NoMemory h told = tt
refused_of bytes imports i d (refusals.Malformed f) h told =
    some_of (first_bad_word bytes (get_or imports i d)) f told
    (λ place e. rw (first_bad_of-found bytes imports i d place h e) (rw e at told))
