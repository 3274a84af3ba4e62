-- One index of the entries' array: the entry that is there, and the first bad place.
use Rattle.std.proofs.Common.{◌≡◌, ℕ, ◌+◌, ◌<◌, ◌≤◌, List, length, drop, Option, Some, None, Ok, Err, refl, sym, subst, arith}
use Rattle.std.proofs.lemmas.List.{length-take}
use Rattle.std.specs.Option.{IfSome}
use Rattle.rtr_bytes.specs.declared.fault.Fault.{Fault}
use Rattle.rtr_bytes.specs.declared.fault.Span.{Span}
use Rattle.native_format.specs.Sparse.{Answer, Array, IsWithin, element_of}
use Rattle.rtr_sections.specs.declared.imports.ImportSection.{ImportSection}
use Rattle.rtr_sections.specs.Entries.{bytes_in, content_place, entry_at, entry_of}
use Rattle.rtr_sections.specs.EntryHeads.{unlinked_head, unlinked_index}

-- ---- the section's array

pub within : (bytes : List ℕ) (part : Span) (array : Array) → array.bytes ≡ bytes_in bytes part → length array.bytes ≤ part.len
within bytes part array is =
    let P : List ℕ → Type 0 = λ xs. length xs ≤ part.len in
    subst P (sym is) (omega (arith, length-take part.len (drop part.start bytes)))

-- a place that the array's look-up answers

pub fault_within : (n : ℕ) (answer : Answer) (fault : Fault) → answer ≡ Err fault → IsWithin n answer → fault.place ≤ n
fault_within n answer fault e h = let P : Answer → Type 0 = λ s. IsWithin n s in subst P e h

some_within : (n : ℕ) (found : Option ℕ) → IsWithin n (Ok found) → IfSome found (λ place. place ≤ n)
some_within n None h = tt
some_within n (Some place) h = h

pub found_within : (n : ℕ) (answer : Answer) (found : Option ℕ) → answer ≡ Ok found → IsWithin n answer → IfSome found (λ place. place ≤ n)
found_within n answer found e h = let P : Answer → Type 0 = λ s. IsWithin n s in some_within n found (subst P e h)

-- ---- one index

pub entry_some : (bytes : List ℕ) (part : Span) (a : Array) (i at : ℕ) → content_place (element_of a i) ≡ Some at
    → entry_of bytes part a i ≡ entry_at bytes part (i + 1) at
entry_some bytes part a i at e = rw e refl

pub entry_none : (bytes : List ℕ) (part : Span) (a : Array) (i : ℕ) → content_place (element_of a i) ≡ None → entry_of bytes part a i ≡ None
entry_none bytes part a i e = rw e refl

pub place_some : (bytes : List ℕ) (part : Span) (imports : List ImportSection) (functions : ℕ) (a : Array) (i at : ℕ)
    → content_place (element_of a i) ≡ Some at
    → unlinked_index bytes part imports functions a i ≡ unlinked_head bytes part imports functions at
place_some bytes part imports functions a i at e = rw e refl

pub place_none : (bytes : List ℕ) (part : Span) (imports : List ImportSection) (functions : ℕ) (a : Array) (i : ℕ)
    → content_place (element_of a i) ≡ None
    → unlinked_index bytes part imports functions a i ≡ None
place_none bytes part imports functions a i e = rw e refl
