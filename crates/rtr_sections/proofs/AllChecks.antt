-- The first fault over all checks of the ReadyToRun part, by the groups in which they are made.
use Rattle.std.proofs.Common.{◌≡◌, ℕ, ◌++◌, Bool, true, false, cond, List, Option, Some, None, is_some, refl, ◌∙◌}
use Rattle.rtr_bytes.specs.declared.fault.Fault.{Fault}
use Rattle.rtr_bytes.specs.declared.fault.ReadRefusal.{ReadRefusal}
use Rattle.rtr_bytes.specs.declared.fault.ReadRefusal.TheVariants as refusals
use Rattle.rtr_bytes.specs.Checks.{fault_or, first_fault, RefusedBy}
use Rattle.rtr_bytes.proofs.Joined.{first_fault-append, first_fault-append_some}
use Rattle.pe_image.specs.Headers.{native_of}
use Rattle.rtr_sections.specs.Header.{header_checks, is_own, part_of}
use Rattle.rtr_sections.specs.Imports.{unplaced_cells}
use Rattle.rtr_sections.specs.Image.{image_checks, own_checks, rtr_checks}

-- a header that is refused
pub refused_header : (rows : ℕ) (bytes : List ℕ) (e : ReadRefusal) → RefusedBy (first_fault header_checks bytes) e
    → RefusedBy (first_fault (rtr_checks rows) bytes) e
unfolding rtr_checks
refused_header rows bytes refusals.NoMemory told = tt
refused_header rows bytes (refusals.Malformed f) told = first_fault-append_some header_checks (image_checks ++ own_checks rows) bytes f told

after_header : (rows : ℕ) (bytes : List ℕ) → first_fault header_checks bytes ≡ None
    → first_fault (rtr_checks rows) bytes ≡ first_fault (image_checks ++ own_checks rows) bytes
unfolding rtr_checks
after_header rows bytes h = first_fault-append header_checks (image_checks ++ own_checks rows) bytes h

pub some_fault : (native : Bool) (n : ℕ) (o : Option ℕ) (others : Option Fault) (f : Fault) → native ≡ true → fault_or n o None ≡ Some f
    → fault_or n (cond native o None) others ≡ Some f
some_fault true n None others f h e = absurd (let x : ⊥ = cc in x)
some_fault true n (Some place) others f h e = e
some_fault false n o others f h e = absurd (let x : ⊥ = cc in x)

pub no_fault : (native : Bool) (n : ℕ) (o : Option ℕ) (others : Option Fault) → native ≡ true → o ≡ None
    → fault_or n (cond native o None) others ≡ others
no_fault true n o others h e = rw e refl
no_fault false n o others h e = absurd (let x : ⊥ = cc in x)

-- import records that are refused
pub refused_imports : (rows : ℕ) (bytes : List ℕ) (e : ReadRefusal) → is_some (native_of bytes) ≡ true
    → first_fault header_checks bytes ≡ None
    → RefusedBy (fault_or 22 (unplaced_cells bytes (part_of bytes 101)) None) e → RefusedBy (first_fault (rtr_checks rows) bytes) e
refused_imports rows bytes refusals.NoMemory native h told = tt
refused_imports rows bytes (refusals.Malformed f) native h told =
    after_header rows bytes h
    ∙ some_fault (is_some (native_of bytes)) 22 (unplaced_cells bytes (part_of bytes 101))
    (first_fault (own_checks rows) bytes) f native told

-- what is left are the checks of images of this compiler
pub after_imports : (rows : ℕ) (bytes : List ℕ) → is_some (native_of bytes) ≡ true → first_fault header_checks bytes ≡ None
    → unplaced_cells bytes (part_of bytes 101) ≡ None
    → first_fault (rtr_checks rows) bytes ≡ first_fault (own_checks rows) bytes
after_imports rows bytes native h placed =
    after_header rows bytes h
    ∙ no_fault (is_some (native_of bytes)) 22 (unplaced_cells bytes (part_of bytes 101))
    (first_fault (own_checks rows) bytes) native placed

-- of which a foreign one fails none
pub none_foreign : (rows : ℕ) (bytes : List ℕ) → is_some (native_of bytes) ≡ true → is_own bytes ≡ false
    → first_fault (own_checks rows) bytes ≡ None
none_foreign rows bytes native foreign = rw (native, foreign) refl

-- an image of this compiler that is refused
pub refused_own : (rows : ℕ) (bytes : List ℕ) (e : ReadRefusal) → is_some (native_of bytes) ≡ true → first_fault header_checks bytes ≡ None
    → unplaced_cells bytes (part_of bytes 101) ≡ None → RefusedBy (first_fault (own_checks rows) bytes) e
    → RefusedBy (first_fault (rtr_checks rows) bytes) e
refused_own rows bytes refusals.NoMemory native h placed told = tt
refused_own rows bytes (refusals.Malformed f) native h placed told = after_imports rows bytes native h placed ∙ told
