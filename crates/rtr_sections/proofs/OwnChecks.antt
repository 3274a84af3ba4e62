-- The first fault of an image of this compiler after its import records' cells, by the answers of its checks.
use Rattle.std.proofs.Common.{◌≡◌, ℕ, true, List, Option, Some, None, is_some, refl, ◌∙◌}
use Rattle.rtr_bytes.specs.declared.fault.Fault.{Fault}
use Rattle.rtr_bytes.specs.declared.fault.ReadRefusal.{ReadRefusal}
use Rattle.rtr_bytes.specs.declared.fault.ReadRefusal.TheVariants as refusals
use Rattle.rtr_bytes.specs.Checks.{fault_or, first_fault, RefusedBy}
use Rattle.pe_image.specs.Headers.{native_of}
use Rattle.rtr_sections.specs.Header.{is_own, part_of}
use Rattle.rtr_sections.specs.Imports.{first_bad_of, foreign_import, imports_in, out_of_order}
use Rattle.rtr_sections.specs.Functions.{bad_function, function_count}
use Rattle.rtr_sections.specs.Entries.{bad_array, first_cut, first_unlinked}
use Rattle.rtr_sections.specs.Image.{own_checks}

-- the place of each check, none where it holds
pub record Answers : Type 0 where
  pub form : Option ℕ
  pub slot : Option ℕ
  pub function : Option ℕ
  pub array : Option ℕ
  pub path : Option ℕ
  pub entry : Option ℕ
  pub order : Option ℕ

abbrev pub entries_of : Answers → Option Fault → Option Fault
entries_of a others = fault_or 63 a.array (fault_or 64 a.path (fault_or 65 a.entry others))

abbrev pub first_of : Answers → Option Fault
first_of a = fault_or 60 a.form (fault_or 61 a.slot (fault_or 62 a.function (entries_of a (fault_or 66 a.order None))))

abbrev pub answers_of : ℕ → List ℕ → Answers
answers_of rows bytes = record {
  form = foreign_import bytes (part_of bytes 101);
  slot = first_bad_of bytes (imports_in bytes (part_of bytes 101));
  function = bad_function bytes (part_of bytes 102);
  array = bad_array rows bytes (part_of bytes 103);
  path = first_cut bytes (part_of bytes 103);
  entry = first_unlinked bytes (part_of bytes 103) (part_of bytes 101) (function_count (part_of bytes 102));
  order = out_of_order bytes (part_of bytes 101);
}

pub own_are : (rows : ℕ) (bytes : List ℕ) → is_some (native_of bytes) ≡ true → is_own bytes ≡ true
    → first_fault (own_checks rows) bytes ≡ first_of (answers_of rows bytes)
own_are rows bytes native own = rw (native, own) refl

-- ---- one answer after others

found : (n : ℕ) (o : Option ℕ) (others : Option Fault) (e : ReadRefusal) → RefusedBy (fault_or n o None) e
    → RefusedBy (fault_or n o others) e
found n o others refusals.NoMemory told = tt
found n None others (refusals.Malformed f) told = absurd (let x : ⊥ = cc in x)
found n (Some place) others (refusals.Malformed f) told = told

found_entries : (a b c : Option ℕ) (others : Option Fault) (e : ReadRefusal)
    → RefusedBy (fault_or 63 a (fault_or 64 b (fault_or 65 c None))) e
    → RefusedBy (fault_or 63 a (fault_or 64 b (fault_or 65 c others))) e
found_entries a b c others refusals.NoMemory told = tt
found_entries (Some p) b c others (refusals.Malformed f) told = told
found_entries None (Some p) c others (refusals.Malformed f) told = told
found_entries None None (Some p) others (refusals.Malformed f) told = told
found_entries None None None others (refusals.Malformed f) told = absurd (let x : ⊥ = cc in x)

pub bad_form : (a : Answers) (e : ReadRefusal) → RefusedBy (fault_or 60 a.form None) e → RefusedBy (first_of a) e
bad_form a e told = found 60 a.form _ e told

pub bad_slot : (a : Answers) (e : ReadRefusal) → a.form ≡ None → RefusedBy (fault_or 61 a.slot None) e → RefusedBy (first_of a) e
bad_slot a e form told = rw form (found 61 a.slot _ e told)

pub bad_functions : (a : Answers) (e : ReadRefusal) → a.form ≡ None → a.slot ≡ None → RefusedBy (fault_or 62 a.function None) e
    → RefusedBy (first_of a) e
bad_functions a e form slot told = rw (form, slot) (found 62 a.function _ e told)

pub bad_entries : (a : Answers) (e : ReadRefusal) → a.form ≡ None → a.slot ≡ None → a.function ≡ None → RefusedBy (entries_of a None) e
    → RefusedBy (first_of a) e
bad_entries a e form slot function told = rw (form, slot, function) (found_entries a.array a.path a.entry _ e told)

-- all but the last hold
pub record AllBut (a : Answers) : Type 0 where
  pub form : a.form ≡ None
  pub slot : a.slot ≡ None
  pub function : a.function ≡ None
  pub array : a.array ≡ None
  pub path : a.path ≡ None
  pub entry : a.entry ≡ None

pub last_is : (a : Answers) → AllBut a → first_of a ≡ fault_or 66 a.order None
last_is a h = rw (h.form, h.slot, h.function, h.array, h.path, h.entry) refl
