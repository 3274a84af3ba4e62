-- The checks of section records by the list of them.
use Rattle.std.proofs.Common.{◌≡◌, ℕ, ◌+◌, ◌-◌, ◌<◌, ◌++◌, true, List, Option, Some, None, is_some, ap, ◌∙◌, sym}
use Rattle.std.specs.Option.{option_map}
use Rattle.rtr_bytes.specs.declared.fault.Fault.{Fault}
use Rattle.rtr_bytes.specs.Checks.{fault_or, first_fault, first_record, records}
use Rattle.pe_image.specs.Headers.{native_of}
use Rattle.rtr_sections.specs.declared.header.RtrSection.{RtrSection}
use Rattle.rtr_sections.specs.Listed.{first_failing, first_overlap}
use Rattle.rtr_sections.specs.Header.{ascends, has_whole_imports, imports_are_whole, range_checks, range_is_placed, record_count}
use Rattle.rtr_sections.specs.Header.{records_at, rtr_section_at, section_is_placed, size_checks, table_checks}
use Rattle.rtr_sections.proofs.Listed.{kinds_are, ranges_are, sizes_are}
use Rattle.rtr_sections.proofs.AllChecks.{no_fault, some_fault}

-- the records of a file with a native header; their place has no meaning where there are none
pub record IsTable (bytes : List ℕ) (at : ℕ) (sections : List RtrSection) : Type 0 where
  pub native : is_some (native_of bytes) ≡ true
  pub here : 0 < record_count bytes → at ≡ records_at bytes
  pub are : sections ≡ records (rtr_section_at bytes) at 12 (record_count bytes)

abbrev unordered : ℕ → List RtrSection → Option ℕ
unordered at sections = first_overlap (λ s. s.kind) (λ s. s.kind + 1) 0 at 12 sections

abbrev unplaced : List ℕ → ℕ → List RtrSection → Option ℕ
unplaced bytes at sections = option_map (λ p. p + 4) (first_failing (section_is_placed bytes) at 12 sections)

abbrev broken : ℕ → List RtrSection → Option ℕ
broken at sections = option_map (λ p. p + 8) (first_failing has_whole_imports at 12 sections)

order_is : (bytes : List ℕ) (at : ℕ) (sections : List RtrSection) → IsTable bytes at sections
    → first_record (ascends bytes) (records_at bytes + 12) 12 (record_count bytes - 1) ≡ unordered at sections
order_is bytes at sections t =
    kinds_are bytes at (records_at bytes) (record_count bytes) t.here ∙ ap (unordered at) (sym t.are)

ranges_is : (bytes : List ℕ) (at : ℕ) (sections : List RtrSection) → IsTable bytes at sections
    → option_map (λ p. p + 4) (first_record (range_is_placed bytes) (records_at bytes) 12 (record_count bytes)) ≡ unplaced bytes at sections
ranges_is bytes at sections t =
    ranges_are bytes at (records_at bytes) (record_count bytes) t.here ∙ ap (unplaced bytes at) (sym t.are)

sizes_is : (bytes : List ℕ) (at : ℕ) (sections : List RtrSection) → IsTable bytes at sections
    → option_map (λ p. p + 8) (first_record (imports_are_whole bytes) (records_at bytes) 12 (record_count bytes)) ≡ broken at sections
sizes_is bytes at sections t =
    sizes_are bytes at (records_at bytes) (record_count bytes) t.here ∙ ap (broken at) (sym t.are)

after_order : (bytes : List ℕ) (at : ℕ) (sections : List RtrSection) → IsTable bytes at sections → unordered at sections ≡ None
    → first_fault table_checks bytes ≡ first_fault (range_checks ++ size_checks) bytes
after_order bytes at sections t ordered = no_fault _ 19 _ _ t.native (order_is bytes at sections t ∙ ordered)

after_ranges : (bytes : List ℕ) (at : ℕ) (sections : List RtrSection) → IsTable bytes at sections → unordered at sections ≡ None
    → unplaced bytes at sections ≡ None → first_fault table_checks bytes ≡ first_fault size_checks bytes
after_ranges bytes at sections t ordered placed =
    after_order bytes at sections t ordered ∙ no_fault _ 20 _ _ t.native (ranges_is bytes at sections t ∙ placed)

pub refused_order : (bytes : List ℕ) (at : ℕ) (sections : List RtrSection) (f : Fault) → IsTable bytes at sections
    → fault_or 19 (unordered at sections) None ≡ Some f → first_fault table_checks bytes ≡ Some f
refused_order bytes at sections f t told =
    some_fault _ 19 _ _ f t.native (ap (λ (o : Option ℕ). fault_or 19 o None) (order_is bytes at sections t) ∙ told)

pub refused_ranges : (bytes : List ℕ) (at : ℕ) (sections : List RtrSection) (f : Fault) → IsTable bytes at sections
    → unordered at sections ≡ None → fault_or 20 (unplaced bytes at sections) None ≡ Some f → first_fault table_checks bytes ≡ Some f
refused_ranges bytes at sections f t ordered told =
    after_order bytes at sections t ordered
    ∙ some_fault _ 20 _ _ f t.native (ap (λ (o : Option ℕ). fault_or 20 o None) (ranges_is bytes at sections t) ∙ told)

pub refused_sizes : (bytes : List ℕ) (at : ℕ) (sections : List RtrSection) (f : Fault) → IsTable bytes at sections
    → unordered at sections ≡ None → unplaced bytes at sections ≡ None → fault_or 21 (broken at sections) None ≡ Some f
    → first_fault table_checks bytes ≡ Some f
refused_sizes bytes at sections f t ordered placed told =
    after_ranges bytes at sections t ordered placed
    ∙ some_fault _ 21 _ _ f t.native (ap (λ (o : Option ℕ). fault_or 21 o None) (sizes_is bytes at sections t) ∙ told)

pub none_fails : (bytes : List ℕ) (at : ℕ) (sections : List RtrSection) → IsTable bytes at sections
    → unordered at sections ≡ None → unplaced bytes at sections ≡ None → broken at sections ≡ None → first_fault table_checks bytes ≡ None
none_fails bytes at sections t ordered placed whole =
    after_ranges bytes at sections t ordered placed ∙ no_fault _ 21 _ _ t.native (sizes_is bytes at sections t ∙ whole)
