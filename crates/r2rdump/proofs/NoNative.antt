-- A file without a native header fails no check of the ReadyToRun part.
use Rattle.std.proofs.Common.{◌≡◌, ℕ, List, Option, None, false, is_some, refl, ap}
use Rattle.rtr_bytes.specs.declared.fault.Span.{Span}
use Rattle.rtr_bytes.specs.Checks.{first_fault}
use Rattle.pe_image.specs.Headers.{native_of}
use Rattle.rtr_sections.specs.Header.{header_checks}
use Rattle.rtr_sections.specs.Image.{rtr_checks}

none_asked : (rows : ℕ) (bytes : List ℕ) → is_some (native_of bytes) ≡ false → first_fault (rtr_checks rows) bytes ≡ None
unfolding rtr_checks header_checks
none_asked rows bytes absent = rw absent refl

pub none_native : (rows : ℕ) (bytes : List ℕ) → native_of bytes ≡ None → first_fault (rtr_checks rows) bytes ≡ None
none_native rows bytes absent = none_asked rows bytes (ap (λ (o : Option Span). is_some o) absent)
