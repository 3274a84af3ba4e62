-- What is known of a native header that is there.
use Rattle.std.proofs.Common.{◌≡◌, ℕ, ◌==◌, ◌&&◌, Bool, true, false, cond, Some, None, ap}
use Rattle.rtr_bytes.specs.declared.fault.Span.{Span}
use Rattle.pe_image.specs.Headers.{native_span}

told : (b : Bool) (r n : Span) → cond b None (Some r) ≡ Some n → r.start ≡ n.start
told true r n h = absurd (let x : ⊥ = cc in x)
told false r n h = let e : r ≡ n = cc in ap (λ s. s.start) e

-- its RVA is the first of the two numbers
pub start-native_span : (rva size : ℕ) (native : Span) → native_span rva size ≡ Some native → rva ≡ native.start
start-native_span rva size native h = told (rva == 0 && size == 0) (record { start = rva; len = size }) native h
