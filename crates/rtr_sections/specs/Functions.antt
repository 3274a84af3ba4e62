-- RuntimeFunctions (ReadyToRun File Format, "READYTORUN_SECTION_RUNTIME_FUNCTIONS"): where each method's code is.
use Rattle.std.specs.Prelude.{ℕ, ◌+◌, ◌-◌, ◌/◌, ◌%◌, ◌==◌, ◌&&◌, List, Bool, Option, Some, if◌then◌else◌, nat_le, nat_lt, is_some}
use Rattle.std.specs.Option.{option_map_or}
use Rattle.rtr_bytes.specs.declared.fault.Span.{Span}
use Rattle.rtr_bytes.specs.Field.{u32_of}
use Rattle.rtr_bytes.specs.Checks.{first_record, records}
use Rattle.pe_image.specs.Headers.{place_of}
use Rattle.rtr_sections.specs.declared.functions.Function.{Function}

-- an entry is two RVAs: where the code begins, and of the unwind word, which is the code's length
abbrev pub unwind_place : List ℕ → ℕ → Option ℕ
unwind_place bytes at = place_of bytes (u32_of bytes (at + 4)) 4

unfoldable pub function_at : List ℕ → ℕ → Function
function_at bytes at = record {
  begin = u32_of bytes at;
  length = option_map_or (λ place. u32_of bytes place) (unwind_place bytes at) 0;
}

abbrev pub function_count : Span → ℕ
function_count part = part.len / 8

unfoldable pub functions_in : List ℕ → Span → List Function
functions_in bytes part = records (function_at bytes) part.start 8 (function_count part)

abbrev pub end_of : Function → ℕ
end_of function = function.begin + function.length

-- where the code before an entry ends
unfoldable pub end_before : List ℕ → ℕ → ℕ → ℕ
end_before bytes start at = if nat_lt start at then end_of (function_at bytes (at - 8)) else 0

-- its code is whole instructions of 4 bytes in a section, after the code of the entry before
abbrev pub is_function : List ℕ → ℕ → Function → Bool
is_function bytes low function =
    function.begin % 4 == 0 && function.length % 4 == 0
    && is_some (place_of bytes function.begin function.length) && nat_le low function.begin

-- an entry after code that ends at an RVA
unfoldable pub holds_behind : List ℕ → ℕ → ℕ → Bool
holds_behind bytes low at = is_some (unwind_place bytes at) && is_function bytes low (function_at bytes at)

abbrev pub function_holds : List ℕ → ℕ → ℕ → Bool
function_holds bytes start at = holds_behind bytes (end_before bytes start at) at

-- the part's start where it has no whole entries; else the first entry that doesn't hold
unfoldable pub bad_function : List ℕ → Span → Option ℕ
bad_function bytes part =
    if part.len % 8 == 0 then first_record (function_holds bytes part.start) part.start 8 (function_count part) else Some part.start
