-- The metadata root and its stream headers (ECMA-335 II.24.2.1 and II.24.2.2). The metadata is a range of the file's bytes.
use Rattle.std.specs.Prelude.{ℕ, zero, suc, ◌+◌, ◌-◌, ◌*◌, ◌/◌, ◌==◌, not, Bool, List, [], ◌∷◌, length, take, drop, min}
use Rattle.std.specs.Prelude.{find, position, Option, Some, None, nat_le, if◌then◌else◌}
use Rattle.std.specs.Option.{option_map, option_map_or, option_and_then}
use Rattle.std.specs.Str.{bytes_eq}
use Rattle.rtr_bytes.specs.declared.fault.Span.{Span}
use Rattle.rtr_bytes.specs.Field.{u16_of, u32_of}
use Rattle.metadata.specs.Names.{is_taken}

abbrev pub end_of : Span → ℕ
end_of span = span.start + span.len

-- the root: the signature, two versions, four reserved bytes, the length of the version's text, that text, flags, and the
-- number of streams
abbrev pub version_length : List ℕ → ℕ → ℕ
version_length bytes start = u32_of bytes (start + 12)

abbrev pub stream_count : List ℕ → ℕ → ℕ
stream_count bytes start = u16_of bytes (start + 18 + version_length bytes start)

abbrev pub headers_at : List ℕ → ℕ → ℕ
headers_at bytes start = start + 20 + version_length bytes start

-- ---- stream headers

-- a header at its place: the stream's offset from the root, its size, and its name without the zero
pub record StreamHeader : Type 0 where
  pub at : ℕ
  pub offset : ℕ
  pub size : ℕ
  pub name : List ℕ

-- a header has the name with its zero, padded to a multiple of 4
abbrev pub padded_size : ℕ → ℕ
padded_size name = 8 + (name + 4) / 4 * 4

-- the length of the name that begins at a place: it ends with a zero among 32 bytes, before the metadata's end
abbrev pub name_length : List ℕ → ℕ → ℕ → Option ℕ
name_length bytes end at = position (λ b. b == 0) (take (min 32 (end - at)) (drop at bytes))

abbrev pub header_of : List ℕ → ℕ → ℕ → ℕ → Option StreamHeader
header_of bytes end at name =
    if nat_le (at + padded_size name) end
    then Some (record { at = at; offset = u32_of bytes at; size = u32_of bytes (at + 4); name = take name (drop (at + 8) bytes) })
    else None

-- the header at a place; none where it passes the metadata's end, or its name doesn't end
unfoldable pub header_at : List ℕ → ℕ → ℕ → Option StreamHeader
header_at bytes end at = option_and_then (header_of bytes end at) (name_length bytes end (at + 8))

abbrev pub next_header : StreamHeader → ℕ
next_header h = h.at + padded_size (length h.name)

-- some headers one after the other from a place on, up to one that isn't there
unfoldable pub headers_from : List ℕ → ℕ → ℕ → ℕ → List StreamHeader
headers_from bytes end at zero = []
headers_from bytes end at (suc n) = option_map_or (λ h. h ∷ headers_from bytes end (next_header h) n) (header_at bytes end at) []

-- the place of the first that isn't there
unfoldable pub first_cut : List ℕ → ℕ → ℕ → ℕ → Option ℕ
first_cut bytes end at zero = None
first_cut bytes end at (suc n) = option_map_or (λ h. first_cut bytes end (next_header h) n) (header_at bytes end at) (Some at)

unfoldable pub headers_in : List ℕ → Span → List StreamHeader
headers_in bytes span = headers_from bytes (end_of span) (headers_at bytes span.start) (stream_count bytes span.start)

-- ---- what can be bad of them

-- a stream is in the metadata
abbrev pub is_inside : Span → StreamHeader → Bool
is_inside span h = nat_le (h.offset + h.size) span.len

abbrev pub first_outside : Span → List StreamHeader → Option ℕ
first_outside span hs = option_map (λ h. h.at) (find (λ h. not (is_inside span h)) hs)

-- the place of the first header whose name an earlier one has, where some names are taken
unfoldable pub first_repeated : List (List ℕ) → List StreamHeader → Option ℕ
first_repeated taken [] = None
first_repeated taken (h ∷ hs) = if is_taken taken h.name then Some h.at else first_repeated (h.name ∷ taken) hs

-- ---- streams by name

abbrev pub header_named : List ℕ → List StreamHeader → Option StreamHeader
header_named name hs = find (λ h. bytes_eq h.name name) hs

-- where a stream is in the file; one that is missing is empty
abbrev pub span_of : Span → Option StreamHeader → Span
span_of span None = record { start = span.start; len = 0 }
span_of span (Some h) = record { start = span.start + h.offset; len = h.size }

unfoldable pub stream_of : List ℕ → Span → List ℕ → Span
stream_of bytes span name = span_of span (header_named name (headers_in bytes span))

-- "#~", "#Strings", "#US", "#GUID" and "#Blob"
abbrev pub tables_name : List ℕ
tables_name = 0x23 ∷ 0x7E ∷ []

abbrev pub strings_name : List ℕ
strings_name = 0x23 ∷ 0x53 ∷ 0x74 ∷ 0x72 ∷ 0x69 ∷ 0x6E ∷ 0x67 ∷ 0x73 ∷ []

abbrev pub user_strings_name : List ℕ
user_strings_name = 0x23 ∷ 0x55 ∷ 0x53 ∷ []

abbrev pub guids_name : List ℕ
guids_name = 0x23 ∷ 0x47 ∷ 0x55 ∷ 0x49 ∷ 0x44 ∷ []

abbrev pub blobs_name : List ℕ
blobs_name = 0x23 ∷ 0x42 ∷ 0x6C ∷ 0x6F ∷ 0x62 ∷ []
