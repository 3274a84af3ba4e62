-- Method bodies (ECMA-335 II.25.4), by the RVA that a row of MethodDef has. The header's first byte, a fat header, and the header
-- with its code are each looked up in the sections by themselves, at the RVA and with their own length.
use Rattle.std.specs.Prelude.{ℕ, ◌+◌, ◌/◌, ◌%◌, ◌^◌, ◌==◌, ◌&&◌, not, Bool, false, List, take, drop, Option, Some, None}
use Rattle.std.specs.Prelude.{if◌then◌else◌, slice_index}
use Rattle.std.specs.Option.{option_map_or}
use Rattle.rtr_bytes.specs.declared.fault.Span.{Span}
use Rattle.rtr_bytes.specs.Field.{u16_of, u32_of}
use Rattle.pe_image.specs.Headers.{place_of}
use Rattle.cli_assembly.specs.declared.body.Body.{Body}
use Rattle.cli_assembly.specs.declared.header.BodyAt.{BodyAt}
use Rattle.cli_assembly.specs.declared.header.BodyAt.TheVariants as headers
use Rattle.cli_assembly.specs.Flags.{has_flag}

-- a body, where it is in a section
abbrev pub placed : (ℕ → Body) → Option ℕ → BodyAt
placed body place = option_map_or (λ at. headers.Placed (body at)) place headers.Unplaced

-- a tiny header is one byte: the size of the code above two low bits, with a stack of 8 and no locals (II.25.4.2)
abbrev pub tiny_body : ℕ → ℕ → Body
tiny_body size at = record { max_stack = 8; locals = 0; code = record { start = at + 1; len = size }; more = false }

unfoldable pub tiny_at : List ℕ → ℕ → ℕ → BodyAt
tiny_at bytes rva first = placed (tiny_body (first / 4)) (place_of bytes rva (1 + first / 4))

-- a fat header is 12 bytes: 12 bits of flags and its size in words, MaxStack, CodeSize and LocalVarSigTok (II.25.4.3)
abbrev pub header_words : List ℕ → ℕ → ℕ
header_words bytes header = u16_of bytes header / 2 ^ 12

abbrev pub code_size : List ℕ → ℕ → ℕ
code_size bytes header = u32_of bytes (header + 4)

abbrev pub fat_body : List ℕ → ℕ → ℕ → Body
fat_body bytes header at = record {
  max_stack = u16_of bytes (header + 2);
  locals = u32_of bytes (header + 8);
  code = record { start = at + 12; len = code_size bytes header };
  more = has_flag (u16_of bytes header) 0x08;
}

abbrev pub fat_header_at : List ℕ → ℕ → ℕ → BodyAt
fat_header_at bytes rva header =
    if header_words bytes header == 3 then placed (fat_body bytes header)
    (place_of bytes rva (12 + code_size bytes header)) else headers.Malformed header

unfoldable pub fat_at : List ℕ → ℕ → BodyAt
fat_at bytes rva = option_map_or (fat_header_at bytes rva) (place_of bytes rva 12) headers.Unplaced

-- the two low bits of the first byte are the format: 2 is tiny, 3 is fat (II.25.4.1)
abbrev pub header_at : List ℕ → ℕ → ℕ → ℕ → BodyAt
header_at bytes rva at first =
    if first % 4 == 2 then tiny_at bytes rva first else if first % 4 == 3 then fat_at bytes rva else headers.Malformed at

unfoldable pub body_at : List ℕ → ℕ → BodyAt
body_at bytes rva = option_map_or (λ at. header_at bytes rva at (slice_index bytes at)) (place_of bytes rva 1) headers.Unplaced

-- a row has CIL where its RVA isn't 0 and its code type is IL and managed, the low three bits of its ImplFlags (II.23.1.11)
abbrev pub has_cil : ℕ → ℕ → Bool
has_cil rva impl_flags = not (rva == 0) && impl_flags % 8 == 0

-- ---- a body as everything above this crate sees it: with the bytes of its code, and without a place

pub record MethodBody : Type 0 where
  pub max_stack : ℕ
  pub locals : ℕ
  pub code : List ℕ
  pub more : Bool

abbrev pub bytes_at : List ℕ → Span → List ℕ
bytes_at bytes span = take span.len (drop span.start bytes)

unfoldable pub with_code : List ℕ → Body → MethodBody
with_code bytes body = record { max_stack = body.max_stack; locals = body.locals; code = bytes_at bytes body.code; more = body.more }

abbrev pub placed_body : BodyAt → Option Body
placed_body (headers.Placed body) = Some body
placed_body (headers.Malformed at) = None
placed_body headers.Unplaced = None
