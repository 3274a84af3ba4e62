-- Stream headers, read back: each where the one before ends.
use Rattle.std.proofs.Common.{◌≡◌, ◌≤◌, ◌<◌, ◌+◌, ◌-◌, ◌^◌, ℕ, zero, suc, Bool, true, cond, List, [], ◌∷◌, ◌++◌, length}
use Rattle.std.proofs.Common.{take, drop, Option, Some, None, refl, ap, ◌∙◌, arith, append_assoc, length-append}
use Rattle.std.proofs.Common.{length-take}
use Rattle.std.specs.Prelude.{if◌then◌else◌, ◌==◌, not, ◌&&◌, min, nat_lt, nat_le, find, replicate, position, unwrap_or}
use Rattle.std.specs.List.{list_all, position_or_len}
use Rattle.std.specs.Option.{option_map, option_map_or, option_and_then}
use Rattle.std.proofs.lemmas.Bool.{and_parts, le-leb, lt-ltb, ltb-true}
use Rattle.std.proofs.lemmas.List.{take_at}
use Rattle.byteorder.specs.Endian.{little_bytes}
use Rattle.rtr_bytes.specs.declared.fault.Span.{Span}
use Rattle.rtr_bytes.specs.Field.{u32_of}
use Rattle.pe_image.specs.Places.{aligned}
use Rattle.metadata.specs.Streams.{StreamHeader, first_cut, first_outside, header_at, header_of, headers_from}
use Rattle.metadata.specs.Streams.{is_inside, name_length, next_header, padded_size}
use Rattle.asm_builder.specs.Content.{padded4}
use Rattle.asm_builder.specs.File.{Stream, stream_header, stream_headers}
use Rattle.asm_builder.proofs.Padding.{length-padded4}
use Rattle.asm_builder.proofs.TablesStand.{Stands, number_stands, stands_behind, stands_front}

-- ---- names

-- a name has no zero
abbrev pub has_no_zero : List ℕ → Bool
has_no_zero name = list_all (λ b. not (b == 0)) name

zero_at : (name rest : List ℕ) (n : ℕ) → has_no_zero name ≡ true → length name < n
    → position_or_len (λ b. b == 0) (take n (name ++ 0 ∷ rest)) ≡ length name
zero_at name rest zero clean short = absurd (omega arith)
zero_at [] rest (suc n) clean short = refl
zero_at (b ∷ name) rest (suc n) clean short =
    let both = and_parts (not (b == 0)) (has_no_zero name) clean in
    let later = zero_at name rest n both.1 (omega arith) in
    ap (λ (t : Bool). cond t (1 + position_or_len (λ b. b == 0) (take n (name ++ 0 ∷ rest))) 0) both.0 ∙ omega (arith, later)

name_ends : (name rest : List ℕ) (n : ℕ) → has_no_zero name ≡ true → length name < n
    → position (λ b. b == 0) (take n (name ++ 0 ∷ rest)) ≡ Some (length name)
name_ends name rest n clean short =
    let place = zero_at name rest n clean short in
    let size : length (take n (name ++ 0 ∷ rest)) ≡ min n (length name + suc (length rest)) =
    length-take n (name ++ 0 ∷ rest) ∙ ap (λ (t : ℕ). min n t) (length-append name (0 ∷ rest)) in
    let within : length name < length (take n (name ++ 0 ∷ rest)) = omega (arith, size) in
    let found : nat_lt (position_or_len (λ b. b == 0) (take n (name ++ 0 ∷ rest))) (length (take n (name ++ 0 ∷ rest))) ≡ true =
    ap (λ (t : ℕ). nat_lt t (length (take n (name ++ 0 ∷ rest)))) place
    ∙ lt-ltb (length name) (length (take n (name ++ 0 ∷ rest))) within in
    ap (λ (t : Bool). cond t (Some (position_or_len (λ b. b == 0) (take n (name ++ 0 ∷ rest)))) None) found ∙ ap (λ (t : ℕ). Some t) place

-- ---- one header

padded_name : (n : ℕ) → 8 + aligned 4 (n + 1) ≡ padded_size n
unfolding aligned
padded_name n = omega arith

pub length-header : (offset : ℕ) (s : Stream) → length (stream_header offset s) ≡ padded_size (length s.name)
length-header offset s =
    let numbers = little_bytes 4 offset in
    let size = little_bytes 4 (length s.bytes) in
    let name = padded4 (s.name ++ 0 ∷ []) in
    let one = length-append s.name (0 ∷ []) in
    let padded = length-padded4 (s.name ++ 0 ∷ []) ∙ ap (λ (t : ℕ). aligned 4 t) one in
    omega (arith, padded, padded_name (length s.name))

-- a name with its zero, and what follows
name_parts : (name rest : List ℕ) → (more : List ℕ) × (padded4 (name ++ 0 ∷ []) ++ rest ≡ name ++ (0 ∷ more))
name_parts name rest =
    let zeros = replicate (aligned 4 (length (name ++ 0 ∷ [])) - length (name ++ 0 ∷ [])) 0 in
    (zeros ++ rest, append_assoc (name ++ 0 ∷ []) zeros rest ∙ append_assoc name (0 ∷ []) (zeros ++ rest))

abbrev pub header_of_stream : ℕ → ℕ → Stream → StreamHeader
header_of_stream at offset s = record { at = at; offset = offset; size = length s.bytes; name = s.name }

-- a name that can be a stream's
abbrev pub is_named : Stream → Bool
is_named s = nat_lt (length s.name) 32 && has_no_zero s.name

made : (at offset offset' size size' : ℕ) (name name' : List ℕ) → offset ≡ offset' → size ≡ size' → name ≡ name'
    → ◌≡◌ {A = StreamHeader} (record { at = at; offset = offset; size = size; name = name })
    (record { at = at; offset = offset'; size = size'; name = name' })
made at offset offset' size size' name name' a b c = rw (a, b, c) refl

pub header_back : (bytes : List ℕ) (end at offset : ℕ) (s : Stream) → Stands bytes at (stream_header offset s)
    → at + padded_size (length s.name) ≤ end → is_named s ≡ true → offset + length s.bytes < 2 ^ 32
    → header_at bytes end at ≡ Some (header_of_stream at offset s)
unfolding header_at
header_back bytes end at offset s stands room named small =
    let name = s.name in
    let size = length s.bytes in
    let numbers = little_bytes 4 offset ++ little_bytes 4 size in
    let padded = padded4 (name ++ 0 ∷ []) in
    let both = and_parts (nat_lt (length name) 32) (has_no_zero name) named in
    let short = ltb-true (length name) 32 both.0 in
    let name_stands = stands_behind bytes at (at + 8) numbers padded refl stands in
    let parts = name_parts name name_stands.rest in
    let text : drop (at + 8) bytes ≡ name ++ (0 ∷ parts.0) = name_stands.is ∙ parts.1 in
    let n = min 32 (end - (at + 8)) in
    let within : length name < n = omega (arith, room, short) in
    let found : name_length bytes end (at + 8) ≡ Some (length name) =
    ap (λ (t : List ℕ). position (λ b. b == 0) (take n t)) text ∙ name_ends name parts.0 n both.1 within in
    let first : u32_of bytes at ≡ offset = ap (λ (t : Option ℕ). unwrap_or t 0)
    (number_stands 4 offset bytes at (omega arith) (stands_front bytes at (little_bytes 4 offset) (little_bytes 4 size ++ padded) stands))
    in
    let size_stands = stands_behind bytes at (at + 4) (little_bytes 4 offset) (little_bytes 4 size ++ padded) refl stands in
    let second : u32_of bytes (at + 4) ≡ size = ap (λ (t : Option ℕ). unwrap_or t 0)
    (number_stands 4 size bytes (at + 4) (omega arith) (stands_front bytes (at + 4) (little_bytes 4 size) padded size_stands)) in
    let third : take (length name) (drop (at + 8) bytes) ≡ name =
    ap (λ (t : List ℕ). take (length name) t) text ∙ take_at name (0 ∷ parts.0) (length name) refl in
    let header : StreamHeader =
    record { at = at; offset = u32_of bytes at; size = u32_of bytes (at + 4); name = take (length name) (drop (at + 8) bytes) } in
    let inside : nat_le (at + padded_size (length name)) end ≡ true = le-leb (at + padded_size (length name)) end room in
    ap (λ (t : Option ℕ). option_and_then (header_of bytes end at) t) found
    ∙ ap (λ (b : Bool). if b then Some header else None) inside
    ∙ ap (λ (t : StreamHeader). Some t)
    (made at (u32_of bytes at) offset (u32_of bytes (at + 4)) size (take (length name) (drop (at + 8) bytes)) name first second third)

-- ---- all headers

cut_more : (bytes : List ℕ) (end at n : ℕ) (h : StreamHeader) → header_at bytes end at ≡ Some h
    → first_cut bytes end at (suc n) ≡ first_cut bytes end (next_header h) n
unfolding first_cut
cut_more bytes end at n h e = ap (λ (o : Option StreamHeader). option_map_or (λ h. first_cut bytes end (next_header h) n) o (Some at)) e

headers_more : (bytes : List ℕ) (end at n : ℕ) (h : StreamHeader) → header_at bytes end at ≡ Some h
    → headers_from bytes end at (suc n) ≡ h ∷ headers_from bytes end (next_header h) n
unfolding headers_from
headers_more bytes end at n h e = ap (λ (o : Option StreamHeader). option_map_or (λ h. h ∷ headers_from bytes end (next_header h) n) o []) e

none_cut : (bytes : List ℕ) (end at : ℕ) → first_cut bytes end at 0 ≡ None
unfolding first_cut
none_cut bytes end at = refl

none_left : (bytes : List ℕ) (end at : ℕ) → headers_from bytes end at 0 ≡ []
unfolding headers_from
none_left bytes end at = refl

abbrev pub headers_of_streams : ℕ → ℕ → List Stream → List StreamHeader
headers_of_streams at offset [] = []
headers_of_streams at offset (s ∷ streams) =
    header_of_stream at offset s ∷ headers_of_streams (at + padded_size (length s.name)) (offset + length s.bytes) streams

abbrev pub bytes_of_all : List Stream → ℕ
bytes_of_all [] = 0
bytes_of_all (s ∷ streams) = length s.bytes + bytes_of_all streams

pub headers_back : (bytes : List ℕ) (end at offset : ℕ) (streams : List Stream) → Stands bytes at (stream_headers offset streams)
    → at + length (stream_headers offset streams) ≤ end → list_all is_named streams ≡ true → offset + bytes_of_all streams < 2 ^ 32
    → (headers_from bytes end at (length streams) ≡ headers_of_streams at offset streams)
    × (first_cut bytes end at (length streams) ≡ None)
headers_back bytes end at offset [] stands room named small = (none_left bytes end at, none_cut bytes end at)
headers_back bytes end at offset (s ∷ streams) stands room named small =
    let both = and_parts (is_named s) (list_all is_named streams) named in
    let header = stream_header offset s in
    let others = stream_headers (offset + length s.bytes) streams in
    let size = length-header offset s in
    let whole = length-append header others in
    let here =
    header_back bytes end at offset s (stands_front bytes at header others stands) (omega (arith, room, size, whole)) both.0
    (omega (arith, small)) in
    let next = at + padded_size (length s.name) in
    let behind = stands_behind bytes at next header others (omega (arith, size)) stands in
    let later =
    headers_back bytes end next (offset + length s.bytes) streams behind (omega (arith, room, size, whole)) both.1 (omega (arith, small))
    in (
      headers_more bytes end at (length streams) (header_of_stream at offset s) here
          ∙ ap (λ (t : List StreamHeader). header_of_stream at offset s ∷ t) later.0,
      cut_more bytes end at (length streams) (header_of_stream at offset s) here ∙ later.1,
    )

-- ---- no stream is outside

pub none_outside : (span : Span) (at offset : ℕ) (streams : List Stream) → offset + bytes_of_all streams ≤ span.len
    → first_outside span (headers_of_streams at offset streams) ≡ None
none_outside span at offset [] room = refl
none_outside span at offset (s ∷ streams) room =
    let inside : is_inside span (header_of_stream at offset s) ≡ true = le-leb (offset + length s.bytes) span.len (omega (arith, room)) in
    let later = none_outside span (at + padded_size (length s.name)) (offset + length s.bytes) streams (omega (arith, room)) in
    ap (λ (b : Bool). option_map (λ (h : StreamHeader). h.at)
    (cond (not b) (Some (header_of_stream at offset s))
    (find (λ h. not (is_inside span h)) (headers_of_streams (at + padded_size (length s.name)) (offset + length s.bytes) streams)))) inside
    ∙ later
