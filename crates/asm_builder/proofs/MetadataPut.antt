-- The tables' stream and the metadata, joined from what was appended.
use Rattle.std.proofs.Common.{◌≡◌, ◌<◌, ◌+◌, ◌%◌, ℕ, List, [], ◌∷◌, ◌++◌, length, refl, sym, ap, ◌∙◌, arith, append_assoc, append-nil}
use Rattle.byteorder.specs.Endian.{little_bytes}
use Rattle.pe_image.specs.Places.{aligned}
use Rattle.metadata.specs.Streams.{blobs_name, guids_name, strings_name, tables_name, user_strings_name}
use Rattle.asm_builder.specs.declared.content.Content.{Content}
use Rattle.asm_builder.specs.declared.headers.Number.{Number}
use Rattle.asm_builder.specs.Content.{padded4}
use Rattle.asm_builder.specs.File.{Stream, counts_bytes, first_stream, heap_sizes, metadata_bytes, root_bytes, sized}
use Rattle.asm_builder.specs.File.{stream_header, stream_headers, streams_of, tables_from, tables_header, tables_stream}
use Rattle.asm_builder.specs.File.{valid_bits}
use Rattle.asm_builder.specs.Numbers.{numbers_bytes}
use Rattle.asm_builder.proofs.MetadataHeader.{sizes_small}

-- ---- the tables' stream

pub two_numbers : (a b : Number) (k u m v : ℕ) → a ≡ record { width = k; value = u } → b ≡ record { width = m; value = v }
    → numbers_bytes (a ∷ b ∷ []) ≡ little_bytes k u ++ little_bytes m v
two_numbers a b k u m v e f =
    rw (e, f) (ap (λ (t : List ℕ). little_bytes k u ++ t) (append-nil (little_bytes m v)))

byte_is : (n : ℕ) → n < 256 → n ∷ [] ≡ little_bytes 1 n
byte_is n h = let low : n ≡ n % 256 = omega (arith, h) in ap (λ (t : ℕ). t ∷ []) low

pub stream_made : (content : Content) (sizes valid : ℕ) (one two three four five out : List ℕ)
    → sizes ≡ heap_sizes content → valid ≡ valid_bits content.tables
    → one ≡ little_bytes 4 0 ++ little_bytes 2 2 → two ≡ one ++ (sizes ∷ 1 ∷ [])
    → three ≡ two ++ (little_bytes 8 valid ++ little_bytes 8 0) → four ≡ three ++ counts_bytes content.tables
    → five ≡ four ++ tables_from (sized content) 0 content.tables → out ≡ padded4 five → out ≡ tables_stream content
unfolding tables_stream
stream_made content sizes valid one two three four five out a b c d e f g h =
    let small = sizes_small content in
    let byte : sizes ∷ 1 ∷ [] ≡ little_bytes 1 (heap_sizes content) ++ little_bytes 1 1 =
    ap (λ (t : List ℕ). t ++ (1 ∷ [])) (byte_is sizes (omega (arith, a, small)) ∙ ap (λ (t : ℕ). little_bytes 1 t) a) in
    let begun : two ≡ (little_bytes 4 0 ++ little_bytes 2 2) ++ (little_bytes 1 (heap_sizes content) ++ little_bytes 1 1) =
    d ∙ ap (λ (t : List ℕ). t ++ (sizes ∷ 1 ∷ [])) c ∙ ap (λ (t : List ℕ). (little_bytes 4 0 ++ little_bytes 2 2) ++ t) byte in
    let headed : three
    ≡ ((little_bytes 4 0 ++ little_bytes 2 2) ++ (little_bytes 1 (heap_sizes content) ++ little_bytes 1 1)) ++
    (little_bytes 8 (valid_bits content.tables) ++ little_bytes 8 0) =
    e ∙ ap (λ (t : List ℕ). t ++ (little_bytes 8 valid ++ little_bytes 8 0)) begun
    ∙ ap (λ (v : ℕ). ((little_bytes 4 0 ++ little_bytes 2 2) ++ (little_bytes 1 (heap_sizes content) ++ little_bytes 1 1)) ++
    (little_bytes 8 v ++ little_bytes 8 0)) b in
    let header : four ≡ tables_header content = f ∙ ap (λ (t : List ℕ). t ++ counts_bytes content.tables) headed in
    h ∙ ap padded4 (g ∙ ap (λ (t : List ℕ). t ++ tables_from (sized content) 0 content.tables) header)

-- ---- the metadata

pub header_put : (old new name : List ℕ) (offset size : ℕ) (s : Stream)
    → new ≡ old ++ little_bytes 4 offset ++ little_bytes 4 size ++ name → size ≡ length s.bytes → name ≡ padded4 (s.name ++ 0 ∷ [])
    → new ≡ old ++ stream_header offset s
header_put old new name offset size s e sized named =
    let padded = padded4 (s.name ++ 0 ∷ []) in
    e
    ∙ append_assoc (old ++ little_bytes 4 offset) (little_bytes 4 size) name
    ∙ append_assoc old (little_bytes 4 offset) (little_bytes 4 size ++ name)
    ∙ ap (λ (t : ℕ). old ++ (little_bytes 4 offset ++ (little_bytes 4 t ++ name))) sized
    ∙ ap (λ (t : List ℕ). old ++ (little_bytes 4 offset ++ (little_bytes 4 (length s.bytes) ++ t))) named

-- a stream's name with zeros up to a multiple of 4
pub is_tables_name : 0x23 ∷ 0x7E ∷ 0 ∷ 0 ∷ [] ≡ padded4 (tables_name ++ 0 ∷ [])
unfolding aligned
is_tables_name = refl

pub is_strings_name : 0x23 ∷ 0x53 ∷ 0x74 ∷ 0x72 ∷ 0x69 ∷ 0x6E ∷ 0x67 ∷ 0x73 ∷ 0 ∷ 0 ∷ 0 ∷ 0 ∷ [] ≡ padded4 (strings_name ++ 0 ∷ [])
unfolding aligned
is_strings_name = refl

pub is_user_strings_name : 0x23 ∷ 0x55 ∷ 0x53 ∷ 0 ∷ [] ≡ padded4 (user_strings_name ++ 0 ∷ [])
unfolding aligned
is_user_strings_name = refl

pub is_guids_name : 0x23 ∷ 0x47 ∷ 0x55 ∷ 0x49 ∷ 0x44 ∷ 0 ∷ 0 ∷ 0 ∷ [] ≡ padded4 (guids_name ++ 0 ∷ [])
unfolding aligned
is_guids_name = refl

pub is_blobs_name : 0x23 ∷ 0x42 ∷ 0x6C ∷ 0x6F ∷ 0x62 ∷ 0 ∷ 0 ∷ 0 ∷ [] ≡ padded4 (blobs_name ++ 0 ∷ [])
unfolding aligned
is_blobs_name = refl

-- two pieces, one after the other
two_put : (old one two a b : List ℕ) → one ≡ old ++ a → two ≡ one ++ b → two ≡ old ++ (a ++ b)
two_put old one two a b e f = f ∙ ap (λ (t : List ℕ). t ++ b) e ∙ append_assoc old a b

last_put : (old new a : List ℕ) → new ≡ old ++ a → new ≡ old ++ (a ++ [])
last_put old new a e = e ∙ ap (λ (t : List ℕ). old ++ t) (sym (append-nil a))

five_put : (o p q r s t a b c d e : List ℕ) → p ≡ o ++ a → q ≡ p ++ b → r ≡ q ++ c → s ≡ r ++ d → t ≡ s ++ e
    → t ≡ o ++ (a ++ (b ++ (c ++ (d ++ (e ++ [])))))
five_put o p q r s t a b c d e f g h i j =
    two_put o p t a _ f (two_put p q t b _ g (two_put q r t c _ h (two_put r s t d _ i (last_put s t e j))))

abbrev pub tables_of : Content → Stream
tables_of content = record { name = tables_name; bytes = tables_stream content }

abbrev pub strings_of : Content → Stream
strings_of content = record { name = strings_name; bytes = content.strings }

abbrev pub user_strings_of : Content → Stream
user_strings_of content = record { name = user_strings_name; bytes = content.user_strings }

abbrev pub guids_of : Content → Stream
guids_of content = record { name = guids_name; bytes = content.guids }

abbrev pub blobs_of : Content → Stream
blobs_of content = record { name = blobs_name; bytes = content.blobs }

-- what has the root and the stream headers, one after the other
pub record HasHeaders (content : Content) (six : List ℕ) : Type 0 where
  pub is : six ≡ root_bytes ++ stream_headers first_stream (streams_of content)

pub has_headers : (content : Content) (one two three four five six : List ℕ) (a b c d : ℕ) → one ≡ root_bytes
    → a ≡ first_stream + length (tables_stream content) → b ≡ a + length content.strings → c ≡ b + length content.user_strings
    → d ≡ c + length content.guids
    → two ≡ one ++ stream_header first_stream (tables_of content) → three ≡ two ++ stream_header a (strings_of content)
    → four ≡ three ++ stream_header b (user_strings_of content) → five ≡ four ++ stream_header c (guids_of content)
    → six ≡ five ++ stream_header d (blobs_of content) → HasHeaders content six
has_headers content one two three four five six a b c d root ea eb ec ed e f g h i =
    let t = length (tables_stream content) in
    let s = length content.strings in
    let u = length content.user_strings in
    let n = length content.guids in
    let fb : b ≡ first_stream + t + s = omega (arith, ea, eb) in
    let fc : c ≡ first_stream + t + s + u = omega (arith, fb, ec) in
    let fd : d ≡ first_stream + t + s + u + n = omega (arith, fc, ed) in
    let second : three ≡ two ++ stream_header (first_stream + t) (strings_of content) = f
    ∙ ap (λ (k : ℕ). two ++ stream_header k (strings_of content)) ea in
    let third : four ≡ three ++ stream_header (first_stream + t + s) (user_strings_of content) = g
    ∙ ap (λ (k : ℕ). three ++ stream_header k (user_strings_of content)) fb in
    let fourth : five ≡ four ++ stream_header (first_stream + t + s + u) (guids_of content) = h
    ∙ ap (λ (k : ℕ). four ++ stream_header k (guids_of content)) fc in
    let fifth : six ≡ five ++ stream_header (first_stream + t + s + u + n) (blobs_of content) = i
    ∙ ap (λ (k : ℕ). five ++ stream_header k (blobs_of content)) fd in
    let all =
    five_put one two three four five six (stream_header first_stream (tables_of content))
    (stream_header (first_stream + t) (strings_of content))
    (stream_header (first_stream + t + s) (user_strings_of content)) (stream_header (first_stream + t + s + u) (guids_of content))
    (stream_header (first_stream + t + s + u + n) (blobs_of content)) e second third fourth fifth in
    record { is = all ∙ ap (λ (x : List ℕ). x ++ stream_headers first_stream (streams_of content)) root }

pub metadata_made : (content : Content) (six seven eight nine ten out : List ℕ) → HasHeaders content six
    → seven ≡ six ++ tables_stream content → eight ≡ seven ++ content.strings → nine ≡ eight ++ content.user_strings
    → ten ≡ nine ++ content.guids → out ≡ ten ++ content.blobs → out ≡ metadata_bytes content
unfolding metadata_bytes
metadata_made content six seven eight nine ten out headed e f g h i =
    let streams = tables_stream content ++ (content.strings ++ (content.user_strings ++ (content.guids ++ (content.blobs ++ [])))) in
    five_put six seven eight nine ten out (tables_stream content) content.strings content.user_strings content.guids content.blobs e f g h i
    ∙ ap (λ (x : List ℕ). x ++ streams) headed.is
    ∙ append_assoc root_bytes (stream_headers first_stream (streams_of content)) streams
