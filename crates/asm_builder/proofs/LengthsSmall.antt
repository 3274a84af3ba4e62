-- What was asked for soundly has heaps and bodies that are small enough to be written.
use Rattle.std.proofs.Common.{◌≡◌, ◌≤◌, ◌<◌, ◌+◌, ◌*◌, ◌^◌, ℕ, true, List, [], ◌∷◌, length, get_or, ap, arith, length-append}
use Rattle.std.specs.Prelude.{◌&&◌, nat_lt}
use Rattle.std.proofs.lemmas.Bool.{and_parts, ltb-true}
use Rattle.std.proofs.lemmas.List.Sums.{sum_by-cons}
use Rattle.pe_image.specs.Places.{aligned}
use Rattle.metadata.specs.Schema.{table_number}
use Rattle.metadata.specs.declared.schema.Table.TheVariants as tables
use Rattle.asm_builder.specs.declared.asked.Method.{Method}
use Rattle.asm_builder.specs.declared.content.Content.{Content}
use Rattle.asm_builder.specs.Asked.{Asked}
use Rattle.asm_builder.specs.Cells.{tables_of, user_heap}
use Rattle.asm_builder.specs.Content.{Heaps, all_after, bodies_from, body_bytes, content_of, locals_after, locals_token, no_heaps, padded4}
use Rattle.asm_builder.specs.File.{AreSmall, metadata_bytes}
use Rattle.asm_builder.proofs.Sizes.{file_length, metadata_length}
use Rattle.asm_builder.specs.Sound.{IsSound, are_small_heaps, code_size}
use Rattle.asm_builder.proofs.BodyReadBack.{length-body_bytes}
use Rattle.asm_builder.proofs.Lengths.{length-metadata}
use Rattle.asm_builder.proofs.Padding.{aligned4_near, length-padded4, size_few}
use Rattle.asm_builder.proofs.PeSizes.{aligned-512}
use Rattle.asm_builder.proofs.Rows.{is_spelled}
use Rattle.asm_builder.proofs.TablesBack.{IsSpelled}
use Rattle.asm_builder.proofs.TablesMethods.{length-methods_table}

padded_small : (bytes : List ℕ) → length bytes < 2 ^ 24 → length (padded4 bytes) < 2 ^ 31
padded_small bytes small = omega (arith, length-padded4 bytes, aligned4_near (length bytes), small)

-- ---- bodies: a header of 12 bytes, and at most three zeros

bodies_few : (before : ℕ) (ms : List Method) → length (bodies_from before ms) ≤ 15 * length ms + code_size ms
unfolding bodies_from
bodies_few before [] = omega arith
bodies_few before (m ∷ ms) =
    let here = length-body_bytes (locals_token before m) m in
    let few = size_few m in
    let both = length-append (body_bytes (locals_token before m) m) (bodies_from (locals_after before m) ms) in
    let later = bodies_few (locals_after before m) ms in
    let sum = sum_by-cons (λ (m : Method). length m.code) m ms in
    omega (arith, here, few, both, later, sum)

-- ---- all

heaps_small : (heaps : Heaps) → are_small_heaps heaps ≡ true → (length heaps.strings < 2 ^ 24) × (length heaps.blobs < 2 ^ 24)
heaps_small heaps small =
    let both = and_parts (nat_lt (length heaps.strings) (2 ^ 24)) (nat_lt (length heaps.blobs) (2 ^ 24)) small in
    (ltb-true (length heaps.strings) (2 ^ 24) both.0, ltb-true (length heaps.blobs) (2 ^ 24) both.1)

pub are_small : (asked : Asked) → IsSound asked → AreSmall (content_of asked)
unfolding content_of
are_small asked sound =
    let heaps = all_after no_heaps (tables_of asked) in
    let user = length (user_heap asked.user_strings) in
    let both = and_parts (are_small_heaps heaps) (nat_lt user (2 ^ 24) && nat_lt (code_size asked.methods) (2 ^ 24)) sound.small in
    let rest = and_parts (nat_lt user (2 ^ 24)) (nat_lt (code_size asked.methods) (2 ^ 24)) both.1 in
    let small = heaps_small heaps both.0 in
    let code = ltb-true (code_size asked.methods) (2 ^ 24) rest.1 in
    let spelled = is_spelled asked sound in
    let count = spelled.count in
    let few : length (get_or (content_of asked).tables (table_number tables.MethodDef) []) < 2 ^ 24 =
    spelled.few 6 [] (omega (arith, count)) in
    let methods = length-methods_table asked in
    let bodies = bodies_few 0 asked.methods in
    record {
      strings = padded_small heaps.strings small.0;
      user_strings = padded_small (user_heap asked.user_strings) (ltb-true user (2 ^ 24) rest.0);
      guids = omega arith;
      blobs = padded_small heaps.blobs small.1;
      bodies = omega (arith, bodies, code, few, methods);
    }

-- the file's length, by those of the bodies and of the metadata
pub length_by_parts : (content : Content) → IsSpelled content → (bodies metadata : ℕ) → bodies ≡ length content.bodies
    → metadata ≡ length (metadata_bytes content) → 512 + aligned 512 (72 + bodies + metadata) ≡ file_length content
unfolding file_length
length_by_parts content spelled bodies metadata b m =
    let size = length-metadata content spelled in
    let sum : 72 + bodies + metadata ≡ 72 + (length content.bodies + metadata_length content) = omega (arith, b, m, size) in
    ap (λ (n : ℕ). 512 + aligned 512 n) sum

-- and where it is a file's at most, each part is
pub parts_within : (bodies metadata : ℕ) → 512 + aligned 512 (72 + bodies + metadata) ≤ 16_777_216
    → (bodies ≤ 2 ^ 24) × (metadata ≤ 2 ^ 24)
parts_within bodies metadata fits =
    let near = aligned-512 (72 + bodies + metadata) in
    (omega (arith, near.low, fits), omega (arith, near.low, fits))
