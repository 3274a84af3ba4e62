use Rattle.std.proofs.Common.{◌≡◌, ◌++◌, ◌∷◌, [], ◌∙◌, List, ℕ, ap}
use Rattle.byteorder.specs.Endian.{little_bytes}
use Rattle.metadata.specs.Tables.{Layout}
use Rattle.asm_builder.specs.File.{counts_bytes, heap_sizes, sized, tables_from, valid_bits}
use Rattle.asm_builder.specs.Numbers.{numbers_bytes}
use Rattle.asm_builder.proofs.MetadataPut.{stream_made, two_numbers}
use Rattle.asm_builder.proofs.file.tables_stream.Goals as goal

pub returns : goal.returns
returns c =
    let content = c.args.content.now in
    let sizes = c.heap_sizes.result in
    let valid = c.valid_bits.result in
    let one = c.put_numbers.new.out.items in
    let two = c.extend_from_slice.new.self.items in
    let three = c.put_numbers-2.new.out.items in
    let four = c.put_counts.new.out.items in
    let five = c.put_tables.new.out.items in
    let tables : c.as_slice-tables.result.now ≡ content.tables = c.as_slice-tables.ensures in
    let a : sizes ≡ heap_sizes content = c.heap_sizes.ensures ∙ ap (λ (l : Layout). l.heap_sizes) c.in_ok-sizes.ensures in
    let b : valid ≡ valid_bits content.tables = c.valid_bits.ensures ∙ ap valid_bits tables in
    let d : one ≡ little_bytes 4 0 ++ little_bytes 2 2 = c.in_ok-put_numbers.ensures
    ∙ ap (λ (t : List ℕ). t ++ numbers_bytes (c.four.result ∷ c.two.result ∷ [])) c.new-out.ensures.items
    ∙ two_numbers c.four.result c.two.result 4 0 2 2 c.four.ensures c.two.ensures in
    let e : two ≡ one ++ (sizes ∷ 1 ∷ []) = c.in_ok-extend_from_slice.ensures.items in
    let f : three ≡ two ++ (little_bytes 8 valid ++ little_bytes 8 0) = c.in_ok-put_numbers-2.ensures
    ∙ ap (λ (t : List ℕ). two ++ t) (two_numbers c.eight.result c.eight-2.result 8 valid 8 0 c.eight.ensures c.eight-2.ensures) in
    let g : four ≡ three ++ counts_bytes content.tables = c.in_ok-put_counts.ensures
    ∙ ap (λ (t : List (List (List ℕ))). three ++ counts_bytes t) tables in
    let h : five ≡ four ++ tables_from (sized content) 0 content.tables = c.in_ok-put_tables.ensures
    ∙ ap (λ (l : Layout). four ++ tables_from l 0 c.as_slice-tables.result.now) c.in_ok-sizes.ensures
    ∙ ap (λ (t : List (List (List ℕ))). four ++ tables_from (sized content) 0 t) tables in
    stream_made content sizes valid one two three four five c.pad4.new.out.items a b d e f g h c.in_ok-pad4.ensures
