-- The length of a built file is that of its parts, computed without its bytes.
use Rattle.std.proofs.Common.{◌≡◌, ◌<◌, ◌+◌, ◌*◌, ℕ, List, [], length, get_or, sym, ap, ◌∙◌, subst, arith}
use Rattle.std.specs.Prelude.{sum_by, filter}
use Rattle.std.specs.List.{AllZip, range_with_len}
use Rattle.std.proofs.lemmas.List.{get_or-map}
use Rattle.std.proofs.lemmas.List.Elements.{recursion_from_All}
use Rattle.pe_image.specs.Places.{aligned}
use Rattle.metadata.specs.Tables.{row_size, rows_of, table_size, widths_of}
use Rattle.asm_builder.specs.declared.content.Content.{Content}
use Rattle.asm_builder.specs.File.{file_of, is_there, metadata_bytes, sized}
use Rattle.asm_builder.proofs.Sizes.{file_length, metadata_length, rows_size, tables_size}
use Rattle.asm_builder.specs.File.{table_bytes, tables_stream}
use Rattle.asm_builder.proofs.TablesBack.{IsSpelled}
use Rattle.asm_builder.proofs.TablesInRow.{Fits, have_sizes, length-table, length-tables}
use Rattle.asm_builder.proofs.MetadataStand.{length-metadata_parts, length-tables_stream, rows_bytes}
use Rattle.asm_builder.proofs.MetadataHeader.{length-tables_header}
use Rattle.asm_builder.proofs.PeBack.{length-whole}

-- ---- the rows

length-table_is : (content : Content) → IsSpelled content → (i : ℕ) → i < 64
    → length (table_bytes (sized content) i (get_or content.tables i [])) ≡ table_size (sized content) i
unfolding row_size
length-table_is content is i below =
    let count = is.count in
    let rows = get_or content.tables i [] in
    let fit = recursion_from_All (AllZip Fits (widths_of (sized content) i)) rows (is.fit i) in
    let number : rows_of (sized content) i ≡ length rows =
    get_or-map (λ (r : List (List ℕ)). length r) content.tables i [] 0 (omega (arith, below, count)) in
    length-table (widths_of (sized content) i) rows fit
    ∙ ap (λ (n : ℕ). n * sum_by (λ w. w) (widths_of (sized content) i)) (sym number)

pub length-rows : (content : Content) → IsSpelled content → length (rows_bytes content) ≡ rows_size content
length-rows content is =
    let count = is.count in
    let sizes = have_sizes (sized content) (table_size (sized content)) 0 content.tables (λ i below.
    let same : i ≡ 0 + i = omega arith in
    subst (λ (t : ℕ). length (table_bytes (sized content) t (get_or content.tables i [])) ≡ table_size (sized content) t) same
    (length-table_is content is i (omega (arith, below, count)))) in
    length-tables (sized content) (table_size (sized content)) 0 content.tables sizes
    ∙ ap (λ (n : ℕ). sum_by (table_size (sized content)) (range_with_len 0 n)) count

-- ---- the metadata

pub length-metadata : (content : Content) → IsSpelled content → length (metadata_bytes content) ≡ metadata_length content
length-metadata content is =
    let stream : length (tables_stream content) ≡ tables_size content =
    length-tables_stream content
    ∙ ap (λ (n : ℕ). aligned 4 (n + length (rows_bytes content))) (length-tables_header content)
    ∙ ap (λ (n : ℕ). aligned 4 (24 + 4 * length (filter is_there content.tables) + n)) (length-rows content is) in
    let parts = length-metadata_parts content in
    omega (arith, stream, parts)

-- ---- the file

pub length-file : (content : Content) (entry : ℕ) → IsSpelled content → length (file_of content entry) ≡ file_length content
unfolding file_length
length-file content entry is =
    length-whole content entry ∙ ap (λ (n : ℕ). 512 + aligned 512 (72 + (length content.bodies + n))) (length-metadata content is)
