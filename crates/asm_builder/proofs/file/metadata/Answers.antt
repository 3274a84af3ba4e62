use Rattle.std.proofs.Common.{◌≡◌, ◌+◌, ◌++◌, ◌∙◌, List, ℕ, length, ap, arith}
use Rattle.asm_builder.specs.File.{first_stream, root_bytes, stream_header, tables_stream}
use Rattle.asm_builder.proofs.MetadataPut.{blobs_of, guids_of, has_headers, header_put, is_blobs_name, is_guids_name}
use Rattle.asm_builder.proofs.MetadataPut.{is_strings_name, is_tables_name, is_user_strings_name, metadata_made}
use Rattle.asm_builder.proofs.MetadataPut.{strings_of, tables_of, user_strings_of}
use Rattle.asm_builder.proofs.file.metadata.Goals as goal

pub returns : goal.returns
returns c =
    let content = c.args.content.now in
    let one = c.put_root.new.out.items in
    let two = c.put_stream_header.new.out.items in
    let three = c.put_stream_header-2.new.out.items in
    let four = c.put_stream_header-3.new.out.items in
    let five = c.put_stream_header-4.new.out.items in
    let six = c.put_stream_header-5.new.out.items in
    let made : c.in_ok-tables.tables.items ≡ tables_stream content = c.in_ok-tables.ensures in
    let root : one ≡ root_bytes = c.in_ok-put_root.ensures ∙ ap (λ (t : List ℕ). t ++ root_bytes) c.new-out.ensures.items in
    let start : c.from.result ≡ first_stream = c.from.ensures in
    let whole = ap (λ (t : List ℕ). length t) made in
    let size : c.len.result ≡ length (tables_stream content) = omega (arith, whole, c.len.ensures, c.in_ok-tables.tables.ok) in
    let a : c.in_ok-at.at ≡ first_stream + length (tables_stream content) = omega (arith, c.in_ok-at.ensures.next, start, size) in
    let b : c.in_ok-at-2.at ≡ c.in_ok-at.at + length content.strings = omega (arith, c.in_ok-at-2.ensures.next, c.len-2.ensures) in
    let d : c.in_ok-at-3.at ≡ c.in_ok-at-2.at + length content.user_strings = omega (arith, c.in_ok-at-3.ensures.next, c.len-3.ensures) in
    let e : c.in_ok-at-4.at ≡ c.in_ok-at-3.at + length content.guids = omega (arith, c.in_ok-at-4.ensures.next, c.len-4.ensures) in
    let first : two ≡ one ++ stream_header first_stream (tables_of content) =
    header_put one two _ c.from.result c.len.result (tables_of content) c.in_ok-at.ensures.header size is_tables_name
    ∙ ap (λ (k : ℕ). one ++ stream_header k (tables_of content)) start in
    let second : three ≡ two ++ stream_header c.in_ok-at.at (strings_of content) =
    header_put two three _ c.in_ok-at.at c.len-2.result (strings_of content) c.in_ok-at-2.ensures.header c.len-2.ensures is_strings_name in
    let third : four ≡ three ++ stream_header c.in_ok-at-2.at (user_strings_of content) =
    header_put three four _ c.in_ok-at-2.at c.len-3.result (user_strings_of content)
    c.in_ok-at-3.ensures.header c.len-3.ensures is_user_strings_name in
    let fourth : five ≡ four ++ stream_header c.in_ok-at-3.at (guids_of content) =
    header_put four five _ c.in_ok-at-3.at c.len-4.result (guids_of content) c.in_ok-at-4.ensures.header c.len-4.ensures is_guids_name in
    let fifth : six ≡ five ++ stream_header c.in_ok-at-4.at (blobs_of content) =
    header_put five six _ c.in_ok-at-4.at c.len-5.result (blobs_of content) c.in_ok-_end.ensures.header c.len-5.ensures is_blobs_name in
    let headed =
    has_headers content one two three four five six c.in_ok-at.at c.in_ok-at-2.at c.in_ok-at-3.at c.in_ok-at-4.at root a
    b d e first second third fourth fifth in
    let seven = c.extend_from_slice.new.self.items in
    let eight = c.extend_from_slice-2.new.self.items in
    let nine = c.extend_from_slice-3.new.self.items in
    let ten = c.extend_from_slice-4.new.self.items in
    let tables : seven ≡ six ++ tables_stream content = c.in_ok-extend_from_slice.ensures.items
    ∙ ap (λ (t : List ℕ). six ++ t) (c.deref.ensures.value ∙ made) in
    let strings : eight ≡ seven ++ content.strings = c.in_ok-extend_from_slice-2.ensures.items
    ∙ ap (λ (t : List ℕ). seven ++ t) c.as_slice.ensures in
    let user_strings : nine ≡ eight ++ content.user_strings = c.in_ok-extend_from_slice-3.ensures.items
    ∙ ap (λ (t : List ℕ). eight ++ t) c.as_slice-2.ensures in
    let guids : ten ≡ nine ++ content.guids = c.in_ok-extend_from_slice-4.ensures.items
    ∙ ap (λ (t : List ℕ). nine ++ t) c.as_slice-3.ensures in
    let blobs : c.extend_from_slice-5.new.self.items ≡ ten ++ content.blobs = c.in_ok-extend_from_slice-5.ensures.items
    ∙ ap (λ (t : List ℕ). ten ++ t) c.as_slice-4.ensures in
    metadata_made content six seven eight nine ten c.extend_from_slice-5.new.self.items headed tables strings user_strings guids blobs
