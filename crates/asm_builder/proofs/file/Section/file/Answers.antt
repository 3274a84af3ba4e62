use Rattle.std.proofs.Common.{◌≡◌, ◌++◌, ◌∙◌, List, ℕ, length, ap, arith}
use Rattle.pe_image.specs.Pieces.{fields_bytes}
use Rattle.asm_builder.specs.File.{coff_fields, metadata_bytes, section_size}
use Rattle.asm_builder.proofs.PeJoined.{file_joined}
use Rattle.asm_builder.proofs.file.Section.file.Goals as goal

pub returns : goal.returns
returns c = λ content bodies metadata.
    let entry = c.args.entry in
    let coff = c.put_coff.new.out.items in
    let optional = c.put_optional.new.out.items in
    let directories = c.put_directories.new.out.items in
    let header = c.put_section.new.out.items in
    let front = c.pad512.new.out.items in
    let cli = c.put_cli_header.new.out.items in
    let code = c.extend_from_slice.new.self.items in
    let all = c.extend_from_slice-2.new.self.items in
    let b : length c.args.self.now.bodies ≡ length content.bodies = ap (λ (t : List ℕ). length t) bodies in
    let m : length c.args.self.now.metadata.items ≡ length (metadata_bytes content) = ap (λ (t : List ℕ). length t) metadata in
    let size : c.size-size.result ≡ section_size content = omega (arith, c.size-size.ensures, b, m) in
    let few : c.len.result ≡ length content.bodies = c.len.ensures ∙ b in
    let many : c.len-2.result ≡ length (metadata_bytes content) = omega (arith, c.len-2.ensures, c.args.self.now.metadata.ok, m) in
    let first : coff ≡ fields_bytes (coff_fields entry) = c.in_ok-put_coff.ensures
    ∙ ap (λ (t : List ℕ). t ++ fields_bytes (coff_fields entry)) c.in_ok-out.ensures.items in
    let put : code ≡ cli ++ content.bodies = c.in_ok-extend_from_slice.ensures.items
    ∙ ap (λ (t : List ℕ). cli ++ t) (c.as_slice.ensures ∙ bodies) in
    let last : all ≡ code ++ metadata_bytes content = c.in_ok-extend_from_slice-2.ensures.items
    ∙ ap (λ (t : List ℕ). code ++ t) (c.deref.ensures.value ∙ metadata) in
    file_joined content entry c.size-size.result coff optional directories header front cli code all c.pad512-2.new.out.items size first
    c.in_ok-put_optional.ensures c.in_ok-put_directories.ensures c.in_ok-put_section.ensures c.in_ok-pad512.ensures
    (c.in_ok-put_cli_header.ensures content few many) put last c.in_ok-pad512-2.ensures
