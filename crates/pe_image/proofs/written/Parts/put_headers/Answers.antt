use Rattle.std.proofs.Common.{◌∷◌, [], ℕ, List, ap, arith}
use Rattle.pe_image.specs.declared.section.PeSection.{PeSection}
use Rattle.pe_image.specs.Places.{end_from, raw_start}
use Rattle.pe_image.specs.Pieces.{header_bytes}
use Rattle.pe_image.proofs.PlacesLemmas.{end_from-append, end_from-grows}
use Rattle.pe_image.proofs.WrittenLemmas.{headers_joined, on_ok_then}
use Rattle.pe_image.proofs.written.Parts.put_headers.Goals as goal

pub put_table-requires : goal.put_table-requires
put_table-requires c =
    let p = c.args.self.now in
    let ss = p.sections.now in
    let more : List PeSection = p.new.dat ∷ p.new.cod ∷ [] in
    omega (
      arith,
      ap (λ (t : ℕ). end_from t ss) c.requires.joinable.first,
      end_from-append ss more (raw_start ss),
      end_from-grows more (end_from (raw_start ss) ss),
      c.requires.joinable.room,
    )

pub put_table-requires-2 : goal.put_table-requires-2
put_table-requires-2 c =
    let p = c.args.self.now in
    let ss = p.sections.now in
    let more : List PeSection = p.new.dat ∷ p.new.cod ∷ [] in
    omega (
      arith,
      c.in_ok-next.ensures.next,
      ap (λ (t : ℕ). end_from t ss) c.requires.joinable.first,
      end_from-append ss more (raw_start ss),
      c.requires.joinable.room,
    )

pub returns : goal.returns
returns c =
    let p = c.args.self.now in
    let ss = p.sections.now in
    let more : List PeSection = p.new.dat ∷ p.new.cod ∷ [] in
    on_ok_then c.put_padding.result _ _ (λ e.
    headers_joined (header_bytes p.values) ss more p.values.optional.size_of_headers (raw_start ss) c.in_ok-next.next c.len-len.result
    c.args.out.now.items _ _ _ _ c.requires.first c.in_ok-put.ensures c.in_ok-next.ensures.table c.in_ok-next.ensures.next
    c.in_ok-put_table.ensures.table (omega (arith, c.len-len.ensures)) e c.requires.joinable.first) c.put_padding.ensures
