use Rattle.std.proofs.Common.{◌++◌, ◌∷◌, []}
use Rattle.pe_image.specs.Places.{placed_from, raw_start}
use Rattle.pe_image.proofs.WrittenLemmas.{parts_joined}
use Rattle.pe_image.proofs.written.Parts.join.Goals as goal

pub returns : goal.returns
returns c =
    let p = c.args.self.now in
    let ss = p.sections.now in
    parts_joined p.values (placed_from (raw_start ss) (ss ++ p.new.dat ∷ p.new.cod ∷ [])) ss p.bytes.now p.dat.now p.cod.now
    _ _ _ _ c.in_ok-put_headers.ensures c.in_ok-put_raw.ensures c.in_ok-put_padded.ensures c.in_ok-put_padded-2.ensures
