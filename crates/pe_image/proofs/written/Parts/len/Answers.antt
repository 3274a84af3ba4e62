use Rattle.std.proofs.Common.{◌∷◌, [], ℕ, List, ap, sym, ◌∙◌, arith}
use Rattle.pe_image.specs.declared.section.PeSection.{PeSection}
use Rattle.pe_image.specs.Places.{end_from, raw_start}
use Rattle.pe_image.proofs.PlacesLemmas.{end_from-append, end_from-grows}
use Rattle.pe_image.proofs.written.Parts.len.Goals as goal

pub raw_end-requires : goal.raw_end-requires
raw_end-requires c =
    let p = c.args.self.now in
    let ss = p.sections.now in
    let more : List PeSection = p.new.dat ∷ p.new.cod ∷ [] in
    omega (
      arith,
      ap (λ (t : ℕ). end_from t ss) c.requires.first,
      end_from-append ss more (raw_start ss),
      end_from-grows more
          (end_from (raw_start ss) ss),
      c.requires.room,
    )

pub raw_end-requires-2 : goal.raw_end-requires-2
raw_end-requires-2 c =
    let p = c.args.self.now in
    let ss = p.sections.now in
    let more : List PeSection = p.new.dat ∷ p.new.cod ∷ [] in
    omega (
      arith,
      c.raw_end.ensures,
      ap (λ (t : ℕ). end_from t ss) c.requires.first,
      end_from-append ss more (raw_start ss),
      c.requires.room,
    )

pub returns : goal.returns
returns c =
    let p = c.args.self.now in
    let ss = p.sections.now in
    let more : List PeSection = p.new.dat ∷ p.new.cod ∷ [] in
    c.raw_end-2.ensures ∙ ap (λ (t : ℕ). end_from t more) (c.raw_end.ensures ∙ ap (λ (t : ℕ). end_from t ss) c.requires.first)
    ∙ sym (end_from-append ss more (raw_start ss))
