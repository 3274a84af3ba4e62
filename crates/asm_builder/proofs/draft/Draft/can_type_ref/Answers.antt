use Rattle.asm_builder.proofs.Booleans.{iff_then}
use Rattle.asm_builder.proofs.SoundCalls.{type_ref_iff}
use Rattle.asm_builder.proofs.draft.Draft.can_type_ref.Goals as goal

pub returns : goal.returns
returns c =
    iff_then c.fits_type_ref.ensures.fits
    (type_ref_iff c.args.self.now c.args.parent c.args.space.now c.args.name.now c.fits_type_ref.ensures.sound)
