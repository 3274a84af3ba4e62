use Rattle.asm_builder.proofs.Booleans.{iff_then}
use Rattle.asm_builder.proofs.SoundCalls.{attribute_iff}
use Rattle.asm_builder.proofs.draft.Draft.can_attribute.Goals as goal

pub returns : goal.returns
returns c =
    iff_then c.fits_attribute.ensures.fits
    (attribute_iff c.args.self.now c.args.parent c.args.constructor c.args.value.now c.fits_attribute.ensures.sound)
