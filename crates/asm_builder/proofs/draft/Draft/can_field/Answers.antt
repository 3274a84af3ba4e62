use Rattle.std.proofs.Common.{arith}
use Rattle.asm_builder.proofs.Booleans.{iff_then}
use Rattle.asm_builder.proofs.SoundCalls.{field_iff}
use Rattle.asm_builder.proofs.draft.Draft.can_field.Goals as goal

pub returns : goal.returns
returns c =
    iff_then c.fits_field.ensures.fits
    (field_iff c.args.self.now c.args.flags c.args.name.now c.args.sig (omega arith) c.fits_field.ensures.sound)
