use Rattle.asm_builder.proofs.Booleans.{iff_then}
use Rattle.asm_builder.proofs.SoundCalls.{user_string_iff}
use Rattle.asm_builder.proofs.draft.Draft.can_user_string.Goals as goal

pub returns : goal.returns
returns c = iff_then c.fits_user_string.ensures.fits (user_string_iff c.args.self.now c.args.units.now c.fits_user_string.ensures.sound)
