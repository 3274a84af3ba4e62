use Rattle.asm_builder.proofs.Booleans.{iff_then}
use Rattle.asm_builder.proofs.SoundMethods.{name_iff}
use Rattle.asm_builder.proofs.tested.can_new.Goals as goal

pub returns : goal.returns
returns c = iff_then c.fits_name.ensures (name_iff c.args.name.now)
