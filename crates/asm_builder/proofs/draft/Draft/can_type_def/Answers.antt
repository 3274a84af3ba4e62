use Rattle.std.proofs.Common.{arith}
use Rattle.asm_builder.proofs.Booleans.{iff_then}
use Rattle.asm_builder.proofs.SoundCalls.{type_def_iff}
use Rattle.asm_builder.proofs.draft.Draft.can_type_def.Goals as goal

pub returns : goal.returns
returns c =
    iff_then c.fits_type_def.ensures.fits
    (type_def_iff c.args.self.now c.args.flags c.args.space.now c.args.name.now c.args.base (omega arith) c.fits_type_def.ensures.sound)
