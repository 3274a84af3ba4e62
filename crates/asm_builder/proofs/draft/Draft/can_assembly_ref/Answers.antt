use Rattle.asm_builder.proofs.Booleans.{iff_then}
use Rattle.asm_builder.proofs.SoundCalls.{assembly_ref_iff}
use Rattle.asm_builder.proofs.draft.Draft.can_assembly_ref.Goals as goal

pub returns : goal.returns
returns c = iff_then c.fits_assembly_ref.ensures.fits (assembly_ref_iff c.args.self.now c.args.name.now c.fits_assembly_ref.ensures.sound)
