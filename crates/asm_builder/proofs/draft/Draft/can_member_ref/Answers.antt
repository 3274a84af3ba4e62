use Rattle.asm_builder.proofs.Booleans.{iff_then}
use Rattle.asm_builder.proofs.SoundCalls.{member_ref_iff}
use Rattle.asm_builder.proofs.draft.Draft.can_member_ref.Goals as goal

pub returns : goal.returns
returns c =
    iff_then c.fits_member_ref.ensures.fits
    (member_ref_iff c.args.self.now c.args.parent c.args.name.now c.args.sig.now c.fits_member_ref.ensures.sound)
