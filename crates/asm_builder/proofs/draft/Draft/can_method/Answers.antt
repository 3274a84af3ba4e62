use Rattle.std.proofs.Common.{arith}
use Rattle.asm_builder.specs.Asked.{method}
use Rattle.asm_builder.proofs.Booleans.{iff_then, locals_few, sig_few}
use Rattle.asm_builder.proofs.SoundMethods.{method_iff}
use Rattle.asm_builder.proofs.draft.Draft.can_method.Goals as goal

pub returns-clause-signatures : goal.returns-clause-signatures
returns-clause-signatures c = λ yes.
    let fits = c.fits_method.ensures.fits.0 yes in
    (sig_few c.args.sig.now fits.sig_fits, locals_few c.args.locals.now fits.locals_fit)

pub returns-clause-sound : goal.returns-clause-sound
returns-clause-sound c =
    iff_then c.fits_method.ensures.fits
    (method_iff c.args.self.now
    (method c.args.flags c.args.name.now c.args.sig.now c.args.max_stack c.args.locals.now c.args.code.now) (omega arith) (omega arith)
    c.fits_method.ensures.sound)
