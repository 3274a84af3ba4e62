use Rattle.std.proofs.Common.{length, arith}
use Rattle.std.proofs.lemmas.Bool.{le-leb, leb-true}
use Rattle.asm_builder.proofs.PeSizes.{fits_by_sum}
use Rattle.asm_builder.proofs.file.Section.fits.Goals as goal

pub returns : goal.returns
returns c =
    let fits = fits_by_sum (length c.args.self.now.bodies) (length c.args.self.now.metadata.items) c.saturating_add.result
    (omega (arith, c.saturating_add.ensures, c.len.ensures, c.len-2.ensures, c.args.self.now.metadata.ok)) in
    ((λ h. fits.0 (leb-true _ _ h)), (λ h. le-leb _ _ (fits.1 h)))
