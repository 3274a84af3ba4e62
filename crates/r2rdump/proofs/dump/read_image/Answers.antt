use Rattle.std.proofs.Common.{sym, ap, ◌∙◌}
use Rattle.pe_image.specs.Headers.{Headers}
use Rattle.r2rdump.proofs.NoNative.{none_native}
use Rattle.r2rdump.proofs.dump.read_image.Goals as goal

pub returns-in-None-clause-well_formed : goal.returns-in-None-clause-well_formed
returns-in-None-clause-well_formed c =
    none_native c.args.rows c.args.bytes.now (sym (c.in-None.ensures ∙ ap (λ (h : Headers). h.native) c.requires.pe))
