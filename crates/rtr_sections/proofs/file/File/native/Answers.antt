use Rattle.std.proofs.Common.{◌∙◌, ap}
use Rattle.pe_image.specs.Headers.{Headers}
use Rattle.rtr_sections.proofs.file.File.native.Goals as goal

pub returns : goal.returns
returns c = rw (← c.self.view_is) (c.native.ensures ∙ ap (λ (h : Headers). h.native) c.self.invariant.1)
