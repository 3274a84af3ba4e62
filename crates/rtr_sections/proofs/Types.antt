-- What the types of a plan's fields say of their numbers.
use Rattle.std.proofs.Common.{ℕ, ◌^◌, ◌<◌, All}
use Rattle.rtr_sections.specs.declared.image.Image.{Image}
use Rattle.rtr_sections.specs.Bounds.{HasWords}

-- Each number is one of its field's type.
pub record FitsTypes (plan : Image) : Type 0 where
  pub flags : plan.header.flags < 2 ^ 32
  pub sections : All (λ s. (s.rva < 2 ^ 32) × (s.size < 2 ^ 32)) plan.header.sections
  pub imports : All (λ i. (i.size < 2 ^ 32) × (i.flags < 2 ^ 16)) plan.imports
  pub slots : All (λ s. s.word < 2 ^ 64) plan.slots
  pub functions : All (λ f. (f.begin < 2 ^ 32) × (f.length < 2 ^ 32)) plan.functions
  pub entries : All HasWords plan.entries
