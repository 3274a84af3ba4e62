use Rattle.std.proofs.Common.{◌≡◌, true, List, length, ap, subst, sym}
use Rattle.std.specs.List.{list_all}
use Rattle.asm_builder.specs.declared.asked.TypeDef.{TypeDef}
use Rattle.asm_builder.specs.declared.asked.Method.{Method}
use Rattle.asm_builder.specs.Room.{begins_early}
use Rattle.asm_builder.proofs.Counts.{few_methods}
use Rattle.asm_builder.proofs.Owned.{early}
use Rattle.asm_builder.proofs.builder.Builder.rows.Goals as goal

pub type_defs-requires-clause-early : goal.type_defs-requires-clause-early
type_defs-requires-clause-early c =
    subst (λ (l : List TypeDef). list_all begins_early l ≡ true) (sym c.deref-in-2.ensures.value) (early _ c.self.invariant.1)

pub methods-requires-clause-few : goal.methods-requires-clause-few
methods-requires-clause-few c =
    few_methods _ c.self.invariant.1 (length c.deref-in-6.result.now) (ap (λ (l : List Method). length l) c.deref-in-6.ensures.value)
