use Rattle.std.proofs.Common.{arith}
use Rattle.rtr_sections.specs.Parts.{parts_of}
use Rattle.rtr_sections.proofs.written.PartPlaces.of.Goals as goal

pub returns : goal.returns
unfolding parts_of
returns c =
    let slots = c.len-slot_count.ensures in
    let imports = c.len-import_count.ensures in
    let functions = c.len-function_count.ensures in
    record {
      header = omega arith;
      imports = omega arith;
      arrays = omega arith;
      functions = omega arith;
      unwinds = omega arith;
      identifier = omega arith;
      signatures = omega arith;
    }
