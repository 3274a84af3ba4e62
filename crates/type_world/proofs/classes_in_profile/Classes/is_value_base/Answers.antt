use Rattle.std.proofs.Common.{ap}
use Rattle.type_world.specs.declared.classes_in_profile.ClassFacts.{ClassFacts}
use Rattle.type_world.proofs.classes_in_profile.Classes.is_value_base.Goals as goal

pub returns : goal.returns
returns c = ap (λ (f : ClassFacts). f.value_base) c.class_facts.ensures
