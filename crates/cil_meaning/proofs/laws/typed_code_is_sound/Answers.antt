use Rattle.cil_meaning.specs.State.{no_objects}
use Rattle.cil_meaning.proofs.Sound.{act_sound}
use Rattle.cil_meaning.proofs.laws.typed_code_is_sound.Goals as goal

pub returns : goal.returns
returns c =
    λ world m arguments locals heap next ha hl operation arg kinds stack h. act_sound no_objects world m arguments
    locals heap next ha hl operation arg kinds stack h
