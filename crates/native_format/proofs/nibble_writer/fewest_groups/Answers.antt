use Rattle.native_format.proofs.NibbleLaws.{groups_alone, fewest, are_nibbles}
use Rattle.native_format.proofs.nibble_writer.fewest_groups.Goals as goal

pub returns-clause-spells : goal.returns-clause-spells
returns-clause-spells c = groups_alone

pub returns-clause-fewest : goal.returns-clause-fewest
returns-clause-fewest c = λ v ns h e. fewest v ns (are_nibbles ns h) e
