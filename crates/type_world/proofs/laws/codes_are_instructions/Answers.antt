use Rattle.type_world.proofs.Decoded.{decoded, refused, whole}
use Rattle.type_world.proofs.laws.codes_are_instructions.Goals as goal

pub returns-clause-decoded : goal.returns-clause-decoded
returns-clause-decoded c = decoded

pub returns-clause-whole : goal.returns-clause-whole
returns-clause-whole c = whole

pub returns-clause-refused : goal.returns-clause-refused
returns-clause-refused c = refused
