use Rattle.std.proofs.Common.{◌∙◌}
use Rattle.native_format.proofs.UintLaws.{is_found, uint_at_of}
use Rattle.native_format.proofs.uint.read_uint.Goals as goal

pub returns-clause-found : goal.returns-clause-found
returns-clause-found c = is_found c.args.bytes.now c.args.at c.uint_from.result c.uint_from.ensures

pub returns-clause-only : goal.returns-clause-only
returns-clause-only c = λ v next h. c.uint_from.ensures ∙ uint_at_of c.args.bytes.now c.args.at v next h
