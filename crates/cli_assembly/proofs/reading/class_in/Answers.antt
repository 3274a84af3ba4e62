use Rattle.std.proofs.Common.{◌∙◌}
use Rattle.cli_assembly.proofs.TypeLists.{class_found}
use Rattle.cli_assembly.proofs.reading.class_in.Goals as goal

pub returns : goal.returns
returns c = c.class_of.ensures ∙ class_found c.args.bytes.now c.compressed_at.result c.compressed_at.ensures.exact
