use Rattle.std.proofs.Common.{ap, ◌∙◌}
use Rattle.cli_assembly.specs.Signatures.{field_sig_of}
use Rattle.cli_assembly.proofs.SignaturesBack.{field_again}
use Rattle.cli_assembly.proofs.writing.write_field_sig.Goals as goal

pub returns-clause-read_back : goal.returns-clause-read_back
returns-clause-read_back c = ap field_sig_of c.in_ok-bytes.ensures ∙ field_again c.args.of c.requires
