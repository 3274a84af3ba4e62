use Rattle.std.proofs.Common.{ap, ◌∙◌}
use Rattle.cli_assembly.specs.Signatures.{method_sig_of}
use Rattle.cli_assembly.proofs.SignaturesBack.{method_again}
use Rattle.cli_assembly.proofs.writing.write_method_sig.Goals as goal

pub returns-clause-read_back : goal.returns-clause-read_back
returns-clause-read_back c = ap method_sig_of c.in_ok-bytes.ensures ∙ method_again c.args.sig.now c.requires
