use Rattle.std.proofs.Common.{ap, ◌∙◌}
use Rattle.cli_assembly.specs.Signatures.{local_sig_of}
use Rattle.cli_assembly.proofs.SignaturesBack.{locals_again}
use Rattle.cli_assembly.proofs.writing.write_local_sig.Goals as goal

pub returns-clause-read_back : goal.returns-clause-read_back
returns-clause-read_back c = ap local_sig_of c.in_ok-bytes.ensures ∙ locals_again c.args.locals.now c.requires.few c.requires.writable
