use Rattle.std.proofs.Common.{◌≡◌, map}
use Rattle.std.specs.List.{range_with_len}
use Rattle.metadata.specs.Schema.{table_number}
use Rattle.cli_assembly.specs.Kept.{sig_read}
use Rattle.cli_assembly.specs.Signatures.{field_sig_of}
use Rattle.cli_assembly.proofs.signatures.read_field_sigs.Given as goal

abbrev pub invariant-loop-index : goal.invariant-loop-index
invariant-loop-index l =
    l.sigs.items ≡ map (sig_read field_sig_of l.bytes l.metadata (table_number l.signature.table) l.signature.column)
    (range_with_len 1 l.index)
