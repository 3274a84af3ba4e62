use Rattle.std.proofs.Common.{sym}
use Rattle.cli_assembly.specs.Shortest.{field_sig_bytes}
use Rattle.asm_builder.proofs.room.field_room.Goals as goal

pub returns : goal.returns
returns c = c.blob_room.ensures (field_sig_bytes c.args.of) (sym c.field_sig_len.ensures)
