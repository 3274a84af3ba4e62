use Rattle.rtr_bytes.specs.Compressed.{compressed_bytes}
use Rattle.rtr_bytes.proofs.Spellings.{begins_behind, compressed_spells}
use Rattle.rtr_bytes.proofs.compressed.shortest_compressed.Goals as goal

pub returns-clause-read_back : goal.returns-clause-read_back
returns-clause-read_back c n before rest h = begins_behind (compressed_bytes n) before rest n (compressed_spells n h)
