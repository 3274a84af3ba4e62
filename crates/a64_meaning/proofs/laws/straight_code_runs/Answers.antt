use Rattle.std.proofs.Common.{IsTrue}
use Rattle.a64_meaning.proofs.Straight.{adds, calls, reads}
use Rattle.a64_meaning.proofs.laws.straight_code_runs.Goals as goal

pub returns : goal.returns
returns g c = record {
  adds = λ b ground answers. adds b ground (λ rva n. IsTrue (answers rva n));
  calls = λ b ground answers. calls b ground (λ rva n. IsTrue (answers rva n));
  reads = λ b ground answers. reads b ground (λ rva n. IsTrue (answers rva n));
}
