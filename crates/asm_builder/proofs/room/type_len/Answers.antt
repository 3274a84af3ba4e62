use Rattle.std.proofs.Common.{◌≡◌, ◌∙◌, ℕ, length, ap, arith}
use Rattle.rtr_bytes.specs.Compressed.{compressed_bytes}
use Rattle.cli_assembly.specs.Shortest.{coded_of_token}
use Rattle.asm_builder.proofs.TypesLen.{coded_is}
use Rattle.asm_builder.proofs.room.type_len.Goals as goal

pub returns-in-Class-clause-len : goal.returns-in-Class-clause-len
returns-in-Class-clause-len c =
    let coded : c.coded_index.result ≡ coded_of_token c.in-Class.token = c.coded_index.ensures ∙ coded_is c.in-Class.token in
    let size = c.compressed_len.ensures.len ∙ ap (λ (n : ℕ). length (compressed_bytes n)) coded in
    rw c.in-Class.is (omega (arith, size))
