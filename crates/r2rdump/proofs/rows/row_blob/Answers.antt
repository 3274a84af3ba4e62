use Rattle.std.proofs.Common.{ℕ, List, Bor, ap, ◌∙◌}
use Rattle.cli_assembly.specs.Assemblies.{assembly_of, blob_at}
use Rattle.r2rdump.proofs.Texts.{found_or}
use Rattle.r2rdump.proofs.rows.row_blob.Goals as goal

pub returns : goal.returns
returns c =
    ap (λ (r : Bor (List ℕ)). r.now) c.unwrap_or.ensures
    ∙ found_or (blob_at (assembly_of c.args.assembly.now)) c.blob.result _ c.column-at.result _ c.blob.ensures c.column-at.ensures
