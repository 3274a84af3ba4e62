use Rattle.std.proofs.Common.{◌≡◌, ◌+◌, ◌++◌, ◌∷◌, [], map, sym, ap, arith, ◌∙◌}
use Rattle.std.proofs.lemmas.List.FromFn.{map-range_with_len_more}
use Rattle.std.specs.List.{range_with_len}
use Rattle.metadata.specs.Schema.{table_number}
use Rattle.metadata.specs.Tables.{rows_of}
use Rattle.cli_assembly.specs.Kept.{sig_read}
use Rattle.cli_assembly.specs.Signatures.{local_sig_of}
use Rattle.cli_assembly.proofs.signatures.read_local_sigs.Goals as goal

pub loop-index-preserved : goal.loop-index-preserved
loop-index-preserved c =
    let read = sig_read local_sig_of c.args.bytes.now c.args.metadata.now (table_number c.args.signature.table) c.args.signature.column in
    c.in_ok-push.ensures.items
    ∙ ap (λ xs. xs ++ c.in_ok-row_local_sig.field-0 ∷ []) c.loop-index.invariant
    ∙ ap (λ sig. map read (range_with_len 1 c.loop-index.index) ++ sig ∷ []) c.in_ok-row_local_sig.ensures
    ∙ sym (map-range_with_len_more read 1 c.loop-index.index (c.loop-index.index + 1) (omega arith))

pub returns : goal.returns
returns c =
    let read = sig_read local_sig_of c.args.bytes.now c.args.metadata.now (table_number c.args.signature.table) c.args.signature.column in
    let rows : c.rows-index-end.result ≡ rows_of c.args.metadata.now (table_number c.args.signature.table) =
    c.rows-index-end.ensures ∙ ap (rows_of c.args.metadata.now) c.number.ensures.number in
    let last : c.loop-index.index ≡ rows_of c.args.metadata.now (table_number c.args.signature.table) = omega (arith, rows) in
    c.loop-index.invariant ∙ ap (λ n. map read (range_with_len 1 n)) last
