use Rattle.std.proofs.Common.{◌≡◌, ◌++◌, ◌∙◌, List, ℕ, get_or, ap}
use Rattle.std.specs.Prelude.{flat_map}
use Rattle.metadata.specs.Tables.{widths_of}
use Rattle.asm_builder.specs.File.{row_bytes, tables_from}
use Rattle.asm_builder.proofs.TablesPut.{tables_end, tables_more}
use Rattle.asm_builder.proofs.file.put_tables.Goals as goal

pub loop-table-preserved : goal.loop-table-preserved
loop-table-preserved c =
    let sizes = c.args.sizes.now in
    let tables = c.args.tables.now in
    let i = c.loop-table.table in
    let rows : List (List ℕ) = c.index-tables-table.result in
    let old = c.loop-table.out.items in
    let widths : c.as_slice.result.now ≡ widths_of sizes i = c.as_slice.ensures ∙ c.in_ok-widths.ensures.widths in
    let whole : c.as_slice-in-loop-table.result.now ≡ get_or tables i rows = c.as_slice-in-loop-table.ensures ∙ c.index-tables-table.is in
    tables_more sizes tables i rows old c.put_table.new.out.items (c.args.out.now.items ++ tables_from sizes 0 tables)
    c.loop-table-test.true
    (c.in_ok-put_table.ensures
    ∙ ap (λ (ws : List ℕ). old ++ flat_map (row_bytes ws) c.as_slice-in-loop-table.result.now) widths
    ∙ ap (λ (r : List (List ℕ)). old ++ flat_map (row_bytes (widths_of sizes i)) r) whole) c.loop-table.invariant

pub returns : goal.returns
returns c =
    tables_end c.args.sizes.now c.args.tables.now c.loop-table.table c.loop-table.out.items
    (c.args.out.now.items ++ tables_from c.args.sizes.now 0 c.args.tables.now) c.loop-table-test.false c.loop-table.invariant
