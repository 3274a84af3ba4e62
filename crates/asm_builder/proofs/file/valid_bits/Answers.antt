use Rattle.std.proofs.Common.{◌≡◌, ◌∙◌, true, false, List, ℕ, get_or, sym, ap, arith}
use Rattle.std.proofs.lemmas.List.{take_all}
use Rattle.asm_builder.specs.Cells.{is_empty}
use Rattle.asm_builder.specs.File.{valid_bits}
use Rattle.asm_builder.proofs.TablesPut.{bits_kept, bits_set, empty_by}
use Rattle.asm_builder.proofs.file.valid_bits.Goals as goal
use Rattle.asm_builder.proofs.file.valid_bits.Goals.{then-not-is_empty, else-not-is_empty}

pub loop-table-preserved : goal.loop-table-preserved
loop-table-preserved c =
    let tables = c.args.tables.now in
    let i = c.loop-table.table in
    let rows : List (List ℕ) = c.index-tables-table.result in
    let empty : is_empty (get_or tables i rows) ≡ c.is_empty.result =
    ap (λ (r : List (List ℕ)). is_empty r) (sym c.index-tables-table.is) ∙ empty_by c.is_empty.result rows c.is_empty.ensures in
    elim c.if-not-is_empty.branch [
      | then-not-is_empty w ↦
          let some : is_empty (get_or tables i rows) ≡ false = empty ∙ w.if-not-is_empty.true in
          w.valid-is ∙ bits_set tables i c.loop-table.valid rows c.loop-table-test.true (omega arith) some c.loop-table.invariant
      | else-not-is_empty w ↦
          let none : is_empty (get_or tables i rows) ≡ true = empty ∙ w.if-not-is_empty.false in
          w.valid-is ∙ bits_kept tables i c.loop-table.valid rows c.loop-table-test.true none c.loop-table.invariant
    ]

pub returns : goal.returns
returns c = c.loop-table.invariant ∙ ap valid_bits (take_all c.loop-table.table c.args.tables.now (omega arith))
