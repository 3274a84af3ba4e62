use Rattle.std.proofs.Common.{◌≡◌, ◌<◌, ◌≤◌, ◌++◌, ℕ, List, length, ap, subst, sym, ◌∙◌, arith}
use Rattle.asm_builder.specs.declared.asked.Method.{Method}
use Rattle.asm_builder.specs.Asked.{Asked}
use Rattle.asm_builder.specs.Cells.{tables_of, user_heap}
use Rattle.asm_builder.specs.Content.{Heaps, all_after, all_numbers, bodies_from, module_guid, no_heaps, padded4}
use Rattle.asm_builder.specs.Sound.{IsSound}
use Rattle.asm_builder.proofs.AllTables.{after_none, all_taken, content_is, heaps_step, numbers_none, rows_short, tables_step}
use Rattle.asm_builder.proofs.Counts.{few_methods}
use Rattle.asm_builder.proofs.content.Content.of.Goals as goal

pub loop-table-init : goal.loop-table-init
loop-table-init c = record { heaps = c.in_ok-heaps.ensures ∙ sym after_none; tables = c.new-tables.ensures.items ∙ sym numbers_none }

pub rows-requires : goal.rows-requires
rows-requires c =
    let sound = subst IsSound c.builder.view_is c.builder.invariant.1 in
    let small : c.loop-table.table < 64 = omega arith in
    record { short = rows_short c.args.builder.now c.loop-table.table small c.loop-table.heaps c.loop-table.invariant.heaps sound }

pub loop-table-preserved : goal.loop-table-preserved
loop-table-preserved c =
    let small : c.loop-table.table < 64 = omega arith in
    record {
      heaps =
          heaps_step c.args.builder.now c.loop-table.table small c.loop-table.heaps c.rows.new.heaps
          c.loop-table.invariant.heaps c.in_ok-rows.ensures.heaps;
      tables =
          tables_step c.args.builder.now c.loop-table.table small c.loop-table.heaps c.loop-table.tables.items
          c.push.new.self.items c.in_ok-rows.field-0
          c.loop-table.invariant.heaps c.loop-table.invariant.tables c.in_ok-rows.ensures.rows c.in_ok-push.ensures.items;
    }

pub bodies-requires-clause-few : goal.bodies-requires-clause-few
bodies-requires-clause-few c =
    few_methods _ c.builder.invariant.1 (length c.deref-2.result.now) (ap (λ (l : List Method). length l) c.deref-2.ensures.value)

pub returns : goal.returns
returns c =
    let past : 64 ≤ c.loop-table.table = omega arith in
    let taken = all_taken c.args.builder.now c.loop-table.table past in
    let heaps : record { strings = c.heaps-2.inside.strings.items; blobs = c.heaps-2.inside.blobs.items }
    ≡ all_after no_heaps (tables_of c.args.builder.now) =
    c.heaps-2.view_is ∙ c.loop-table.invariant.heaps ∙ ap (all_after no_heaps) taken in
    content_is c.args.builder.now c.from_vec.result c.from_vec-2.result c.from_vec-3.result c.from_vec-4.result
    c.from_vec-5.result c.from_vec-6.result
    (c.from_vec.ensures ∙ c.loop-table.invariant.tables ∙ ap (all_numbers no_heaps) taken)
    (c.from_vec-2.ensures ∙ c.in_ok-pad4-2.ensures ∙ ap (λ (h : Heaps). padded4 h.strings) heaps)
    (c.from_vec-3.ensures ∙ c.in_ok-pad4.ensures
    ∙ ap padded4 (c.in_ok-user_strings.ensures
    ∙ ap user_heap (c.deref.ensures.value ∙ ap (λ (a : Asked). a.user_strings) c.builder.view_is)))
    (c.from_vec-4.ensures ∙ c.in_ok-extend_from_slice.ensures.items ∙ ap (λ (l : List ℕ). l ++ module_guid) c.new-guids.ensures.items)
    (c.from_vec-5.ensures ∙ c.in_ok-pad4-3.ensures ∙ ap (λ (h : Heaps). padded4 h.blobs) heaps)
    (c.from_vec-6.ensures ∙ c.in_ok-bodies.ensures
    ∙ ap (bodies_from 0) (c.deref-2.ensures.value ∙ ap (λ (a : Asked). a.methods) c.builder.view_is))
