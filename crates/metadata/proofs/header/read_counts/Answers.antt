use Rattle.std.proofs.Common.{◌≡◌, Bool, cond, sym, ap, ◌∙◌, arith}
use Rattle.rtr_bytes.specs.Field.{u32_of}
use Rattle.metadata.specs.Tables.{count_at, has_table, row_count}
use Rattle.metadata.proofs.Counts.{count_is, counts_end, counts_more, place_first, place_more, place_small, step_small}
use Rattle.metadata.proofs.header.read_counts.Goals as goal

pub loop-table-init : goal.loop-table-init
loop-table-init c = record {
  rows_are = c.in_ok-rows.ensures.items;
  place_is = sym (place_first c.args.bytes.now c.args.at);
}

pub overflow_add-place-in-loop-table : goal.overflow_add-place-in-loop-table
overflow_add-place-in-loop-table c =
    let small = place_small c.args.bytes.now c.args.at c.loop-table.table c.loop-table.place c.loop-table.invariant.place_is in
    let step = step_small c.has_table-is_there.result c.count_size-place.result c.count_size-place.ensures in
    let within = c.requires.within in
    omega (arith, small, step, within)

pub loop-table-preserved : goal.loop-table-preserved
loop-table-preserved c =
    let bytes = c.args.bytes.now in
    let at = c.args.at in
    let table = c.loop-table.table in
    let place = c.loop-table.place in
    let valid = c.args.valid in
    let there : c.has_table-is_there.result ≡ has_table valid table = c.has_table-is_there.ensures in
    let count : row_count bytes at table ≡ c.count_of.result =
    count_is bytes at table valid place c.count_of.result c.requires.valid c.loop-table.invariant.place_is
    (c.count_of.ensures ∙ ap (λ (b : Bool). cond b (u32_of bytes place) 0) there) in
    record {
      rows_are = c.in_ok-push.ensures.items
          ∙ counts_more bytes at table c.count_of.result c.loop-table.rows.items c.loop-table.invariant.rows_are count;
      place_is =
          place_more bytes at table valid place c.count_size-place.result c.requires.valid c.loop-table.invariant.place_is
          (c.count_size-place.ensures ∙ ap (λ (b : Bool). cond b 4 0) there);
    }

pub returns : goal.returns
returns c =
    let done : c.loop-table.table ≡ 64 = omega arith in
    record {
      header = record {
        heap_sizes = c.u8_or_zero.ensures;
        rows = counts_end c.args.bytes.now c.args.at c.loop-table.table c.loop-table.rows.items c.loop-table.invariant.rows_are done;
        rows_at = c.loop-table.invariant.place_is ∙ ap (count_at c.args.bytes.now c.args.at) done;
      };
    }
