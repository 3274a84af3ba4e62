use Rattle.std.proofs.Common.{◌<◌, ◌≤◌, length, sym, ◌∙◌, arith}
use Rattle.cli_assembly.specs.Assemblies.{row_count}
use Rattle.type_world.specs.Loading.{world_of}
use Rattle.type_world.specs.World.{assembly_in}
use Rattle.type_world.proofs.Names.{count_is}
use Rattle.type_world.proofs.ByPlace.{before_more, none_before, search_end, search_here, search_later, search_start}
use Rattle.type_world.proofs.assemblies.Assemblies.row_placed.Goals as goal

pub loop-asm-init : goal.loop-asm-init
loop-asm-init c = record {
  same = search_start (world_of c.args.self.now) c.args.table c.args.place;
  so_far = omega (arith, none_before (world_of c.args.self.now) c.args.table);
}

pub loop-asm-preserved : goal.loop-asm-preserved
loop-asm-preserved c =
    let world = world_of c.args.self.now in
    let count = c.count-asm-end.ensures.count in
    let all = count_is c.args.self.now in
    let below = c.loop-asm-test.true in
    let rows = c.rows_at-rows.ensures.rows in
    let past = c.if-left-rows.false in
    let so_far = c.loop-asm.invariant.so_far in
    let inside : c.loop-asm.asm < length (world_of c.args.self.now) = omega (arith, count, all, below) in
    let few : row_count (assembly_in (world_of c.args.self.now) c.loop-asm.asm) c.args.table ≤ c.loop-asm.left =
    omega (arith, rows, past) in
    let more = before_more (world_of c.args.self.now) c.args.table c.loop-asm.asm inside in
    record {
      same =
          c.loop-asm.invariant.same
          ∙ search_later (world_of c.args.self.now) c.args.table c.args.place c.loop-asm.asm c.loop-asm.left inside so_far few;
      so_far = omega (arith, more, so_far, rows, past);
    }

pub returns-then-left-rows-clause-placed : goal.returns-then-left-rows-clause-placed
returns-then-left-rows-clause-placed c =
    let count = c.count-asm-end.ensures.count in
    let all = count_is c.args.self.now in
    let below = c.loop-asm-test.true in
    let rows = c.rows_at-rows.ensures.rows in
    let before = c.if-left-rows.true in
    let inside : c.loop-asm.asm < length (world_of c.args.self.now) = omega (arith, count, all, below) in
    let few : c.loop-asm.left < row_count (assembly_in (world_of c.args.self.now) c.loop-asm.asm) c.args.table =
    omega (arith, rows, before) in
    sym (c.loop-asm.invariant.same
    ∙ search_here (world_of c.args.self.now) c.args.table c.args.place c.loop-asm.asm c.loop-asm.left inside
    c.loop-asm.invariant.so_far few)

pub returns-clause-placed : goal.returns-clause-placed
returns-clause-placed c =
    let count = c.count-asm-end.ensures.count in
    let all = count_is c.args.self.now in
    let past = c.loop-asm-test.false in
    let end : length (world_of c.args.self.now) ≤ c.loop-asm.asm = omega (arith, count, all, past) in
    sym (c.loop-asm.invariant.same ∙ search_end (world_of c.args.self.now) c.args.table c.args.place c.loop-asm.asm end)
