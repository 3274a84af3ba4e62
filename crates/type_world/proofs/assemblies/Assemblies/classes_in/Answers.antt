use Rattle.std.proofs.Common.{◌+◌, ◌++◌, ◌∷◌, [], map, sym, ap, arith, ◌∙◌}
use Rattle.std.proofs.lemmas.List.FromFn.{map-range_with_len_more}
use Rattle.std.specs.List.{range_with_len}
use Rattle.cli_assembly.specs.Assemblies.{assembly_of}
use Rattle.type_world.specs.Loading.{world_of}
use Rattle.type_world.specs.Resolution.{method_class}
use Rattle.type_world.proofs.Ascending.{all_rows, class_is, first_start}
use Rattle.type_world.proofs.assemblies.Assemblies.classes_in.Goals as goal

pub loop-index-init : goal.loop-index-init
loop-index-init c = (c.new-classes.ensures.items, first_start (assembly_of c.args.assembly.now), omega arith)

pub loop-index-preserved : goal.loop-index-preserved
loop-index-preserved c =
    let answer = method_class (world_of c.args.self.now) c.args.asm in
    let begins = c.lister_from-class.ensures.begins in
    let class =
    class_is c.args.self.now c.args.asm c.lister_from-class.result (c.loop-index.index + 1) c.args.assembly.now c.class_of.result c.requires
    (c.lists_ascend.ensures c.args.assembly.now c.bytes.ensures.well_formed) begins c.lister_from-class.ensures.ends
    c.lister_from-class.ensures.few
    c.class_of.ensures in (
      c.in_ok-push.ensures.items
          ∙ ap (λ xs. xs ++ c.class_of.result ∷ []) c.loop-index.invariant.0
          ∙ ap (λ of. map answer (range_with_len 1 c.loop-index.index) ++ of ∷ []) class
          ∙ sym (map-range_with_len_more answer 1 c.loop-index.index (c.loop-index.index + 1) (omega arith)),
      omega (arith, begins),
      c.lister_from-class.ensures.few,
    )

pub returns : goal.returns
returns c =
    let rows = c.rows-index-end.ensures.rows in
    let past = c.loop-index-test.false in
    c.loop-index.invariant.0
    ∙ all_rows c.args.self.now c.args.asm c.loop-index.index c.args.assembly.now c.requires (omega (arith, rows, past))
