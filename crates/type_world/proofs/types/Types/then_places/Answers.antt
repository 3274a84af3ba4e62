use Rattle.std.proofs.Common.{sym, ap, ◌∙◌, Some}
use Rattle.cli_assembly.specs.declared.signature.TypeSig.TheVariants as sigs
use Rattle.type_world.specs.Loading.{world_of}
use Rattle.type_world.proofs.PlaceLists.{no_more, no_place, one_place}
use Rattle.type_world.proofs.types.Types.then_places.Goals as goal

pub loop-sig-preserved : goal.loop-sig-preserved
loop-sig-preserved c =
    c.loop-sig.invariant
    ∙ one_place (world_of c.args.self.now) c.args.asm c.loop-sig.sig-index c.args.sigs.now sigs.Void c.place_of.result c.in-Some.place
    c.loop-sig.all.items c.push.new.self.items c.loop-sig-test.true c.place_of.ensures c.in-Some.is
    c.in_ok-push-in-Some.ensures.items

pub returns-in-None : goal.returns-in-None
returns-in-None c =
    sym (c.loop-sig.invariant
    ∙ no_place (world_of c.args.self.now) c.args.asm c.loop-sig.sig-index c.args.sigs.now sigs.Void c.place_of.result
    c.loop-sig.all.items c.loop-sig-test.true c.place_of.ensures c.in-None.is)

pub returns : goal.returns
returns c =
    ap Some c.from_vec.ensures
    ∙ sym (c.loop-sig.invariant
    ∙ no_more (world_of c.args.self.now) c.args.asm c.loop-sig.sig-index c.args.sigs.now c.loop-sig.all.items c.loop-sig-test.false)
