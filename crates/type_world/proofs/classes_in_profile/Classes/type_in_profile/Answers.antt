use Rattle.std.proofs.Common.{sym, ◌∙◌}
use Rattle.type_world.specs.Loading.{world_of}
use Rattle.type_world.proofs.Judging.{by_base, decided, from_start, no_bases}
use Rattle.type_world.proofs.classes_in_profile.Classes.type_in_profile.Goals as goal

pub loop-passed-init : goal.loop-passed-init
loop-passed-init c = from_start (world_of c.args.self.now) c.args.of

pub loop-passed-preserved : goal.loop-passed-preserved
loop-passed-preserved c =
    c.loop-passed.invariant
    ∙ by_base (world_of c.args.self.now) c.loop-passed.class c.in-ByBase.base c.loop-passed._passed c.judge.result c.loop-passed-test.true
    c.judge.ensures c.in-ByBase.is

pub returns-in-Decided : goal.returns-in-Decided
returns-in-Decided c =
    sym (c.loop-passed.invariant
    ∙ decided (world_of c.args.self.now) c.loop-passed.class c.loop-passed._passed c.judge.result c.in-Decided.answer
    c.loop-passed-test.true
    c.judge.ensures c.in-Decided.is)

pub returns : goal.returns
returns c =
    c.is_last.ensures
    ∙ sym (c.loop-passed.invariant
    ∙ no_bases (world_of c.args.self.now) c.loop-passed.class c.loop-passed._passed c.loop-passed-test.false)
