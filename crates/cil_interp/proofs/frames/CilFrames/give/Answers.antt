use Rattle.std.proofs.Common.{◌≡◌, arith, length, sym, ap, ◌∙◌, subst}
use Rattle.std.proofs.lemmas.List.{with_items_is}
use Rattle.type_world.specs.Loading.{world_of}
use Rattle.cil_meaning.specs.State.{no_objects}
use Rattle.cil_meaning.specs.Run.{give}
use Rattle.cil_interp.specs.Frames.{GoesOn, frames_are, given_to, waiting_in}
use Rattle.cil_interp.proofs.frames.CilFrames.give.Goals as goal

pub returns-clause-given : goal.returns-clause-given
returns-clause-given c = λ output ticks begun.
    let kept = c.give_last.auto.words in
    let long = c.deref_mut.ensures.len in
    let same : length c.give_last.new.words ≡ c.self.inside.words.len = omega (arith, kept, long) in
    subst (λ ws. GoesOn (world_of c.args.world.now) (frames_are c.give_last.new.stack ws) output ticks begun
    (give no_objects (world_of c.args.world.now) (waiting_in (world_of c.args.world.now) c.args.self.now)
    (given_to c.args.self.now.frames c.args.word) output ticks begun))
    (sym (with_items_is c.self.inside.words c.give_last.new.words same))
    (subst (λ f. GoesOn (world_of c.args.world.now) (frames_are c.give_last.new.stack c.give_last.new.words) output ticks begun
    (give no_objects (world_of c.args.world.now) (waiting_in (world_of c.args.world.now) f)
    (given_to f.frames c.args.word) output ticks begun))
    c.self.view_is
    (subst (λ ws. GoesOn (world_of c.args.world.now) (frames_are c.give_last.new.stack c.give_last.new.words) output ticks begun
    (give no_objects (world_of c.args.world.now) (waiting_in (world_of c.args.world.now) (frames_are c.self.inside.stack ws))
    (given_to c.self.inside.stack c.args.word) output ticks begun)) c.deref_mut.ensures.value
    (c.give_last.ensures.given output ticks begun)))
