use Rattle.std.proofs.Common.{◌≡◌, None, length, ap, ◌∙◌, arith}
use Rattle.cil_verify.specs.Places.{place_of}
use Rattle.cil_verify.proofs.Indexed.{appended}
use Rattle.cil_verify.proofs.stacks.Stacks.append.Goals as goal

pub invariant_of-self-2 : goal.invariant_of-self-2
invariant_of-self-2 c =
    let items = c.self.inside.reached.items in
    let none : place_of items c.args.at ≡ None = ap (λ t. place_of t c.args.at) c.self.view_is ∙ c.requires in
    let place_is : c.in-Ok.place ≡ length items = omega (arith, c.in-Ok.ensures, c.len.ensures) in
    appended items c.reserve.new.self.items c.push.new.self.items c.self.inside.places.items c.make_room.new.places.items c.args.at
    c.in-Ok.place c.args.stack.now c.in_ok-reached.reached none c.make_room.ensures.same (c.in_ok-make_room.ensures).room
    c.self.invariant place_is (c.in_ok-reserve.ensures).items (c.in_ok-reached.ensures) (c.in_ok-push.ensures).items
