use Rattle.std.proofs.Common.{◌≡◌, [], ◌∷◌, ◌++◌, Some, None, get_or, sym, ap, ◌∙◌, arith}
use Rattle.type_world.specs.Loading.{world_of}
use Rattle.cil_meaning.specs.Typing.{with_stack}
use Rattle.cil_verify.specs.Places.{place_of}
use Rattle.cil_verify.proofs.Indexed.{missing, placed, widened_indexed, widened_there}
use Rattle.cil_verify.proofs.stacks.Stacks.add.Goals as goal

pub index_mut-requires : goal.index_mut-requires
index_mut-requires c =
    let items = c.self.inside.reached.items in
    let found : place_of items c.args.at ≡ Some c.in-Some.place =
    sym (c.self.invariant c.args.at) ∙ ap (λ l. get_or l c.args.at None) (sym c.as_slice.ensures.value) ∙ sym (c.in-Some.ensures) in
    omega (arith, (placed [] items c.args.at c.in-Some.place (0, []) found).within)

pub invariant_of-self : goal.invariant_of-self
invariant_of-self c =
    widened_indexed (world_of c.args.world.now) c.self.inside.reached.items c.self.inside.places.items c.in-Some.place c.args.stack.now
    c.index_mut.result.now c.widen.new.self c.index_mut.ensures.value c.widen.ensures.widened c.self.invariant

pub returns-in-Some-clause-added : goal.returns-in-Some-clause-added
returns-in-Some-clause-added c =
    let items = c.self.inside.reached.items in
    let found : place_of items c.args.at ≡ Some c.in-Some.place =
    sym (c.self.invariant c.args.at) ∙ ap (λ l. get_or l c.args.at None) (sym c.as_slice.ensures.value) ∙ sym (c.in-Some.ensures) in
    widened_there (world_of c.args.world.now) items c.args.at c.in-Some.place c.args.stack.now c.index_mut.result.now c.widen.new.self
    found c.index_mut.ensures.value c.widen.ensures.widened
    ∙ ap (with_stack (world_of c.args.world.now) c.args.stack.now c.args.at) c.self.view_is

pub returns-in_ok-append-in-None-clause-added : goal.returns-in_ok-append-in-None-clause-added
returns-in_ok-append-in-None-clause-added c =
    let items = c.self.inside.reached.items in
    let none : place_of items c.args.at ≡ None =
    sym (c.self.invariant c.args.at) ∙ ap (λ l. get_or l c.args.at None) (sym c.as_slice.ensures.value) ∙ sym (c.in-None.ensures) in
    let added = (missing (world_of c.args.world.now) items c.args.at none).added c.args.stack.now in
    c.in_ok-append-in-None.ensures ∙ ap (λ t. t ++ (c.args.at, c.args.stack.now) ∷ []) (sym c.self.view_is) ∙ sym added
    ∙ ap (with_stack (world_of c.args.world.now) c.args.stack.now c.args.at) c.self.view_is
