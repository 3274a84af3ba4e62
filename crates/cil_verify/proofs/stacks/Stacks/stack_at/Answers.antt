use Rattle.std.proofs.Common.{◌≡◌, ℕ, List, [], Some, None, get_or, sym, ap, ◌∙◌, arith}
use Rattle.cil_meaning.specs.declared.kind.Kind.{Kind}
use Rattle.cil_meaning.specs.Typing.{stack_at}
use Rattle.cil_verify.specs.Places.{place_of}
use Rattle.cil_verify.proofs.Indexed.{missing, placed}
use Rattle.cil_verify.proofs.stacks.Stacks.stack_at.Goals as goal

pub index-requires : goal.index-requires
index-requires c =
    let items = c.self.inside.reached.items in
    let found : place_of items c.args.at ≡ Some c.in-Some.place =
    sym (c.self.invariant c.args.at) ∙ ap (λ l. get_or l c.args.at None) (sym c.as_slice.ensures.value) ∙ sym (c.in-Some.ensures) in
    omega (arith, (placed [] items c.args.at c.in-Some.place (0, []) found).within)

pub returns-in-Some : goal.returns-in-Some
returns-in-Some c =
    let items = c.self.inside.reached.items in
    let found : place_of items c.args.at ≡ Some c.in-Some.place =
    sym (c.self.invariant c.args.at) ∙ ap (λ l. get_or l c.args.at None) (sym c.as_slice.ensures.value) ∙ sym (c.in-Some.ensures) in
    let there = placed [] items c.args.at c.in-Some.place c.index.result.now found in
    ap Some (c.stack.ensures ∙ ap (λ (x : ℕ × List Kind). x.1) c.index.ensures) ∙ sym there.stack
    ∙ ap (λ t. stack_at t c.args.at) c.self.view_is

pub returns-in-None : goal.returns-in-None
returns-in-None c =
    let items = c.self.inside.reached.items in
    let none : place_of items c.args.at ≡ None =
    sym (c.self.invariant c.args.at) ∙ ap (λ l. get_or l c.args.at None) (sym c.as_slice.ensures.value) ∙ sym (c.in-None.ensures) in
    sym (missing [] items c.args.at none).stack ∙ ap (λ t. stack_at t c.args.at) c.self.view_is
