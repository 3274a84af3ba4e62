use Rattle.std.proofs.Common.{◌≡◌, ◌+◌, ◌-◌, ◌<◌, ◌≤◌, false, sym, ap, ◌∙◌, subst, refl, arith}
use Rattle.std.specs.Prelude.{IfNone, IfSome, OnSome}
use Rattle.cil_verify.specs.Subjects.{NeverTyped, is_typing_of, rounded, rounds_of}
use Rattle.cil_verify.proofs.Depth.{never_least}
use Rattle.cil_verify.proofs.Settled.{settled_more, settled_none, settled_there}
use Rattle.cil_verify.proofs.rounds.settle.Goals as goal

pub returns-in-None-clause-deep : goal.returns-in-None-clause-deep
returns-in-None-clause-deep c =
    let s = c.args.code.now in
    let t = c.loop-done.stacks in
    let more : c.loop-done.done < rounds_of s = omega (arith, c.rounds-done-end.ensures, c.loop-done-test.true) in
    let left = rounds_of s - (c.loop-done.done + 1) in
    let never : NeverTyped s c.args.last (rounded s c.args.last t) =
    subst (λ o. IfNone o (NeverTyped s c.args.last (rounded s c.args.last t))) c.in-None.is c.in_ok-round.ensures.deep in
    let whole = settled_more s.world s.method c.args.last s.instrs (rounds_of s) c.loop-done.done t (rounded s c.args.last t) more refl
    ∙ c.loop-done.invariant in
    never_least s c.args.last (ap (is_typing_of s c.args.last) (sym whole) ∙ never left)

pub returns-then-not-changed-clause-settled : goal.returns-then-not-changed-clause-settled
returns-then-not-changed-clause-settled c =
    let s = c.args.code.now in
    let unchanged : c.in-Some.changed ≡ false → c.round.new.stacks ≡ c.loop-done.stacks =
    subst (λ o. IfSome o (λ changed. changed ≡ false → c.round.new.stacks ≡ c.loop-done.stacks)) c.in-Some.is
    c.in_ok-round.ensures.unchanged in
    let round : c.round.new.stacks ≡ rounded s c.args.last c.loop-done.stacks =
    subst (λ o. OnSome o (c.round.new.stacks ≡ rounded s c.args.last c.loop-done.stacks)) c.in-Some.is c.in_ok-round.ensures.round in
    let same : c.round.new.stacks ≡ c.loop-done.stacks = unchanged c.if-not-changed.true in
    let there : rounded s c.args.last c.loop-done.stacks ≡ c.loop-done.stacks = sym round ∙ same in
    same ∙ sym (settled_there s.world s.method c.args.last s.instrs (rounds_of s - c.loop-done.done) c.loop-done.stacks there)
    ∙ c.loop-done.invariant

pub loop-done-preserved : goal.loop-done-preserved
loop-done-preserved c =
    let s = c.args.code.now in
    let more : c.loop-done.done < rounds_of s = omega (arith, c.rounds-done-end.ensures, c.loop-done-test.true) in
    let round : c.round.new.stacks ≡ rounded s c.args.last c.loop-done.stacks =
    subst (λ o. OnSome o (c.round.new.stacks ≡ rounded s c.args.last c.loop-done.stacks)) c.in-Some.is c.in_ok-round.ensures.round in
    settled_more s.world s.method c.args.last s.instrs (rounds_of s) c.loop-done.done c.loop-done.stacks c.round.new.stacks more round
    ∙ c.loop-done.invariant

pub returns-clause-settled : goal.returns-clause-settled
returns-clause-settled c =
    let s = c.args.code.now in
    let out : rounds_of s ≤ c.loop-done.done = omega (arith, c.rounds-done-end.ensures, c.loop-done-test.false) in
    sym (settled_none s.world s.method c.args.last s.instrs (rounds_of s) c.loop-done.done c.loop-done.stacks out)
    ∙ c.loop-done.invariant
