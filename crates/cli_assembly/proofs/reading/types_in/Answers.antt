use Rattle.std.proofs.Common.{◌≡◌, ℕ, ◌+◌, ◌-◌, List, Some, None, ap, ◌∙◌, arith, ◌≤◌, length}
use Rattle.cli_assembly.specs.declared.signature.TypeSig.{TypeSig}
use Rattle.cli_assembly.specs.Types.{type_in, types_in}
use Rattle.cli_assembly.proofs.TypeLists.{front_end, front_more, front_none, front_stop, with_front}
use Rattle.cli_assembly.proofs.TypeSteps.{type_in_within}
use Rattle.cli_assembly.proofs.reading.types_in.Goals as goal

-- src/reading.rt:167:5
pub loop-init : goal.loop-init
loop-init c = record {
  found = ap (λ (xs : List TypeSig). with_front xs (types_in (c.args.count - 0) c.args.bytes.now)) c.new-types.ensures.items
      ∙ front_none (types_in (c.args.count - 0) c.args.bytes.now)
      ∙ ap (λ (n : ℕ). types_in n c.args.bytes.now) (omega arith);
  no_longer = omega arith;
}

-- src/reading.rt:169:13
pub returns-in_default : goal.returns-in_default
returns-in_default c =
    let found : None ≡ type_in c.loop.rest.now =
    first_of (
      assumption (c.in_ok-of.ensures.found),
      cc (c.in_ok-of.ensures.found, c.in_default.is),
      grind (arith, c.in_ok-of.ensures.found, c.in_default.is),
    ) in
    front_stop c.loop.types.items c.args.count c.loop.counter c.loop.rest.now (omega arith) found ∙ c.loop.invariant.found

-- src/reading.rt:167:5
pub loop-preserved : goal.loop-preserved
loop-preserved c =
    let found : Some (c.in-Some.of, c.in-Some.after.now) ≡ type_in c.loop.rest.now =
    first_of (
      assumption (c.in_ok-of.ensures.found),
      cc (c.in_ok-of.ensures.found, c.in-Some.is),
      grind (arith, c.in_ok-of.ensures.found, c.in-Some.is),
    ) in
    record {
      found =
          ap (λ (xs : List TypeSig). with_front xs (types_in (c.args.count - (c.loop.counter + 1)) c.in-Some.after.now))
          c.in_ok-push.ensures.items
          ∙ front_more c.loop.types.items c.in-Some.of c.args.count c.loop.counter c.loop.rest.now c.in-Some.after.now (omega arith) found
          ∙ c.loop.invariant.found;
      no_longer = let less : length c.in-Some.after.now ≤ length c.loop.rest.now =
          type_in_within c.loop.rest.now c.in-Some.of c.in-Some.after.now found in omega arith;
    }

-- src/reading.rt:157:1
pub returns : goal.returns
returns c =
    ap (λ (xs : List TypeSig). Some (xs, c.loop.rest.now)) c.from_vec.ensures
    ∙ front_end c.loop.types.items (c.args.count - c.loop.counter) c.loop.rest.now (omega arith) ∙ c.loop.invariant.found
