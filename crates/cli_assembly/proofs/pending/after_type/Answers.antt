use Rattle.std.proofs.Common.{◌≡◌, false, List, [], ◌∷◌, ◌++◌, Some, None, ap, ◌∙◌, arith}
use Rattle.std.proofs.lemmas.List.{nil_from_length}
use Rattle.cli_assembly.specs.declared.pending.Pending.{Pending}
use Rattle.cli_assembly.specs.Heads.{head_in, pending, shape_if}
use Rattle.cli_assembly.proofs.TypeLoop.{still, still_end, still_head, still_next, still_no_head, still_no_shape, still_start}
use Rattle.cli_assembly.proofs.pending.after_type.Goals as goal

-- src/pending.rt:179:5
pub loop-inner-init : goal.loop-inner-init
loop-inner-init c = record {
  left = ap (λ (xs : List Pending). still (pending 1 false) xs c.args.bytes.now) c.new-outer.ensures.items ∙ still_start c.args.bytes.now;
  no_longer = omega arith;
}

-- src/pending.rt:182:17
pub returns-in_default-clause-after : goal.returns-in_default-clause-after
returns-in_default-clause-after c =
    let found : None ≡ head_in c.loop-inner.rest.now =
    first_of (
      assumption (c.in_default.ensures.found),
      cc (c.in_default.ensures.found, c.in_default.is),
      grind (arith, c.in_default.ensures.found, c.in_default.is),
    ) in
    still_no_head c.loop-inner.inner c.loop-inner.outer.items c.loop-inner.rest.now c.if-inner-gt0.true found ∙ c.loop-inner.invariant.left

-- src/pending.rt:179:5
pub loop-inner-preserved-then-inner-gt0 : goal.loop-inner-preserved-then-inner-gt0
loop-inner-preserved-then-inner-gt0 c =
    let found : Some (c.in-Some.head, c.in-Some.after.now) ≡ head_in c.loop-inner.rest.now =
    first_of (
      assumption (c.in-Some.ensures.found),
      cc (c.in-Some.ensures.found, c.in-Some.is),
      grind (arith, c.in-Some.ensures.found, c.in-Some.is),
    ) in
    record {
      left =
          still_head c.loop-inner.inner c.in-Some.head c.loop-inner.outer.items c.keep.new.outer.items
          c.loop-inner.rest.now c.in-Some.after.now
          c.if-inner-gt0.true found c.in_ok-keep.ensures.kept ∙ c.loop-inner.invariant.left;
      no_longer = omega (arith, c.in-Some.ensures.shorter);
    }

-- src/pending.rt:190:17
pub returns-in_default-after_shape_if-clause-after : goal.returns-in_default-after_shape_if-clause-after
returns-in_default-after_shape_if-clause-after c =
    let found : None ≡ shape_if c.loop-inner.inner.shape c.loop-inner.rest.now =
    first_of (
      assumption (c.in_default-after_shape_if.ensures.after),
      cc (c.in_default-after_shape_if.ensures.after, c.in_default-after_shape_if.is),
      grind (arith, c.in_default-after_shape_if.ensures.after, c.in_default-after_shape_if.is),
    ) in
    still_no_shape c.loop-inner.inner c.loop-inner.outer.items c.loop-inner.rest.now (omega arith) found ∙ c.loop-inner.invariant.left

-- src/pending.rt:194:17
pub returns-in_default-pop-clause-after : goal.returns-in_default-pop-clause-after
returns-in_default-pop-clause-after c =
    let found : Some c.in-Some-after_shape_if.after.now ≡ shape_if c.loop-inner.inner.shape c.loop-inner.rest.now =
    first_of (
      assumption (c.in-Some-after_shape_if.ensures.after),
      cc (c.in-Some-after_shape_if.ensures.after, c.in-Some-after_shape_if.is),
    ) in
    let none : c.loop-inner.outer.len ≡ 0 =
    first_of (
      omega (arith, c.in_default-pop.ensures.cases),
      omega (arith, c.in_default-pop.ensures.variant),
      grind (arith, c.in_default-pop.ensures.cases),
    ) in
    still_end c.loop-inner.inner c.loop-inner.outer.items c.loop-inner.rest.now c.in-Some-after_shape_if.after.now (omega arith) found
    (nil_from_length c.loop-inner.outer.items (omega (arith, c.loop-inner.outer.ok.0)))
    ∙ c.loop-inner.invariant.left

-- src/pending.rt:179:5
pub loop-inner-preserved : goal.loop-inner-preserved
loop-inner-preserved c =
    let found : Some c.in-Some-after_shape_if.after.now ≡ shape_if c.loop-inner.inner.shape c.loop-inner.rest.now =
    first_of (
      assumption (c.in-Some-after_shape_if.ensures.after),
      cc (c.in-Some-after_shape_if.ensures.after, c.in-Some-after_shape_if.is),
    ) in
    let items : c.loop-inner.outer.items ≡ c.pop.new.self.items ++ c.in-Some-pop.next ∷ [] =
    first_of (assumption (c.in-Some-pop.ensures.items), cc (c.in-Some-pop.ensures.items, c.in-Some-pop.is)) in
    record {
      left =
          still_next c.loop-inner.inner c.in-Some-pop.next c.loop-inner.outer.items c.pop.new.self.items
          c.loop-inner.rest.now c.in-Some-after_shape_if.after.now
          (omega arith) found items ∙ c.loop-inner.invariant.left;
      no_longer = omega (arith, c.in-Some-after_shape_if.ensures.no_longer);
    }
