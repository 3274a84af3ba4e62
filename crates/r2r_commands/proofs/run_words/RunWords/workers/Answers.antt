use Rattle.std.proofs.Common.{◌≡◌, ◌<◌, ℤ, List, Some, IfOk, ap, codes, length, map, string_bytes, subst, sym, vec_items, ◌∙◌, arith}
use Rattle.std.proofs.Common.{eqb-true}
use Rattle.std.proofs.lemmas.Bool.{eqb-false}
use Rattle.std.proofs.lemmas.List.{length-map}
use Rattle.r2r_commands.specs.RunWords.{Run, items, values}
use Rattle.r2r_commands.proofs.EachOf.{given_some, no_items, workers_found, workers_none}
use Rattle.r2r_commands.proofs.Few.{few_given, one_is_few}
use Rattle.r2r_commands.proofs.run_words.RunWords.workers.Goals as goal

pub given_workers-requires : goal.given_workers-requires
given_workers-requires c = given_some (values (codes "--worker") (items (map string_bytes c.self.inside.words.now))) c.self.invariant

pub returns-then-is_empty-clause-workers : goal.returns-then-is_empty-clause-workers
returns-then-is_empty-clause-workers c =
    let given = values (codes "--worker") (items (map string_bytes c.self.inside.words.now)) in
    let found = c.in_ok-workers.workers in
    let zero = eqb-true found.len 0 (sym c.is_empty.ensures ∙ c.if-is_empty.true) in
    let none = no_items found.items (omega (arith, zero, found.ok.0)) in
    let is = workers_none given (c.in_ok-workers.ensures ∙ ap Some none) in
    let wanted = sym is ∙ ap (λ (run : Run). run.workers) c.self.view_is in
    subst (λ (all : List (List ℤ)). IfOk c.one_without_arguments.result (λ workers. map vec_items workers.items ≡ all)) wanted
    c.one_without_arguments.ensures

pub returns-else-is_empty-clause-workers : goal.returns-else-is_empty-clause-workers
returns-else-is_empty-clause-workers c =
    let given = values (codes "--worker") (items (map string_bytes c.self.inside.words.now)) in
    let found = c.in_ok-workers.workers in
    let some = eqb-false found.len 0 (sym c.is_empty.ensures ∙ c.if-is_empty.false) in
    let more : 0 < length (map vec_items found.items) = omega (arith, some, found.ok.0, length-map found.items vec_items) in
    sym (workers_found given (map vec_items found.items) c.in_ok-workers.ensures c.self.invariant more)
    ∙ ap (λ (run : Run). run.workers) c.self.view_is

pub returns-then-is_empty-clause-few : goal.returns-then-is_empty-clause-few
returns-then-is_empty-clause-few c = one_is_few c.one_without_arguments.result c.one_without_arguments.ensures

pub returns-else-is_empty-clause-few : goal.returns-else-is_empty-clause-few
returns-else-is_empty-clause-few c =
    let given = values (codes "--worker") (items (map string_bytes c.self.inside.words.now)) in
    let found = c.in_ok-workers.workers in
    let few = few_given given (map vec_items found.items) c.self.invariant c.in_ok-workers.ensures in
    omega (arith, few, length-map found.items vec_items)
