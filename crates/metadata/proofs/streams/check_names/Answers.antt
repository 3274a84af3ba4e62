use Rattle.std.proofs.Common.{rules, ◌≡◌, ℕ, List, true, false, [], Some, sym, ap, ◌∙◌, drop}
use Rattle.std.specs.Prelude.{◌||◌}
use Rattle.std.specs.Str.{bytes_eq}
use Rattle.std.proofs.lemmas.List.{drop_all}
use Rattle.metadata.specs.Names.{is_taken}
use Rattle.metadata.specs.Streams.{StreamHeader, first_repeated}
use Rattle.metadata.proofs.Headers.{not_false, not_true, repeated_here, repeated_init, repeated_more, repeated_end}
use Rattle.metadata.proofs.streams.check_names.Goals as goal

pub loop-header-init : goal.loop-header-init
loop-header-init c = repeated_init c.new-names.result c.args.headers.now c.new-names.ensures

pub returns-in_err-ensure-clause-fault : goal.returns-in_err-ensure-clause-fault
returns-in_err-ensure-clause-fault c =
    let item = c.header-item.result in
    let names = c.loop-header.names in
    let name_is : c.header.inside.name.now ≡ item.name = ap (λ (h : StreamHeader). h.name) c.header.view_is in
    let at_is : c.header.inside.at ≡ item.at = ap (λ (h : StreamHeader). h.at) c.header.view_is in
    let taken : is_taken names item.name ≡ true =
    ap (λ (n : List ℕ). is_taken names n) (sym name_is)
    ∙ not_false (is_taken names c.header.inside.name.now) (sym c.in_ok-free.ensures.free ∙ c.in_err-ensure.ensures.fault.0) in
    let here : first_repeated names (drop c.loop-header.header-index c.args.headers.now) ≡ Some item.at =
    repeated_here names c.args.headers.now c.loop-header.header-index item c.loop-header-test.true c.header-item.is taken in
    let all : first_repeated [] c.args.headers.now ≡ Some c.header.inside.at = sym c.loop-header.invariant ∙ here
    ∙ ap (λ (n : ℕ). Some n) (sym at_is) in
    let fault = c.in_err-ensure.ensures.fault.1 in
    search (rules, all, fault)

pub loop-header-preserved : goal.loop-header-preserved
loop-header-preserved c =
    let item = c.header-item.result in
    let names = c.loop-header.names in
    let name_is : c.header.inside.name.now ≡ item.name = ap (λ (h : StreamHeader). h.name) c.header.view_is in
    let free : is_taken names item.name ≡ false =
    ap (λ (n : List ℕ). is_taken names n) (sym name_is)
    ∙ not_true (is_taken names c.header.inside.name.now) (sym c.in_ok-free.ensures.free ∙ c.in_ok-ensure.ensures.holds) in
    repeated_more names c.insert.new.self c.args.headers.now c.loop-header.header-index item c.loop-header-test.true c.header-item.is free
    (λ other. c.in_ok-free.ensures.taken other ∙ ap (λ (n : List ℕ). bytes_eq n other || is_taken names other) name_is)
    ∙ c.loop-header.invariant

pub returns-clause-ok : goal.returns-clause-ok
returns-clause-ok c =
    sym c.loop-header.invariant
    ∙ ap (first_repeated c.loop-header.names) (drop_all c.loop-header.header-index c.args.headers.now c.loop-header-test.false)
    ∙ repeated_end c.loop-header.names
