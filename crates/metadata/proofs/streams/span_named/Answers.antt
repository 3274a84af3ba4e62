use Rattle.std.proofs.Common.{◌≡◌, ◌+◌, ◌≤◌, sym, ap, true, arith}
use Rattle.std.proofs.lemmas.Bool.Decides.{nat_tests}
use Rattle.metadata.specs.Streams.{StreamHeader, is_inside}
use Rattle.metadata.proofs.Headers.{found_inside}
use Rattle.metadata.proofs.streams.span_named.Goals as goal

pub overflow_add-result : goal.overflow_add-result
overflow_add-result c =
    let h = c.in-Some.header.now in
    let found : is_inside c.args.span h ≡ true =
    found_inside c.args.span c.args.name.now c.args.headers.now h c.requires.inside (sym c.in-Some.ensures) in
    let fits : h.offset + h.size ≤ c.args.span.len = grind (arith, nat_tests, found) in
    let offset_is : c.header.inside.offset ≡ h.offset = ap (λ (k : StreamHeader). k.offset) c.header.view_is in
    let reach = c.requires.reach in
    omega (arith, fits, offset_is, reach)

pub returns-in-Some-clause-inside : goal.returns-in-Some-clause-inside
returns-in-Some-clause-inside c =
    let h = c.in-Some.header.now in
    let found : is_inside c.args.span h ≡ true =
    found_inside c.args.span c.args.name.now c.args.headers.now h c.requires.inside (sym c.in-Some.ensures) in
    let fits : h.offset + h.size ≤ c.args.span.len = grind (arith, nat_tests, found) in
    let offset_is : c.header.inside.offset ≡ h.offset = ap (λ (k : StreamHeader). k.offset) c.header.view_is in
    let size_is : c.header.inside.size ≡ h.size = ap (λ (k : StreamHeader). k.size) c.header.view_is in
    omega (arith, fits, offset_is, size_is)
