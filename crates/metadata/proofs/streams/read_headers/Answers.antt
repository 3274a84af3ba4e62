use Rattle.std.proofs.Common.{rules, ◌≡◌, ◌+◌, ◌-◌, ℕ, suc, List, [], ◌∷◌, ◌++◌, Some, None, sym, ap, ◌∙◌, arith, append_assoc, append-nil}
use Rattle.metadata.specs.Streams.{StreamHeader, first_cut, header_at, headers_from, next_header}
use Rattle.metadata.proofs.Headers.{cut_here, cut_more, headers_more, none_cut, none_left}
use Rattle.metadata.proofs.streams.read_headers.Goals as goal

pub returns-in-None-clause-fault : goal.returns-in-None-clause-fault
returns-in-None-clause-fault c =
    let bytes = c.args.bytes.now in
    let end = c.args.end in
    let at = c.headers.at in
    let more = c.args.root.stream_count - (c.headers._i + 1) in
    let left : c.args.root.stream_count - c.headers._i ≡ suc more = omega arith in
    let none : header_at bytes end at ≡ None = sym c.read.ensures.header ∙ c.in-None.is in
    let cut : first_cut bytes end c.args.root.headers_at c.args.root.stream_count ≡ Some at =
    sym c.headers.invariant.cut ∙ ap (first_cut bytes end at) left ∙ cut_here bytes end at more none in
    let fault = c.into.ensures in
    search (rules, cut, fault)

pub headers-preserved : goal.headers-preserved
headers-preserved c =
    let bytes = c.args.bytes.now in
    let end = c.args.end in
    let at = c.headers.at in
    let h = c.in-Some.header in
    let before = c.headers.headers.items in
    let more = c.args.root.stream_count - (c.headers._i + 1) in
    let left : c.args.root.stream_count - c.headers._i ≡ suc more = omega arith in
    let read : header_at bytes end at ≡ Some h = sym c.read.ensures.header ∙ c.in-Some.is in
    let next : c.next-at.result ≡ next_header h = c.next-at.ensures in
    let inside = c.in-Some.ensures.next in
    let rest = headers_from bytes end (next_header h) more in
    record {
      within = omega (arith, next, inside);
      cut =
          ap (λ (n : ℕ). first_cut bytes end n more) next
          ∙ sym (ap (first_cut bytes end at) left ∙ cut_more bytes end at more h read)
          ∙ c.headers.invariant.cut;
      whole =
          ap (λ (is : List StreamHeader). is ++ headers_from bytes end c.next-at.result more) c.in_ok-push-in-Some.ensures.items
          ∙ ap (λ (n : ℕ). (before ++ h ∷ []) ++ headers_from bytes end n more) next
          ∙ append_assoc before (h ∷ []) rest
          ∙ ap (λ (t : List StreamHeader). before ++ t) (sym (ap (headers_from bytes end at) left ∙ headers_more bytes end at more h read))
          ∙ c.headers.invariant.whole;
    }

pub returns-clause-ok : goal.returns-clause-ok
returns-clause-ok c =
    let none : c.args.root.stream_count - c.headers._i ≡ 0 = omega arith in
    sym c.headers.invariant.cut
    ∙ ap (first_cut c.args.bytes.now c.args.end c.headers.at) none
    ∙ none_cut c.args.bytes.now c.args.end c.headers.at

pub returns-clause-headers : goal.returns-clause-headers
returns-clause-headers c =
    let none : c.args.root.stream_count - c.headers._i ≡ 0 = omega arith in
    let items = c.headers.headers.items in
    sym (append-nil items)
    ∙ ap (λ (t : List StreamHeader). items ++ t)
    (sym (ap (headers_from c.args.bytes.now c.args.end c.headers.at) none ∙ none_left c.args.bytes.now c.args.end c.headers.at))
    ∙ c.headers.invariant.whole
