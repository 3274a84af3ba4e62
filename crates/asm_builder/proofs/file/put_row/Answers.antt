use Rattle.std.proofs.Common.{rules, ◌≡◌, ◌+◌, ◌++◌, ◌∷◌, [], ◌∙◌, ℕ, get_or, length, ap, arith}
use Rattle.std.specs.Iterator.Adapters.{zip_first, zip_second}
use Rattle.std.specs.Slice.Iter.{iter_rest}
use Rattle.std.proofs.lemmas.List.{length_push}
use Rattle.std.proofs.lemmas.Slice.Zip.{zip_end, zip_turn}
use Rattle.byteorder.specs.Endian.{little_bytes}
use Rattle.asm_builder.specs.File.{row_bytes}
use Rattle.asm_builder.proofs.TablesPut.{row_end, row_more}
use Rattle.asm_builder.proofs.file.put_row.Goals as goal

pub loop-width-preserved : goal.loop-width-preserved
loop-width-preserved c =
    let ws = c.args.widths.now in
    let ns = c.args.numbers.now in
    let so_far = c.loop-width.yielded in
    let first : iter_rest (zip_first c.into_iter-width-iterator.result) ≡ ws = search rules in
    let second : iter_rest (zip_second c.into_iter-width-iterator.result) ≡ ns = search rules in
    let turn =
    zip_turn ws ns so_far c.into_iter-width-iterator.result c.loop-width.width-iterator c.next.new.self c.next.result first second
    c.loop-width.yielded_by (c.in-Some.width, c.in-Some.number) c.in-Some.is c.next.ensures.steps in
    let size : length (so_far ++ (c.in-Some.width, c.in-Some.number) ∷ []) ≡ length so_far + 1 =
    length_push so_far (c.in-Some.width, c.in-Some.number) in
    let old = c.loop-width.out.items in
    let number : c.from.result ≡ c.in-Some.number.now = c.from.ensures in
    rw size
    (row_more ws ns (length so_far) 0 0 old c.put_number.new.out.items (c.args.out.now.items ++ row_bytes ws ns) turn.0 turn.1
    (c.in_ok-put_number.ensures ∙ ap (λ (w : ℕ). old ++ little_bytes w c.from.result) (turn.2 0)
    ∙ ap (λ (n : ℕ). old ++ little_bytes (get_or ws (length so_far) 0) n) (number ∙ turn.3 0)) c.loop-width.invariant)

pub returns : goal.returns
returns c =
    let ws = c.args.widths.now in
    let ns = c.args.numbers.now in
    let so_far = c.loop-width.yielded in
    let first : iter_rest (zip_first c.into_iter-width-iterator.result) ≡ ws = search rules in
    let second : iter_rest (zip_second c.into_iter-width-iterator.result) ≡ ns = search rules in
    let last = zip_end ws ns so_far c.into_iter-width-iterator.result c.loop-width.width-iterator c.next.new.self c.next.result first second
    c.loop-width.yielded_by c.in-None.is c.next.ensures.steps in
    row_end ws ns (length so_far) c.loop-width.out.items (c.args.out.now.items ++ row_bytes ws ns) (omega (arith, last))
    c.loop-width.invariant
