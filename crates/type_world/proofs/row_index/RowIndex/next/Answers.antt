use Rattle.std.proofs.Common.{◌≡◌, ◌+◌, ◌-◌, ◌≤◌, length, get_or, ap, ◌∙◌, arith}
use Rattle.type_world.specs.RowIndex.{key_of, row_after, row_with}
use Rattle.type_world.proofs.RowSearch.{is_last, is_later, next_at, nexts_long}
use Rattle.type_world.proofs.row_index.RowIndex.next.Goals as goal

pub bounds-next-len : goal.bounds-next-len
bounds-next-len c =
    let long = nexts_long c.self.inside.keys.items c.self.inside.next.items _ c.self.invariant in
    let read = ap length c.as_slice-next.ensures.value in
    let view = ap length c.self.view_is in
    omega (arith, long, read, view, c.len.ensures, c.self.inside.keys.ok.0, c.requires.some, c.requires.there)

pub returns-then-later-eq0 : goal.returns-then-later-eq0
returns-then-later-eq0 c =
    let keys = c.self.inside.keys.items in
    let row = c.args.row in
    let view = ap length c.self.view_is in
    let there : c.args.row ≤ length c.self.inside.keys.items = omega (arith, view, c.requires.there) in
    let at : c.len.result - c.args.row ≡ length c.self.inside.keys.items - c.args.row =
    omega (arith, c.len.ensures, c.self.inside.keys.ok.0) in
    let later : get_or c.as_slice-next.result.now (c.len.result - c.args.row) 0 ≡ row_after c.self.inside.keys.items c.args.row =
    ap (λ xs. get_or xs (c.len.result - c.args.row) 0) c.as_slice-next.ensures.value
    ∙ next_at keys c.self.inside.next.items _ row (c.len.result - c.args.row) 0 c.self.invariant c.requires.some there at in
    is_last keys (key_of keys row) row (get_or c.as_slice-next.result.now (c.len.result - c.args.row) 0) there later c.if-later-eq0.true
    ∙ ap (λ ks. row_with ks (key_of ks c.args.row) (c.args.row + 1)) c.self.view_is

pub returns-else-later-eq0 : goal.returns-else-later-eq0
returns-else-later-eq0 c =
    let keys = c.self.inside.keys.items in
    let row = c.args.row in
    let view = ap length c.self.view_is in
    let there : c.args.row ≤ length c.self.inside.keys.items = omega (arith, view, c.requires.there) in
    let at : c.len.result - c.args.row ≡ length c.self.inside.keys.items - c.args.row =
    omega (arith, c.len.ensures, c.self.inside.keys.ok.0) in
    let later : get_or c.as_slice-next.result.now (c.len.result - c.args.row) 0 ≡ row_after c.self.inside.keys.items c.args.row =
    ap (λ xs. get_or xs (c.len.result - c.args.row) 0) c.as_slice-next.ensures.value
    ∙ next_at keys c.self.inside.next.items _ row (c.len.result - c.args.row) 0 c.self.invariant c.requires.some there at in
    is_later keys (key_of keys row) row (get_or c.as_slice-next.result.now (c.len.result - c.args.row) 0) later c.if-later-eq0.false
    ∙ ap (λ ks. row_with ks (key_of ks c.args.row) (c.args.row + 1)) c.self.view_is
