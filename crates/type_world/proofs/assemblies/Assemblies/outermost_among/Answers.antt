use Rattle.std.proofs.Common.{◌≡◌, ◌<◌, ◌&&◌, not, Some, None, sym, ap, subst, ◌∙◌, arith}
use Rattle.type_world.specs.Loading.{world_of}
use Rattle.type_world.specs.NameNumbers.{outermost_number}
use Rattle.type_world.specs.Resolution.{is_nested}
use Rattle.type_world.specs.RowIndex.{row_with}
use Rattle.type_world.specs.World.{assembly_in}
use Rattle.type_world.proofs.OtherNames.{is_outermost, none_outermost, outermost_found, outermost_keyed}
use Rattle.type_world.proofs.RowSearch.{Keyed, Searched, begin, next_row, rows_left}
use Rattle.type_world.proofs.assemblies.Assemblies.outermost_among.Goals as goal

pub rows-init : goal.rows-init
rows-init c =
    let a = assembly_in (world_of c.args.self.now) c.args.asm in
    let p = is_outermost a c.args.namespace.now c.args.name.now in
    let key = outermost_number c.args.namespace.now c.args.name.now in
    begin p c.args.rows.now key c.first-at.result
    (subst (λ ks. Keyed p ks key) (sym c.requires) (outermost_keyed a c.args.namespace.now c.args.name.now))
    (c.first-at.ensures ∙ ap (λ k. row_with c.args.rows.now k 1) c.outermost_number.ensures)

pub next-at-requires-clause-some : goal.next-at-requires-clause-some
next-at-requires-clause-some c =
    let a = assembly_in (world_of c.args.self.now) c.args.asm in
    let p = is_outermost a c.args.namespace.now c.args.name.now in
    let key = outermost_number c.args.namespace.now c.args.name.now in
    let s : Searched p c.args.rows.now key (Some c.in-Some.row) = subst (Searched p c.args.rows.now key) c.in-Some.is c.rows.invariant in
    let after = s.here.after in
    omega (arith, after)

pub next-at-requires-clause-there : goal.next-at-requires-clause-there
next-at-requires-clause-there c =
    let a = assembly_in (world_of c.args.self.now) c.args.asm in
    let p = is_outermost a c.args.namespace.now c.args.name.now in
    let key = outermost_number c.args.namespace.now c.args.name.now in
    let s : Searched p c.args.rows.now key (Some c.in-Some.row) = subst (Searched p c.args.rows.now key) c.in-Some.is c.rows.invariant in
    s.here.there

pub rows-preserved : goal.rows-preserved
rows-preserved c =
    let a = assembly_in (world_of c.args.self.now) c.args.asm in
    let p = is_outermost a c.args.namespace.now c.args.name.now in
    let key = outermost_number c.args.namespace.now c.args.name.now in
    let s : Searched p c.args.rows.now key (Some c.in-Some.row) = subst (Searched p c.args.rows.now key) c.in-Some.is c.rows.invariant in
    (next_row p c.args.rows.now key c.in-Some.row c.next-at.result
    (subst (λ ks. Keyed p ks key) (sym c.requires) (outermost_keyed a c.args.namespace.now c.args.name.now)) s
    (ap (λ b. b && not (is_nested a c.in-Some.row)) (sym c.is_named.ensures ∙ c.if-is_named.false)) c.next-at.ensures).0

pub rows-smaller : goal.rows-smaller
rows-smaller c =
    let a = assembly_in (world_of c.args.self.now) c.args.asm in
    let p = is_outermost a c.args.namespace.now c.args.name.now in
    let key = outermost_number c.args.namespace.now c.args.name.now in
    let s : Searched p c.args.rows.now key (Some c.in-Some.row) = subst (Searched p c.args.rows.now key) c.in-Some.is c.rows.invariant in
    subst (λ o. rows_left c.args.rows.now c.next-at.result < rows_left c.args.rows.now o) (sym c.in-Some.is)
    (next_row p c.args.rows.now key c.in-Some.row c.next-at.result
    (subst (λ ks. Keyed p ks key) (sym c.requires) (outermost_keyed a c.args.namespace.now c.args.name.now)) s
    (ap (λ b. b && not (is_nested a c.in-Some.row)) (sym c.is_named.ensures ∙ c.if-is_named.false)) c.next-at.ensures).1

pub returns-then-is_named : goal.returns-then-is_named
returns-then-is_named c =
    let a = assembly_in (world_of c.args.self.now) c.args.asm in
    let p = is_outermost a c.args.namespace.now c.args.name.now in
    let key = outermost_number c.args.namespace.now c.args.name.now in
    let s : Searched p c.args.rows.now key (Some c.in-Some.row) = subst (Searched p c.args.rows.now key) c.in-Some.is c.rows.invariant in
    sym (outermost_found a c.args.namespace.now c.args.name.now c.in-Some.row
    (subst (λ ks. Searched p ks key (Some c.in-Some.row)) c.requires s) (sym c.is_named.ensures ∙ c.if-is_named.true))

pub returns : goal.returns
returns c =
    let a = assembly_in (world_of c.args.self.now) c.args.asm in
    let p = is_outermost a c.args.namespace.now c.args.name.now in
    let key = outermost_number c.args.namespace.now c.args.name.now in
    let s : Searched p c.args.rows.now key None = subst (Searched p c.args.rows.now key) c.in_default.is c.rows.invariant in
    sym (none_outermost a c.args.namespace.now c.args.name.now (subst (λ ks. Searched p ks key None) c.requires s))
