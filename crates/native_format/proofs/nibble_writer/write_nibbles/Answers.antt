use Rattle.std.proofs.Common.{◌≡◌, ◌++◌, ap, subst, sym, ◌∙◌}
use Rattle.std.specs.List.{flat_map}
use Rattle.native_format.specs.Nibbles.{BeginsWithList, groups, list_bytes, numbers_of, packed}
use Rattle.native_format.proofs.SlotLaws.{is_written}
use Rattle.native_format.proofs.nibble_writer.write_nibbles.Goals as goal

pub returns-clause-exact : goal.returns-clause-exact
returns-clause-exact c =
    c.in_ok-finish.ensures
    ∙ ap packed (c.in_ok-put_list.ensures ∙ ap (λ ns. ns ++ flat_map groups (numbers_of c.args.list.now)) c.new-out.ensures)

pub returns-clause-spells : goal.returns-clause-spells
returns-clause-spells c = λ rest.
    let bytes_are : c.in_ok-finish.field-0.items ≡ list_bytes c.args.list.now =
    c.in_ok-finish.ensures
    ∙ ap packed (c.in_ok-put_list.ensures ∙ ap (λ ns. ns ++ flat_map groups (numbers_of c.args.list.now)) c.new-out.ensures) in
    subst (λ bytes. BeginsWithList (bytes ++ rest) c.args.list.now) (sym bytes_are) (is_written c.args.list.now rest c.requires)
