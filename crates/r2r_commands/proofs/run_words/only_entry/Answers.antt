use Rattle.std.proofs.Common.{codes, map, string_bytes, sym, refl}
use Rattle.r2r_commands.specs.RunWords.{items, values}
use Rattle.r2r_commands.proofs.Singles.{more_values, no_value, one_value}
use Rattle.r2r_commands.proofs.run_words.only_entry.Goals as goal

pub returns-in-None : goal.returns-in-None
returns-in-None c =
    rw (no_value (values (codes "--entry") (items (map string_bytes c.args.words.now))) c.in-None.ensures) refl

pub returns-in-Some : goal.returns-in-Some
returns-in-Some c =
    let one = one_value c.in-One.value.now (values (codes "--entry") (items (map string_bytes c.args.words.now))) c.in-One.ensures in
    rw (one, sym c.in-Some.ensures) refl

pub returns-in-None-split_entry : goal.returns-in-None-split_entry
returns-in-None-split_entry c =
    let one = one_value c.in-One.value.now (values (codes "--entry") (items (map string_bytes c.args.words.now))) c.in-One.ensures in
    rw (one, sym c.in-None-split_entry.ensures) refl

pub returns-in-More : goal.returns-in-More
returns-in-More c = sym (more_values (values (codes "--entry") (items (map string_bytes c.args.words.now))) c.in-More.ensures).0
