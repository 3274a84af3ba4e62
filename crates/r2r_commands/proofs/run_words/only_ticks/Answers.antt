use Rattle.std.proofs.Common.{codes, map, string_bytes, sym, refl}
use Rattle.r2r_commands.specs.RunWords.{items, values}
use Rattle.r2r_commands.proofs.Singles.{more_values, no_value, one_value}
use Rattle.r2r_commands.proofs.run_words.only_ticks.Goals as goal

pub returns-in-None : goal.returns-in-None
returns-in-None c =
    rw (no_value (values (codes "--ticks") (items (map string_bytes c.args.words.now))) c.in-None.ensures) refl

pub returns-in-One : goal.returns-in-One
returns-in-One c =
    let one = one_value c.in-One.value.now (values (codes "--ticks") (items (map string_bytes c.args.words.now))) c.in-One.ensures in
    rw one c.ticks.ensures

pub returns-in-More : goal.returns-in-More
returns-in-More c = sym (more_values (values (codes "--ticks") (items (map string_bytes c.args.words.now))) c.in-More.ensures).1
