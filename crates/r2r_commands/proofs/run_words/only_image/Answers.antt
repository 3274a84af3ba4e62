use Rattle.std.proofs.Common.{[], map, string_bytes, sym, refl}
use Rattle.r2r_commands.specs.RunWords.{items, values}
use Rattle.r2r_commands.proofs.Singles.{more_values, no_value, one_value}
use Rattle.r2r_commands.proofs.run_words.only_image.Goals as goal

pub returns-in-None : goal.returns-in-None
returns-in-None c = rw (no_value (values [] (items (map string_bytes c.args.words.now))) c.in-None.ensures) refl

pub returns-in-One : goal.returns-in-One
returns-in-One c = rw (one_value c.in-One.word.now (values [] (items (map string_bytes c.args.words.now))) c.in-One.ensures) refl

pub returns-in-More : goal.returns-in-More
returns-in-More c = sym (more_values (values [] (items (map string_bytes c.args.words.now))) c.in-More.ensures).2
