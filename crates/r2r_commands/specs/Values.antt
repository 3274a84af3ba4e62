-- The values of options, as contracts see them.
use Rattle.std.specs.Prelude.{ℕ, List, [], Option, Some, None}
use Rattle.r2r_commands.specs.declared.values.Entry.{Entry as Parsed}
use Rattle.r2r_commands.specs.RunWords.{Entry, parts}

abbrev pub entry_meaning : Parsed → Entry
entry_meaning entry = record { type_name = entry.type_name.now; method = entry.method.now }

-- the parts of what is after a comma, where there is one
abbrev pub rest_parts : Option (List ℕ) → List (List ℕ)
rest_parts None = []
rest_parts (Some text) = parts text
