use Rattle.std.proofs.Common.{◌≡◌, ◌-◌, ◌++◌}
use Rattle.rtr_sections.specs.Numbered.{present}
use Rattle.rtr_sections.specs.Entries.{entry_of}
use Rattle.rtr_sections.proofs.entries.read_all.Given as goal

-- what was read and what is left are all of the entries
abbrev pub invariant-loop-index : goal.invariant-loop-index
invariant-loop-index l =
    let n = l.array.count in
    l.entries.items ++ present (entry_of l.file l.part l.array) l.index (n - l.index) ≡ present (entry_of l.file l.part l.array) 0 n
