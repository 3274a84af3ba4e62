use Rattle.std.proofs.Common.{◌∙◌, leb, sym, rules}
use Rattle.std.proofs.lemmas.Bool.{le-ltb}
use Rattle.std.proofs.lemmas.List.Sorted.{IsPartitionPoint-from_clause, IsPartitionedBy-leb}
use Rattle.pe_image.specs.declared.finder.Step.{Step}
use Rattle.pe_image.proofs.StairLemmas.{none_begins, last_decides}
use Rattle.pe_image.proofs.finder.has_step.Goals as goal

pub returns-then-count-gt0 : goal.returns-then-count-gt0
returns-then-count-gt0 c =
    let stairs = c.args.stairs.now in
    let rva = c.args.rva in
    let count = c.partition_point-count.result in
    let split = IsPartitionPoint-from_clause (λ (s : Step). leb s.rva rva) stairs count c.partition_point-count.ensures.partitioned
    (IsPartitionedBy-leb (λ (s : Step). s.rva) stairs rva c.requires.rva) (λ a r q k. search rules) in
    last_decides stairs rva c.args.end count (record { rva = 0; reach = 0 }) c.requires c.if-count-gt0.true
    c.partition_point-count.ensures.bound split.0 split.1

pub returns-else-count-gt0 : goal.returns-else-count-gt0
returns-else-count-gt0 c =
    let stairs = c.args.stairs.now in
    let rva = c.args.rva in
    let count = c.partition_point-count.result in
    let split = IsPartitionPoint-from_clause (λ (s : Step). leb s.rva rva) stairs count c.partition_point-count.ensures.partitioned
    (IsPartitionedBy-leb (λ (s : Step). s.rva) stairs rva c.requires.rva) (λ a r q k. search rules) in
    le-ltb 0 count c.if-count-gt0.false ∙ sym (none_begins stairs rva c.args.end count c.if-count-gt0.false split.1)
