use Rattle.std.proofs.Common.{drop, sym, arith}
use Rattle.r2r_commands.proofs.EntryAt.{lacks_none, splits_at}
use Rattle.r2r_commands.proofs.values.split_entry.Goals as goal

pub returns-in-Some : goal.returns-in-Some
returns-in-Some c =
    let at = c.in-Some.ensures.cases in
    let value = c.args.value.now in
    rw (at.3, at.4) (sym (splits_at at.0 value (drop at.1 value) at.2.1.split (λ k from to. at.2.0 k (omega arith) to)))

pub returns-in-None : goal.returns-in-None
returns-in-None c = sym (lacks_none c.args.value.now (λ i from to. c.in-None.ensures.cases i to))
