use Rattle.std.proofs.Common.{◌<◌, ℕ, List, [], Bor, length, sym, ap, ◌∙◌, arith}
use Rattle.r2r_commands.specs.Loaded.{first_of}
use Rattle.r2r_commands.proofs.NotIlOnly.{passed_here, refused_here}
use Rattle.r2r_commands.proofs.loading.first_not_il_only.Goals as goal

pub returns-then-not-is_il_only : goal.returns-then-not-is_il_only
returns-then-not-is_il_only c =
    let i = c.loop-i.i in
    let item = c.index-assemblies-i.result in
    let none : Bor (List ℕ) = record { ref_ptr = (0, 0); now = [] } in
    let hf : i < length c.args.assemblies.now = omega arith in
    let hn : i < length c.args.names.now = omega (arith, hf, c.requires.each) in
    sym (c.loop-i.invariant
    ∙ refused_here c.args.names.now c.args.assemblies.now i none item item hn hf c.index-assemblies-i.is
    (sym c.is_il_only.ensures ∙ c.if-not-is_il_only.true))

pub loop-i-preserved : goal.loop-i-preserved
loop-i-preserved c =
    let i = c.loop-i.i in
    let item = c.index-assemblies-i.result in
    let none : Bor (List ℕ) = record { ref_ptr = (0, 0); now = [] } in
    let hf : i < length c.args.assemblies.now = omega arith in
    let hn : i < length c.args.names.now = omega (arith, hf, c.requires.each) in
    c.loop-i.invariant
    ∙ ap first_of (passed_here c.args.names.now c.args.assemblies.now i none item item hn hf c.index-assemblies-i.is
    (sym c.is_il_only.ensures ∙ c.if-not-is_il_only.false))
