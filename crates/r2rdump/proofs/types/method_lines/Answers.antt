use Rattle.std.proofs.Common.{ℕ, List, ◌++◌, ap}
use Rattle.std.specs.List.{flat_map}
use Rattle.cli_assembly.specs.Assemblies.{assembly_of, methods_of}
use Rattle.r2rdump.specs.Types.{method_line}
use Rattle.r2rdump.proofs.Listed.{listed-more}
use Rattle.r2rdump.proofs.types.method_lines.Goals as goal

pub loop-method-init : goal.loop-method-init
loop-method-init c =
    ap (λ (rows : List ℕ). c.args.text.now ++ flat_map (method_line (assembly_of c.args.assembly.now)) rows) c.methods-start.ensures.rows

pub loop-method-preserved : goal.loop-method-preserved
loop-method-preserved c =
    let assembly = assembly_of c.args.assembly.now in
    listed-more (method_line assembly) c.loop-method.method c.methods-start.result.end c.loop-method.text c.method_line.new.text
    (c.args.text.now ++ flat_map (method_line assembly) (methods_of assembly c.args.row)) c.loop-method-test.true
    c.in_ok-method_line.ensures c.loop-method.invariant
