use Rattle.std.proofs.Common.{sym, ap, ◌∙◌}
use Rattle.type_world.specs.Loading.{world_of}
use Rattle.type_world.specs.Members.{same_type}
use Rattle.type_world.proofs.types.Types.same_type.Goals as goal

pub returns-in-Int : goal.returns-in-Int
returns-in-Int c =
    c.is_int.ensures (world_of c.args.self.now) c.args.asm c.args.other
    ∙ ap (λ of. same_type (world_of c.args.self.now) c.args.asm c.args.other of c.args.at) (sym c.in-Int.is)

pub returns-in-Array : goal.returns-in-Array
returns-in-Array c =
    c.is_array_sig.ensures (world_of c.args.self.now) c.args.asm c.args.other
    ∙ ap (λ of. same_type (world_of c.args.self.now) c.args.asm c.args.other of c.args.at) (sym c.in-Array.is)
