use Rattle.std.proofs.Common.{sym, ap, ◌∙◌}
use Rattle.cli_assembly.specs.Assemblies.{body_of}
use Rattle.type_world.specs.Loading.{world_of}
use Rattle.type_world.specs.Profiled.{as_body}
use Rattle.type_world.specs.World.{assembly_in}
use Rattle.type_world.proofs.ProfileKept.{found, none_by_body, none_by_locals, none_by_shape}
use Rattle.type_world.proofs.profile.Profile.profile_method.Goals as goal

pub returns-in_err-locals : goal.returns-in_err-locals
returns-in_err-locals c =
    rw c.from_residual.ensures (none_by_locals (world_of c.args.self.now) c.args.method (sym c.in_err-locals.ensures))

pub returns-in_err-shape : goal.returns-in_err-shape
returns-in_err-shape c =
    rw c.from_residual-in_err-shape.ensures (none_by_shape (world_of c.args.self.now) c.args.method (sym c.in_err-shape.ensures))

pub returns-in_err-cil : goal.returns-in_err-cil
returns-in_err-cil c =
    rw c.from_residual-in_err-cil.ensures
    (none_by_body (world_of c.args.self.now) c.args.method
    (sym (c.in_err-cil.ensures.cil
    ∙ ap (λ files. body_of (assembly_in (world_of files) c.args.method.asm) c.args.method.row) (c.assemblies.ensures ∙ c.types.ensures))))

pub returns : goal.returns
returns c =
    sym (found (world_of c.args.self.now) c.args.method c.in_ok-locals.locals.now c.in_ok-shape.shape.now (as_body c.in_ok-cil.cil)
    (sym c.in_ok-locals.ensures) (sym c.in_ok-shape.ensures)
    (sym (c.in_ok-cil.ensures.cil
    ∙ ap (λ files. body_of (assembly_in (world_of files) c.args.method.asm) c.args.method.row) (c.assemblies.ensures ∙ c.types.ensures))))
