use Rattle.type_world.proofs.CilBodies.{cil_is}
use Rattle.type_world.proofs.cil.cil_in.Goals as goal

pub returns-clause-cil : goal.returns-clause-cil
returns-clause-cil c =
    cil_is c.args.assembly.now c.bytes-bytes.result.now c.in_ok-body.body _ c.bytes-bytes.ensures.bytes c.in_ok-body.ensures.body
