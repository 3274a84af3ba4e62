use Rattle.std.proofs.Common.{◌∙◌}
use Rattle.type_world.proofs.ChainSteps.{base_not_null}
use Rattle.type_world.proofs.types.Types.base_in.Goals as goal

pub returns : goal.returns
returns c =
    c.base_by_token.ensures ∙ base_not_null c.args.self.now c.args.asm c.args.extends c.args.assembly.now c.coded.result c.requires
    c.if-extends-eq0.false c.coded.ensures
