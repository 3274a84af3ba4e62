use Rattle.std.proofs.lemmas.Nat.{shl_whole}
use Rattle.a64_code.proofs.fields.Field.put.Goals as goal

pub returns : goal.returns
returns c =
    shl_whole c.args.value c.args.self.width c.args.self.place 32 c.requires.fits c.requires.within
