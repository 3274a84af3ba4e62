use Rattle.std.proofs.Common.{◌≡◌}
use Rattle.std.specs.Prelude.{◌==◌}
use Rattle.std.specs.List.{list_any}
use Rattle.std.proofs.lemmas.Str.{is_utf8-from_IsUtf8}
use Rattle.asm_builder.proofs.Booleans.{name_is}
use Rattle.asm_builder.proofs.tokens.is_name.Goals as goal

pub returns : goal.returns
returns c =
    let none : c.has_zero.result ≡ list_any (λ b. b == 0) c.args.text.now = cc in
    name_is c.args.text.now c.has_zero.result (is_utf8-from_IsUtf8 c.args.text.now c.utf8.text) none
