-- The built-in methods as the Rust table has them.
use Rattle.type_world.specs.declared.built_in.BuiltInMethod.{BuiltInMethod}
use Rattle.cli_assembly.specs.Signatures.{method_sig}
use Rattle.type_world.specs.Members.{BuiltIn}

abbrev pub as_built_in : BuiltInMethod → BuiltIn
as_built_in m = record { of = m.of; name = m.name.now; sig = method_sig m.has_this m.ret m.params.now }
