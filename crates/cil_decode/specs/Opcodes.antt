-- The opcode of a form, and its operand, by the table of opcodes.
use Rattle.std.specs.Prelude.{ℕ, ◌==◌, Bool, List, Option, find}
use Rattle.std.specs.Option.{option_map}
use Rattle.cil_decode.specs.declared.opcode.Operand.{Operand}
use Rattle.cil_decode.specs.declared.opcode.Opcode.{Opcode}
use Rattle.cil_decode.specs.declared.opcode.TheConstants.{OPCODES}

abbrev pub has_form : ℕ → Opcode → Bool
has_form form o = o.form == form

-- the first of a table with a form
abbrev pub find_opcode : List Opcode → ℕ → Option Opcode
find_opcode table form = find (has_form form) table

-- none outside the profile
unfoldable pub opcode_of : ℕ → Option Opcode
opcode_of form = find_opcode OPCODES form

unfoldable pub operand_of : ℕ → Option Operand
operand_of form = option_map (λ o. o.operand) (opcode_of form)
