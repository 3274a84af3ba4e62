-- The integer types by their element types (ECMA-335 II.23.1.16).
use Rattle.std.specs.Prelude.{ℕ, ◌==◌, List, Option, find}
use Rattle.cli_assembly.specs.declared.element.Elem.{Elem}
use Rattle.cli_assembly.specs.declared.element.Elem.TheVariants as elems
use Rattle.cli_assembly.specs.declared.element.TheConstants.{ELEMS}

abbrev pub element_number : Elem → ℕ
element_number elems.Boolean = 0x02
element_number elems.Char = 0x03
element_number elems.I1 = 0x04
element_number elems.U1 = 0x05
element_number elems.I2 = 0x06
element_number elems.U2 = 0x07
element_number elems.I4 = 0x08
element_number elems.U4 = 0x09
element_number elems.I8 = 0x0A
element_number elems.U8 = 0x0B

-- the integer type of an element type, where it is one
abbrev pub element_in : List Elem → ℕ → Option Elem
element_in list number = find (λ e. element_number e == number) list

unfoldable pub element_of : ℕ → Option Elem
element_of number = element_in ELEMS number
