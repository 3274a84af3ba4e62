-- The text of a run.
use Rattle.std.specs.Prelude.{ℕ, ◌+◌, ◌%◌, ◌^◌, ℤ, pos, List, [], ◌∷◌, ◌++◌, codes, decimal}
use Rattle.std.specs.Fmt.{signed_decimal}
use Rattle.std.specs.Int.{w8, w16, w32, w64, cast_signed, to_be_bytes}
use Rattle.hex.specs.Hex.{encode_lower}
use Rattle.rtr_outside.specs.Text.{newline}
use Rattle.cli_assembly.specs.declared.element.Elem.{Elem}
use Rattle.cli_assembly.specs.declared.element.Elem.TheVariants as elems
use Rattle.cli_assembly.specs.declared.signature.TypeSig.{TypeSig}
use Rattle.cli_assembly.specs.declared.signature.TypeSig.TheVariants as sigs
use Rattle.cil_meaning.specs.declared.ending.Ending.{Ending}
use Rattle.cil_meaning.specs.declared.ending.Ending.TheVariants as endings
use Rattle.rtr_runner.specs.Workers.{Ended}

-- ---- the value that was returned

-- the value of an integer type that the low bits of a word are
unfoldable pub value_of : Elem → ℕ → ℤ
value_of elems.Boolean word = pos (word % 2 ^ 8)
value_of elems.Char word = pos (word % 2 ^ 16)
value_of elems.I1 word = cast_signed w8 (word % 2 ^ 8)
value_of elems.U1 word = pos (word % 2 ^ 8)
value_of elems.I2 word = cast_signed w16 (word % 2 ^ 16)
value_of elems.U2 word = pos (word % 2 ^ 16)
value_of elems.I4 word = cast_signed w32 (word % 2 ^ 32)
value_of elems.U4 word = pos (word % 2 ^ 32)
value_of elems.I8 word = cast_signed w64 word
value_of elems.U8 word = pos word

-- nothing is printed of a method without a result
abbrev pub returned_text : TypeSig → ℕ → List ℕ
returned_text (sigs.Int elem) word = codes " " ++ signed_decimal (value_of elem word)
returned_text ret word = []

-- ---- endings

unfoldable pub ending_name : Ending → List ℕ
ending_name (endings.Return word) = codes "Return"
ending_name endings.NullReference = codes "NullReference"
ending_name endings.DivideByZero = codes "DivideByZero"
ending_name endings.Overflow = codes "Overflow"
ending_name endings.IndexOutOfRange = codes "IndexOutOfRange"
ending_name endings.InvalidCast = codes "InvalidCast"
ending_name endings.NegativeSize = codes "NegativeSize"
ending_name endings.Missing = codes "Missing"
ending_name endings.Unsupported = codes "Unsupported"
ending_name endings.DepthLimit = codes "DepthLimit"
ending_name endings.HeapFull = codes "HeapFull"
ending_name endings.OutputFull = codes "OutputFull"
ending_name endings.OutOfTicks = codes "OutOfTicks"
ending_name (endings.BadCode address) = codes "BadCode"
ending_name (endings.BadAccess address) = codes "BadAccess"
ending_name endings.Runaway = codes "Runaway"

-- what is after the name: the value that was returned, by the type of the result, or an address in 16 digits
abbrev pub ending_value : TypeSig → Ending → List ℕ
ending_value ret (endings.Return word) = returned_text ret word
ending_value ret (endings.BadCode address) = codes " " ++ encode_lower (to_be_bytes w64 address)
ending_value ret (endings.BadAccess address) = codes " " ++ encode_lower (to_be_bytes w64 address)
ending_value ret ending = []

abbrev pub ending_line : TypeSig → Ending → List ℕ
ending_line ret ending = codes "-- " ++ (ending_name ending ++ (ending_value ret ending ++ newline))

-- ---- workers

-- a worker's number, the lines that it printed, and its ending
abbrev pub worker_text : TypeSig → ℕ → Ended → List ℕ
worker_text ret number ended =
    (codes "== worker " ++ (decimal number ++ (newline ++ ended.output))) ++ ending_line ret ended.ending

-- of each worker in its order, the first of which has this number
abbrev pub workers_text : TypeSig → ℕ → List Ended → List ℕ
workers_text ret number [] = []
workers_text ret number (ended ∷ others) = worker_text ret number ended ++ workers_text ret (number + 1) others
