-- Texts that are written in pieces.
use Rattle.std.specs.Prelude.{ℕ, Bool, true, List, [], ◌++◌, codes, Option, Result, Ok, Err}
use Rattle.std.specs.Fmt.{signed_decimal}
use Rattle.std.specs.Int.{w64, to_be_bytes}
use Rattle.std.specs.Option.{option_map_or}
use Rattle.std.specs.List.{flat_map}
use Rattle.hex.specs.Hex.{encode_lower}
use Rattle.rtr_outside.specs.Sink.{Appends}
use Rattle.rtr_outside.specs.declared.sink.SinkFailed.{SinkFailed}
use Rattle.cli_assembly.specs.declared.signature.TypeSig.{TypeSig}
use Rattle.rtr_runner.specs.Workers.{WorkerState}
use Rattle.r2r_commands.specs.declared.printing.Value.{Value}
use Rattle.r2r_commands.specs.declared.printing.Value.TheVariants as values
use Rattle.r2r_commands.specs.Outside.{CutsShort}
use Rattle.r2r_commands.specs.RunText.{worker_text}
use Rattle.r2r_commands.specs.Running.{is_return}

-- the output took the text whole, or had a fault and took a prefix of it
abbrev pub IsWritten : {S : Type 0} → (S → Option (List ℕ)) → (S → ℕ) → List ℕ → S → S → Result (Unit {0}) SinkFailed → Type 0
IsWritten written faults text old new (Ok done) = Appends text (written old) (written new)
IsWritten written faults text old new (Err failed) = CutsShort written faults text old new

-- what is printed after the name of an ending
abbrev pub value_text : Value → List ℕ
value_text values.None = []
value_text (values.Returned value) = codes " " ++ signed_decimal value
value_text (values.Address address) = codes " " ++ encode_lower (to_be_bytes w64 address)

-- ---- workers; before one has run nothing is printed of it

abbrev pub state_text : TypeSig → WorkerState → List ℕ
state_text ret worker = option_map_or (λ ended. worker_text ret worker.number ended) worker.ended []

abbrev pub states_text : TypeSig → List WorkerState → List ℕ
states_text ret workers = flat_map (state_text ret) workers

abbrev pub has_returned : WorkerState → Bool
has_returned worker = option_map_or (λ ended. is_return ended.ending) worker.ended true
