-- A recorded call, as a contract sees it.
use Rattle.std.specs.Prelude.{ℕ, List, string_bytes}
use Rattle.rtr_outside.specs.declared.calls.CallKind.{CallKind}
use Rattle.rtr_outside.specs.declared.calls.CallKind.TheVariants as kinds
use Rattle.rtr_outside.specs.declared.calls.FailedCall.{FailedCall}
use Rattle.rtr_outside.specs.Files.{Call, Read, Write}

-- the call of this kind, of the file of this name
abbrev pub call : CallKind → List ℕ → Call
call kinds.Read name = Read name
call kinds.Write name = Write name

abbrev pub call_of : FailedCall → Call
call_of failed = call failed.kind (string_bytes failed.name)
