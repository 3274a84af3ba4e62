-- Texts of runs, computed.
use Rattle.std.proofs.Common.{◌≡◌, ℕ, ◌^◌, ◌-◌, pos, negsuc, List, [], ◌∷◌, codes, refl}
use Rattle.std.specs.Fmt.{digits}
use Rattle.cli_assembly.specs.declared.element.Elem.TheVariants as elems
use Rattle.cli_assembly.specs.declared.signature.TypeSig.TheVariants as sigs
use Rattle.cil_meaning.specs.declared.ending.Ending.TheVariants as endings
use Rattle.r2r_commands.specs.RunText.{ending_line, ending_name, value_of, workers_text}
use Rattle.r2r_commands.specs.Running.{status_of_runs}

two_workers : workers_text (sigs.Int elems.I4) 0
    (record { output = codes "42\n"; ending = endings.Return 4294967293 } ∷ record { output = []; ending = endings.Overflow } ∷ [])
    ≡ codes "== worker 0\n42\n-- Return -3\n== worker 1\n-- Overflow\n"
unfolding digits value_of ending_name
two_workers = refl

-- a method without a result
nothing_returned : ending_line sigs.Void (endings.Return 0) ≡ codes "-- Return\n"
unfolding ending_name
nothing_returned = refl

-- the type of the result reads the low bits
signed_byte : value_of elems.I1 4294967168 ≡ negsuc 127
unfolding value_of
signed_byte = refl

unsigned_byte : value_of elems.Boolean 4294967295 ≡ pos 255
unfolding value_of
unsigned_byte = refl

unsigned_word : value_of elems.U4 4294967295 ≡ pos 4294967295
unfolding value_of
unsigned_word = refl

least : value_of elems.I8 (2 ^ 63) ≡ negsuc (2 ^ 63 - 1)
unfolding value_of
least = refl

each_returned : status_of_runs (record { output = []; ending = endings.Return 1 } ∷ []) ≡ 0
each_returned = refl

one_did_not :
    status_of_runs (record { output = []; ending = endings.Return 1 } ∷ record { output = []; ending = endings.OutOfTicks } ∷ []) ≡ 6
one_did_not = refl
