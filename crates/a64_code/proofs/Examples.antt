-- Examples of words, computed by the definitions.
use Rattle.std.proofs.Common.{◌≡◌, Some, None, refl}
use Rattle.a64_code.specs.declared.inst.Inst.TheVariants as insts
use Rattle.a64_code.specs.Words.{instruction, word_of}

-- add x0, x1, x2
add : (word_of (insts.AddRegister 1 0 1 0 2 0) ≡ 0x8B020020) × (instruction 0x8B020020 ≡ Some (insts.AddRegister 1 0 1 0 2 0))
unfolding instruction
add = (refl, refl)

-- sdiv w9, w9, w10
sdiv : (word_of (insts.Divide 0 9 9 10) ≡ 0x1ACA0D29) × (instruction 0x1ACA0D29 ≡ Some (insts.Divide 0 9 9 10))
unfolding instruction
sdiv = (refl, refl)

-- ret
return : (word_of (insts.BranchRegister 2 30) ≡ 0xD65F03C0) × (instruction 0xD65F03C0 ≡ Some (insts.BranchRegister 2 30))
unfolding instruction
return = (refl, refl)

-- add w0, w0, #1, and a branch to itself
next_number : instruction 0x11000400 ≡ Some (insts.AddImmediate 0 0 0 1 0)
unfolding instruction
next_number = refl

forever : instruction 0x14000000 ≡ Some (insts.Branch 0 0)
unfolding instruction
forever = refl

-- no instruction: 0, LDP of one register twice, a shift by 32 of 32 bits, B.cond with bit 4
nothing : (instruction 0 ≡ None) × (instruction 0xA8C07FFF ≡ None) × (instruction 0x0B028020 ≡ None) × (instruction 0x54000010 ≡ None)
unfolding instruction
nothing = (refl, refl, refl, refl)
