-- Examples of what no emulator of the architecture shows: exits, ranges, cells, headers and pairs, computed by the definitions.
use Rattle.std.proofs.Common.{◌≡◌, Some, None, refl, ℕ, ◌+◌, ◌*◌, ◌^◌, List, [], ◌∷◌}
use Rattle.std.specs.Prelude.{if◌then◌else◌, nat_lt, ◌==◌, map, take}
use Rattle.a64_code.specs.declared.inst.Inst.{Inst}
use Rattle.a64_code.specs.declared.inst.Inst.TheVariants as insts
use Rattle.a64_meaning.specs.Machine.{Machine, Ground, Goal, Next, Loads, Helper, Stub, BadCode, BadAccess, stack_top}
use Rattle.a64_meaning.specs.Effects.{act}
use Rattle.a64_meaning.specs.Step.{step, Steps, After}
use Rattle.a64_meaning.specs.Flat.{Flat, flat}

-- zeros below the RVA 0x3000 but for `ret` at 0x2000, and at 0x200A, which is no multiple of 4; cells at 0x1000 and 0x1010
abbrev byte : ℕ → ℕ
byte a = if a == 0x2000 then 0xC0 else if a == 0x200A then 0xC0 else if a == 0x2001 then 0x03 else if a == 0x200B then 0x03 else if a == 0x2002 then 0x5F else if a == 0x200C then 0x5F else if a == 0x2003 then 0xD6 else if a == 0x200D then 0xD6 else 0

abbrev ground : Ground
ground = record { byte = λ a. if nat_lt a 0x3000 then Some (byte a) else None; cells = 0x1000 ∷ 0x1010 ∷ [] }

-- segments 3, 5 and 7 have bytes that nothing reaches; two static fields; object 0 of class 16 has 24 bytes, and object 1, of type number 6, is an array of three I2
abbrev sizes : ℕ → ℕ
sizes n = if n == 3 then 64 else if n == 5 then 64 else if n == 7 then 64 else if n == 2 then 0x200000 else if n == 6 then 16 else if n == 16 then 24 else if n == 17 then 22 else 0

abbrev bytes : ℕ → ℕ
bytes a = if a == 16 * 2 ^ 32 then 16 else if a == 17 * 2 ^ 32 then 6 else if a == 17 * 2 ^ 32 + 8 then 3 else 0

abbrev memory : Flat
memory = record { sizes = sizes; bytes = bytes }

-- what a goal is: of Next, x1 and x2, the pc and SP; a cell that is loaded answers its RVA
told : Goal Flat → List ℕ
told (Next m h) = 0 ∷ m.x 1 ∷ m.x 2 ∷ m.pc ∷ m.sp ∷ []
told (Loads rva go) = 1 ∷ rva ∷ told (go rva)
told (Helper n) = 2 ∷ n ∷ []
told (Stub n) = 3 ∷ n ∷ []
told (BadCode a) = 4 ∷ a ∷ []
told (BadAccess a) = 5 ∷ a ∷ []

-- x0 is an address, x1 7 and x2 9
abbrev at : ℕ → ℕ → Machine
at x0 pc = record { x = λ r. if r == 0 then x0 else if r == 1 then 7 else if r == 2 then 9 else 0; sp = stack_top; pc = pc; nzcv = 0 }

fetches : ℕ → List ℕ
fetches pc = told (step flat ground (at 0 pc) memory)

does : Inst → ℕ → List ℕ
does inst x0 = told (act flat ground inst (at x0 0x100002000) memory)

-- a helper, a stub; between them; null; a word that is none; no multiple of 4; a cell; after the image; ret, to x30, which is 0
exits : map fetches (0x300002070 ∷ 0x400000050 ∷ 0x300000008 ∷ 0x400000004 ∷ 0 ∷ 0x100002004 ∷ 0x10000200A ∷ 0x100001000 ∷ 0x100003000 ∷ 0x200002000 ∷ 0x100002000 ∷ [])
    ≡ ((2 ∷ 0x207 ∷ []) ∷ (3 ∷ 5 ∷ []) ∷ (4 ∷ 0x300000008 ∷ []) ∷ (4 ∷ 0x400000004 ∷ []) ∷ (4 ∷ 0 ∷ []) ∷ (4 ∷ 0x100002004 ∷ []) ∷ (4 ∷ 0x10000200A ∷ []) ∷ (4 ∷ 0x100001000 ∷ []) ∷ (4 ∷ 0x100003000 ∷ []) ∷ (4 ∷ 0x200002000 ∷ []) ∷ (0 ∷ 7 ∷ 9 ∷ 0 ∷ stack_top ∷ []) ∷ [])
unfolding fetches told step Rattle.a64_meaning.specs.Step.fetched Rattle.a64_meaning.specs.Access.plain_load Rattle.a64_meaning.specs.Access.in_cell Rattle.a64_code.specs.Words.instruction act
exits = refl

-- ldr x1, [x0]: a cell; its second half; bytes that end in a cell; those between cells; the image's last 8, and one more;
-- string 1; statics, and beyond; the array whole, and beyond; the stack's last 8, and one more; an object that is not there
loads : map (does (insts.LoadImmediate 3 1 0 0)) (0x100001000 ∷ 0x100001004 ∷ 0x100000FFC ∷ 0x100001008 ∷ 0x100002FF8 ∷ 0x100002FF9 ∷ 0x500000004 ∷ 0x600000008 ∷ 0x600000009 ∷ 0x110000000E ∷ 0x110000000F ∷ 0x2001FFFF8 ∷ 0x2001FFFF9 ∷ 0x1200000000 ∷ 0x1100000008 ∷ [])
    ≡ (((1 ∷ 0x1000 ∷ 0 ∷ 0x1000 ∷ 9 ∷ 0x100002004 ∷ stack_top ∷ []) ∷ (5 ∷ 0x100001004 ∷ []) ∷ (5 ∷ 0x100000FFC ∷ []) ∷ (0 ∷ 0 ∷ 9 ∷ 0x100002004 ∷ stack_top ∷ []) ∷ (0 ∷ 0 ∷ 9 ∷ 0x100002004 ∷ stack_top ∷ []) ∷ (5 ∷ 0x100002FF9 ∷ []) ∷ (5 ∷ 0x500000004 ∷ []) ∷ (0 ∷ 0 ∷ 9 ∷ 0x100002004 ∷ stack_top ∷ []) ∷ (5 ∷ 0x600000009 ∷ []) ∷ (0 ∷ 0 ∷ 9 ∷ 0x100002004 ∷ stack_top ∷ []) ∷ (5 ∷ 0x110000000F ∷ []) ∷ (0 ∷ 0 ∷ 9 ∷ 0x100002004 ∷ stack_top ∷ []) ∷ (5 ∷ 0x2001FFFF9 ∷ []) ∷ (5 ∷ 0x1200000000 ∷ []) ∷ (0 ∷ 3 ∷ 9 ∷ 0x100002004 ∷ stack_top ∷ []) ∷ []))
unfolding does told act Rattle.a64_meaning.specs.Access.found Rattle.a64_meaning.specs.Access.load Rattle.a64_meaning.specs.Access.plain_load Rattle.a64_meaning.specs.Access.in_cell Rattle.a64_meaning.specs.Access.is_cell
loads = refl

-- ldr w1, [x0] of a cell; ldr xzr of it is still made
narrow : (does (insts.LoadImmediate 2 1 0 0) 0x100001000 ≡ (5 ∷ 0x100001000 ∷ [])) × (does (insts.LoadImmediate 3 31 0 0) 0x100001010 ≡ (1 ∷ 0x1010 ∷ 0 ∷ 7 ∷ 9 ∷ 0x100002004 ∷ stack_top ∷ []))
unfolding does told act Rattle.a64_meaning.specs.Access.found Rattle.a64_meaning.specs.Access.load Rattle.a64_meaning.specs.Access.plain_load Rattle.a64_meaning.specs.Access.in_cell Rattle.a64_meaning.specs.Access.is_cell
narrow = (refl, refl)

-- strh w1, [x0]: image, cell, helper, string; header and first byte after it of an object, its end and beyond; length and first
-- element of an array, and beyond it
stores : map (λ a. take 2 (does (insts.StoreImmediate 1 1 0 0) a)) (0x100000000 ∷ 0x100001000 ∷ 0x300000000 ∷ 0x500000000 ∷ 0x1000000007 ∷ 0x1000000008 ∷ 0x1000000016 ∷ 0x1000000017 ∷ 0x110000000F ∷ 0x1100000010 ∷ 0x1100000015 ∷ 0x60000000E ∷ 0x200000000 ∷ 0 ∷ [])
    ≡ ((5 ∷ 0x100000000 ∷ []) ∷ (5 ∷ 0x100001000 ∷ []) ∷ (5 ∷ 0x300000000 ∷ []) ∷ (5 ∷ 0x500000000 ∷ []) ∷ (5 ∷ 0x1000000007 ∷ []) ∷ (0 ∷ 7 ∷ []) ∷ (0 ∷ 7 ∷ []) ∷ (5 ∷ 0x1000000017 ∷ []) ∷ (5 ∷ 0x110000000F ∷ []) ∷ (0 ∷ 7 ∷ []) ∷ (5 ∷ 0x1100000015 ∷ []) ∷ (0 ∷ 7 ∷ []) ∷ (0 ∷ 7 ∷ []) ∷ (5 ∷ 0 ∷ []) ∷ [])
unfolding does told act Rattle.a64_meaning.specs.Access.is_writable Rattle.a64_meaning.specs.Access.load Rattle.a64_meaning.specs.Access.store
stores = refl

-- ldp x1, x2, [x0], #16: a cell and then bytes; two cells are no pair; a cell whose second address is bad: no cell is loaded
pairs : map (does (insts.Pair 1 1 0 2 2)) (0x100001000 ∷ 0x100001008 ∷ 0x100002FF8 ∷ 0x100002FFC ∷ 0x2001FFFF8 ∷ [])
    ≡ ((1 ∷ 0x1000 ∷ 0 ∷ 0x1000 ∷ 0 ∷ 0x100002004 ∷ stack_top ∷ []) ∷ (1 ∷ 0x1010 ∷ 0 ∷ 0 ∷ 0x1010 ∷ 0x100002004 ∷ stack_top ∷ []) ∷ (5 ∷ 0x100003000 ∷ []) ∷ (5 ∷ 0x100002FFC ∷ []) ∷ (5 ∷ 0x200200000 ∷ []) ∷ [])
unfolding does told act Rattle.a64_meaning.specs.Access.found Rattle.a64_meaning.specs.Access.load Rattle.a64_meaning.specs.Access.plain_load Rattle.a64_meaning.specs.Access.in_cell Rattle.a64_meaning.specs.Access.is_cell
pairs = refl

-- stp x1, x2, [x0, #-16]!: of the second address BadAccess is that of the second
pair_stores : map (λ a. take 2 (does (insts.Pair 0 1 0 2 126) a)) (0x200200000 ∷ 0x200200008 ∷ 0x200200010 ∷ 0x1000000018 ∷ 0x1000000010 ∷ [])
    ≡ ((0 ∷ 7 ∷ []) ∷ (5 ∷ 0x200200000 ∷ []) ∷ (5 ∷ 0x200200000 ∷ []) ∷ (0 ∷ 7 ∷ []) ∷ (5 ∷ 0x1000000000 ∷ []) ∷ [])
unfolding does told act Rattle.a64_meaning.specs.Access.is_writable Rattle.a64_meaning.specs.Access.load Rattle.a64_meaning.specs.Access.store
pair_stores = refl
