-- The machine and its memory: registers, the stack pointer, flags, the program counter, and the bytes of segments.
use Rattle.std.specs.Prelude.{ℕ, ◌+◌, ◌*◌, ◌/◌, ◌%◌, ◌^◌, ◌==◌, ◌||◌, Bool, List, Option, cond, eqb, nat_le}

-- x0 to x30 by number, SP, the program counter, and the flags: N 8, Z 4, C 2, V 1
pub record Machine : Type 0 where
  pub x : ℕ → ℕ
  pub sp : ℕ
  pub pc : ℕ
  pub nzcv : ℕ

-- What a worker keeps in segments, as the machine sees it. An address has 64 bits, and its upper 32 name the segment.
pub record Bytes (H : Type 0) : Type 0 where
  -- how many bytes a segment has, from its offset 0
  pub size : H → ℕ → ℕ
  -- the byte at an address
  pub byte : H → ℕ → ℕ
  -- with another byte at an address
  pub put : H → ℕ → ℕ → H

-- the image, which is never written: its byte at an RVA, if there is one (none from 2 ^ 32 on), and the RVAs of its cells, which have 8 bytes each
pub record Ground : Type 0 where
  pub byte : ℕ → Option ℕ
  pub cells : List ℕ

-- What a step comes to. A load of a cell goes on by the word that the cell answers; the others leave the machine as it was.
pub data Goal (H : Type 0) : Type 0 where
  Next : (m : Machine) (h : H) → Goal H
  Loads : (rva : ℕ) (go : ℕ → Goal H) → Goal H
  -- a helper, or a stub, by its number
  Helper Stub : (n : ℕ) → Goal H
  BadCode BadAccess : (address : ℕ) → Goal H

-- ---- registers. Number 31 is zero, or the stack pointer.

abbrev pub reg : Machine → ℕ → ℕ
reg m r = cond (eqb r 31) 0 (m.x r)

abbrev pub reg_or_sp : Machine → ℕ → ℕ
reg_or_sp m r = cond (eqb r 31) m.sp (m.x r)

abbrev pub upd : (ℕ → ℕ) → ℕ → ℕ → ℕ → ℕ
upd x r n k = cond (eqb k r) n (x k)

abbrev pub set_reg : Machine → ℕ → ℕ → Machine
set_reg m r n = record m { x = cond (eqb r 31) m.x (upd m.x r n) }

abbrev pub set_reg_or_sp : Machine → ℕ → ℕ → Machine
set_reg_or_sp m r n = record m { x = cond (eqb r 31) m.x (upd m.x r n); sp = cond (eqb r 31) n m.sp }

abbrev pub set_flags : Machine → ℕ → Machine
set_flags m n = record m { nzcv = n }

abbrev pub go_to : Machine → ℕ → Machine
go_to m address = record m { pc = address }

-- the instruction after this one
abbrev pub following : Machine → ℕ
following m = (m.pc + 4) % 2 ^ 64

abbrev pub on : Machine → Machine
on m = go_to m (following m)

-- ---- segments

abbrev pub segment : ℕ → ℕ
segment address = address / 2 ^ 32

abbrev pub offset : ℕ → ℕ
offset address = address % 2 ^ 32

abbrev pub at_segment : ℕ → ℕ → ℕ
at_segment n at = n * 2 ^ 32 + at

-- image 1, stack 2, helpers 3, stubs 4, statics 6, and the objects from 16 on
abbrev pub is_data : ℕ → Bool
is_data n = n == 2 || n == 6 || nat_le 16 n

-- the bytes of the stack, and SP where it is empty
abbrev pub stack_bytes : ℕ
stack_bytes = 2097152

abbrev pub stack_top : ℕ
stack_top = at_segment 2 stack_bytes

abbrev pub image_address : ℕ → ℕ
image_address rva = at_segment 1 rva

abbrev pub helper_address : ℕ → ℕ
helper_address n = at_segment 3 (16 * n)

abbrev pub stub_address : ℕ → ℕ
stub_address n = at_segment 4 (16 * n)
