-- The fixup that bytes begin with, computed: `read_fixup` answers it, and a law says that it is the one whose
-- spelling begins there.
use Rattle.std.specs.Prelude.{ℕ, ◌-◌, ◌==◌, ◌&&◌, List, [], ◌∷◌, drop, length, Bool, true, false, Option, Some, None, if◌then◌else◌, nat_le}
use Rattle.std.specs.Option.{option_map}
use Rattle.rtr_bytes.specs.Compressed.{number_in}
use Rattle.fixup_sigs.specs.declared.fixup.Fixup.{Fixup}
use Rattle.fixup_sigs.specs.declared.fixup.Fixup.TheVariants as fixups
use Rattle.fixup_sigs.specs.declared.fixup.SigType.{SigType}
use Rattle.fixup_sigs.specs.declared.fixup.SigType.TheVariants as types
use Rattle.fixup_sigs.specs.declared.fixup.FieldToken.{FieldToken}

-- a value that bytes begin with, and the bytes after it
abbrev pub Found : Type 0 → Type 0
Found X = Option (X × List ℕ)

-- a value made of it
abbrev pub made : {X Y : Type 0} → (X → Y) → Found X → Found Y
made f None = None
made f (Some (x, rest)) = Some (f x, rest)

-- another after it
abbrev pub then_in : {X Y : Type 0} → Found X → (X → List ℕ → Found Y) → Found Y
then_in None next = None
then_in (Some (x, rest)) next = next x rest

-- an integer type, BOOLEAN 02 to U8 0B (ECMA-335 II.23.1.16)
abbrev pub is_element : ℕ → Bool
is_element element = nat_le 0x02 element && nat_le element 0x0B

unfoldable pub element_in : List ℕ → Found ℕ
element_in [] = None
element_in (e ∷ rest) = if is_element e then Some (e, rest) else None

-- a type: an integer type, STRING 0E, OBJECT 1C, CLASS 12 with its token, SZARRAY 1D with its element
unfoldable pub type_in : List ℕ → Found SigType
type_in [] = None
type_in (e ∷ rest) =
    if is_element e then Some (types.Int e, rest)
    else if e == 0x0E then Some (types.Str, rest)
    else if e == 0x1C then Some (types.Object, rest)
    else if e == 0x12 then made types.Class (number_in rest)
    else if e == 0x1D then made types.Array (element_in rest)
    else None

-- an array type, by its element
abbrev pub array_type_in : List ℕ → Found ℕ
array_type_in [] = None
array_type_in (e ∷ rest) = if e == 0x1D then element_in rest else None

-- a field's token: its flags, 00 or 10, and its row
abbrev pub token : Bool → ℕ → FieldToken
token member_ref row = record { member_ref = member_ref; row = row }

abbrev pub row_in : ℕ → List ℕ → Found FieldToken
row_in flags rest =
    if flags == 0x00 then made (token false) (number_in rest) else if flags == 0x10 then made (token true) (number_in rest) else None

unfoldable pub field_in : List ℕ → Found FieldToken
field_in bytes = then_in (number_in bytes) row_in

-- a fixup: the byte of its kind, and the payload of that kind
unfoldable pub payload_in : ℕ → List ℕ → Found Fixup
payload_in kind rest =
    if kind == 0x14 then made fixups.MethodEntryDefToken (number_in rest)
    else if kind == 0x15 then made fixups.MethodEntryRefToken (number_in rest)
    else if kind == 0x17 then made fixups.VirtualEntryDefToken (number_in rest)
    else if kind == 0x18 then made fixups.VirtualEntryRefToken (number_in rest)
    else if kind == 0x1A then made fixups.Helper (number_in rest)
    else if kind == 0x1B then made fixups.StringHandle (number_in rest)
    else if kind == 0x1C then made fixups.NewObject (type_in rest)
    else if kind == 0x1D then made fixups.NewArray (array_type_in rest)
    else if kind == 0x1E then made fixups.IsInstanceOf (type_in rest)
    else if kind == 0x1F then made fixups.ChkCast (type_in rest)
    else if kind == 0x20 then made fixups.FieldAddress (field_in rest)
    else if kind == 0x26 then made fixups.FieldBaseOffset (type_in rest)
    else if kind == 0x27 then made fixups.FieldOffset (field_in rest)
    else if kind == 0x2B then then_in (number_in rest) (λ offset more. made (fixups.CheckFieldOffset offset) (field_in more))
    else None

abbrev pub fixup_in : List ℕ → Found Fixup
fixup_in [] = None
fixup_in (kind ∷ rest) = payload_in kind rest

-- the place after what was found in so many bytes
abbrev pub with_next : ℕ → Fixup × List ℕ → Fixup × ℕ
with_next len found = (found.0, len - length found.1)

-- the fixup that begins at a place, and the place after it
unfoldable pub fixup_and_next_at : List ℕ → ℕ → Option (Fixup × ℕ)
fixup_and_next_at bytes at = option_map (with_next (length bytes)) (fixup_in (drop at bytes))

abbrev pub without_next : Fixup × ℕ → Fixup
without_next found = found.0

-- the fixup alone
unfoldable pub fixup_at : List ℕ → ℕ → Option Fixup
fixup_at bytes at = option_map without_next (fixup_and_next_at bytes at)
