-- A type by its head: the element type with the numbers that belong to it, and how many types are to come after them.
use Rattle.std.specs.Prelude.{ℕ, ◌+◌, ◌/◌, ◌%◌, ◌==◌, ◌||◌, Bool, true, false, List, [], ◌∷◌, Option, Some, None, if◌then◌else◌}
use Rattle.std.specs.Option.{option_map, option_and_then}
use Rattle.cli_assembly.specs.declared.pending.Pending.{Pending}
use Rattle.rtr_bytes.specs.Compressed.{number_in}
use Rattle.cli_assembly.specs.Types.{after_number, after_items, after_shape, is_alone, is_modifier, is_numbered, is_prefix}

abbrev pub pending : ℕ → Bool → Pending
pending types shape = record { types = types; shape = shape }

-- so many types after the bytes
abbrev pub no_type : List ℕ → Pending × List ℕ
no_type rest = (pending 0 false, rest)

abbrev pub one_type : List ℕ → Pending × List ℕ
one_type rest = (pending 1 false, rest)

abbrev pub so_many : ℕ × List ℕ → Pending × List ℕ
so_many count = (pending count.0 false, count.1)

abbrev pub one_more : ℕ × List ℕ → Pending × List ℕ
one_more count = (pending (count.0 + 1) false, count.1)

-- a generic instance after GENERICINST
abbrev pub arguments_in : List ℕ → Option (Pending × List ℕ)
arguments_in bytes = option_map so_many (number_in bytes)

abbrev pub instance_in : List ℕ → Option (Pending × List ℕ)
instance_in [] = None
instance_in (e ∷ rest) = if e == 0x12 || e == 0x11 then option_and_then arguments_in (after_number rest) else None

-- the signature of a method after FNPTR
abbrev pub params_in : List ℕ → Option (Pending × List ℕ)
params_in bytes = option_map one_more (number_in bytes)

abbrev pub function_in : List ℕ → Option (Pending × List ℕ)
function_in [] = None
function_in (convention ∷ rest) = option_and_then params_in (if convention / 0x10 % 2 == 1 then after_number rest else Some rest)

-- what is to come after an element type, and the bytes after what belongs to it
abbrev pub head_of : ℕ → List ℕ → Option (Pending × List ℕ)
head_of e rest =
    if is_alone e then Some (no_type rest)
    else if is_numbered e then option_map no_type (after_number rest)
    else if is_prefix e then Some (one_type rest)
    else if is_modifier e then option_map one_type (after_number rest)
    else if e == 0x14 then Some (pending 1 true, rest)
    else if e == 0x15 then instance_in rest
    else if e == 0x1B then function_in rest
    else None

unfoldable pub head_in : List ℕ → Option (Pending × List ℕ)
head_in [] = None
head_in (e ∷ rest) = head_of e rest

-- what is to come: the types, and then the shape
abbrev pub shape_if : Bool → List ℕ → Option (List ℕ)
shape_if shape bytes = if shape then after_shape bytes else Some bytes

abbrev pub after_pending : (List ℕ → Option (List ℕ)) → Pending → List ℕ → Option (List ℕ)
after_pending after_type p bytes = option_and_then (shape_if p.shape) (after_items after_type p.types bytes)

-- what is to come of types that are one in another, the innermost last
unfoldable pub after_all : (List ℕ → Option (List ℕ)) → List Pending → List ℕ → Option (List ℕ)
after_all after_type [] bytes = Some bytes
after_all after_type (p ∷ inner) bytes = option_and_then (after_pending after_type p) (after_all after_type inner bytes)

-- nothing is to come
abbrev pub is_nothing : Pending → Bool
is_nothing p = if p.shape then false else p.types == 0

-- what is kept of it, which is not done
abbrev pub kept : Pending → List Pending
kept p = if is_nothing p then [] else p ∷ []
