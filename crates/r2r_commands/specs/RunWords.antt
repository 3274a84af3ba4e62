-- The words of `run IMAGE [--ref F].. [--entry T::M] [--worker A,B].. [--ticks N]`, without the first of them.
use Rattle.std.specs.Prelude.{ℕ, ◌^◌, ◌==◌, ◌&&◌, List, [], ◌∷◌, length, map, filter, codes, Bool, not, nat_le, nat_lt}
use Rattle.std.specs.Prelude.{Option, Some, None, option_map, option_and_then, if◌then◌else◌, ℤ, pos, negsuc}
use Rattle.std.specs.Option.{option_or}
use Rattle.std.specs.Fmt.{signed_decimal}
use Rattle.std.specs.List.{list_any, list_all}
use Rattle.std.specs.Str.{bytes_eq}
use Rattle.std.specs.Str.Parse.{signed_digits_value}
use Rattle.r2r_commands.specs.Words.{is_positional}

-- a method by the name of its type, with its namespace, and its own name
pub record Entry : Type 0 where
  pub type_name : List ℕ
  pub method : List ℕ

-- what is asked for
pub record Run : Type 0 where
  -- the file that is run, and those beside it in their order
  pub image : List ℕ
  pub refs : List (List ℕ)
  -- the method to begin with, where one is named
  pub entry : Option Entry
  -- the arguments of each worker
  pub workers : List (List ℤ)
  -- how many ticks a worker has
  pub ticks : ℕ

-- ---- words as items

-- A value, and the option that it is of. The option of a positional word is empty, and so is the value of a word that
-- is neither an option with a value nor a positional word.
pub record Item : Type 0 where
  pub option : List ℕ
  pub value : List ℕ

abbrev pub option_words : List (List ℕ)
option_words = codes "--ref" ∷ codes "--entry" ∷ codes "--worker" ∷ codes "--ticks" ∷ []

abbrev pub is_option : List ℕ → Bool
is_option word = list_any (bytes_eq word) option_words

abbrev pub single_item : List ℕ → Item
single_item word = if is_positional word then record { option = []; value = word } else record { option = word; value = [] }

-- an option takes the next word as its value, whatever that is
abbrev pub items : List (List ℕ) → List Item
items [] = []
items (word ∷ []) = single_item word ∷ []
items (word ∷ next ∷ words) =
    if is_option word then record { option = word; value = next } ∷ items words else single_item word ∷ items (next ∷ words)

-- the values of an option, in their order
abbrev pub values : List ℕ → List Item → List (List ℕ)
values option all = map (λ item. item.value) (filter (λ item. bytes_eq item.option option) all)

-- ---- numbers

-- from -2^63 to 2^64 - 1
abbrev pub is_in_range : ℤ → Bool
is_in_range (pos n) = nat_lt n (2 ^ 64)
is_in_range (negsuc n) = nat_lt n (2 ^ 63)

-- a number that is spelled as it is printed: in decimal, without leading zeros, and with a dash where it is below 0
abbrev pub spelled : List ℕ → ℤ → Option ℤ
spelled word number = if bytes_eq (signed_decimal number) word && is_in_range number then Some number else None

abbrev pub number_of : List ℕ → Option ℤ
number_of word = spelled word (signed_digits_value 10 word)

-- ---- values

-- what h gives of each, where it gives something of each
abbrev pub each_of : {X Y : Type 0} → (X → Option Y) → List X → Option (List Y)
each_of h [] = Some []
each_of h (x ∷ xs) = option_and_then (λ y. option_map (λ ys. y ∷ ys) (each_of h xs)) (h x)

-- a byte before the first of some parts
abbrev pub before_first_part : ℕ → List (List ℕ) → List (List ℕ)
before_first_part b [] = (b ∷ []) ∷ []
before_first_part b (part ∷ parts) = (b ∷ part) ∷ parts

-- the parts between commas
abbrev pub parts : List ℕ → List (List ℕ)
parts [] = [] ∷ []
parts (b ∷ text) = if b == 0x2C then [] ∷ parts text else before_first_part b (parts text)

-- the arguments of a worker: a dash for none, or numbers between commas
abbrev pub arguments_of : List ℕ → Option (List ℤ)
arguments_of value = if bytes_eq value (codes "-") then Some [] else each_of number_of (parts value)

-- the most workers
abbrev pub most_workers : ℕ
most_workers = 16

-- without the option there is one worker, with no arguments
abbrev pub workers_of : List (List ℕ) → Option (List (List ℤ))
workers_of [] = Some ([] ∷ [])
workers_of given = if nat_le (length given) most_workers then each_of arguments_of given else None

abbrev pub ticks_in_range : ℤ → Option ℕ
ticks_in_range (pos n) = if nat_lt n (2 ^ 40) then Some n else None
ticks_in_range (negsuc n) = None

-- at most one number of ticks, and without the option 1,000,000,000
abbrev pub ticks_of : List (List ℕ) → Option ℕ
ticks_of [] = Some 1000000000
ticks_of (value ∷ []) = option_and_then ticks_in_range (number_of value)
ticks_of _ = None

-- a byte before the name of a type
abbrev pub with_byte : ℕ → Entry → Entry
with_byte b entry = record { type_name = b ∷ entry.type_name; method = entry.method }

-- the entry whose method follows these two bytes, where they are `::`
abbrev pub after_colons : ℕ → List ℕ → Option Entry
after_colons b [] = None
after_colons b (c ∷ method) = if b == 0x3A && c == 0x3A then Some (record { type_name = []; method = method }) else None

-- what is before the last `::` and after it
abbrev pub split_entry : List ℕ → Option Entry
split_entry [] = None
split_entry (b ∷ text) = option_or (option_map (with_byte b) (split_entry text)) (after_colons b text)

-- at most one entry
abbrev pub entry_of : List (List ℕ) → Option (Option Entry)
entry_of [] = Some None
entry_of (value ∷ []) = option_map (λ entry. Some entry) (split_entry value)
entry_of _ = None

abbrev pub only : List (List ℕ) → Option (List ℕ)
only (word ∷ []) = Some word
only _ = None

-- ---- the command

-- each part that is asked for, where each is there
abbrev pub asked : Option (List ℕ) → List (List ℕ) → Option (Option Entry) → Option (List (List ℤ)) → Option ℕ → Option Run
asked (Some image) refs (Some entry) (Some workers) (Some ticks) =
    Some (record { image = image; refs = refs; entry = entry; workers = workers; ticks = ticks })
asked _ _ _ _ _ = None

-- an item has a value
abbrev pub is_given : Item → Bool
is_given item = not (length item.value == 0)

-- one positional word, and the options by their names, in any order; no value is empty
abbrev pub run_of_items : List Item → Option Run
run_of_items all =
    asked (only (values [] all)) (values (codes "--ref") all) (entry_of (values (codes "--entry") all))
    (workers_of (values (codes "--worker") all)) (ticks_of (values (codes "--ticks") all))

abbrev pub run_of : List (List ℕ) → Option Run
run_of words = if list_all is_given (items words) then run_of_items (items words) else None
