-- Words of `run`, and what they ask for, computed.
use Rattle.std.proofs.Common.{◌≡◌, ℕ, zero, suc, pos, negsuc, List, [], ◌∷◌, codes, Bool, true, false}
use Rattle.std.proofs.Common.{Some, None, is_some, refl}
use Rattle.std.specs.Fmt.{digits}
use Rattle.r2r_commands.specs.RunWords.{number_of, run_of, split_entry}

image_alone : run_of (codes "A" ∷ [])
    ≡ Some (record { image = codes "A"; refs = []; entry = None; workers = [] ∷ []; ticks = 1000000000 })
image_alone = refl

in_any_order : run_of (codes "--ref" ∷ codes "L" ∷ codes "--ticks" ∷ codes "0" ∷ codes "A" ∷ codes "--worker" ∷ codes "1,-2"
    ∷ codes "--entry" ∷ codes "N.C::G" ∷ codes "--worker" ∷ codes "-" ∷ codes "--ref" ∷ codes "M" ∷ [])
    ≡ Some (record {
      image = codes "A";
      refs = codes "L" ∷ codes "M" ∷ [];
      entry = Some (record { type_name = codes "N.C"; method = codes "G" });
      workers = (pos 1 ∷ negsuc 1 ∷ []) ∷ [] ∷ [];
      ticks = 0;
    })
unfolding digits
in_any_order = refl

-- an option takes the next word, whatever it is
takes_an_option : run_of (codes "--ref" ∷ codes "--ticks" ∷ codes "5" ∷ [])
    ≡ Some (record { image = codes "5"; refs = codes "--ticks" ∷ []; entry = None; workers = [] ∷ []; ticks = 1000000000 })
takes_an_option = refl

-- no image, two, an unknown option, one without a value, an empty value, an option twice
no_image : run_of [] ≡ None
no_image = refl

two_images : run_of (codes "A" ∷ codes "B" ∷ []) ≡ None
two_images = refl

unknown_option : run_of (codes "A" ∷ codes "--cells" ∷ []) ≡ None
unknown_option = refl

without_value : run_of (codes "A" ∷ codes "--ref" ∷ []) ≡ None
without_value = refl

empty_value : run_of (codes "A" ∷ codes "--ref" ∷ [] ∷ []) ≡ None
empty_value = refl

twice : run_of (codes "A" ∷ codes "--ticks" ∷ codes "5" ∷ codes "--ticks" ∷ codes "5" ∷ []) ≡ None
unfolding digits
twice = refl

-- the last `::`
last_colons : split_entry (codes "A::B:::C") ≡ Some (record { type_name = codes "A::B:"; method = codes "C" })
last_colons = refl

no_colons : split_entry (codes "A.B:C") ≡ None
no_colons = refl

-- numbers
greatest : number_of (codes "18446744073709551615") ≡ Some (pos 18446744073709551615)
unfolding digits
greatest = refl

above : number_of (codes "18446744073709551616") ≡ None
unfolding digits
above = refl

least : number_of (codes "-9223372036854775808") ≡ Some (negsuc 9223372036854775807)
unfolding digits
least = refl

below : number_of (codes "-9223372036854775809") ≡ None
unfolding digits
below = refl

leading_zero : number_of (codes "01") ≡ None
unfolding digits
leading_zero = refl

minus_zero : number_of (codes "-0") ≡ None
unfolding digits
minus_zero = refl

plus : number_of (codes "+1") ≡ None
unfolding digits
plus = refl

no_digit : number_of [] ≡ None
unfolding digits
no_digit = refl

-- ticks up to 2^40 - 1, and workers up to 16
ticks : List ℕ → Bool
ticks word = is_some (run_of (codes "A" ∷ codes "--ticks" ∷ word ∷ []))

most_ticks : ticks (codes "1099511627775") ≡ true
unfolding ticks digits
most_ticks = refl

too_many_ticks : ticks (codes "1099511627776") ≡ false
unfolding ticks digits
too_many_ticks = refl

abbrev workers : ℕ → List (List ℕ)
workers zero = codes "A" ∷ []
workers (suc n) = codes "--worker" ∷ codes "5" ∷ workers n

most_workers : is_some (run_of (workers 16)) ≡ true
unfolding digits
most_workers = refl

too_many_workers : is_some (run_of (workers 17)) ≡ false
unfolding digits
too_many_workers = refl

bad_worker : run_of (codes "A" ∷ codes "--worker" ∷ codes "1," ∷ []) ≡ None
unfolding digits
bad_worker = refl
