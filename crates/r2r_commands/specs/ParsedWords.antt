-- The words of `run` as the parser has them, and how a proof stores what they ask for.
use Rattle.std.specs.Prelude.{ℕ, List, [], ◌∷◌, Option, ℤ, refl}
use Rattle.std.specs.Coded.{Coded, code_by, coded×, coded_ℕ, coded_ℤ, coded_list, coded_option}
use Rattle.r2r_commands.specs.declared.run_words.Item.{Item as ParsedItem}
use Rattle.r2r_commands.specs.declared.run_words.Single.{Single as ParsedSingle}
use Rattle.r2r_commands.specs.declared.run_words.Single.TheVariants as parsed
use Rattle.r2r_commands.specs.RunWords.{Entry, Item, Run}

abbrev pub item_meaning : ParsedItem → Item
item_meaning item = record { option = item.option.now; value = item.value.now }

-- the values of an option, where there is at most one
pub data Single : Type 0 where
  Absent : Single
  One : List ℕ → Single
  More : Single

abbrev pub single_of : List (List ℕ) → Single
single_of [] = Absent
single_of (value ∷ []) = One value
single_of _ = More

abbrev pub single_meaning : ParsedSingle → Single
single_meaning parsed.None = Absent
single_meaning (parsed.One value) = One value.now
single_meaning parsed.More = More

-- ---- how a proof stores it

abbrev pub entry_code : Coded Entry
entry_code =
    code_by (List ℕ × List ℕ) (coded× (coded_list coded_ℕ) (coded_list coded_ℕ)) (λ e. (e.type_name, e.method))
    (λ p. record { type_name = p.0; method = p.1 }) (λ _. refl)

abbrev pub Parts : Type 0
Parts = (List ℕ × List (List ℕ)) × (Option Entry × (List (List ℤ) × ℕ))

abbrev pub parts_code : Coded Parts
parts_code =
    coded× (coded× (coded_list coded_ℕ) (coded_list (coded_list coded_ℕ)))
    (coded× (coded_option entry_code) (coded× (coded_list (coded_list coded_ℤ)) coded_ℕ))

abbrev pub run_code : Coded Run
run_code =
    code_by Parts parts_code (λ r. ((r.image, r.refs), (r.entry, (r.workers, r.ticks))))
    (λ p. record { image = p.0.0; refs = p.0.1; entry = p.1.0; workers = p.1.1.0; ticks = p.1.1.1 }) (λ _. refl)
