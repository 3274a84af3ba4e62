-- Lines of rows, one after the other: what was printed, and the lines of the rows that are left, are all.
use Rattle.std.proofs.Common.{◌≡◌, ℕ, suc, ◌+◌, ◌-◌, ◌<◌, ◌≤◌, List, [], ◌∷◌, ◌++◌, sym, ap, ◌∙◌, append_assoc, append-nil, arith}
use Rattle.std.specs.List.{flat_map, range_with_len}
use Rattle.cli_assembly.specs.Assemblies.{rows_between}

left_more : (row end : ℕ) → row < end → rows_between row end ≡ row ∷ rows_between (row + 1) end
left_more row end lt =
    let n : end - row ≡ suc (end - (row + 1)) = omega (arith, lt) in
    ap (λ (k : ℕ). range_with_len row k) n

left_none : (row end : ℕ) → end ≤ row → rows_between row end ≡ []
left_none row end le =
    let n : end - row ≡ 0 = omega (arith, le) in
    ap (λ (k : ℕ). range_with_len row k) n

pub listed-more : (line : ℕ → List ℕ) (row end : ℕ) (old now all : List ℕ) → row < end
    → now ≡ old ++ line row → old ++ flat_map line (rows_between row end) ≡ all
    → now ++ flat_map line (rows_between (row + 1) end) ≡ all
listed-more line row end old now all lt e whole =
    rw (e, append_assoc) (ap (λ (rows : List ℕ). old ++ flat_map line rows) (sym (left_more row end lt)) ∙ whole)

pub listed-end : (line : ℕ → List ℕ) (row end : ℕ) (old all : List ℕ) → end ≤ row
    → old ++ flat_map line (rows_between row end) ≡ all → old ≡ all
listed-end line row end old all le whole =
    sym (append-nil old) ∙ ap (λ (rows : List ℕ). old ++ flat_map line rows) (sym (left_none row end le)) ∙ whole

-- the rows of a table
pub all_rows : (end count : ℕ) → end ≡ count + 1 → rows_between 1 end ≡ range_with_len 1 count
all_rows end count e =
    let n : end - 1 ≡ count = omega (arith, e) in
    ap (λ (k : ℕ). range_with_len 1 k) n
