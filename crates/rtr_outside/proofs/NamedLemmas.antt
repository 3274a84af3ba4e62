-- The files of a list by their names, as the finite map of that list.
use Rattle.std.proofs.Common.{◌≡◌, ℕ, ◌≢◌, Bool, true, false, cond, List, [], ◌∷◌, ◌++◌, map, position, get_or, Option}
use Rattle.std.proofs.Common.{Some, None, Vec, Result, Ok, Err, is_ok, OnOk, if◌then◌else◌, string_bytes, vec_items}
use Rattle.std.proofs.Common.{refl, ap, sym, ◌∙◌}
use Rattle.std.proofs.Math.ListN.{set}
use Rattle.std.proofs.lemmas.Option.{cond_some, slice_get_past, slice_get-get_or}
use Rattle.std.proofs.lemmas.Bool.{ltb-false}
use Rattle.std.proofs.lemmas.List.Quantifiers.{position-Some}
use Rattle.std.proofs.lemmas.List.Folds.{find_at, find-set, find_past}
use Rattle.std.proofs.lemmas.List.{map-append}
use Rattle.std.proofs.lemmas.Slice.Eq.{bytes_eq-Decides}
use Rattle.std.specs.Ordering.{nat_cmp, eq_by_cmp}
use Rattle.std.specs.Cmp.Lexicographic.{slice_cmp, nat_list_cmp_total, texts_ties}
use Rattle.std.specs.Option.{option_map}
use Rattle.std.specs.List.{find, position_or_len, slice_get}
use Rattle.std.specs.Global.{Global}
use Rattle.std.specs.Str.{bytes_eq}
use Rattle.std.specs.FinMap as maps
use Rattle.rtr_outside.specs.Named.{FileMap, File, bytes_of, with_file, file_map, is_named}

abbrev bytes_in : File → List ℕ
bytes_in file = vec_items file.1

abbrev entry_of : File → (List ℕ × List ℕ)
entry_of file = (string_bytes file.0, vec_items file.1)

same_choice : {A B : Type 0} (f : A → B) (a b : Bool) (x : A) (r : Option B) (o : Option A) → a ≡ b → r ≡ option_map f o
    → cond b (Some (f x)) r ≡ option_map f (cond a (Some x) o)
same_choice f true true x r o e h = refl
same_choice f true false x r o e h = absurd (let none : ⊥ = cc in none)
same_choice f false true x r o e h = absurd (let none : ⊥ = cc in none)
same_choice f false false x r o e h = h

find-map : (name : List ℕ) (xs : List File) → maps.find (slice_cmp nat_cmp) name (map entry_of xs) ≡ option_map bytes_in
    (find (is_named name) xs)
find-map name [] = refl
find-map name (x ∷ xs) =
    same_choice bytes_in (is_named name x) (eq_by_cmp (slice_cmp nat_cmp) name (string_bytes x.0)) x _ (find (is_named name) xs)
    (texts_ties name (string_bytes x.0)) (find-map name xs)

-- the map of a list answers with the first file of a name
get-file_map : (name : List ℕ) (xs : List File) → bytes_of (file_map xs) name ≡ option_map bytes_in (find (is_named name) xs)
get-file_map name xs = maps.get-from_entries nat_list_cmp_total (map entry_of xs) name ∙ find-map name xs

-- a first place that passes, and none
first_place : {X : Type 0} (p : X → Bool) (xs : List X) (at : ℕ) → position p xs ≡ Some at → at ≡ position_or_len p xs
first_place p xs at is = sym (cond_some _ _ _ is).1

false_unless : (b : Bool) → (b ≡ true → ⊥) → b ≡ false
false_unless true h = absurd (h refl)
false_unless false h = refl

no_place : (b : Bool) (n : ℕ) → cond b (Some n) None ≡ None → b ≡ false
no_place true n is = absurd (let none : ⊥ = cc in none)
no_place false n is = refl

find_none : {X : Type 0} (p : X → Bool) (xs : List X) → position p xs ≡ None → find p xs ≡ None
find_none p xs is = find_at p xs ∙ slice_get_past xs (position_or_len p xs) (ltb-false _ _ (no_place _ _ is))

find_some : {X : Type 0} (p : X → Bool) (xs : List X) (at : ℕ) (d : X) → position p xs ≡ Some at → find p xs ≡ Some (get_or xs at d)
find_some p xs at d is =
    find_at p xs ∙ ap (slice_get xs) (sym (first_place p xs at is)) ∙ slice_get-get_or xs at d (position-Some p xs at d is).0

pub get_missing : (name : List ℕ) (xs : List File) → position (is_named name) xs ≡ None → bytes_of (file_map xs) name ≡ None
get_missing name xs is = get-file_map name xs ∙ ap (option_map bytes_in) (find_none (is_named name) xs is)

pub get_at : (name : List ℕ) (xs : List File) (at : ℕ) (d : File) → position (is_named name) xs ≡ Some at
    → bytes_of (file_map xs) name ≡ Some (vec_items (get_or xs at d).1)
get_at name xs at d is = get-file_map name xs ∙ ap (option_map bytes_in) (find_some (is_named name) xs at d is)

-- ---- a file that has other bytes

-- a place keeps its name, and answers with its new bytes
found_after : (q name : List ℕ) (xs : List File) (at : ℕ) (old file : File) → position (is_named name) xs ≡ Some at
    → string_bytes file.0 ≡ string_bytes (get_or xs at old).0
    → (b : Bool) → bytes_eq q name ≡ b → option_map bytes_in (find (is_named q) (set xs at file)) ≡ cond b (Some (bytes_in file))
    (option_map bytes_in (find (is_named q) xs))
found_after q name xs at old file is same true e =
    let q_is : q ≡ name = (bytes_eq-Decides q name).0 e in
    let place = position-Some (is_named name) xs at old is in
    let passes : is_named q file ≡ true = ap (λ n. bytes_eq n (string_bytes file.0)) q_is ∙ ap (bytes_eq name) same ∙ place.1 in
    let first : at ≡ position_or_len (is_named q) xs = first_place (is_named name) xs at is
    ∙ ap (λ n. position_or_len (is_named n) xs) (sym q_is) in
    ap (option_map bytes_in) (find-set (is_named q) xs at file first place.0 passes)
found_after q name xs at old file is same false e =
    let place = position-Some (is_named name) xs at old is in
    let held : name ≡ string_bytes (get_or xs at old).0 = (bytes_eq-Decides name (string_bytes (get_or xs at old).0)).0 place.1 in
    let old_fails : is_named q (get_or xs at old) ≡ false = ap (bytes_eq q) (sym held) ∙ e in
    let new_fails : is_named q file ≡ false = ap (bytes_eq q) same ∙ old_fails in
    ap (option_map bytes_in) (find_past (is_named q) xs at file old old_fails new_fails)

same_maps : (m n : FileMap) → ((q : List ℕ) → bytes_of m q ≡ bytes_of n q) → m ≡ n
same_maps m n = maps.same_map nat_list_cmp_total (maps.slice_cmp-IsAntisymmetric maps.nat_cmp-IsAntisymmetric) m n

pub file_map-set : (name : List ℕ) (xs : List File) (at : ℕ) (old : File) (bytes : Vec ℕ Global)
    → position (is_named name) xs ≡ Some at → old ≡ get_or xs at old
    → file_map (set xs at (old.0, bytes)) ≡ with_file (file_map xs) name (vec_items bytes)
file_map-set name xs at old bytes is held = same_maps _ _ (λ q.
    get-file_map q (set xs at (old.0, bytes))
    ∙ found_after q name xs at old (old.0, bytes) is (ap (λ file. string_bytes file.0) held) _ (texts_ties q name)
    ∙ ap (cond (eq_by_cmp (slice_cmp nat_cmp) q name) (Some (vec_items bytes))) (sym (get-file_map q xs))
    ∙ sym (maps.get-insert nat_list_cmp_total (file_map xs) name (vec_items bytes) q))

-- a new name
pub file_map_push : (xs : List File) (file : File) → position (is_named (string_bytes file.0)) xs ≡ None
    → file_map (xs ++ file ∷ []) ≡ with_file (file_map xs) (string_bytes file.0) (bytes_in file)
file_map_push xs file is =
    ap maps.from_entries (map-append entry_of xs (file ∷ []))
    ∙ maps.from_entries_push nat_list_cmp_total (maps.slice_cmp-IsAntisymmetric maps.nat_cmp-IsAntisymmetric) (map entry_of xs)
    (string_bytes file.0) (bytes_in file)
    (find-map (string_bytes file.0) xs ∙ ap (option_map bytes_in) (find_none (is_named (string_bytes file.0)) xs is))

-- ---- what the files answer afterwards

eq_by_name : (q name : List ℕ) (b : Bool) → bytes_eq q name ≡ b → eq_by_cmp (slice_cmp nat_cmp) q name ≡ b
eq_by_name q name b e = sym (texts_ties q name) ∙ e

pub bytes_of-with_file : (files : FileMap) (name bytes : List ℕ) → bytes_of (with_file files name bytes) name ≡ Some bytes
bytes_of-with_file files name bytes =
    maps.get-insert nat_list_cmp_total files name bytes name
    ∙ ap (λ b. cond b (Some bytes) (bytes_of files name)) (eq_by_name name name true ((bytes_eq-Decides name name).1 refl))

pub bytes_of-with_file_other : (files : FileMap) (name bytes other : List ℕ) → other ≢ name
    → bytes_of (with_file files name bytes) other ≡ bytes_of files other
bytes_of-with_file_other files name bytes other apart =
    maps.get-insert nat_list_cmp_total files name bytes other
    ∙ ap (λ b. cond b (Some bytes) (bytes_of files other))
    (eq_by_name other name false (false_unless (bytes_eq other name) (λ e. apart ((bytes_eq-Decides other name).0 e))))

-- the same where a call wrote on success alone
abbrev written_files : {T E : Type 0} → Result T E → FileMap → List ℕ → List ℕ → FileMap
written_files result files name bytes = if is_ok result then with_file files name bytes else files

pub bytes_of-written : {T E : Type 0} (result : Result T E) (files : FileMap) (name bytes : List ℕ)
    → OnOk result (bytes_of (written_files result files name bytes) name ≡ Some bytes)
bytes_of-written (Ok x) files name bytes = bytes_of-with_file files name bytes
bytes_of-written (Err e) files name bytes = tt

pub bytes_of-written_other : {T E : Type 0} (result : Result T E) (files : FileMap) (name bytes other : List ℕ) → other ≢ name
    → bytes_of (written_files result files name bytes) other ≡ bytes_of files other
bytes_of-written_other (Ok x) files name bytes other apart = bytes_of-with_file_other files name bytes other apart
bytes_of-written_other (Err e) files name bytes other apart = refl
