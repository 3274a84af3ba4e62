-- Names of the assemblies of a world that is made of files.
use Rattle.std.proofs.Common.{◌≡◌, ℕ, zero, suc, ◌+◌, ◌-◌, ◌<◌, ◌≤◌, Bool, true, false, List, [], ◌∷◌, length}
use Rattle.std.proofs.Common.{get_or, find, Option, Some, None, sym, ap, ◌∙◌, subst, arith, cond}
use Rattle.std.proofs.lemmas.List.{length-map}
use Rattle.std.specs.Option.{option_map_or}
use Rattle.std.specs.List.{range_with_len}
use Rattle.std.specs.Str.{bytes_eq}
use Rattle.cli_assembly.specs.Assemblies.{assembly_name, assembly_of}
use Rattle.type_world.specs.World.{IsWorld, World, assembly_in, duplicate_from, earlier_name, first_duplicate, name_in}
use Rattle.type_world.specs.Loading.{world_of}

pub assembly_is : (files : List (List ℕ)) (i : ℕ) (file : List ℕ) → i < length files → file ≡ get_or files i file
    → assembly_in (world_of files) i ≡ assembly_of file
unfolding assembly_in world_of
assembly_is [] i file l e = absurd (omega arith)
assembly_is (f ∷ files) zero file l e = ap assembly_of (sym e)
assembly_is (f ∷ files) (suc i) file l e = assembly_is files i file (omega arith) e

pub name_is : (files : List (List ℕ)) (i : ℕ) (file name : List ℕ) → i < length files → file ≡ get_or files i file
    → Some name ≡ assembly_name (assembly_of file) → name_in (world_of files) i ≡ name
unfolding name_in
name_is files i file name l e n =
    ap (λ a. option_map_or (λ x. x) (assembly_name a) []) (assembly_is files i file l e) ∙ ap (λ o. option_map_or (λ x. x) o []) (sym n)

pub names_are : (files : List (List ℕ)) (i j : ℕ) (file other name there : List ℕ) (b : Bool) → i < length files
    → j < length files → file ≡ get_or files i file → other ≡ get_or files j other
    → Some name ≡ assembly_name (assembly_of file) → Some there ≡ assembly_name (assembly_of other)
    → b ≡ bytes_eq there name → b ≡ bytes_eq (name_in (world_of files) j) (name_in (world_of files) i)
names_are files i j file other name there b l m e f n o h =
    h ∙ ap (λ x. bytes_eq x name) (sym (name_is files j other there m f o))
    ∙ ap (bytes_eq (name_in (world_of files) j)) (sym (name_is files i file name l e n))

-- ---- the first pair

pub rest_of : (p : ℕ → Bool) (i j : ℕ) → i < j → p i ≡ false
    → find p (range_with_len i (j - i)) ≡ find p (range_with_len (i + 1) (j - (i + 1)))
rest_of p i j l e =
    let more : j - i ≡ suc (j - (i + 1)) = omega arith in
    ap (λ n. find p (range_with_len i n)) more ∙ ap (λ b. cond b (Some i) (find p (range_with_len (i + 1) (j - (i + 1))))) e

pub found_at : (p : ℕ → Bool) (i j : ℕ) → i < j → p i ≡ true → find p (range_with_len i (j - i)) ≡ Some i
found_at p i j l e =
    let more : j - i ≡ suc (j - (i + 1)) = omega arith in
    ap (λ n. find p (range_with_len i n)) more ∙ ap (λ b. cond b (Some i) (find p (range_with_len (i + 1) (j - (i + 1))))) e

pub count_is : (files : List (List ℕ)) → length (world_of files) ≡ length files
unfolding world_of
count_is files = length-map files assembly_of

pub from_start : (files : List (List ℕ)) → first_duplicate (world_of files) ≡ duplicate_from (world_of files) 0 (length files - 0)
unfolding first_duplicate
from_start files = let whole : length (world_of files) ≡ length files - 0 =
    count_is files ∙ omega arith in ap (duplicate_from (world_of files) 0) whole

pub pair_later : (world : World) (j n : ℕ) → j < n → earlier_name world j ≡ None
    → duplicate_from world j (n - j) ≡ duplicate_from world (j + 1) (n - (j + 1))
pair_later world j n l e =
    let more : n - j ≡ suc (n - (j + 1)) = omega arith in
    ap (duplicate_from world j) more ∙ ap (λ o. option_map_or (λ i. Some (i, j)) o (duplicate_from world (j + 1) (n - (j + 1)))) e

pub pair_here : (world : World) (i j n : ℕ) → j < n → earlier_name world j ≡ Some i → duplicate_from world j (n - j) ≡ Some (i, j)
pair_here world i j n l e =
    let more : n - j ≡ suc (n - (j + 1)) = omega arith in
    ap (duplicate_from world j) more ∙ ap (λ o. option_map_or (λ i. Some (i, j)) o (duplicate_from world (j + 1) (n - (j + 1)))) e

pub world_is : (files : List (List ℕ)) → 0 < length files → length files ≤ 64 → first_duplicate (world_of files) ≡ None
    → IsWorld (world_of files)
world_is files some few distinct = let count =
    count_is files in record { some = omega (arith, some, count); few = omega (arith, few, count); distinct = distinct }

pub made_world : (files read : List (List ℕ)) (count len : ℕ) (found : Option (ℕ × ℕ)) → read ≡ files → 0 < length files
    → length read ≡ len → count ≡ len → count ≤ 64 → found ≡ first_duplicate (world_of read) → found ≡ None → IsWorld (world_of files)
made_world files read count len found same some long counted few first none =
    let read_some : 0 < length read = subst (λ x. 0 < length x) (sym same) some in
    subst (λ x. IsWorld (world_of x)) same (world_is read read_some (omega (arith, long, counted, few)) (sym first ∙ none))
