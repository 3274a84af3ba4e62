-- Full names of types.
use Rattle.std.proofs.Common.{◌≡◌, ◌≢◌, ℕ, zero, suc, ◌+◌, ◌-◌, ◌<◌, ◌&&◌, ◌==◌, Bool, true, false, List, [], ◌∷◌, ◌++◌}
use Rattle.std.proofs.Common.{length, codes, find, filter, is_some, get_or, take, drop, take-append-drop, Bor}
use Rattle.std.proofs.Common.{unwrap_or, option_copied, slice_get, Option, Some, None, refl, sym, ap, ◌∙◌, subst, arith}
use Rattle.std.proofs.Common.{cond, eq-eqb, eqb-true}
use Rattle.std.specs.Option.{option_map_or}
use Rattle.std.specs.List.{range_with_len}
use Rattle.std.specs.Str.{bytes_eq}
use Rattle.metadata.specs.declared.schema.Table.{Table}
use Rattle.cli_assembly.specs.Assemblies.{assembly_of, column, methods_of, string_at}
use Rattle.type_world.specs.World.{assembly_in, text_at}
use Rattle.type_world.specs.Loading.{world_of}
use Rattle.type_world.specs.Entries.{dotted}
use Rattle.type_world.proofs.Bound.{both_left, both_right}
use Rattle.type_world.proofs.Names.{assembly_is, count_is}
use Rattle.std.proofs.lemmas.Option.{get_or_from_slice_get, slice_get_within}

same_front : (ns xs ys : List ℕ) → bytes_eq (ns ++ xs) (ns ++ ys) ≡ bytes_eq xs ys
same_front [] xs ys = refl
same_front (n ∷ ns) xs ys = ap (λ b. b && bytes_eq (ns ++ xs) (ns ++ ys)) (eq-eqb n n refl) ∙ same_front ns xs ys

pub dotted_rest : (text ns name rest : List ℕ) (b : Bool) → ns ≢ [] → text ≡ ns ++ rest → b ≡ bytes_eq rest (codes "." ++ name)
    → b ≡ bytes_eq text (dotted ns name)
dotted_rest text [] name rest b some e h = absurd (some refl)
dotted_rest text (n ∷ ns) name rest b some e h =
    h ∙ sym (same_front (n ∷ ns) rest (codes "." ++ name)) ∙ ap (λ t. bytes_eq t ((n ∷ ns) ++ (codes "." ++ name))) (sym e)

pub bytes_are : (xs ys : List ℕ) → bytes_eq xs ys ≡ true → xs ≡ ys
bytes_are [] [] e = refl
bytes_are [] (y ∷ ys) e = absurd (cc)
bytes_are (x ∷ xs) [] e = absurd (cc)
bytes_are (x ∷ xs) (y ∷ ys) e =
    ap (λ n. n ∷ xs) (eqb-true x y (both_left (x == y) (bytes_eq xs ys) e))
    ∙ ap (λ l. y ∷ l) (bytes_are xs ys (both_right (x == y) (bytes_eq xs ys) e))

pub not_dotted : (text ns name : List ℕ) → ns ≢ [] → ((rest : List ℕ) → text ≢ ns ++ rest) → false ≡ bytes_eq text (dotted ns name)
not_dotted text [] name some h = absurd (some refl)
not_dotted text (n ∷ ns) name some h = by_test (bytes_eq text ((n ∷ ns) ++ (codes "." ++ name))) refl
  where
    by_test : (b : Bool) → bytes_eq text ((n ∷ ns) ++ (codes "." ++ name)) ≡ b → false ≡ b
    by_test true q = absurd (h (codes "." ++ name) (bytes_are text ((n ∷ ns) ++ (codes "." ++ name)) q))
    by_test false q = refl

-- ---- texts of columns

pub text_none : (files : List (List ℕ)) (asm : ℕ) (table : Table) (row n : ℕ) → slice_get files asm ≡ None
    → text_at (assembly_in (world_of files) asm) table row n ≡ []
unfolding assembly_in world_of text_at column string_at
text_none [] asm table zero n e = refl
text_none [] asm table (suc row) n e = refl
text_none (file ∷ files) zero table row n e = absurd (cc)
text_none (file ∷ files) (suc asm) table row n e = text_none files asm table row n e

pub text_some : (files : List (List ℕ)) (asm : ℕ) (file : List ℕ) (table : Table) (row n at : ℕ) (o : Option (List ℕ))
    → slice_get files asm ≡ Some file → at ≡ column (assembly_of file) table row n → o ≡ string_at (assembly_of file) at
    → text_at (assembly_in (world_of files) asm) table row n ≡ option_map_or (λ t. t) o []
unfolding text_at
text_some files asm file table row n at o e a s =
    ap (λ x. option_map_or (λ t. t) (string_at x (column x table row n)) [])
    (assembly_is files asm file (slice_get_within files asm file e) (sym (get_or_from_slice_get files asm file file e)))
    ∙ ap (λ k. option_map_or (λ t. t) (string_at (assembly_of file) k) []) (sym a)
    ∙ ap (λ x. option_map_or (λ t. t) x []) (sym s)

-- ---- the first row that passes

pub row_passed : (p : ℕ → Bool) (i n : ℕ) → i < n → p (i + 1) ≡ false
    → find p (range_with_len (i + 1) (n - i)) ≡ find p (range_with_len (i + 1 + 1) (n - (i + 1)))
row_passed p i n l e =
    let more : n - i ≡ suc (n - (i + 1)) = omega arith in
    ap (λ k. find p (range_with_len (i + 1) k)) more ∙ ap (λ b. cond b (Some (i + 1)) (find p (range_with_len (i + 1 + 1) (n - (i + 1))))) e

-- ---- a text that begins with a namespace

pub split_is : (text ns rest : List ℕ) → bytes_eq (take (length ns) text) ns ≡ true → rest ≡ drop (length ns) text → text ≡ ns ++ rest
split_is text ns rest e d =
    sym (take-append-drop (length ns) text)
    ∙ ap (λ front. front ++ drop (length ns) text) (bytes_are (take (length ns) text) ns e) ∙ ap (λ r. ns ++ r) (sym d)

front_is : (ns rest : List ℕ) → bytes_eq (take (length ns) (ns ++ rest)) ns ≡ true
front_is [] rest = refl
front_is (n ∷ ns) rest = ap (λ b. b && bytes_eq (take (length ns) (ns ++ rest)) ns) (eq-eqb n n refl) ∙ front_is ns rest

pub no_split : (text ns : List ℕ) → bytes_eq (take (length ns) text) ns ≡ false → (rest : List ℕ) → text ≢ ns ++ rest
no_split text ns e rest same =
    let front : bytes_eq (take (length ns) text) ns ≡ true =
    subst (λ t. bytes_eq (take (length ns) t) ns ≡ true) (sym same) (front_is ns rest) in
    cc

pub not_empty : (b : Bool) (ns : List ℕ) → b ≡ false → b ≡ (length ns == 0) → ns ≢ []
not_empty b ns f h none =
    let yes_ : (length ns == 0) ≡ true = eq-eqb (length ns) 0 (ap length none) in
    cc

pub text_unwrapped : (o : Option (Bor (List ℕ))) (r x : Bor (List ℕ)) → x ≡ unwrap_or o r → r.now ≡ []
    → x.now ≡ option_map_or (λ t. t) (option_copied o) []
text_unwrapped None r x e n = ap (λ y. y.now) e ∙ n
text_unwrapped (Some y) r x e n = ap (λ z. z.now) e

-- ---- the one row that passes

abbrev pub with_found : Option ℕ → List ℕ → List ℕ
with_found None rest = rest
with_found (Some row) rest = row ∷ rest

pub string_some : (files : List (List ℕ)) (at : ℕ) (file : List ℕ) → slice_get files 0 ≡ Some file
    → string_at (assembly_in (world_of files) 0) at ≡ string_at (assembly_of file) at
string_some files at file e =
    ap (λ a. string_at a at) (assembly_is files 0 file (slice_get_within files 0 file e) (sym (get_or_from_slice_get files 0 file file e)))

pub next_row : (p : ℕ → Bool) (i n : ℕ) → i < n
    → filter p (range_with_len i (n - i))
    ≡ cond (p i) (i ∷ filter p (range_with_len (i + 1) (n - (i + 1)))) (filter p (range_with_len (i + 1) (n - (i + 1))))
next_row p i n l = let more : n - i ≡ suc (n - (i + 1)) = omega arith in ap (λ k. filter p (range_with_len i k)) more

pub some_first : (files : List (List ℕ)) → 0 < length (world_of files) → 0 < length files
some_first files some = let count = count_is files in omega (arith, some, count)

pub first_is : (files : List (List ℕ)) (file : List ℕ) → 0 < length files → file ≡ get_or files 0 file → Some file ≡ slice_get files 0
first_is [] file l e = absurd (omega arith)
first_is (f ∷ files) file l e = ap Some e

pub first_inside : (files read : List (List ℕ)) → read ≡ files → 0 < length (world_of files) → 0 < length read
first_inside files read same some = let l = some_first files some in let n : length read ≡ length files =
    ap length same in omega (arith, l, n)

pub first_of : (files read : List (List ℕ)) (file : List ℕ) → read ≡ files → 0 < length (world_of files)
    → file ≡ get_or read 0 file → Some file ≡ slice_get files 0
first_of files read file same some e = first_is files file (some_first files some) (e ∙ ap (λ fs. get_or fs 0 file) same)

pub row_kept : (p : ℕ → Bool) (before now : Option ℕ) (all : List ℕ) (i n : ℕ) → i < n
    → all ≡ with_found before (filter p (range_with_len i (n - i))) → p i ≡ true → is_some before ≡ false → now ≡ Some i
    → all ≡ with_found now (filter p (range_with_len (i + 1) (n - (i + 1))))
row_kept p None now all i n l e t none same =
    e ∙ next_row p i n l ∙ ap (λ b. cond b (i ∷ filter p (range_with_len (i + 1) (n - (i + 1))))
    (filter p (range_with_len (i + 1) (n - (i + 1))))) t
    ∙ ap (λ o. with_found o (filter p (range_with_len (i + 1) (n - (i + 1))))) (sym same)
row_kept p (Some row) now all i n l e t none same = absurd (cc)

pub row_left : (p : ℕ → Bool) (before now : Option ℕ) (all : List ℕ) (i n : ℕ) → i < n
    → all ≡ with_found before (filter p (range_with_len i (n - i))) → p i ≡ false → now ≡ before
    → all ≡ with_found now (filter p (range_with_len (i + 1) (n - (i + 1))))
row_left p before now all i n l e t same =
    e ∙ ap (with_found before)
    (next_row p i n l ∙ ap (λ b. cond b (i ∷ filter p (range_with_len (i + 1) (n - (i + 1))))
    (filter p (range_with_len (i + 1) (n - (i + 1))))) t)
    ∙ ap (λ o. with_found o (filter p (range_with_len (i + 1) (n - (i + 1))))) (sym same)

pub methods_are : (files : List (List ℕ)) (file : List ℕ) (class : ℕ) → slice_get files 0 ≡ Some file
    → methods_of (assembly_in (world_of files) 0) class ≡ methods_of (assembly_of file) class
methods_are files file class e =
    ap (λ a. methods_of a class)
    (assembly_is files 0 file (slice_get_within files 0 file e) (sym (get_or_from_slice_get files 0 file file e)))
