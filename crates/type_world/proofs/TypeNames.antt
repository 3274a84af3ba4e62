-- Rows of TypeDef by their names.
use Rattle.std.proofs.Common.{◌≡◌, ℕ, zero, suc, ◌+◌, ◌-◌, ◌<◌, ◌||◌, ◌==◌, Bool, false, List, [], ◌∷◌}
use Rattle.std.proofs.Common.{slice_get, Option, Some, None, refl, sym, ap, ◌∙◌, arith, ne_eqb}
use Rattle.std.specs.List.{list_any, range_with_len}
use Rattle.std.specs.Str.{bytes_eq}
use Rattle.std.proofs.lemmas.Option.{get_or_from_slice_get, slice_get_within}
use Rattle.metadata.specs.declared.schema.Table.{Table}
use Rattle.cli_assembly.specs.Assemblies.{assembly_of, column, string_at}
use Rattle.type_world.specs.Loading.{world_of}
use Rattle.type_world.specs.World.{assembly_in, has_text, is_text}
use Rattle.type_world.proofs.Names.{assembly_is}

pub row_not_any : (p : ℕ → Bool) (i n : ℕ) → i < n → p (i + 1) ≡ false
    → list_any p (range_with_len (i + 1) (n - i)) ≡ list_any p (range_with_len (i + 1 + 1) (n - (i + 1)))
row_not_any p i n l e =
    let more : n - i ≡ suc (n - (i + 1)) = omega arith in
    ap (λ k. list_any p (range_with_len (i + 1) k)) more
    ∙ ap (λ b. b || list_any p (range_with_len (i + 1 + 1) (n - (i + 1)))) e

pub not_equal : (a b found : ℕ) → found ≡ a → (found ≡ b → ⊥) → (a == b) ≡ false
not_equal a b found e differ = ne_eqb a b (λ q. differ (e ∙ q))

pub has_text_none : (files : List (List ℕ)) (asm : ℕ) (table : Table) (row n : ℕ) (text : List ℕ) → slice_get files asm ≡ None
    → bytes_eq text [] ≡ has_text (assembly_in (world_of files) asm) table row n text
unfolding assembly_in world_of has_text column string_at
has_text_none [] asm table zero n text e = refl
has_text_none [] asm table (suc row) n text e = refl
has_text_none (file ∷ files) zero table row n text e = absurd (cc)
has_text_none (file ∷ files) (suc asm) table row n text e = has_text_none files asm table row n text e

pub has_text_some : (files : List (List ℕ)) (asm : ℕ) (file : List ℕ) (table : Table) (row n at : ℕ) (text : List ℕ)
    (o : Option (List ℕ)) → slice_get files asm ≡ Some file → at ≡ column (assembly_of file) table row n
    → o ≡ string_at (assembly_of file) at → is_text text o ≡ has_text (assembly_in (world_of files) asm) table row n text
unfolding has_text
has_text_some files asm file table row n at text o there a s =
    ap (is_text text) s ∙ ap (λ k. is_text text (string_at (assembly_of file) k)) a
    ∙ ap (λ x. is_text text (string_at x (column x table row n)))
    (sym (assembly_is files asm file (slice_get_within files asm file there) (sym (get_or_from_slice_get files asm file file there))))
