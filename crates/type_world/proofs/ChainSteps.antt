-- What types extend, as it is walked: one step of a chain.
use Rattle.std.proofs.Common.{◌≡◌, ℕ, zero, suc, ◌+◌, ◌-◌, ◌<◌, ◌≤◌, ◌||◌, Bool, true, false, List, [], ◌∷◌, find, slice_get}
use Rattle.std.proofs.Common.{cond, Option, Some, None, refl, sym, ap, ◌∙◌, arith, ◌/◌, ne_eqb}
use Rattle.std.specs.Option.{option_map_or}
use Rattle.std.specs.List.{list_any}
use Rattle.metadata.specs.declared.schema.Table.TheVariants as tables
use Rattle.metadata.specs.declared.schema.CodedKind.TheVariants as kinds
use Rattle.cli_assembly.specs.Assemblies.{assembly_of, coded_token, column}
use Rattle.type_world.specs.declared.base.Base.{Base}
use Rattle.type_world.specs.declared.base.Base.TheVariants.{NoBase, Extends}
use Rattle.type_world.specs.declared.identity.TypeId.{TypeId}
use Rattle.type_world.specs.declared.identity.TypeId.TheVariants as types
use Rattle.type_world.specs.Loading.{world_of}
use Rattle.type_world.specs.Resolution.{base_by_token, base_of, base_of_class, chain_of, chain_within, then_base, type_eq}
use Rattle.type_world.specs.Resolution.{common_base}
use Rattle.type_world.specs.World.{World, assembly_in, rows_of_world}
use Rattle.type_world.proofs.TypeRefs.{at_none, at_some}

-- ---- what a class extends

pub base_there : (files : List (List ℕ)) (asm row extends : ℕ) (file : List ℕ) → slice_get files asm ≡ Some file
    → extends ≡ column (assembly_of file) tables.TypeDef row 3
    → base_of_class (world_of files) asm extends ≡ base_of (world_of files) (types.Class asm row)
unfolding base_of
base_there files asm row extends file there e =
    ap (base_of_class (world_of files) asm) (e ∙ ap (λ a. column a tables.TypeDef row 3) (sym (at_some files asm file there)))

pub base_nowhere : (files : List (List ℕ)) (asm row : ℕ) → slice_get files asm ≡ None
    → NoBase ≡ base_of (world_of files) (types.Class asm row)
unfolding base_of column
base_nowhere files asm zero e = refl
base_nowhere files asm (suc row) e =
    sym (ap (λ a. base_of_class (world_of files) asm (column a tables.TypeDef (suc row) 3)) (at_none files asm e))

pub base_not_null : (files : List (List ℕ)) (asm extends : ℕ) (file : List ℕ) (token : Option ℕ) → slice_get files asm ≡ Some file
    → (extends / 4 ≡ 0 → ⊥) → token ≡ coded_token (assembly_of file) kinds.TypeDefOrRef extends
    → base_by_token (world_of files) asm token ≡ base_of_class (world_of files) asm extends
base_not_null files asm extends file token there some e =
    ap (base_by_token (world_of files) asm) (e ∙ ap (λ a. coded_token a kinds.TypeDefOrRef extends) (sym (at_some files asm file there)))
    ∙ sym (ap (λ b. cond b NoBase
    (base_by_token (world_of files) asm (coded_token (assembly_in (world_of files) asm) kinds.TypeDefOrRef extends)))
    (ne_eqb (extends / 4) 0 some))

-- ---- a step up a chain

module _ (world : World) where
  abbrev pub chain : ℕ → TypeId → List TypeId
  chain n of = chain_within n world of

  abbrev pub in_chain : ℕ → TypeId → TypeId → Bool
  in_chain n of to = list_any (type_eq to) (chain n of)

  abbrev pub next_bases : ℕ → TypeId → List TypeId
  next_bases n of = then_base (chain_within n world) (base_of world of)

  pub in_whole : (of to : TypeId) → list_any (type_eq to) (chain_of world of) ≡ in_chain (rows_of_world world tables.TypeDef + 1 - 0) of to
  in_whole of to =
      let same : rows_of_world world tables.TypeDef + 1 ≡ rows_of_world world tables.TypeDef + 1 - 0 = omega arith in
      ap (λ n. in_chain n of to) same

  fuel : (i n : ℕ) (of : TypeId) → i < n → chain (n - i) of ≡ of ∷ next_bases (n - (i + 1)) of
  unfolding chain_within
  fuel i n of l = let more : n - i ≡ suc (n - (i + 1)) = omega arith in ap (λ k. chain k of) more

  pub here : (i n : ℕ) (of to : TypeId) → i < n → type_eq to of ≡ true → in_chain (n - i) of to ≡ true
  here i n of to l e =
      ap (list_any (type_eq to)) (fuel i n of l) ∙ ap (λ b. b || list_any (type_eq to) (next_bases (n - (i + 1)) of)) e

  pub above : (i n : ℕ) (of to next : TypeId) → i < n → type_eq to of ≡ false → base_of world of ≡ Extends next
      → in_chain (n - i) of to ≡ in_chain (n - (i + 1)) next to
  above i n of to next l e b =
      ap (list_any (type_eq to)) (fuel i n of l) ∙ ap (λ x. x || list_any (type_eq to) (next_bases (n - (i + 1)) of)) e
      ∙ ap (λ x. list_any (type_eq to) (then_base (chain_within (n - (i + 1)) world) x)) b

  pub no_further : (i n : ℕ) (of to : TypeId) (base : Base) → i < n → type_eq to of ≡ false → base_of world of ≡ base
      → then_base (chain_within (n - (i + 1)) world) base ≡ [] → in_chain (n - i) of to ≡ false
  no_further i n of to base l e b none =
      ap (list_any (type_eq to)) (fuel i n of l) ∙ ap (λ x. x || list_any (type_eq to) (next_bases (n - (i + 1)) of)) e
      ∙ ap (λ x. list_any (type_eq to) (then_base (chain_within (n - (i + 1)) world) x)) b ∙ ap (list_any (type_eq to)) none

  -- ---- the nearest type that another one extends too

  abbrev pub nearest : (TypeId → Bool) → ℕ → TypeId → TypeId
  nearest p n of = option_map_or (λ base. base) (find p (chain n of)) types.Object

  pub nearest_whole : (of other : TypeId) → common_base world of other
      ≡ nearest (λ base. list_any (type_eq base) (chain_of world other)) (rows_of_world world tables.TypeDef + 1 - 0) of
  nearest_whole of other =
      let same : rows_of_world world tables.TypeDef + 1 ≡ rows_of_world world tables.TypeDef + 1 - 0 = omega arith in
      ap (λ n. nearest (λ base. list_any (type_eq base) (chain_of world other)) n of) same

  pub nearest_here : (p : TypeId → Bool) (i n : ℕ) (of : TypeId) → i < n → p of ≡ true → nearest p (n - i) of ≡ of
  nearest_here p i n of l e =
      ap (λ c. option_map_or (λ base. base) (find p c) types.Object) (fuel i n of l)
      ∙ ap (λ b. option_map_or (λ base. base) (cond b (Some of) (find p (next_bases (n - (i + 1)) of))) types.Object) e

  pub nearest_above : (p : TypeId → Bool) (i n : ℕ) (of next : TypeId) → i < n → p of ≡ false → base_of world of ≡ Extends next
      → nearest p (n - i) of ≡ nearest p (n - (i + 1)) next
  nearest_above p i n of next l e b =
      ap (λ c. option_map_or (λ base. base) (find p c) types.Object) (fuel i n of l)
      ∙ ap (λ x. option_map_or (λ base. base) (cond x (Some of) (find p (next_bases (n - (i + 1)) of))) types.Object) e
      ∙ ap (λ x. option_map_or (λ base. base) (find p (then_base (chain_within (n - (i + 1)) world) x)) types.Object) b

  pub nearest_none : (p : TypeId → Bool) (i n : ℕ) (of : TypeId) (base : Base) → i < n → p of ≡ false → base_of world of ≡ base
      → then_base (chain_within (n - (i + 1)) world) base ≡ [] → nearest p (n - i) of ≡ types.Object
  nearest_none p i n of base l e b none =
      ap (λ c. option_map_or (λ base. base) (find p c) types.Object) (fuel i n of l)
      ∙ ap (λ x. option_map_or (λ base. base) (cond x (Some of) (find p (next_bases (n - (i + 1)) of))) types.Object) e
      ∙ ap (λ x. option_map_or (λ base. base) (find p (then_base (chain_within (n - (i + 1)) world) x)) types.Object) b
      ∙ ap (λ c. option_map_or (λ base. base) (find p c) types.Object) none

  pub walked : (i n : ℕ) (of : TypeId) → n ≤ i → chain (n - i) of ≡ []
  unfolding chain_within
  walked i n of l = let none : n - i ≡ 0 = omega arith in ap (λ k. chain k of) none
