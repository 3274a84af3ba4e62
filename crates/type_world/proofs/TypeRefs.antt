-- Rows of TypeRef: how they are resolved by rounds.
use Rattle.std.proofs.Common.{◌≡◌, ℕ, zero, suc, ◌+◌, ◌-◌, ◌<◌, ◌≤◌, Bool, true, false, List, [], ◌∷◌, map, length, slice_get}
use Rattle.std.proofs.Common.{cond, take, nat_le, get_or, Option, Some, None, refl, sym, ap, ◌∙◌, arith}
use Rattle.std.specs.Option.{option_and_then, option_or}
use Rattle.std.specs.List.{position_or_len}
use Rattle.std.specs.Str.{bytes_eq}
use Rattle.std.proofs.lemmas.List.{get_or_past, take_all}
use Rattle.std.proofs.lemmas.List.Sums.{position_or_len_is}
use Rattle.std.proofs.lemmas.Grind.{common_steps}
use Rattle.std.proofs.lemmas.Option.{get_or_from_slice_get, slice_get_within}
use Rattle.metadata.specs.Schema.{tagged_table}
use Rattle.metadata.specs.declared.schema.Table.{Table}
use Rattle.metadata.specs.declared.schema.Table.TheVariants as tables
use Rattle.metadata.specs.declared.schema.CodedKind.TheVariants as kinds
use Rattle.cli_assembly.specs.Assemblies.{Assembly, assembly_name, assembly_of, coded_token, column, row_count, string_at}
use Rattle.cli_assembly.specs.Kept.{answer_of}
use Rattle.type_world.specs.declared.identity.TypeId.{TypeId}
use Rattle.type_world.specs.declared.scope.Scope.{Scope}
use Rattle.type_world.specs.declared.scope.Scope.TheVariants.{Enclosing, Module, Reference, Unresolved}
use Rattle.type_world.specs.Kept.{Kept, kept_in, kept_of, next_ref}
use Rattle.type_world.specs.Loading.{world_of}
use Rattle.type_world.specs.Resolution.{in_scope, in_type, resolve_ref, resolve_ref_within, scope_of, scope_of_token}
use Rattle.type_world.specs.World.{World, assembly_in, assembly_named, is_text, no_assembly, rows_at}
use Rattle.type_world.proofs.Counts.{column_none, rows_none}
use Rattle.type_world.proofs.Listed.{by_row_is, is_kept, kept_at}
use Rattle.type_world.proofs.Names.{assembly_is}

-- ---- the assembly at a position

pub at_some : (files : List (List ℕ)) (asm : ℕ) (file : List ℕ) → slice_get files asm ≡ Some file
    → assembly_in (world_of files) asm ≡ assembly_of file
at_some files asm file e =
    assembly_is files asm file (slice_get_within files asm file e) (sym (get_or_from_slice_get files asm file file e))

pub at_none : (files : List (List ℕ)) (asm : ℕ) → slice_get files asm ≡ None → assembly_in (world_of files) asm ≡ no_assembly
unfolding assembly_in world_of
at_none [] asm e = refl
at_none (file ∷ files) zero e = absurd (cc)
at_none (file ∷ files) (suc asm) e = at_none files asm e

-- ---- assemblies by name

abbrev pub has_name : World → List ℕ → ℕ → Bool
has_name world name asm = is_text name (assembly_name (assembly_in world asm))

pub named_here : (world : World) (name : List ℕ) (asm : ℕ) → asm < length world
    → ((k : ℕ) → k < asm → has_name world name k ≡ false) → has_name world name asm ≡ true → Some asm ≡ assembly_named world name
unfolding assembly_named assembly_in
named_here world name asm l before here =
    let p : Assembly → Bool = λ assembly. is_text name (assembly_name assembly) in
    let e : position_or_len p world ≡ asm = position_or_len_is p world asm no_assembly (omega arith) before (λ _. here) in
    grind (arith, common_steps)

pub named_nowhere : (world : World) (name : List ℕ) → ((k : ℕ) → k < length world → has_name world name k ≡ false)
    → None ≡ assembly_named world name
unfolding assembly_named assembly_in
named_nowhere world name before =
    let p : Assembly → Bool = λ assembly. is_text name (assembly_name assembly) in
    let e : position_or_len p world ≡ length world =
    position_or_len_is p world (length world) no_assembly (omega arith) before (λ h. absurd (omega (arith, h))) in
    grind (arith, common_steps)

-- ---- rows that aren't there name nothing

no_token : (a : Assembly) (b : Bool) → scope_of_token a (cond b (Some 0) None) ≡ Unresolved
no_token a true = refl
no_token a false = refl

pub no_scope : (a : Assembly) (row : ℕ) → column a tables.TypeRef row 0 ≡ 0 → scope_of a row ≡ Unresolved
unfolding scope_of coded_token tagged_table
no_scope a row e =
    ap (λ n. scope_of_token a (coded_token a kinds.ResolutionScope n)) e ∙ no_token a (nat_le 0 (row_count a tables.Module))

pub no_ref : (n : ℕ) (world : World) (asm row : ℕ) → column (assembly_in world asm) tables.TypeRef row 0 ≡ 0
    → resolve_ref_within n world asm row ≡ None
unfolding resolve_ref_within
no_ref zero world asm row e = refl
no_ref (suc n) world asm row e =
    ap (in_scope world asm _ _ (resolve_ref_within n world asm)) (no_scope (assembly_in world asm) row e)

pub nothing_within : (world : World) (asm row : ℕ) → None ≡ resolve_ref_within 0 world asm row
unfolding resolve_ref_within
nothing_within world asm row = refl

pub column_first : (a : Assembly) (table : Table) (n : ℕ) → column a table 0 n ≡ 0
unfolding column
column_first a table n = refl

pub column_past : (a : Assembly) (table : Table) (i n : ℕ) → row_count a table ≤ i → column a table (suc i) n ≡ 0
unfolding column
column_past a table i n l = ap (λ r. get_or r n 0) (get_or_past _ i [] l)

-- ---- two lists are equal

pub same_all : {X : Type 0} (xs ys : List X) (i : ℕ) → length xs ≡ length ys → length xs ≤ i → take i xs ≡ take i ys → xs ≡ ys
same_all xs ys i long l same = sym (take_all i xs l) ∙ same ∙ take_all i ys (omega (arith, long, l))

-- ---- rounds

module _ (world : World) (asm : ℕ) where
  abbrev pub refs : ℕ → List (Option TypeId)
  refs n = map (resolve_ref_within n world asm) (rows_at world asm tables.TypeRef)

  pub known_is : (n row : ℕ) → answer_of (refs n) row ≡ resolve_ref_within n world asm row
  known_is n row =
      by_row_is (resolve_ref_within n world asm) (row_count (assembly_in world asm) tables.TypeRef) row
      (no_ref n world asm 0 (column_first (assembly_in world asm) tables.TypeRef 0))
      (λ i past. no_ref n world asm (suc i) (column_past (assembly_in world asm) tables.TypeRef i 0 past))

  -- one more scope changes no answer
  same_scope : (namespace name : List ℕ) (f g : ℕ → Option TypeId) → ((row : ℕ) → f row ≡ g row) → (s : Scope)
      → in_scope world asm namespace name f s ≡ in_scope world asm namespace name g s
  same_scope namespace name f g h Module = refl
  same_scope namespace name f g h (Reference row) = refl
  same_scope namespace name f g h (Enclosing row) = ap (option_and_then (in_type world name)) (h row)
  same_scope namespace name f g h Unresolved = refl

  more_scope : (namespace name : List ℕ) (f g : ℕ → Option TypeId) → ((row : ℕ) (of : TypeId) → f row ≡ Some of → g row ≡ Some of)
      → (s : Scope) (of : TypeId) → in_scope world asm namespace name f s ≡ Some of → in_scope world asm namespace name g s ≡ Some of
  more_scope namespace name f g h Module of e = e
  more_scope namespace name f g h (Reference row) of e = e
  more_scope namespace name f g h (Enclosing row) of e = by_known (f row) refl e
    where
      by_known : (o : Option TypeId) → f row ≡ o → option_and_then (in_type world name) o ≡ Some of
          → option_and_then (in_type world name) (g row) ≡ Some of
      by_known (Some enclosing) q k = ap (option_and_then (in_type world name)) (h row enclosing q) ∙ k
      by_known None q k = absurd (cc)
  more_scope namespace name f g h Unresolved of e = absurd (cc)

  one_more : (n row : ℕ) (of : TypeId) → resolve_ref_within n world asm row ≡ Some of
      → resolve_ref_within (suc n) world asm row ≡ Some of
  unfolding resolve_ref_within
  one_more zero row of e = absurd (cc)
  one_more (suc n) row of e =
      more_scope _ _ (resolve_ref_within n world asm) (resolve_ref_within (suc n) world asm) (one_more n)
      (scope_of (assembly_in world asm) row) of e

  kept_or_more : (n row : ℕ) (o : Option TypeId) → resolve_ref_within n world asm row ≡ o
      → option_or o (resolve_ref_within (suc n) world asm row) ≡ resolve_ref_within (suc n) world asm row
  kept_or_more n row (Some of) q = sym (one_more n row of q)
  kept_or_more n row None q = refl

  next_is : (n row : ℕ) → next_ref world asm (refs n) row ≡ resolve_ref_within (suc n) world asm row
  unfolding resolve_ref_within
  next_is n row =
      ap (option_or (answer_of (refs n) row))
      (same_scope _ _ (answer_of (refs n)) (resolve_ref_within n world asm) (known_is n) (scope_of (assembly_in world asm) row))
      ∙ ap (λ o. option_or o (resolve_ref_within (suc n) world asm row)) (known_is n row)
      ∙ kept_or_more n row (resolve_ref_within n world asm row) refl

  maps_are : (f g : ℕ → Option TypeId) (rows : List ℕ) → ((row : ℕ) → f row ≡ g row) → map f rows ≡ map g rows
  maps_are f g [] h = refl
  maps_are f g (row ∷ rows) h = ap (λ x. x ∷ map f rows) (h row) ∙ ap (λ xs. g row ∷ xs) (maps_are f g rows h)

  abbrev pub round : List (Option TypeId) → List (Option TypeId)
  round known = map (next_ref world asm known) (rows_at world asm tables.TypeRef)

  pub round_is : (n : ℕ) → round (refs n) ≡ refs (suc n)
  round_is n = maps_are (next_ref world asm (refs n)) (resolve_ref_within (suc n) world asm) (rows_at world asm tables.TypeRef) (next_is n)

  -- after a round that changes nothing no later one does
  stays : (k n : ℕ) → refs n ≡ refs (suc n) → refs n ≡ refs (k + n)
  stays zero n e = let none : n ≡ 0 + n = omega arith in ap refs none
  stays (suc k) n e =
      let more : suc (k + n) ≡ suc k + n = omega arith in
      e ∙ sym (round_is n) ∙ ap round (stays k n e) ∙ round_is (k + n) ∙ ap refs more

  pub next_round : (known next : List (Option TypeId)) (n : ℕ) → known ≡ refs n → next ≡ round known → next ≡ refs (n + 1)
  next_round known next n e f =
      let more : suc n ≡ n + 1 = omega arith in f ∙ ap round e ∙ round_is n ∙ ap refs more

  pub last_round : (known next : List (Option TypeId)) (n last : ℕ) → known ≡ refs n → next ≡ round known → known ≡ next → n < last
      → known ≡ refs last
  last_round known next n last e f same l =
      let so_many : (last - n) + n ≡ last = omega arith in
      e ∙ stays (last - n) n (sym e ∙ same ∙ f ∙ ap round e ∙ round_is n) ∙ ap refs so_many

-- ---- by the assembly that is there, or isn't

pub named_some : (files : List (List ℕ)) (asm : ℕ) (file name : List ℕ) → slice_get files asm ≡ Some file
    → is_text name (assembly_name (assembly_of file)) ≡ has_name (world_of files) name asm
named_some files asm file name e = ap (λ a. is_text name (assembly_name a)) (sym (at_some files asm file e))

pub named_none : (files : List (List ℕ)) (asm : ℕ) (name : List ℕ) → slice_get files asm ≡ None
    → bytes_eq name [] ≡ has_name (world_of files) name asm
unfolding assembly_name column string_at
named_none files asm name e = ap (λ a. is_text name (assembly_name a)) (sym (at_none files asm e))

pub scope_some : (files : List (List ℕ)) (asm row scope : ℕ) (file : List ℕ) (token : Option ℕ) → slice_get files asm ≡ Some file
    → scope ≡ column (assembly_of file) tables.TypeRef row 0 → token ≡ coded_token (assembly_of file) kinds.ResolutionScope scope
    → scope_of_token (assembly_in (world_of files) asm) token ≡ scope_of (assembly_in (world_of files) asm) row
unfolding scope_of
scope_some files asm row scope file token there e f =
    ap (scope_of_token (assembly_in (world_of files) asm))
    (f ∙ ap (coded_token (assembly_of file) kinds.ResolutionScope) e
    ∙ ap (λ a. coded_token a kinds.ResolutionScope (column a tables.TypeRef row 0)) (sym (at_some files asm file there)))

pub scope_none : (files : List (List ℕ)) (asm row : ℕ) → slice_get files asm ≡ None
    → Unresolved ≡ scope_of (assembly_in (world_of files) asm) row
scope_none files asm row e = sym (no_scope (assembly_in (world_of files) asm) row (column_none files asm tables.TypeRef row 0 e))

-- ---- what is kept

pub ref_kept : (files : List (List ℕ)) (asm row : ℕ) (k : Kept) → slice_get (kept_in (world_of files)) asm ≡ Some k
    → answer_of k.type_refs row ≡ resolve_ref (world_of files) asm row
unfolding kept_of
ref_kept files asm row k e =
    let world = world_of files in
    ap (λ kept. answer_of kept.type_refs row) (kept_at world asm k e)
    ∙ known_is world asm (row_count (assembly_in world asm) tables.TypeRef) row

pub ref_nowhere : (files : List (List ℕ)) (asm row : ℕ) → slice_get (kept_in (world_of files)) asm ≡ None
    → None ≡ resolve_ref (world_of files) asm row
ref_nowhere files asm row e = by_file (slice_get files asm) refl
  where
    by_file : (o : Option (List ℕ)) → slice_get files asm ≡ o → None ≡ resolve_ref (world_of files) asm row
    by_file (Some file) q = absurd (is_kept files asm file q e)
    by_file None q =
        nothing_within (world_of files) asm row
        ∙ ap (λ n. resolve_ref_within n (world_of files) asm row) (sym (rows_none files asm tables.TypeRef q))
