-- The methods that rows of MemberRef name, as they are searched for and as they are kept.
use Rattle.std.proofs.Common.{◌≡◌, ℕ, zero, suc, ◌+◌, ◌-◌, ◌<◌, ◌≤◌, ◌/◌, ◌%◌, ◌^◌, ◌&&◌, ◌==◌, ⊎_elim, Bool, true}
use Rattle.std.proofs.Common.{false, nat_lt, nat_le, cond, List, []}
use Rattle.std.proofs.Common.{◌∷◌, length, find, slice_get, Option, Some, None, refl, sym, ap, subst, ◌∙◌, arith}
use Rattle.std.proofs.Common.{if◌then◌else◌, lt-ltb, ltb-true}
use Rattle.std.specs.Option.{option_and_then, option_map, option_or}
use Rattle.std.specs.List.{range_with_len}
use Rattle.std.proofs.lemmas.Bool.{cases_lt, le-ltb, lt-leb}
use Rattle.std.proofs.lemmas.List.{get_or_past}
use Rattle.std.proofs.lemmas.Option.{get_or_from_slice_get, slice_get-get_or, slice_get_past, slice_get_within}
use Rattle.std.proofs.lemmas.List.FromFn.{get_or-map-range_with_len, length-map-range_with_len}
use Rattle.metadata.specs.declared.schema.Table.{Table}
use Rattle.metadata.specs.declared.schema.Table.TheVariants as tables
use Rattle.metadata.specs.declared.schema.CodedKind.TheVariants as kinds
use Rattle.metadata.specs.Schema.{table_number}
use Rattle.cli_assembly.specs.declared.signature.MethodSig.{MethodSig}
use Rattle.cli_assembly.specs.Assemblies.{assembly_of, blob_at, coded_token, column, has_row, list_start}
use Rattle.cli_assembly.specs.Assemblies.{member_method_signature, methods_of, row_count, rows_between}
use Rattle.cli_assembly.specs.Kept.{answer_of}
use Rattle.cli_assembly.specs.Signatures.{method_sig_of}
use Rattle.type_world.specs.declared.base.Base.{Base}
use Rattle.type_world.specs.declared.base.Base.TheVariants.{NoBase, Extends, UnresolvedBase}
use Rattle.type_world.specs.declared.identity.MethodId.{MethodId}
use Rattle.type_world.specs.declared.identity.TypeId.{TypeId}
use Rattle.type_world.specs.declared.identity.TypeId.TheVariants as types
use Rattle.type_world.specs.declared.identity.TheConstants.{BUILT_IN}
use Rattle.type_world.specs.KeptMethods.{member_methods_in, member_methods_of}
use Rattle.type_world.specs.Loading.{world_of}
use Rattle.type_world.specs.Members.{BuiltIn, built_in, built_in_rows, built_ins, first_in, is_built_in_method}
use Rattle.type_world.specs.Members.{member_method, member_parent, method_id}
use Rattle.type_world.specs.Members.{method_in, method_with}
use Rattle.type_world.specs.Resolution.{base_of, chain_within, def_or_ref, resolve_ref, resolve_type, then_base}
use Rattle.type_world.specs.World.{World, assembly_in, column_in, no_assembly, row_of}
use Rattle.type_world.proofs.Counts.{rows_none}
use Rattle.type_world.proofs.Listed.{by_row_is, past_rows}
use Rattle.type_world.proofs.Names.{assembly_is}

-- ---- the built-in methods

pub written_is : (row n : ℕ) (b : BuiltIn) → row ≡ n → Some b ≡ built_in n → Some b ≡ built_in row
written_is row n b e h = h ∙ ap built_in (sym e)

pub nothing_built_in : (row : ℕ) → row < 1 → None ≡ built_in row
unfolding built_in
nothing_built_in zero l = refl
nothing_built_in (suc row) l = absurd (omega arith)

pub past_built_in : (row : ℕ) → 8 < row → None ≡ built_in row
unfolding built_in
past_built_in row l = sym (past_rows built_ins row l)

pub built_in_found : (p : ℕ → Bool) (i : ℕ) → i < 8 → find p built_in_rows ≡ find p (range_with_len (i + 1) (8 - i)) → p (i + 1) ≡ true
    → Some (i + 1) ≡ find p built_in_rows
built_in_found p i l so_far t =
    let more : 8 - i ≡ suc (8 - (i + 1)) = omega arith in
    sym (so_far ∙ ap (λ k. find p (range_with_len (i + 1) k)) more
    ∙ ap (λ b. cond b (Some (i + 1)) (find p (range_with_len (i + 1 + 1) (8 - (i + 1))))) t)

pub no_built_in_found : (p : ℕ → Bool) (i : ℕ) → 8 ≤ i → find p built_in_rows ≡ find p (range_with_len (i + 1) (8 - i))
    → None ≡ find p built_in_rows
no_built_in_found p i l so_far =
    let none : 8 - i ≡ 0 = omega arith in
    sym (so_far ∙ ap (λ k. find p (range_with_len (i + 1) k)) none)

-- a type that is no class has built-in methods alone
pub built_in_of : (world : World) (asm : ℕ) (name : List ℕ) (sig : MethodSig) (of : TypeId) → ((at row : ℕ) → of ≡ types.Class at row → ⊥)
    → method_in world asm name sig of ≡ option_map (method_id BUILT_IN) (find (is_built_in_method world asm of name sig) built_in_rows)
unfolding method_in
built_in_of world asm name sig types.Object h = refl
built_in_of world asm name sig types.Str h = refl
built_in_of world asm name sig types.Console h = refl
built_in_of world asm name sig (types.Array elem) h = refl
built_in_of world asm name sig (types.Class at row) h = absurd (h at row refl)

-- ---- the methods of a class at a position

no_methods : (class : ℕ) → methods_of no_assembly class ≡ []
unfolding methods_of column
no_methods zero = refl
no_methods (suc class) =
    ap (λ b. rows_between 1 (cond b (list_start no_assembly (suc class + 1) 5) (0 + 1)))
    (le-ltb (suc class) 0 (omega arith))

pub methods_none : (files : List (List ℕ)) (asm class : ℕ) → slice_get files asm ≡ None
    → methods_of (assembly_in (world_of files) asm) class ≡ []
unfolding assembly_in world_of
methods_none [] asm class e = no_methods class
methods_none (file ∷ files) zero class e = absurd (cc)
methods_none (file ∷ files) (suc asm) class e = methods_none files asm class e

pub methods_some : (files : List (List ℕ)) (asm class : ℕ) (file : List ℕ) → slice_get files asm ≡ Some file
    → methods_of (assembly_of file) class ≡ methods_of (assembly_in (world_of files) asm) class
methods_some files asm class file there =
    ap (λ a. methods_of a class)
    (sym (assembly_is files asm file (slice_get_within files asm file there) (sym (get_or_from_slice_get files asm file file there))))

pub nothing_found : (files : List (List ℕ)) (asm class n : ℕ) (p : ℕ → Bool) → n ≡ length files → n ≤ asm
    → None ≡ find p (methods_of (assembly_in (world_of files) asm) class)
nothing_found files asm class n p count past =
    sym (ap (find p) (methods_none files asm class (slice_get_past files asm (omega (arith, count, past)))))

-- ---- signatures of members

no_row : (n row : ℕ) → n ≡ 0 → (nat_lt 0 row && nat_le row n) ≡ false
no_row n row e = by_some (nat_lt 0 row) refl
  where
    by_some : (b : Bool) → nat_lt 0 row ≡ b → (b && nat_le row n) ≡ false
    by_some true q = let some = ltb-true 0 row q in lt-leb row n (omega (arith, some, e))
    by_some false q = refl

pub member_sig_some : (files : List (List ℕ)) (asm row : ℕ) (file : List ℕ) → slice_get files asm ≡ Some file
    → member_method_signature (assembly_of file) row ≡ member_method_signature (assembly_in (world_of files) asm) row
member_sig_some files asm row file there =
    ap (λ a. member_method_signature a row)
    (sym (assembly_is files asm file (slice_get_within files asm file there) (sym (get_or_from_slice_get files asm file file there))))

no_signature : (world : World) (asm row : ℕ) → has_row (assembly_in world asm) tables.MemberRef row ≡ false
    → member_method_signature (assembly_in world asm) row ≡ None
unfolding member_method_signature
no_signature world asm row e =
    ap (λ b. if b then option_and_then method_sig_of
    (blob_at (assembly_in world asm) (column (assembly_in world asm) tables.MemberRef row 2)) else None) e

pub member_sig_none : (files : List (List ℕ)) (asm row : ℕ) → slice_get files asm ≡ None
    → member_method_signature (assembly_in (world_of files) asm) row ≡ None
member_sig_none files asm row e =
    no_signature (world_of files) asm row
    (no_row (row_count (assembly_in (world_of files) asm) tables.MemberRef) row (rows_none files asm tables.MemberRef e))

-- ---- parents

no_row_of : (a b : Bool) (row : ℕ) → b ≡ false → (if a && b then Some row else None) ≡ None
no_row_of true true row e = absurd (cc)
no_row_of true false row e = refl
no_row_of false b row e = refl

row_of_none : (files : List (List ℕ)) (asm token : ℕ) (table : Table) → slice_get files asm ≡ None
    → row_of (assembly_in (world_of files) asm) table token ≡ None
row_of_none files asm token table e =
    no_row_of (token / 2 ^ 24 == table_number table) (has_row (assembly_in (world_of files) asm) table (token % 2 ^ 24)) (token % 2 ^ 24)
    (no_row (row_count (assembly_in (world_of files) asm) table) (token % 2 ^ 24) (rows_none files asm table e))

type_none : (files : List (List ℕ)) (asm token : ℕ) → slice_get files asm ≡ None → resolve_type (world_of files) asm token ≡ None
unfolding resolve_type
type_none files asm token e =
    ap (λ o. def_or_ref (world_of files) asm o (row_of (assembly_in (world_of files) asm) tables.TypeRef token))
    (row_of_none files asm token tables.TypeDef e)
    ∙ ap (option_and_then (resolve_ref (world_of files) asm)) (row_of_none files asm token tables.TypeRef e)

no_type : (files : List (List ℕ)) (asm : ℕ) (o : Option ℕ) → slice_get files asm ≡ None
    → option_and_then (resolve_type (world_of files) asm) o ≡ None
no_type files asm None e = refl
no_type files asm (Some token) e = type_none files asm token e

pub parent_none : (files : List (List ℕ)) (asm row : ℕ) → slice_get files asm ≡ None → member_parent (world_of files) asm row ≡ None
unfolding member_parent
parent_none files asm row e =
    no_type files asm
    (coded_token (assembly_in (world_of files) asm) kinds.MemberRefParent (column_in (world_of files) asm tables.MemberRef row 0)) e

pub parent_some : (files : List (List ℕ)) (asm row at : ℕ) (file : List ℕ) (o : Option ℕ) → slice_get files asm ≡ Some file
    → at ≡ column (assembly_of file) tables.MemberRef row 0 → o ≡ coded_token (assembly_of file) kinds.MemberRefParent at
    → member_parent (world_of files) asm row ≡ option_and_then (resolve_type (world_of files) asm) o
unfolding member_parent
parent_some files asm row at file o there a s =
    let same = assembly_is files asm file (slice_get_within files asm file there) (sym (get_or_from_slice_get files asm file file there)) in
    ap (λ x. option_and_then (resolve_type (world_of files) asm)
    (coded_token x kinds.MemberRefParent (column x tables.MemberRef row 0))) same
    ∙ ap (λ n. option_and_then (resolve_type (world_of files) asm) (coded_token (assembly_of file) kinds.MemberRefParent n)) (sym a)
    ∙ ap (option_and_then (resolve_type (world_of files) asm)) (sym s)

-- ---- up the base chain

module _ (world : World) (look : TypeId → Option MethodId) (at : TypeId) (n i : ℕ) where
  abbrev Left : Option MethodId
  Left = first_in look (chain_within (n - i) world at)

  fuel : i < n → n - i ≡ suc (n - (i + 1))
  fuel l = omega arith

  step : i < n → first_in look (chain_within (n - i) world at)
      ≡ option_or (look at) (first_in look (then_base (chain_within (n - (i + 1)) world) (base_of world at)))
  unfolding chain_within
  step l = ap (λ k. first_in look (chain_within k world at)) (fuel l)

  pub up_found : (method : MethodId) → i < n → Some method ≡ look at → Some method ≡ first_in look (chain_within (n - i) world at)
  up_found method l e =
      ap (λ o. option_or o (first_in look (then_base (chain_within (n - (i + 1)) world) (base_of world at)))) e ∙ sym (step l)

  pub up_base : (base : TypeId) → i < n → None ≡ look at → Extends base ≡ base_of world at
      → first_in look (chain_within (n - i) world at) ≡ first_in look (chain_within (n - (i + 1)) world base)
  up_base base l e b =
      step l
      ∙ ap (λ o. option_or o (first_in look (then_base (chain_within (n - (i + 1)) world) (base_of world at)))) (sym e)
      ∙ ap (λ x. first_in look (then_base (chain_within (n - (i + 1)) world) x)) (sym b)

  no_more : (b : Base) → ((base : TypeId) → b ≡ Extends base → ⊥)
      → first_in look (then_base (chain_within (n - (i + 1)) world) b) ≡ None
  no_more (Extends base) h = absurd (h base refl)
  no_more NoBase h = refl
  no_more UnresolvedBase h = refl

  pub up_end : i < n → None ≡ look at → ((base : TypeId) → base_of world at ≡ Extends base → ⊥)
      → None ≡ first_in look (chain_within (n - i) world at)
  up_end l e h =
      sym (step l
      ∙ ap (λ o. option_or o (first_in look (then_base (chain_within (n - (i + 1)) world) (base_of world at)))) (sym e)
      ∙ no_more (base_of world at) h)

  pub up_done : n ≤ i → None ≡ first_in look (chain_within (n - i) world at)
  unfolding chain_within
  up_done l = let none : n - i ≡ 0 = omega arith in sym (ap (λ k. first_in look (chain_within k world at)) none)

-- ---- a chain that comes back to a type from which on nothing was found

module _ (world : World) (look : TypeId → Option MethodId) where
  -- so many bases up, and nothing is found in the types before
  abbrev Missed : ℕ → TypeId → TypeId → Type 0
  Missed zero of to = of ≡ to
  Missed (suc k) of to = (base : TypeId) × (look of ≡ None) × (base_of world of ≡ Extends base) × Missed k base to

  pub record Misses (of to : TypeId) : Type 0 where
    pub steps : ℕ
    pub way : Missed steps of to

  pub misses_none : (of : TypeId) → Misses of of
  misses_none of = record { steps = 0; way = refl }

  missed_more : (k : ℕ) (of at base : TypeId) → Missed k of at → look at ≡ None → base_of world at ≡ Extends base → Missed (suc k) of base
  missed_more zero of at base w n b = (base, ap look w ∙ n, ap (base_of world) w ∙ b, refl)
  missed_more (suc k) of at base w n b = (w.0, w.1, w.2, missed_more k w.0 at base w.3 n b)

  abbrev Finds : ℕ → TypeId → Option MethodId
  Finds n of = first_in look (chain_within n world of)

  one_more : (n : ℕ) (of base : TypeId) → look of ≡ None → base_of world of ≡ Extends base → Finds (suc n) of ≡ Finds n base
  unfolding chain_within
  one_more n of base e b =
      ap (λ o. option_or o (first_in look (then_base (chain_within n world) (base_of world of)))) e
      ∙ ap (λ x. first_in look (then_base (chain_within n world) x)) b

  nothing_in : (of : TypeId) → Finds 0 of ≡ None
  unfolding chain_within
  nothing_in of = refl

  unrolled : (k n bound : ℕ) (of to : TypeId) → Missed k of to → n ≤ bound → ((m : ℕ) → m ≤ bound → Finds m to ≡ None)
      → Finds n of ≡ None
  unrolled zero n bound of to w l h = ap (Finds n) w ∙ h n l
  unrolled (suc k) zero bound of to w l h = nothing_in of
  unrolled (suc k) (suc n) bound of to w l h =
      one_more n of w.0 w.1 w.2 ∙ unrolled k n bound w.0 to w.3 (omega (arith, l)) h

  cycle : (k bound : ℕ) (of : TypeId) → Missed (suc k) of of → (n : ℕ) → n ≤ bound → Finds n of ≡ None
  cycle k bound of w zero l = nothing_in of
  cycle k zero of w (suc n) l = absurd (omega (arith, l))
  cycle k (suc bound) of w (suc n) l =
      one_more n of w.0 w.1 w.2 ∙ unrolled k n bound w.0 of w.3 (omega (arith, l)) (λ m below. cycle k bound of w m below)

  pub misses_more : (of at base : TypeId) → Misses of at → look at ≡ None → base_of world at ≡ Extends base → Misses of base
  misses_more of at base m n b = record { steps = suc m.steps; way = missed_more m.steps of at base m.way n b }

  -- one more step from what was missed comes back to where that began
  pub comes_back : (of at base : TypeId) (n : ℕ) → Misses of at → look at ≡ None → base_of world at ≡ Extends base → base ≡ of
      → Finds n base ≡ None
  comes_back of at base n m e b back =
      cycle m.steps n base
      (subst (λ x. Missed (suc m.steps) x base) (sym back) (missed_more m.steps of at base m.way e b)) n (omega arith)

-- ---- what is kept by row

no_member : (world : World) (asm row : ℕ) → has_row (assembly_in world asm) tables.MemberRef row ≡ false
    → member_method world asm row ≡ None
unfolding member_method
no_member world asm row e =
    ap (option_and_then (λ sig. option_and_then (method_with world asm row sig) (member_parent world asm row)))
    (no_signature world asm row e)

no_row_past : (world : World) (asm i : ℕ) → row_count (assembly_in world asm) tables.MemberRef ≤ i
    → has_row (assembly_in world asm) tables.MemberRef (suc i) ≡ false
no_row_past world asm i l =
    ap (λ b. nat_lt 0 (suc i) && b) (lt-leb (suc i) (row_count (assembly_in world asm) tables.MemberRef) (omega (arith, l)))
    ∙ ap (λ b. b && false) (lt-ltb 0 (suc i) (omega arith))

member_kept : (world : World) (asm row : ℕ) → answer_of (member_methods_of world asm) row ≡ member_method world asm row
unfolding member_methods_of
member_kept world asm row =
    by_row_is (member_method world asm) (row_count (assembly_in world asm) tables.MemberRef) row
    (no_member world asm 0 refl) (λ i past. no_member world asm (suc i) (no_row_past world asm i past))

kept_at : (world : World) (asm : ℕ) (k : List (Option MethodId)) → slice_get (member_methods_in world) asm ≡ Some k
    → k ≡ member_methods_of world asm
kept_at world asm k e =
    let within = slice_get_within (member_methods_in world) asm k e in
    let long = length-map-range_with_len (member_methods_of world) 0 (length world) in
    sym (get_or_from_slice_get (member_methods_in world) asm k k e)
    ∙ get_or-map-range_with_len (member_methods_of world) 0 (length world) asm asm k (omega (arith, within, long)) (omega arith)

pub member_is : (world : World) (asm row : ℕ) (k : List (Option MethodId)) → slice_get (member_methods_in world) asm ≡ Some k
    → answer_of k row ≡ member_method world asm row
member_is world asm row k e = ap (λ l. answer_of l row) (kept_at world asm k e) ∙ member_kept world asm row

outside : (world : World) (asm : ℕ) → slice_get (member_methods_in world) asm ≡ None → length world ≤ asm
outside world asm e =
    let long = length-map-range_with_len (member_methods_of world) 0 (length world) in
    ⊎_elim
    (λ lt. absurd (let some = slice_get-get_or (member_methods_in world) asm (member_methods_of world asm) (omega (arith, lt, long)) in cc))
    (λ le. le)
    (cases_lt asm (length world))

lacks : (world : World) (asm : ℕ) → length world ≤ asm → assembly_in world asm ≡ no_assembly
unfolding assembly_in
lacks world asm l = get_or_past world asm no_assembly l

pub no_member_kept : (world : World) (asm row : ℕ) → slice_get (member_methods_in world) asm ≡ None → member_method world asm row ≡ None
no_member_kept world asm row e =
    no_member world asm row
    (ap (λ a. has_row a tables.MemberRef row) (lacks world asm (outside world asm e)) ∙ no_row 0 row refl)
