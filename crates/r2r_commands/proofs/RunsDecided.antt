-- What refuses a run is no failed read, and the status of its text is 0 or 6.
use Rattle.std.proofs.Common.{◌≡◌, ℕ, ◌+◌, ℤ, List, [], ◌∷◌, ◌++◌, ◌⊎◌, inl, inr, Bool, true, false, cond, Option, Some}
use Rattle.std.proofs.Common.{None, refl, sym, subst}
use Rattle.std.specs.List.{list_all}
use Rattle.type_world.specs.declared.identity.MethodId.{MethodId}
use Rattle.type_world.specs.World.{World, first_duplicate}
use Rattle.type_world.specs.Entries.{can_start}
use Rattle.type_world.specs.Loading.{world_of}
use Rattle.cli_assembly.specs.Assemblies.{assembly_of}
use Rattle.r2r_commands.specs.RunWords.{Run}
use Rattle.r2r_commands.specs.Refusals.{Refusal, ReadFailed, NotIlOnly, BadArguments}
use Rattle.r2r_commands.specs.RunRefusals.{bad_arguments, bad_arguments_by, duplicate_names, entry_in, file_refusals, is_il_only, not_il_only}
use Rattle.r2r_commands.specs.RunRefusals.{not_il_only_by, not_started, run_refusals, start_refusals}
use Rattle.r2r_commands.specs.Running.{IsRunText, is_return}

-- ---- none of these refusals is a failed read

abbrev IsNoRead : Refusal → Type 0
IsNoRead (ReadFailed name) = ⊥
IsNoRead refusal = Unit {0}

abbrev HasNoRead : List Refusal → Type 0
HasNoRead [] = Unit {0}
HasNoRead (refusal ∷ later) = IsNoRead refusal × HasNoRead later

join : (some others : List Refusal) → HasNoRead some → HasNoRead others → HasNoRead (some ++ others)
join [] others h k = k
join (refusal ∷ later) others h k = (h.0, join later others h.1 k)

duplicates_no_read : (found : Option (ℕ × ℕ)) → HasNoRead (duplicate_names found)
duplicates_no_read None = tt
duplicates_no_read (Some pair) = (tt, tt)

il_no_read : (name : List ℕ) (b : Bool) → HasNoRead (cond b [] (NotIlOnly name ∷ []))
il_no_read name true = tt
il_no_read name false = (tt, tt)

files_no_read : (names files : List (List ℕ)) → HasNoRead (not_il_only names files)
files_no_read [] files = tt
files_no_read (name ∷ names) [] = tt
files_no_read (name ∷ names) (bytes ∷ files) =
    join (not_il_only_by name bytes) (not_il_only names files) (il_no_read name (is_il_only (assembly_of bytes)))
    (files_no_read names files)

arguments_no_read : (worker : ℕ) (b : Bool) → HasNoRead (cond b [] (BadArguments worker ∷ []))
arguments_no_read worker true = tt
arguments_no_read worker false = (tt, tt)

workers_no_read : (world : World) (entry : MethodId) (worker : ℕ) (workers : List (List ℤ))
    → HasNoRead (bad_arguments world entry worker workers)
workers_no_read world entry worker [] = tt
workers_no_read world entry worker (numbers ∷ workers) =
    join (bad_arguments_by world entry worker numbers) (bad_arguments world entry (worker + 1) workers)
    (arguments_no_read worker (can_start world entry numbers)) (workers_no_read world entry (worker + 1) workers)

start_no_read : (world : World) (workers : List (List ℤ)) (entry : Option MethodId) → HasNoRead (not_started world workers entry)
start_no_read world workers None = (tt, tt)
start_no_read world workers (Some entry) = workers_no_read world entry 0 workers

run_no_read : (run : Run) (files : List (List ℕ)) → HasNoRead (run_refusals run files)
unfolding run_refusals
run_no_read run files =
    join (file_refusals (run.image ∷ run.refs) files) (start_refusals run (world_of files))
    (join (duplicate_names (first_duplicate (world_of files))) (not_il_only (run.image ∷ run.refs) files)
    (duplicates_no_read (first_duplicate (world_of files))) (files_no_read (run.image ∷ run.refs) files))
    (start_no_read (world_of files) run.workers (entry_in (world_of files) run.entry))

-- the refusals of a run, part by part
pub run_parts : (run : Run) (files : List (List ℕ))
    → run_refusals run files ≡ file_refusals (run.image ∷ run.refs) files ++ start_refusals run (world_of files)
unfolding run_refusals
run_parts run files = refl

pub no_failed_run : (run : Run) (files : List (List ℕ)) (name : List ℕ) (later : List Refusal)
    → run_refusals run files ≡ ReadFailed name ∷ later → ⊥
no_failed_run run files name later e =
    let both : HasNoRead (ReadFailed name ∷ later) = rw e at (run_no_read run files) in
    both.0

-- ---- the status of a text

abbrev IsZeroOrSix : ℕ → Type 0
IsZeroOrSix status = (status ≡ 0) ⊎ (status ≡ 6)

zero_or_six : (b : Bool) → IsZeroOrSix (cond b 0 6)
zero_or_six true = inl refl
zero_or_six false = inr refl

pub run_text_status : (run : Run) (files : List (List ℕ)) (status : ℕ) (text : List ℕ) → IsRunText run files status text
    → (status ≡ 0) ⊎ (status ≡ 6)
run_text_status run files status text is =
    subst IsZeroOrSix (sym is.is_status) (zero_or_six (list_all (λ ended. is_return ended.ending) is.ended))
