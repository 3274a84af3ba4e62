-- What workers that have run are printed as.
use Rattle.std.proofs.Common.{◌≡◌, ℕ, ◌+◌, ℤ, List, [], ◌∷◌, map, Option, Some, None, IsSome}
use Rattle.std.proofs.Common.{refl}
use Rattle.std.specs.List.{list_all}
use Rattle.cli_assembly.specs.declared.signature.TypeSig.{TypeSig}
use Rattle.type_world.specs.declared.identity.MethodId.{MethodId}
use Rattle.type_world.specs.World.{World}
use Rattle.rtr_runner.specs.Workers.{Ended, RunsEnd, ends_as, ran_in}
use Rattle.r2r_commands.specs.RunRefusals.{bad_arguments}
use Rattle.r2r_commands.specs.RunText.{workers_text}
use Rattle.r2r_commands.specs.Running.{is_return, job_of, runs_of}
use Rattle.r2r_commands.specs.Loaded.{new_workers}
use Rattle.r2r_commands.specs.Printing.{has_returned, states_text}
use Rattle.r2r_commands.proofs.Starts.{first_starts, others_start}

module _ (law : RunsEnd) (world : World) (entry : MethodId) (ticks : ℕ) (ret : TypeSig) where
  -- what the workers came to, by how they were made
  pub record Came (n : ℕ) (workers : List (List ℤ)) : Type 0 where
    pub ended : List Ended
    pub ran : runs_of world entry ticks workers ≡ map (λ one. Some one) ended
    pub text : states_text ret (map (ran_in world) (new_workers entry ticks n workers)) ≡ workers_text ret n ended
    pub returned : list_all has_returned (map (ran_in world) (new_workers entry ticks n workers))
        ≡ list_all (λ one. is_return one.ending) ended

  one_more : (n : ℕ) (numbers : List ℤ) (workers : List (List ℤ)) (found : Option Ended)
      → ends_as world (job_of entry ticks numbers) ≡ found → IsSome found → Came (n + 1) workers → Came n (numbers ∷ workers)
  one_more n numbers workers None e some rest = absurd cc
  one_more n numbers workers (Some one) e some rest = record {
    ended = one ∷ rest.ended;
    ran = rw (e, rest.ran) refl;
    text = rw (e, rest.text) refl;
    returned = rw (e, rest.returned) refl;
  }

  pub came : (n : ℕ) (workers : List (List ℤ)) → bad_arguments world entry n workers ≡ [] → Came n workers
  came n [] none = record { ended = []; ran = refl; text = refl; returned = refl }
  came n (numbers ∷ workers) none =
      one_more n numbers workers (ends_as world (job_of entry ticks numbers)) refl
      (law world (job_of entry ticks numbers) (first_starts world entry n numbers workers none))
      (came (n + 1) workers (others_start world entry n numbers workers none))
