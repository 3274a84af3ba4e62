-- The refusals of a run that are found part by part are all of them, in their order.
use Rattle.std.proofs.Common.{◌≡◌, ℕ, List, [], ◌∷◌, ◌++◌, Result, Ok, Err, sym, ap, subst, ◌∙◌}
use Rattle.type_world.specs.Loading.{world_of}
use Rattle.r2r_commands.specs.declared.refusals.Stop.{Stop}
use Rattle.r2r_commands.specs.RunWords.{Run}
use Rattle.r2r_commands.specs.Refusals.{Refusal}
use Rattle.r2r_commands.specs.Command.{Run as Running}
use Rattle.r2r_commands.specs.Reading.{AllRead}
use Rattle.r2r_commands.specs.RunRefusals.{file_refusals, start_refusals}
use Rattle.r2r_commands.specs.Ending.{malformed, refusals}
use Rattle.r2r_commands.specs.Loaded.{IsUnlessRefused}
use Rattle.r2r_commands.proofs.Firsts.{ends_after, stops_after, stops_in_front}
use Rattle.r2r_commands.proofs.RunsDecided.{run_parts}

module _ (run : Run) (names files : List (List ℕ)) (named : names ≡ run.image ∷ run.refs) where
  abbrev Parts : List Refusal
  Parts = malformed names files ++ (file_refusals names files ++ start_refusals run (world_of files))

  all_parts : refusals (Running run) (AllRead files) ≡ Parts
  all_parts =
      ap (λ (rest : List Refusal). malformed (run.image ∷ run.refs) files ++ rest) (run_parts run files)
      ∙ ap (λ (all : List (List ℕ)). malformed all files ++ (file_refusals all files ++ start_refusals run (world_of files))) (sym named)

  module _ {Y : Type 0} (Q : Y → Type 0) where
    of_parts : (result : Result Y Stop) → IsUnlessRefused Parts Q result
        → IsUnlessRefused (refusals (Running run) (AllRead files)) Q result
    of_parts result h = subst (λ (all : List Refusal). IsUnlessRefused all Q result) (sym all_parts) h

    pub check_stops : {X : Type 0} (P : X → Type 0) (stop : Stop) → IsUnlessRefused (malformed names files) P (Err stop)
        → IsUnlessRefused (refusals (Running run) (AllRead files)) Q (Err stop)
    check_stops P stop h =
        of_parts (Err stop)
        (stops_in_front P Q (malformed names files) (file_refusals names files ++ start_refusals run (world_of files)) stop h)

    pub load_stops : {X : Type 0} (P : X → Type 0) (stop : Stop) → malformed names files ≡ []
        → IsUnlessRefused (file_refusals names files) P (Err stop)
        → IsUnlessRefused (refusals (Running run) (AllRead files)) Q (Err stop)
    load_stops P stop well h =
        of_parts (Err stop)
        (stops_after Q Q (malformed names files) (file_refusals names files ++ start_refusals run (world_of files)) stop well
        (stops_in_front P Q (file_refusals names files) (start_refusals run (world_of files)) stop h))

    pub start_ends : (result : Result Y Stop) → malformed names files ≡ [] → file_refusals names files ≡ []
        → IsUnlessRefused (start_refusals run (world_of files)) Q result
        → IsUnlessRefused (refusals (Running run) (AllRead files)) Q result
    start_ends (Ok y) well loaded h =
        of_parts (Ok y)
        (ends_after Q Q (malformed names files) (file_refusals names files ++ start_refusals run (world_of files)) y well (λ q. q)
        (ends_after Q Q (file_refusals names files) (start_refusals run (world_of files)) y loaded (λ q. q) h))
    start_ends (Err stop) well loaded h =
        of_parts (Err stop)
        (stops_after Q Q (malformed names files) (file_refusals names files ++ start_refusals run (world_of files)) stop well
        (stops_after Q Q (file_refusals names files) (start_refusals run (world_of files)) stop loaded h))
