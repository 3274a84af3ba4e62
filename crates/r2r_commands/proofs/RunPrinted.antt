-- What a run prints, once its workers have run.
use Rattle.std.proofs.Common.{◌≡◌, ℕ, List, ◌++◌, length, take, drop, take_all, arith, All, Bool, cond, map, Option, Vec}
use Rattle.std.proofs.Common.{inl, inr, refl, sym, ap, subst, ◌∙◌}
use Rattle.std.proofs.lemmas.List.{length-map, take-append-le}
use Rattle.std.specs.Global.{Global}
use Rattle.std.specs.List.{list_all}
use Rattle.rtr_outside.specs.Sink.{Appends}
use Rattle.type_world.specs.Loading.{world_of}
use Rattle.type_world.specs.World.{World}
use Rattle.cli_assembly.specs.declared.signature.TypeSig.{TypeSig}
use Rattle.rtr_runner.specs.Workers.{IsReady, RunsEnd, WorkerState, ran_in}
use Rattle.r2r_commands.specs.declared.run_file.Ready.{Ready}
use Rattle.r2r_commands.specs.RunWords.{Run}
use Rattle.r2r_commands.specs.Outside.{CutsShort}
use Rattle.r2r_commands.specs.Running.{IsRunText, is_return, result_of, status_of_runs}
use Rattle.r2r_commands.specs.Printing.{has_returned, states_text}
use Rattle.r2r_commands.specs.Ready.{IsReadyRun, PrintsRun}
use Rattle.r2r_commands.proofs.Starts.{all_ready}
use Rattle.r2r_commands.proofs.States.{Came, came}

-- a vector whose elements were written through a slice of them all
written_back : {X : Type 0} (len : ℕ) (new old : List X) → length new ≡ len → take len (new ++ drop (length new) old) ≡ new
written_back len new old same =
    take-append-le len new (drop (length new) old) (omega (arith, same)) ∙ take_all len new (omega (arith, same))

-- a vector whose elements were changed one by one
pub all_written : {X : Type 0} (f : X → X) (vec : Vec X Global) (before new after : List X) → before ≡ vec.items → new ≡ map f before
    → after ≡ take vec.len (new ++ drop (length new) vec.items) → after ≡ map f vec.items
all_written f vec before new after is changed back =
    let long : length new ≡ length vec.items = ap length changed ∙ length-map before f ∙ ap length is in
    back ∙ written_back vec.len new vec.items (omega (arith, long, vec.ok.0)) ∙ changed ∙ ap (map f) is

module _ (run : Run) (files : List (List ℕ)) (ready : Ready) (is : IsReadyRun run files ready) where
  abbrev W : World
  W = world_of files

  -- each worker is ready to run
  pub each_ready : All (IsReady W) ready.workers.items
  each_ready =
      subst (λ (ws : List WorkerState). All (IsReady W) ws) (sym is.workers) (all_ready W is.entry run.ticks 0 run.workers is.starts)

  module _ (law : RunsEnd) where
    whole : Came law W is.entry run.ticks (result_of W is.entry) 0 run.workers
    whole = came law W is.entry run.ticks (result_of W is.entry) 0 run.workers is.starts

    module _ (after : List WorkerState) (ran : after ≡ map (ran_in W) ready.workers.items) where
      text_is : IsRunText run files (status_of_runs whole.ended) (states_text ready.ret after)
      text_is = record {
        entry = is.entry;
        is_entry = is.is_entry;
        ended = whole.ended;
        ran = whole.ran;
        is_status = refl;
        is_text = ap (λ (ret : TypeSig). states_text ret after) is.ret
            ∙ ap (λ (ws : List WorkerState). states_text (result_of W is.entry) ws) ran
            ∙ ap (λ (ws : List WorkerState). states_text (result_of W is.entry) (map (ran_in W) ws)) is.workers
            ∙ whole.text;
      }

      status_is : (returned : Bool) → list_all has_returned after ≡ returned → cond returned 0 6 ≡ status_of_runs whole.ended
      status_is returned e =
          let same : returned ≡ list_all (λ ended. is_return ended.ending) whole.ended =
          sym e ∙ ap (λ (ws : List WorkerState). list_all has_returned ws) ran
          ∙ ap (λ (ws : List WorkerState). list_all has_returned (map (ran_in W) ws)) is.workers ∙ whole.returned in
          ap (λ (b : Bool). cond b 0 6) same

      module _ {S : Type 0} (written : S → Option (List ℕ)) (faults : S → ℕ) (old new : S) where
        pub printed_whole : (returned : Bool) → list_all has_returned after ≡ returned
            → Appends (states_text ready.ret after) (written old) (written new)
            → PrintsRun written faults run files old new (cond returned 0 6)
        printed_whole returned e came = record {
          whole = status_of_runs whole.ended;
          text = states_text ready.ret after;
          is = text_is;
          printed = inl (status_is returned e, came);
        }

        pub printed_cut : CutsShort written faults (states_text ready.ret after) old new → PrintsRun written faults run files old new 5
        printed_cut cut = record {
          whole = status_of_runs whole.ended;
          text = states_text ready.ret after;
          is = text_is;
          printed = inr (refl, cut);
        }
