-- What the top call promises, from how a command ends.
use Rattle.std.proofs.Common.{◌≡◌, ℕ, ◌≤◌, List, ◌∷◌, [], Option, Some, None, option_and_then, sym, subst, ◌∙◌}
use Rattle.r2r_commands.specs.Command.{Command, Dump, Run, command_of, out_file}
use Rattle.r2r_commands.specs.RunWords.{Run as Asked}
use Rattle.r2r_commands.specs.Outside.{Outside, Takes, ChangesOnly}
use Rattle.r2r_commands.specs.Refusals.{usage_line}
use Rattle.r2r_commands.specs.Ending.{Ends}
use Rattle.r2r_commands.specs.Statuses.{Statuses, IsOneOf}
use Rattle.r2r_commands.specs.Program.{Runs}
use Rattle.r2r_commands.proofs.StatusesOf.{statuses_of_end}
use Rattle.r2r_commands.proofs.DumpStatusesOf.{dump_statuses_of_end}

module _ (words : List (List ℕ)) (before after : Outside) (status : ℕ) (contents : after.contents ≡ before.contents)
    (never_falls : before.faults ≤ after.faults) where
  pub usage_runs : command_of words ≡ None → status ≡ 1 → Takes usage_line before after → after.failed ≡ before.failed
      → Runs words before after status
  usage_runs is e line calls = record {
    usage = (λ h. is, λ h. e);
    usage_line = λ h. (line, calls);
    ends = rw is tt;
    statuses = rw is tt;
    dump = rw is tt;
    contents = rw is contents;
    never_falls = never_falls;
  }

  -- the status of a command is not that of usage
  not_one : IsOneOf (0 ∷ 2 ∷ 3 ∷ 4 ∷ 5 ∷ 6 ∷ 7 ∷ []) status → status ≡ 1 → ⊥
  not_one known e =
      let one : IsOneOf (0 ∷ 2 ∷ 3 ∷ 4 ∷ 5 ∷ 6 ∷ 7 ∷ []) 1 = subst (λ (n : ℕ). IsOneOf (0 ∷ 2 ∷ 3 ∷ 4 ∷ 5 ∷ 6 ∷ 7 ∷ []) n) e known in
      cc

  pub dump_runs : (name : List ℕ) → command_of words ≡ Some (Dump name) → Ends (Dump name) before after status
      → Runs words before after status
  dump_runs name is ends =
      let statuses : Statuses (Dump name) before after status = statuses_of_end (Dump name) before after status ends in
      record {
        usage = (λ h. absurd (not_one statuses.known h), λ h. absurd (let both : None ≡ Some (Dump name) = sym h ∙ is in cc));
        usage_line = λ h. absurd (not_one statuses.known h);
        ends = rw is ends;
        statuses = rw is statuses;
        dump = rw is (dump_statuses_of_end name before after status ends);
        contents = rw is contents;
        never_falls = never_falls;
      }

  pub run_runs : (run : Asked) → command_of words ≡ Some (Run run) → Ends (Run run) before after status → Runs words before after status
  run_runs run is ends =
      let statuses : Statuses (Run run) before after status = statuses_of_end (Run run) before after status ends in
      record {
        usage = (λ h. absurd (not_one statuses.known h), λ h. absurd (let both : None ≡ Some (Run run) = sym h ∙ is in cc));
        usage_line = λ h. absurd (not_one statuses.known h);
        ends = rw is ends;
        statuses = rw is statuses;
        dump = rw is tt;
        contents = rw is contents;
        never_falls = never_falls;
      }

-- no command writes a file today, so no file changes
pub nothing_changes : (words : List (List ℕ)) (before after : Outside) (status : ℕ) → Runs words before after status
    → after.contents ≡ before.contents
nothing_changes words before after status runs = by_command (command_of words) runs.contents
  where
    by_command : (command : Option Command) → ChangesOnly (option_and_then out_file command) before.contents after.contents
        → after.contents ≡ before.contents
    by_command None h = h
    by_command (Some (Dump name)) h = h
    by_command (Some (Run run)) h = h
