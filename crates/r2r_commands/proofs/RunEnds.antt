-- How a run ends, from how its parts end.
use Rattle.std.proofs.Common.{◌≡◌, ℕ, List, [], ◌∷◌, ◌++◌, Option, Some, inl, inr, refl, sym, ap, subst, ◌∙◌, append-nil}
use Rattle.rtr_outside.specs.Files.{Contents, Call}
use Rattle.r2r_commands.specs.Command.{Command, Run, inputs}
use Rattle.r2r_commands.specs.Outside.{seen}
use Rattle.r2r_commands.specs.Reading.{AllRead, ComesTo}
use Rattle.r2r_commands.specs.Refusals.{Refusal, TooMany, ReadFailed, TooLong, Malformed, DuplicateName, NotIlOnly, NoEntry, BadArguments}
use Rattle.r2r_commands.specs.Refusals.{failed_calls}
use Rattle.r2r_commands.specs.Ending.{Refuses, Answers, IsAnswer, Ends, FindsNoMemory, PrintsIfMemory, calls_of, conditions, malformed, refusals}
use Rattle.r2r_commands.specs.Loaded.{first_of}
use Rattle.r2r_commands.specs.RunWords.{Run as Asked}
use Rattle.r2r_commands.specs.Running.{IsRunText}
use Rattle.r2r_commands.specs.Ready.{PrintsReply, PrintsRun}
use Rattle.r2r_commands.proofs.Decided.{no_failed_read}
use Rattle.r2r_commands.proofs.Endings.{as_seen, quiet_ends}
use Rattle.r2r_commands.proofs.Firsts.{answer_decides, first_decides}

-- ---- what refuses files that were read makes no failed call

module _ (command : Command) (files : List (List ℕ)) where
  abbrev All : List Refusal
  All = malformed (inputs command) files ++ conditions command files

  no_read : (all : List Refusal) (name : List ℕ) → all ≡ All → first_of all ≡ Some (ReadFailed name) → ⊥
  no_read [] name e h = cc
  no_read (first ∷ later) name e h =
      let same : first ≡ ReadFailed name = cc in
      no_failed_read command files name later (inputs command) files (sym e ∙ ap (λ (r : Refusal). r ∷ later) same)

  pub no_calls : (refusal : Refusal) → first_of All ≡ Some refusal → failed_calls refusal ≡ []
  no_calls (TooMany n) e = refl
  no_calls (ReadFailed name) e = absurd (no_read All name refl e)
  no_calls (TooLong name) e = refl
  no_calls (Malformed name fault) e = refl
  no_calls (DuplicateName i j) e = refl
  no_calls (NotIlOnly name) e = refl
  no_calls NoEntry e = refl
  no_calls (BadArguments worker) e = refl

  -- the line of the first refusal was printed
  pub refused : {S : Type 0} (written : S → Option (List ℕ)) (faults : S → ℕ) (old new : S) (status : ℕ) (refusal : Refusal)
      → first_of All ≡ Some refusal → PrintsIfMemory written faults (Refuses refusal) old new status
      → PrintsReply written faults command files old new status
  refused written faults old new status refusal e (inl printed) = inl (record {
    reply = Refuses refusal;
    is = first_decides All (IsAnswer command (AllRead files) (Refuses refusal)) refusal e;
    calls = no_calls refusal e;
    printed = printed;
  })
  refused written faults old new status refusal e (inr nothing) = inr nothing

-- a text of the run was printed
pub answered : {S : Type 0} (written : S → Option (List ℕ)) (faults : S → ℕ) (run : Asked) (files others : List (List ℕ)) (old new : S)
    (status : ℕ) → others ≡ files → refusals (Run run) (AllRead files) ≡ [] → PrintsRun written faults run others old new status
    → PrintsReply written faults (Run run) files old new status
answered written faults run files others old new status same none p = inl (record {
  reply = Answers p.whole p.text;
  is = answer_decides (refusals (Run run) (AllRead files)) (IsAnswer (Run run) (AllRead files) (Answers p.whole p.text))
      (Answers p.whole p.text) none (subst (λ (all : List (List ℕ)). IsRunText run all p.whole p.text) same p.is);
  calls = refl;
  printed = p.printed;
})

-- ---- a run of files that were read

module _ {F S : Type 0} (contents : F → Option Contents) (failed : F → List Call) (written : S → Option (List ℕ)) (faults : S → ℕ)
    (before after : F) (old new : S) (status : ℕ) where
  pub run_ends : (command : Command) (files : List (List ℕ)) → failed after ≡ failed before
      → ComesTo (contents before) (inputs command) (AllRead files) → PrintsReply written faults command files old new status
      → Ends command (seen contents failed written faults before old) (seen contents failed written faults after new) status
  run_ends command files same comes (inl replied) =
      let calls : failed after ≡ failed before ++ calls_of replied.reply =
      same ∙ sym (ap (λ (gained : List Call). failed before ++ gained) replied.calls ∙ append-nil (failed before)) in
      quiet_ends command (seen contents failed written faults before old) (seen contents failed written faults after new) status
      (AllRead files) replied.reply comes replied.is same calls
      (as_seen contents failed written faults before after old new status replied.reply (inl replied.printed))
  run_ends command files same comes (inr (e, nothing)) = FindsNoMemory e nothing (inl same)
