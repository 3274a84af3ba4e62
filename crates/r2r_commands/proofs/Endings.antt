-- How a command ends, from how its parts end.
use Rattle.std.proofs.Common.{◌≡◌, ℕ, List, [], ◌∷◌, ◌++◌, inl, inr, take, Contains, Option, Some, None}
use Rattle.std.proofs.Common.{refl, sym, ap, subst, ◌∙◌, arith, append-nil}
use Rattle.std.proofs.Common.{Vec, map, vec_items, get_or}
use Rattle.std.proofs.lemmas.List.Elements.{Contains-append_right}
use Rattle.std.specs.Global.{Global}
use Rattle.rtr_bytes.specs.declared.fault.Fault.{Fault}
use Rattle.rtr_outside.specs.Files.{Contents, Call, Read}
use Rattle.rtr_outside.specs.Sink.{Appends, Rose}
use Rattle.r2rdump.specs.Dump.{file_fault, IsUntouched}
use Rattle.r2r_commands.specs.Command.{Command, Dump, inputs}
use Rattle.r2r_commands.specs.Outside.{Outside, seen, written_of, faults_of, CutsShort}
use Rattle.r2r_commands.specs.Reading.{Reading, OverMost, Failed, OverLimit, AllRead, ComesTo, IsReached}
use Rattle.r2r_commands.specs.Inputs.{IsStoppedBy}
use Rattle.r2r_commands.specs.Refusals.{Refusal, TooMany, ReadFailed, TooLong, Malformed, DuplicateName, NotIlOnly, NoEntry}
use Rattle.r2r_commands.specs.Refusals.{BadArguments, failed_calls}
use Rattle.r2r_commands.specs.Ending.{Reply, Refuses, Answers, FailsToWrite, Decides, IsAnswer, PrintsIfMemory, Ends}
use Rattle.r2r_commands.specs.Ending.{Replies, FindsNoMemory, IsReply}
use Rattle.r2r_commands.specs.Ending.{calls_of, malformed_by}
use Rattle.r2r_commands.specs.Dump.{dump_reply}

module _ {S : Type 0} (written : S → Option (List ℕ)) (faults : S → ℕ) where
  -- a text that is printed at one moment is printed from an earlier one, where nothing came to the output in between
  whole_since : (text : List ℕ) (before mid after : S) → IsUntouched written faults before mid
      → Appends text (written mid) (written after) → Appends text (written before) (written after)
  whole_since text before mid after (w, f) whole = subst (λ (old : Option (List ℕ)). Appends text old (written after)) w whole

  front_since : (text : List ℕ) (before mid after : S) → IsUntouched written faults before mid
      → CutsShort written faults text mid after → CutsShort written faults text before after
  front_since text before mid after (w, f) (rose, (k, cut)) = (
    subst (λ (old : ℕ). Rose old (faults after)) f rose,
    (k, subst (λ (old : Option (List ℕ)). Appends (take k text) old (written after)) w cut),
  )

  pub since : (reply : Reply) (before mid after : S) (status : ℕ) → IsUntouched written faults before mid
      → PrintsIfMemory written faults reply mid after status → PrintsIfMemory written faults reply before after status
  since (Refuses refusal) before mid after status u (inl (e, inl whole)) = inl (e, inl (whole_since _ before mid after u whole))
  since (Refuses refusal) before mid after status u (inl (e, inr front)) = inl (e, inr (front_since _ before mid after u front))
  since (Answers n text) before mid after status u (inl (inl (e, whole))) = inl (inl (e, whole_since text before mid after u whole))
  since (Answers n text) before mid after status u (inl (inr (e, front))) = inl (inr (e, front_since text before mid after u front))
  since (FailsToWrite name) before mid after status u (inl (e, inl whole)) = inl (e, inl (whole_since _ before mid after u whole))
  since (FailsToWrite name) before mid after status u (inl (e, inr front)) = inl (e, inr (front_since _ before mid after u front))
  since reply before mid after status (w, f) (inr (e, (v, h))) = inr (e, (v ∙ w, h ∙ f))

-- what is printed, as it is seen
module _ {F S : Type 0} (contents : F → Option Contents) (failed : F → List Call) (written : S → Option (List ℕ)) (faults : S → ℕ)
    (files later : F) (old new : S) (status : ℕ) where
  pub as_seen : (reply : Reply) → PrintsIfMemory written faults reply old new status
      → PrintsIfMemory written_of faults_of reply (seen contents failed written faults files old)
      (seen contents failed written faults later new) status
  as_seen (Refuses refusal) printed = printed
  as_seen (Answers whole text) printed = printed
  as_seen (FailsToWrite name) printed = printed

-- ---- a refusal of the reading

among : (contents : Option Contents) (names : List (List ℕ)) (name : List ℕ) → IsReached contents names name → Contains names name
among contents names name r =
    subst (λ (all : List (List ℕ)). Contains all name) (sym r.in_order)
    (Contains-append_right r.earlier (name ∷ r.later) name (0, omega arith, refl))

module _ (command : Command) (before after : Outside) (status : ℕ) where
  abbrev PrintsReply : Reply → Type 0
  PrintsReply reply = PrintsIfMemory written_of faults_of reply before after status

  -- a reading and its reply, where no call failed
  pub quiet_ends : (reading : Reading) (reply : Reply) → ComesTo before.contents (inputs command) reading → IsReply command reading reply
      → after.failed ≡ before.failed → after.failed ≡ before.failed ++ calls_of reply → PrintsReply reply → Ends command before after status
  quiet_ends reading reply comes is same calls (inl printed) = Replies reading reply comes is calls printed
  quiet_ends reading reply comes is same calls (inr (e, nothing)) = FindsNoMemory e nothing (inl same)

  pub stopped_ends : (refusal : Refusal) → after.failed ≡ before.failed ++ failed_calls refusal
      → IsStoppedBy before.contents (inputs command) refusal → PrintsReply (Refuses refusal) → Ends command before after status
  stopped_ends (TooMany n) calls comes printed =
      quiet_ends (OverMost n) (Refuses (TooMany n)) comes refl (calls ∙ append-nil before.failed) calls printed
  stopped_ends (ReadFailed name) calls comes (inl printed) = Replies (Failed name) (Refuses (ReadFailed name)) comes refl calls printed
  stopped_ends (ReadFailed name) calls comes (inr (e, nothing)) =
      FindsNoMemory e nothing (inr (Read name, among before.contents (inputs command) name comes.1, calls))
  stopped_ends (TooLong name) calls comes printed =
      quiet_ends (OverLimit name) (Refuses (TooLong name)) comes refl (calls ∙ append-nil before.failed) calls printed
  stopped_ends (Malformed name fault) calls comes printed = absurd comes
  stopped_ends (DuplicateName i j) calls comes printed = absurd comes
  stopped_ends (NotIlOnly name) calls comes printed = absurd comes
  stopped_ends NoEntry calls comes printed = absurd comes
  stopped_ends (BadArguments worker) calls comes printed = absurd comes

-- ---- a dump of bytes that were read

module _ (name bytes : List ℕ) (before after : Outside) (status : ℕ) where
  is_reply : (first : Option Fault)
      → Decides ((malformed_by name first ++ []) ++ []) (IsAnswer (Dump name) (AllRead (bytes ∷ [])) (dump_reply name bytes first))
      (dump_reply name bytes first)
  is_reply None = (refl, refl)
  is_reply (Some fault) = refl

  no_calls : (first : Option Fault) → calls_of (dump_reply name bytes first) ≡ []
  no_calls None = refl
  no_calls (Some fault) = refl

  pub read_ends : after.failed ≡ before.failed → ComesTo before.contents (name ∷ []) (AllRead (bytes ∷ []))
      → PrintsIfMemory written_of faults_of (dump_reply name bytes (file_fault bytes)) before after status
      → Ends (Dump name) before after status
  read_ends same comes printed =
      let calls : after.failed ≡ before.failed ++ calls_of (dump_reply name bytes (file_fault bytes)) =
      same ∙ sym (ap (λ (gained : List Call). before.failed ++ gained) (no_calls (file_fault bytes)) ∙ append-nil before.failed) in
      quiet_ends (Dump name) before after status (AllRead (bytes ∷ [])) (dump_reply name bytes (file_fault bytes)) comes
      (is_reply (file_fault bytes)) same calls printed

-- the one file that was read
pub only_file : (contents : Option Contents) (name : List ℕ) (files : List (Vec ℕ Global)) (d : Vec ℕ Global)
    → ComesTo contents (name ∷ []) (AllRead (map vec_items files))
    → ComesTo contents (name ∷ []) (AllRead ((get_or files 0 d).items ∷ []))
only_file contents name [] d (most, read) = absurd read
only_file contents name (file ∷ []) d comes = comes
only_file contents name (file ∷ more ∷ files) d (most, read) = absurd read.1
