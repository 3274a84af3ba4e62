-- What a reply says of the refusals that decide it.
use Rattle.std.proofs.Common.{◌≡◌, ℕ, ◌≤◌, List, [], ◌∷◌, ◌++◌, ◌⊎◌, inl, inr, Option, Some, None, refl, subst, arith}
use Rattle.rtr_bytes.specs.declared.fault.Fault.{Fault}
use Rattle.rtr_outside.specs.Files.{Contents}
use Rattle.r2rdump.specs.Dump.{file_fault}
use Rattle.r2r_commands.specs.Command.{Command, Dump, Run, inputs, out_file}
use Rattle.r2r_commands.specs.Reading.{Reading, OverMost, Failed, OverLimit, AllRead, ComesTo, IsReached}
use Rattle.r2r_commands.specs.Refusals.{Refusal, TooMany, ReadFailed, TooLong, Malformed, DuplicateName, NotIlOnly, NoEntry, BadArguments, status_of}
use Rattle.r2r_commands.specs.Ending.{Reply, Refuses, Answers, FailsToWrite, Decides, IsAnswer, IsText, conditions, malformed}
use Rattle.r2r_commands.specs.Ending.{malformed_by, refusals}
use Rattle.r2r_commands.specs.Statuses.{HasText, IsRefused, IsUnrefused}
use Rattle.r2r_commands.proofs.RunsDecided.{no_failed_run, run_text_status}

-- the first of these refusals is the reply
pub record FirstOf (all : List Refusal) (reply : Reply) : Type 0 where
  pub refusal : Refusal
  pub later : List Refusal
  pub first : all ≡ refusal ∷ later
  pub is : reply ≡ Refuses refusal

pub decided : (all : List Refusal) (A : Type 0) (reply : Reply) → Decides all A reply → ((all ≡ []) × A) ⊎ FirstOf all reply
decided [] A reply d = inl (refl, d)
decided (refusal ∷ later) A reply d = inr (record { refusal = refusal; later = later; first = refl; is = d })

-- the reply is a text that the command may print
pub record AnswerOf (command : Command) (contents : Option Contents) (reply : Reply) : Type 0 where
  pub status : ℕ
  pub text : List ℕ
  pub is : reply ≡ Answers status text
  pub has : HasText command contents status text

-- the reply is that the write of the command's file failed
pub record FailureOf (command : Command) (contents : Option Contents) (reply : Reply) : Type 0 where
  pub name : List ℕ
  pub is : reply ≡ FailsToWrite name
  pub out : out_file command ≡ Some name
  pub unrefused : IsUnrefused command contents

pub answered : (command : Command) (contents : Option Contents) (reading : Reading) (reply : Reply)
    → ComesTo contents (inputs command) reading → refusals command reading ≡ [] → IsAnswer command reading reply
    → AnswerOf command contents reply ⊎ FailureOf command contents reply
answered command contents (AllRead files) (Answers status text) comes none is = inl (record {
  status = status;
  text = text;
  is = refl;
  has = record { files = files; read = comes; unrefused = none; text_of = is };
})
answered command contents (AllRead files) (FailsToWrite name) comes none is = inr (record {
  name = name;
  is = refl;
  out = is;
  unrefused = record { files = files; read = comes; unrefused = none };
})
answered command contents (AllRead files) (Refuses refusal) comes none is = absurd is
answered command contents (OverMost n) reply comes none is = absurd cc
answered command contents (Failed name) reply comes none is = absurd cc
answered command contents (OverLimit name) reply comes none is = absurd cc

-- ---- statuses

pub refusal_status : (refusal : Refusal) → (2 ≤ status_of refusal) × (status_of refusal ≤ 4)
refusal_status (TooMany n) = (omega arith, omega arith)
refusal_status (ReadFailed name) = (omega arith, omega arith)
refusal_status (TooLong name) = (omega arith, omega arith)
refusal_status (Malformed name fault) = (omega arith, omega arith)
refusal_status (DuplicateName i j) = (omega arith, omega arith)
refusal_status (NotIlOnly name) = (omega arith, omega arith)
refusal_status NoEntry = (omega arith, omega arith)
refusal_status (BadArguments worker) = (omega arith, omega arith)

pub text_status : (command : Command) (files : List (List ℕ)) (status : ℕ) (text : List ℕ) → IsText command files status text
    → (status ≡ 0) ⊎ (status ≡ 6)
text_status (Dump name) [] status text h = absurd h
text_status (Dump name) (bytes ∷ []) status text h = inl h.0
text_status (Dump name) (bytes ∷ more ∷ files) status text h = absurd h
text_status (Run run) files status text h = run_text_status run files status text h

-- what a refusal of this status is
pub read_failed_of : (refusal : Refusal) → status_of refusal ≡ 2 → (name : List ℕ) × (refusal ≡ ReadFailed name)
read_failed_of (TooMany n) e = absurd (omega arith)
read_failed_of (ReadFailed name) e = (name, refl)
read_failed_of (TooLong name) e = absurd (omega arith)
read_failed_of (Malformed name fault) e = absurd (omega arith)
read_failed_of (DuplicateName i j) e = absurd (omega arith)
read_failed_of (NotIlOnly name) e = absurd (omega arith)
read_failed_of NoEntry e = absurd (omega arith)
read_failed_of (BadArguments worker) e = absurd (omega arith)

pub malformed_of : (refusal : Refusal) → status_of refusal ≡ 3 → (name : List ℕ) × (fault : Fault) × (refusal ≡ Malformed name fault)
malformed_of (TooMany n) e = absurd (omega arith)
malformed_of (ReadFailed name) e = absurd (omega arith)
malformed_of (TooLong name) e = absurd (omega arith)
malformed_of (Malformed name fault) e = (name, fault, refl)
malformed_of (DuplicateName i j) e = absurd (omega arith)
malformed_of (NotIlOnly name) e = absurd (omega arith)
malformed_of NoEntry e = absurd (omega arith)
malformed_of (BadArguments worker) e = absurd (omega arith)

-- ---- a failed read

-- no file that was read makes a failed read
no_condition : (command : Command) (files : List (List ℕ)) (name : List ℕ) (later : List Refusal)
    → conditions command files ≡ ReadFailed name ∷ later → ⊥
no_condition (Dump file) files name later e = cc
no_condition (Run run) files name later e = no_failed_run run files name later e

pub no_failed_read : (command : Command) (files : List (List ℕ)) (name : List ℕ) (later : List Refusal) (names bytes : List (List ℕ))
    → malformed names bytes ++ conditions command files ≡ ReadFailed name ∷ later → ⊥
no_failed_read command files name later [] bytes e = no_condition command files name later e
no_failed_read command files name later (n ∷ names) [] e = no_condition command files name later e
no_failed_read command files name later (n ∷ names) (b ∷ bytes) e =
    by_fault (file_fault b) e (λ rest. no_failed_read command files name later names bytes rest)
  where
    by_fault : (fault : Option Fault)
        → (malformed_by n fault ++ malformed names bytes) ++ conditions command files ≡ ReadFailed name ∷ later
        → (malformed names bytes ++ conditions command files ≡ ReadFailed name ∷ later → ⊥) → ⊥
    by_fault None h others = others h
    by_fault (Some fault) h others = cc

-- a reading whose first refusal is a failed read failed at that file
failed_reading : (command : Command) (contents : Option Contents) (name : List ℕ) (reading : Reading) (later : List Refusal)
    → ComesTo contents (inputs command) reading → refusals command reading ≡ ReadFailed name ∷ later
    → IsReached contents (inputs command) name
failed_reading command contents name (OverMost n) later comes e = absurd cc
failed_reading command contents name (Failed other) later comes e =
    let same : other ≡ name = cc in
    subst (λ (n : List ℕ). IsReached contents (inputs command) n) same comes.1
failed_reading command contents name (OverLimit other) later comes e = absurd cc
failed_reading command contents name (AllRead files) later comes e =
    absurd (no_failed_read command files name later (inputs command) files e)

pub reached : (command : Command) (contents : Option Contents) (name : List ℕ) → IsRefused command contents (ReadFailed name)
    → IsReached contents (inputs command) name
reached command contents name r = failed_reading command contents name r.reading r.later r.read r.first
