-- What the statuses say of a dump, from how it ends.
use Rattle.std.proofs.Common.{◌≡◌, ℕ, ◌<◌, ◌≤◌, List, [], ◌∷◌, ◌++◌, ◌⊎◌, inl, inr, length, Option, Some, None, Bool}
use Rattle.std.proofs.Common.{true, false, cond, slice_index_or}
use Rattle.std.proofs.Common.{refl, sym, ap, subst, ◌∙◌, arith, append-nil, length-append, lt-ltb, le-ltb}
use Rattle.std.specs.Prelude.{nat_lt}
use Rattle.rtr_bytes.specs.declared.fault.Fault.{Fault}
use Rattle.rtr_outside.specs.Files.{Contents, Call, Read, Write, IsKnownAs, IsKnownLonger, file_limit}
use Rattle.r2rdump.specs.Dump.{dump_text, file_fault}
use Rattle.r2r_commands.specs.Command.{Dump}
use Rattle.r2r_commands.specs.Outside.{Outside, written_of, faults_of, Takes, TakesWhole, TakesFront, TakesNothing}
use Rattle.r2r_commands.specs.Reading.{Reading, OverMost, Failed, OverLimit, AllRead, ComesTo, IsRead, IsReached}
use Rattle.r2r_commands.specs.Refusals.{ReadFailed, TooLong, Malformed, line_of}
use Rattle.r2r_commands.specs.Ending.{Reply, Refuses, Answers, FailsToWrite, Prints, Ends, Replies, FindsNoMemory, IsReply}
use Rattle.r2r_commands.specs.Ending.{IsAnswer, Decides, GainsAtMostOne}
use Rattle.r2r_commands.specs.Ending.{calls_of, malformed_by}
use Rattle.r2r_commands.specs.Dump.{DumpStatuses, Exposes, ExposesNone, statuses_of, statuses_by_fault, dump_reply}
use Rattle.r2r_commands.specs.Statuses.{IsOneOf}

-- one more call makes another list
longer : (old new : List Call) (call : Call) → new ≡ old ++ call ∷ [] → new ≡ old → ⊥
longer old new call e h =
    let n : length (old ++ call ∷ []) ≡ length old = ap length (sym e ∙ h) in
    omega (arith, n, length-append old (call ∷ []))

-- the one name of a list
only_name : (name other : List ℕ) (earlier later : List (List ℕ)) → name ∷ [] ≡ earlier ++ other ∷ later → other ≡ name
only_name name other [] later e = cc
only_name name other (first ∷ earlier) later e =
    let n : 1 ≡ length (first ∷ (earlier ++ other ∷ later)) = ap length e in
    absurd (omega (arith, n, length-append earlier (other ∷ later)))

reaches : (contents : Option Contents) (name other : List ℕ) → IsReached contents (name ∷ []) other → other ≡ name
reaches contents name other r = only_name name other r.earlier r.later r.in_order

-- what was read is what the files expose
open_file : (contents : Option Contents) (name a b : List ℕ) → IsKnownAs contents name a → Exposes contents name b → a ≡ b
open_file None name a b h k = absurd k
open_file (Some files) name a b h k = let e : Some a ≡ Some b = sym h ∙ k in cc

read_missing : (contents : Option Contents) (name a : List ℕ) → IsKnownAs contents name a → ExposesNone contents name → ⊥
read_missing None name a h k = k
read_missing (Some files) name a h k = let e : Some a ≡ None = sym h ∙ k in cc

long_file : (contents : Option Contents) (name b : List ℕ) → IsKnownLonger file_limit contents name → Exposes contents name b
    → file_limit < length b
long_file None name b h k = absurd k
long_file (Some files) name b h k =
    let e : Some h.0 ≡ Some b = sym h.1 ∙ k in
    let same : h.0 ≡ b = cc in
    subst (λ (bytes : List ℕ). file_limit < length bytes) same h.2

long_missing : (contents : Option Contents) (name : List ℕ) → IsKnownLonger file_limit contents name → ExposesNone contents name → ⊥
long_missing None name h k = k
long_missing (Some files) name h k = let e : Some h.0 ≡ None = sym h.1 ∙ k in cc

-- the statuses of a file above the limit, and of one within it
statuses_long : (bytes : List ℕ) → file_limit < length bytes → statuses_of bytes ≡ 4 ∷ 7 ∷ []
statuses_long bytes h = rw (lt-ltb file_limit (length bytes) h) refl

statuses_within : (bytes : List ℕ) (first : Option Fault) → length bytes ≤ file_limit → file_fault bytes ≡ first
    → statuses_of bytes ≡ statuses_by_fault first
statuses_within bytes first h e = rw (le-ltb file_limit (length bytes) h, e) refl

-- want of memory is always allowed for
seven_by_fault : (first : Option Fault) → IsOneOf (statuses_by_fault first) 7
seven_by_fault None = refl
seven_by_fault (Some fault) = refl

seven : (bytes : List ℕ) → IsOneOf (statuses_of bytes) 7
seven bytes = by_test (nat_lt file_limit (length bytes)) (file_fault bytes)
  where
    by_test : (b : Bool) (first : Option Fault) → IsOneOf (cond b (4 ∷ 7 ∷ []) (statuses_by_fault first)) 7
    by_test true first = refl
    by_test false first = seven_by_fault first

-- how one dump ended
module _ (name : List ℕ) (before after : Outside) (result : ℕ) where
  abbrev Causes : Type 0
  Causes = DumpStatuses name before after result

  abbrev Same : Type 0
  Same = after.failed ≡ before.failed

  -- the one call that may have failed is the read of the file
  of_read : GainsAtMostOne (Dump name) before.failed after.failed → result ≡ 7
      → Same ⊎ ((after.failed ≡ before.failed ++ Read name ∷ []) × IsOneOf (2 ∷ 7 ∷ []) result)
  of_read (inl same) e = inl same
  of_read (inr (Read other, (k, bound, is), gained)) e =
      let first : k ≡ 0 = omega arith in
      let same : other ≡ name = by_place k first is in
      inr (subst (λ (n : List ℕ). after.failed ≡ before.failed ++ Read n ∷ []) same gained, rw e refl)
    where
      by_place : (k : ℕ) → k ≡ 0 → slice_index_or (name ∷ []) k other ≡ other → other ≡ name
      by_place k zero at = sym (rw zero at at)
  of_read (inr (Write other, is, gained)) e = absurd cc

  no_memory_causes : result ≡ 7 → TakesNothing before after → GainsAtMostOne (Dump name) before.failed after.failed → Causes
  no_memory_causes e nothing gains = record {
    status = rw e refl;
    dumped = λ h. absurd (omega arith);
    read_failed = λ h. absurd (omega arith);
    malformed = λ h. absurd (omega arith);
    too_long = λ h. absurd (omega arith);
    write_fault = λ h. absurd (omega arith);
    no_memory = λ h. nothing;
    exposed = λ bytes t c. rw e (seven bytes);
    missing = λ t. rw e refl;
    failed_calls = of_read gains e;
  }

  failed_causes : after.failed ≡ before.failed ++ Read name ∷ [] → result ≡ 2 → Takes (line_of (ReadFailed name)) before after → Causes
  failed_causes calls e p = record {
    status = rw e refl;
    dumped = λ h. absurd (omega arith);
    read_failed = λ h. (calls, p);
    malformed = λ h. absurd (omega arith);
    too_long = λ h. absurd (omega arith);
    write_fault = λ h. absurd (omega arith);
    no_memory = λ h. absurd (omega arith);
    exposed = λ bytes t c. absurd (longer before.failed after.failed (Read name) calls c);
    missing = λ t. rw e refl;
    failed_calls = inr (calls, rw e refl);
  }

  too_long_causes : Same → IsKnownLonger file_limit before.contents name → result ≡ 4 → Takes (line_of (TooLong name)) before after
      → Causes
  too_long_causes calls long e p = record {
    status = rw e refl;
    dumped = λ h. absurd (omega arith);
    read_failed = λ h. absurd (omega arith);
    malformed = λ h. absurd (omega arith);
    too_long = λ h. (long, p);
    write_fault = λ h. absurd (omega arith);
    no_memory = λ h. absurd (omega arith);
    exposed = λ bytes t c. rw (e, statuses_long bytes (long_file before.contents name bytes long t)) refl;
    missing = λ t. absurd (long_missing before.contents name long t);
    failed_calls = inl calls;
  }

  -- a file that was read
  module _ (bytes : List ℕ) (calls : Same) (read : IsRead before.contents name bytes) where
    -- what its first fault allows is allowed of the bytes that the files expose
    by_bytes : (first : Option Fault) → file_fault bytes ≡ first → IsOneOf (statuses_by_fault first) result
        → (b : List ℕ) → Exposes before.contents name b → IsOneOf (statuses_of b) result
    by_bytes first is one b t =
        let of_bytes : IsOneOf (statuses_of bytes) result = rw (statuses_within bytes first read.within is) one in
        subst (λ (x : List ℕ). IsOneOf (statuses_of x) result) (open_file before.contents name bytes b read.known t) of_bytes

    malformed_causes : (fault : Fault) → file_fault bytes ≡ Some fault → result ≡ 3
        → Takes (line_of (Malformed name fault)) before after → Causes
    malformed_causes fault first e p = record {
      status = rw e refl;
      dumped = λ h. absurd (omega arith);
      read_failed = λ h. absurd (omega arith);
      malformed = λ h. (bytes, read, (fault, first, p));
      too_long = λ h. absurd (omega arith);
      write_fault = λ h. absurd (omega arith);
      no_memory = λ h. absurd (omega arith);
      exposed = λ b t c. by_bytes (Some fault) first (rw e refl) b t;
      missing = λ t. absurd (read_missing before.contents name bytes read.known t);
      failed_calls = inl calls;
    }

    dumped_causes : file_fault bytes ≡ None → result ≡ 0 → TakesWhole (dump_text name bytes) before after → Causes
    dumped_causes first e p = record {
      status = rw e refl;
      dumped = λ h. (bytes, read, (first, p));
      read_failed = λ h. absurd (omega arith);
      malformed = λ h. absurd (omega arith);
      too_long = λ h. absurd (omega arith);
      write_fault = λ h. absurd (omega arith);
      no_memory = λ h. absurd (omega arith);
      exposed = λ b t c. by_bytes None first (rw e refl) b t;
      missing = λ t. absurd (read_missing before.contents name bytes read.known t);
      failed_calls = inl calls;
    }

    cut_causes : file_fault bytes ≡ None → result ≡ 5 → TakesFront (dump_text name bytes) before after → Causes
    cut_causes first e p = record {
      status = rw e refl;
      dumped = λ h. absurd (omega arith);
      read_failed = λ h. absurd (omega arith);
      malformed = λ h. absurd (omega arith);
      too_long = λ h. absurd (omega arith);
      write_fault = λ h. (p.0, (bytes, read, (first, p)));
      no_memory = λ h. absurd (omega arith);
      exposed = λ b t c. by_bytes None first (rw e refl) b t;
      missing = λ t. absurd (read_missing before.contents name bytes read.known t);
      failed_calls = inl calls;
    }

    -- by the first fault of what was read
    by_fault : (first : Option Fault) → file_fault bytes ≡ first
        → Prints written_of faults_of (dump_reply name bytes first) before after result → Causes
    by_fault None first (inl (e, whole)) = dumped_causes first e whole
    by_fault None first (inr (e, front)) = cut_causes first e front
    by_fault (Some fault) first (e, p) = malformed_causes fault first e p

  -- the reply to the file's bytes is that of the dump
  of_answer : (bytes : List ℕ) (reply : Reply) → IsAnswer (Dump name) (AllRead (bytes ∷ [])) reply → reply ≡ dump_reply name bytes None
  of_answer bytes (Answers status text) (s, t) = rw (s, t) refl
  of_answer bytes (Refuses refusal) is = absurd is
  of_answer bytes (FailsToWrite other) is = absurd cc

  of_first : (bytes : List ℕ) (reply : Reply) (first : Option Fault)
      → Decides ((malformed_by name first ++ []) ++ []) (IsAnswer (Dump name) (AllRead (bytes ∷ [])) reply) reply
      → reply ≡ dump_reply name bytes first
  of_first bytes reply None is = of_answer bytes reply is
  of_first bytes reply (Some fault) is = is

  of_bytes : (bytes : List ℕ) (reply : Reply) → IsReply (Dump name) (AllRead (bytes ∷ [])) reply
      → reply ≡ dump_reply name bytes (file_fault bytes)
  of_bytes bytes reply is = of_first bytes reply (file_fault bytes) is

  no_calls : (bytes : List ℕ) (first : Option Fault) → calls_of (dump_reply name bytes first) ≡ []
  no_calls bytes None = refl
  no_calls bytes (Some fault) = refl

  by_reading : (reading : Reading) (reply : Reply) → ComesTo before.contents (name ∷ []) reading → IsReply (Dump name) reading reply
      → after.failed ≡ before.failed ++ calls_of reply → Prints written_of faults_of reply before after result → Causes
  by_reading (OverMost n) reply (is, over) decided calls printed = absurd (omega (arith, is))
  by_reading (Failed other) reply (most, reached) decided calls printed =
      let same = reaches before.contents name other reached in
      let is : reply ≡ Refuses (ReadFailed name) = decided ∙ ap (λ (n : List ℕ). Refuses (ReadFailed n)) same in
      let ends = subst (λ (r : Reply). Prints written_of faults_of r before after result) is printed in
      let gained = subst (λ (r : Reply). after.failed ≡ before.failed ++ calls_of r) is calls in
      failed_causes gained ends.0 ends.1
  by_reading (OverLimit other) reply (most, reached, long) decided calls printed =
      let same = reaches before.contents name other reached in
      let is : reply ≡ Refuses (TooLong name) = decided ∙ ap (λ (n : List ℕ). Refuses (TooLong n)) same in
      let ends = subst (λ (r : Reply). Prints written_of faults_of r before after result) is printed in
      let gained = subst (λ (r : Reply). after.failed ≡ before.failed ++ calls_of r) is calls in
      too_long_causes (gained ∙ append-nil before.failed)
      (subst (λ (n : List ℕ). IsKnownLonger file_limit before.contents n) same long) ends.0 ends.1
  by_reading (AllRead []) reply (most, read) decided calls printed = absurd read
  by_reading (AllRead (bytes ∷ [])) reply (most, read) decided calls printed =
      let is = of_bytes bytes reply decided in
      let ends = subst (λ (r : Reply). Prints written_of faults_of r before after result) is printed in
      let same : Same = calls ∙ ap (λ (gained : List Call). before.failed ++ gained) (ap calls_of is ∙ no_calls bytes (file_fault bytes))
      ∙ append-nil before.failed in
      by_fault bytes same read.0 (file_fault bytes) refl ends
  by_reading (AllRead (bytes ∷ more ∷ files)) reply (most, read) decided calls printed = absurd read.1

  pub dump_statuses_of_end : Ends (Dump name) before after result → Causes
  dump_statuses_of_end (Replies reading reply comes is calls printed) = by_reading reading reply comes is calls printed
  dump_statuses_of_end (FindsNoMemory e nothing gains) = no_memory_causes e nothing gains
