-- The cause of each status, from how a command ends.
use Rattle.std.proofs.Common.{◌≡◌, ℕ, List, [], ◌∷◌, ◌++◌, ◌⊎◌, inl, inr, length, Contains, Option, Some, refl, sym, ap, subst, ◌∙◌}
use Rattle.std.proofs.Common.{arith, append-nil, length-append}
use Rattle.std.proofs.lemmas.List.Elements.{Contains-append_right}
use Rattle.rtr_bytes.specs.declared.fault.Fault.{Fault}
use Rattle.rtr_outside.specs.Files.{Contents, Call, Read, Write}
use Rattle.r2r_commands.specs.Command.{Command, inputs, out_file}
use Rattle.r2r_commands.specs.Outside.{Outside, written_of, faults_of, Takes, TakesWhole, TakesFront, TakesNothing}
use Rattle.r2r_commands.specs.Reading.{Reading, OverMost, Failed, OverLimit, AllRead, ComesTo, IsReached, exposed_reading}
use Rattle.r2r_commands.specs.Refusals.{Refusal, TooMany, ReadFailed, TooLong, Malformed, DuplicateName, NotIlOnly, NoEntry, BadArguments}
use Rattle.r2r_commands.specs.Refusals.{status_of, line_of, failed_calls, write_failed_line}
use Rattle.r2r_commands.specs.Ending.{Reply, Prints, Ends, Replies, FindsNoMemory, IsAnswer, IsCallOf, GainsAtMostOne}
use Rattle.r2r_commands.specs.Ending.{calls_of, refusals}
use Rattle.r2r_commands.specs.Statuses.{Statuses, IsOneOf, IsRefused, HasText, IsUnrefused, allowed}
use Rattle.r2r_commands.proofs.Exposed.{IsWithoutFailure, exposed_is}
use Rattle.r2r_commands.proofs.Decided.{FirstOf, decided, AnswerOf, FailureOf, answered, refusal_status, text_status}
use Rattle.r2r_commands.proofs.Decided.{read_failed_of, malformed_of, reached}

-- ---- statuses that may come

abbrev all_statuses : List ℕ
all_statuses = 0 ∷ 2 ∷ 3 ∷ 4 ∷ 5 ∷ 6 ∷ 7 ∷ []

known_refusal : (refusal : Refusal) → IsOneOf all_statuses (status_of refusal)
known_refusal (TooMany n) = refl
known_refusal (ReadFailed name) = refl
known_refusal (TooLong name) = refl
known_refusal (Malformed name fault) = refl
known_refusal (DuplicateName i j) = refl
known_refusal (NotIlOnly name) = refl
known_refusal NoEntry = refl
known_refusal (BadArguments worker) = refl

allowed_refusal : (refusal : Refusal) (later : List Refusal) → IsOneOf (allowed (refusal ∷ later)) (status_of refusal)
allowed_refusal (TooMany n) later = refl
allowed_refusal (ReadFailed name) later = refl
allowed_refusal (TooLong name) later = refl
allowed_refusal (Malformed name fault) later = refl
allowed_refusal (DuplicateName i j) later = refl
allowed_refusal (NotIlOnly name) later = refl
allowed_refusal NoEntry later = refl
allowed_refusal (BadArguments worker) later = refl

-- want of memory is always allowed for
allowed_seven : (all : List Refusal) → IsOneOf (allowed all) 7
allowed_seven [] = refl
allowed_seven (TooMany n ∷ later) = refl
allowed_seven (ReadFailed name ∷ later) = refl
allowed_seven (TooLong name ∷ later) = refl
allowed_seven (Malformed name fault ∷ later) = refl
allowed_seven (DuplicateName i j ∷ later) = refl
allowed_seven (NotIlOnly name ∷ later) = refl
allowed_seven (NoEntry ∷ later) = refl
allowed_seven (BadArguments worker ∷ later) = refl

-- ---- failed calls

-- one more call makes another list
longer : (old new : List Call) (call : Call) → new ≡ old ++ call ∷ [] → new ≡ old → ⊥
longer old new call e h =
    let n : length (old ++ call ∷ []) ≡ length old = ap length (sym e ∙ h) in
    omega (arith, n, length-append old (call ∷ []))

among : (contents : Option Contents) (names : List (List ℕ)) (name : List ℕ) → IsReached contents names name → Contains names name
among contents names name r =
    subst (λ (all : List (List ℕ)). Contains all name) (sym r.in_order)
    (Contains-append_right r.earlier (name ∷ r.later) name (0, omega arith, refl))

-- how one command ended
module _ (command : Command) (before after : Outside) (status : ℕ) where
  abbrev Causes : Type 0
  Causes = Statuses command before after status

  abbrev FailedCalls : Type 0
  FailedCalls =
      (after.failed ≡ before.failed)
      ⊎ ((call : Call) × IsCallOf command call × (after.failed ≡ before.failed ++ call ∷ []) × IsOneOf (2 ∷ 5 ∷ 7 ∷ []) status)

  no_memory_causes : status ≡ 7 → TakesNothing before after → GainsAtMostOne command before.failed after.failed → Causes
  no_memory_causes e nothing gains = record {
    known = rw e refl;
    written = λ h. absurd (elim h [ inl z ↦ omega arith | inr s ↦ omega arith ]);
    read_failed = λ h. absurd (omega arith);
    malformed = λ h. absurd (omega arith);
    refused = λ h. absurd (omega arith);
    write_fault = λ h. absurd (omega arith);
    no_memory = λ h. nothing;
    failed_calls = elim gains [ inl same ↦ inl same | inr (call, is, more) ↦ inr (call, is, more, rw e refl) ];
    exposed = λ contents told same. rw e (allowed_seven (refusals command (exposed_reading contents (inputs command))));
    missing = λ contents told name is. rw e refl;
  }

  -- ---- a refusal

  -- the failed calls of a refusal
  calls_after : (refusal : Refusal) → status ≡ status_of refusal → IsRefused command before.contents refusal
      → after.failed ≡ before.failed ++ failed_calls refusal → FailedCalls
  calls_after (TooMany n) s r calls = inl (calls ∙ append-nil before.failed)
  calls_after (ReadFailed name) s r calls =
      let reads = reached command before.contents name r in
      inr (Read name, among before.contents (inputs command) name reads, calls, rw s refl)
  calls_after (TooLong name) s r calls = inl (calls ∙ append-nil before.failed)
  calls_after (Malformed name fault) s r calls = inl (calls ∙ append-nil before.failed)
  calls_after (DuplicateName i j) s r calls = inl (calls ∙ append-nil before.failed)
  calls_after (NotIlOnly name) s r calls = inl (calls ∙ append-nil before.failed)
  calls_after NoEntry s r calls = inl (calls ∙ append-nil before.failed)
  calls_after (BadArguments worker) s r calls = inl (calls ∙ append-nil before.failed)

  -- what is said of a refusal, at one that is equal
  abbrev SaidOf : Refusal → Type 0
  SaidOf refusal =
      IsRefused command before.contents refusal × (after.failed ≡ before.failed ++ failed_calls refusal)
      × Takes (line_of refusal) before after

  read_failed_causes : (refusal : Refusal) → SaidOf refusal → status_of refusal ≡ 2
      → (name : List ℕ) × IsReached before.contents (inputs command) name
      × (after.failed ≡ before.failed ++ Read name ∷ []) × Takes (line_of (ReadFailed name)) before after
  read_failed_causes refusal said two =
      let named = read_failed_of refusal two in
      let of_name : SaidOf (ReadFailed named.0) = subst SaidOf named.1 said in
      (named.0, reached command before.contents named.0 of_name.0, of_name.1, of_name.2)

  malformed_causes : (refusal : Refusal) → SaidOf refusal → status_of refusal ≡ 3
      → (name : List ℕ) × (fault : Fault) × IsRefused command before.contents (Malformed name fault)
      × Takes (line_of (Malformed name fault)) before after
  malformed_causes refusal said three =
      let named = malformed_of refusal three in
      let of_name : SaidOf (Malformed named.0 named.1) = subst SaidOf named.2 said in
      (named.0, named.1, of_name.0, of_name.2)

  -- where the files expose their bytes, a refusal is the one that they expose, or a read failed
  exposed_refusal : (contents : Contents) (reading : Reading) (refusal : Refusal) (later : List Refusal)
      → ComesTo (Some contents) (inputs command) reading → refusals command reading ≡ refusal ∷ later → status ≡ status_of refusal
      → IsWithoutFailure reading → IsOneOf (allowed (refusals command (exposed_reading contents (inputs command)))) status
  exposed_refusal contents reading refusal later comes first s whole =
      rw (exposed_is contents (inputs command) reading comes whole, first, s) (allowed_refusal refusal later)

  -- a reading that failed is a failed call
  without_failure : (reading : Reading) (refusal : Refusal) (later : List Refusal) → refusals command reading ≡ refusal ∷ later
      → after.failed ≡ before.failed ++ failed_calls refusal → after.failed ≡ before.failed → IsWithoutFailure reading
  without_failure (OverMost n) refusal later first calls same = tt
  without_failure (Failed name) refusal later first calls same =
      let is : refusal ≡ ReadFailed name = cc in
      let gained = subst (λ (r : Refusal). after.failed ≡ before.failed ++ failed_calls r) is calls in
      absurd (longer before.failed after.failed (Read name) gained same)
  without_failure (OverLimit name) refusal later first calls same = tt
  without_failure (AllRead files) refusal later first calls same = tt

  missing_refusal : (contents : Contents) (reading : Reading) (refusal : Refusal) (later : List Refusal) (name : List ℕ)
      → ComesTo (Some contents) (inputs command) reading → refusals command reading ≡ refusal ∷ later → status ≡ status_of refusal
      → exposed_reading contents (inputs command) ≡ Failed name → IsOneOf (2 ∷ 7 ∷ []) status
  missing_refusal contents (OverMost n) refusal later name comes first s lacks =
      let other = exposed_is contents (inputs command) (OverMost n) comes tt in
      absurd cc
  missing_refusal contents (Failed n) refusal later name comes first s lacks =
      let is : refusal ≡ ReadFailed n = cc in
      rw (s, is) refl
  missing_refusal contents (OverLimit n) refusal later name comes first s lacks =
      let other = exposed_is contents (inputs command) (OverLimit n) comes tt in
      absurd cc
  missing_refusal contents (AllRead files) refusal later name comes first s lacks =
      let other = exposed_is contents (inputs command) (AllRead files) comes tt in
      absurd cc

  refusal_causes : (refusal : Refusal) → SaidOf refusal → status ≡ status_of refusal → Causes
  refusal_causes refusal said s =
      let bounds = refusal_status refusal in
      let low = bounds.0 in
      let high = bounds.1 in
      let r = said.0 in
      record {
        known = rw s (known_refusal refusal);
        written = λ h. absurd (elim h [ inl z ↦ omega arith | inr six ↦ omega arith ]);
        read_failed = λ h. read_failed_causes refusal said (sym s ∙ h);
        malformed = λ h. malformed_causes refusal said (sym s ∙ h);
        refused = λ h. (refusal, sym s ∙ h, r, said.2);
        write_fault = λ h. absurd (omega arith);
        no_memory = λ h. absurd (omega arith);
        failed_calls = calls_after refusal s r said.1;
        exposed = λ contents told same.
            let comes = subst (λ (c : Option Contents). ComesTo c (inputs command) r.reading) told r.read in
            exposed_refusal contents r.reading refusal r.later comes r.first s
            (without_failure r.reading refusal r.later r.first said.1 same);
        missing = λ contents told name lacks.
            let comes = subst (λ (c : Option Contents). ComesTo c (inputs command) r.reading) told r.read in
            missing_refusal contents r.reading refusal r.later name comes r.first s lacks;
      }

  -- ---- a text

  -- where the files expose their bytes, those of the inputs have no refusal
  exposed_text : (whole : ℕ) (text : List ℕ) → HasText command before.contents whole text
      → (contents : Contents) → before.contents ≡ Some contents
      → (refusals command (exposed_reading contents (inputs command)) ≡ [])
      × ((name : List ℕ) → exposed_reading contents (inputs command) ≡ Failed name → ⊥)
  exposed_text whole text has contents told =
      let comes = subst (λ (c : Option Contents). ComesTo c (inputs command) (AllRead has.files)) told has.read in
      let is = exposed_is contents (inputs command) (AllRead has.files) comes tt in
      (ap (refusals command) is ∙ has.unrefused, λ name lacks. cc)

  written_causes : (text : List ℕ) → HasText command before.contents status text → after.failed ≡ before.failed
      → TakesWhole text before after → (status ≡ 0) ⊎ (status ≡ 6) → Causes
  written_causes text has calls whole is = record {
    known = elim is [ inl e ↦ rw e refl | inr e ↦ rw e refl ];
    written = λ h. (text, has, whole);
    read_failed = λ h. absurd (elim is [ inl e ↦ omega arith | inr e ↦ omega arith ]);
    malformed = λ h. absurd (elim is [ inl e ↦ omega arith | inr e ↦ omega arith ]);
    refused = λ h. absurd (elim is [ inl e ↦ omega arith | inr e ↦ omega arith ]);
    write_fault = λ h. absurd (elim is [ inl e ↦ omega arith | inr e ↦ omega arith ]);
    no_memory = λ h. absurd (elim is [ inl e ↦ omega arith | inr e ↦ omega arith ]);
    failed_calls = inl calls;
    exposed = λ contents told same.
        let none = (exposed_text status text has contents told).0 in
        elim is [ inl e ↦ rw (none, e) refl | inr e ↦ rw (none, e) refl ];
    missing = λ contents told name lacks. absurd ((exposed_text status text has contents told).1 name lacks);
  }

  cut_causes : (whole : ℕ) (text : List ℕ) → HasText command before.contents whole text → after.failed ≡ before.failed
      → TakesFront text before after → status ≡ 5 → Causes
  cut_causes whole text has calls front e = record {
    known = rw e refl;
    written = λ h. absurd (elim h [ inl z ↦ omega arith | inr six ↦ omega arith ]);
    read_failed = λ h. absurd (omega arith);
    malformed = λ h. absurd (omega arith);
    refused = λ h. absurd (omega arith);
    write_fault = λ h. inl (front.0, (whole, text, has, front));
    no_memory = λ h. absurd (omega arith);
    failed_calls = inl calls;
    exposed = λ contents told same. rw ((exposed_text whole text has contents told).0, e) refl;
    missing = λ contents told name lacks. absurd ((exposed_text whole text has contents told).1 name lacks);
  }

  -- ---- a write of the command's file

  -- where the files expose their bytes, those of the inputs have no refusal
  exposed_unrefused : IsUnrefused command before.contents → (contents : Contents) → before.contents ≡ Some contents
      → (name : List ℕ) → exposed_reading contents (inputs command) ≡ Failed name → ⊥
  exposed_unrefused u contents told name lacks =
      let comes = subst (λ (c : Option Contents). ComesTo c (inputs command) (AllRead u.files)) told u.read in
      let is = exposed_is contents (inputs command) (AllRead u.files) comes tt in
      cc

  failure_causes : (name : List ℕ) → out_file command ≡ Some name → IsUnrefused command before.contents
      → after.failed ≡ before.failed ++ Write name ∷ [] → Takes (write_failed_line name) before after → status ≡ 5 → Causes
  failure_causes name out u calls line e = record {
    known = rw e refl;
    written = λ h. absurd (elim h [ inl z ↦ omega arith | inr six ↦ omega arith ]);
    read_failed = λ h. absurd (omega arith);
    malformed = λ h. absurd (omega arith);
    refused = λ h. absurd (omega arith);
    write_fault = λ h. inr (name, out, u, calls, line);
    no_memory = λ h. absurd (omega arith);
    failed_calls = inr (Write name, out, calls, rw e refl);
    exposed = λ contents told same. absurd (longer before.failed after.failed (Write name) calls same);
    missing = λ contents told other lacks. absurd (exposed_unrefused u contents told other lacks);
  }

  -- ---- by the reply

  refused_reply : (reading : Reading) (reply : Reply) → ComesTo before.contents (inputs command) reading
      → FirstOf (refusals command reading) reply → after.failed ≡ before.failed ++ calls_of reply
      → Prints written_of faults_of reply before after status → Causes
  refused_reply reading reply comes f calls printed =
      let ends : (status ≡ status_of f.refusal) × Takes (line_of f.refusal) before after =
      subst (λ (r : Reply). Prints written_of faults_of r before after status) f.is printed in
      let gained : after.failed ≡ before.failed ++ failed_calls f.refusal =
      subst (λ (r : Reply). after.failed ≡ before.failed ++ calls_of r) f.is calls in
      let why : IsRefused command before.contents f.refusal =
      record { reading = reading; read = comes; later = f.later; first = f.first } in
      refusal_causes f.refusal (why, gained, ends.1) ends.0

  text_reply : (reply : Reply) → AnswerOf command before.contents reply → after.failed ≡ before.failed ++ calls_of reply
      → Prints written_of faults_of reply before after status → Causes
  text_reply reply a calls printed =
      let ends : ((status ≡ a.status) × TakesWhole a.text before after) ⊎ ((status ≡ 5) × TakesFront a.text before after) =
      subst (λ (r : Reply). Prints written_of faults_of r before after status) a.is printed in
      let gained : after.failed ≡ before.failed ++ [] =
      subst (λ (r : Reply). after.failed ≡ before.failed ++ calls_of r) a.is calls in
      let same : after.failed ≡ before.failed = gained ∙ append-nil before.failed in
      elim ends [
        | inl (e, whole) ↦
            let has = subst (λ (n : ℕ). HasText command before.contents n a.text) (sym e) a.has in
            written_causes a.text has same whole (text_status command has.files status a.text has.text_of)
        | inr (e, front) ↦ cut_causes a.status a.text a.has same front e
      ]

  failed_reply : (reply : Reply) → FailureOf command before.contents reply → after.failed ≡ before.failed ++ calls_of reply
      → Prints written_of faults_of reply before after status → Causes
  failed_reply reply f calls printed =
      let ends : (status ≡ 5) × Takes (write_failed_line f.name) before after =
      subst (λ (r : Reply). Prints written_of faults_of r before after status) f.is printed in
      let gained : after.failed ≡ before.failed ++ Write f.name ∷ [] =
      subst (λ (r : Reply). after.failed ≡ before.failed ++ calls_of r) f.is calls in
      failure_causes f.name f.out f.unrefused gained ends.1 ends.0

  pub statuses_of_end : Ends command before after status → Causes
  statuses_of_end (Replies reading reply comes is calls printed) =
      elim (decided (refusals command reading) (IsAnswer command reading reply) reply is) [
        | inl (none, answer) ↦ elim (answered command before.contents reading reply comes none answer) [
          | inl text ↦ text_reply reply text calls printed
          | inr failure ↦ failed_reply reply failure calls printed
        ]
        | inr first ↦ refused_reply reading reply comes first calls printed
      ]
  statuses_of_end (FindsNoMemory e nothing gains) = no_memory_causes e nothing gains
