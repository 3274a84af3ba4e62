-- What reading comes to, where the files expose their bytes.
use Rattle.std.proofs.Common.{◌≡◌, ℕ, ◌<◌, ◌≤◌, List, [], ◌∷◌, ◌++◌, length, Some, refl, sym, ap, subst, ◌∙◌, lt-ltb, le-ltb}
use Rattle.rtr_outside.specs.Files.{Contents, IsKnownLonger, file_limit}
use Rattle.r2r_commands.specs.Reading.{Reading, OverMost, Failed, OverLimit, AllRead, ComesTo, IsRead, AreRead, most_files}
use Rattle.r2r_commands.specs.Reading.{after_bytes, each_exposed, exposed_reading}

-- a file within the limit, and what came of those after it
after_read : (contents : Contents) (name bytes : List ℕ) (names : List (List ℕ)) → IsRead (Some contents) name bytes
    → each_exposed contents (name ∷ names) ≡ after_bytes bytes (each_exposed contents names)
after_read contents name bytes names h =
    let known : contents name ≡ Some bytes = h.known in
    rw (known, le-ltb file_limit (length bytes) h.within) refl

all_read : (contents : Contents) (names files : List (List ℕ)) → AreRead (Some contents) names files
    → each_exposed contents names ≡ AllRead files
all_read contents [] [] h = refl
all_read contents [] (bytes ∷ files) h = absurd h
all_read contents (name ∷ names) [] h = absurd h
all_read contents (name ∷ names) (bytes ∷ files) h =
    after_read contents name bytes names h.0 ∙ ap (after_bytes bytes) (all_read contents names files h.1)

-- what came of a file that no later one changes is what came of all
stops_at : (contents : Contents) (name : List ℕ) (later earlier files : List (List ℕ)) → AreRead (Some contents) earlier files
    → IsKnownLonger file_limit (Some contents) name → each_exposed contents (earlier ++ name ∷ later) ≡ OverLimit name
stops_at contents name later [] [] h (bytes, known, longer) = rw (known, lt-ltb file_limit (length bytes) longer) refl
stops_at contents name later [] (bytes ∷ files) h long = absurd h
stops_at contents name later (first ∷ earlier) [] h long = absurd h
stops_at contents name later (first ∷ earlier) (bytes ∷ files) h long =
    after_read contents first bytes (earlier ++ name ∷ later) h.0
    ∙ ap (after_bytes bytes) (stops_at contents name later earlier files h.1 long)

within_most : (contents : Contents) (names : List (List ℕ)) → length names ≤ most_files
    → exposed_reading contents names ≡ each_exposed contents names
within_most contents names h = rw (le-ltb most_files (length names) h) refl

-- the reading failed at no file
abbrev pub IsWithoutFailure : Reading → Type 0
IsWithoutFailure (Failed name) = ⊥
IsWithoutFailure _ = Unit {0}

-- a reading that failed at no file is the one that the files expose
pub exposed_is : (contents : Contents) (names : List (List ℕ)) (reading : Reading) → ComesTo (Some contents) names reading
    → IsWithoutFailure reading → exposed_reading contents names ≡ reading
exposed_is contents names (OverMost n) (is, over) h =
    let more : most_files < length names = subst (λ (k : ℕ). most_files < k) is over in
    rw (lt-ltb most_files (length names) more) (ap OverMost (sym is))
exposed_is contents names (Failed name) comes h = absurd h
exposed_is contents names (OverLimit name) (most, reached, long) h =
    within_most contents names most
    ∙ ap (each_exposed contents) reached.in_order
    ∙ stops_at contents name reached.later reached.earlier reached.files reached.read long
exposed_is contents names (AllRead files) (most, read) h = within_most contents names most ∙ all_read contents names files read
