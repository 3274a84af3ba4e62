-- How reading a command's inputs goes on, from one to the next.
use Rattle.std.proofs.Common.{◌≡◌, ℕ, ◌+◌, ◌<◌, ◌≤◌, List, [], ◌∷◌, ◌++◌, length, map, take, drop, get_or, Bor, Vec}
use Rattle.std.proofs.Common.{vec_items, Option, Err, sym, ap, subst, ◌∙◌}
use Rattle.std.proofs.lemmas.List.{drop_more, get_or-map, length-map, map-append, take-append-drop, take_more}
use Rattle.std.specs.Global.{Global}
use Rattle.rtr_outside.specs.Files.{Contents, Call, IsKnownLonger, file_limit}
use Rattle.r2r_commands.specs.declared.refusals.Refusal.TheVariants as raised
use Rattle.r2r_commands.specs.declared.refusals.Refusal.{Refusal as Raised}
use Rattle.r2r_commands.specs.declared.refusals.Stop.{Stop}
use Rattle.r2r_commands.specs.declared.refusals.Stop.TheVariants as stops
use Rattle.r2r_commands.specs.Reading.{AreRead, IsRead, IsReached, most_files}
use Rattle.r2r_commands.specs.Refusals.{failed_calls, meaning}
use Rattle.r2r_commands.specs.Inputs.{IsReadAnswer, IsInputAnswer, IsInputRefusal, IsStoppedBy}

-- one more file was read
pub one_more : (contents : Option Contents) (name bytes : List ℕ) (names files : List (List ℕ)) → AreRead contents names files
    → IsRead contents name bytes → AreRead contents (names ++ name ∷ []) (files ++ bytes ∷ [])
one_more contents name bytes [] [] h one = (one, tt)
one_more contents name bytes [] (b ∷ files) h one = absurd h
one_more contents name bytes (n ∷ names) [] h one = absurd h
one_more contents name bytes (n ∷ names) (b ∷ files) h one = (h.0, one_more contents name bytes names files h.1 one)

-- the reading stops at a file, after those before it
module _ (contents : Option Contents) (names : List (List ℕ)) (name : List ℕ) (reached : IsReached contents names name)
    (most : length names ≤ most_files) where
  at_name : (other : List ℕ) → other ≡ name → IsReached contents names other
  at_name other e = subst (λ (n : List ℕ). IsReached contents names n) (sym e) reached

  stopped : (refusal : Raised) → IsInputRefusal contents name (meaning refusal) → IsStoppedBy contents names (meaning refusal)
  stopped (raised.TooMany n) why = absurd why
  stopped (raised.ReadFailed other) why = (most, at_name other.now why)
  stopped (raised.TooLong other) why =
      (most, at_name other.now why.0, subst (λ (n : List ℕ). IsKnownLonger file_limit contents n) (sym why.0) why.1)
  stopped (raised.Malformed other fault) why = absurd why
  stopped (raised.DuplicateName i j) why = absurd why
  stopped (raised.NotIlOnly other) why = absurd why
  stopped raised.NoEntry why = absurd why
  stopped (raised.BadArguments worker) why = absurd why

  pub stop_at : (old mid new : List Call) (stop : Stop) → mid ≡ old → IsInputAnswer contents mid new name (Err stop)
      → IsReadAnswer contents old new names (Err stop)
  stop_at old mid new (stops.Refused refusal) same (gained, why) =
      (gained ∙ ap (λ (calls : List Call). calls ++ failed_calls (meaning refusal)) same, stopped refusal why)
  stop_at old mid new stops.NoMemory same gained = gained ∙ same

-- ---- names behind references

abbrev text : Bor (List ℕ) → List ℕ
text name = name.now

abbrev pub texts : List (Bor (List ℕ)) → List (List ℕ)
texts names = map (λ name. name.now) names

-- the names before one, it, and those after it
split : (names : List (List ℕ)) (i : ℕ) (d : List ℕ) → i < length names
    → names ≡ take i names ++ get_or names i d ∷ drop (i + 1) names
split names i d h =
    sym (take-append-drop i names) ∙ ap (λ (rest : List (List ℕ)). take i names ++ rest) (drop_more names i d h)

pub texts_split : (names : List (Bor (List ℕ))) (i : ℕ) (d : Bor (List ℕ)) → i < length names
    → texts names ≡ take i (texts names) ++ (get_or names i d).now ∷ drop (i + 1) (texts names)
texts_split names i d h =
    let long : i < length (texts names) = subst (λ (n : ℕ). i < n) (sym (length-map names text)) h in
    let is : get_or (texts names) i [] ≡ (get_or names i d).now = get_or-map text names i d [] h in
    split (texts names) i [] long
    ∙ ap (λ (name : List ℕ). take i (texts names) ++ name ∷ drop (i + 1) (texts names)) is

pub texts_more : (names : List (Bor (List ℕ))) (i : ℕ) (d : Bor (List ℕ)) → i < length names
    → take (i + 1) (texts names) ≡ take i (texts names) ++ (get_or names i d).now ∷ []
texts_more names i d h =
    let long : i < length (texts names) = subst (λ (n : ℕ). i < n) (sym (length-map names text)) h in
    let is : get_or (texts names) i [] ≡ (get_or names i d).now = get_or-map text names i d [] h in
    take_more (texts names) i [] long ∙ ap (λ (name : List ℕ). take i (texts names) ++ name ∷ []) is

pub texts_most : (names : List (Bor (List ℕ))) → length names ≤ most_files → length (texts names) ≤ most_files
texts_most names h = subst (λ (n : ℕ). n ≤ most_files) (sym (length-map names text)) h

-- the place of a name that is reached
pub reached_at : (contents : Option Contents) (names : List (Bor (List ℕ))) (i : ℕ) (d : Bor (List ℕ)) (files : List (List ℕ))
    → i < length names → AreRead contents (take i (texts names)) files → IsReached contents (texts names) (get_or names i d).now
reached_at contents names i d files h read = record {
  earlier = take i (texts names);
  later = drop (i + 1) (texts names);
  in_order = texts_split names i d h;
  files = files;
  read = read;
}

-- the file of that name was read after those before it
pub read_at : (contents : Option Contents) (names : List (Bor (List ℕ))) (i : ℕ) (d : Bor (List ℕ)) (read more : List (Vec ℕ Global))
    (bytes : Vec ℕ Global) → i < length names → more ≡ read ++ bytes ∷ []
    → AreRead contents (take i (texts names)) (map vec_items read) → IsRead contents (get_or names i d).now bytes.items
    → AreRead contents (take (i + 1) (texts names)) (map vec_items more)
read_at contents names i d read more bytes h pushed before one =
    let grown = one_more contents (get_or names i d).now bytes.items (take i (texts names)) (map vec_items read) before one in
    let files : map vec_items more ≡ map vec_items read ++ bytes.items ∷ [] =
    ap (λ (all : List (Vec ℕ Global)). map vec_items all) pushed ∙ map-append vec_items read (bytes ∷ []) in
    rw (texts_more names i d h, files) grown
