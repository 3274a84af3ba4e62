-- The first section that passes a test, by halves of a run: in the first half if any there passes, and else in the second.
use Rattle.std.proofs.Common.{◌≡◌, ℕ, zero, suc, ◌+◌, ◌*◌, ◌/◌, ◌<◌, ◌≤◌, cond, Bool, true, false, List, [], ◌∷◌, ◌++◌}
use Rattle.std.proofs.Common.{length, take, drop, get_or, Option, Some, refl, sym, ap, subst, ◌∙◌, arith, inl, inr}
use Rattle.std.proofs.Common.{add-one, length-append, length-take, length-drop}
use Rattle.std.specs.Prelude.{find, ◌||◌}
use Rattle.std.specs.List.{list_any}
use Rattle.std.specs.Option.{option_or}
use Rattle.std.proofs.lemmas.Bool.{cases_lt}
use Rattle.std.proofs.lemmas.List.{drop-drop, take-append-le, drop-append-le, drop_at, length-take-le}
use Rattle.std.proofs.lemmas.List.Folds.{find-append}
use Rattle.std.proofs.Math.Seq.{take-add}
use Rattle.std.proofs.Math.Nat.{mul-le-mul_left, mul-suc}
use Rattle.pe_image.specs.declared.section.PeSection.{PeSection}
use Rattle.pe_image.specs.declared.finder.Step.{Step}
use Rattle.pe_image.specs.declared.finder.Level.{Level}
use Rattle.pe_image.specs.Sections.{has_range}
use Rattle.pe_image.specs.Finder.{holds, IsStairs, IsLevel, run_width, AreLevels}

-- ---- find by halves

none_step : {X : Type 0} (here later : Bool) (x : X) (found o : Option X) → (later ≡ false → option_or found o ≡ o)
    → (here || later) ≡ false → option_or (cond here (Some x) found) o ≡ o
none_step true later x found o f h = absurd (let y : ⊥ = cc in y)
none_step false later x found o f h = f h

none_found : {X : Type 0} (p : X → Bool) (xs : List X) (o : Option X) → list_any p xs ≡ false → option_or (find p xs) o ≡ o
none_found p [] o h = refl
none_found p (x ∷ xs) o h = none_step (p x) (list_any p xs) x (find p xs) o (none_found p xs o) h

one_step : {X : Type 0} (here later : Bool) (x : X) (found o : Option X) → (later ≡ true → option_or found o ≡ found)
    → (here || later) ≡ true → option_or (cond here (Some x) found) o ≡ cond here (Some x) found
one_step true later x found o f h = refl
one_step false later x found o f h = f h

one_found : {X : Type 0} (p : X → Bool) (xs : List X) (o : Option X) → list_any p xs ≡ true → option_or (find p xs) o ≡ find p xs
one_found p [] o h = absurd (let y : ⊥ = cc in y)
one_found p (x ∷ xs) o h = one_step (p x) (list_any p xs) x (find p xs) o (one_found p xs o) h

halves : {X : Type 0} (p : X → Bool) (w at : ℕ) (xs : List X)
    → find p (take (w + w) (drop at xs)) ≡ option_or (find p (take w (drop at xs))) (find p (take w (drop (at + w) xs)))
halves p w at xs =
    ap (find p) (take-add w w (drop at xs)) ∙ find-append p (take w (drop at xs)) (take w (drop w (drop at xs)))
    ∙ ap (λ t. option_or (find p (take w (drop at xs))) (find p (take w t))) (drop-drop w at xs)

pub in_second : {X : Type 0} (p : X → Bool) (w at : ℕ) (xs : List X) → list_any p (take w (drop at xs)) ≡ false
    → find p (take w (drop (at + w) xs)) ≡ find p (take (w + w) (drop at xs))
in_second p w at xs h = sym (halves p w at xs ∙ none_found p (take w (drop at xs)) (find p (take w (drop (at + w) xs))) h)

pub in_first : {X : Type 0} (p : X → Bool) (w at : ℕ) (xs : List X) → list_any p (take w (drop at xs)) ≡ true
    → find p (take w (drop at xs)) ≡ find p (take (w + w) (drop at xs))
in_first p w at xs h = sym (halves p w at xs ∙ one_found p (take w (drop at xs)) (find p (take w (drop (at + w) xs))) h)

take_whole : {X : Type 0} (n : ℕ) (xs : List X) → length xs ≤ n → take n xs ≡ xs
take_whole zero [] h = refl
take_whole zero (x ∷ xs) h = absurd (let y : ⊥ = omega arith in y)
take_whole (suc n) [] h = refl
take_whole (suc n) (x ∷ xs) h = ap (λ t. x ∷ t) (take_whole n xs (omega arith))

-- nothing is after the first half
pub in_only : {X : Type 0} (p : X → Bool) (w at : ℕ) (xs : List X) → length xs ≤ at + w
    → find p (take w (drop at xs)) ≡ find p (take (w + w) (drop at xs))
in_only p w at xs h =
    let short : length (drop at xs) ≤ w = omega (arith, length-drop at xs) in
    ap (find p) (take_whole w (drop at xs) short ∙ sym (take_whole (w + w) (drop at xs) (omega arith)))

-- ---- levels

pub run_width-positive : (levels : List Level) → 16 ≤ run_width levels
run_width-positive [] = omega arith
run_width-positive (level ∷ levels) = omega (arith, run_width-positive levels)

pub width_at : (levels : List Level) (i : ℕ) → i < length levels
    → run_width (drop i levels) ≡ run_width (drop (suc i) levels) + run_width (drop (suc i) levels)
width_at [] i h = absurd (let x : ⊥ = omega arith in x)
width_at (level ∷ levels) zero h = refl
width_at (level ∷ levels) (suc i) h = width_at levels i (omega arith)

pub level_at : (levels : List Level) (sections : List PeSection) (i : ℕ) (d : Level) → i < length levels → AreLevels levels sections
    → IsLevel (run_width (drop (suc i) levels)) (get_or levels i d).steps.items sections
level_at [] sections i d h (all) = absurd (let x : ⊥ = omega arith in x)
level_at (level ∷ levels) sections zero d h (first, more) = first
level_at (level ∷ levels) sections (suc i) d h (first, more) = level_at levels sections i d (omega arith) more

double : (w j : ℕ) → w * j + w * j ≡ w * (j + j)
double w j = omega arith

-- A level's half of the run at a place: twice its width is the run's, it begins at a multiple of its width, as what is after it
-- does, and its stairs are among the level's where there are sections after it.
pub record Half (steps : List Step) (sections : List PeSection) (left : List Level) (width at : ℕ) : Type 0 where
  pub twice : width ≡ width / 2 + width / 2
  pub next : width / 2 ≡ run_width left
  pub first : (j : ℕ) × (at ≡ width / 2 * j)
  pub second : (j : ℕ) × (at + width / 2 ≡ width / 2 * j)
  pub stairs : at + width / 2 < length sections → IsStairs (take (width / 2) (drop (at / 2) steps)) (take (width / 2) (drop at sections))

pub half : (own_levels levels : List Level) (sections : List PeSection) (i : ℕ) (level : Level) (steps : List Step) (width at j : ℕ)
    → AreLevels own_levels sections → levels ≡ own_levels → i < length levels → level ≡ get_or levels i level → steps ≡ level.steps.items
    → width ≡ run_width (drop i levels) → at ≡ width * j → Half steps sections (drop (i + 1) levels) width at
half own_levels levels sections i level steps width at j are_own levels_own below is own wide place =
    let R : List Level → Type 0 = λ t. AreLevels t sections in
    let are = subst R (sym levels_own) are_own in
    let w = run_width (drop (suc i) levels) in
    let items = (get_or levels i level).steps.items in
    let both : width ≡ w + w = wide ∙ width_at levels i below in
    let once : width / 2 ≡ w = omega arith in
    let left : run_width (drop (suc i) levels) ≡ run_width (drop (i + 1) levels) =
    ap (λ (t : ℕ). run_width (drop t levels)) (sym (add-one i)) in
    let here : at ≡ w * j + w * j = place ∙ ap (λ (t : ℕ). t * j) both ∙ omega arith in
    let from : at / 2 ≡ w * j = omega arith in
    let same : items ≡ steps = ap (λ (t : Level). t.steps.items) (sym is) ∙ sym own in
    let stairs_is : take w (drop (w * j) items) ≡ take (width / 2) (drop (at / 2) steps) =
    ap (λ (t : List Step). take w (drop (w * j) t)) same ∙ ap (λ (t : ℕ). take w (drop t steps)) (sym from)
    ∙ ap (λ (t : ℕ). take t (drop (at / 2) steps)) (sym once) in
    let run_is : take w (drop (w * j + w * j) sections) ≡ take (width / 2) (drop at sections) =
    ap (λ (t : ℕ). take w (drop t sections)) (sym here) ∙ ap (λ (t : ℕ). take t (drop at sections)) (sym once) in
    let P : List Step → Type 0 = λ t. IsStairs t (take w (drop (w * j + w * j) sections)) in
    let Q : List PeSection → Type 0 = λ t. IsStairs (take (width / 2) (drop (at / 2) steps)) t in
    record {
      twice = omega arith;
      next = once ∙ left;
      first = (j + j, here ∙ double w j ∙ ap (λ (t : ℕ). t * (j + j)) (sym once));
      second = (suc (j + j), omega (arith, ap (λ (t : ℕ). t * suc (j + j)) once, mul-suc w (j + j), double w j));
      stairs = λ room. subst Q run_is (subst P stairs_is (level_at levels sections i level below are j (omega arith)));
    }

-- A run of a width begins at a place that is a multiple of it, and its first section that passes is the first of all.
pub record StandsAt (p : PeSection → Bool) (sections : List PeSection) (left : List Level) (width at : ℕ) : Type 0 where
  pub wide : width ≡ run_width left
  pub place : (j : ℕ) × (at ≡ width * j)
  pub inside : at ≤ length sections
  pub found : find p (take width (drop at sections)) ≡ find p sections

-- so it is for the run's first half where a section there passes
pub stays : (p : PeSection → Bool) (steps : List Step) (sections : List PeSection) (all left : List Level) (width at : ℕ)
    → StandsAt p sections all width at → Half steps sections left width at → list_any p (take (width / 2) (drop at sections)) ≡ true
    → StandsAt p sections left (width / 2) at
stays p steps sections all left width at stand h any =
    record {
      wide = h.next;
      place = h.first;
      inside = stand.inside;
      found = in_first p (width / 2) at sections any ∙ ap (λ (t : ℕ). find p (take t (drop at sections))) (sym h.twice) ∙ stand.found;
    }

-- or where nothing is after it
pub stays_last : (p : PeSection → Bool) (steps : List Step) (sections : List PeSection) (all left : List Level) (width at : ℕ)
    → StandsAt p sections all width at → Half steps sections left width at → length sections ≤ at + width / 2
    → StandsAt p sections left (width / 2) at
stays_last p steps sections all left width at stand h last =
    record {
      wide = h.next;
      place = h.first;
      inside = stand.inside;
      found = in_only p (width / 2) at sections last ∙ ap (λ (t : ℕ). find p (take t (drop at sections))) (sym h.twice) ∙ stand.found;
    }

-- and else for its second half
pub goes_on : (p : PeSection → Bool) (steps : List Step) (sections : List PeSection) (all left : List Level) (width at : ℕ)
    → StandsAt p sections all width at → Half steps sections left width at → at + width / 2 < length sections
    → list_any p (take (width / 2) (drop at sections)) ≡ false
    → StandsAt p sections left (width / 2) (at + width / 2)
goes_on p steps sections all left width at stand h room none =
    record {
      wide = h.next;
      place = h.second;
      inside = omega arith;
      found = in_second p (width / 2) at sections none ∙ ap (λ (t : ℕ). find p (take t (drop at sections))) (sym h.twice) ∙ stand.found;
    }

-- what the stairs say, the run's sections do
pub answered : (rva len end size width from : ℕ) (steps : List Step) (run : List PeSection) (answer b : Bool) → end ≡ rva + len
    → size ≡ width
    → IsStairs (take width (drop from steps)) run → answer ≡ list_any (holds rva end) (take size (drop from steps)) → answer ≡ b
    → list_any (has_range rva len) run ≡ b
answered rva len end size width from steps run answer b ends sizes s e is =
    sym (s.same rva len) ∙ ap (λ (t : ℕ). list_any (holds rva t) (take width (drop from steps))) (sym ends)
    ∙ ap (λ (t : ℕ). list_any (holds rva end) (take t (drop from steps))) (sym sizes) ∙ sym e ∙ is

-- the stairs of a run of so many sections end within their level
pub within : (w from at : ℕ) (steps : List Step) (sections : List PeSection) → 0 < w → at + w < length sections
    → IsStairs (take w (drop from steps)) (take w (drop at sections)) → from + w ≤ length steps
within w from at steps sections some room s =
    let whole : length (take w (drop at sections)) ≡ w = length-take-le w (drop at sections) (omega (arith, length-drop at sections)) in
    omega (arith, s.count, whole, length-take w (drop from steps), length-drop from steps)

-- ---- the runs of a level, made one after the other

times_more : (w j k : ℕ) → j < k → w * j + w ≤ w * k
times_more w j k h = let e : w * suc j ≤ w * k = mul-le-mul_left {m = suc j} {n = k} w (omega arith) in omega (arith, e, mul-suc w j)

abbrev RunsBelow : ℕ → ℕ → List Step → List PeSection → Type 0
RunsBelow count width steps sections =
    (j : ℕ) → j < count → IsStairs (take width (drop (width * j) steps)) (take width (drop (width * j + width * j) sections))

runs_more : (count width : ℕ) (steps run : List Step) (sections : List PeSection)
    → length steps ≡ width * count → length run ≡ width → RunsBelow count width steps sections
    → IsStairs run (take width (drop (width * count + width * count) sections))
    → RunsBelow (suc count) width (steps ++ run) sections
runs_more count width steps run sections long whole so_far one j below =
    let at = width * j in
    let P : List Step → Type 0 = λ t. IsStairs t (take width (drop (at + at) sections)) in
    elim (cases_lt j count) [
      | inl first ↦
          let fits : at + width ≤ width * count = times_more width j count first in
          let front : at ≤ length steps = omega arith in
          let room : width ≤ length (drop at steps) = omega (arith, length-drop at steps) in
          subst P (sym (ap (take width) (drop-append-le at steps run front) ∙ take-append-le width (drop at steps) run room))
          (so_far j first)
      | inr last ↦
          let here : j ≡ count = omega arith in
          let seam : drop at (steps ++ run) ≡ run = drop_at steps run at (long ∙ ap (λ (t : ℕ). width * t) (sym here)) in
          let own : take width (drop at (steps ++ run)) ≡ run = ap (take width) seam ∙ take_whole width run (omega arith) in
          let Q : ℕ → Type 0 = λ t. IsStairs run (take width (drop (width * t + width * t) sections)) in
          subst P (sym own) (subst Q (sym here) one)
    ]

-- so many runs are done up to a place, and their stairs are one after the other
abbrev pub Runs : ℕ → ℕ → List Step → List PeSection → Type 0
Runs width at steps sections =
    (count : ℕ) × (at ≡ width * count + width * count) × (length steps ≡ width * count) × RunsBelow count width steps sections

pub one_run_more : (width at : ℕ) (steps run : List Step) (part sections : List PeSection)
    → at + width < length sections → part ≡ take width (drop at sections) → IsStairs run part → Runs width at steps sections
    → Runs width (at + 2 * width) (steps ++ run) sections
one_run_more width at steps run part sections room cut one runs =
    let count = runs.0 in
    let P : List PeSection → Type 0 = λ t. IsStairs run t in
    let Q : ℕ → Type 0 = λ t. IsStairs run (take width (drop t sections)) in
    let behind : width ≤ length (drop at sections) = omega (arith, length-drop at sections) in
    let long : length run ≡ width = one.count ∙ ap length cut ∙ length-take-le width (drop at sections) behind in
    let whole : length (steps ++ run) ≡ width * suc count = omega (arith, length-append steps run, runs.2, long, mul-suc width count) in (
      suc count,
      omega (arith, runs.1, mul-suc width count),
      whole,
      runs_more count width steps run sections runs.2 long runs.3
          (subst Q runs.1 (subst P cut one)),
    )

pub no_runs : (width : ℕ) (sections : List PeSection) → Runs width 0 [] sections
no_runs width sections = (0, omega arith, omega arith, λ j below. absurd (let x : ⊥ = omega arith in x))

-- every second run that has more sections after it is there
pub all_runs : (width at : ℕ) (steps : List Step) (sections : List PeSection) → length sections ≤ at + width
    → Runs width at steps sections → IsLevel width steps sections
all_runs width at steps sections done runs j room =
    elim (cases_lt j runs.0) [
      | inl first ↦ runs.3 j first
      | inr last ↦ absurd (let e : width * runs.0 ≤ width * j = mul-le-mul_left {m = runs.0} {n = j} width last in let x : ⊥ = omega
          (arith, runs.1) in x)
    ]
