-- What is asked for, part by part.
use Rattle.std.proofs.Common.{◌≡◌, ℕ, List, [], codes, Option, Some, None, is_some, true, false, refl, ◌∙◌, ℤ}
use Rattle.std.specs.Prelude.{unwrap_or}
use Rattle.std.specs.List.{list_all}
use Rattle.r2r_commands.specs.RunWords.{Entry, asked, entry_of, is_given, items, only, run_of, run_of_items, ticks_of, values, workers_of}

module _ (words : List (List ℕ)) where
  abbrev Of : List ℕ → List (List ℕ)
  Of option = values option (items words)

  pub not_given : list_all is_given (items words) ≡ false → run_of words ≡ None
  not_given e = rw e refl

  pub given_run : list_all is_given (items words) ≡ true → run_of words ≡ run_of_items (items words)
  given_run e = rw e refl

  without_workers : (image : Option (List ℕ)) (entry : Option (Option Entry)) (workers : Option (List (List ℤ))) (ticks : Option ℕ)
      → is_some workers ≡ false → asked image (Of (codes "--ref")) entry workers ticks ≡ None
  without_workers None entry workers ticks e = refl
  without_workers (Some image) None workers ticks e = refl
  without_workers (Some image) (Some entry) None ticks e = refl
  without_workers (Some image) (Some entry) (Some workers) ticks e = absurd cc

  pub no_workers : list_all is_given (items words) ≡ true → is_some (workers_of (Of (codes "--worker"))) ≡ false → run_of words ≡ None
  no_workers given none = given_run given ∙ without_workers (only (Of [])) (entry_of (Of (codes "--entry")))
      (workers_of (Of (codes "--worker"))) (ticks_of (Of (codes "--ticks"))) none

  without_ticks : (image : Option (List ℕ)) (entry : Option (Option Entry)) (workers : Option (List (List ℤ)))
      → asked image (Of (codes "--ref")) entry workers None ≡ None
  without_ticks None entry workers = refl
  without_ticks (Some image) None workers = refl
  without_ticks (Some image) (Some entry) None = refl
  without_ticks (Some image) (Some entry) (Some workers) = refl

  pub no_ticks : list_all is_given (items words) ≡ true → ticks_of (Of (codes "--ticks")) ≡ None → run_of words ≡ None
  no_ticks given none = given_run given ∙ rw none (without_ticks (only (Of [])) (entry_of (Of (codes "--entry")))
      (workers_of (Of (codes "--worker"))))

  with_workers : (image : List ℕ) (entry : Option Entry) (workers : Option (List (List ℤ))) (ticks : ℕ) → is_some workers ≡ true
      → asked (Some image) (Of (codes "--ref")) (Some entry) workers (Some ticks)
      ≡ Some (record { image = image; refs = Of (codes "--ref"); entry = entry; workers = unwrap_or workers []; ticks = ticks })
  with_workers image entry None ticks e = absurd cc
  with_workers image entry (Some workers) ticks e = refl

  pub all_asked : (image : List ℕ) (entry : Option Entry) (ticks : ℕ) → list_all is_given (items words) ≡ true
      → only (Of []) ≡ Some image → entry_of (Of (codes "--entry")) ≡ Some entry
      → is_some (workers_of (Of (codes "--worker"))) ≡ true → ticks_of (Of (codes "--ticks")) ≡ Some ticks
      → run_of words ≡ Some (record {
        image = image;
        refs = Of (codes "--ref");
        entry = entry;
        workers = unwrap_or (workers_of (Of (codes "--worker"))) [];
        ticks = ticks;
      })
  all_asked image entry ticks given is_image is_entry some is_ticks =
      given_run given ∙ rw (is_image, is_entry, is_ticks) (with_workers image entry (workers_of (Of (codes "--worker"))) ticks some)
