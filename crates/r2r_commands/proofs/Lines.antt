-- The text of a worker that has run, by its pieces.
use Rattle.std.proofs.Common.{◌≡◌, ℕ, List, [], ◌++◌, codes, Option, Some, None, sym, ap, ◌∙◌, append-nil}
use Rattle.std.specs.Prelude.{decimal}
use Rattle.std.specs.Option.{option_map, option_map_or}
use Rattle.rtr_outside.specs.Text.{newline}
use Rattle.cli_assembly.specs.declared.signature.TypeSig.{TypeSig}
use Rattle.cil_meaning.specs.declared.ending.Ending.{Ending}
use Rattle.rtr_runner.specs.Workers.{Ended, WorkerState, output_of}
use Rattle.r2r_commands.specs.RunText.{ending_line, worker_text}
use Rattle.r2r_commands.specs.Printing.{state_text}

abbrev pub front_text : ℕ → List ℕ → List ℕ
front_text number output = codes "== worker " ++ (decimal number ++ (newline ++ (output ++ [])))

by_ended : (ret : TypeSig) (number : ℕ) (found : Option Ended) (ending : Ending) → Some ending ≡ option_map (λ ended. ended.ending) found
    → option_map_or (λ ended. worker_text ret number ended) found []
    ≡ front_text number (option_map_or (λ ended. ended.output) found []) ++ ending_line ret ending
by_ended ret number None ending e = absurd cc
by_ended ret number (Some one) ending e =
    let same : one.ending ≡ ending = cc in
    ap (λ (output : List ℕ). (codes "== worker " ++ (decimal number ++ (newline ++ output))) ++ ending_line ret one.ending)
    (sym (append-nil one.output))
    ∙ ap (λ (last : Ending). front_text number one.output ++ ending_line ret last) same

pub worker_pieces : (ret : TypeSig) (worker : WorkerState) (ending : Ending) (a n b o : List ℕ)
    → Some ending ≡ option_map (λ ended. ended.ending) worker.ended → a ≡ codes "== worker " → n ≡ decimal worker.number → b ≡ newline
    → o ≡ output_of worker → state_text ret worker ≡ (a ++ (n ++ (b ++ (o ++ [])))) ++ ending_line ret ending
worker_pieces ret worker ending a n b o e ea en eb eo = rw (ea, en, eb, eo) (by_ended ret worker.number worker.ended ending e)
