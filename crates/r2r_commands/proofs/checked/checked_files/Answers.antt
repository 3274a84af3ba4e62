use Rattle.std.proofs.Common.{◌≡◌, ◌<◌, ◌∷◌, ◌++◌, [], ℕ, List, Err, length, map, get_or, ◌+◌, take, sym, ap, subst, ◌∙◌, arith, vec_items}
use Rattle.std.proofs.lemmas.List.{take_more}
use Rattle.std.proofs.lemmas.Result.{err_from_is_err_and}
use Rattle.std.specs.Global.{Global}
use Rattle.std.specs.Prelude.{Vec}
use Rattle.r2rdump.specs.Dump.{file_fault}
use Rattle.r2r_commands.specs.Refusals.{Refusal}
use Rattle.r2r_commands.specs.Ending.{malformed_by}
use Rattle.r2r_commands.specs.Loaded.{IsUnlessRefused}
use Rattle.r2r_commands.proofs.EachFile.{bytes_at, items_long, left, left_at, no_name, texts}
use Rattle.r2r_commands.proofs.Firsts.{stops_in_front}
use Rattle.r2r_commands.proofs.checked.checked_files.Goals as goal

abbrev By : List ℕ → List ℕ → List Refusal
By name bytes = malformed_by name (file_fault bytes)

pub returns-in_err-assembly : goal.returns-in_err-assembly
returns-in_err-assembly c =
    let p = err_from_is_err_and c.from_residual.result c.from_residual.ensures.1 in
    let i = c.loop-i.i in
    let names = c.args.names.now in
    let files = map vec_items c.args.files.now in
    let bytes = c.as_slice.result.now in
    let here = left_at By names c.args.files.now i c.index-files-i.result bytes (omega arith) c.requires.each c.index-files-i.is
    c.as_slice.ensures.value in
    let stop = c.in_err-assembly.field-0.0 in
    let Q = λ (assemblies : Vec (List ℕ) Global). assemblies.items ≡ files in
    let front = stops_in_front (λ (assembly : List ℕ). assembly ≡ bytes) Q (By (get_or names i no_name).now bytes)
    (left By (texts names) files (i + 1)) stop c.in_err-assembly.ensures in
    rw (p.1, p.2) (subst (λ (refused : List Refusal). IsUnlessRefused refused Q (Err stop)) (sym (c.loop-i.invariant.left ∙ here)) front)

pub loop-i-preserved : goal.loop-i-preserved
loop-i-preserved c =
    let i = c.loop-i.i in
    let names = c.args.names.now in
    let all = c.args.files.now in
    let files = map vec_items all in
    let one = c.index-files-i.result in
    let bytes = c.as_slice.result.now in
    let h : i < length all = omega arith in
    let is = bytes_at By names all i one bytes h c.requires.each c.index-files-i.is c.as_slice.ensures.value in
    let here = left_at By names all i one bytes h c.requires.each c.index-files-i.is c.as_slice.ensures.value in
    record {
      made = c.in_ok-push.ensures.items
          ∙ ap (λ (before : List (List ℕ)). before ++ c.in_ok-assembly.assembly ∷ []) c.loop-i.invariant.made
          ∙ ap (λ (assembly : List ℕ). take i files ++ assembly ∷ []) (c.in_ok-assembly.ensures.1 ∙ is)
          ∙ sym (take_more files i [] (omega (arith, h, items_long all)));
      left = c.loop-i.invariant.left ∙ here
          ∙ ap (λ (front : List Refusal). front ++ left By (texts names) files (i + 1)) c.in_ok-assembly.ensures.0;
    }
