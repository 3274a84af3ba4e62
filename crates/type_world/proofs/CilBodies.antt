-- The CIL of a method with the bytes of its code.
use Rattle.std.proofs.Common.{◌≡◌, ◌≤◌, ℕ, ◌+◌, ◌-◌, ◌^◌, List, length, take, drop, Option, Some, ap, ◌∙◌, arith}
use Rattle.std.proofs.lemmas.List.{length-drop, length-take}
use Rattle.std.specs.Option.{option_map}
use Rattle.cli_assembly.specs.Bodies.{MethodBody, with_code}
use Rattle.cli_assembly.specs.declared.body.Body.{Body}

pub cil_is : (bytes slice : List ℕ) (body : Body) (found : Option MethodBody) → slice ≡ bytes
    → option_map (with_code bytes) (Some body) ≡ found
    → Some (record {
      max_stack = body.max_stack;
      locals = body.locals;
      code = take (body.code.start + body.code.len - body.code.start) (drop body.code.start slice);
      more = body.more;
    }) ≡ found
unfolding with_code
cil_is bytes slice body found same e =
    let n : body.code.start + body.code.len - body.code.start ≡ body.code.len = omega arith in
    ap (λ k. Some (method_body body (take k (drop body.code.start slice)))) n
    ∙ ap (λ b. Some (method_body body (take body.code.len (drop body.code.start b)))) same ∙ e
  where
    method_body : Body → List ℕ → MethodBody
    method_body b code = record { max_stack = b.max_stack; locals = b.locals; code = code; more = b.more }

pub code_is_small : (bytes slice : List ℕ) (start n : ℕ) → slice ≡ bytes → length bytes ≤ 2 ^ 31
    → length (take n (drop start slice)) ≤ 2 ^ 31
code_is_small bytes slice start n same small =
    let taken = length-take n (drop start slice) in
    let dropped = length-drop start slice in
    let all : length slice ≡ length bytes = ap length same in
    omega (arith, taken, dropped, all, small)
