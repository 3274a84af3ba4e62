use Rattle.std.proofs.Common.{ℕ, ◌<◌, List, length, get_or, sym, subst}
use Rattle.cil_decode.specs.declared.instr.Instr.{Instr}
use Rattle.cil_decode.proofs.Followed.{begins_below}
use Rattle.cil_decode.proofs.body.read_linked.Goals as goal

pub check_targets-requires : goal.check_targets-requires
check_targets-requires c =
    let code = c.args.code.now in
    let below = begins_below code 0 (length code) c.in_ok-list.list.items c.in_ok-list.ensures.code.follow in
    let P : List Instr → Type 0 = λ is. (k : ℕ) → (d : Instr) → k < length is → (get_or is k d).at < length code in
    subst P (sym c.deref.ensures.value) below
