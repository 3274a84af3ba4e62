use Rattle.std.proofs.Common.{◌≤◌, ℕ, length, sym, ap, ◌∙◌, arith}
use Rattle.std.specs.Option.{option_map}
use Rattle.type_world.specs.Loading.{world_of}
use Rattle.type_world.specs.Members.{method_id}
use Rattle.type_world.proofs.ByPlace.{method_high, method_low}
use Rattle.type_world.proofs.Names.{count_is}
use Rattle.type_world.proofs.assemblies.Assemblies.method_of.Goals as goal

pub returns-then-number-lt-BUILT_IN_METHODS : goal.returns-then-number-lt-BUILT_IN_METHODS
returns-then-number-lt-BUILT_IN_METHODS c = sym (method_low (world_of c.args.self.now) c.args.number c.if-number-lt-BUILT_IN_METHODS.true)

pub returns-in-Some : goal.returns-in-Some
returns-in-Some c =
    let count = count_is c.args.self.now in
    let few = c.row_placed.ensures.few in
    let world_few : length (world_of c.args.self.now) ≤ 64 = omega (arith, count, few) in
    sym (method_high (world_of c.args.self.now) c.args.number world_few c.if-number-lt-BUILT_IN_METHODS.false
    ∙ ap (option_map (λ (at : ℕ × ℕ). method_id at.0 at.1)) (sym c.row_placed.ensures.placed ∙ c.in-Some.is))

pub returns-in-None : goal.returns-in-None
returns-in-None c =
    let count = count_is c.args.self.now in
    let few = c.row_placed.ensures.few in
    let world_few : length (world_of c.args.self.now) ≤ 64 = omega (arith, count, few) in
    sym (method_high (world_of c.args.self.now) c.args.number world_few c.if-number-lt-BUILT_IN_METHODS.false
    ∙ ap (option_map (λ (at : ℕ × ℕ). method_id at.0 at.1)) (sym c.row_placed.ensures.placed ∙ c.in-None.is))
