use Rattle.std.proofs.Common.{ℕ, sym, ap, ◌∙◌}
use Rattle.std.specs.Option.{option_map}
use Rattle.type_world.specs.declared.identity.TypeId.TheVariants as types
use Rattle.type_world.specs.Loading.{world_of}
use Rattle.type_world.proofs.ByPlace.{type_high, type_low}
use Rattle.type_world.proofs.assemblies.Assemblies.type_of.Goals as goal

pub returns-then-number-lt-FIRST_CLASS : goal.returns-then-number-lt-FIRST_CLASS
returns-then-number-lt-FIRST_CLASS c =
    c.fixed_type.ensures ∙ sym (type_low (world_of c.args.self.now) c.args.number c.if-number-lt-FIRST_CLASS.true)

pub returns-in-Some : goal.returns-in-Some
returns-in-Some c =
    sym (type_high (world_of c.args.self.now) c.args.number c.if-number-lt-FIRST_CLASS.false
    ∙ ap (option_map (λ (at : ℕ × ℕ). types.Class at.0 at.1)) (sym c.row_placed.ensures.placed ∙ c.in-Some.is))

pub returns-in-None : goal.returns-in-None
returns-in-None c =
    sym (type_high (world_of c.args.self.now) c.args.number c.if-number-lt-FIRST_CLASS.false
    ∙ ap (option_map (λ (at : ℕ × ℕ). types.Class at.0 at.1)) (sym c.row_placed.ensures.placed ∙ c.in-None.is))
