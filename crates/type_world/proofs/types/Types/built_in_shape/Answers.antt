use Rattle.std.proofs.Common.{◌≡◌, IfOk, Option, sym, subst, ◌∙◌}
use Rattle.type_world.specs.declared.place.Shape.{Shape}
use Rattle.type_world.specs.Loading.{world_of}
use Rattle.type_world.proofs.BuiltIns.{built_in_shape}
use Rattle.type_world.proofs.types.Types.built_in_shape.Goals as goal

pub returns-in-Some : goal.returns-in-Some
returns-in-Some c =
    let P : Option Shape → Type 0 = λ o. IfOk c.shape_by.result (λ shape. shape ≡ o) in
    subst P
    (built_in_shape (world_of c.args.self.now) c.args.method _ c.requires (sym c.in-Some.is ∙ c.in_ok-sig.ensures)) c.shape_by.ensures

pub returns-in-None : goal.returns-in-None
returns-in-None c =
    built_in_shape (world_of c.args.self.now) c.args.method _ c.requires (sym c.in-None.is ∙ c.in_ok-sig.ensures)
