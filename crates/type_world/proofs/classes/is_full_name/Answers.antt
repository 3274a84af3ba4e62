use Rattle.type_world.proofs.FullNames.{dotted_rest, no_split, not_dotted, not_empty, split_is}
use Rattle.type_world.proofs.classes.is_full_name.Goals as goal

pub returns-in-Some : goal.returns-in-Some
returns-in-Some c =
    dotted_rest c.args.text.now c.args.namespace.now c.args.name.now c.in-Some.rest.now c.is_dotted.result
    (not_empty c.is_empty.result c.args.namespace.now c.if-is_empty.false c.is_empty.ensures)
    (split_is c.args.text.now c.args.namespace.now c.in-Some.rest.now c.in-Some.ensures.cases.0
    c.in-Some.ensures.cases.1) c.is_dotted.ensures

pub returns-in-None : goal.returns-in-None
returns-in-None c =
    not_dotted c.args.text.now c.args.namespace.now c.args.name.now
    (not_empty c.is_empty.result c.args.namespace.now c.if-is_empty.false c.is_empty.ensures)
    (no_split c.args.text.now c.args.namespace.now c.in-None.ensures.cases)
