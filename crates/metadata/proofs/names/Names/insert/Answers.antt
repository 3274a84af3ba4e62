use Rattle.std.proofs.Common.{◌||◌, not, sym, ap, ◌∙◌}
use Rattle.std.specs.Str.{bytes_eq}
use Rattle.metadata.specs.Names.{is_taken}
use Rattle.metadata.proofs.Taken.{taken_in, taken_more}
use Rattle.metadata.proofs.names.Names.insert.Goals as goal

pub returns-clause-free : goal.returns-clause-free
returns-clause-free c =
    c.in_ok-insert.ensures.added
    ∙ ap not (sym (taken_in c.self.inside.set.keys c.args.name))
    ∙ ap (λ names. not (is_taken names c.args.name.now)) c.self.view_is

pub returns-clause-taken : goal.returns-clause-taken
returns-clause-taken c = λ other.
    taken_more c.self.inside.set.keys c.insert.new.self.keys c.args.name c.in_ok-insert.ensures.updates.0 other
    ∙ ap (λ names. bytes_eq c.args.name.now other || is_taken names other) c.self.view_is
