use Rattle.import_cells.proofs.CoreLaws.{word_either, changes_once, stays_bound, new_was_asked, first_is_bound}
use Rattle.import_cells.proofs.laws.words_change_once.Goals as goal

pub returns-clause-either : goal.returns-clause-either
returns-clause-either c = word_either

pub returns-clause-once : goal.returns-clause-once
returns-clause-once c = changes_once

pub returns-clause-stays : goal.returns-clause-stays
returns-clause-stays c = stays_bound

pub returns-clause-first : goal.returns-clause-first
returns-clause-first c = λ plan sound es k o a d n i. first_is_bound plan sound es o a d (new_was_asked plan es a n) i
