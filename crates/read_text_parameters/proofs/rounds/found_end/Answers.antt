-- `read_text_parameters::found_end` meets its contract. Assumes nothing.
use Rattle.read_text_parameters.specs.laws.Rounds.{found_start, found_more, found_fits}
use borrow.Author.Rules.{rules}
use Rattle.read_text_parameters.proofs.rounds.found_end.Goals as goal

pub loop-more-init : goal.loop-more-init
loop-more-init g c = found_start _ _

pub overflow_add-k : goal.overflow_add-k
overflow_add-k g c = search (found_fits, rules)

pub loop-more-preserved : goal.loop-more-preserved
loop-more-preserved g c = found_more c.requires c.loop-more.invariant (rw c.in-Some.is at c.held_at.ensures) c.loop-more-test.true
