-- `read_text_parameters::pass_all` meets its contract. Assumes nothing.
use Rattle.read_text_parameters.specs.laws.Rounds.{passed_start, passed_more, passed_fits, passed_all}
use borrow.Author.Rules.{rules}
use Rattle.read_text_parameters.proofs.rounds.pass_all.Goals as goal

pub loop-left-init : goal.loop-left-init
loop-left-init g c = search (passed_start, rules)

pub overflow_add-k : goal.overflow_add-k
overflow_add-k g c = search (passed_fits, rules)

pub loop-left-preserved : goal.loop-left-preserved
loop-left-preserved g c = search (passed_more, passed_fits, rules)

pub returns-else-r-left : goal.returns-else-r-left
returns-else-r-left g c = search (passed_all, rules)

pub returns : goal.returns
returns g c = search (passed_all, rules)
