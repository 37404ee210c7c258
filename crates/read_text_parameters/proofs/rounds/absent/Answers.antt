-- `read_text_parameters::absent` meets its contract. Assumes nothing.
use Rattle.read_text_parameters.specs.laws.Rounds.{missing_start, missing_more, missing_end}
use borrow.Author.Rules.{rules}
use Rattle.read_text_parameters.proofs.rounds.absent.Goals as goal

pub loop-k-init : goal.loop-k-init
loop-k-init g c = search (missing_start, rules)

pub loop-k-preserved : goal.loop-k-preserved
loop-k-preserved g c = search (missing_more, rules)

pub returns-in_default : goal.returns-in_default
returns-in_default g c = search (missing_end, rules)

pub returns-then-not-is_between : goal.returns-then-not-is_between
returns-then-not-is_between g c = search (missing_end, rules)

pub returns : goal.returns
returns g c = search (missing_end, rules)
