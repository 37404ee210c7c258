-- `read_text_parameters::judge` meets its contract. Assumes nothing.
use Rattle.distinct.specs.laws.Rising.{rising_fewer}
use Rattle.read_text_parameters.specs.laws.Rounds.{passes_all, passes_none}
use borrow.Author.Rules.{rules}
use Rattle.read_text_parameters.proofs.rounds.judge.Goals as goal

pub returns-then-r-n : goal.returns-then-r-n
returns-then-r-n g c = search (passes_none, rules)

pub found_end-f-requires : goal.found_end-f-requires
found_end-f-requires g c = search (rising_fewer, rules)

pub absent-k-requires : goal.absent-k-requires
absent-k-requires g c = search (rising_fewer, rules)

pub returns : goal.returns
returns g c = search (passes_all, rules)
