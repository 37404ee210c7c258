-- `read_jcal_value::is_mark` meets its contract.
use Rattle.octets.specs.Pick.{◌or◌}
use borrow.Author.Rules.{rules}
use Rattle.read_jcal_value.specs.laws.Number.{mark_point, mark_letter}
use Rattle.read_jcal_value.proofs.number.is_mark.Goals as goal

pub returns-then-point : goal.returns-then-point
unfolding ◌or◌
returns-then-point c = search (mark_point, rules)

pub returns : goal.returns
unfolding ◌or◌
returns c = search (mark_letter, rules)
