-- `json_text::code_unit` meets its contract. Assumes nothing.
use lib.ListN.{drop}
use Rattle.json_text.specs.Strings.{hex_worth}
use Rattle.json_text.specs.laws.CharAt.{Worth, worth_start, worth_on, worth_stop, worth_short, worth_end}
use borrow.Author.Rules.{rules}
use Rattle.json_text.proofs.characters.code_unit.Given as goal

abbrev pub invariant-loop-k : goal.invariant-loop-k
invariant-loop-k l = Worth (hex_worth 4 0 (drop l.at l.s)) l.s l.k l.v l.i

abbrev pub decreases-loop-k : goal.decreases-loop-k
decreases-loop-k l = l.k
