-- `json_text::fraction_or_end` meets its contract. Assumes nothing.
use Rattle.octets.specs.laws.Pick.{branching}
use Rattle.json_text.proofs.numbers.fraction_or_end.Goals as goal

pub returns-then-b-eq46 : goal.returns-then-b-eq46
returns-then-b-eq46 c = search branching

pub exponent_or_end-requires : goal.exponent_or_end-requires
exponent_or_end-requires c = search branching

pub returns : goal.returns
returns c = search branching
