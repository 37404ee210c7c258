-- `json_text::in_chars` meets its contract. Assumes nothing.
use Rattle.octets.specs.laws.Pick.{branching}
use Rattle.json_text.proofs.strings.in_chars.Goals as goal

pub behind_string-requires : goal.behind_string-requires
behind_string-requires c = search branching

pub returns-then-b-eq34 : goal.returns-then-b-eq34
returns-then-b-eq34 c = search branching

pub returns-then-b-eq92 : goal.returns-then-b-eq92
returns-then-b-eq92 c = search branching

pub returns-then-b-lt32 : goal.returns-then-b-lt32
returns-then-b-lt32 c = search branching

pub returns : goal.returns
returns c = search branching
